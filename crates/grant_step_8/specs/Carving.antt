-- `split`, `carve` and `step8`, as the code does them, follow the machine. A split's middle is named (Cut): the chunk is cut and the rest's size noted, and the
-- rest is not yet in unsorted. Assumes nothing.
use Rattle.std.specs.Prelude.{◌≡◌, refl, Bool, List, [], ◌∷◌, ◌++◌, ◌⊎◌, ℕ, ◌+◌, ◌-◌, ◌%◌, ◌≤◌, ◌<◌, length, set, Option, Some}
use Rattle.std.proofs.Common.{sym, ap, ◌∙◌, subst, append_assoc, inl, inr, ⊎_elim, arith}
use Rattle.std.proofs.Math.Bool.{true, false}
use Rattle.std.proofs.Math.Dec.{ltb}
use borrow.Author.Tests.{lt-ltb, le-ltb}
use Rattle.le.specs.Arena.{arena_words}
use Rattle.sizes.specs.Limits.{least_chunk, unsorted}
use Rattle.sizes.specs.Layout.{remainder_word}
use Rattle.sizes.specs.Sizes.{bin_of}
use Rattle.machine.specs.Lists.{cnt}
use Rattle.machine.specs.Count.{ind-same, ind-other, cnt-le-all}
use Rattle.machine.specs.Heap.{Tile, tile, Heap, bin, with_tiles, end_from, starts_from, top_of, starts, size_of, total}
use Rattle.machine.specs.Writes.{Write, size, note, put, apply, heap_of, does, more, ◌>>=◌}
use Rattle.machine.specs.Primitives.{put_first, unlink, set_p, set_note, set_remainder}
use Rattle.machine.specs.Grant.{split, carve, step8}
use Rattle.machine.specs.View.{size_at}
use Rattle.sound.specs.Relation.{tiled, Mem, Shape, Loose, Good}
use Rattle.sound.specs.Tiles.{tiled-split, end-append, starts-append, starts-once, none_out, Place, place, zero_or, lt-or-le}
use Rattle.sound.specs.Frames.{starts-all}
use Rattle.sound.specs.Apart.{size-at, tiled-tiles}
use Rattle.sound.specs.Lists.{unlink-shape, unlink-loose, unlink-mem}
use Rattle.sound.specs.Edits.{Kept, note-is, note-kept, cut-is, cut-kept, size-place, size-16}
use Rattle.sound.specs.Carve.{take-out, split-is}
use Rattle.sound.specs.RecordOf.{record-with_remainder, record-tiles}
use Rattle.primitives.specs.Follow.{Ok, Has, Gave, Does}
use Rattle.primitives.specs.FollowLaws.{gave-by, gave_then, gave-more, gave-giving, gave-ok}
use Rattle.primitives.specs.Places.{InBin, Home, home-in}
use Rattle.primitives.specs.Chunks.{in_bytes, start-chunk, loose-chunk}
use Rattle.primitives.specs.Sizes.{chunk-says, set-p-gave}
use Rattle.grant_step_8.specs.Taken.{Taken, Fit}

-- ---- the tiles around a chunk that is out of its bin
pub record Around (h : Heap) (c z : ℕ) : Type 0 where
  pub a : List Tile
  pub t : Tile
  pub u : Tile
  pub s : List Tile
  pub tiles : h.tiles ≡ a ++ t ∷ u ∷ s
  pub at : c ≡ end_from 0 a
  pub whole : z ≡ t.size

around : (h : Heap) (c z : ℕ) → Shape h → Taken h c z → Around h c z
around h c z s T = go P.z P.tiles
  where
    P : Place h.tiles 0 c
    P = place h.tiles 0 c (omega (arith, T.loose))

    e : z ≡ P.t.size
    e = sym T.size ∙ (size-place h c s P).0

    go : (l : List Tile) → h.tiles ≡ P.a ++ P.t ∷ l → Around h c z
    go (u ∷ l) q = record { a = P.a; t = P.t; u = u; s = l; tiles = q; at = P.at; whole = e }
    go [] q =
        let f : tiled P.a × tiled (P.t ∷ []) = tiled-split P.a (P.t ∷ []) (subst tiled q (tiled-tiles h s)) in
        absurd (omega (
          arith,
          T.next,
          ap (λ (l : List Tile). cnt (c + z) (starts_from 0 l)) q,
          starts-append 0 P.a (P.t ∷ []) (c + z),
          none_out P.a 0 (c + z) f.0 (inr (omega (arith, P.at))),
          ind-other (c + z) (end_from 0 P.a) (λ i. omega (arith, i, P.at, e, f.1.1)),
        ))

-- where it lies among the arena's n bytes
pub record Room (n c z : ℕ) : Type 0 where
  pub even : c % 16 ≡ 0
  pub round : z % 16 ≡ 0
  pub high : c + z + 32 ≤ n
  pub small : c + z + 32 ≤ 262144

pub room : (h : Heap) (a r : List ℕ) (c z : ℕ) → Ok h (arena_words a) r → Taken h c z → Room (length a) c z
room h a r c z o T =
    let s = o.shape in
    let i = in_bytes a c (loose-chunk h (arena_words a) s o.mem c T.loose) in
    let n = in_bytes a (c + z) (start-chunk h (arena_words a) s o.mem (c + z) (omega (arith, T.next, starts-all h (c + z)))) in
    record { even = i.even; round = omega (arith, T.size, size-16 h c s (omega (arith, T.loose))); high = n.high; small = n.small }

-- ---- a split: c is cut at b, and the rest's size is noted behind it
pub record Cut (h : Heap) (w r : List ℕ) (c z b : ℕ) : Type 0 where
  pub heap : Heap
  pub is : split c b h ≡ more (size c b 1 ∷ size (c + b) (z - b) 1 ∷ []) (more (note (c + z) (z - b) ∷ []) (put_first unsorted (c + b) heap))
  pub ok : Ok heap (put (note (c + z) (z - b)) (put (size (c + b) (z - b) 1) (put (size c b 1) w))) r
  pub loose : Loose heap (c + b)

cut_at : (h : Heap) (w r : List ℕ) (a l : List Tile) (t u : Tile) (b : ℕ) → Ok h w r → h.tiles ≡ a ++ t ∷ u ∷ l → total (end_from 0 a) h ≡ 0
    → b % 16 ≡ 0 → 32 ≤ b → b + 32 ≤ t.size → Cut h w r (end_from 0 a) t.size b
cut_at h w r a l t u b o e lo b16 b32 bt =
    let s = o.shape in
    let c : ℕ = end_from 0 a in
    let z : ℕ = t.size - b in
    let A₁ : Tile = tile b 1 0 in
    let B₁ : Tile = tile z 1 0 in
    let f : tiled a × tiled (t ∷ u ∷ l) = tiled-split a (t ∷ u ∷ l) (subst tiled e (tiled-tiles h s)) in
    let sz : size_of h c ≡ t.size = size-at h a (u ∷ l) t e f.0 in
    let ts₁ : List Tile = a ++ A₁ ∷ B₁ ∷ u ∷ l in
    let h₁ : Heap = with_tiles ts₁ h in
    let ws : List Write = size c b 1 ∷ size (c + b) z 1 ∷ [] in
    let K₁ : Kept h ts₁ w ws = cut-kept h w a (u ∷ l) t e s b b16 b32 bt o.mem lo in
    let a₂ : List Tile = a ++ A₁ ∷ B₁ ∷ [] in
    let e₂ : ts₁ ≡ a₂ ++ u ∷ l = sym (append_assoc a (A₁ ∷ B₁ ∷ []) (u ∷ l)) in
    let x : ℕ = end_from 0 a₂ in
    let ez : c + b + z ≡ c + t.size = omega arith in
    let ex : x ≡ c + t.size = end-append 0 a (A₁ ∷ B₁ ∷ []) ∙ ez in
    let U : Tile = tile u.size u.p z in
    let ts₂ : List Tile = a₂ ++ U ∷ l in
    let h₂ : Heap = with_tiles ts₂ h in
    let v : List ℕ = apply ws w in
    let K₂ : Kept h₁ ts₂ v (note x z ∷ []) = note-kept h₁ v a₂ l u e₂ K₁.shape z K₁.mem in
    let te : end_from 0 ts₂ ≡ top_of h =
    end-append 0 a₂ (U ∷ l) ∙ ap (λ (y : ℕ). end_from (y + u.size) l) ex ∙ sym (ap (end_from 0) e ∙ end-append 0 a (t ∷ u ∷ l)) in
    let none : total (c + b) h ≡ 0 =
    omega (
      arith,
      s.own (c + b),
      ap (λ (l : List Tile). cnt (c + b) (starts_from 0 l)) e,
      starts-append 0 a (t ∷ u ∷ l) (c + b),
      none_out a 0 (c + b) f.0 (inr (omega arith)),
      ind-other (c + b) c (λ q. omega arith),
      none_out (u ∷ l) (c + t.size) (c + b) f.1.3 (inl (omega arith)),
    ) in
    record {
      heap = h₂;
      is = split-is c b (c + t.size) z h h₁ h₂ ws (note (c + t.size) z ∷ []) (ap (λ (y : ℕ). c + y) sz) (ap (λ (y : ℕ). y - b) sz) (cut-is h w a (u ∷ l) t e s b)
          (ap (λ (y : ℕ). set_note y z h₁) (sym ex) ∙ note-is h₁ v a₂ l u e₂ K₁.shape z ∙ ap (λ (y : ℕ). does h₂ (note y z ∷ [])) ex);
      ok = record {
        shape = K₂.shape;
        mem = subst (λ (y : ℕ). Mem h₂ (put (note y z) v)) ex K₂.mem;
        rec = o.rec ∙ sym (record-tiles h ts₂ s te);
      };
      loose = omega (arith, none, starts-append 0 a₂ (U ∷ l) (c + b), starts-append 0 a (A₁ ∷ B₁ ∷ []) (c + b), ind-same (c + b));
    }

pub cut : (h : Heap) (w r : List ℕ) (c z b : ℕ) → Ok h w r → Taken h c z → b % 16 ≡ 0 → 32 ≤ b → b + 32 ≤ z → Cut h w r c z b
cut h w r c z b o T b16 b32 bz =
    let A = around h c z o.shape T in
    let lo : total c h ≡ 0 = omega (arith, T.loose, starts-once h.tiles 0 c (tiled-tiles h o.shape)) in
    subst (λ (c : ℕ). Cut h w r c z b) (sym A.at) (subst (λ (z : ℕ). Cut h w r (end_from 0 A.a) z b) (sym A.whole)
    (cut_at h w r A.a A.s A.t A.u b o A.tiles (subst (λ (x : ℕ). total x h ≡ 0) A.at lo) b16 b32 (omega (arith, A.whole))))

-- ---- split
module _ (h : Heap) (w r : List ℕ) (c z b : ℕ) (o : Ok h w r) (T : Taken h c z) (b16 : b % 16 ≡ 0) (b32 : 32 ≤ b) (bz : b + 32 ≤ z) where
  pub cut_has : (w₁ w₂ w₃ : List ℕ) → w₁ ≡ put (size c b 1) w → w₂ ≡ put (size (c + b) (z - b) 1) w₁ → w₃ ≡ put (note (c + z) (z - b)) w₂ → Has (λ g. Loose g (c + b)) w₃ r
  cut_has w₁ w₂ w₃ e₁ e₂ e₃ =
      let K = cut h w r c z b o T b16 b32 bz in
      let e : w₃ ≡ put (note (c + z) (z - b)) (put (size (c + b) (z - b) 1) (put (size c b 1) w)) = cc in
      record { heap = K.heap; ok = subst (λ (v : List ℕ). Ok K.heap v r) (sym e) K.ok; holds = K.loose }

  pub split-gave : (w₁ w₂ w₃ v q : List ℕ) → w₁ ≡ put (size c b 1) w → w₂ ≡ put (size (c + b) (z - b) 1) w₁ → w₃ ≡ put (note (c + z) (z - b)) w₂
      → Does (Unit {0}) (λ g. Loose g (c + b)) (put_first unsorted (c + b)) w₃ r tt v q → Gave (Unit {0}) (split c b h) tt w v q
  split-gave w₁ w₂ w₃ v q e₁ e₂ e₃ d =
      let K = cut h w r c z b o T b16 b32 bz in
      let e : w₃ ≡ put (note (c + z) (z - b)) (put (size (c + b) (z - b) 1) (put (size c b 1) w)) = cc in
      let p = put_first unsorted (c + b) K.heap in
      let vs : List Write = note (c + z) (z - b) ∷ [] in
      let ws : List Write = size c b 1 ∷ size (c + b) (z - b) 1 ∷ [] in
      gave-by K.is (gave-more ws (more vs p) tt refl (gave-more vs p tt refl
      (subst (λ (u : List ℕ). Gave (Unit {0}) p tt u v q) e (d.does K.heap (subst (λ (u : List ℕ). Ok K.heap u r) (sym e) K.ok) K.loose))))

-- ---- carve, by its tests
module _ (h : Heap) (c z b : ℕ) (new? : Bool) (e : size_of h c ≡ z) where
  carve_whole : z - b < 32 → carve c b new? h ≡ set_p (c + z) h
  unfolding carve
  carve_whole l = let t : ltb (size_of h c - b) least_chunk ≡ true = lt-ltb (size_of h c - b) least_chunk (omega arith) in
      rw (t, carve) (ap (λ (y : ℕ). set_p (c + y) h) e)

  carve-cut : 32 ≤ z - b → carve c b new? h ≡ elim new? [ true ↦ split c b h >>= (λ g. set_remainder (c + b) g) | false ↦ split c b h ]
  unfolding carve
  carve-cut l = let t : ltb (size_of h c - b) least_chunk ≡ false = le-ltb (size_of h c - b) least_chunk (omega arith) in
      rw (t, carve)

-- the next P is set; c is all given
pub whole-gave : (h : Heap) (w r : List ℕ) (c z b : ℕ) (new? : Bool) → Ok h w r → Taken h c z → z - b < 32 → (v : List ℕ) → v ≡ put (size (c + z) (size_at w (c + z)) 1) w
    → Gave (Unit {0}) (carve c b new? h) tt w v r
whole-gave h w r c z b new? o T l v e = gave-by (carve_whole h c z b new? T.size l) (set-p-gave h w r o (c + z) T.next v e)

-- the split alone; the rest becomes last remainder
pub plain-gave : (h : Heap) (w : List ℕ) (c z b : ℕ) (new? : Bool) (v q : List ℕ) → Taken h c z → 32 ≤ z - b → new? ≡ false
    → Gave (Unit {0}) (split c b h) tt w v q → Gave (Unit {0}) (carve c b new? h) tt w v q
plain-gave h w c z b new? v q T l n m =
    gave-by (carve-cut h c z b new? T.size l ∙ ap (λ (t : Bool). elim t [ true ↦ split c b h >>= (λ g. set_remainder (c + b) g) | false ↦ split c b h ]) n) m

pub new-gave : (h : Heap) (w : List ℕ) (c z b : ℕ) (new? : Bool) (v q q' : List ℕ) → Taken h c z → 32 ≤ z - b → new? ≡ true
    → Gave (Unit {0}) (split c b h) tt w v q → q' ≡ set q remainder_word (c + b) → Gave (Unit {0}) (carve c b new? h) tt w v q'
new-gave h w c z b new? v q q' T l n m e =
    gave-by (carve-cut h c z b new? T.size l ∙ ap (λ (t : Bool). elim t [ true ↦ split c b h >>= (λ g. set_remainder (c + b) g) | false ↦ split c b h ]) n)
    (gave_then (split c b h) (λ g. set_remainder (c + b) g) tt tt m (record {
      says = refl;
      bytes = refl;
      rec = e ∙ ap (λ (r : List ℕ). set r remainder_word (c + b)) m.rec ∙ sym (record-with_remainder (heap_of (split c b h)) (c + b));
    }))

pub next_start : (h : Heap) (a l : List Tile) (t u : Tile) → h.tiles ≡ a ++ t ∷ u ∷ l → 1 ≤ cnt (end_from 0 a + t.size) (starts h)
next_start h a l t u e =
    let n : ℕ = end_from 0 a + t.size in
    omega (arith, ap (λ (k : List Tile). cnt n (starts_from 0 k)) e, starts-append 0 a (t ∷ u ∷ l) n, ind-same n)

-- ---- step 8: a chunk that has left its bin is taken
pub unlinked : (h : Heap) (j c : ℕ) → Good h → 1 ≤ cnt c (bin h j) → Taken (heap_of (unlink j c h)) c (size_of h c)
unlinked h j c g mc =
    let s = g.shape in
    let P : Place h.tiles 0 c = place h.tiles 0 c (omega (arith, s.own c, cnt-le-all c h.bins j)) in
    let O = take-out h P.a P.t P.z j P.tiles g (subst (λ (c : ℕ). 1 ≤ cnt c (bin h j)) P.at mc) in
    let e : c + size_of h c ≡ end_from 0 P.a + P.t.size = omega (arith, P.at, (size-place h c s P).0) in
    record {
      loose = unlink-loose h j c s mc;
      size = refl;
      next = subst (λ (n : ℕ). 1 ≤ cnt n (starts h)) (sym e)
          (next_start h P.a O.z P.t O.u O.out.tiles);
    }

-- a bin of a sound heap that has c is unsorted or its size's
pub home : (h : Heap) (j c : ℕ) → Good h → 1 ≤ cnt c (bin h j) → Home h j c (size_of h c)
home h j c g mc = record { here = mc; low = one j mc; which = which j mc }
  where
    one : (j : ℕ) → 1 ≤ cnt c (bin h j) → 1 ≤ j
    one j m = ⊎_elim (λ e. absurd (omega (arith, m, ap (λ (i : ℕ). cnt c (bin h i)) e, ap (cnt c) g.homes.none))) (λ l. l) (zero_or j)

    which : (j : ℕ) → 1 ≤ cnt c (bin h j) → (j ≡ unsorted) ⊎ (j ≡ bin_of (size_of h c))
    which j m = ⊎_elim (λ l. inl (omega (arith, one j m, l))) (λ l. inr (sym (g.homes.sorted j c l m))) (lt-or-le j 2)

pub fit-in : (h : Heap) (j c b : ℕ) → Good h → Fit h j c b → InBin h j c
fit-in h j c b g F = home-in h j c (size_of h c) (home h j c g F.here)

module _ (h : Heap) (w r : List ℕ) (j c z b : ℕ) (o : Ok h w r) (g : Good h) (F : Fit h j c b) (e : z ≡ size_at w c) where
  pub size-fit : z ≡ size_of h c
  size-fit = e ∙ (chunk-says h o.shape w o.mem c (omega (arith, o.shape.own c, F.here, cnt-le-all c h.bins j))).size

  module _ (v q : List ℕ) (d : Does (Unit {0}) (λ h. InBin h j c) (unlink j c) w r tt v q) where
    m : Gave (Unit {0}) (unlink j c h) tt w v q
    m = d.does h o (fit-in h j c b g F)

    unlinked-ok : Ok (heap_of (unlink j c h)) v q
    unlinked-ok = gave-ok (unlink j c h) tt (unlink-shape h j c o.shape F.here) (unlink-mem h w j c o.shape o.mem F.here) m

    unlinked-taken : Taken (heap_of (unlink j c h)) c z
    unlinked-taken = subst (λ (z : ℕ). Taken (heap_of (unlink j c h)) c z) (sym size-fit) (unlinked h j c g F.here)

    pub unlinked-has : Has (λ g. Taken g c z) v q
    unlinked-has = record { heap = heap_of (unlink j c h); ok = unlinked-ok; holds = unlinked-taken }

    pub step8-gave : (new? : Bool) (v' q' : List ℕ) → Does (Unit {0}) (λ g. Taken g c z) (carve c b new?) v q tt v' q' → Gave (Option ℕ) (step8 j c b new? h) (Some c) w v' q'
    unfolding step8
    step8-gave new? v' q' k =
        gave-giving (unlink j c h >>= (λ g. carve c b new? g)) tt (Some c) (gave_then (unlink j c h) (λ g. carve c b new? g) tt tt m (k.does (heap_of (unlink j c h)) unlinked-ok unlinked-taken))
