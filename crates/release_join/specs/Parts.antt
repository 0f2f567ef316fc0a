-- The parts of a join as the code does them follow the machine: a chunk taken in, the chunk after taken in or not, the whole put down. One lemma for each way,
-- and what each call requires. Assumes nothing.
use Rattle.std.specs.Prelude.{◌≡◌, refl, Bool, true, false, length, get_or, set}
use Rattle.std.proofs.Math.Path.{sym, ap}
use Rattle.std.proofs.Common.{◌∙◌, subst, inl, inr, ⊎_elim, arith, get_or-set_same}
use mathlib.Core.List.{List, [], ◌∷◌, ◌++◌}
use Prim.Native.Nat.{ℕ, ◌+◌, ◌-◌, ◌*◌, ◌≤◌, ◌<◌}
use Rattle.sizes.specs.Limits.{unsorted}
use Rattle.sizes.specs.Sizes.{bin_of}
use Rattle.sizes.specs.Layout.{length_word, top_word, size_word}
use Rattle.sizes.specs.SizeWord.{p_of_word}
use Rattle.machine.specs.Lists.{cnt}
use Rattle.machine.specs.Count.{eq?, ind-same}
use Rattle.machine.specs.Heap.{Tile, tile, Heap, bin, with_tiles, end_from, top_of, top_size, size_of, next, binned, bin_has}
use Rattle.machine.specs.Writes.{Write, size, note, put, apply, Ran, heap_of, writes, does, giving, ◌>>=◌}
use Rattle.machine.specs.Primitives.{put_first, unlink, swallow, clear_p, to_top}
use Rattle.machine.specs.Release.{absorb, join_next, put_down}
use Rattle.machine.specs.View.{size_at}
use Rattle.sound.specs.Relation.{tiled, Mem, Shape, Loose, Homes}
use Rattle.sound.specs.Tiles.{zero_or, tiled-split, end-le, end-append, starts-append}
use Rattle.sound.specs.Frames.{apply-length}
use Rattle.sound.specs.Apart.{tiled-tiles}
use Rattle.sound.specs.Lists.{unlink-shape}
use Rattle.sound.specs.Edits.{snoc-end, snoc-tiles, top-mid, Kept, swallow-is, clear-is, clear_kept, to-top-is}
use Rattle.sound.specs.Flags.{flags_after}
use Rattle.sound.specs.Join.{bin-has, Joining, next-no, next-yes, down_top, down-bin}
use Rattle.sound.specs.RecordOf.{record-with_tiles, record-tiles}
use Rattle.primitives.specs.Follow.{Ok, Has, Gave, Does}
use Rattle.primitives.specs.FollowLaws.{gave-none, gave-by, gave_then, gave-giving, ok-len, ok-top}
use Rattle.primitives.specs.Places.{Home, Binned}
use Rattle.primitives.specs.Chunks.{Inside}
use Rattle.release_join.specs.Reads.{Reads, reads, all-at, reads-inside, top-free}
use Rattle.release_join.specs.States.{Taking, Open}
use Rattle.release_join.specs.Ahead.{Ahead, Nearby, after_is, size_is, next-is, beyond, ahead-nearby, next-size, clear-binned, set_free}

-- a binned chunk is in unsorted or in its size's bin
pub home_of : (h : Heap) (x z : ℕ) → Homes h → 1 ≤ binned h x → size_of h x ≡ z → Home h (bin_has h x) x z
home_of h x z o m e =
    let j : ℕ = bin_has h x in
    let i : 1 ≤ cnt x (bin h j) = bin-has h x m in
    let l : 1 ≤ j = ⊎_elim
    (λ q. absurd (omega (arith, ap (λ (k : ℕ). cnt x (bin h k)) q, ap (cnt x) o.none)))
    (λ q. q)
    (zero_or j) in
    record { here = i; low = l; which = ⊎_elim (λ q. inl q) (λ q. inr (sym (o.sorted j x (omega arith) i) ∙ ap bin_of e)) (eq? j unsorted) }

-- ---- x leaves its bin, and c takes in the chunk after it
module _ (h : Heap) (w r : List ℕ) (x zx c s : ℕ) (o : Ok h w r) (T : Taking h x zx c s) where
  pub taking-binned : Binned h x zx
  taking-binned = record { bin-no = bin_has h x; home = T.home }

  -- c has its size word, and s is no more than the arena
  taking-reads : Reads w c T.t
  taking-reads = subst (λ (c : ℕ). Reads w c T.t) (sym T.at) (reads h w r o T.a (T.u ∷ (T.z ++ tile (top_size h) 1 0 ∷ [])) T.t
      (all-at h T.a (T.t ∷ T.u ∷ T.z) T.tiles))

  pub taking-inside : (m : ℕ) → 8 * length w ≤ m → Inside m c
  taking-inside m l = reads-inside m w c T.t l taking-reads

  taken-reads : Reads w (end_from 0 (T.a ++ T.t ∷ [])) T.u
  taken-reads = reads h w r o (T.a ++ T.t ∷ []) (T.z ++ tile (top_size h) 1 0 ∷ []) T.u
      (all-at h (T.a ++ T.t ∷ []) (T.u ∷ T.z) (T.tiles ∙ sym (snoc-tiles T.a (T.u ∷ T.z) T.t)))

  pub taking-small : s ≤ 262144
  taking-small = omega (arith, taken-reads.small, snoc-end T.a T.t, T.whole)

  module _ {v q v' : List ℕ} (u : (h : Heap) (j : ℕ) → Ok h w r → Home h j x zx → Gave (Unit {0}) (unlink j x h) tt w v q) (e : v' ≡ put (size c s 1) v) where
    unlinked : Gave (Unit {0}) (unlink (bin_has h x) x h) tt w v q
    unlinked = u h (bin_has h x) o T.home

    pub absorb-gave : Gave (Unit {0}) (absorb x c h) tt w v' q
    unfolding absorb
    absorb-gave =
        let j : ℕ = bin_has h x in
        let h₁ : Heap = heap_of (unlink j x h) in
        let s₁ : Shape h₁ = unlink-shape h j x o.shape T.home.here in
        let ts : List Tile = T.a ++ tile (T.t.size + T.u.size) 1 0 ∷ T.z in
        let top : end_from 0 ts ≡ top_of h₁ = top-mid h₁ T.a (T.t ∷ T.u ∷ []) (tile (T.t.size + T.u.size) 1 0 ∷ []) T.z T.tiles (omega arith) in
        gave_then (unlink j x h) (λ g. swallow c g) tt tt unlinked
        (gave-by (ap (λ (c : ℕ). swallow c h₁) T.at ∙ swallow-is h₁ w T.a T.z T.t T.u T.tiles s₁) (record {
          says = refl;
          bytes = e ∙ ap (λ (c : ℕ). put (size c s 1) v) T.at ∙ ap (λ (s : ℕ). put (size (end_from 0 T.a) s 1) v) T.whole;
          rec = unlinked.rec ∙ sym (record-tiles h₁ ts s₁ top);
        }))

    -- s, a sum of multiples of 16, is what is then read as c's size
    pub absorb-size : size_at v' c ≡ s
    absorb-size =
        let l : length v ≡ length w = ap length unlinked.bytes ∙ apply-length (writes (unlink (bin_has h x) x h)) w in
        let i : size_word c < length v = omega (arith, taking-reads.high, taking-reads.least, taking-reads.even) in
        let k : get_or v' (size_word c) 0 ≡ s + 1 = ap (λ (v : List ℕ). get_or v (size_word c) 0) e ∙ get_or-set_same v (size_word c) (s + 1) 0 i in
        omega (arith, T.whole, taking-reads.whole, taken-reads.whole)

-- ---- with the chunk after: c is open, and of size z
module _ (h : Heap) (w r : List ℕ) (c z : ℕ) (o : Ok h w r) (O : Open h c) (ez : z ≡ size_at w c) where
  abbrev a : List Tile
  a = O.a

  abbrev t : Tile
  t = O.now.t

  gap : Joining h O.a O.now.t O.now.r O.n
  gap = O.now.gap

  whole : z ≡ O.now.t.size
  whole = ez ∙ (subst (λ (c : ℕ). Reads w c t) (sym O.at) (reads h w r o a (O.now.r ++ tile (top_size h) 1 0 ∷ []) t (all-at h a (t ∷ O.now.r) gap.tiles))).size

  abbrev A : Ahead h c z
  A = record {
    a = O.a;
    t = O.now.t;
    r = O.now.r;
    at = O.at;
    whole = whole;
    tiles = gap.tiles;
    high = subst (λ (n : ℕ). flags_after (λ x. binned h x) (end_from 0 a + t.size) (O.now.r ++ tile n 1 0 ∷ [])) (sym gap.top) gap.high;
  }

  after : end_from 0 (O.a ++ O.now.t ∷ []) ≡ c + z
  after = after_is h w r c z o A

  next-at : next h c ≡ c + z
  next-at = next-is h w r c z o A

  pub nearby : (m : ℕ) → 8 * length w ≤ m → Nearby m w r c z
  nearby = ahead-nearby h w r c z o A

  -- c's next is the top; it is not binned; it is, and c takes it in
  pub next-top-gave : c + z ≡ get_or r top_word 0 → Gave (Unit {0}) (join_next c h) tt w w r
  next-top-gave e =
      gave-by (next-no c h (ap (binned h) (next-at ∙ e ∙ ok-top h w r o) ∙ top-free h w r o)) (gave-none h tt w r o.rec)

  -- x: the size word behind the next chunk, p: its P
  module _ (y x : ℕ) (p : Bool) (ne : c + z ≡ get_or r top_word 0 → ⊥) (ey : y ≡ size_at w (c + z)) (ex : x ≡ get_or w (size_word (c + z + y)) 0) (ep : p ≡ p_of_word x) where
    pub next-alone-gave : p ≡ true → Gave (Unit {0}) (join_next c h) tt w w r
    next-alone-gave e =
        gave-by (next-no c h (ap (binned h) next-at ∙ set_free h w r c z o A y x p ne ey ex ep e))
        (gave-none h tt w r o.rec)

    pub next-taking : p ≡ false → Taking h (c + z) y c (z + y)
    next-taking e =
        let B = beyond h w r c z o A ne in
        record {
          a = a;
          t = t;
          u = B.u;
          z = B.y;
          tiles = B.tiles;
          at = O.at;
          whole = omega (arith, whole, ey, B.reads.size);
          home = home_of h (c + z) y gap.homes (clear-binned h w r c z o A y x p ne ey ex ep e) (next-size h w r c z o A y ne ey);
        }

    pub next-taken-gave : {v q : List ℕ} → p ≡ false → Does (Unit {0}) (λ h. Taking h (c + z) y c (z + y)) (absorb (c + z) c) w r tt v q
        → Gave (Unit {0}) (join_next c h) tt w v q
    next-taken-gave e D = gave-by (next-yes c (c + z) h next-at (clear-binned h w r c z o A y x p ne ey ex ep e)) (D.does h o (next-taking e))

  -- ---- the whole is put down: it touches the top
  pub down-top-gave : {v q : List ℕ} (s : ℕ) → c + z ≡ get_or r top_word 0 → s ≡ get_or r length_word 0 - c → v ≡ put (size c s 1) w → q ≡ set r top_word c
      → Gave ℕ (put_down c h) s w v q
  down-top-gave {v} {q} s et es ev eq = go O.now.r refl
    where
      top : c + z ≡ top_of h
      top = et ∙ ok-top h w r o

      len : s ≡ h.len - c
      len = es ∙ ap (λ (n : ℕ). n - c) (ok-len h w r o)

      go : (l : List Tile) → O.now.r ≡ l → Gave ℕ (put_down c h) s w v q
      go [] e =
          let x : ℕ = end_from 0 a in
          let et : h.tiles ≡ a ++ t ∷ [] = gap.tiles ∙ ap (λ (r : List Tile). a ++ t ∷ r) e in
          gave-by
          (down_top c h (next-at ∙ top) ∙ ap (λ (n : ℕ). giving n (to_top c h)) (sym len)
          ∙ ap (λ (c : ℕ). giving s (to_top c h)) O.at ∙ ap (giving s) (to-top-is h a t et o.shape))
          (record {
            says = refl;
            bytes = ev ∙ ap (λ (n : ℕ). put (size c n 1) w) len ∙ ap (λ (c : ℕ). put (size c (h.len - c) 1) w) O.at;
            rec = eq ∙ ap (set r top_word) O.at ∙ ap (λ (r : List ℕ). set r top_word x) o.rec ∙ sym (record-with_tiles h a);
          })
      go (u ∷ y) e =
          let a₁ : List Tile = a ++ t ∷ [] in
          let e₁ : h.tiles ≡ a₁ ++ u ∷ y = gap.tiles ∙ ap (λ (r : List Tile). a ++ t ∷ r) e ∙ sym (snoc-tiles a (u ∷ y) t) in
          let f : tiled a₁ × tiled (u ∷ y) = tiled-split a₁ (u ∷ y) (subst tiled e₁ (tiled-tiles h o.shape)) in
          absurd (omega (arith, top, ap (end_from 0) e₁, end-append 0 a₁ (u ∷ y), after, end-le (end_from 0 a₁ + u.size) y, f.1.1))

  -- it does not: the next P is cleared, and it goes first in unsorted
  module _ (v : List ℕ) (ne : c + z ≡ get_or r top_word 0 → ⊥) (ev : v ≡ put (note (c + z) z) (put (size (c + z) (size_at w (c + z)) 0) w)) where
    -- the heap with that P cleared
    pub record Cleared : Type 0 where
      pub heap : Heap
      pub ws : List Write
      pub is : clear_p (c + z) z h ≡ does heap ws
      pub bytes : v ≡ apply ws w
      pub ok : Ok heap v r
      pub loose : Loose heap c

    pub cleared : Cleared
    cleared =
        let B = beyond h w r c z o A ne in
        let u : Tile = B.u in
        let y : List Tile = B.y in
        let a₁ : List Tile = a ++ t ∷ [] in
        let x : ℕ = end_from 0 a₁ in
        let U : Tile = tile u.size 0 z in
        let ts : List Tile = a₁ ++ U ∷ y in
        let h₁ : Heap = with_tiles ts h in
        let s = o.shape in
        let e₁ : h.tiles ≡ a₁ ++ u ∷ y = B.tiles ∙ sym (snoc-tiles a (u ∷ y) t) in
        let ws : List Write = size x u.size 0 ∷ note x z ∷ [] in
        let K : Kept h ts w ws = clear_kept h w a₁ y u e₁ s z o.mem in
        let q : v ≡ apply ws w =
        ev ∙ ap (λ (n : ℕ). put (note (c + z) z) (put (size (c + z) n 0) w)) B.reads.size
        ∙ ap (λ (x : ℕ). put (note x z) (put (size x u.size 0) w)) (sym after) in
        let top : end_from 0 ts ≡ top_of h = top-mid h a₁ (u ∷ []) (U ∷ []) y e₁ refl in
        let lo : Loose h₁ (end_from 0 a) = omega (
          arith,
          gap.loose,
          starts-append 0 a₁ (U ∷ y) (end_from 0 a),
          starts-append 0 a (t ∷ [])
              (end_from 0 a),
          ind-same (end_from 0 a),
        ) in
        record {
          heap = h₁;
          ws = ws;
          is = ap (λ (x : ℕ). clear_p x z h) (sym after) ∙ clear-is h w a₁ y u e₁ s z;
          bytes = q;
          ok = record { shape = K.shape; mem = subst (Mem h₁) (sym q) K.mem; rec = o.rec ∙ sym (record-tiles h ts s top) };
          loose = subst (Loose h₁) (sym O.at) lo;
        }

    pub down-has : Has (λ h. Loose h c) v r
    down-has = record { heap = cleared.heap; ok = cleared.ok; holds = cleared.loose }

    pub down-bin-gave : {v' q : List ℕ} → Does (Unit {0}) (λ h. Loose h c) (put_first unsorted c) v r tt v' q → Gave ℕ (put_down c h) z w v' q
    down-bin-gave D =
        let C = cleared in
        let r₁ : Ran (Unit {0}) = does C.heap C.ws in
        gave-by (down-bin c (c + z) z h r₁ (λ e. ne (sym next-at ∙ e ∙ sym (ok-top h w r o))) next-at (size_is h w r c z o A) C.is)
        (gave-giving (r₁ >>= (λ g. put_first unsorted c g)) tt z
        (gave_then r₁ (λ g. put_first unsorted c g) tt tt (record { says = refl; bytes = C.bytes; rec = C.ok.rec }) (D.does C.heap C.ok C.loose)))
