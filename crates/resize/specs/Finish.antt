-- A block that keeps its place, as the code finishes it, follows the machine: the next P is set, and a rest is cut off and released. One lemma for each way, and
-- what each call requires. Assumes nothing.
use Rattle.std.specs.Prelude.{◌≡◌, refl, Bool, true, false, ℕ, ◌+◌, ◌-◌, ◌*◌, ◌%◌, ◌≤◌, ◌<◌, length, get_or}
use Rattle.std.proofs.Math.Path.{sym, subst}
use Rattle.std.proofs.Common.{ap, ◌∙◌, arith, eq-eqb, ne_eqb, lt-ltb, le-ltb, eqb-true}
use mathlib.Core.List.{List, [], ◌∷◌, ◌++◌}
use Rattle.std.proofs.lemmas.Bool.{eqb-false}
use Rattle.sizes.specs.Limits.{least_chunk}
use Rattle.sizes.specs.Layout.{top_word, size_word}
use Rattle.sizes.specs.SizeWord.{bit, p_of_word}
use Rattle.machine.specs.Lists.{cnt}
use Rattle.machine.specs.Heap.{Tile, tile, Heap, with_tiles, end_from, top_of, starts, size_of, next, total}
use Rattle.machine.specs.Writes.{Write, size, put, apply, Ran, heap_of, does, giving, ◌>>=◌}
use Rattle.machine.specs.Primitives.{set_p, trim_at}
use Rattle.machine.specs.Release.{release}
use Rattle.machine.specs.Resize.{next_p, finish}
use Rattle.machine.specs.View.{size_at}
use Rattle.sound.specs.Relation.{Mem, Loose, Good}
use Rattle.sound.specs.Tiles.{start, starts-once, Place, place}
use Rattle.sound.specs.Apart.{tiled-tiles}
use Rattle.sound.specs.Edits.{snoc-end, top-mid, Kept, trim-is, trim-kept, size-place}
use Rattle.sound.specs.RecordOf.{record-tiles}
use Rattle.sound.specs.Moves.{nil, any, moved_keeps}
use Rattle.sound.specs.Leaves.{Leaves}
use Rattle.sound.specs.Finish.{held-good, held-loose, next_p-leaves, trim-held}
use Rattle.primitives.specs.Follow.{Ok, Has, Gave, Does}
use Rattle.primitives.specs.FollowLaws.{gave-none, gave-by, gave_then, gave-ok, ok-top}
use Rattle.primitives.specs.Sizes.{set-p-gave}
use Rattle.release_join.specs.Ahead.{Ahead, Nearby, here, after_is, size_is, next-is, beyond, ahead-nearby}
use Rattle.grant_step_8.specs.Carving.{next_start}
use Rattle.resize.specs.States.{Live, Stands}

-- ---- P as the code has it
pub bit_is : (x : ℕ) → bit (p_of_word x) ≡ x % 2
bit_is x = go (p_of_word x) refl
  where
    go : (p : Bool) → p_of_word x ≡ p → bit p ≡ x % 2
    go true e = sym (eqb-true (x % 2) 1 e)
    go false e = omega (arith, eqb-false (x % 2) 1 e)

-- ---- a live block stands
pub live-stands : (h : Heap) (c z : ℕ) → Live h c z → Stands h c z
live-stands h c z L =
    let g = L.good in
    let P : Place h.tiles 0 c = place h.tiles 0 c (omega (arith, L.loose)) in
    let lo : total (end_from 0 P.a) h ≡ 0 = omega (arith, L.loose, starts-once h.tiles 0 c (tiled-tiles h g.shape), ap (λ (x : ℕ). total x h) P.at) in
    record {
      a = P.a;
      t = P.t;
      r = P.z;
      at = P.at;
      whole = sym L.whole ∙ (size-place h c g.shape P).0;
      held = held-good h P.a P.t P.z g P.tiles lo;
    }

abbrev pub ahead : (h : Heap) (c z : ℕ) → Stands h c z → Ahead h c z
ahead h c z S = record { a = S.a; t = S.t; r = S.r; at = S.at; whole = S.whole; tiles = S.held.tiles; high = S.held.high }

-- a chunk is not the top
pub start-not-top : (h : Heap) (w r : List ℕ) (x : ℕ) → Ok h w r → 1 ≤ cnt x (starts h) → x ≡ get_or r top_word 0 → ⊥
start-not-top h w r x o i e = omega (arith, (start h.tiles 0 x (tiled-tiles h o.shape) i).high, ok-top h w r o)

-- ---- the next P
module _ (h : Heap) (w r : List ℕ) (c z : ℕ) (o : Ok h w r) (S : Stands h c z) where
  abbrev A : Ahead h c z
  A = ahead h c z S

  pub stands-nearby : (m : ℕ) → 8 * length w ≤ m → Nearby m w r c z
  stands-nearby = ahead-nearby h w r c z o A

  pub stands-small : c + z ≤ 262144
  stands-small = omega (arith, (here h w r c z o A).small, S.whole)

  pub next-p-top-gave : c + z ≡ get_or r top_word 0 → Gave (Unit {0}) (next_p c h) tt w w r
  unfolding next_p
  next-p-top-gave e =
      let q : next_p c h ≡ does h [] = rw (eq-eqb (next h c) (top_of h) (next-is h w r c z o A ∙ e ∙ ok-top h w r o), next_p) in
      gave-by q (gave-none h tt w r o.rec)

  pub next-p-set-gave : {v : List ℕ} → (c + z ≡ get_or r top_word 0 → ⊥) → v ≡ put (size (c + z) (size_at w (c + z)) 1) w → Gave (Unit {0}) (next_p c h) tt w v r
  unfolding next_p
  next-p-set-gave {v} ne e =
      let B = beyond h w r c z o A ne in
      let n = next-is h w r c z o A in
      let i : 1 ≤ cnt (c + z) (starts h) =
      subst (λ (x : ℕ). 1 ≤ cnt x (starts h)) (sym (snoc-end S.a S.t) ∙ after_is h w r c z o A) (next_start h S.a B.y S.t B.u B.tiles) in
      let q : next_p c h ≡ set_p (c + z) h =
      rw (ne_eqb (next h c) (top_of h) (λ q. ne (sym n ∙ q ∙ sym (ok-top h w r o))), next_p) (ap (λ (x : ℕ). set_p x h) n) in
      gave-by q (set-p-gave h w r o (c + z) i v e)

  next-p-leaves : Leaves h w (next_p c h) (λ b g. Good g) (any nil) nil
  next-p-leaves = subst (λ (c : ℕ). Leaves h w (next_p c h) (λ b g. Good g) (any nil) nil) (sym S.at) (next_p-leaves h w S.a S.t S.r S.held o.mem)

  -- it leaves a sound heap, in which c is loose
  module _ {v q : List ℕ} (m : Gave (Unit {0}) (next_p c h) tt w v q) where
    next-p-ok : Ok (heap_of (next_p c h)) v q
    next-p-ok = gave-ok (next_p c h) tt next-p-leaves.now.shape next-p-leaves.mem m

    next-p-loose : Good (heap_of (next_p c h)) × Loose (heap_of (next_p c h)) c
    next-p-loose = (
      next-p-leaves.now,
      moved_keeps next-p-leaves.moved c (subst (Loose h) (sym S.at) (held-loose h S.a S.t S.r S.held)) refl,
    )

    pub next-p-has : Has (λ g. Good g × Loose g c) v q
    next-p-has = record { heap = heap_of (next_p c h); ok = next-p-ok; holds = next-p-loose }

    next-p-then : {A : Type 0} (f : Heap → Ran A) (a : A) {v' q' : List ℕ} → Does A (λ g. Good g × Loose g c) f v q a v' q' → Gave A (next_p c h >>= f) a w v' q'
    next-p-then f a D = gave_then (next_p c h) f tt a m (D.does (heap_of (next_p c h)) next-p-ok next-p-loose)

-- ---- finish, by its test
module _ (h : Heap) (w r : List ℕ) (c z b : ℕ) (o : Ok h w r) (S : Stands h c z) where
  pub finish-whole-gave : {v q : List ℕ} → z - b < 32 → Gave (Unit {0}) (next_p c h) tt w v q → Gave (Unit {0}) (finish c b h) tt w v q
  unfolding finish
  finish-whole-gave l m =
      let q : finish c b h ≡ next_p c h = rw (lt-ltb (size_of h c - b) least_chunk (omega (arith, size_is h w r c z o (ahead h c z S))), finish) in
      gave-by q m

  abbrev rest : Heap → Ran (Unit {0})
  rest g = next_p (c + b) g >>= (λ g. giving tt (release (c + b) g))

  finish-cut : 32 ≤ z - b → finish c b h ≡ (trim_at c b h >>= (λ g. rest g))
  unfolding finish
  finish-cut l = rw (le-ltb (size_of h c - b) least_chunk (omega (arith, size_is h w r c z o (ahead h c z S))), finish)

  -- c is cut at b
  module _ (b16 : b % 16 ≡ 0) (b32 : 32 ≤ b) (l : b + 32 ≤ z) {v : List ℕ} (e : v ≡ put (size (c + b) (z - b) 1) (put (size c b (get_or w (size_word c) 0 % 2)) w)) where
    abbrev a : List Tile
    a = S.a

    abbrev t : Tile
    t = S.t

    abbrev ts : List Tile
    ts = S.a ++ tile b S.t.p S.t.prev ∷ tile (S.t.size - b) 1 0 ∷ S.r

    abbrev ws : List Write
    ws = size (end_from 0 S.a) b S.t.p ∷ size (end_from 0 S.a + b) (S.t.size - b) 1 ∷ []

    room : b + 32 ≤ S.t.size
    room = omega (arith, S.whole)

    kept : Kept h ts w ws
    kept = trim-kept h w a S.r t S.held.tiles o.shape b b16 b32 room o.mem S.held.loose

    trim-bytes : v ≡ apply ws w
    trim-bytes =
        e ∙ ap (λ (p : ℕ). put (size (c + b) (z - b) 1) (put (size c b p) w)) (here h w r c z o (ahead h c z S)).p
        ∙ ap (λ (n : ℕ). put (size (c + b) (n - b) 1) (put (size c b t.p) w)) S.whole
        ∙ ap (λ (c : ℕ). put (size (c + b) (t.size - b) 1) (put (size c b t.p) w)) S.at

    trim_same : trim_at c b h ≡ does (with_tiles ts h) ws
    trim_same = ap (λ (c : ℕ). trim_at c b h) S.at ∙ trim-is h w a S.r t S.held.tiles o.shape b

    trim-ok : Ok (with_tiles ts h) v r
    trim-ok =
        let U : List Tile = tile b t.p t.prev ∷ tile (t.size - b) 1 0 ∷ [] in
        let top : end_from 0 ts ≡ top_of h = top-mid h a (t ∷ []) U S.r S.held.tiles (omega (arith, room)) in
        record { shape = kept.shape; mem = subst (Mem (with_tiles ts h)) (sym trim-bytes) kept.mem; rec = o.rec ∙ sym (record-tiles h ts o.shape top) }

    trim-stands : Stands (with_tiles ts h) (c + b) (z - b)
    trim-stands = record {
      a = a ++ tile b t.p t.prev ∷ [];
      t = tile (t.size - b) 1 0;
      r = S.r;
      at = ap (λ (c : ℕ). c + b) S.at ∙ sym (snoc-end a (tile b t.p t.prev));
      whole = ap (λ (n : ℕ). n - b) S.whole;
      held = trim-held h w a t S.r S.held o.mem b b16 b32 room;
    }

    pub trim-has : Has (λ g. Stands g (c + b) (z - b)) v r
    trim-has = record { heap = with_tiles ts h; ok = trim-ok; holds = trim-stands }

    module _ {v₁ q₁ : List ℕ} (N : Does (Unit {0}) (λ g. Stands g (c + b) (z - b)) (next_p (c + b)) v r tt v₁ q₁) where
      rest-next : Gave (Unit {0}) (next_p (c + b) (with_tiles ts h)) tt v v₁ q₁
      rest-next = N.does (with_tiles ts h) trim-ok trim-stands

      pub rest_has : Has (λ g. Good g × Loose g (c + b)) v₁ q₁
      rest_has = next-p-has (with_tiles ts h) v r (c + b) (z - b) trim-ok trim-stands rest-next

      pub finish-cut-gave : {v₂ q₂ : List ℕ} → Does (Unit {0}) (λ g. Good g × Loose g (c + b)) (λ g. giving tt (release (c + b) g)) v₁ q₁ tt v₂ q₂
          → Gave (Unit {0}) (finish c b h) tt w v₂ q₂
      finish-cut-gave D =
          gave-by (finish-cut (omega arith) ∙ ap (λ (x : Ran (Unit {0})). x >>= (λ g. rest g)) trim_same)
          (gave_then (does (with_tiles ts h) ws) (λ g. rest g) tt tt (record { says = refl; bytes = trim-bytes; rec = trim-ok.rec })
          (next-p-then (with_tiles ts h) v r (c + b) (z - b) trim-ok trim-stands rest-next (λ g. giving tt (release (c + b) g)) tt D))
