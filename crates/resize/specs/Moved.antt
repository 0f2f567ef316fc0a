-- A new block is sought, and joined to the old one or filled with its usable words, and the code follows the machine. Steps 2 to 9 leave the old block as it was.
-- One lemma for each way, and what each call requires. Assumes nothing.
use Rattle.std.specs.Prelude.{◌≡◌, refl, List, ℕ, zero, suc, ◌+◌, ◌-◌, ◌*◌, ◌/◌, ◌%◌, ◌≤◌, ◌<◌, length, Option, Some, None}
use Rattle.std.proofs.Common.{sym, ap, ◌∙◌, subst, arith, eq-eqb, ne_eqb}
use Rattle.machine.specs.Heap.{Heap, size_of}
use Rattle.machine.specs.Writes.{Write, copy, put, apply, Ran, ran, heap_of, does, giving, more, ◌>>=◌}
use Rattle.machine.specs.Release.{release}
use Rattle.machine.specs.Grant.{seek}
use Rattle.machine.specs.Resize.{copies_from, copies, moved}
use Rattle.sound.specs.Relation.{Mem, Loose, Good}
use Rattle.sound.specs.Tiles.{starts-once}
use Rattle.sound.specs.Apart.{tiled-tiles}
use Rattle.sound.specs.Moves.{nil}
use Rattle.sound.specs.Leaves.{Leaves, gave, Found}
use Rattle.sound.specs.Copies.{copies-mem}
use Rattle.sound.specs.Grant.{seek-leaves}
use Rattle.sound.specs.Resize.{now_at, old-loose, old-size, new-loose, new_apart}
use Rattle.primitives.specs.Follow.{Ok, Has, Gave, Does}
use Rattle.primitives.specs.FollowLaws.{gave_then, gave-more, gave-giving, gave-ok, got-absurd}
use Rattle.release_join.specs.Reads.{loose-reads}
use Rattle.resize.specs.States.{Live, Widens, Moves, widen_finish, copy_release, sought}
use Rattle.resize.specs.Finish.{live-stands, stands-nearby}
use Rattle.resize.specs.Widen.{loose-widens}

-- ---- one word more is copied
copies-snoc : (i d c n : ℕ) (w : List ℕ) → apply (copies_from i d c (suc n)) w ≡ put (copy d c (i + n)) (apply (copies_from i d c n) w)
copies-snoc i d c zero w = let e : i ≡ i + 0 = omega arith in ap (λ (j : ℕ). put (copy d c j) w) e
copies-snoc i d c (suc n) w =
    let e : suc i + n ≡ i + suc n = omega arith in
    let v : List ℕ = put (copy d c i) w in
    copies-snoc (suc i) d c n v ∙ ap (λ (j : ℕ). put (copy d c j) (apply (copies_from (suc i) d c n) v)) e

pub copies-more : (d c n : ℕ) (w : List ℕ) {v u : List ℕ} → v ≡ apply (copies d c n) w → u ≡ put (copy d c n) v → u ≡ apply (copies d c (n + 1)) w
copies-more d c n w e f =
    let q : suc n ≡ n + 1 = omega arith in
    let z : n ≡ 0 + n = omega arith in
    f ∙ ap (put (copy d c n)) e ∙ ap (λ (i : ℕ). put (copy d c i) (apply (copies d c n) w)) z ∙ sym (copies-snoc 0 d c n w) ∙ ap (λ (m : ℕ). apply (copies d c m) w) q

-- ---- c and d in m bytes of arena: the usable words of c lie in both
pub record Placed (m c z d : ℕ) : Type 0 where
  pub even : c % 16 ≡ 0
  pub high : c + z + 32 ≤ m
  pub even-new : d % 16 ≡ 0
  pub high-new : d + z + 32 ≤ m
  pub least : 32 ≤ z

module _ (h : Heap) (w r : List ℕ) (c z d : ℕ) (o : Ok h w r) (M : Moves h c z d) where
  pub moves-placed : (m : ℕ) → 8 * length w ≤ m → Placed m c z d
  moves-placed m l =
      let C = stands-nearby h w r c z o (live-stands h c z M.live) m l in
      let D = stands-nearby h w r d (size_of h d) o (live-stands h d (size_of h d) (record { good = M.live.good; loose = M.loose; whole = refl })) m l in
      let k = loose-reads h w r o c M.live.loose in
      record {
        even = C.here.even;
        high = C.after.high;
        even-new = D.here.even;
        high-new = omega (arith, D.after.high, M.room);
        least = omega (arith, k.size, k.reads.size, k.reads.least, M.live.whole);
      }

  module _ {v : List ℕ} (e : v ≡ apply (copies d c (z / 8 - 1)) w) where
    copied-ok : Ok h v r
    copied-ok =
        let L = M.live in
        let q : apply (copies d c (size_of h c / 8 - 1)) w ≡ v = ap (λ (z : ℕ). apply (copies d c (z / 8 - 1)) w) L.whole ∙ sym e in
        record {
          shape = o.shape;
          mem = subst (Mem h) q (copies-mem h w c d L.good o.mem L.loose M.loose M.other (omega (arith, L.whole, M.room)));
          rec = o.rec;
        }

    pub copied-has : Has (λ g. Good g × Loose g c) v r
    copied-has = record { heap = h; ok = copied-ok; holds = (M.live.good, M.live.loose) }

    pub move-gave : {v₁ q₁ : List ℕ} → Does (Unit {0}) (λ g. Good g × Loose g c) (λ g. giving tt (release c g)) v r tt v₁ q₁ → Gave (Unit {0}) (copy_release c z d h) tt w v₁ q₁
    move-gave D =
        gave_then (does h (copies d c (z / 8 - 1))) (λ g. giving tt (release c g)) tt tt (record { says = refl; bytes = e; rec = o.rec })
        (D.does h copied-ok (M.live.good, M.live.loose))

-- ---- what becomes of the block that was found
copy_gave : (ws : List Write) (s : Ran ℕ) (d : ℕ) {w v q : List ℕ} → Gave (Unit {0}) (more ws (giving tt s)) tt w v q → Gave (Option ℕ) (giving (Some d) (more ws s)) (Some d) w v q
copy_gave ws (ran h vs n) d m = record { says = refl; bytes = m.bytes; rec = m.rec }

module _ (c z b : ℕ) where
  none-gave : (s : Ran (Option ℕ)) {w v q : List ℕ} → Gave (Option ℕ) s None w v q → Gave (Option ℕ) (moved c b z s) None w v q
  none-gave (ran h ws None) m = m
  none-gave (ran h ws (Some d)) m = got-absurd m.says

  near-gave : (s : Ran (Option ℕ)) (d : ℕ) {w v q v₁ q₁ : List ℕ} → Gave (Option ℕ) s (Some d) w v q → d ≡ c + z → Gave (Unit {0}) (widen_finish c b (heap_of s)) tt v v₁ q₁
      → Gave (Option ℕ) (moved c b z s) (Some c) w v₁ q₁
  near-gave (ran h ws None) d m e n = got-absurd (sym m.says)
  near-gave (ran h ws (Some x)) d m e n =
      let q : x ≡ c + z = ap (now_at 0) m.says ∙ e in
      rw (eq-eqb x (c + z) q) (gave-more ws (giving (Some c) (widen_finish c b h)) (Some c) m.bytes (gave-giving (widen_finish c b h) tt (Some c) n))

  far-gave : (s : Ran (Option ℕ)) (d : ℕ) {w v q v₁ q₁ : List ℕ} → Gave (Option ℕ) s (Some d) w v q → (d ≡ c + z → ⊥) → Gave (Unit {0}) (copy_release c z d (heap_of s)) tt v v₁ q₁
      → Gave (Option ℕ) (moved c b z s) (Some d) w v₁ q₁
  far-gave (ran h ws None) d m ne n = got-absurd (sym m.says)
  far-gave (ran h ws (Some x)) d {w} {v₁ = v₁} {q₁ = q₁} m ne n =
      subst (λ (x : ℕ). Gave (Option ℕ) (moved c b z (ran h ws (Some x))) (Some d) w v₁ q₁) (sym (ap (now_at 0) m.says))
      (rw (ne_eqb d (c + z) ne) (gave-more ws (giving (Some d) (does h (copies d c (z / 8 - 1)) >>= (λ g. release c g))) (Some d) m.bytes
      (copy_gave (copies d c (z / 8 - 1)) (release c h) d n)))

-- ---- a block d of at least b was found, and c is as it was
record New (h : Heap) (c z b d : ℕ) : Type 0 where
  live : Live h c z
  loose : Loose h d
  apart : d ≡ c → ⊥
  enough : b ≤ size_of h d

module _ (h : Heap) (w r : List ℕ) (c z b : ℕ) (o : Ok h w r) (L : Live h c z) (b16 : b % 16 ≡ 0) (b32 : 32 ≤ b) (less : z < b) where
  short : size_of h c ≤ b
  short = omega (arith, L.whole)

  new : (s : Ran (Option ℕ)) (d : ℕ) {v q : List ℕ} → Leaves h w s (Found b h) gave nil → Gave (Option ℕ) s (Some d) w v q → New (heap_of s) c z b d × Ok (heap_of s) v q
  new (ran g ws None) d l m = got-absurd (sym m.says)
  new (ran g ws (Some x)) d l m =
      let e : x ≡ d = ap (now_at 0) m.says in (
        subst (New g c z b) e (record {
          live = record {
            good = l.now.0;
            loose = old-loose h w c b L.good L.loose b16 b32 short g ws x l;
            whole = old-size h w c b L.good L.loose b16 b32 short g ws x l ∙ L.whole;
          };
          loose = new-loose h w c b L.good L.loose b16 b32 short g ws x l;
          apart = new_apart h w c b L.good L.loose b16 b32 short g ws x l;
          enough = l.now.1;
        }),
        gave-ok (ran g ws (Some x)) (Some d) l.now.0.shape l.mem m,
      )

  leaves : Leaves h w (seek b h) (Found b h) gave nil
  leaves = seek-leaves b b16 b32 h w L.good o.mem

  module _ (x : Option ℕ) {v q : List ℕ} (D : Does (Option ℕ) Good (seek b) w r x v q) where
    pub sought-none-gave : x ≡ None → Gave (Option ℕ) (sought c z b h) None w v q
    sought-none-gave e = none-gave c z b (seek b h) (subst (λ (x : Option ℕ). Gave (Option ℕ) (seek b h) x w v q) e (D.does h o L.good))

    module _ (d : ℕ) (e : x ≡ Some d) where
      found : Gave (Option ℕ) (seek b h) (Some d) w v q
      found = subst (λ (x : Option ℕ). Gave (Option ℕ) (seek b h) x w v q) e (D.does h o L.good)

      found-new : New (heap_of (seek b h)) c z b d
      found-new = (new (seek b h) d leaves found).0

      found_ok : Ok (heap_of (seek b h)) v q
      found_ok = (new (seek b h) d leaves found).1

      -- right behind c
      module _ (at : d ≡ c + z) where
        near-widens : Widens (heap_of (seek b h)) c z b
        near-widens =
            let g : Heap = heap_of (seek b h) in
            let N = found-new in
            let lo : Loose g (c + z) = subst (Loose g) at N.loose in
            loose-widens g v q c z found_ok N.live (omega (arith, lo)) b (omega (arith, lo, starts-once g.tiles 0 (c + z) (tiled-tiles g N.live.good.shape)))
            (omega (arith, N.enough, ap (size_of g) at))

        pub sought-near-has : Has (λ g. Widens g c z b) v q
        sought-near-has = record { heap = heap_of (seek b h); ok = found_ok; holds = near-widens }

        pub sought-near-gave : {v₁ q₁ : List ℕ} → Does (Unit {0}) (λ g. Widens g c z b) (widen_finish c b) v q tt v₁ q₁ → Gave (Option ℕ) (sought c z b h) (Some c) w v₁ q₁
        sought-near-gave E = near-gave c z b (seek b h) d found at (E.does (heap_of (seek b h)) found_ok near-widens)

      -- elsewhere
      far-moves : Moves (heap_of (seek b h)) c z d
      far-moves = let N = found-new in record { live = N.live; loose = N.loose; other = N.apart; room = omega (arith, N.enough) }

      pub sought-far-has : Has (λ g. Moves g c z d) v q
      sought-far-has = record { heap = heap_of (seek b h); ok = found_ok; holds = far-moves }

      pub sought-far-gave : {v₁ q₁ : List ℕ} → (d ≡ c + z → ⊥) → Does (Unit {0}) (λ g. Moves g c z d) (copy_release c z d) v q tt v₁ q₁
          → Gave (Option ℕ) (sought c z b h) (Some d) w v₁ q₁
      sought-far-gave ne E = far-gave c z b (seek b h) d found ne (E.does (heap_of (seek b h)) found_ok far-moves)
