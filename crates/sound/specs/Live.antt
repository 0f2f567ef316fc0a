-- Live blocks: what release, grant and resize do to the loose chunks. Every other loose chunk stays loose, of its size, and none of its usable words
-- is written; release takes its chunk away, grant gives one that was not loose before, and resize does both or neither. Read off the counts of each step.
-- Assumes nothing.
use Rattle.std.specs.Prelude.{◌≡◌, refl, List, true, ℕ, ◌+◌, ◌/◌, ◌%◌, ◌≤◌, eqb, ltb, get_or, Option, Some, None}
use Rattle.std.proofs.Common.{sym, ap, ◌∙◌, subst, ⊎_elim, arith, eq-eqb, eqb-true, lt-ltb, ltb-true}
use Rattle.machine.specs.Lists.{both, cnt}
use Rattle.machine.specs.Count.{eq?, ind-same, ind-other}
use Rattle.machine.specs.Heap.{Heap, starts, size_of, p_of, total, live?}
use Rattle.machine.specs.Writes.{apply, Ran, heap_of, writes, ran}
use Rattle.machine.specs.Release.{release, consolidate, emptying, joining}
use Rattle.machine.specs.Grant.{grant}
use Rattle.machine.specs.Resize.{resize}
use Rattle.sound.specs.Relation.{Mem, Shape, Loose, Good}
use Rattle.sound.specs.Tiles.{starts-once}
use Rattle.sound.specs.Apart.{tiled-tiles}
use Rattle.sound.specs.Spares.{Spares, spared}
use Rattle.sound.specs.Moves.{answer_of, nil, one, any, Moved, moved_keeps}
use Rattle.sound.specs.Leaves.{Leaves, gave, Still, Cached, Found}
use Rattle.sound.specs.Release.{both_true, release-leaves}
use Rattle.sound.specs.Drain.{Consolidated, consolidate-leaves}
use Rattle.sound.specs.Emptying.{Emptied, emptying-leaves}
use Rattle.sound.specs.Joining.{Merged, joining-leaves}
use Rattle.sound.specs.Grant.{grant-leaves}
use Rattle.sound.specs.Below.{OwnP}
use Rattle.sound.specs.Resize.{Resized, standing, resize-resized}

-- ---- live, as release asks it, is loose
pub live-loose : (h : Heap) (c : ℕ) → live? h c ≡ true → Loose h c
live-loose h c e =
    let t = both_true (ltb 0 (cnt c (starts h))) (eqb (total c h) 0) e in
    omega (arith, ltb-true 0 (cnt c (starts h)) t.0, eqb-true (total c h) 0 t.1)

pub loose-live : (h : Heap) (c : ℕ) → Shape h → Loose h c → live? h c ≡ true
loose-live h c s lo =
    let once : cnt c (starts h) ≤ 1 = starts-once h.tiles 0 c (tiled-tiles h s) in
    rw (lt-ltb 0 (cnt c (starts h)) (omega arith), both) (eq-eqb (total c h) 0 (omega arith))

-- of the blocks of which X holds: they stay as they are, and none of their usable words is written
pub record Tame {A : Type 0} (X : ℕ → Type 0) (h : Heap) (r : Ran A) : Type 0 where
  pub keeps : (x : ℕ) → X x → Loose h x → Loose (heap_of r) x × (size_of (heap_of r) x ≡ size_of h x)
  pub spare : (x : ℕ) → X x → Loose h x → Spares x (size_of h x) (writes r)

abbrev pub But : ℕ → ℕ → Type 0
But c x = x ≡ c → ⊥

pub moved-tame : {A : Type 0} {X : ℕ → Type 0} {h : Heap} {r : Ran A} {i : A → ℕ → ℕ} {o : ℕ → ℕ} → ((x : ℕ) → X x → o x ≡ 0) → Moved h r i o → Tame X h r
moved-tame e m = record {
  keeps = λ x y lo. (moved_keeps m x lo (e x y), m.same x lo (e x y));
  spare = λ x y lo. m.spare x lo (e x y);
}

-- the usable words of a block that the step spares are as they were
pub tame-words : {A : Type 0} (X : ℕ → Type 0) (h : Heap) (r : Ran A) (w : List ℕ) → Tame X h r → (x : ℕ) → X x → Loose h x
    → (i : ℕ) → x / 8 + 2 ≤ i → i ≤ (x + size_of h x) / 8 → get_or (apply (writes r) w) i 0 ≡ get_or w i 0
tame-words X h r w t x y lo i l u = spared x (size_of h x) (writes r) w i (t.spare x y lo) l u

-- ---- the chunk c goes, and no other comes or goes
pub record Goes {A : Type 0} (c : ℕ) (h : Heap) (r : Ran A) : Type 0 where
  pub tame : Tame (But c) h r
  pub gone : Loose (heap_of r) c → ⊥
  pub only : (x : ℕ) → Loose (heap_of r) x → Loose h x

moved-goes : {A : Type 0} (c : ℕ) (h : Heap) (r : Ran A) → Shape h → Moved h r (any nil) (one c) → Goes c h r
moved-goes c h r s m = record {
  tame = moved-tame (λ x y. ind-other x c y) m;
  gone = λ lo. omega (arith, m.count c, ind-same c, starts-once h.tiles 0 c (tiled-tiles h s));
  only = λ x lo. omega (arith, m.count x);
}

-- ---- all stay, and no other comes
pub record Stays {A : Type 0} (h : Heap) (r : Ran A) : Type 0 where
  pub tame : Tame (λ x. Unit {0}) h r
  pub only : (x : ℕ) → Loose (heap_of r) x → Loose h x

moved-stays : {A : Type 0} (h : Heap) (r : Ran A) → Moved h r (any nil) nil → Stays h r
moved-stays h r m = record {
  tame = moved-tame (λ x y. refl) m;
  only = λ x lo. omega (arith, m.count x);
}

-- ---- all stay, and what is given comes
pub record Gives (b : ℕ) (h : Heap) (r : Ran (Option ℕ)) : Type 0 where
  pub tame : Tame (λ x. Unit {0}) h r
  pub given : (c : ℕ) → answer_of r ≡ Some c → Loose (heap_of r) c × (b ≤ size_of (heap_of r) c) × (Loose h c → ⊥)
  pub only : (x : ℕ) → (answer_of r ≡ Some x → ⊥) → Loose (heap_of r) x → Loose h x

found-gives : (b : ℕ) (h : Heap) (w : List ℕ) (r : Ran (Option ℕ)) → Shape h → Leaves h w r (Found b h) gave nil → Gives b h r
found-gives b h w (ran g ws (Some c)) s l = record {
  tame = moved-tame (λ x y. refl) l.moved;
  given = λ d e.
      let q : c ≡ d = cc in
      let n = l.moved.count c in
      subst (λ (d : ℕ). Loose g d × (b ≤ size_of g d) × (Loose h d → ⊥)) q (
        omega (arith, n, ind-same c, s.own c),
        l.now.1,
        (λ lo. omega (arith, n, ind-same c, lo, l.now.0.shape.own c, starts-once g.tiles 0 c (tiled-tiles g l.now.0.shape))),
      );
  only = λ x e lo. omega (arith, l.moved.count x, ind-other x c (λ q. e (ap Some (sym q))));
}
found-gives b h w (ran g ws None) s l = record {
  tame = moved-tame (λ x y. refl) l.moved;
  given = λ d e. absurd (let z : ◌≡◌ {A = ℕ} 0 1 = cc in omega arith);
  only = λ x e lo. omega (arith, l.moved.count x);
}

-- ---- all but c stay; refused, c stays too; else the block that is answered is loose, and has of c's usable words all that it has room for. It is c, or c goes
-- and it comes
pub record Resizes (c b : ℕ) (h : Heap) (w : List ℕ) (r : Ran (Option ℕ)) : Type 0 where
  pub tame : Tame (But c) h r
  pub refused : answer_of r ≡ None → Stays h r
  pub given : (d : ℕ) → answer_of r ≡ Some d → Loose (heap_of r) d × (b ≤ size_of (heap_of r) d)
  pub words : (d : ℕ) → answer_of r ≡ Some d → (i : ℕ) → 2 ≤ i → i ≤ size_of h c / 8 → i ≤ size_of (heap_of r) d / 8
      → get_or (apply (writes r) w) (d / 8 + i) 0 ≡ get_or w (c / 8 + i) 0
  pub moves : (d : ℕ) → (d ≡ c → ⊥) → answer_of r ≡ Some d → (Loose (heap_of r) c → ⊥) × (Loose h d → ⊥)
  pub only : (x : ℕ) → (answer_of r ≡ Some x → ⊥) → Loose (heap_of r) x → Loose h x

resized-resizes : (c b : ℕ) (k h : Heap) (w : List ℕ) (r : Ran (Option ℕ)) → Shape h → Loose h c → Resized c b k h w r → Resizes c b h w r
resized-resizes c b k h w (ran g ws (Some e)) s lc R =
    let L = R.leaves in
    let once : (x : ℕ) → cnt x (starts g) ≤ 1 = λ x. starts-once g.tiles 0 x (tiled-tiles g L.now.0.shape) in
    record {
      tame = moved-tame (λ x y. ind-other x c y) L.moved;
      refused = λ q. absurd (let z : ◌≡◌ {A = ℕ} 0 1 = cc in omega arith);
      given = λ d q.
          let p : e ≡ d = cc in
          subst (λ (d : ℕ). Loose g d × (b ≤ size_of g d)) p (
            ⊎_elim
                (λ y. omega (arith, L.moved.count e, ap (λ (x : ℕ). one x e) y, ap (λ (x : ℕ). total x h) y, ap (λ (x : ℕ). cnt x (starts h)) y, lc))
                (λ y. omega (arith, L.moved.count e, ind-same e, ind-other e c y, s.own e)) (eq? e c),
            L.now.1,
          );
      words = λ d q. let p : e ≡ d = cc in
          subst (λ (d : ℕ). (i : ℕ) → 2 ≤ i → i ≤ size_of h c / 8 → i ≤ size_of g d / 8 → get_or (apply ws w) (d / 8 + i) 0 ≡ get_or w (c / 8 + i) 0) p R.words;
      moves = λ d n q. let p : e ≡ d = cc in (
        (λ lo. omega (arith, L.moved.count c, ind-same c, ind-other c e (λ y. n (sym (y ∙ p))), once c, lo, lc, starts-once h.tiles 0 c (tiled-tiles h s))),
        λ lo. omega (arith, L.moved.count d, ap (λ (y : ℕ). one y d) p, ind-same d, ind-other d c n, lo, once d, L.now.0.shape.own d),
      );
      only = λ x q lo. omega (arith, L.moved.count x, ind-other x e (λ y. q (ap Some (sym y))));
    }
resized-resizes c b k h w (ran g ws None) s lc R =
    let L = R.leaves in
    record {
      tame = moved-tame (λ x y. ind-other x c y) L.moved;
      refused = λ q. moved-stays h (ran g ws None) (R.refused refl);
      given = λ d q. absurd (let z : ◌≡◌ {A = ℕ} 0 1 = cc in omega arith);
      words = λ d q. absurd (let z : ◌≡◌ {A = ℕ} 0 1 = cc in omega arith);
      moves = λ d n q. absurd (let z : ◌≡◌ {A = ℕ} 0 1 = cc in omega arith);
      only = λ x q lo. omega (arith, L.moved.count x);
    }

-- ---- release, grant, resize
pub release-goes : (h : Heap) (w : List ℕ) (c : ℕ) → Good h → Mem h w → Loose h c → Goes c h (release c h)
release-goes h w c g m lo = moved-goes c h (release c h) g.shape (release-leaves h w c g m lo).moved

pub grant-gives : (b : ℕ) → b % 16 ≡ 0 → 32 ≤ b → (h : Heap) (w : List ℕ) → Good h → Mem h w → Gives b h (grant b h)
grant-gives b b16 b32 h w g m = found-gives b h w (grant b h) g.shape (grant-leaves b b16 b32 h w g m)

pub resize-resizes : (b : ℕ) → b % 16 ≡ 0 → 32 ≤ b → (h : Heap) (w : List ℕ) → Good h → Mem h w → (c : ℕ) → Loose h c → Resizes c b h w (resize c b h)
resize-resizes b b16 b32 h w g m c lo = resized-resizes c b (standing c b h) h w (resize c b h) g.shape lo (resize-resized h w c b g m lo b16 b32)

-- not moved, it keeps its own P as it stands, unless the release of its rest has the fast chunks joined
pub resize-own-p : (b : ℕ) → b % 16 ≡ 0 → 32 ≤ b → (h : Heap) (w : List ℕ) → Good h → Mem h w → (c : ℕ) → Loose h c → answer_of (resize c b h) ≡ Some c
    → OwnP c (p_of (standing c b h) c) (heap_of (resize c b h))
resize-own-p b b16 b32 h w g m c lo = (resize-resized h w c b g m lo b16 b32).own

-- ---- a refused grant, and a refused resize, leaves the cache lists and the last remainder as they were
pub grant-refused : (b : ℕ) → b % 16 ≡ 0 → 32 ≤ b → (h : Heap) (w : List ℕ) → Good h → Mem h w → answer_of (grant b h) ≡ None → Still Cached h (heap_of (grant b h))
grant-refused b b16 b32 h w g m e = (subst (λ (x : Option ℕ). Found b h x (heap_of (grant b h))) e (grant-leaves b b16 b32 h w g m).now).1

pub resize-refused : (b : ℕ) → b % 16 ≡ 0 → 32 ≤ b → (h : Heap) (w : List ℕ) → Good h → Mem h w → (c : ℕ) → Loose h c → answer_of (resize c b h) ≡ None
    → Still Cached h (heap_of (resize c b h))
resize-refused b b16 b32 h w g m c lo e =
    (subst (λ (x : Option ℕ). Found b h x (heap_of (resize c b h))) e (resize-resized h w c b g m lo b16 b32).leaves.now).1

-- ---- consolidation leaves every fast list empty, and the cache lists as they were
pub consolidate-empties : (h : Heap) (w : List ℕ) → Good h → Mem h w → Consolidated h (heap_of (consolidate h))
consolidate-empties h w g m = (consolidate-leaves h w g m).now

-- ---- emptying leaves every cache list empty; joining every fast list, and no last remainder
pub emptying-empties : (h : Heap) (w : List ℕ) → Good h → Mem h w → Emptied h (heap_of (emptying h))
emptying-empties h w g m = (emptying-leaves h w g m).now

pub joining-merges : (h : Heap) (w : List ℕ) → Good h → Mem h w → Merged h (heap_of (joining h))
joining-merges h w g m = (joining-leaves h w g m).now
