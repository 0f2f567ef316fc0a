-- A call that sought a chunk: the chunk given stands in the arena, and its size word says its size. A grant that passed its tests: what it answers and
-- leaves is the machine's. Assumes nothing.
use Rattle.std.specs.Prelude.{◌≡◌, refl, Bool, true, false, List, ℕ, ◌+◌, ◌%◌, ◌≤◌, ltb, length, Option, Some, None, Err, Ok, option_map}
use Rattle.std.proofs.Common.{sym, ap, ◌∙◌, subst, ⊎_elim, arith, ltb-false}
use Rattle.le.specs.Number.{bytes}
use Rattle.le.specs.Arena.{arena_words}
use Rattle.le.specs.ArenaLaws.{length-arena_words}
use Rattle.sizes.specs.Limits.{most_request}
use Rattle.sizes.specs.Sizes.{need, usable}
use Rattle.sizes.specs.SizesLaws.{need-bounds, NeedBounds}
use Rattle.sizes.specs.Needed.{needed_of}
use Rattle.sizes.specs.declared.size.Size.{Size}
use Rattle.machine.specs.Lists.{cnt}
use Rattle.machine.specs.Count.{ind-same}
use Rattle.machine.specs.Heap.{Heap, size_of, starts, top_of}
use Rattle.machine.specs.Writes.{Ran, ran, heap_of}
use Rattle.machine.specs.Grant.{grant}
use Rattle.machine.specs.View.{size_at}
use Rattle.machine.specs.Audit.{sound?, audit_of, Audited}
use Rattle.machine.specs.Calls.{after, heap_in, words_of, grant_call, Answered}
use Rattle.machine.specs.declared.Refusal.TheVariants as R
use Rattle.machine.specs.declared.Answer.TheVariants.{Granted}
use Rattle.sound.specs.Relation.{Shape, Mem, Loose, Good, Sound}
use Rattle.sound.specs.Tiles
use Rattle.sound.specs.Frames.{Starts, starts-all}
use Rattle.sound.specs.Apart.{clear_of, tiled-tiles}
use Rattle.sound.specs.Edits.{size_32}
use Rattle.sound.specs.Moves.{answer_of}
use Rattle.sound.specs.Ends.{Ends}
use Rattle.sound.specs.Keeps.{grant-ends}
use Rattle.sound.specs.Live.{grant-gives}
use Rattle.primitives.specs.Follow as F
use Rattle.primitives.specs.Follow.{answer, Gave, Does}
use Rattle.primitives.specs.FollowLaws.{gave-ok}
use Rattle.primitives.specs.Chunks.{start-chunk, loose-chunk}
use Rattle.primitives.specs.Sizes.{chunk-says}
use Rattle.calls.specs.Ways.{Octets, kept, grant-request, grant-unsound, grant-none, grant-at}
use Rattle.calls.specs.Through.{Came, came-sound, told, sound-ok}

-- ---- number 2
pub needed-large : (n : ℕ) → needed_of n ≡ None → ltb most_request n ≡ true
unfolding needed_of
needed-large n e = go (ltb most_request n) e
  where
    go : (t : Bool) → ◌≡◌ {A = Option ℕ} (elim t [ true ↦ None | false ↦ Some (need n) ]) None → t ≡ true
    go true e = refl
    go false e = absurd (let z : ◌≡◌ {A = ℕ} 0 1 = cc in omega arith)

pub record Sized (n b : ℕ) : Type 0 where
  pub small : ltb most_request n ≡ false
  pub is : b ≡ need n
  pub whole : b % 16 ≡ 0
  pub least : 32 ≤ b
  pub most : b ≤ 262160

pub needed-size : (n b : ℕ) (x : Option ℕ) → x ≡ needed_of n → x ≡ Some b → Sized n b
unfolding needed_of
needed-size n b x e f = go (ltb most_request n) refl (sym e ∙ f)
  where
    go : (t : Bool) → ltb most_request n ≡ t → ◌≡◌ {A = Option ℕ} (elim t [ true ↦ None | false ↦ Some (need n) ]) (Some b) → Sized n b
    go true l e = absurd (let z : ◌≡◌ {A = ℕ} 0 1 = cc in omega arith)
    go false l e =
        let q : need n ≡ b = cc in
        let i : NeedBounds n (need n) = need-bounds n in
        record {
          small = l;
          is = sym q;
          whole = subst (λ (k : ℕ). k % 16 ≡ 0) q i.whole;
          least = subst (λ (k : ℕ). 32 ≤ k) q i.least;
          most = subst (λ (k : ℕ). k ≤ 262160) q (i.most (ltb-false most_request n l));
        }

-- the same of what the code has
pub need-size : (n : ℕ) (b : Size) (x : Option Size) → option_map (λ (s : Size). s.bytes) x ≡ needed_of n → x ≡ Some b → Sized n b.bytes
need-size n b x e f = needed-size n _ _ e (ap (option_map (λ (s : Size). s.bytes)) f)

pub grant-large : (a r : List ℕ) (n : ℕ) (x : Option ℕ) (q : List ℕ) → Came a r q → x ≡ needed_of n → x ≡ None → after a r (Err R.Request) ≡ grant_call a r n
grant-large a r n x q c e f = grant-request a r n c.shape (needed-large n (sym e ∙ f))

pub grant-refused : (a r q : List ℕ) (n b : ℕ) (f : Audited) → Came a r q → Sized n b → f ≡ audit_of (arena_words a) q → sound? f ≡ false
    → after a r (Err R.Unsound) ≡ grant_call a r n
grant-refused a r q n b f c z e s = grant-unsound a r n c.shape z.small (told a r q f c e false s)

-- ---- a chunk as the answer needs it
pub record Stands (b : List ℕ) (m : ℕ) : Type 0 where
  pub even : m % 8 ≡ 0
  pub inside : m + 32 ≤ length b
  pub small : m + 32 ≤ 262144
  pub least : 32 ≤ size_at (arena_words b) m
  pub most : size_at (arena_words b) m ≤ 262144

size-most : (h : Heap) (w : List ℕ) (x : ℕ) → Shape h → Mem h w → 1 ≤ cnt x (starts h) → size_of h x ≤ 262144
size-most h w x s m i =
    let j : 1 ≤ cnt (top_of h) (Starts h) = omega (arith, starts-all h (top_of h), ind-same (top_of h)) in
    let u = Tiles.start h.tiles 0 x (tiled-tiles h s) i in
    let v = start-chunk h w s m (top_of h) j in
    ⊎_elim (λ l. absurd (omega (arith, u.high))) (⊎_elim (λ l. absurd (omega (arith, u.high))) (λ l. omega (arith, v.small))) (clear_of h x (top_of h) s i j)

answer-is : {A : Type 0} (s : Ran A) → answer_of s ≡ answer s
answer-is (ran h ws x) = refl

-- ---- the steps s found a chunk: it stands in the arena, and its size word says its size
module _ (a b p : List ℕ) (s : Ran (Option ℕ)) (g : Option ℕ) (gave : Gave (Option ℕ) s g (arena_words a) (arena_words b) p) (E : Ends s (arena_words a) Good)
    (loose : (c : ℕ) → answer_of s ≡ Some c → Loose (heap_of s) c) (m : ℕ) (y : g ≡ Some m) where
  after-ok : F.Ok (heap_of s) (arena_words b) p
  after-ok = gave-ok s g E.now.shape E.mem gave

  given : Loose (heap_of s) m
  given = loose m (answer-is s ∙ gave.says ∙ y)

  start : 1 ≤ cnt m (starts (heap_of s))
  start = let l : Loose (heap_of s) m = given in omega arith

  pub found-size : size_at (arena_words b) m ≡ size_of (heap_of s) m
  found-size = (chunk-says (heap_of s) after-ok.shape (arena_words b) after-ok.mem m start).size

  pub found-stands : Octets b → Stands b m
  found-stands o =
      let h : Heap = heap_of s in
      let i = loose-chunk h (arena_words b) after-ok.shape after-ok.mem m given in
      let e = found-size in
      record {
        even = omega (arith, i.even);
        inside = omega (arith, i.inside, length-arena_words b, o.even);
        small = i.small;
        least = omega (arith, e, size_32 h m after-ok.shape start);
        most = omega (arith, e, size-most h (arena_words b) m after-ok.shape after-ok.mem start);
      }

-- ---- what the steps of a grant did
module _ (a r q b p : List ℕ) (n k : ℕ) (f : Audited) (g : Option ℕ) (c : Came a r q) (z : Sized n k) (e : f ≡ audit_of (arena_words a) q) (s : sound? f ≡ true)
    (d : Does (Option ℕ) Good (grant k) (arena_words a) q g (arena_words b) p) where
  t : sound? (audit_of (arena_words a) (words_of r)) ≡ true
  t = told a r q f c e true s

  heard : Sound (heap_in a r) (arena_words a) (words_of r)
  heard = came-sound a r q c t

  gave : Gave (Option ℕ) (grant (need n) (heap_in a r)) g (arena_words a) (arena_words b) p
  gave =
      subst (λ (m : ℕ). Gave (Option ℕ) (grant m (heap_in a r)) g (arena_words a) (arena_words b) p) z.is
      ((subst (λ (l : List ℕ). Does (Option ℕ) Good (grant k) (arena_words a) l g (arena_words b) p) c.words d).does (heap_in a r) (sound-ok heard) heard.good)

  ends : Ends (grant (need n) (heap_in a r)) (arena_words a) Good
  ends = grant-ends (need n) (need-bounds n).whole (need-bounds n).least (heap_in a r) (arena_words a) heard.good heard.mem

  loose : (c : ℕ) → answer_of (grant (need n) (heap_in a r)) ≡ Some c → Loose (heap_of (grant (need n) (heap_in a r))) c
  loose c y = ((grant-gives (need n) (need-bounds n).whole (need-bounds n).least (heap_in a r) (arena_words a) heard.good heard.mem).given c y).0

  pub grant-through-none : (v : List ℕ) → g ≡ None → Octets b → v ≡ bytes 4 p → after b v (Err R.NoRoom) ≡ grant_call a r n
  grant-through-none v y o l =
      kept b v p (Err R.NoRoom) l
      (grant-none a r b p n c.shape z.small t o (subst (λ (x : Option ℕ). Gave (Option ℕ) (grant (need n) (heap_in a r)) x (arena_words a) (arena_words b) p) y gave))

  pub grant-stands : (m : ℕ) → g ≡ Some m → Octets b → Stands b m
  grant-stands m y o = found-stands a b p (grant (need n) (heap_in a r)) g gave ends loose m y o

  pub grant-through-at : (m : ℕ) → g ≡ Some m → (v : List ℕ) (x : Answered) → Octets b → v ≡ bytes 4 p → x ≡ Ok (Granted (m + 16) (usable (size_at (arena_words b) m)))
      → after b v x ≡ grant_call a r n
  grant-through-at m y v x o l w =
      ap (after b v) w
      ∙ kept b v p (Ok (Granted (m + 16) (usable (size_at (arena_words b) m)))) l
      (grant-at a r b p n m (usable (size_at (arena_words b) m)) c.shape z.small t o
      (subst (λ (x : Option ℕ). Gave (Option ℕ) (grant (need n) (heap_in a r)) x (arena_words a) (arena_words b) p) y gave)
      (ap usable (found-size a b p (grant (need n) (heap_in a r)) g gave ends loose m y)))
