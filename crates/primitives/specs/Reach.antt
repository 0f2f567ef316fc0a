-- Loops: a step from the start is what was done so far and then a step from here. One turn done, the same holds with that turn's writes. Assumes nothing.
use Rattle.std.specs.Prelude.{◌≡◌, refl, List, [], ◌++◌, ℕ}
use Rattle.std.proofs.Common.{sym, ap, ◌∙◌, subst, append_assoc}
use Rattle.machine.specs.Heap.{Heap}
use Rattle.machine.specs.Writes.{Write, apply, Ran, ran, heap_of, writes, more, ◌>>=◌}
use Rattle.sound.specs.Relation.{Good}
use Rattle.sound.specs.Frames.{apply-append}
use Rattle.sound.specs.Ends.{Ends, ends_more}
use Rattle.primitives.specs.Follow.{Ok, Has, Gave}
use Rattle.primitives.specs.FollowLaws.{gave-ok}

-- words w and record r are those of a sound heap from which f goes on as o, the step from words w₀, does
pub record Reach (A : Type 0) (o : Ran A) (f : Heap → Ran A) (w₀ w r : List ℕ) : Type 0 where
  pub heap : Heap
  pub ok : Ok heap w r
  pub good : Good heap
  pub done : List Write
  pub bytes : w ≡ apply done w₀
  pub same : o ≡ more done (f heap)

-- so it is from every sound heap that has the words and the record of the start
pub record Way (A : Type 0) (f₀ f : Heap → Ran A) (w₀ r₀ w r : List ℕ) : Type 0 where
  pub reach : (h : Heap) → Ok h w₀ r₀ → Good h → Reach A (f₀ h) f w₀ w r

pub more-nil : {A : Type 0} (s : Ran A) → s ≡ more [] s
more-nil (ran h ws a) = refl

pub more-more : {A : Type 0} (vs ws : List Write) (s : Ran A) → more vs (more ws s) ≡ more (vs ++ ws) s
more-more vs ws (ran h us a) = ap (λ (l : List Write). ran h l a) (sym (append_assoc vs ws us))

pub then-more : {A B : Type 0} (s : Ran A) (f : Heap → Ran B) → (s >>= f) ≡ more (writes s) (f (heap_of s))
then-more (ran h ws a) f = refl

-- three steps in a row; a step, and then another by a different name
pub then-then : {A B C : Type 0} (s : Ran A) (f : Heap → Ran B) (g : Heap → Ran C) → ((s >>= f) >>= g) ≡ (s >>= (λ h. f h >>= g))
then-then {A} {B} {C} (ran h ws a) f g = go (f h)
  where
    go : (t : Ran B) → (more ws t >>= g) ≡ more ws (t >>= g)
    go (ran n vs b) = sym (more-more ws vs (g n))

pub then_same : {A B : Type 0} (s : Ran A) (f g : Heap → Ran B) → f (heap_of s) ≡ g (heap_of s) → (s >>= f) ≡ (s >>= g)
then_same (ran h ws a) f g e = ap (more ws) e

-- one step and then another, which ends well
pub ends_next : {A B : Type 0} (s : Ran A) (f : Heap → Ran B) (w : List ℕ) (Q : Heap → Type 0) → Ends (f (heap_of s)) (apply (writes s) w) Q → Ends (s >>= f) w Q
ends_next (ran h ws a) f w Q e = ends_more ws (f h) e

pub way-here : {A : Type 0} (f : Heap → Ran A) (w r : List ℕ) → Way A f f w r w r
way-here f w r = record { reach = λ h o g. record { heap = h; ok = o; good = g; done = []; bytes = refl; same = more-nil (f h) } }

module _ {A : Type 0} {o : Ran A} {f : Heap → Ran A} {w₀ w r : List ℕ} (R : Reach A o f w₀ w r) where
  pub reach-has : Has Good w r
  reach-has = record { heap = R.heap; ok = R.ok; holds = R.good }

  -- a turn: f does s, and goes on as g
  pub reach-then : {B : Type 0} (s : Ran B) (b : B) (g : Heap → Ran A) {v q : List ℕ} → f R.heap ≡ (s >>= g) → Gave B s b w v q → Ends s w Good → Reach A o g w₀ v q
  reach-then s b g {v} {q} e m k = record {
    heap = heap_of s;
    ok = gave-ok s b k.now.shape k.mem m;
    good = k.now;
    done = R.done ++ writes s;
    bytes = m.bytes ∙ ap (apply (writes s)) R.bytes ∙ sym (apply-append R.done (writes s) w₀);
    same = R.same ∙ ap (more R.done) (e ∙ then-more s g) ∙ more-more R.done (writes s) (g (heap_of s));
  }

  -- the end: f does nothing more
  pub reach-end : (a : A) → f R.heap ≡ ran R.heap [] a → Gave A o a w₀ w r
  reach-end a e =
      subst (λ (s : Ran A). Gave A s a w₀ w r) (sym (R.same ∙ ap (more R.done) e))
      (record { says = refl; bytes = R.bytes ∙ sym (apply-append R.done [] w₀); rec = R.ok.rec })
