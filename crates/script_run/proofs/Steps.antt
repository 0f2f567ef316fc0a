-- How the steps of a run are put together from the calls of its parts. Assumes nothing.
use Rattle.std.specs.Prelude.{Ok, Err}
use mathlib.Core.Path.{◌≡◌, refl, sym, ap, ◌∙◌}
use mathlib.Core.List.{List, [], ◌∷◌, ◌++◌, append_assoc, append-nil}
use mathlib.Core.Bool.{Bool, true, false}
use Prim.Native.Nat.{ℕ, ◌+◌, ◌≤◌, ◌<◌}
use native.Mathlib.Numerals.{add-one}
use native.Mathlib.Omega.{arith}
use lib.Dec.{leb}
use lib.ListN.{length, take, drop, get_or, replicate}
use lib.Seq.{take-suc}
use borrow.Author.Tests.{leb-true, ne_eqb}
use Rattle.machine.specs.Lists.{both}
use Rattle.machine.specs.Calls.{After, after, joining_call, joined_after, Answered}
use Rattle.machine.specs.declared.{Refusal.Refusal}
use Rattle.machine.specs.declared.Answer.TheVariants.{Done, Granted}
use Rattle.script.specs.Rules.{in_place?, letter_of, first?, ends_by?}
use Rattle.script.specs.Grammar.{line_of, kept_bytes}
use Rattle.script.specs.declared.Line.{Line}
use Rattle.script.specs.declared.Line.TheVariants.{Open, Grant, Release, Resize, Settle, Other}
use Rattle.text.specs.Text.{question_text}
use Rattle.script_format.specs.Format.{header, answer_text}
use Rattle.script_run.specs.Run.{Run, run, Step, step, behind, and_on, before_all, line_call, called, length_of, top_after, ran_step, counted, placed_step, line_step, byte_step, piece_step, end_step}

alike : {a r t o a' r' o' : List ℕ} → a ≡ a' → r ≡ r' → t ≡ [] → o ≡ o' → step (run a r t 0 0 false) o ≡ step (run a' r' [] 0 0 false) o'
alike p q s u = rw (p, q, s, u)

pub begun : (m n : ℕ) {a r t o : List ℕ} → m ≡ 49152 → n ≡ 1584 → a ≡ replicate m 0 → r ≡ replicate n 0 → t ≡ [] → o ≡ header → step (run a r t 0 0 false) o ≡ step before_all header
begun m n i j p q s u = alike (p ∙ ap (λ (k : ℕ). replicate k 0) i) (q ∙ ap (λ (k : ℕ). replicate k 0) j) s u

-- ---- S: the emptying left b and q and answered x
module _ (b q : List ℕ) (y : After) (x : Answered) (e : after b q x ≡ y) where
  pub joined-done : x ≡ Ok Done → {z : After} → z ≡ joining_call b q → z ≡ joined_after y
  joined-done d j = j ∙ ap (λ (x : Answered). joined_after (after b q x)) (sym d) ∙ ap joined_after e

  pub joined-granted : (m u : ℕ) → x ≡ Ok (Granted m u) → after b q (Ok (Granted m u)) ≡ joined_after y
  joined-granted m u d = ap (λ (x : Answered). joined_after (after b q x)) (sym d) ∙ ap joined_after e

  pub joined-refused : (n : Refusal) → x ≡ Err n → after b q (Err n) ≡ joined_after y
  joined-refused n d = ap (λ (x : Answered). joined_after (after b q x)) (sym d) ∙ ap joined_after e

pub within : (a r : List ℕ) (n : ℕ) (l : Line) {b s : List ℕ} {x : Answered} → after b s x ≡ line_call (take n a) r l → after (b ++ drop n a) s x ≡ called a r n l
unfolding called
within a r n l e = rw (← e)

-- ---- a line; p was printed before it
pub ran : (p : List ℕ) (l : Line) (k n : ℕ) (c : After) {a r t o : List ℕ} {x : Answered} {e : Bool} {letter top : ℕ} → after a r x ≡ c → e ≡ ends_by? l x → top ≡ top_after e r
    → letter ≡ letter_of l → o ≡ p ++ answer_text letter x top → t ≡ [] → step (run a r t k n e) o ≡ behind p (ran_step l k n c)
ran p l k n c h q s u v w = rw (← h, v, u, s, q, w)

in_place : (a r t : List ℕ) (j n k : ℕ) (e : Bool) (l : Line) → in_place? k l ≡ true
    → placed_step (run a r t j n e) k l ≡ ran_step l k (length_of l n) (called a r (length_of l n) l)
unfolding placed_step
in_place a r t j n k e l i = rw (placed_step, i)

out-of-place : (a r t : List ℕ) (j n k : ℕ) (e : Bool) (l : Line) → in_place? k l ≡ false → placed_step (run a r t j n e) k l ≡ step (run a r [] k n true) (question_text k)
unfolding placed_step
out-of-place a r t j n k e l i = rw (placed_step, i)

pub placed : (p a r t : List ℕ) (j n : ℕ) (e : Bool) {k m : ℕ} {l : Line} {y : Step} → k ≡ counted j → l ≡ line_of t → in_place? k l ≡ true → m ≡ length_of l n
    → y ≡ behind p (ran_step l k m (called a r m l)) → y ≡ behind p (line_step (run a r t j n e))
unfolding line_step
placed p a r t j n e {k} {m} {l} h q i s u = rw (← h, ← q) (u ∙ rw s (ap (behind p) (sym (in_place a r t j n k e l i))))

pub questioned : (p a r t : List ℕ) (j n : ℕ) (e : Bool) {k : ℕ} {l : Line} {t' o : List ℕ} → k ≡ counted j → l ≡ line_of t → in_place? k l ≡ false → t' ≡ []
    → o ≡ p ++ question_text k → step (run a r t' k n true) o ≡ behind p (line_step (run a r t j n e))
unfolding line_step
questioned p a r t j n e {k} {l} h q i s u = rw (s, u, ← h, ← q) (ap (behind p) (sym (out-of-place a r t j n k e l i)))

-- an open in its place is of what heaplog has
pub opened-within : (k n : ℕ) (l : Line) → in_place? k l ≡ true → n ≤ 49152 → length_of l n ≤ 49152
opened-within k n (Open m) e h = go (first? k) e
  where
    go : (b : Bool) → both b (leb m 49152) ≡ true → m ≤ 49152
    go true q = leb-true m 49152 q
    go false q = let z : ◌≡◌ {A = ℕ} 0 1 = cc in absurd (omega arith)
opened-within k n (Grant m) e h = h
opened-within k n (Release m) e h = h
opened-within k n (Resize m j) e h = h
opened-within k n Settle e h = h
opened-within k n Other e h = h

-- ---- a byte, and the end of the script; p was printed before
silent : (p : List ℕ) (s : Run) → step s p ≡ behind p (step s [])
silent p s = ap (step s) (sym (append-nil p))

pub byte-ended : (p : List ℕ) (b : ℕ) (a r t : List ℕ) (k n : ℕ) (e : Bool) → e ≡ true → step (run a r t k n e) p ≡ behind p (byte_step b (run a r t k n e))
unfolding byte_step
byte-ended p b a r t k n e h = rw h (silent p (run a r t k n true))

pub byte-newline : (p : List ℕ) (b : ℕ) (a r t : List ℕ) (k n : ℕ) (e : Bool) {y : Step} → e ≡ false → b ≡ 10 → y ≡ behind p (line_step (run a r t k n e))
    → y ≡ behind p (byte_step b (run a r t k n e))
unfolding byte_step
byte-newline p b a r t k n e h q u = rw (h, q) (rw h at u)

byte-fed : (b : ℕ) (a r t : List ℕ) (k n : ℕ) → (b ≡ 10 → ⊥) → step (run a r (take kept_bytes (t ++ (b ∷ []))) k n false) [] ≡ byte_step b (run a r t k n false)
unfolding byte_step
byte-fed b a r t k n q = rw (byte_step, ne_eqb b 10 q)

pub byte-other : (p : List ℕ) (b : ℕ) (a r t : List ℕ) (k n : ℕ) (e : Bool) {t' : List ℕ} → e ≡ false → (b ≡ 10 → ⊥) → t' ≡ take kept_bytes (t ++ (b ∷ []))
    → step (run a r t' k n e) p ≡ behind p (byte_step b (run a r t k n e))
byte-other p b a r t k n e h q s = rw (h, s) (silent p (run a r (take kept_bytes (t ++ (b ∷ []))) k n false) ∙ ap (behind p) (byte-fed b a r t k n q))

pub end-ended : (p a r t : List ℕ) (k n : ℕ) (e : Bool) → e ≡ true → step (run a r t k n e) p ≡ behind p (end_step (run a r t k n e))
unfolding end_step
end-ended p a r t k n e h = rw h (silent p (run a r t k n true))

pub end_none : (p a r t : List ℕ) (k n : ℕ) (e : Bool) → e ≡ false → t ≡ [] → step (run a r t k n e) p ≡ behind p (end_step (run a r t k n e))
unfolding end_step
end_none p a r t k n e h q = rw (h, q) (silent p (run a r [] k n false))

pub end_line : (p a r t : List ℕ) (k n : ℕ) (e : Bool) {y : Step} → e ≡ false → 0 < length t → y ≡ behind p (line_step (run a r t k n e)) → y ≡ behind p (end_step (run a r t k n e))
unfolding end_step
end_line p a r [] k n e h l u = absurd (omega arith)
end_line p a r (b ∷ t) k n e h l u = rw h (rw h at u)

-- ---- a piece: its bytes and then one more
behind-behind : (p q : List ℕ) (x : Step) → behind p (behind q x) ≡ behind (p ++ q) x
behind-behind p q (step s o) = ap (step s) (sym (append_assoc p q o))

on-behind : (p : List ℕ) (x : Step) (f : Run → Step) → and_on (behind p x) f ≡ behind p (and_on x f)
on-behind p (step s o) f = sym (behind-behind p o (f s))

on-silent : (x : Step) → and_on x (λ s. step s []) ≡ x
on-silent (step s o) = ap (step s) (append-nil o)

on-on : (x : Step) (f g : Run → Step) → and_on (and_on x f) g ≡ and_on x (λ s. and_on (f s) g)
on-on (step s o) f g = on-behind o (f s) g

on_same : (x : Step) {f g : Run → Step} → ((s : Run) → f s ≡ g s) → and_on x f ≡ and_on x g
on_same (step s o) h = ap (behind o) (h s)

piece-snoc : (t : List ℕ) (b : ℕ) (s : Run) → piece_step (t ++ (b ∷ [])) s ≡ and_on (piece_step t s) (byte_step b)
unfolding piece_step
piece-snoc [] b s = on-silent (byte_step b s) ∙ sym (nothing (byte_step b s))
  where
    nothing : (x : Step) → behind [] x ≡ x
    nothing (step s o) = refl
piece-snoc (c ∷ t) b s = on_same (byte_step c s) (piece-snoc t b) ∙ sym (on-on (byte_step c s) (piece_step t) (byte_step b))

pub none-fed : (p t : List ℕ) (s : Run) → step s p ≡ behind p (piece_step (take 0 t) s)
unfolding piece_step
none-fed p t s = silent p s

pub one-fed : (p t : List ℕ) (i : ℕ) (s : Run) {s1 s2 : Run} {o1 o2 : List ℕ} → i < length t → step s1 o1 ≡ behind p (piece_step (take i t) s)
    → step s2 o2 ≡ behind o1 (byte_step (get_or t i 0) s1) → step s2 o2 ≡ behind p (piece_step (take (i + 1) t) s)
one-fed p t i s h e q =
    q ∙ ap (λ (x : Step). and_on x (byte_step (get_or t i 0))) e ∙ on-behind p (piece_step (take i t) s) (byte_step (get_or t i 0))
    ∙ rw (add-one, take-suc t i 0 h) (ap (behind p) (sym (piece-snoc (take i t) (get_or t i 0) s)))
