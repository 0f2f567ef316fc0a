-- Byte by byte, keeping 18 bytes of a line, prints what line by line prints; and so does piece by piece, whatever the pieces. Assumes nothing.
use Rattle.std.specs.Prelude.{◌≡◌, refl, Bool, ℕ, zero, suc, eqb, take}
use Rattle.std.proofs.Common.{sym, ap, ◌∙◌}
use mathlib.Core.List.{List, [], ◌∷◌, ◌++◌, append_assoc}
use Rattle.std.proofs.Math.Bool.{true, false}
use Rattle.machine.specs.Calls.{After, after}
use Rattle.script.specs.Rules.{in_place?}
use Rattle.script.specs.Grammar.{line_of, kept_bytes}
use Rattle.script.specs.declared.Line.{Line}
use Rattle.script_reader.specs.GrammarLaws.{line_of-take}
use Rattle.text.specs.Text.{newline, question_text}
use Rattle.script_format.specs.Format.{header}
use Rattle.script_run.specs.Run.{Run, run, Step, step, behind, and_on, before_all, called, length_of, ran_step, counted, placed_step, line_step, byte_step, piece_step, end_step}
use Rattle.heaplog.specs.Script.{lines_from, and_then, printed, heaplog, printed_bytes, whole, printed_pieces}

take-take : (n : ℕ) (p q : List ℕ) → take n (take n p ++ q) ≡ take n (p ++ q)
take-take zero p q = refl
take-take (suc n) [] q = refl
take-take (suc n) (x ∷ p) q = ap (λ (l : List ℕ). x ∷ l) (take-take n p q)

-- a line is run by its meaning alone, which its first 18 bytes decide
line_step-take : (a r t : List ℕ) (k n : ℕ) → line_step (run a r (take kept_bytes t) k n false) ≡ line_step (run a r t k n false)
unfolding line_step placed_step
line_step-take a r t k n = ap (λ (l : Line). placed_step (run a r t k n false) (counted k) l) (line_of-take t)

-- after a line nothing is kept of it: two ways on that agree there agree
module _ (f g : Run → List ℕ) (same : (a r : List ℕ) (k n : ℕ) (e : Bool) → f (run a r [] k n e) ≡ g (run a r [] k n e)) where
  ran_then : (l : Line) (k n : ℕ) (c : After) → and_then (ran_step l k n c) f ≡ and_then (ran_step l k n c) g
  ran_then l k n (after a r x) = rw (same a r k n _)

  placed-then : (a r t : List ℕ) (j n k : ℕ) (l : Line) → and_then (placed_step (run a r t j n false) k l) f ≡ and_then (placed_step (run a r t j n false) k l) g
  unfolding placed_step
  placed-then a r t j n k l = go (in_place? k l)
    where
      go : (b : Bool) → and_then (elim b [ true ↦ ran_step l k (length_of l n) (called a r (length_of l n) l) | false ↦ step (run a r [] k n true) (question_text k) ]) f
          ≡ and_then (elim b [ true ↦ ran_step l k (length_of l n) (called a r (length_of l n) l) | false ↦ step (run a r [] k n true) (question_text k) ]) g
      go true = ran_then l k (length_of l n) (called a r (length_of l n) l)
      go false = rw (same a r k n true)

  line-then : (a r t : List ℕ) (k n : ℕ) → and_then (line_step (run a r t k n false)) f ≡ and_then (line_step (run a r t k n false)) g
  unfolding line_step
  line-then a r t k n = placed-then a r t k n (counted k) (line_of t)

-- nothing follows the end of the run
ended-bytes : (t : List ℕ) (a r p : List ℕ) (k n : ℕ) → printed_bytes t (run a r p k n true) ≡ []
unfolding printed_bytes byte_step end_step
ended-bytes [] a r p k n = refl
ended-bytes (b ∷ t) a r p k n = ended-bytes t a r p k n

ended-lines : (ls : List (List ℕ)) (a r p : List ℕ) (k n : ℕ) → printed ls (run a r p k n true) ≡ []
unfolding printed
ended-lines [] a r p k n = refl
ended-lines (l ∷ ls) a r p k n = refl

-- the idea: the kept bytes stand for the bytes p of the line so far
pub bytes-lines : (t p : List ℕ) (a r : List ℕ) (k n : ℕ) → printed_bytes t (run a r (take kept_bytes p) k n false) ≡ printed (lines_from p t) (run a r [] k n false)
unfolding printed_bytes byte_step end_step printed lines_from
bytes-lines [] [] a r k n = refl
bytes-lines [] (b ∷ p) a r k n = ap (λ (s : Step). and_then s (λ _. [])) (line_step-take a r (b ∷ p) k n)
bytes-lines (b ∷ t) p a r k n = go (λ q a r k n. bytes-lines t q a r k n) (eqb b newline)
  where
    Rest : Type 0
    Rest = (q a r : List ℕ) (k n : ℕ) → printed_bytes t (run a r (take kept_bytes q) k n false) ≡ printed (lines_from q t) (run a r [] k n false)

    on : Rest → (a r : List ℕ) (k n : ℕ) (e : Bool) → printed_bytes t (run a r [] k n e) ≡ printed (lines_from [] t) (run a r [] k n e)
    on rest a r k n true = ended-bytes t a r [] k n ∙ sym (ended-lines (lines_from [] t) a r [] k n)
    on rest a r k n false = rest [] a r k n

    go : Rest → (x : Bool)
        → and_then (elim x [ true ↦ line_step (run a r (take kept_bytes p) k n false) | false ↦ step (run a r (take kept_bytes (take kept_bytes p ++ (b ∷ []))) k n false) [] ]) (printed_bytes t)
        ≡ printed (elim x [ true ↦ p ∷ lines_from [] t | false ↦ lines_from (p ++ (b ∷ [])) t ]) (run a r [] k n false)
    go rest true =
        ap (λ (s : Step). and_then s (printed_bytes t)) (line_step-take a r p k n)
        ∙ line-then (printed_bytes t) (printed (lines_from [] t)) (on rest) a r p k n
    go rest false = rw (take-take kept_bytes p (b ∷ [])) (rest (p ++ (b ∷ [])) a r k n)

-- heaplog, byte by byte
pub heaplog-bytes : (text : List ℕ) → header ++ printed_bytes text before_all ≡ heaplog text
unfolding heaplog
heaplog-bytes text = ap (λ (l : List ℕ). header ++ l) (bytes-lines text [] _ _ 0 0)

then-behind : (p : List ℕ) (x : Step) (f : Run → List ℕ) → and_then (behind p x) f ≡ p ++ and_then x f
then-behind p (step s o) f = append_assoc p o (f s)

then-on : (x : Step) (f : Run → Step) (g : Run → List ℕ) → and_then (and_on x f) g ≡ and_then x (λ s. and_then (f s) g)
then-on (step s o) f g = then-behind o (f s) g

then_same : (x : Step) {f g : Run → List ℕ} → ((s : Run) → f s ≡ g s) → and_then x f ≡ and_then x g
then_same (step s o) h = ap (λ (l : List ℕ). o ++ l) (h s)

piece_bytes : (t u : List ℕ) (s : Run) → and_then (piece_step t s) (printed_bytes u) ≡ printed_bytes (t ++ u) s
unfolding piece_step printed_bytes
piece_bytes [] u s = refl
piece_bytes (b ∷ t) u s = then-on (byte_step b s) (piece_step t) (printed_bytes u) ∙ then_same (byte_step b s) (piece_bytes t u)

pieces-bytes : (ps : List (List ℕ)) (s : Run) → printed_pieces ps s ≡ printed_bytes (whole ps) s
unfolding printed_pieces printed_bytes whole
pieces-bytes [] s = refl
pieces-bytes (p ∷ ps) s = then_same (piece_step p s) (pieces-bytes ps) ∙ piece_bytes p (whole ps) s

-- heaplog, as the code goes: the header, each piece that is read, and the end
pub heaplog-pieces : (ps : List (List ℕ)) → header ++ printed_pieces ps before_all ≡ heaplog (whole ps)
heaplog-pieces ps = ap (λ (l : List ℕ). header ++ l) (pieces-bytes ps before_all) ∙ heaplog-bytes (whole ps)
