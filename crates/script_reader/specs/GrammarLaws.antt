-- Laws of the grammar: the forms of documents 01 and 02 by computation, and that the first 18 bytes of a line decide what it means. Assumes nothing.
use Rattle.std.specs.Prelude.{◌≡◌, refl, List, [], ◌∷◌, map, Bool, true, false, ℕ, zero, suc, ◌-◌, ◌≤◌, ◌<◌, eqb, leb, length, take, Option, None}
use Rattle.std.proofs.Common.{sym, ap, ◌∙◌, arith, length-take, take_all, le-leb, leb-true, leb-false}
use Rattle.std.proofs.lemmas.Bool.{lt-leb}
use Rattle.text.specs.Text.{blank}
use Rattle.script.specs.Grammar.{letter_z, digits_from, number_of, numbered, before_blank, behind_blank, resized, resize_of, spaced, line_of, kept_bytes}
use Rattle.script.specs.declared.Line.{Line}
use Rattle.script.specs.declared.Line.TheVariants.{Open, Grant, Release, Resize, Settle, Other}

-- A 256, G 24, R 16, Z 16 40, S, G 0000024, G 9999999, Z 0000016 9999999
pub good-forms : map line_of (
    (65 ∷ 32 ∷ 50 ∷ 53 ∷ 54 ∷ [])
    ∷ (71 ∷ 32 ∷ 50 ∷ 52 ∷ [])
    ∷ (82 ∷ 32 ∷ 49 ∷ 54 ∷ [])
    ∷ (90 ∷ 32 ∷ 49 ∷ 54 ∷ 32 ∷ 52 ∷ 48 ∷ [])
    ∷ (83 ∷ [])
    ∷ (71 ∷ 32 ∷ 48 ∷ 48 ∷ 48 ∷ 48 ∷ 48 ∷ 50 ∷ 52 ∷ [])
    ∷ (71 ∷ 32 ∷ 57 ∷ 57 ∷ 57 ∷ 57 ∷ 57 ∷ 57 ∷ 57 ∷ [])
    ∷ (90 ∷ 32 ∷ 48 ∷ 48 ∷ 48 ∷ 48 ∷ 48 ∷ 49 ∷ 54 ∷ 32 ∷ 57 ∷ 57 ∷ 57 ∷ 57 ∷ 57 ∷ 57 ∷ 57 ∷ [])
    ∷ []) ≡ Open 256 ∷ Grant 24 ∷ Release 16 ∷ Resize 16 40 ∷ Settle ∷ Grant 24 ∷ Grant 9999999 ∷ Resize 16 9999999 ∷ []
unfolding line_of number_of digits_from before_blank behind_blank
good-forms = refl

-- of another form: an empty line, 8 digits, no number, no blank, two blanks, a tab, a blank behind, CR behind, NUL, S 1, a small letter
pub other-forms : map line_of (
    []
    ∷ (71 ∷ 32 ∷ 48 ∷ 48 ∷ 48 ∷ 48 ∷ 48 ∷ 48 ∷ 50 ∷ 52 ∷ [])
    ∷ (71 ∷ 32 ∷ [])
    ∷ (71 ∷ 50 ∷ 52 ∷ [])
    ∷ (71 ∷ 32 ∷ 32 ∷ 50 ∷ [])
    ∷ (71 ∷ 9 ∷ 50 ∷ [])
    ∷ (71 ∷ 32 ∷ 50 ∷ 32 ∷ [])
    ∷ (83 ∷ 13 ∷ [])
    ∷ (0 ∷ [])
    ∷ (83 ∷ 32 ∷ 49 ∷ [])
    ∷ (103 ∷ 32 ∷ 50 ∷ [])
    ∷ []) ≡ Other ∷ Other ∷ Other ∷ Other ∷ Other ∷ Other ∷ Other ∷ Other ∷ Other ∷ Other ∷ Other ∷ []
unfolding line_of number_of digits_from
other-forms = refl

-- and with Z: no number, one, one and a blank, two blanks in front, between, one behind, 8 digits in the first, in the second, a third number, a tab between,
-- no blank in front, a sign
pub other-resizes : map line_of (
    (90 ∷ [])
    ∷ (90 ∷ 32 ∷ 49 ∷ 54 ∷ [])
    ∷ (90 ∷ 32 ∷ 49 ∷ 54 ∷ 32 ∷ [])
    ∷ (90 ∷ 32 ∷ 32 ∷ 49 ∷ 54 ∷ 32 ∷ 52 ∷ 48 ∷ [])
    ∷ (90 ∷ 32 ∷ 49 ∷ 54 ∷ 32 ∷ 32 ∷ 52 ∷ 48 ∷ [])
    ∷ (90 ∷ 32 ∷ 49 ∷ 54 ∷ 32 ∷ 52 ∷ 48 ∷ 32 ∷ [])
    ∷ (90 ∷ 32 ∷ 48 ∷ 48 ∷ 48 ∷ 48 ∷ 48 ∷ 48 ∷ 49 ∷ 54 ∷ 32 ∷ 52 ∷ 48 ∷ [])
    ∷ (90 ∷ 32 ∷ 49 ∷ 54 ∷ 32 ∷ 48 ∷ 48 ∷ 48 ∷ 48 ∷ 48 ∷ 48 ∷ 52 ∷ 48 ∷ [])
    ∷ (90 ∷ 32 ∷ 49 ∷ 54 ∷ 32 ∷ 52 ∷ 48 ∷ 32 ∷ 49 ∷ [])
    ∷ (90 ∷ 32 ∷ 49 ∷ 54 ∷ 9 ∷ 52 ∷ 48 ∷ [])
    ∷ (90 ∷ 49 ∷ 54 ∷ 32 ∷ 52 ∷ 48 ∷ [])
    ∷ (90 ∷ 32 ∷ 49 ∷ 54 ∷ 32 ∷ 45 ∷ 49 ∷ [])
    ∷ []) ≡ Other ∷ Other ∷ Other ∷ Other ∷ Other ∷ Other ∷ Other ∷ Other ∷ Other ∷ Other ∷ Other ∷ Other ∷ []
unfolding line_of number_of digits_from before_blank behind_blank
other-resizes = refl

-- a number of more than 7 digits is none, so 8 bytes decide
pub number-long : (l : List ℕ) → 7 < length l → number_of l ≡ None
unfolding number_of
number-long l h = rw (number_of, le-leb 1 (length l) (omega arith), lt-leb (length l) 7 h)

number_of-take : (k : ℕ) (l : List ℕ) → 8 ≤ k → number_of (take k l) ≡ number_of l
number_of-take k l h = go (leb (length l) k) refl
  where
    go : (b : Bool) → leb (length l) k ≡ b → number_of (take k l) ≡ number_of l
    go true e = ap number_of (take_all k l (leb-true (length l) k e))
    go false e =
        let q : k < length l = leb-false (length l) k e in
        number-long (take k l) (simp length-take (omega arith)) ∙ sym (number-long l (omega arith))

-- ---- two numbers: 7 bytes, a blank and 8 more decide
before_blank-take : (k : ℕ) (l : List ℕ) → before_blank (take k l) ≡ take k (before_blank l)
unfolding before_blank
before_blank-take zero l = refl
before_blank-take (suc k) [] = refl
before_blank-take (suc k) (b ∷ l) = go (before_blank-take k l) (eqb b blank)
  where
    go : before_blank (take k l) ≡ take k (before_blank l) → (x : Bool)
        → elim x [ true ↦ [] | false ↦ b ∷ before_blank (take k l) ] ≡ take {A = ℕ} (suc k) (elim x [ true ↦ [] | false ↦ b ∷ before_blank l ])
    go e true = refl
    go e false = ap (λ (m : List ℕ). b ∷ m) e

behind_blank-take : (k : ℕ) (l : List ℕ) → behind_blank (take k l) ≡ take (k - suc (length (before_blank l))) (behind_blank l)
unfolding before_blank behind_blank
behind_blank-take zero l = let e : 0 - suc (length (before_blank l)) ≡ 0 = omega arith in rw e
behind_blank-take (suc k) [] = sym (take_all (suc k - 1) [] (omega arith))
behind_blank-take (suc k) (b ∷ l) = go (behind_blank-take k l) (eqb b blank)
  where
    go : behind_blank (take k l) ≡ take (k - suc (length (before_blank l))) (behind_blank l) → (x : Bool)
        → elim x [ true ↦ take k l | false ↦ behind_blank (take k l) ]
        ≡ take {A = ℕ} (suc k - suc (length {A = ℕ} (elim x [ true ↦ [] | false ↦ b ∷ before_blank l ]))) (elim x [ true ↦ l | false ↦ behind_blank l ])
    go e true = let m : suc k - 1 ≡ k = omega arith in rw m
    go e false = let m : suc k - suc (suc (length (before_blank l))) ≡ k - suc (length (before_blank l)) = omega arith in rw m e

resize_of-take : (k : ℕ) (l : List ℕ) → 16 ≤ k → resize_of (take k l) ≡ resize_of l
resize_of-take k l h = rw (before_blank-take k l, number_of-take k (before_blank l) (omega arith), behind_blank-take k l) (go (leb (length (before_blank l)) 7) refl)
  where
    rest : ℕ
    rest = k - suc (length (before_blank l))

    go : (b : Bool) → leb (length (before_blank l)) 7 ≡ b
        → resized (number_of (before_blank l)) (number_of (take rest (behind_blank l))) ≡ resize_of l
    go true e = let q : length (before_blank l) ≤ 7 = leb-true (length (before_blank l)) 7 e in rw (number_of-take rest (behind_blank l) (omega arith))
    go false e = rw (number-long (before_blank l) (leb-false (length (before_blank l)) 7 e))

spaced-take : (k x : ℕ) (l : List ℕ) → 16 ≤ k → spaced x (take k l) ≡ spaced x l
spaced-take k x l h = go (eqb x letter_z)
  where
    go : (b : Bool)
        → ◌≡◌ {A = Line} (elim b [ true ↦ resize_of (take k l) | false ↦ numbered x (number_of (take k l)) ]) (elim b [ true ↦ resize_of l | false ↦ numbered x (number_of l) ])
    go true = resize_of-take k l h
    go false = ap (λ (n : Option ℕ). numbered x n) (number_of-take k l (omega arith))

-- a line longer than the longest good one is of another form, whatever follows its first 18 bytes
pub line_of-take : (l : List ℕ) → line_of (take kept_bytes l) ≡ line_of l
unfolding line_of
line_of-take [] = refl
line_of-take (x ∷ []) = refl
line_of-take (x ∷ y ∷ l) = go (eqb y blank)
  where
    go : (b : Bool) → ◌≡◌ {A = Line} (elim b [ true ↦ spaced x (take (kept_bytes - 2) l) | false ↦ Other ]) (elim b [ true ↦ spaced x l | false ↦ Other ])
    go true = spaced-take (kept_bytes - 2) x l (omega arith)
    go false = refl
