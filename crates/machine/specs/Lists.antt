-- The few list functions that the machine speaks with. Definitions only.
use Rattle.std.specs.Prelude.{List, [], ◌∷◌, Bool, true, false, ℕ, zero, suc, ◌+◌, eqb, ltb}

abbrev pub both : Bool → Bool → Bool
both true b = b
both false b = false

abbrev pub either : Bool → Bool → Bool
either true b = true
either false b = b

-- the first of a list, or n where there is none; the last, or n; all but the first
abbrev pub hd : ℕ → List ℕ → ℕ
hd n [] = n
hd n (x ∷ l) = x

abbrev pub lst : ℕ → List ℕ → ℕ
lst n [] = n
lst n (x ∷ l) = lst x l

abbrev pub tl : List ℕ → List ℕ
tl [] = []
tl (x ∷ l) = l

-- what stands before c in a list, and what after it
abbrev pub pre : ℕ → List ℕ → List ℕ
pre c [] = []
pre c (x ∷ l) = elim (eqb c x) [ true ↦ [] | false ↦ x ∷ pre c l ]

abbrev pub post : ℕ → List ℕ → List ℕ
post c [] = []
post c (x ∷ l) = elim (eqb c x) [ true ↦ l | false ↦ post c l ]

abbrev pub some? : List ℕ → Bool
some? [] = false
some? (x ∷ l) = true

abbrev pub any? : List (List ℕ) → Bool
any? [] = false
any? (l ∷ ls) = either (some? l) (any? ls)

-- how often x stands in a list; in a list of lists
abbrev pub ind : Bool → ℕ
ind true = 1
ind false = 0

abbrev pub cnt : ℕ → List ℕ → ℕ
cnt x [] = 0
cnt x (y ∷ l) = ind (eqb x y) + cnt x l

abbrev pub cnt_all : ℕ → List (List ℕ) → ℕ
cnt_all x [] = 0
cnt_all x (l ∷ ls) = cnt x l + cnt_all x ls

abbrev pub has? : ℕ → List ℕ → Bool
has? x l = ltb 0 (cnt x l)

-- l without the first x in it; without each of the second list in turn
abbrev pub without : ℕ → List ℕ → List ℕ
without x [] = []
without x (y ∷ l) = elim (eqb x y) [ true ↦ l | false ↦ y ∷ without x l ]

abbrev pub minus : List ℕ → List ℕ → List ℕ
minus l [] = l
minus l (x ∷ m) = minus (without x l) m

-- n lists: f i, f (i + 1), ..
abbrev pub tabulate : ℕ → (ℕ → List ℕ) → ℕ → List (List ℕ)
tabulate zero f i = []
tabulate (suc n) f i = f i ∷ tabulate n f (suc i)
