-- What the searches of steps 6 and 7 find, and where their walks are. Definitions only.
use Rattle.std.specs.Prelude.{◌≡◌, Bool, true, false, List, [], ◌∷◌, ◌++◌, ◌⊎◌, ℕ, zero, suc, ◌-◌, ◌≤◌, ◌<◌, eqb, length, get_or, Option, Some}
use Rattle.sizes.specs.Limits.{none64, last_bin}
use Rattle.sizes.specs.Layout.{back_word}
use Rattle.machine.specs.Lists.{lst, cnt}
use Rattle.machine.specs.Heap.{Heap, bin, size_of}
use Rattle.machine.specs.Grant.{second, first_bin}
use Rattle.machine.specs.View.{size_at}
use Rattle.sound.specs.Relation.{Mem, Shape}
use Rattle.primitives.specs.Follow.{Ok}

-- ---- from the last chunk of bin j back to c, none64 at the end: what stands up to c, and after it only chunks smaller than b
pub record Back (h : Heap) (j b c : ℕ) : Type 0 where
  pub xs : List ℕ
  pub ys : List ℕ
  pub parts : bin h j ≡ xs ++ ys
  pub at : c ≡ lst none64 xs
  pub small : (y : ℕ) → 1 ≤ cnt y ys → size_of h y < b

-- c is the last of at least b bytes, none64 where there is none
pub record LastFit (h : Heap) (j b c : ℕ) : Type 0 where
  pub back : Back h j b c
  pub enough : (c ≡ none64 → ⊥) → b ≤ size_of h c

-- ---- p is a chunk of size z
unfoldable pub equal_at : List ℕ → ℕ → ℕ → Bool
equal_at w p z = elim (eqb p none64) [ true ↦ false | false ↦ eqb (size_at w p) z ]

-- these words are those of a heap of which P holds
pub record Spelled (P : Heap → Type 0) (w : List ℕ) : Type 0 where
  pub heap : Heap
  pub shape : Shape heap
  pub mem : Mem heap w
  pub holds : P heap

-- c stands in bin j after xs and before ys; in some bin
pub record Stands (h : Heap) (c j : ℕ) (xs ys : List ℕ) : Type 0 where
  pub parts : bin h j ≡ xs ++ c ∷ ys

pub record Standing (h : Heap) (c : ℕ) : Type 0 where
  pub bin-no : ℕ
  pub xs : List ℕ
  pub ys : List ℕ
  pub stands : Stands h c bin-no xs ys

-- l ends with chunks of size z, and with no more of them than eqs; d is the second of them, or the only one
pub record Run (sz : ℕ → ℕ) (z : ℕ) (l : List ℕ) (d : ℕ) : Type 0 where
  pub front : List ℕ
  pub eqs : List ℕ
  pub parts : l ≡ front ++ eqs
  pub same : (y : ℕ) → 1 ≤ cnt y eqs → sz y ≡ z
  pub stop : (front ≡ []) ⊎ (sz (lst none64 front) ≡ z → ⊥)
  pub is : second eqs ≡ Some d

-- the walk to it: the chunk before first is the next to be looked at
pub record Running (sz : ℕ → ℕ) (z : ℕ) (l : List ℕ) (s f p : ℕ) : Type 0 where
  pub front : List ℕ
  pub rest : List ℕ
  pub parts : l ≡ front ++ f ∷ s ∷ rest
  pub at : p ≡ lst none64 front
  pub same : (y : ℕ) → 1 ≤ cnt y (f ∷ s ∷ rest) → sz y ≡ z

abbrev pub SecondEqual : List ℕ → ℕ → ℕ → Type 0
SecondEqual w c d = (h : Heap) (j : ℕ) (xs ys : List ℕ) → Shape h → Mem h w → Stands h c j xs ys → Run (λ x. size_of h x) (size_of h c) (xs ++ c ∷ []) d

abbrev pub Walking : List ℕ → ℕ → ℕ → ℕ → ℕ → Type 0
Walking w c s f p = (h : Heap) (j : ℕ) (xs ys : List ℕ) → Shape h → Mem h w → Stands h c j xs ys → Running (λ x. size_of h x) (size_of h c) (xs ++ c ∷ []) s f p

-- ---- the chunks that a walk from c along the back links comes to, and how many they are
unfoldable pub back_from : ℕ → List ℕ → ℕ → List ℕ
back_from zero w c = []
back_from (suc n) w c = elim (eqb c none64) [ true ↦ [] | false ↦ c ∷ back_from n w (get_or w (back_word c) 0) ]

unfoldable pub left : List ℕ → ℕ → ℕ
left w c = length (back_from (length w) w c)

-- ---- g tells the first non-empty bin above j
pub record FirstBin (r : List ℕ) (j : ℕ) (g : Option ℕ) : Type 0 where
  pub most : (i : ℕ) → g ≡ Some i → i ≤ last_bin
  pub is : (h : Heap) (w : List ℕ) → Ok h w r → first_bin (last_bin - j) (suc j) h ≡ g
