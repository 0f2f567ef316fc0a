-- A state's record has the bytes of the heap that is read; but for what was chosen at its open it has those of the words before that, of which an open gives the first,
-- the length.
-- Assumes nothing.
use Rattle.std.specs.Prelude.{◌≡◌, refl, List, [], ◌∷◌, ◌++◌, map, ℕ, ◌*◌, length, take, drop}
use Rattle.std.proofs.Common.{sym, ap, ◌∙◌, subst, append_assoc, arith, length-append}
use Rattle.std.proofs.Math.Seq.{take-append_seam}
use Rattle.le.specs.Number.{digits, bytes}
use Rattle.le.specs.WordsLaws.{length-bytes, bytes-words}
use Rattle.sizes.specs.Limits.{none32, record_words, cache_lists}
use Rattle.machine.specs.Lists.{hd}
use Rattle.machine.specs.Heap.{Heap, top_of, ends, halves, record_of}
use Rattle.sound.specs.Relation.{Good}
use Rattle.sound.specs.RecordOf.{record-length}
use Rattle.history.specs.Histories.{State, state, heap_at, record_in, Choice}
use Rattle.history.specs.Ready.{ReadyAt}
use Rattle.history.specs.Agrees.{but_choice, but_given}
use Rattle.history.specs.Like.{Given, with_given}
use Rattle.history.specs.Chosen.{with_choice}

pub record-bytes : (s : State) → ReadyAt s → record_in s ≡ bytes 4 (record_of (heap_at s))
record-bytes (state a r bs) R = sym (bytes-words 4 record_words r R.lent.long R.lent.words) ∙ ap (bytes 4) R.sound.rec

-- ---- the words of what was chosen, and those before them
abbrev chosen : Heap → List ℕ
chosen h = halves h.key ++ h.edition ∷ []

before_choice : Heap → List ℕ
before_choice h =
    (h.len ∷ top_of h ∷ h.remainder ∷ [])
    ++ (map (λ l. hd none32 l) (take cache_lists h.stacks)
    ++ (map (λ l. length l) (take cache_lists h.stacks)
    ++ (map (λ l. hd none32 l) (drop cache_lists h.stacks)
    ++ ends (drop 1 h.bins))))

append-last : (a b c d e : List ℕ) → a ++ (b ++ (c ++ (d ++ e))) ≡ (a ++ (b ++ (c ++ d))) ++ e
append-last a b c d e =
    sym (append_assoc a (b ++ (c ++ d)) e
    ∙ ap (λ (l : List ℕ). a ++ l) (append_assoc b (c ++ d) e ∙ ap (λ (l : List ℕ). b ++ l) (append_assoc c d e)))

record-parts : (h : Heap) → record_of h ≡ before_choice h ++ chosen h
unfolding record_of before_choice
record-parts h =
    ap (λ (l : List ℕ). h.len ∷ top_of h ∷ h.remainder ∷ l)
    (append-last (map (λ l. hd none32 l) (take cache_lists h.stacks)) (map (λ l. length l) (take cache_lists h.stacks))
    (map (λ l. hd none32 l) (drop cache_lists h.stacks)) (ends (drop 1 h.bins)) (chosen h))

bytes-append : (n : ℕ) (xs ys : List ℕ) → bytes n (xs ++ ys) ≡ bytes n xs ++ bytes n ys
unfolding bytes
bytes-append n [] ys = refl
bytes-append n (x ∷ xs) ys = ap (λ (l : List ℕ). digits n x ++ l) (bytes-append n xs ys) ∙ sym (append_assoc (digits n x) (bytes n xs) (bytes n ys))

-- the first m bytes of a list's are those of its first words
take-bytes : (n m : ℕ) (xs ys : List ℕ) → n * length xs ≡ m → take m (bytes n (xs ++ ys)) ≡ bytes n xs
take-bytes n m xs ys e =
    ap (take m) (bytes-append n xs ys)
    ∙ subst (λ (k : ℕ). take k (bytes n xs ++ bytes n ys) ≡ bytes n xs) (length-bytes n xs ∙ e) (take-append_seam (bytes n xs) (bytes n ys))

front : (h : Heap) → Good h → but_choice (bytes 4 (record_of h)) ≡ bytes 4 (before_choice h)
front h G =
    let e = record-parts h in
    let l : length (record_of h) ≡ 396 = record-length h G.shape.stacked74 G.shape.binned127 in
    ap (λ (l : List ℕ). but_choice (bytes 4 l)) e
    ∙ take-bytes 4 1572 (before_choice h) (chosen h) (omega (arith, l, ap length e, length-append (before_choice h) (chosen h)))

-- ---- of heaps that are equal but for what was chosen, and but for all that was given
pub records-choice : (q : Choice) (h g : Heap) → Good h → Good g → g ≡ with_choice q h → but_choice (bytes 4 (record_of h)) ≡ but_choice (bytes 4 (record_of g))
unfolding before_choice
records-choice q h g G G' e = front h G ∙ ap (λ (k : Heap). bytes 4 (before_choice k)) (sym e) ∙ sym (front g G')

pub records-given : (w : Given → Given) (h g : Heap) → Good h → Good g → g ≡ with_given w h → but_given (bytes 4 (record_of h)) ≡ but_given (bytes 4 (record_of g))
unfolding before_choice bytes digits
records-given w h g G G' e = ap (drop 4) (front h G) ∙ ap (λ (k : Heap). drop 4 (bytes 4 (before_choice k))) (sym e) ∙ sym (ap (drop 4) (front g G'))
