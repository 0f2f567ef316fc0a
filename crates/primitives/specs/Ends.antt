-- A link of a bin that is set where there is a chunk, and else the bin's end in the record: what `link_fwd` and `link_back` do to the words and to the record,
-- and that this is what the machine's lists say. Assumes nothing.
use Rattle.std.specs.Prelude.{◌≡◌, refl, true, false, List, [], ◌∷◌, ℕ, ◌+◌, ◌%◌, ◌≤◌, eqb, length, get_or, set}
use Rattle.std.proofs.Common.{sym, ap, ◌∙◌, ⊎_elim, arith, eq-eqb, ne_eqb}
use Rattle.le.specs.Arena.{arena_words}
use Rattle.sizes.specs.Limits.{none64, unsorted}
use Rattle.sizes.specs.Sizes.{bin_of}
use Rattle.machine.specs.Lists.{hd, lst}
use Rattle.machine.specs.Count.{eq?, cnt-here}
use Rattle.machine.specs.Writes.{fwd, back, put, apply}
use Rattle.machine.specs.Primitives.{fwd_to, back_to}
use Rattle.chunk_fields.specs.Links.{down}
use Rattle.sound.specs.Lists.{lst-in}
use Rattle.sound.specs.RecordOf.{set-id}
use Rattle.primitives.specs.Chunks.{Chunk, Chunks, in_bytes}

-- the forward link of p becomes x, the back link of n; nothing where there is none
unfoldable pub link_fwd : List ℕ → ℕ → ℕ → List ℕ
link_fwd w p x = elim (eqb p none64) [ true ↦ w | false ↦ put (fwd p x) w ]

unfoldable pub link_back : List ℕ → ℕ → ℕ → List ℕ
link_back w n x = elim (eqb n none64) [ true ↦ w | false ↦ put (back n x) w ]

-- the record's word i becomes x where p is none
unfoldable pub link_end : List ℕ → ℕ → ℕ → ℕ → List ℕ
link_end r i p x = elim (eqb p none64) [ true ↦ set r i (down x) | false ↦ r ]

-- the bin of a chunk c of size z by v, an end of unsorted
unfoldable pub bin_by : ℕ → ℕ → ℕ → ℕ
bin_by v c z = elim (eqb v c) [ true ↦ unsorted | false ↦ bin_of z ]

-- p is none, or a chunk with its links in an arena of n bytes
abbrev pub Leads : ℕ → ℕ → Type 0
Leads n p = (p ≡ none64 → ⊥) → (p % 8 ≡ 0) × (p + 32 ≤ n)

-- ---- by the test
pub link_fwd-none : (w : List ℕ) (p x : ℕ) → p ≡ none64 → link_fwd w p x ≡ w
unfolding link_fwd
link_fwd-none w p x e = rw (eq-eqb p none64 e, link_fwd)

pub link_fwd-some : (w : List ℕ) (p x : ℕ) → (p ≡ none64 → ⊥) → link_fwd w p x ≡ put (fwd p x) w
unfolding link_fwd
link_fwd-some w p x e = rw (ne_eqb p none64 e, link_fwd)

pub link_back-none : (w : List ℕ) (n x : ℕ) → n ≡ none64 → link_back w n x ≡ w
unfolding link_back
link_back-none w n x e = rw (eq-eqb n none64 e, link_back)

pub link_back-some : (w : List ℕ) (n x : ℕ) → (n ≡ none64 → ⊥) → link_back w n x ≡ put (back n x) w
unfolding link_back
link_back-some w n x e = rw (ne_eqb n none64 e, link_back)

pub link_end-none : (r : List ℕ) (i p x : ℕ) → p ≡ none64 → link_end r i p x ≡ set r i (down x)
unfolding link_end
link_end-none r i p x e = rw (eq-eqb p none64 e, link_end)

pub link_end-some : (r : List ℕ) (i p x : ℕ) → (p ≡ none64 → ⊥) → link_end r i p x ≡ r
unfolding link_end
link_end-some r i p x e = rw (ne_eqb p none64 e, link_end)

pub bin_by-same : (v c z : ℕ) → v ≡ c → bin_by v c z ≡ unsorted
unfolding bin_by
bin_by-same v c z e = rw (eq-eqb v c e, bin_by)

pub bin_by-other : (v c z : ℕ) → (v ≡ c → ⊥) → bin_by v c z ≡ bin_of z
unfolding bin_by
bin_by-other v c z e = rw (ne_eqb v c e, bin_by)

-- ---- the ends of two parts of a bin
module _ (w : List ℕ) where
  pub not_none : (c : ℕ) → Chunk w c → c ≡ none64 → ⊥
  not_none c k e = omega (arith, k.small)

  pub fwd-words : (v xs : List ℕ) (x : ℕ) → Chunks w xs → link_fwd v (lst none64 xs) x ≡ apply (fwd_to xs x) v
  fwd-words v [] x k = link_fwd-none v none64 x refl
  fwd-words v (y ∷ xs) x k = link_fwd-some v (lst y xs) x (not_none (lst y xs) (k (lst y xs) (lst-in y xs)))

  pub back-words : (v ys : List ℕ) (x : ℕ) → Chunks w ys → link_back v (hd none64 ys) x ≡ apply (back_to ys x) v
  back-words v [] x k = link_back-none v none64 x refl
  back-words v (y ∷ ys) x k = link_back-some v y x (not_none y (k y (cnt-here y ys)))

-- where such an end leads, in the bytes
pub hd-leads : (a l : List ℕ) → Chunks (arena_words a) l → Leads (length a) (hd none64 l)
hd-leads a [] k ne = absurd (ne refl)
hd-leads a (x ∷ l) k ne = let i = in_bytes a x (k x (cnt-here x l)) in (omega arith, omega arith)

pub lst-leads : (a l : List ℕ) → Chunks (arena_words a) l → Leads (length a) (lst none64 l)
lst-leads a [] k ne = absurd (ne refl)
lst-leads a (x ∷ l) k ne = let i = in_bytes a (lst x l) (k (lst x l) (lst-in x l)) in (omega arith, omega arith)

-- a call that keeps the arena's length keeps where a link leads
pub leads-kept : (m n p : ℕ) → m ≡ n → Leads n p → Leads m p
leads-kept m n p e l ne = ((l ne).0, omega (arith, (l ne).1))

-- the record's word m is v after it: it is set, or has that value
pub end-set : (r : List ℕ) (i m p x v : ℕ) → (p ≡ none64 → (i ≡ m) × (down x ≡ v)) → ((p ≡ none64 → ⊥) → get_or r m 0 ≡ v) → link_end r i p x ≡ set r m v
end-set r i m p x v f g =
    ⊎_elim
    (λ e. link_end-none r i p x e ∙ ap (λ (n : ℕ). set r n (down x)) (f e).0 ∙ ap (set r m) (f e).1)
    (λ e. link_end-some r i p x e ∙ sym (set-id r m v (g e)))
    (eq? p none64)
