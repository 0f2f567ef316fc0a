-- A heap whose only fault is a count, a last or a skip link loses no free chunk: each of its lists is reached whole. The walk asks for heads, links, sizes, back links and keys, and for
-- none of these. Assumes nothing.
use Rattle.std.specs.Prelude.{◌≡◌, Bool, ℕ, zero, suc, ◌+◌, ◌*◌, ◌≤◌, ◌<◌, eqb, ltb, length, get_or, Ok}
use Rattle.std.proofs.Math.Path.{refl, ap}
use Rattle.std.proofs.Common.{sym, ◌∙◌, ⊎_elim, not-suc-le-zero, arith, eq-eqb, ne_eqb, lt-ltb}
use mathlib.Core.List.{List, [], ◌∷◌}
use Rattle.std.proofs.Math.Bool.{true, false}
use Rattle.sizes.specs.Limits.{none64, cache_room, newest}
use Rattle.sizes.specs.Layout.{top_word, key_word}
use Rattle.machine.specs.Lists.{both, either, cnt, cnt_all, has?, without, minus, tabulate}
use Rattle.machine.specs.Count.{eq?}
use Rattle.machine.specs.Heap.{Heap, total, bin_from}
use Rattle.machine.specs.View.{size_at, kind_at, head_word, links_by, list_at, tiles_of, key_in, edition_in, view, up, chunks_by}
use Rattle.machine.specs.Audit.{key_ok, may_stand, record_fault, tile_fault, list_fault, audit_by, lists}
use Rattle.machine.specs.declared.ListKind.{ListKind}
use Rattle.machine.specs.declared.ListKind.TheVariants.{Cache, Fast, Bin}
use Rattle.sound.specs.Relation.{SoundBy}
use Rattle.audit_walks.specs.Tests.{first-sound}
use Rattle.audit_walks.specs.Marks.{starts_of}
use Rattle.audit.specs.Spelled.{lists_of, lists_of-length, view-lists, total-lists}
use Rattle.audit.specs.Exact.{audit-read-by, audit-complete-by}
use Rattle.audit_reached.specs.Reached.{good_part, reached_from, reached_of, reached_in}
use Rattle.audit_reached.specs.Laws.{sound-reached}
use Rattle.repair.specs.Repair.{free?}

-- the records r and q have the same heads, key and edition. They may differ in counts and lasts
pub record SameHeads (r q : List ℕ) : Type 0 where
  pub heads : (i : ℕ) → i < 200 → get_or r (head_word (kind_at i)) 0 ≡ get_or q (head_word (kind_at i)) 0
  pub key : key_in r ≡ key_in q
  pub edition : edition_in r ≡ edition_in q

-- ---- the walk by two records, and by two versions of the rules that both ask for keys or both do not
module _ (v u : ℕ) (w r q : List ℕ) (ask : ltb v 2 ≡ ltb u 2) (k : key_in r ≡ key_in q) where
  key-same : (c : ℕ) → key_ok v w r c ≡ key_ok u w q c
  key-same c = ap (λ (b : Bool). either b (eqb (get_or w (key_word c) 0) (key_in r))) ask ∙ ap (λ (x : ℕ). either (ltb u 2) (eqb (get_or w (key_word c) 0) x)) k

  may-same : (l : ListKind) (p n c : ℕ) → may_stand v l w r p n c ≡ may_stand u l w q p n c
  may-same (Cache i) p n c = ap (λ (b : Bool). both (eqb (size_at w c) (32 + 16 * i)) (both (ltb n cache_room) b)) (key-same c)
  may-same (Fast i) p n c = refl
  may-same (Bin j) p n c = refl

  good-same : (l : ListKind) (left : List ℕ) (p n : ℕ) (cs : List ℕ) → good_part v l w r left p n cs ≡ good_part u l w q left p n cs
  unfolding good_part
  good-same l left p n [] = refl
  good-same l left p n (c ∷ cs) =
      ap (λ (b : Bool). elim (both (has? c left) b) [ true ↦ c ∷ good_part v l w r (without c left) c (suc n) cs | false ↦ [] ]) (may-same l p n c)
      ∙ ap (λ (x : List ℕ). elim (both (has? c left) (may_stand u l w q p n c)) [ true ↦ c ∷ x | false ↦ [] ]) (good-same l (without c left) c (suc n) cs)

  from-same : (i : ℕ) (left : List ℕ) (ls : List (List ℕ)) → reached_from v w r i left ls ≡ reached_from u w q i left ls
  unfolding reached_from
  from-same i left [] = refl
  from-same i left (l ∷ ls) =
      ap (λ (x : List ℕ). x ∷ reached_from v w r (suc i) (minus left x) ls) (good-same (kind_at i) left none64 0 l)
      ∙ ap (λ (xs : List (List ℕ)). good_part u (kind_at i) w q left none64 0 l ∷ xs) (from-same (suc i) (minus left (good_part u (kind_at i) w q left none64 0 l)) ls)

-- ---- the lists that two records spell
tabulate-same : (n i : ℕ) (f g : ℕ → List ℕ) → ((j : ℕ) → j < i + n → f j ≡ g j) → tabulate n f i ≡ tabulate n g i
tabulate-same zero i f g e = refl
tabulate-same (suc n) i f g e =
    ap (λ (x : List ℕ). x ∷ tabulate n f (suc i)) (e i (omega arith)) ∙ ap (λ (xs : List (List ℕ)). g i ∷ xs) (tabulate-same n (suc i) f g (λ j l. e j (omega arith)))

list_same : (w r q : List ℕ) → SameHeads r q → (i : ℕ) → i < 200 → list_at w r i ≡ list_at w q i
unfolding list_at
list_same w r q S i l =
    ap (λ (d : ℕ). chunks_by (links_by (kind_at i) d) (length w) w (up (get_or r (head_word (kind_at i)) 0))) S.edition
    ∙ ap (λ (x : ℕ). chunks_by (links_by (kind_at i) (edition_in q)) (length w) w (up x)) (S.heads i l)

lists-same : (w r q : List ℕ) → SameHeads r q → lists_of w r ≡ lists_of w q
unfolding lists_of
lists-same w r q S = tabulate-same 200 0 (list_at w r) (list_at w q) (λ j l. list_same w r q S j l)

-- ---- a chunk of one of the lists has its list's number
bin-below : (i x : ℕ) (ls : List (List ℕ)) → 1 ≤ cnt_all x ls → bin_from i x ls < i + length ls
bin-below i x [] h = absurd (not-suc-le-zero h)
bin-below i x (l ∷ ls) h = ⊎_elim
    (λ e. let n : bin_from i x (l ∷ ls) ≡ bin_from (i + 1) x ls = rw (eq-eqb (cnt x l) 0 e, bin_from) in omega (arith, n, bin-below (i + 1) x ls (omega arith)))
    (λ e. let n : bin_from i x (l ∷ ls) ≡ i = rw (ne_eqb (cnt x l) 0 e, bin_from) in omega (arith, n))
    (eq? (cnt x l) 0)

-- ---- the lists of a sound heap are found good
lists-found : (v : ℕ) (h : Heap) (w q : List ℕ) → SoundBy v h w q → list_fault v w q 0 (starts_of w) (lists_of w q) ≡ Ok tt
unfolding audit_by
lists-found v h w q o =
    let e₁ = first-sound (record_fault w q) _ (audit-complete-by v h w q o) in
    let e₂ = first-sound (tile_fault w (get_or q top_word 0) 0 (tiles_of w)) _ e₁.1 in
    let e₃ = first-sound (list_fault v w q 0 (starts_of w) (lists (view w q))) _ e₂.1 in
    sym (ap (list_fault v w q 0 (starts_of w)) (view-lists w q)) ∙ e₃.0

-- ---- words w and record q are those of the heap h, sound but for its skip links; the record r may have other counts and lasts. Every chunk of every list is free
pub loses-none : (h : Heap) (w r q : List ℕ) → SoundBy 2 h w q → SameHeads r q → (x : ℕ) → 1 ≤ total x h → free? newest w r x ≡ true
unfolding reached_of reached_in
loses-none h w r q o S x i =
    let all : reached_of newest w r ≡ lists_of w q =
    ap (reached_from newest w r 0 (starts_of w)) (view-lists w r ∙ lists-same w r q S)
    ∙ from-same newest 2 w r q refl S.key 0 (starts_of w) (lists_of w q)
    ∙ ap (reached_from 2 w q 0 (starts_of w)) (sym (view-lists w q))
    ∙ sound-reached 2 w q (lists-found 2 h w q o) in
    let e : view w q ≡ h = audit-read-by 2 h w q o in
    let c : 1 ≤ cnt_all x (lists_of w q) = omega (arith, total-lists x h o.good.homes.none, ap (λ (g : Heap). cnt_all x (lists g)) e, ap (cnt_all x) (view-lists w q)) in
    lt-ltb (reached_in newest w r x) 200 (omega (arith, ap (bin_from 0 x) all, bin-below 0 x (lists_of w q) c, lists_of-length w q))
