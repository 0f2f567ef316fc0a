-- What words and record that spell a heap say, as the audit's tests by version v say it; the audit answers sound exactly then, and that heap is the one that is
-- read. The parts of the audit put together. Assumes nothing.
use Rattle.std.specs.Prelude.{◌≡◌, refl, List, [], ◌∷◌, ◌++◌, true, ◌⊎◌, ℕ, zero, suc, ◌+◌, ◌*◌, ◌≤◌, ◌<◌, eqb, length, get_or, take, drop, Ok, Err}
use Rattle.std.proofs.Common.{sym, ap, ◌∙◌, subst, inl, inr, ⊎_elim, not-suc-le-zero, arith, length-append, length-drop, take_at, drop_at, eqb-true, eq-eqb}
use Rattle.sizes.specs.Limits.{plain, mixed}
use Rattle.sizes.specs.Layout.{length_word, top_word, remainder_word}
use Rattle.machine.specs.Lists.{both, cnt, cnt_all, tabulate}
use Rattle.machine.specs.Count.{pigeons}
use Rattle.machine.specs.Heap.{Heap, starts, top_of, top_size, total, binned, bin}
use Rattle.machine.specs.View.{low_at, tile_at, tiles_from, tiles_of, list_at, stacks_of, bins_of, key_in, edition_in, view}
use Rattle.machine.specs.Audit.{edition?, record_fault, tile_fault, list_fault, lists, fault_in, audit_by}
use Rattle.machine.specs.declared.Fault.TheVariants as A
use Rattle.sound.specs.Relation.{all, flags}
use Rattle.sound.specs.Tiles.{Start, start, starts-once}
use Rattle.sound.specs.Release.{both_true}
use Rattle.audit_walks.specs.Tests.{sound-if, first-sound, either_true, either_left, either-right}
use Rattle.audit_walks.specs.Tiles.{TilesOk, tiles-sound, tiles-read, tiles-complete, few, end-no-start}
use Rattle.audit.specs.Lists.{suit_all, minus_all, lists-sound, lists-complete, lists-read}
use Rattle.audit.specs.Flags.{flags-sound, flags-complete}

pub record Spelled (v : ℕ) (h : Heap) (w r : List ℕ) : Type 0 where
  pub len : get_or r length_word 0 ≡ 8 * length w
  pub long : 8 * length w ≡ h.len
  pub top : get_or r top_word 0 ≡ top_of h
  pub rest : get_or r remainder_word 0 ≡ h.remainder
  pub key : key_in r ≡ h.key
  pub edition : edition_in r ≡ h.edition
  pub edited : (h.edition ≡ plain) ⊎ (h.edition ≡ mixed)
  pub tiles : TilesOk w 0 h.tiles
  pub stacked : length h.stacks ≡ 74
  pub bins : length h.bins ≡ 127
  pub none : bin h 0 ≡ []
  pub listed : suit_all v w r 0 (lists h)
  pub own : (x : ℕ) → total x h ≤ cnt x (starts h)
  pub flagged : flags (λ x. binned h x) 0 0 0 (all h)
  pub top_p : low_at w (top_of h) ≡ 1

-- ---- the lists in a row
unfoldable pub lists_of : List ℕ → List ℕ → List (List ℕ)
lists_of w r = tabulate 200 (list_at w r) 0

tabulate-append : (n m : ℕ) (f : ℕ → List ℕ) (i : ℕ) → tabulate n f i ++ tabulate m f (n + i) ≡ tabulate (n + m) f i
tabulate-append zero m f i =
    let e : 0 + i ≡ i = omega arith in
    let g : 0 + m ≡ m = omega arith in
    rw (e, g)
tabulate-append (suc n) m f i =
    let e : suc n + i ≡ n + suc i = omega arith in
    let g : suc n + m ≡ suc (n + m) = omega arith in
    ap (λ (k : ℕ). f i ∷ (tabulate n f (suc i) ++ tabulate m f k)) e ∙ ap (λ (ls : List (List ℕ)). f i ∷ ls) (tabulate-append n m f (suc i))
    ∙ ap (λ (k : ℕ). tabulate k f i) (sym g)

length-tabulate : (n : ℕ) (f : ℕ → List ℕ) (i : ℕ) → length (tabulate n f i) ≡ n
length-tabulate zero f i = refl
length-tabulate (suc n) f i = ap suc (length-tabulate n f (suc i))

pub view-lists : (w r : List ℕ) → lists (view w r) ≡ lists_of w r
unfolding lists_of stacks_of bins_of
view-lists w r = tabulate-append 74 126 (list_at w r) 0

stacks_of-length : (w r : List ℕ) → length (stacks_of w r) ≡ 74
unfolding stacks_of
stacks_of-length w r = length-tabulate 74 (list_at w r) 0

bins_of-length : (w r : List ℕ) → length (bins_of w r) ≡ 126
unfolding bins_of
bins_of-length w r = length-tabulate 126 (list_at w r) 74

pub lists_of-length : (w r : List ℕ) → length (lists_of w r) ≡ 200
unfolding lists_of
lists_of-length w r = length-tabulate 200 (list_at w r) 0

cnt_all-append : (x : ℕ) (ls ms : List (List ℕ)) → cnt_all x (ls ++ ms) ≡ cnt_all x ls + cnt_all x ms
cnt_all-append x [] ms = omega arith
cnt_all-append x (l ∷ ls) ms = omega (arith, cnt_all-append x ls ms)

drop-first : (x : ℕ) (bs : List (List ℕ)) → get_or bs 0 [] ≡ [] → cnt_all x bs ≡ cnt_all x (drop 1 bs)
drop-first x [] e = refl
drop-first x (b ∷ bs) e = omega (arith, ap (cnt x) e)

pub total-lists : (x : ℕ) (h : Heap) → bin h 0 ≡ [] → total x h ≡ cnt_all x (lists h)
total-lists x h e = omega (arith, cnt_all-append x h.stacks (drop 1 h.bins), drop-first x h.bins e)

pub binned-later : (w r : List ℕ) (x : ℕ) → binned (view w r) x ≡ cnt_all x (drop 74 (lists_of w r))
binned-later w r x =
    let d : drop 74 (stacks_of w r ++ bins_of w r) ≡ bins_of w r = drop_at (stacks_of w r) (bins_of w r) 74 (stacks_of-length w r) in
    omega (arith, ap (cnt_all x) (sym d ∙ ap (drop 74) (view-lists w r)))

-- ---- the audit answers sound: words and record spell what is read
pub lists_of-sound : (v : ℕ) (w r left : List ℕ) → length left < length w → list_fault v w r 0 left (lists_of w r) ≡ Ok tt
    → suit_all v w r 0 (lists_of w r) × ((x : ℕ) → cnt x (minus_all left (lists_of w r)) + cnt_all x (lists_of w r) ≡ cnt x left)
unfolding lists_of
lists_of-sound v w r left b e = lists-sound v 200 0 w r left b e

-- an edition is one of two
pub edition-out : (d : ℕ) → edition? d ≡ true → (d ≡ plain) ⊎ (d ≡ mixed)
edition-out d e = ⊎_elim (λ z. inl (eqb-true d plain z)) (λ z. inr (eqb-true d mixed z)) (either_true (eqb d plain) (eqb d mixed) e)

pub edition-in : (d : ℕ) → (d ≡ plain) ⊎ (d ≡ mixed) → edition? d ≡ true
edition-in d e = ⊎_elim (λ z. either_left (eqb d plain) _ (eq-eqb d plain z)) (λ z. either-right (eqb d plain) _ (eq-eqb d mixed z)) e

pub audit-spelled : (v : ℕ) (w r : List ℕ) → audit_by v w r ≡ Ok tt → Spelled v (view w r) w r
unfolding audit_by tiles_of
audit-spelled v w r e =
    let h : Heap = view w r in
    let e₁ = first-sound (record_fault w r) _ e in
    let re = both_true (eqb (get_or r length_word 0) (8 * length w)) (edition? (edition_in r))
    (sound-if (both (eqb (get_or r length_word 0) (8 * length w)) (edition? (edition_in r))) (Ok tt) (Err A.Record) refl e₁.0).0 in
    let e₂ = first-sound (tile_fault w (get_or r top_word 0) 0 h.tiles) _ e₁.1 in
    let e₃ = first-sound (list_fault v w r 0 (starts h) (lists h)) _ e₂.1 in
    let t = tiles-sound (length w) w (get_or r top_word 0) 0 e₂.0 in
    let ev = view-lists w r in
    let l = lists_of-sound v w r (starts h) (few w h.tiles t.0) (sym (ap (list_fault v w r 0 (starts h)) ev) ∙ e₃.0) in
    let own : (x : ℕ) → total x h ≤ cnt x (starts h) = λ x. omega (arith, l.1 x, total-lists x h refl, ap (cnt_all x) ev) in
    let f = flags-sound (binned h) (tile_at w (top_of h)) (top_size h) 0 0 0 h.tiles
    (λ x. omega (arith, own x, starts-once h.tiles 0 x t.0.sizes))
    (omega (arith, own (top_of h), end-no-start h.tiles 0 t.0.sizes)) (omega arith) t.0.notes e₃.1 in
    record {
      len = eqb-true (get_or r length_word 0) (8 * length w) re.0;
      long = refl;
      top = t.1;
      rest = refl;
      key = refl;
      edition = refl;
      edited = edition-out (edition_in r) re.1;
      tiles = t.0;
      stacked = stacks_of-length w r;
      bins = ap suc (bins_of-length w r);
      none = refl;
      listed = subst (suit_all v w r 0) (sym ev) l.0;
      own = own;
      flagged = f.0;
      top_p = f.1;
    }

-- ---- a heap that is spelled is the one that is read
pub chunk_small : (v : ℕ) (h : Heap) (w r : List ℕ) → 8 * length w ≤ 262144 → Spelled v h w r → (x : ℕ) → 1 ≤ cnt x (starts h) → x < 262144
chunk_small v h w r a s x m =
    let b : Start h.tiles 0 x = start h.tiles 0 x s.tiles.sizes m in
    omega (arith, s.tiles.top, s.tiles.least)

cons-first : (bs : List (List ℕ)) → 1 ≤ length bs → get_or bs 0 [] ≡ [] → [] ∷ drop 1 bs ≡ bs
cons-first [] h e = absurd (not-suc-le-zero h)
cons-first (b ∷ bs) h e = ap (λ (l : List ℕ). l ∷ bs) (sym e)

lists_of-read : (w r : List ℕ) (ls : List (List ℕ)) → length ls ≡ 200 → tabulate (length ls) (list_at w r) 0 ≡ ls → lists_of w r ≡ ls
unfolding lists_of
lists_of-read w r ls e g = subst (λ (n : ℕ). tabulate n (list_at w r) 0 ≡ ls) e g

made : (h : Heap) (w r : List ℕ) → 8 * length w ≡ h.len → tiles_of w ≡ h.tiles → stacks_of w r ≡ h.stacks → [] ∷ bins_of w r ≡ h.bins → get_or r remainder_word 0 ≡ h.remainder → key_in r ≡ h.key → edition_in r ≡ h.edition
    → view w r ≡ h
made h w r a b c d e f g = rw (a, b, c, d, e, f, g)

pub spelled-read : (v : ℕ) (h : Heap) (w r : List ℕ) → 8 * length w ≤ 262144 → Spelled v h w r → view w r ≡ h
unfolding tiles_of
spelled-read v h w r a s =
    let n : length (drop 1 h.bins) ≡ 126 = omega (arith, length-drop 1 h.bins, s.bins) in
    let own : (x : ℕ) → cnt_all x (lists h) ≤ cnt x (starts h) = λ x. omega (arith, total-lists x h s.none, s.own x) in
    let et : tiles_from (length w) w 0 ≡ h.tiles = tiles-read (length w) w 0 h.tiles (omega (arith, s.tiles.top, s.tiles.least)) s.tiles in
    let el : tabulate (length (lists h)) (list_at w r) 0 ≡ lists h =
    lists-read v 0 w r (lists h) s.listed (λ x k. chunk_small v h w r a s x (omega (arith, own x)))
    (λ l q. omega (arith, pigeons l (starts h) (λ x. omega (arith, q x, own x)), few w h.tiles s.tiles)) in
    let e : stacks_of w r ++ bins_of w r ≡ h.stacks ++ drop 1 h.bins =
    view-lists w r ∙ lists_of-read w r (lists h) (omega (arith, length-append h.stacks (drop 1 h.bins), s.stacked)) el in
    let es : stacks_of w r ≡ h.stacks =
    sym (take_at (stacks_of w r) (bins_of w r) 74 (stacks_of-length w r)) ∙ ap (take 74) e ∙ take_at h.stacks (drop 1 h.bins) 74 s.stacked in
    let eb : bins_of w r ≡ drop 1 h.bins =
    sym (drop_at (stacks_of w r) (bins_of w r) 74 (stacks_of-length w r)) ∙ ap (drop 74) e ∙ drop_at h.stacks (drop 1 h.bins) 74 s.stacked in
    made h w r s.long et es (ap (λ (bs : List (List ℕ)). [] ∷ bs) eb ∙ cons-first h.bins (omega (arith, s.bins)) s.none) s.rest s.key s.edition

-- ---- and the audit answers sound
no-fault : (v : ℕ) (h : Heap) (w r : List ℕ) → Spelled v h w r → fault_in v h w r ≡ Ok tt
no-fault v h w r s =
    rw (eq-eqb (get_or r length_word 0) (8 * length w) s.len, record_fault)
    (rw (ap edition? s.edition ∙ edition-in h.edition s.edited)
    (rw s.top
    (rw (tiles-complete w 0 h.tiles s.tiles)
    (rw (lists-complete v 0 w r (starts h) (lists h) s.listed (λ x. omega (arith, total-lists x h s.none, s.own x)))
    (flags-complete (binned h) (tile_at w (top_of h)) (top_size h) 0 0 0 h.tiles s.top_p s.flagged)))))

pub spelled-audit : (v : ℕ) (h : Heap) (w r : List ℕ) → 8 * length w ≤ 262144 → Spelled v h w r → audit_by v w r ≡ Ok tt
unfolding audit_by
spelled-audit v h w r a s = ap (λ (g : Heap). fault_in v g w r) (spelled-read v h w r a s) ∙ no-fault v h w r s
