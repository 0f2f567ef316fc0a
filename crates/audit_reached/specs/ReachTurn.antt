-- The turns of the walk over the lists, chunk by chunk, and its ways out. Of a chunk that is left, the lists from the chunk at hand on tell which one reaches
-- it, as the whole does; of each other chunk its mark tells it. Assumes nothing.
use Rattle.std.specs.Prelude.{◌≡◌, refl, List, [], ◌∷◌, Bool, true, false, ℕ, zero, suc, ◌+◌, ◌*◌, ◌/◌, ◌%◌, ◌≤◌, ◌<◌, eqb, ltb, length, get_or, set, drop}
use Rattle.std.proofs.Common.{sym, ap, ◌∙◌, subst, ⊎_elim, not-suc-le-zero, arith, get_or-set_same, get_or-set_other, eq-eqb, ne_eqb, eqb-true, lt-ltb, ltb-true}
use Rattle.std.proofs.Math.Seq.{drop-length}
use Rattle.sizes.specs.Limits.{none64}
use Rattle.sizes.specs.Layout.{fwd_word}
use Rattle.machine.specs.Lists.{both, cnt, ind, has?, without, minus}
use Rattle.machine.specs.Count.{eq?, ind-same, ind-other, without-cnt, without-length}
use Rattle.machine.specs.Heap.{bin_from}
use Rattle.machine.specs.Mixing.{stored}
use Rattle.machine.specs.View.{size_at, up, kind_at, head_word, chunks_by, list_at}
use Rattle.machine.specs.Audit.{may_stand}
use Rattle.machine.specs.declared.ListKind.{ListKind}
use Rattle.audit_lists.specs.Linked.{links_in}
use Rattle.audit_lists.specs.Listed.{unmet}
use Rattle.sound.specs.Tiles.{zero_or}
use Rattle.audit_walks.specs.Marks.{unmet_mark, Started, starts_of}
use Rattle.audit.specs.Spelled.{lists_of, lists_of-length, view-lists}
use Rattle.audit.specs.MarkLaws.{unmet-has, unmet-one}
use Rattle.audit.specs.ListTurn.{list-next, chunks-more, chunks-end}
use Rattle.audit_reached.specs.Laws.{good_none, good_more, good-bad}
use Rattle.audit_reached.specs.Reached.{good_part, reached_from, reached_of, reached_in, first_mark, reached_mark, ReachedBy}

-- left: the chunks, the top not among them, that no list reached so far. once, even, inside: what the tile walk found of all chunks
pub record Marked (v : ℕ) (w r m left : List ℕ) : Type 0 where
  pub once : (x : ℕ) → cnt x (starts_of w) ≤ 1
  pub even : (x : ℕ) → 1 ≤ cnt x (starts_of w) → x % 16 ≡ 0
  pub inside : (x : ℕ) → 1 ≤ cnt x (starts_of w) → x + 32 ≤ 8 * length w
  pub part : (x : ℕ) → cnt x left ≤ cnt x (starts_of w)
  pub is : (x : ℕ) → unmet m x ≡ has? x left
  pub told : (x : ℕ) → 1 ≤ cnt x (starts_of w) → cnt x left ≡ 0 → get_or m (x / 16) 0 ≡ reached_mark (reached_in v w r x)

-- before list i
pub record Before (v : ℕ) (w r m : List ℕ) (i : ℕ) : Type 0 where
  pub left : List ℕ
  pub marks : Marked v w r m left
  pub few : length left < length w
  pub rest : (x : ℕ) → 1 ≤ cnt x left → bin_from i x (reached_from v w r i left (drop i (lists_of w r))) ≡ reached_in v w r x

-- reachedFrom's clause at a later chunk of list i, after p and n chunks, with the chunks l to come
abbrev resume : ℕ → List ℕ → List ℕ → ListKind → ℕ → List ℕ → ℕ → ℕ → List ℕ → List (List ℕ)
resume v w r k i left p n l = good_part v k w r left p n l ∷ reached_from v w r (suc i) (minus left (good_part v k w r left p n l)) (drop (suc i) (lists_of w r))

-- in list i, of the kind k, before the chunk c, after n chunks, of which p, of size q, is the last
pub record Within (v : ℕ) (w r m : List ℕ) (k : ListKind) (i p q n c : ℕ) : Type 0 where
  pub left : List ℕ
  pub f : ℕ
  pub marks : Marked v w r m left
  pub fuel : length left < f
  pub few : n + length left < length w
  pub rest : (x : ℕ) → 1 ≤ cnt x left → bin_from i x (resume v w r k i left p n (chunks_by (links_in r k) f w c)) ≡ reached_in v w r x
  pub sized : (p ≡ none64 → ⊥) → q ≡ size_at w p

-- ---- marks
pub unmet-inside : (v : ℕ) (w r m left : List ℕ) → Marked v w r m left → (c : ℕ) → unmet m c ≡ true → (c % 16 ≡ 0) × (c + 32 ≤ 8 * length w) × (1 ≤ cnt c left)
unmet-inside v w r m left k c e =
    let i : 1 ≤ cnt c left = ltb-true 0 (cnt c left) (sym (k.is c) ∙ e) in
    let s : 1 ≤ cnt c (starts_of w) = omega (arith, k.part c) in
    (k.even c s, k.inside c s, i)

-- another chunk's mark is as it was
unmet-other : (m : List ℕ) (c u x : ℕ) → c % 16 ≡ 0 → (x ≡ c → ⊥) → unmet (set m (c / 16) u) x ≡ unmet m x
unmet-other m c u x e n = go (eqb (x % 16) 0) refl
  where
    go : (b : Bool) → eqb (x % 16) 0 ≡ b → both b (eqb (get_or (set m (c / 16) u) (x / 16) 0) unmet_mark) ≡ both b (eqb (get_or m (x / 16) 0) unmet_mark)
    go true q = ap (λ (y : ℕ). eqb y unmet_mark) (get_or-set_other m (c / 16) (x / 16) u 0 (λ y. n (omega (arith, eqb-true (x % 16) 0 q))))
    go false q = refl

left-once : (v : ℕ) (w r m left : List ℕ) → Marked v w r m left → (c : ℕ) → 1 ≤ cnt c left → cnt c (without c left) ≡ 0
left-once v w r m left k c i = omega (arith, without-cnt c left i c, ind-same c, k.part c, k.once c)

-- list i reaches c
mark-reached : (v : ℕ) (w r m left : List ℕ) (c i : ℕ) → Marked v w r m left → unmet m c ≡ true → reached_in v w r c ≡ i → i < 200
    → Marked v w r (set m (c / 16) (first_mark + i)) (without c left)
mark-reached v w r m left c i k e here h =
    let j = unmet-inside v w r m left k c e in
    let m' : List ℕ = set m (c / 16) (first_mark + i) in
    let at : get_or m' (c / 16) 0 ≡ first_mark + i = get_or-set_same m (c / 16) (first_mark + i) 0 (unmet-one m c e).1 in
    let own : reached_mark (reached_in v w r c) ≡ first_mark + i = ap reached_mark here ∙ rw (lt-ltb i 200 h, reached_mark) in
    let met : unmet m' c ≡ false = rw (eq-eqb (c % 16) 0 j.0, unmet) (ne_eqb (get_or m' (c / 16) 0) unmet_mark (λ z. omega (arith, at, z))) in
    let wc : (x : ℕ) → cnt x left ≡ ind (eqb x c) + cnt x (without c left) = without-cnt c left j.2 in
    let same : (x : ℕ) → (x ≡ c → ⊥) → cnt x left ≡ cnt x (without c left) = λ x q. omega (arith, wc x, ind-other x c q) in
    record {
      once = k.once;
      even = k.even;
      inside = k.inside;
      part = λ x. omega (arith, k.part x, wc x);
      is = λ x. ⊎_elim
          (λ q. subst (λ (y : ℕ). unmet m' y ≡ has? y (without c left)) (sym q) (met ∙ sym (ap (λ (n : ℕ). ltb 0 n) (left-once v w r m left k c j.2))))
          (λ q. unmet-other m c (first_mark + i) x j.0 q ∙ k.is x ∙ ap (λ (n : ℕ). ltb 0 n) (same x q))
          (eq? x c);
      told = λ x s z. ⊎_elim
          (λ q. subst (λ (y : ℕ). get_or m' (y / 16) 0 ≡ reached_mark (reached_in v w r y)) (sym q) (at ∙ sym own))
          (λ q. get_or-set_other m (c / 16) (x / 16) (first_mark + i) 0 (λ y. q (omega (arith, j.0, k.even x s))) ∙ k.told x s (same x q ∙ z))
          (eq? x c);
    }

-- ---- where list i begins
pub lists-enter : (v : ℕ) (w r m : List ℕ) → Started w m → Before v w r m 0
unfolding reached_in reached_of
lists-enter v w r m s = record {
  left = starts_of w;
  marks = record {
    once = λ x. omega (arith, s.marks.once x);
    even = s.marks.even;
    inside = s.marks.inside;
    part = λ x. omega arith;
    is = unmet-has w m (starts_of w) (λ x. 0) s.marks;
    told = λ x h e. absurd (omega (arith, h, e));
  };
  few = s.few;
  rest = λ x h. ap (λ (ls : List (List ℕ)). bin_from 0 x (reached_from v w r 0 (starts_of w) ls)) (sym (view-lists w r));
}

pub list-begin : (v : ℕ) (w r m : List ℕ) (i q : ℕ) (k : ListKind) (c : ℕ) → k ≡ kind_at i → c ≡ up (get_or r (head_word k) 0) → i < 200 → Before v w r m i
    → Within v w r m k i none64 q 0 c
unfolding reached_from list_at
list-begin v w r m i q k c e g h o = rw (g, e) (record {
  left = o.left;
  f = length w;
  marks = o.marks;
  fuel = o.few;
  few = omega (arith, o.few);
  rest = λ x j. sym (ap (λ (ls : List (List ℕ)). bin_from i x (reached_from v w r i o.left ls)) (list-next w r i h)) ∙ o.rest x j;
  sized = λ n. absurd (n refl);
})

-- ---- which list has x: this one; as if it began one chunk later
bin-here : (i x : ℕ) (l : List ℕ) (ls : List (List ℕ)) → 1 ≤ cnt x l → bin_from i x (l ∷ ls) ≡ i
bin-here i x l ls h = rw (ne_eqb (cnt x l) 0 (λ e. omega (arith, e, h)), bin_from)

bin-later : (i x c : ℕ) (l : List ℕ) (ls : List (List ℕ)) → (x ≡ c → ⊥) → bin_from i x ((c ∷ l) ∷ ls) ≡ bin_from i x (l ∷ ls)
bin-later i x c l ls n =
    let e : cnt x (c ∷ l) ≡ cnt x l = omega (arith, ind-other x c n) in
    ap (λ (y : ℕ). elim (eqb y 0) [ true ↦ bin_from (i + 1) x ls | false ↦ i ]) e

module _ (v : ℕ) (w r m : List ℕ) (k : ListKind) (i p q n c : ℕ) (o : Within v w r m k i p q n c) where
  tested : (u b : Bool) → unmet m c ≡ true → u ≡ may_stand v k w r p n c → u ≡ b → both (has? c o.left) (may_stand v k w r p n c) ≡ b
  tested u b e d y = ap (λ (x : Bool). both x (may_stand v k w r p n c)) (sym (o.marks.is c) ∙ e) ∙ sym d ∙ y

  -- ---- one turn
  pub list-turn : (u : Bool) (s : ℕ) → i < 200 → (c ≡ none64 → ⊥) → unmet m c ≡ true → u ≡ may_stand v k w r p n c → u ≡ true → s ≡ size_at w c
      → Within v w r (set m (c / 16) (first_mark + i)) k i c s (n + 1) (stored (links_in r k) c (get_or w (fwd_word c) 0))
  list-turn u s lt ne e d y z = go o.f o.fuel o.rest
    where
      next : ℕ
      next = stored (links_in r k) c (get_or w (fwd_word c) 0)

      j : 1 ≤ cnt c o.left
      j = (unmet-inside v w r m o.left o.marks c e).2

      g : length o.left ≡ suc (length (without c o.left))
      g = without-length c o.left j

      go : (f : ℕ) → length o.left < f → ((x : ℕ) → 1 ≤ cnt x o.left → bin_from i x (resume v w r k i o.left p n (chunks_by (links_in r k) f w c)) ≡ reached_in v w r x)
          → Within v w r (set m (c / 16) (first_mark + i)) k i c s (n + 1) next
      go zero b t = absurd (not-suc-le-zero b)
      go (suc f) b t =
          let l : List ℕ = good_part v k w r (without c o.left) c (suc n) (chunks_by (links_in r k) f w next) in
          let ls : List (List ℕ) = reached_from v w r (suc i) (minus (without c o.left) l) (drop (suc i) (lists_of w r)) in
          let more : good_part v k w r o.left p n (chunks_by (links_in r k) (suc f) w c) ≡ c ∷ l =
          ap (good_part v k w r o.left p n) (chunks-more (links_in r k) f w c ne) ∙ good_more v k w r o.left p n c _ (tested u true e d y) in
          let step : (x : ℕ) → 1 ≤ cnt x o.left → bin_from i x ((c ∷ l) ∷ ls) ≡ reached_in v w r x =
          λ x h. sym (ap (λ (y : List ℕ). bin_from i x (y ∷ reached_from v w r (suc i) (minus o.left y) (drop (suc i) (lists_of w r)))) more) ∙ t x h in
          let here : reached_in v w r c ≡ i = sym (step c j) ∙ bin-here i c (c ∷ l) ls (omega (arith, ind-same c)) in
          let other : (x : ℕ) → 1 ≤ cnt x (without c o.left) → x ≡ c → ⊥ =
          λ x h q. omega (arith, h, ap (λ (y : ℕ). cnt y (without c o.left)) q, left-once v w r m o.left o.marks c j) in
          let n1 : suc n ≡ n + 1 = omega arith in
          record {
            left = without c o.left;
            f = f;
            marks = mark-reached v w r m o.left c i o.marks e here lt;
            fuel = omega (arith, g);
            few = omega (arith, g, o.few);
            rest = λ x h. subst (λ (y : ℕ). bin_from i x (resume v w r k i (without c o.left) c y (chunks_by (links_in r k) f w next)) ≡ reached_in v w r x) n1
                (sym (bin-later i x c l ls (other x h)) ∙ step x (omega (arith, h, without-cnt c o.left j x)));
            sized = λ _. z;
          }

  -- ---- where the walk ends: the list does, c is no chunk or was met, c may not stand there
  list-leave : good_part v k w r o.left p n (chunks_by (links_in r k) o.f w c) ≡ [] → Before v w r m (i + 1)
  list-leave e =
      let i1 : suc i ≡ i + 1 = omega arith in
      record {
        left = o.left;
        marks = o.marks;
        few = omega (arith, o.few);
        rest = λ x h. subst (λ (y : ℕ). bin_from (i + 1) x (reached_from v w r y o.left (drop y (lists_of w r))) ≡ reached_in v w r x) i1
            (sym (ap (λ (y : List ℕ). bin_from i x (y ∷ reached_from v w r (suc i) (minus o.left y) (drop (suc i) (lists_of w r)))) e) ∙ o.rest x h);
      }

  pub list-end : c ≡ none64 → Before v w r m (i + 1)
  list-end e = list-leave (ap (good_part v k w r o.left p n) (chunks-end (links_in r k) o.f w c e) ∙ good_none v k w r o.left p n)

  list-bad : (c ≡ none64 → ⊥) → both (has? c o.left) (may_stand v k w r p n c) ≡ false → Before v w r m (i + 1)
  list-bad ne e = list-leave (go o.f)
    where
      go : (f : ℕ) → good_part v k w r o.left p n (chunks_by (links_in r k) f w c) ≡ []
      go zero = good_none v k w r o.left p n
      go (suc f) = ap (good_part v k w r o.left p n) (chunks-more (links_in r k) f w c ne) ∙ good-bad v k w r o.left p n c _ e

  pub list-met : (c ≡ none64 → ⊥) → unmet m c ≡ false → Before v w r m (i + 1)
  list-met ne e = list-bad ne (ap (λ (x : Bool). both x (may_stand v k w r p n c)) (sym (o.marks.is c) ∙ e))

  pub list-misplaced : (u : Bool) → (c ≡ none64 → ⊥) → unmet m c ≡ true → u ≡ may_stand v k w r p n c → u ≡ false → Before v w r m (i + 1)
  list-misplaced u ne e d y = list-bad ne (tested u false e d y)

-- ---- a list that has no chunk reaches none
pub list-empty : (v : ℕ) (w r m : List ℕ) (i : ℕ) → i < 200 → up (get_or r (head_word (kind_at i)) 0) ≡ none64 → Before v w r m i → Before v w r m (i + 1)
list-empty v w r m i h e o = list-end v w r m (kind_at i) i none64 0 0 (up (get_or r (head_word (kind_at i)) 0)) (list-begin v w r m i 0 (kind_at i) _ refl refl h o) e

-- ---- after the last list
pub lists-done : (v : ℕ) (w r m : List ℕ) (i : ℕ) → i ≡ 200 → Before v w r m i → ReachedBy v w r m
unfolding reached_from
lists-done v w r m i e o x s = ⊎_elim (o.marks.told x s) there (zero_or (cnt x o.left))
  where
    there : 1 ≤ cnt x o.left → get_or m (x / 16) 0 ≡ reached_mark (reached_in v w r x)
    there h =
        let d : drop i (lists_of w r) ≡ [] = ap (λ (n : ℕ). drop n (lists_of w r)) (e ∙ sym (lists_of-length w r)) ∙ drop-length (lists_of w r) in
        let g : 200 ≡ reached_in v w r x = sym e ∙ sym (ap (λ (ls : List (List ℕ)). bin_from i x (reached_from v w r i o.left ls)) d) ∙ o.rest x h in
        (unmet-one m x (o.marks.is x ∙ lt-ltb 0 (cnt x o.left) h)).0 ∙ ap reached_mark g
