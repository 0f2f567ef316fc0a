-- The turns of the nested loop over lists and chunks, and its ways out: the answer from the chunk at hand on is the whole's, and so is what is left of the
-- chunks. Neither loop's invariant speaks of the other. Where a list ends it is known to be good but for its skip links. Assumes nothing.
use Rattle.std.specs.Prelude.{◌≡◌, refl, List, [], ◌∷◌, Bool, true, false, ℕ, zero, suc, ◌+◌, ◌-◌, ◌*◌, ◌/◌, ◌≤◌, ◌<◌, ltb, length, get_or, set, drop, Ok, Err}
use Rattle.std.proofs.Math.Path.{sym, ap}
use Rattle.std.proofs.Common.{◌∙◌, subst, le_of_suc-le-suc, not-suc-le-zero, arith, eq-eqb, ne_eqb, ltb-true, ltb-false}
use Rattle.sizes.specs.Limits.{none64}
use Rattle.sizes.specs.Layout.{fwd_word, key_low}
use Rattle.machine.specs.Lists.{both, cnt, cnt_all, has?, without, minus, tabulate}
use Rattle.machine.specs.Count.{without-cnt, without-length}
use Rattle.machine.specs.Mixing.{stored}
use Rattle.machine.specs.View.{size_at, up, kind_at, head_word, chunks_by, edition_in, links_by, list_at, tiles_of}
use Rattle.machine.specs.Audit.{may_stand, may_end, good_from, skips_ok, list_fault, Audited}
use Rattle.machine.specs.declared.ListKind.{ListKind}
use Rattle.machine.specs.declared.ListKind.TheVariants.{Cache, Fast, Bin}
use Rattle.machine.specs.declared.Fault.TheVariants as A
use Rattle.audit_lists.specs.Owns.{Numbered}
use Rattle.audit_lists.specs.Linked.{links_in, list_of, KindWalk}
use Rattle.audit_lists.specs.Listed.{unmet, mark_of, tail_word}
use Rattle.audit_empty_lists.specs.Skips.{Empty, Skipped}
use Rattle.audit_walks.specs.Tests.{not_sound}
use Rattle.audit_walks.specs.Tiles.{TilesOk}
use Rattle.audit_walks.specs.Marks.{Marks, Started, starts_of}
use Rattle.audit.specs.Lists.{minus_all}
use Rattle.audit.specs.Kinds.{skips-none}
use Rattle.audit.specs.ListWalk.{good-walk}
use Rattle.audit.specs.Spelled.{lists_of, lists_of-length}
use Rattle.audit.specs.Done.{ListsDone, binned_of}
use Rattle.audit.specs.MarkLaws.{bin_cnt, unmet-has, unmet-inside, mark-step, marks-same}

-- ---- the i-th list
drop-tabulate : (n i j : ℕ) (f : ℕ → List ℕ) → i < n → drop i (tabulate n f j) ≡ f (i + j) ∷ drop (suc i) (tabulate n f j)
drop-tabulate zero i j f h = absurd (not-suc-le-zero h)
drop-tabulate (suc n) zero j f h = let e : 0 + j ≡ j = omega arith in rw e
drop-tabulate (suc n) (suc i) j f h =
    let e : i + suc j ≡ suc i + j = omega arith in
    drop-tabulate n i (suc j) f (le_of_suc-le-suc h) ∙ ap (λ (x : ℕ). f x ∷ drop (suc i) (tabulate n f (suc j))) e

pub list-next : (w r : List ℕ) (i : ℕ) → i < 200 → drop i (lists_of w r) ≡ list_at w r i ∷ drop (suc i) (lists_of w r)
unfolding lists_of
list-next w r i h =
    let e : i + 0 ≡ i = omega arith in
    drop-tabulate 200 i 0 (list_at w r) h ∙ ap (λ (x : ℕ). list_at w r x ∷ drop (suc i) (tabulate 200 (list_at w r) 0)) e

-- ---- the chunks that go to bins
bin-more : (k : ListKind) (x c : ℕ) (l : List ℕ) → bin_cnt k x (c ∷ l) ≡ bin_cnt k x (c ∷ []) + bin_cnt k x l
bin-more (Cache k) x c l = refl
bin-more (Fast k) x c l = refl
bin-more (Bin j) x c l = omega arith

bin-none : (k : ListKind) (x : ℕ) → bin_cnt k x [] ≡ 0
bin-none (Cache k) x = refl
bin-none (Fast k) x = refl
bin-none (Bin j) x = refl

bin-later : (x i : ℕ) (l : List ℕ) (ls : List (List ℕ)) → cnt_all x (drop (74 - i) (l ∷ ls)) ≡ bin_cnt (kind_at i) x l + cnt_all x (drop (74 - suc i) ls)
bin-later x i l ls = go (ltb i 64) (ltb i 74) refl refl
  where
    early : i < 74 → cnt_all x (drop (74 - i) (l ∷ ls)) ≡ 0 + cnt_all x (drop (74 - suc i) ls)
    early h =
        let e : 74 - i ≡ suc (74 - suc i) = omega arith in
        ap (λ (n : ℕ). cnt_all x (drop n (l ∷ ls))) e ∙ sym (omega arith)

    go : (a b : Bool) → ltb i 64 ≡ a → ltb i 74 ≡ b
        → cnt_all x (drop (74 - i) (l ∷ ls)) ≡ bin_cnt (elim a [ true ↦ Cache i | false ↦ elim b [ true ↦ Fast (i - 64) | false ↦ Bin (i - 73) ] ]) x l + cnt_all x (drop (74 - suc i) ls)
    go true b p q = early (omega (arith, ltb-true i 64 p))
    go false true p q = early (ltb-true i 74 q)
    go false false p q =
        let h : 74 ≤ i = ltb-false i 74 q in
        let e : 74 - i ≡ 0 = omega arith in
        let g : 74 - suc i ≡ 0 = omega arith in
        ap (λ (n : ℕ). cnt_all x (drop n (l ∷ ls))) e ∙ ap (λ (n : ℕ). cnt x l + cnt_all x (drop n ls)) (sym g)

-- ---- the loops. resume: the body of listFault's clause at a later chunk, after p and n chunks, with the chunks l to come. The skip links are the whole list's
abbrev resume : ℕ → List ℕ → List ℕ → ListKind → ℕ → List ℕ → ℕ → ℕ → List ℕ → List (List ℕ) → Audited
resume v w r k i left p n l ls = elim (both (good_from v k w r left p n l) (skips_ok v k w (list_of w r k))) [
  | true ↦ list_fault v w r (suc i) (minus left l) ls
  | false ↦ Err (A.List k)
]

abbrev whole : ℕ → List ℕ → List ℕ → Audited
whole v w r = list_fault v w r 0 (starts_of w) (lists_of w r)

-- before list i
pub record Out (v : ℕ) (w r m : List ℕ) (i : ℕ) : Type 0 where
  pub left : List ℕ
  pub b : ℕ → ℕ
  pub marks : Marks w m left b
  pub few : length left < length w
  pub part : (x : ℕ) → cnt x left ≤ cnt x (starts_of w)
  pub same : list_fault v w r i left (drop i (lists_of w r)) ≡ whole v w r
  pub rest : minus_all left (drop i (lists_of w r)) ≡ minus_all (starts_of w) (lists_of w r)
  pub bins : (x : ℕ) → b x + cnt_all x (drop (74 - i) (drop i (lists_of w r))) ≡ binned_of w r x

-- in list i, of the kind k, before the chunk c, after n chunks, of which p, of size q, is the last. left₀: the chunks not met when the list began
pub record In (v : ℕ) (w r m : List ℕ) (k : ListKind) (i p q n c : ℕ) : Type 0 where
  pub left : List ℕ
  pub b : ℕ → ℕ
  pub f : ℕ
  pub marks : Marks w m left b
  pub fuel : length left < f
  pub few : n + length left < length w
  pub same : resume v w r k i left p n (chunks_by (links_in r k) f w c) (drop (suc i) (lists_of w r)) ≡ whole v w r
  pub rest : minus_all (minus left (chunks_by (links_in r k) f w c)) (drop (suc i) (lists_of w r)) ≡ minus_all (starts_of w) (lists_of w r)
  pub bins : (x : ℕ) → b x + bin_cnt k x (chunks_by (links_in r k) f w c) + cnt_all x (drop (74 - suc i) (drop (suc i) (lists_of w r))) ≡ binned_of w r x
  pub sized : (p ≡ none64 → ⊥) → q ≡ size_at w p
  pub part : (x : ℕ) → cnt x left ≤ cnt x (starts_of w)
  pub left₀ : List ℕ
  pub few₀ : length left₀ < length w
  pub part₀ : (x : ℕ) → cnt x left₀ ≤ cnt x (starts_of w)
  pub begun : good_from v k w r left₀ none64 0 (list_of w r k) ≡ good_from v k w r left p n (chunks_by (links_in r k) f w c)

pub lists-enter : (v : ℕ) (w r m : List ℕ) → Started w m → Out v w r m 0
lists-enter v w r m s = record
    { left = starts_of w; b = λ x. 0; marks = s.marks; few = s.few; part = λ x. omega arith; same = refl; rest = refl; bins = λ x. omega arith }

list-enter : (v : ℕ) (w r m : List ℕ) (i q : ℕ) → i < 200 → Out v w r m i → In v w r m (kind_at i) i none64 q 0 (up (get_or r (head_word (kind_at i)) 0))
unfolding list_fault list_at list_of
list-enter v w r m i q h o =
    let e : drop i (lists_of w r) ≡ list_at w r i ∷ drop (suc i) (lists_of w r) = list-next w r i h in
    record {
      left = o.left;
      b = o.b;
      f = length w;
      marks = o.marks;
      fuel = o.few;
      few = omega (arith, o.few);
      same = sym (ap (list_fault v w r i o.left) e) ∙ o.same;
      rest = sym (ap (minus_all o.left) e) ∙ o.rest;
      bins = λ x. omega (arith, o.bins x, ap (λ (ls : List (List ℕ)). cnt_all x (drop (74 - i) ls)) e, bin-later x i (list_at w r i) (drop (suc i) (lists_of w r)));
      sized = λ n. absurd (n refl);
      part = o.part;
      left₀ = o.left;
      few₀ = o.few;
      part₀ = o.part;
      begun = refl;
    }

pub list-begin : (v : ℕ) (w r m : List ℕ) (i q : ℕ) (k : ListKind) (c : ℕ) → k ≡ kind_at i → c ≡ up (get_or r (head_word k) 0) → i < 200 → Out v w r m i → In v w r m k i none64 q 0 c
list-begin v w r m i q k c e g h o = rw (g, e) (list-enter v w r m i q h o)

-- ---- one turn
-- the link x that was read from the word y of the chunk c as d says, which is how a list of the kind k is stored
pub link-read : (r : List ℕ) (k : ListKind) (c x y d e : ℕ) → x ≡ stored d c y → d ≡ links_by k e → e ≡ edition_in r → x ≡ stored (links_in r k) c y
link-read r k c x y d e f g h = f ∙ ap (λ (z : ℕ). stored z c y) (g ∙ ap (links_by k) h)

pub chunks-more : (d f : ℕ) (w : List ℕ) (c : ℕ) → (c ≡ none64 → ⊥) → chunks_by d (suc f) w c ≡ c ∷ chunks_by d f w (stored d c (get_or w (fwd_word c) 0))
chunks-more d f w c n = rw (ne_eqb c none64 n, chunks_by)

pub chunks-end : (d f : ℕ) (w : List ℕ) (c : ℕ) → c ≡ none64 → chunks_by d f w c ≡ []
chunks-end d zero w c e = refl
chunks-end d (suc f) w c e = rw (eq-eqb c none64 e, chunks_by)

resume-bad : (v : ℕ) (w r : List ℕ) (k : ListKind) (i : ℕ) (left : List ℕ) (p n c : ℕ) (l : List ℕ) (ls : List (List ℕ)) → both (has? c left) (may_stand v k w r p n c) ≡ false
    → resume v w r k i left p n (c ∷ l) ls ≡ Err (A.List k)
unfolding good_from
resume-bad v w r k i left p n c l ls e =
    let g : good_from v k w r left p n (c ∷ l) ≡ false = ap (λ (z : Bool). both z (good_from v k w r (without c left) c (suc n) l)) e in
    rw (g, resume)

good_more : (v : ℕ) (k : ListKind) (w r left : List ℕ) (p n c : ℕ) (l : List ℕ) → both (has? c left) (may_stand v k w r p n c) ≡ true
    → good_from v k w r left p n (c ∷ l) ≡ good_from v k w r (without c left) c (suc n) l
unfolding good_from
good_more v k w r left p n c l e = ap (λ (z : Bool). both z (good_from v k w r (without c left) c (suc n) l)) e

resume-more : (v : ℕ) (w r : List ℕ) (k : ListKind) (i : ℕ) (left : List ℕ) (p n c : ℕ) (l : List ℕ) (ls : List (List ℕ)) → both (has? c left) (may_stand v k w r p n c) ≡ true
    → resume v w r k i left p n (c ∷ l) ls ≡ resume v w r k i (without c left) c (suc n) l ls
resume-more v w r k i left p n c l ls e =
    ap (λ (z : Bool). elim (both z (skips_ok v k w (list_of w r k))) [ true ↦ list_fault v w r (suc i) (minus left (c ∷ l)) ls | false ↦ Err (A.List k) ])
    (good_more v k w r left p n c l e)

end-false : (v : ℕ) (w r : List ℕ) (k : ListKind) (i : ℕ) (left : List ℕ) (p n : ℕ) (ls : List (List ℕ)) → may_end k r p n ≡ false → resume v w r k i left p n [] ls ≡ Err (A.List k)
unfolding good_from
end-false v w r k i left p n ls h = let g : good_from v k w r left p n [] ≡ false = h in rw (g, resume)

end-true : (v : ℕ) (w r : List ℕ) (k : ListKind) (i : ℕ) (left : List ℕ) (p n : ℕ) (ls : List (List ℕ)) (b : Bool) → may_end k r p n ≡ true → skips_ok v k w (list_of w r k) ≡ b
    → resume v w r k i left p n [] ls ≡ elim b [ true ↦ list_fault v w r (suc i) left ls | false ↦ Err (A.List k) ]
unfolding good_from
end-true v w r k i left p n ls b h s =
    let g : good_from v k w r left p n [] ≡ true = h in
    ap (λ (z : Bool). elim (both z (skips_ok v k w (list_of w r k))) [ true ↦ list_fault v w r (suc i) left ls | false ↦ Err (A.List k) ]) g
    ∙ ap (λ (z : Bool). elim z [ true ↦ list_fault v w r (suc i) left ls | false ↦ Err (A.List k) ]) s

module _ (v : ℕ) (w r m : List ℕ) (k : ListKind) (i p q n c : ℕ) (o : In v w r m k i p q n c) where
  list-bad : (m' : List ℕ) → (c ≡ none64 → ⊥) → both (has? c o.left) (may_stand v k w r p n c) ≡ false → ListsDone v w r (Err (A.List k)) m'
  list-bad m' ne e = go o.f o.fuel o.same
    where
      go : (f : ℕ) → length o.left < f → resume v w r k i o.left p n (chunks_by (links_in r k) f w c) (drop (suc i) (lists_of w r)) ≡ whole v w r → ListsDone v w r (Err (A.List k)) m'
      go zero b s = absurd (not-suc-le-zero b)
      go (suc f) b s = record {
        is = sym (ap (λ (l : List ℕ). resume v w r k i o.left p n l (drop (suc i) (lists_of w r))) (chunks-more (links_in r k) f w c ne)
            ∙ resume-bad v w r k i o.left p n c _ _ e) ∙ s;
        marks = λ y. not_sound (Err (A.List k)) refl y;
      }

  -- c is no chunk, or was met; c may not stand there
  pub list-met : (t : Bool) (m' : List ℕ) → (c ≡ none64 → ⊥) → t ≡ unmet m c → t ≡ false → ListsDone v w r (Err (A.List k)) m'
  list-met t m' ne e z =
      let h : has? c o.left ≡ false = sym (unmet-has w m o.left o.b o.marks c) ∙ sym e ∙ z in
      list-bad m' ne (ap (λ (y : Bool). both y (may_stand v k w r p n c)) h)

  has-true : (t : Bool) → t ≡ unmet m c → t ≡ true → has? c o.left ≡ true
  has-true t e z = sym (unmet-has w m o.left o.b o.marks c) ∙ sym e ∙ z

  pub list-misplaced : (t u : Bool) (m' : List ℕ) → (c ≡ none64 → ⊥) → t ≡ unmet m c → t ≡ true → u ≡ may_stand v k w r p n c → u ≡ false → ListsDone v w r (Err (A.List k)) m'
  list-misplaced t u m' ne e z g y = list-bad m' ne (ap (λ (x : Bool). both x (may_stand v k w r p n c)) (has-true t e z) ∙ sym g ∙ y)

  pub list-turn : (t u : Bool) (s : ℕ) → (c ≡ none64 → ⊥) → t ≡ unmet m c → t ≡ true → u ≡ may_stand v k w r p n c → u ≡ true → s ≡ size_at w c
      → In v w r (set m (c / 16) (mark_of k)) k i c s (n + 1) (stored (links_in r k) c (get_or w (fwd_word c) 0))
  list-turn t u s ne e z d y sz = go o.f o.fuel o.same o.rest o.bins o.begun
    where
      next : ℕ
      next = stored (links_in r k) c (get_or w (fwd_word c) 0)

      tested : both (has? c o.left) (may_stand v k w r p n c) ≡ true
      tested = ap (λ (x : Bool). both x (may_stand v k w r p n c)) (has-true t e z) ∙ sym d ∙ y

      has : 1 ≤ cnt c o.left
      has = (unmet-inside w m o.left o.b o.marks c (sym e ∙ z)).2

      g : length o.left ≡ suc (length (without c o.left))
      g = without-length c o.left has

      go : (f : ℕ) → length o.left < f
          → resume v w r k i o.left p n (chunks_by (links_in r k) f w c) (drop (suc i) (lists_of w r)) ≡ whole v w r
          → minus_all (minus o.left (chunks_by (links_in r k) f w c)) (drop (suc i) (lists_of w r)) ≡ minus_all (starts_of w) (lists_of w r)
          → ((x : ℕ) → o.b x + bin_cnt k x (chunks_by (links_in r k) f w c) + cnt_all x (drop (74 - suc i) (drop (suc i) (lists_of w r))) ≡ binned_of w r x)
          → good_from v k w r o.left₀ none64 0 (list_of w r k) ≡ good_from v k w r o.left p n (chunks_by (links_in r k) f w c)
          → In v w r (set m (c / 16) (mark_of k)) k i c s (n + 1) next
      go zero b a t u d = absurd (not-suc-le-zero b)
      go (suc f) b a t u d =
          let h : chunks_by (links_in r k) (suc f) w c ≡ c ∷ chunks_by (links_in r k) f w next = chunks-more (links_in r k) f w c ne in
          let n1 : suc n ≡ n + 1 = omega arith in
          record {
            left = without c o.left;
            b = λ x. o.b x + bin_cnt k x (c ∷ []);
            f = f;
            marks = mark-step w m o.left o.b c k o.marks (sym e ∙ z);
            fuel = omega (arith, g);
            few = omega (arith, g, o.few);
            same = subst (λ (y : ℕ). resume v w r k i (without c o.left) c y (chunks_by (links_in r k) f w next) (drop (suc i) (lists_of w r)) ≡ whole v w r) n1
                (sym (ap (λ (l : List ℕ). resume v w r k i o.left p n l (drop (suc i) (lists_of w r))) h
                ∙ resume-more v w r k i o.left p n c _ _ tested) ∙ a);
            rest = sym (ap (λ (l : List ℕ). minus_all (minus o.left l) (drop (suc i) (lists_of w r))) h) ∙ t;
            bins = λ x. omega (arith, u x, ap (λ (l : List ℕ). bin_cnt k x l) h, bin-more k x c (chunks_by (links_in r k) f w next));
            sized = λ _. sz;
            part = λ x. omega (arith, o.part x, without-cnt c o.left has x);
            left₀ = o.left₀;
            few₀ = o.few₀;
            part₀ = o.part₀;
            begun = subst (λ (y : ℕ). good_from v k w r o.left₀ none64 0 (list_of w r k) ≡ good_from v k w r (without c o.left) c y (chunks_by (links_in r k) f w next)) n1
                (d ∙ ap (good_from v k w r o.left p n) h ∙ good_more v k w r o.left p n c _ tested);
          }

  -- where the list ends
  pub list-end-bad : (t : Bool) (m' : List ℕ) → c ≡ none64 → t ≡ may_end k r p n → t ≡ false → ListsDone v w r (Err (A.List k)) m'
  list-end-bad t m' e g z = record {
    is = sym (ap (λ (y : List ℕ). resume v w r k i o.left p n y (drop (suc i) (lists_of w r))) (chunks-end (links_in r k) o.f w c e)
        ∙ end-false v w r k i o.left p n (drop (suc i) (lists_of w r)) (sym g ∙ z)) ∙ o.same;
    marks = λ y. not_sound (Err (A.List k)) refl y;
  }

  -- a list that ends rightly: it can be walked; its skip links are wrong; they are right
  pub list-walked : (t : Bool) → TilesOk w 0 (tiles_of w) → 8 * length w ≤ 262144 → c ≡ none64 → t ≡ may_end k r p n → t ≡ true → KindWalk k w r
  unfolding good_from
  list-walked t ok small e g z =
      good-walk v k w r o.left₀ ok small o.part₀ o.few₀ (o.begun ∙ ap (good_from v k w r o.left p n) (chunks-end (links_in r k) o.f w c e) ∙ sym g ∙ z)

  ended : (t u : Bool) → c ≡ none64 → t ≡ may_end k r p n → t ≡ true → u ≡ skips_ok v k w (list_of w r k)
      → elim u [ true ↦ list_fault v w r (suc i) o.left (drop (suc i) (lists_of w r)) | false ↦ Err (A.List k) ] ≡ whole v w r
  ended t u e g z s =
      sym (ap (λ (y : List ℕ). resume v w r k i o.left p n y (drop (suc i) (lists_of w r))) (chunks-end (links_in r k) o.f w c e)
      ∙ end-true v w r k i o.left p n (drop (suc i) (lists_of w r)) u (sym g ∙ z) (sym s)) ∙ o.same

  pub list-unlinked : (t u : Bool) (m' : List ℕ) → c ≡ none64 → t ≡ may_end k r p n → t ≡ true → u ≡ skips_ok v k w (list_of w r k) → u ≡ false → ListsDone v w r (Err (A.List k)) m'
  list-unlinked t u m' e g z s y = record { is = ended t false e g z (sym y ∙ s); marks = λ y. not_sound (Err (A.List k)) refl y }

  pub list-leave : (t u : Bool) → c ≡ none64 → t ≡ may_end k r p n → t ≡ true → u ≡ skips_ok v k w (list_of w r k) → u ≡ true → Out v w r m (i + 1)
  list-leave t u e g z s y =
      let i1 : suc i ≡ i + 1 = omega arith in
      let d : chunks_by (links_in r k) o.f w c ≡ [] = chunks-end (links_in r k) o.f w c e in
      subst (λ (y : ℕ). Out v w r m y) i1 (record {
        left = o.left;
        b = o.b;
        marks = o.marks;
        few = omega (arith, o.few);
        part = o.part;
        same = ended t true e g z (sym y ∙ s);
        rest = sym (ap (λ (y : List ℕ). minus_all (minus o.left y) (drop (suc i) (lists_of w r))) d) ∙ o.rest;
        bins = λ x. omega (arith, o.bins x, ap (λ (y : List ℕ). bin_cnt k x y) d, bin-none k x);
      })

-- a list that is empty by its words is left as if its chunks had been gone through; so is a run of them
list-empty : (v : ℕ) (w r m : List ℕ) (i : ℕ) → i < 200 → Empty r (kind_at i) → Out v w r m i → Out v w r m (i + 1)
unfolding list_of
list-empty v w r m i h e o =
    list-leave v w r m (kind_at i) i none64 0 0 (up (get_or r (head_word (kind_at i)) 0)) (list-enter v w r m i 0 h o) true true e.0 (sym e.1) refl
    (sym (ap (skips_ok v (kind_at i) w) (chunks-end (links_in r (kind_at i)) (length w) w (up (get_or r (head_word (kind_at i)) 0)) e.0) ∙ skips-none v (kind_at i) w)) refl

pub list-skip : (v : ℕ) (w r m : List ℕ) (i j : ℕ) → Skipped r i j → Out v w r m i → Out v w r m j
list-skip v w r m i j s o = go (j - i) i (omega (arith, s.low)) s o
  where
    go : (n i : ℕ) → i + n ≡ j → Skipped r i j → Out v w r m i → Out v w r m j
    go zero i e s o = let q : i ≡ j = omega (arith, e) in rw q at o
    go (suc n) i e s o =
        go n (i + 1) (omega (arith, e))
        (record { low = omega (arith, e); high = s.high; empty = λ x p q. s.empty x (omega (arith, p)) q })
        (list-empty v w r m i (omega (arith, e, s.high)) (s.empty i (omega arith) (omega (arith, e))) o)

-- ---- all lists are good
drop_all : (n : ℕ) (ls : List (List ℕ)) → length ls ≡ n → drop n ls ≡ []
drop_all zero [] e = refl
drop_all zero (l ∷ ls) e = absurd (omega (arith, e))
drop_all (suc n) [] e = refl
drop_all (suc n) (l ∷ ls) e = drop_all n ls (omega (arith, e))

drop-none : (x n : ℕ) → cnt_all x (drop n []) ≡ 0
drop-none x zero = refl
drop-none x (suc n) = refl

pub lists-done : (v : ℕ) (w r m : List ℕ) (i : ℕ) → 200 ≤ i → i ≤ 200 → Out v w r m i → ListsDone v w r (Ok tt) m
unfolding list_fault
lists-done v w r m i h l o =
    let d : drop i (lists_of w r) ≡ [] = drop_all i (lists_of w r) (omega (arith, lists_of-length w r)) in
    record {
      is = sym (ap (list_fault v w r i o.left) d) ∙ o.same;
      marks = λ _. marks-same w m _ _ _ _
          (λ x. ap (λ (y : List ℕ). cnt x y) (sym (ap (minus_all o.left) d) ∙ o.rest))
          (λ x. omega (arith, o.bins x, ap (λ (y : List (List ℕ)). cnt_all x (drop (74 - i) y)) d, drop-none x (74 - i))) o.marks;
    }

-- the record has a list's words, before the key's, and a bin has a number
pub kind-words : (k : ListKind) (i : ℕ) → k ≡ kind_at i → i < 200 → (head_word k < key_low) × (tail_word k < key_low)
kind-words k i e h = subst (λ (z : ListKind). (head_word z < key_low) × (tail_word z < key_low)) (sym e) (go (ltb i 64) (ltb i 74) refl refl)
  where
    go : (a b : Bool) → ltb i 64 ≡ a → ltb i 74 ≡ b
        → (head_word (elim a [ true ↦ Cache i | false ↦ elim b [ true ↦ Fast (i - 64) | false ↦ Bin (i - 73) ] ]) < key_low)
        × (tail_word (elim a [ true ↦ Cache i | false ↦ elim b [ true ↦ Fast (i - 64) | false ↦ Bin (i - 73) ] ]) < key_low)
    go true b p q = let l = ltb-true i 64 p in (omega arith, omega arith)
    go false true p q = let l = ltb-true i 74 q in (omega arith, omega arith)
    go false false p q = (omega arith, omega arith)

pub kind-numbered : (k : ListKind) (i : ℕ) → k ≡ kind_at i → i < 200 → Numbered k
kind-numbered k i e h = subst Numbered (sym e) (go (ltb i 64) (ltb i 74) refl)
  where
    go : (a b : Bool) → ltb i 74 ≡ b → Numbered (elim a [ true ↦ Cache i | false ↦ elim b [ true ↦ Fast (i - 64) | false ↦ Bin (i - 73) ] ])
    go true b q = tt
    go false true q = tt
    go false false q = let l = ltb-false i 74 q in (omega arith, omega arith)
