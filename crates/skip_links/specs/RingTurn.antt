-- The loops along a ring and along unsorted, turn by turn: what is written from the chunk at hand on, or stands from it on, is what the whole comes to. The
-- words of skip links are no size words nor forward links of the list's chunks, so the walk stays as it was. Assumes nothing.
use Rattle.std.specs.Prelude.{◌≡◌, refl, List, [], ◌∷◌, ◌++◌, Bool, true, false, ℕ, ◌+◌, ◌*◌, ◌/◌, ◌%◌, ◌≤◌, ◌<◌, eqb, length, get_or}
use Rattle.std.proofs.Common.{sym, ap, ◌∙◌, ⊎_elim, arith, length-set, get_or-set_other, eq-eqb, ne_eqb, lt-ltb, le-ltb}
use Rattle.le.specs.Arena.{arena_words}
use Rattle.le.specs.ArenaLaws.{length-arena_words}
use Rattle.sizes.specs.Limits.{none64, large}
use Rattle.sizes.specs.Layout.{fwd_word}
use Rattle.machine.specs.Lists.{both, tl, cnt}
use Rattle.machine.specs.Count.{eq?}
use Rattle.machine.specs.Writes.{Write, who, field, value, skip_fwd, skip_back, put, apply, stand?}
use Rattle.machine.specs.Skips.{no_skips, ring_from, ring, put_skips, all_put}
use Rattle.machine.specs.View.{size_at}
use Rattle.sound.specs.Frames.{apply-append}
use Rattle.skip_links.specs.Walk.{Walk, LargeWalk}
use Rattle.skip_links.specs.Members.{linked_by, group_of, member}
use Rattle.skip_links.specs.WalkTurn.{Rest, rest-start, rest_end, rest_more, rest_in, rest-next}

-- ---- words that stand, in parts
both-assoc : (x y z : Bool) → both x (both y z) ≡ both (both x y) z
both-assoc true y z = refl
both-assoc false y z = refl

stand-append : (a b : List Write) (w : List ℕ) → stand? (a ++ b) w ≡ both (stand? a w) (stand? b w)
stand-append [] b w = refl
stand-append (e ∷ a) b w =
    let t : Bool = eqb (get_or w (who e / 8 + field e) 0) (value e w) in
    ap (both t) (stand-append a b w) ∙ both-assoc t (stand? a w) (stand? b w)

stands_on : (a b : List Write) (w : List ℕ) → stand? a w ≡ true → stand? (a ++ b) w ≡ stand? b w
stands_on a b w e = stand-append a b w ∙ ap (λ (t : Bool). both t (stand? b w)) e

falls-here : (a b : List Write) (w : List ℕ) → stand? a w ≡ false → stand? (a ++ b) w ≡ false
falls-here a b w e = stand-append a b w ∙ ap (λ (t : Bool). both t (stand? b w)) e

-- two words as two tests, the second where the first stands
module _ (d e : Write) (w : List ℕ) where
  abbrev second : Bool
  second = eqb (get_or w (who e / 8 + field e) 0) (value e w)

  pub two-stand : {t u : ℕ} → t ≡ get_or w (who d / 8 + field d) 0 → t ≡ value d w → u ≡ get_or w (who e / 8 + field e) 0
      → eqb u (value e w) ≡ stand? (d ∷ e ∷ []) w
  two-stand {t} {u} p q r =
      ap (λ (k : ℕ). eqb k (value e w)) r ∙ sym (last second) ∙ sym (ap (λ (b : Bool). both b (both second true)) (eq-eqb _ _ (sym p ∙ q)))
    where
      last : (b : Bool) → both b true ≡ b
      last true = refl
      last false = refl

  pub first-falls : {t : ℕ} → t ≡ get_or w (who d / 8 + field d) 0 → (t ≡ value d w → ⊥) → eqb t (value d w) ≡ stand? (d ∷ e ∷ []) w
  first-falls p q = ne_eqb _ _ q ∙ sym (ap (λ (b : Bool). both b (both second true)) (ne_eqb _ _ (λ g. q (p ∙ g))))

-- ---- what a chunk brings
pub member-same : (z s q c : ℕ) → s ≡ z → (group_of z s q c ≡ q) × (member z s q c ≡ no_skips c)
member-same z s q c e =
    let b : eqb s z ≡ true = eq-eqb s z e in
    (ap (λ (b : Bool). elim b [ true ↦ q | false ↦ c ]) b, ap (λ (b : Bool). elim b [ true ↦ no_skips c | false ↦ linked_by q c ]) b)

pub member-other : (z s q c : ℕ) → (s ≡ z → ⊥) → (group_of z s q c ≡ c) × (member z s q c ≡ linked_by q c)
member-other z s q c e =
    let b : eqb s z ≡ false = ne_eqb s z e in
    (ap (λ (b : Bool). elim b [ true ↦ q | false ↦ c ]) b, ap (λ (b : Bool). elim b [ true ↦ no_skips c | false ↦ linked_by q c ]) b)

pub put_small : (sz : ℕ → ℕ) (c : ℕ) → sz c < large → put_skips sz c ≡ []
put_small sz c h = ap (λ (b : Bool). elim b [ true ↦ [] | false ↦ no_skips c ]) (lt-ltb (sz c) large h)

pub put-large : (sz : ℕ → ℕ) (c : ℕ) → large ≤ sz c → put_skips sz c ≡ no_skips c
put-large sz c h = ap (λ (b : Bool). elim b [ true ↦ [] | false ↦ no_skips c ]) (le-ltb (sz c) large h)

ring-member : (sz : ℕ → ℕ) (f q c : ℕ) (l : List ℕ) → ring_from sz f q (c ∷ l) ≡ member (sz q) (sz c) q c ++ ring_from sz f (group_of (sz q) (sz c) q c) l
ring-member sz f q c l = go (eqb (sz c) (sz q))
  where
    go : (b : Bool)
        → elim b [ true ↦ skip_fwd c none64 ∷ skip_back c none64 ∷ ring_from sz f q l | false ↦ skip_fwd q c ∷ skip_back c q ∷ ring_from sz f c l ]
        ≡ elim b [ true ↦ no_skips c | false ↦ linked_by q c ] ++ ring_from sz f (elim b [ true ↦ q | false ↦ c ]) l
    go true = refl
    go false = refl

group-in : (m : List ℕ) (z s q c : ℕ) → 1 ≤ cnt q m → 1 ≤ cnt c m → 1 ≤ cnt (group_of z s q c) m
group-in m z s q c i j = go (eqb s z)
  where
    go : (b : Bool) → 1 ≤ cnt (elim b [ true ↦ q | false ↦ c ]) m
    go true = i
    go false = j

-- ---- words v that have the sizes and forward links of w in the chunks of m
pub record Kept (w m v : List ℕ) : Type 0 where
  pub long : length v ≡ length w
  pub same : (y j : ℕ) → 1 ≤ cnt y m → 1 ≤ j → j ≤ 2 → get_or v (y / 8 + j) 0 ≡ get_or w (y / 8 + j) 0

kept-size : {w m v : List ℕ} → Kept w m v → (y : ℕ) → 1 ≤ cnt y m → size_at v y ≡ size_at w y
kept-size K y i = ap (λ (k : ℕ). k / 16 * 16) (K.same y 1 i (omega arith) (omega arith))

module _ {w : List ℕ} {x : ℕ} {m : List ℕ} (L : LargeWalk w x m) where
  -- a chunk's skip links are no other words of the list's chunks
  off : (c y k j : ℕ) → 1 ≤ cnt c m → 1 ≤ cnt y m → 4 ≤ k → k ≤ 5 → 1 ≤ j → j ≤ 2 → y / 8 + j ≡ c / 8 + k → ⊥
  off c y k j ic iy a b d e g = ⊎_elim
      (λ s. omega (arith, s, g))
      (λ s. ⊎_elim (λ t. omega (arith, t, L.roomy c ic)) (λ t. omega (arith, t, L.roomy y iy)) (L.walk.apart c y ic iy s))
      (eq? c y)

  kept_put : {v : List ℕ} (e : Write) → 1 ≤ cnt (who e) m → 4 ≤ field e → field e ≤ 5 → Kept w m v → Kept w m (put e v)
  kept_put {v} e i a b K = record {
    long = length-set v (who e / 8 + field e) (value e v) ∙ K.long;
    same = λ y j iy p q. get_or-set_other v (who e / 8 + field e) (y / 8 + j) (value e v) 0 (off (who e) y (field e) j i iy a b p q) ∙ K.same y j iy p q;
  }

  kept-member : {v : List ℕ} (z s q c : ℕ) → 1 ≤ cnt q m → 1 ≤ cnt c m → Kept w m v → Kept w m (apply (member z s q c) v)
  kept-member {v} z s q c i j K = go (eqb s z)
    where
      go : (b : Bool) → Kept w m (apply (elim b [ true ↦ no_skips c | false ↦ linked_by q c ]) v)
      go true = kept_put (skip_back c none64) j (omega arith) (omega arith) (kept_put (skip_fwd c none64) j (omega arith) (omega arith) K)
      go false = kept_put (skip_back c q) j (omega arith) (omega arith) (kept_put (skip_fwd q c) i (omega arith) (omega arith) K)

-- ---- a ring is written: with what is to come for the chunks from n on, the words v are those at the end
pub record Writing (w : List ℕ) (x : ℕ) (m v : List ℕ) (q n : ℕ) : Type 0 where
  pub rest : List ℕ
  pub on : Rest w m n rest
  pub head : 1 ≤ cnt q m
  pub kept : Kept w m v
  pub same : apply (ring_from (λ (y : ℕ). size_at w y) x q rest) v ≡ apply (ring (λ (y : ℕ). size_at w y) m) w

-- ---- a ring is read: it stands if it does from n on
pub record Reading (w : List ℕ) (x : ℕ) (m : List ℕ) (q n : ℕ) : Type 0 where
  pub rest : List ℕ
  pub on : Rest w m n rest
  pub head : 1 ≤ cnt q m
  pub same : stand? (ring_from (λ (y : ℕ). size_at w y) x q rest) w ≡ stand? (ring (λ (y : ℕ). size_at w y) m) w

module _ {w : List ℕ} {x : ℕ} {m : List ℕ} (L : LargeWalk w x m) where
  abbrev sz : ℕ → ℕ
  sz y = size_at w y

  pub first-in : (x ≡ none64 → ⊥) → 1 ≤ cnt x m
  first-in e = rest_in L.walk x m (rest-start L.walk) e

  ring-first : (x ≡ none64 → ⊥) → ring sz m ≡ ring_from sz x x (tl m)
  ring-first e = ap (ring sz) (rest_more L.walk x m (rest-start L.walk) e)

  pub ring-none : x ≡ none64 → ring sz m ≡ []
  ring-none e = ap (ring sz) (rest_end L.walk x m (rest-start L.walk) e)

  pub writing_start : {n : ℕ} → (x ≡ none64 → ⊥) → n ≡ get_or w (fwd_word x) 0 → Writing w x m w x n
  writing_start {n} e g = record {
    rest = tl m;
    on = rest-next L.walk x n m (rest-start L.walk) e g;
    head = first-in e;
    kept = record { long = refl; same = λ y j i p q. refl };
    same = ap (λ (es : List Write). apply es w) (sym (ring-first e));
  }

  pub reading-start : {n : ℕ} → (x ≡ none64 → ⊥) → n ≡ get_or w (fwd_word x) 0 → Reading w x m x n
  reading-start {n} e g = record {
    rest = tl m;
    on = rest-next L.walk x n m (rest-start L.walk) e g;
    head = first-in e;
    same = ap (λ (es : List Write). stand? es w) (sym (ring-first e));
  }

  module _ {v : List ℕ} {q n : ℕ} (o : Writing w x m v q n) where
    pub writing-in : (n ≡ none64 → ⊥) → 1 ≤ cnt n m
    writing-in e = rest_in L.walk n o.rest o.on e

    pub writing-link : {u : List ℕ} {k : ℕ} → (n ≡ none64 → ⊥) → u ≡ apply (member (size_at v q) (size_at v n) q n) v → k ≡ get_or u (fwd_word n) 0 → k ≡ get_or w (fwd_word n) 0
    writing-link {u} {k} e eu ek =
        ek ∙ ap (λ (u : List ℕ). get_or u (fwd_word n) 0) eu
        ∙ (kept-member L (size_at v q) (size_at v n) q n o.head (writing-in e) o.kept).same n 2 (writing-in e) (omega arith) (omega arith)

    pub writing-next : {u : List ℕ} {g k : ℕ} → (n ≡ none64 → ⊥) → g ≡ group_of (size_at v q) (size_at v n) q n → u ≡ apply (member (size_at v q) (size_at v n) q n) v
        → k ≡ get_or u (fwd_word n) 0 → Writing w x m u g k
    writing-next {u} {g} {k} e eg eu ek =
        let i : 1 ≤ cnt n m = writing-in e in
        let t : List ℕ = tl o.rest in
        let sq : size_at v q ≡ size_at w q = kept-size o.kept q o.head in
        let sn : size_at v n ≡ size_at w n = kept-size o.kept n i in
        let eg' : g ≡ group_of (sz q) (sz n) q n =
        eg ∙ ap (λ (z : ℕ). group_of z (size_at v n) q n) sq ∙ ap (λ (s : ℕ). group_of (size_at w q) s q n) sn in
        let eu' : u ≡ apply (member (sz q) (sz n) q n) v =
        eu ∙ ap (λ (z : ℕ). apply (member z (size_at v n) q n) v) sq ∙ ap (λ (s : ℕ). apply (member (size_at w q) s q n) v) sn in
        let K : Kept w m (apply (member (sz q) (sz n) q n) v) = kept-member L (sz q) (sz n) q n o.head i o.kept in
        record {
          rest = t;
          on = rest-next L.walk n k o.rest o.on e (writing-link e eu ek);
          head = rw eg' (group-in m (sz q) (sz n) q n o.head i);
          kept = rw eu' K;
          same = ap (λ (g : ℕ). apply (ring_from sz x g t) u) eg' ∙ ap (apply (ring_from sz x (group_of (sz q) (sz n) q n) t)) eu'
              ∙ sym (apply-append (member (sz q) (sz n) q n) (ring_from sz x (group_of (sz q) (sz n) q n) t) v)
              ∙ ap (λ (es : List Write). apply es v) (sym (ring-member sz x q n t))
              ∙ ap (λ (l : List ℕ). apply (ring_from sz x q l) v) (sym (rest_more L.walk n o.rest o.on e)) ∙ o.same;
        }

    pub writing-end : {u : List ℕ} → n ≡ none64 → u ≡ apply (linked_by q x) v → u ≡ apply (ring sz m) w
    writing-end e eu = eu ∙ ap (λ (l : List ℕ). apply (ring_from sz x q l) v) (sym (rest_end L.walk n o.rest o.on e)) ∙ o.same

  module _ {q n : ℕ} (o : Reading w x m q n) where
    pub reading-in : (n ≡ none64 → ⊥) → 1 ≤ cnt n m
    reading-in e = rest_in L.walk n o.rest o.on e

    reading-more : (n ≡ none64 → ⊥) → stand? (member (sz q) (sz n) q n ++ ring_from sz x (group_of (sz q) (sz n) q n) (tl o.rest)) w ≡ stand? (ring sz m) w
    reading-more e =
        ap (λ (es : List Write). stand? es w) (sym (ring-member sz x q n (tl o.rest)))
        ∙ ap (λ (l : List ℕ). stand? (ring_from sz x q l) w) (sym (rest_more L.walk n o.rest o.on e)) ∙ o.same

    pub reading-next : {t : Bool} {g k : ℕ} → (n ≡ none64 → ⊥) → t ≡ stand? (member (sz q) (sz n) q n) w → t ≡ true → g ≡ group_of (sz q) (sz n) q n
        → k ≡ get_or w (fwd_word n) 0 → Reading w x m g k
    reading-next {t} {g} {k} e p y eg ek = record {
      rest = tl o.rest;
      on = rest-next L.walk n k o.rest o.on e ek;
      head = rw eg (group-in m (sz q) (sz n) q n o.head (reading-in e));
      same = ap (λ (g : ℕ). stand? (ring_from sz x g (tl o.rest)) w) eg ∙ sym (stands_on (member (sz q) (sz n) q n) _ w (sym p ∙ y)) ∙ reading-more e;
    }

    pub reading-falls : {t : Bool} → (n ≡ none64 → ⊥) → t ≡ stand? (member (sz q) (sz n) q n) w → t ≡ false → false ≡ stand? (ring sz m) w
    reading-falls e p y = sym (falls-here (member (sz q) (sz n) q n) _ w (sym p ∙ y)) ∙ reading-more e

    pub reading-end : {t : Bool} → n ≡ none64 → t ≡ stand? (linked_by q x) w → t ≡ stand? (ring sz m) w
    reading-end e p = p ∙ ap (λ (l : List ℕ). stand? (ring_from sz x q l) w) (sym (rest_end L.walk n o.rest o.on e)) ∙ o.same

-- ---- unsorted is read: it stands if it does from n on
pub record Putting (w m : List ℕ) (n : ℕ) : Type 0 where
  pub rest : List ℕ
  pub on : Rest w m n rest
  pub same : stand? (all_put (λ (y : ℕ). size_at w y) rest) w ≡ stand? (all_put (λ (y : ℕ). size_at w y) m) w

module _ {w : List ℕ} {x : ℕ} {m : List ℕ} (W : Walk w x m) where
  abbrev size : ℕ → ℕ
  size y = size_at w y

  pub putting-start : Putting w m x
  putting-start = record { rest = m; on = rest-start W; same = refl }

  module _ {n : ℕ} (o : Putting w m n) where
    pub putting-in : (n ≡ none64 → ⊥) → 1 ≤ cnt n m
    putting-in e = rest_in W n o.rest o.on e

    putting-more : (n ≡ none64 → ⊥) → stand? (put_skips size n ++ all_put size (tl o.rest)) w ≡ stand? (all_put size m) w
    putting-more e = ap (λ (l : List ℕ). stand? (all_put size l) w) (sym (rest_more W n o.rest o.on e)) ∙ o.same

    pub putting-next : {t : Bool} {k : ℕ} → (n ≡ none64 → ⊥) → t ≡ stand? (put_skips size n) w → t ≡ true → k ≡ get_or w (fwd_word n) 0 → Putting w m k
    putting-next {t} {k} e p y ek = record {
      rest = tl o.rest;
      on = rest-next W n k o.rest o.on e ek;
      same = sym (stands_on (put_skips size n) _ w (sym p ∙ y)) ∙ putting-more e;
    }

    pub putting-falls : {t : Bool} → (n ≡ none64 → ⊥) → t ≡ stand? (put_skips size n) w → t ≡ false → false ≡ stand? (all_put size m) w
    putting-falls e p y = sym (falls-here (put_skips size n) _ w (sym p ∙ y)) ∙ putting-more e

    pub putting-end : n ≡ none64 → true ≡ stand? (all_put size m) w
    putting-end e = ap (λ (l : List ℕ). stand? (all_put size l) w) (sym (rest_end W n o.rest o.on e)) ∙ o.same

-- ---- where a large chunk lies among the bytes
pub large-bytes : (a : List ℕ) {x : ℕ} {m : List ℕ} → LargeWalk (arena_words a) x m → (y : ℕ) → 1 ≤ cnt y m → (y % 8 ≡ 0) × (y + 48 ≤ length a)
large-bytes a L y i = (omega (arith, L.walk.even y i), omega (arith, L.walk.inside y i, L.roomy y i, length-arena_words a))
