-- What a list that suits its kind says, test by test, and the way back: a cache list, a fast list, a bin, a bin's skip links. By induction on the list.
-- Assumes nothing.
use Rattle.std.specs.Prelude.{◌≡◌, refl, List, [], ◌∷◌, ◌⊎◌, Bool, true, false, ℕ, suc, ◌+◌, ◌*◌, ◌/◌, ◌≤◌, ◌<◌, eqb, ltb, leb, length, get_or}
use Rattle.std.proofs.Common.{sym, ap, ◌∙◌, inl, inr, ⊎_elim, not-suc-le-zero, arith, ltb-true, leb-true, eqb-true, lt-ltb, le-ltb, le-leb, eq-eqb, ne_eqb}
use Rattle.std.proofs.lemmas.Bool.{eqb-false}
use Rattle.sizes.specs.Limits.{none64, none32}
use Rattle.sizes.specs.Sizes.{bin_of}
use Rattle.sizes.specs.Layout.{cache_count, bin_last, back_word, key_word}
use Rattle.machine.specs.Lists.{either, hd, lst, cnt}
use Rattle.machine.specs.Count.{eq?, ind-other, cnt-here, cnt-there}
use Rattle.machine.specs.View.{size_at, up, kind_at, key_in}
use Rattle.machine.specs.Writes.{Write, who, field, value, stand?}
use Rattle.machine.specs.Skips.{skips}
use Rattle.machine.specs.Audit.{key_ok, may_stand, skips_ok}
use Rattle.machine.specs.declared.ListKind.{ListKind}
use Rattle.machine.specs.declared.ListKind.TheVariants.{Cache, Fast, Bin}
use Rattle.sound.specs.Relation.{chain, links, stand, falls}
use Rattle.sound.specs.Tiles.{lt-or-le}
use Rattle.sound.specs.Release.{both_true}
use Rattle.sound.specs.Rings.{kind-case}
use Rattle.audit_walks.specs.Tests.{either_true, either_left, either-right}
use Rattle.audit.specs.Lists.{suits}

-- ---- the kind of list number i
pub kind-cache : (k : ℕ) → k < 64 → kind_at k ≡ Cache k
kind-cache k h = rw (lt-ltb k 64 h, kind_at)

pub kind-fast : (k : ℕ) → k < 10 → kind_at (64 + k) ≡ Fast k
kind-fast k h = rw (le-ltb (64 + k) 64 (omega arith), kind_at) (rw (lt-ltb (64 + k) 74 (omega arith)) (ap Fast (omega arith)))

pub kind-bin : (j : ℕ) → 1 ≤ j → kind_at (73 + j) ≡ Bin j
kind-bin j h = rw (le-ltb (73 + j) 64 (omega arith), kind_at) (rw (le-ltb (73 + j) 74 (omega arith)) (ap Bin (omega arith)))

-- ---- a member of a list
pub cnt-cases : (x c : ℕ) (l : List ℕ) → 1 ≤ cnt x (c ∷ l) → (x ≡ c) ⊎ (1 ≤ cnt x l)
cnt-cases x c l h = ⊎_elim (λ e. inl e) (λ n. inr (omega (arith, ind-other x c n))) (eq? x c)

every : (P : ℕ → Type 0) (c : ℕ) (l : List ℕ) → P c → ((x : ℕ) → 1 ≤ cnt x l → P x) → (x : ℕ) → 1 ≤ cnt x (c ∷ l) → P x
every P c l h t x m = ⊎_elim (λ e. rw e h) (λ n. t x n) (cnt-cases x c l m)

-- ---- a cache list: sizes, the count, at most 7, the key
pub record CacheListed (v k : ℕ) (w r : List ℕ) (n : ℕ) (l : List ℕ) : Type 0 where
  pub own : (x : ℕ) → 1 ≤ cnt x l → size_at w x ≡ 32 + 16 * k
  pub counted : get_or r (cache_count k) 0 ≡ n + length l
  pub most : n + length l ≤ 7
  pub keys : 2 ≤ v → (x : ℕ) → 1 ≤ cnt x l → get_or w (key_word x) 0 ≡ key_in r

-- the key of one chunk: asked for from version 2 on
key-out : (v : ℕ) (w r : List ℕ) (c : ℕ) → key_ok v w r c ≡ true → 2 ≤ v → get_or w (key_word c) 0 ≡ key_in r
key-out v w r c e h =
    ⊎_elim (λ z. absurd (omega (arith, ltb-true v 2 z))) (λ z. eqb-true (get_or w (key_word c) 0) (key_in r) z) (either_true (ltb v 2) _ e)

key-in : (v : ℕ) (w r : List ℕ) (c : ℕ) → (2 ≤ v → get_or w (key_word c) 0 ≡ key_in r) → key_ok v w r c ≡ true
key-in v w r c h =
    ⊎_elim (λ z. either_left (ltb v 2) _ (lt-ltb v 2 z)) (λ z. either-right (ltb v 2) _ (eq-eqb (get_or w (key_word c) 0) (key_in r) (h z))) (lt-or-le v 2)

pub cache-out : (v k : ℕ) (w r : List ℕ) (p n : ℕ) (l : List ℕ) → n ≤ 7 → suits v (Cache k) w r p n l → CacheListed v k w r n l
cache-out v k w r p n [] h s = record {
  own = λ x m. absurd (not-suc-le-zero m);
  counted = eqb-true (get_or r (cache_count k) 0) n s ∙ omega arith;
  most = omega arith;
  keys = λ _ x m. absurd (not-suc-le-zero m);
}
cache-out v k w r p n (c ∷ l) h s =
    let q = both_true (eqb (size_at w c) (32 + 16 * k)) _ s.0 in
    let u = both_true (ltb n 7) (key_ok v w r c) q.1 in
    let t = cache-out v k w r c (suc n) l (ltb-true n 7 u.0) s.1 in
    record {
      own = every (λ x. size_at w x ≡ 32 + 16 * k) c l (eqb-true (size_at w c) (32 + 16 * k) q.0) t.own;
      counted = omega (arith, t.counted);
      most = omega (arith, t.most);
      keys = λ z. every (λ x. get_or w (key_word x) 0 ≡ key_in r) c l (key-out v w r c u.1 z) (t.keys z);
    }

pub cache-in : (v k : ℕ) (w r : List ℕ) (p n : ℕ) (l : List ℕ) → CacheListed v k w r n l → suits v (Cache k) w r p n l
cache-in v k w r p n [] s = eq-eqb (get_or r (cache_count k) 0) n (s.counted ∙ omega arith)
cache-in v k w r p n (c ∷ l) s = (
  rw (eq-eqb (size_at w c) (32 + 16 * k) (s.own c (cnt-here c l)), may_stand)
      (rw (lt-ltb n 7 (omega (arith, s.most))) (key-in v w r c (λ z. s.keys z c (cnt-here c l)))),
  cache-in v k w r c (suc n) l (record {
    own = λ x m. s.own x (cnt-there x c l m);
    counted = omega (arith, s.counted);
    most = omega (arith, s.most);
    keys = λ z x m. s.keys z x (cnt-there x c l m);
  }),
)

-- ---- a fast list: sizes, none above 128
pub record FastListed (k : ℕ) (w l : List ℕ) : Type 0 where
  pub own : (x : ℕ) → 1 ≤ cnt x l → size_at w x ≡ 32 + 16 * k
  pub most : (x : ℕ) → 1 ≤ cnt x l → size_at w x ≤ 128

pub fast-out : (v k : ℕ) (w r : List ℕ) (p n : ℕ) (l : List ℕ) → suits v (Fast k) w r p n l → FastListed k w l
fast-out v k w r p n [] s = record { own = λ x m. absurd (not-suc-le-zero m); most = λ x m. absurd (not-suc-le-zero m) }
fast-out v k w r p n (c ∷ l) s =
    let q = both_true (eqb (size_at w c) (32 + 16 * k)) (leb (size_at w c) 128) s.0 in
    let t = fast-out v k w r c (suc n) l s.1 in
    record {
      own = every (λ x. size_at w x ≡ 32 + 16 * k) c l (eqb-true (size_at w c) (32 + 16 * k) q.0) t.own;
      most = every (λ x. size_at w x ≤ 128) c l (leb-true (size_at w c) 128 q.1) t.most;
    }

pub fast-in : (v k : ℕ) (w r : List ℕ) (p n : ℕ) (l : List ℕ) → FastListed k w l → suits v (Fast k) w r p n l
fast-in v k w r p n [] s = refl
fast-in v k w r p n (c ∷ l) s = (
  rw (eq-eqb (size_at w c) (32 + 16 * k) (s.own c (cnt-here c l)), may_stand) (le-leb (size_at w c) 128 (s.most c (cnt-here c l))),
  fast-in v k w r c (suc n) l (record { own = λ x m. s.own x (cnt-there x c l m); most = λ x m. s.most x (cnt-there x c l m) }),
)

-- ---- a chunk in a bin, after p
record BinStands (j : ℕ) (w : List ℕ) (p c : ℕ) : Type 0 where
  own : (j ≡ 1) ⊎ (bin_of (size_at w c) ≡ j)
  back : get_or w (back_word c) 0 ≡ p
  order : 64 ≤ j → (p ≡ none64 → ⊥) → size_at w c ≤ size_at w p

bin-stands : (v j : ℕ) (w r : List ℕ) (p n c : ℕ) → may_stand v (Bin j) w r p n c ≡ true → BinStands j w p c
bin-stands v j w r p n c e =
    let x = both_true (either (eqb j 1) (eqb (bin_of (size_at w c)) j)) _ e in
    let y = both_true (eqb (get_or w (back_word c) 0) p) _ x.1 in
    record {
      own = ⊎_elim (λ z. inl (eqb-true j 1 z)) (λ z. inr (eqb-true (bin_of (size_at w c)) j z)) (either_true (eqb j 1) _ x.0);
      back = eqb-true (get_or w (back_word c) 0) p y.0;
      order = λ h n. ⊎_elim (λ z. absurd (omega (arith, ltb-true j 64 z)))
          (λ z. ⊎_elim (λ q. absurd (n (eqb-true p none64 q))) (λ q. leb-true (size_at w c) (size_at w p) q) (either_true (eqb p none64) _ z))
          (either_true (ltb j 64) _ y.1);
    }

stands-bin : (v j : ℕ) (w r : List ℕ) (p n c : ℕ) → BinStands j w p c → may_stand v (Bin j) w r p n c ≡ true
stands-bin v j w r p n c k =
    let o : either (eqb j 1) (eqb (bin_of (size_at w c)) j) ≡ true =
    ⊎_elim (λ z. either_left (eqb j 1) _ (eq-eqb j 1 z)) (λ z. either-right (eqb j 1) _ (eq-eqb (bin_of (size_at w c)) j z)) k.own in
    let f : either (ltb j 64) (either (eqb p none64) (leb (size_at w c) (size_at w p))) ≡ true =
    ⊎_elim (λ z. either_left (ltb j 64) _ (lt-ltb j 64 z)) (λ z. either-right (ltb j 64) _ (last z (eqb p none64) refl)) (lt-or-le j 64) in
    rw (o, may_stand) (rw (eq-eqb (get_or w (back_word c) 0) p k.back) f)
  where
    last : 64 ≤ j → (q : Bool) → eqb p none64 ≡ q → either q (leb (size_at w c) (size_at w p)) ≡ true
    last h true e = refl
    last h false e = le-leb (size_at w c) (size_at w p) (k.order h (eqb-false p none64 e))

-- ---- a bin after p: links both ways, sizes, order, the last
pub record BinListed (j : ℕ) (w r : List ℕ) (p : ℕ) (l : List ℕ) : Type 0 where
  pub link : links w p l none64
  pub own : (x : ℕ) → 1 ≤ cnt x l → (j ≡ 1) ⊎ (bin_of (size_at w x) ≡ j)
  pub falling : 64 ≤ j → falls (λ x. size_at w x) l
  pub below : 64 ≤ j → (p ≡ none64 → ⊥) → (x : ℕ) → 1 ≤ cnt x l → size_at w x ≤ size_at w p
  pub last : up (get_or r (bin_last j) 0) ≡ lst p l

pub bin-out : (v j : ℕ) (w r : List ℕ) (p n : ℕ) (l : List ℕ) → ((x : ℕ) → 1 ≤ cnt x l → x ≡ none64 → ⊥) → chain w l → suits v (Bin j) w r p n l → BinListed j w r p l
bin-out v j w r p n [] h c s = record {
  link = tt;
  own = λ x m. absurd (not-suc-le-zero m);
  falling = λ _. tt;
  below = λ _ _ x m. absurd (not-suc-le-zero m);
  last = eqb-true (up (get_or r (bin_last j) 0)) p s;
}
bin-out v j w r p n (c ∷ l) h ch s =
    let k = bin-stands v j w r p n c s.0 in
    let t = bin-out v j w r c (suc n) l (λ x m. h x (cnt-there x c l m)) ch.1 s.1 in
    let under : 64 ≤ j → (x : ℕ) → 1 ≤ cnt x l → size_at w x ≤ size_at w c = λ g. t.below g (h c (cnt-here c l)) in
    record {
      link = (ch.0, k.back, t.link);
      own = every (λ x. (j ≡ 1) ⊎ (bin_of (size_at w x) ≡ j)) c l k.own t.own;
      falling = λ g. (under g, t.falling g);
      below = λ g q. every (λ x. size_at w x ≤ size_at w p) c l (k.order g q) (λ x m. omega (arith, k.order g q, under g x m));
      last = t.last;
    }

pub bin-in : (v j : ℕ) (w r : List ℕ) (p n : ℕ) (l : List ℕ) → BinListed j w r p l → chain w l × suits v (Bin j) w r p n l
bin-in v j w r p n [] k = (tt, eq-eqb (up (get_or r (bin_last j) 0)) p k.last)
bin-in v j w r p n (c ∷ l) k =
    let t = bin-in v j w r c (suc n) l (record {
      link = k.link.2;
      own = λ x m. k.own x (cnt-there x c l m);
      falling = λ g. (k.falling g).1;
      below = λ g _. (k.falling g).0;
      last = k.last;
    }) in
    ((k.link.0, t.0), (stands-bin v j w r p n c (record { own = k.own c (cnt-here c l); back = k.link.1; order = λ g q. k.below g q c (cnt-here c l) }), t.1))

-- ---- words as writes would leave them
stand-out : (ws : List Write) (w : List ℕ) → stand? ws w ≡ true → stand ws w
stand-out [] w e = tt
stand-out (x ∷ ws) w e =
    let t = both_true (eqb (get_or w (who x / 8 + field x) 0) (value x w)) (stand? ws w) e in
    (eqb-true (get_or w (who x / 8 + field x) 0) (value x w) t.0, stand-out ws w t.1)

stand-in : (ws : List Write) (w : List ℕ) → stand ws w → stand? ws w ≡ true
stand-in [] w s = refl
stand-in (x ∷ ws) w s = rw (eq-eqb (get_or w (who x / 8 + field x) 0) (value x w) s.0, stand?) (stand-in ws w s.1)

-- the skip links of a bin: asked for from version 3 on
pub skips-out : (v j : ℕ) (w l : List ℕ) → skips_ok v (Bin j) w l ≡ true → 3 ≤ v → stand (skips j (λ x. size_at w x) l) w
skips-out v j w l e h =
    ⊎_elim (λ z. absurd (omega (arith, ltb-true v 3 z))) (λ z. stand-out (skips j (λ x. size_at w x) l) w z) (either_true (ltb v 3) _ e)

pub skips-in : (v j : ℕ) (w l : List ℕ) → (3 ≤ v → stand (skips j (λ x. size_at w x) l) w) → skips_ok v (Bin j) w l ≡ true
skips-in v j w l h =
    ⊎_elim (λ z. either_left (ltb v 3) _ (lt-ltb v 3 z)) (λ z. either-right (ltb v 3) _ (stand-in (skips j (λ x. size_at w x) l) w (h z))) (lt-or-le v 3)

-- no chunk, no skip link
pub skips-empty : (j : ℕ) (sz : ℕ → ℕ) (w : List ℕ) → stand (skips j sz []) w
skips-empty j sz w = kind-case (λ ws. stand ws w) j [] [] (λ z. tt) (λ z. tt) tt

pub skips-none : (v : ℕ) (k : ListKind) (w : List ℕ) → skips_ok v k w [] ≡ true
skips-none v (Cache k) w = refl
skips-none v (Fast k) w = refl
skips-none v (Bin j) w = skips-in v j w [] (λ z. skips-empty j (λ x. size_at w x) w)

-- ---- a word of the record, and the link of the arena that stands for it
up_small : (x : ℕ) → x < 262144 → up x ≡ x
up_small x b = rw (ne_eqb x none32 (λ e. omega arith), up)

pub up-hd : (l : List ℕ) → ((x : ℕ) → 1 ≤ cnt x l → x < 262144) → (up (hd none32 l) ≡ hd none64 l) × (hd none32 l < 4294967296)
up-hd [] h = (refl, omega arith)
up-hd (x ∷ l) h = let b : x < 262144 = h x (cnt-here x l) in (up_small x b, omega arith)

pub up-lst : (l : List ℕ) → ((x : ℕ) → 1 ≤ cnt x l → x < 262144) → (up (lst none32 l) ≡ lst none64 l) × (lst none32 l < 4294967296)
up-lst [] h = (refl, omega arith)
up-lst (x ∷ l) h = let b = inner x l (h x (cnt-here x l)) (λ y m. h y (cnt-there y x l m)) in (up_small (lst x l) b, omega (arith, b))
  where
    inner : (x : ℕ) (l : List ℕ) → x < 262144 → ((y : ℕ) → 1 ≤ cnt y l → y < 262144) → lst x l < 262144
    inner x [] b h = b
    inner x (y ∷ l) b h = inner y l (h y (cnt-here y l)) (λ z m. h z (cnt-there z y l m))

pub up_one : (u v : ℕ) → u < 4294967296 → v < 4294967296 → up u ≡ up v → u ≡ v
up_one u v a b e = go (eqb u none32) (eqb v none32) refl refl e
  where
    go : (x y : Bool) → eqb u none32 ≡ x → eqb v none32 ≡ y → ◌≡◌ {A = ℕ} (elim x [ true ↦ none64 | false ↦ u ]) (elim y [ true ↦ none64 | false ↦ v ]) → u ≡ v
    go true true p q e = eqb-true u none32 p ∙ sym (eqb-true v none32 q)
    go true false p q e = absurd (omega (arith, e))
    go false true p q e = absurd (omega (arith, e))
    go false false p q e = e
