-- Skip links as words: a ring that was written stands, and what leaves it standing. The skip links of a large chunk meet no other field of any chunk.
-- Assumes nothing.
use Rattle.std.specs.Prelude.{◌≡◌, refl, List, [], ◌∷◌, ◌++◌, Bool, true, false, ℕ, ◌+◌, ◌*◌, ◌/◌, ◌%◌, ◌≤◌, ◌<◌, eqb, ltb, length, get_or, set}
use Rattle.std.proofs.Common.{sym, ap, ◌∙◌, subst, ⊎_elim, arith, get_or-set_same, get_or-set_other, eqb-true, ltb-false}
use Rattle.std.proofs.lemmas.List.{set-get_or}
use Rattle.std.proofs.lemmas.Bool.{eqb-false}
use Rattle.sizes.specs.Limits.{none64, large, unsorted, first_large}
use Rattle.machine.specs.Lists.{ind, cnt, cnt_all}
use Rattle.machine.specs.Count.{eq?, ind-same, ind-other, cnt-append, cnt-here, cnt-there, cnt-le-all}
use Rattle.machine.specs.Heap.{Tile, Heap, stack, bin, with_tiles, with_bin, top_of, starts, size_of, total}
use Rattle.machine.specs.Writes.{Write, who, field, value, put, apply, skip_fwd, skip_back}
use Rattle.machine.specs.Skips.{no_skips, ring_from, ring, put_skips, all_put, skips, skips_in, skips_out}
use Rattle.sound.specs.Relation.{all, stand, MemBy, Mem, Shape}
use Rattle.sound.specs.Tiles.{zero_or, Start, start}
use Rattle.sound.specs.Frames.{Agree, chain-cong, links-cong, set_cases, end-all, Starts, starts-all, Sub, put-length, apply-length, LinkW, HeadW, tiles-agree, in-starts, Skips}
use Rattle.sound.specs.Apart.{tiled-tiles, clear_of, chunks_apart}

-- ---- the lists of writes, case by case
pub ring-case : (P : List Write → Type 0) (sz : ℕ → ℕ) (f q c : ℕ) (l : List ℕ) → (sz c ≡ sz q → P (skip_fwd c none64 ∷ skip_back c none64 ∷ ring_from sz f q l))
    → ((sz c ≡ sz q → ⊥) → P (skip_fwd q c ∷ skip_back c q ∷ ring_from sz f c l)) → P (ring_from sz f q (c ∷ l))
ring-case P sz f q c l x y = go (eqb (sz c) (sz q)) refl
  where
    go : (b : Bool) → eqb (sz c) (sz q) ≡ b
        → P (elim b [ true ↦ skip_fwd c none64 ∷ skip_back c none64 ∷ ring_from sz f q l | false ↦ skip_fwd q c ∷ skip_back c q ∷ ring_from sz f c l ])
    go true e = x (eqb-true (sz c) (sz q) e)
    go false e = y (eqb-false (sz c) (sz q) e)

pub put-case : (P : List Write → Type 0) (sz : ℕ → ℕ) (c : ℕ) → P [] → (large ≤ sz c → P (no_skips c)) → P (put_skips sz c)
put-case P sz c x y = go (ltb (sz c) large) refl
  where
    go : (b : Bool) → ltb (sz c) large ≡ b → P (elim b [ true ↦ [] | false ↦ no_skips c ])
    go true e = x
    go false e = y (ltb-false (sz c) large e)

pub kind-case : (P : List Write → Type 0) (j : ℕ) (a b : List Write) → (first_large ≤ j → P b) → (j ≡ unsorted → P a) → P []
    → P (elim (ltb j first_large) [ true ↦ elim (eqb j unsorted) [ true ↦ a | false ↦ [] ] | false ↦ b ])
kind-case P j a b x y z = go (ltb j first_large) refl (eqb j unsorted) refl
  where
    go : (t : Bool) → ltb j first_large ≡ t → (u : Bool) → eqb j unsorted ≡ u → P (elim t [ true ↦ elim u [ true ↦ a | false ↦ [] ] | false ↦ b ])
    go true e true q = y (eqb-true j unsorted q)
    go true e false q = z
    go false e u q = x (ltb-false j first_large e)

pub large-case : (P : List Write → Type 0) (j : ℕ) (b : List Write) → (first_large ≤ j → P b) → P [] → P (elim (ltb j first_large) [ true ↦ [] | false ↦ b ])
large-case P j b x z = go (ltb j first_large) refl
  where
    go : (t : Bool) → ltb j first_large ≡ t → P (elim t [ true ↦ [] | false ↦ b ])
    go true e = z
    go false e = x (ltb-false j first_large e)

-- ---- only the sizes of the list's own chunks are asked
choose : (b d : Bool) (x y u v : List Write) → b ≡ d → x ≡ u → y ≡ v → ◌≡◌ {A = List Write} (elim b [ true ↦ x | false ↦ y ]) (elim d [ true ↦ u | false ↦ v ])
choose true d x y u v e p q = subst (λ (t : Bool). x ≡ elim t [ true ↦ u | false ↦ v ]) e p
choose false d x y u v e p q = subst (λ (t : Bool). y ≡ elim t [ true ↦ u | false ↦ v ]) e q

ring_from-cong : (sz sy : ℕ → ℕ) (f q : ℕ) (l : List ℕ) → sz q ≡ sy q → ((x : ℕ) → 1 ≤ cnt x l → sz x ≡ sy x) → ring_from sz f q l ≡ ring_from sy f q l
ring_from-cong sz sy f q [] e k = refl
ring_from-cong sz sy f q (c ∷ l) e k =
    let t : (x : ℕ) → 1 ≤ cnt x l → sz x ≡ sy x = λ x m. k x (cnt-there x c l m) in
    let h : sz c ≡ sy c = k c (cnt-here c l) in
    choose (eqb (sz c) (sz q)) (eqb (sy c) (sy q)) (skip_fwd c none64 ∷ skip_back c none64 ∷ ring_from sz f q l) (skip_fwd q c ∷ skip_back c q ∷ ring_from sz f c l)
    (skip_fwd c none64 ∷ skip_back c none64 ∷ ring_from sy f q l) (skip_fwd q c ∷ skip_back c q ∷ ring_from sy f c l)
    (ap (λ (i : ℕ). eqb i (sz q)) h ∙ ap (λ (i : ℕ). eqb (sy c) i) e)
    (ap (λ (ws : List Write). skip_fwd c none64 ∷ skip_back c none64 ∷ ws) (ring_from-cong sz sy f q l e t))
    (ap (λ (ws : List Write). skip_fwd q c ∷ skip_back c q ∷ ws) (ring_from-cong sz sy f c l h t))

pub ring-cong : (sz sy : ℕ → ℕ) (l : List ℕ) → ((x : ℕ) → 1 ≤ cnt x l → sz x ≡ sy x) → ring sz l ≡ ring sy l
ring-cong sz sy [] k = refl
ring-cong sz sy (c ∷ l) k = ring_from-cong sz sy c c l (k c (cnt-here c l)) (λ x m. k x (cnt-there x c l m))

pub put-cong : (sz sy : ℕ → ℕ) (c : ℕ) → sz c ≡ sy c → put_skips sz c ≡ put_skips sy c
put-cong sz sy c e = choose (ltb (sz c) large) (ltb (sy c) large) [] (no_skips c) [] (no_skips c) (ap (λ (i : ℕ). ltb i large) e) refl refl

pub all_put-cong : (sz sy : ℕ → ℕ) (l : List ℕ) → ((x : ℕ) → 1 ≤ cnt x l → sz x ≡ sy x) → all_put sz l ≡ all_put sy l
all_put-cong sz sy [] k = refl
all_put-cong sz sy (c ∷ l) k =
    ap (λ (ws : List Write). ws ++ all_put sz l) (put-cong sz sy c (k c (cnt-here c l)))
    ∙ ap (λ (ws : List Write). put_skips sy c ++ ws) (all_put-cong sz sy l (λ x m. k x (cnt-there x c l m)))

pub skips-cong : (j : ℕ) (sz sy : ℕ → ℕ) (l : List ℕ) → ((x : ℕ) → 1 ≤ cnt x l → sz x ≡ sy x) → skips j sz l ≡ skips j sy l
skips-cong j sz sy l k =
    choose (ltb j first_large) (ltb j first_large) _ (ring sz l) _ (ring sy l) refl
    (choose (eqb j unsorted) (eqb j unsorted) (all_put sz l) [] (all_put sy l) [] refl (all_put-cong sz sy l k) refl) (ring-cong sz sy l k)

-- ---- writes of skip links only, of large chunks of L, whose values ask for no word
abbrev pub SkipW : (ℕ → ℕ) → List ℕ → List Write → Type 0
SkipW sz L [] = Unit {0}
SkipW sz L (e ∷ ws) = (field e / 2 ≡ 2) × (1 ≤ cnt (who e) L) × (large ≤ sz (who e)) × ((v w : List ℕ) → value e v ≡ value e w) × SkipW sz L ws

pub skip-append : (sz : ℕ → ℕ) (L : List ℕ) (a b : List Write) → SkipW sz L a → SkipW sz L b → SkipW sz L (a ++ b)
skip-append sz L [] b j k = k
skip-append sz L (e ∷ a) b j k = (j.0, j.1, j.2, j.3, skip-append sz L a b j.4 k)

pub skip-more : (sz : ℕ → ℕ) (L M : List ℕ) (ws : List Write) → Sub L M → SkipW sz L ws → SkipW sz M ws
skip-more sz L M [] s k = tt
skip-more sz L M (e ∷ ws) s k = (k.0, s (who e) k.1, k.2, k.3, skip-more sz L M ws s k.4)

ring_from-w : (sz : ℕ → ℕ) (L : List ℕ) (f q : ℕ) (l : List ℕ) → 1 ≤ cnt f L → 1 ≤ cnt q L → Sub l L → ((x : ℕ) → 1 ≤ cnt x L → large ≤ sz x)
    → SkipW sz L (ring_from sz f q l)
ring_from-w sz L f q [] mf mq s r = (omega arith, mq, r q mq, (λ v w. refl), (omega arith, mf, r f mf, (λ v w. refl), tt))
ring_from-w sz L f q (c ∷ l) mf mq s r =
    let mc : 1 ≤ cnt c L = s c (cnt-here c l) in
    let t : Sub l L = λ x m. s x (cnt-there x c l m) in
    ring-case (SkipW sz L) sz f q c l
    (λ e. (omega arith, mc, r c mc, (λ v w. refl), (omega arith, mc, r c mc, (λ v w. refl), ring_from-w sz L f q l mf mq t r)))
    (λ e. (omega arith, mq, r q mq, (λ v w. refl), (omega arith, mc, r c mc, (λ v w. refl), ring_from-w sz L f c l mf mc t r)))

pub ring-w : (sz : ℕ → ℕ) (l : List ℕ) → ((x : ℕ) → 1 ≤ cnt x l → large ≤ sz x) → SkipW sz l (ring sz l)
ring-w sz [] r = tt
ring-w sz (c ∷ l) r = ring_from-w sz (c ∷ l) c c l (cnt-here c l) (cnt-here c l) (λ x m. cnt-there x c l m) r

pub put-w : (sz : ℕ → ℕ) (c : ℕ) → SkipW sz (c ∷ []) (put_skips sz c)
put-w sz c = put-case (SkipW sz (c ∷ [])) sz c tt
    (λ e. (omega arith, cnt-here c [], e, (λ v w. refl), (omega arith, cnt-here c [], e, (λ v w. refl), tt)))

pub all_put-w : (sz : ℕ → ℕ) (l : List ℕ) → SkipW sz l (all_put sz l)
all_put-w sz [] = tt
all_put-w sz (c ∷ l) = skip-append sz (c ∷ l) (put_skips sz c) (all_put sz l)
    (skip-more sz (c ∷ []) (c ∷ l) (put_skips sz c) (λ x m. omega (arith, m)) (put-w sz c))
    (skip-more sz l (c ∷ l) (all_put sz l) (λ x m. cnt-there x c l m) (all_put-w sz l))

pub skips-w : (j : ℕ) (sz : ℕ → ℕ) (l : List ℕ) → (first_large ≤ j → (x : ℕ) → 1 ≤ cnt x l → large ≤ sz x) → SkipW sz l (skips j sz l)
skips-w j sz l r = kind-case (SkipW sz l) j (all_put sz l) (ring sz l) (λ z. ring-w sz l (r z)) (λ z. all_put-w sz l) tt

pub skips_in-w : (j : ℕ) (sz : ℕ → ℕ) (c : ℕ) (l : List ℕ) → 1 ≤ cnt c l → (first_large ≤ j → (x : ℕ) → 1 ≤ cnt x l → large ≤ sz x) → SkipW sz l (skips_in j sz c l)
skips_in-w j sz c l m r = kind-case (SkipW sz l) j (put_skips sz c) (ring sz l) (λ z. ring-w sz l (r z))
    (λ z. skip-more sz (c ∷ []) l (put_skips sz c) (λ x i. ⊎_elim (λ q. rw q m) (λ q. absurd (omega (arith, ind-other x c q))) (eq? x c)) (put-w sz c)) tt

pub skips_out-w : (j : ℕ) (sz : ℕ → ℕ) (l : List ℕ) → (first_large ≤ j → (x : ℕ) → 1 ≤ cnt x l → large ≤ sz x) → SkipW sz l (skips_out j sz l)
skips_out-w j sz l r = large-case (SkipW sz l) j (ring sz l) (λ z. ring-w sz l (r z)) tt

-- ---- standing words in another memory
pub stand-cong : (sz : ℕ → ℕ) (L : List ℕ) (ws : List Write) (w v : List ℕ) → SkipW sz L ws
    → ((x i : ℕ) → 1 ≤ cnt x L → large ≤ sz x → i / 2 ≡ 2 → get_or v (x / 8 + i) 0 ≡ get_or w (x / 8 + i) 0) → stand ws w → stand ws v
stand-cong sz L [] w v s a k = tt
stand-cong sz L (e ∷ ws) w v s a k = (a (who e) (field e) s.1 s.2 s.0 ∙ k.0 ∙ s.3 w v, stand-cong sz L ws w v s.4 a k.1)

-- what stands already may be written again
pub stand-same : (sz : ℕ → ℕ) (L : List ℕ) (ws : List Write) (w : List ℕ) → SkipW sz L ws → stand ws w → apply ws w ≡ w
stand-same sz L [] w s k = refl
stand-same sz L (e ∷ ws) w s k =
    let p : put e w ≡ w = ap (set w (who e / 8 + field e)) (sym k.0) ∙ set-get_or w (who e / 8 + field e) 0 in
    ap (apply ws) p ∙ stand-same sz L ws w s.4 k.1

pub stand-append : (a b : List Write) (w : List ℕ) → stand a w → stand b w → stand (a ++ b) w
stand-append [] b w j k = k
stand-append (e ∷ a) b w j k = (j.0, stand-append a b w j.1 k)

pub stand-split : (a b : List Write) (w : List ℕ) → stand (a ++ b) w → stand a w × stand b w
stand-split [] b w k = (tt, k)
stand-split (e ∷ a) b w k = let r : stand a w × stand b w = stand-split a b w k.1 in ((k.0, r.0), r.1)

all_put-append : (sz : ℕ → ℕ) (a b w : List ℕ) → stand (all_put sz a) w → stand (all_put sz b) w → stand (all_put sz (a ++ b)) w
all_put-append sz [] b w j k = k
all_put-append sz (c ∷ a) b w j k =
    let r = stand-split (put_skips sz c) (all_put sz a) w j in
    stand-append (put_skips sz c) (all_put sz (a ++ b)) w r.0 (all_put-append sz a b w r.1 k)

all_put-split : (sz : ℕ → ℕ) (a b w : List ℕ) → stand (all_put sz (a ++ b)) w → stand (all_put sz a) w × stand (all_put sz b) w
all_put-split sz [] b w k = (tt, k)
all_put-split sz (c ∷ a) b w k =
    let r = stand-split (put_skips sz c) (all_put sz (a ++ b)) w k in
    let t : stand (all_put sz a) w × stand (all_put sz b) w = all_put-split sz a b w r.1 in
    (stand-append (put_skips sz c) (all_put sz a) w r.0 t.0, t.1)

-- ---- each word of a ring is written once
abbrev Other : Write → List Write → Type 0
Other e [] = Unit {0}
Other e (d ∷ ws) = (who d ≡ who e → field d ≡ field e → ⊥) × Other e ws

abbrev Once : List Write → Type 0
Once [] = Unit {0}
Once (e ∷ ws) = Other e ws × Once ws

ring-other : (sz : ℕ → ℕ) (e : Write) (f q : ℕ) (l : List ℕ) → cnt (who e) l ≡ 0 → (who e ≡ q → field e ≡ 4 → ⊥) → (who e ≡ f → field e ≡ 5 → ⊥)
    → Other e (ring_from sz f q l)
ring-other sz e f q [] n a b = ((λ z y. a (sym z) (sym y)), ((λ z y. b (sym z) (sym y)), tt))
ring-other sz e f q (c ∷ l) n a b =
    let ne : c ≡ who e → ⊥ = λ z. omega (arith, ap (λ (y : ℕ). ind (eqb y c)) (sym z), ind-same c) in
    let m : cnt (who e) l ≡ 0 = omega (arith, n) in
    ring-case (Other e) sz f q c l
    (λ k. ((λ z y. ne z), ((λ z y. ne z), ring-other sz e f q l m a b)))
    (λ k. ((λ z y. a (sym z) (sym y)), ((λ z y. ne z), ring-other sz e f c l m (λ z. absurd (ne (sym z))) b)))

ring-once : (sz : ℕ → ℕ) (f q : ℕ) (l : List ℕ) → cnt f l ≡ 0 → cnt q l ≡ 0 → ((x : ℕ) → cnt x l ≤ 1) → Once (ring_from sz f q l)
ring-once sz f q [] a b o = (((λ z y. omega (arith, y)), tt), (tt, tt))
ring-once sz f q (c ∷ l) a b o =
    let cl : cnt c l ≡ 0 = omega (arith, o c, ind-same c) in
    let cf : c ≡ f → ⊥ = λ z. omega (arith, a, ap (λ (y : ℕ). ind (eqb y c)) z, ind-same c) in
    let cq : c ≡ q → ⊥ = λ z. omega (arith, b, ap (λ (y : ℕ). ind (eqb y c)) z, ind-same c) in
    let fl : cnt f l ≡ 0 = omega (arith, a) in
    let ql : cnt q l ≡ 0 = omega (arith, b) in
    let ol : (x : ℕ) → cnt x l ≤ 1 = λ x. omega (arith, o x) in
    ring-case Once sz f q c l
    (λ k. (
      ((λ z y. omega (arith, y)), ring-other sz (skip_fwd c none64) f q l cl (λ z. absurd (cq z)) (λ z. absurd (cf z))),
      (ring-other sz (skip_back c none64) f q l cl (λ z. absurd (cq z)) (λ z. absurd (cf z)), ring-once sz f q l fl ql ol),
    ))
    (λ k. (
      ((λ z y. omega (arith, y)), ring-other sz (skip_fwd q c) f c l ql (λ z. absurd (cq (sym z))) (λ z y. omega (arith, y))),
      (ring-other sz (skip_back c q) f c l cl (λ z y. omega (arith, y)) (λ z. absurd (cf z)), ring-once sz f c l fl cl ol),
    ))

-- ---- where the words lie. S: the chunks of a heap
module _ (h : Heap) (s : Shape h) where
  pub chunk_inside : (x : ℕ) → 1 ≤ cnt x (starts h) → (x % 16 ≡ 0) × (x + size_of h x + 32 ≤ h.len)
  chunk_inside x m =
      let T : Start (all h) 0 (top_of h) = start (all h) 0 (top_of h) s.sizes (omega (arith, starts-all h (top_of h), ind-same (top_of h))) in
      let X : Start h.tiles 0 x = start h.tiles 0 x (tiled-tiles h s) m in (
        X.even,
        ⊎_elim (λ z. absurd (omega (arith, X.high))) (λ z. ⊎_elim (λ q. absurd (omega (arith, X.high, q))) (λ q. omega (arith, T.high, end-all h s.sizes)) z)
            (clear_of h x (top_of h) s m (omega (arith, starts-all h (top_of h), ind-same (top_of h)))),
      )

  -- two skip links; a skip link and one of the first four words
  two-skips : (x y i k : ℕ) → 1 ≤ cnt x (starts h) → 1 ≤ cnt y (starts h) → large ≤ size_of h x → large ≤ size_of h y → i / 2 ≡ 2 → k / 2 ≡ 2
      → (y ≡ x → k ≡ i → ⊥) → y / 8 + k ≡ x / 8 + i → ⊥
  two-skips x y i k mx my lx ly hi hk d e =
      let ex = (chunk_inside x mx).0 in
      let ey = (chunk_inside y my).0 in
      ⊎_elim (λ q. d q (omega (arith, ap (λ (z : ℕ). z / 8) q)))
      (λ q. ⊎_elim (λ l. omega arith) (λ l. omega arith) (chunks_apart h y x s my mx q))
      (eq? y x)

  pub skip-and-low : (x y i k : ℕ) → 1 ≤ cnt x (starts h) → 1 ≤ cnt y (Starts h) → large ≤ size_of h x → i / 2 ≡ 2 → k < 4 → y / 8 + k ≡ x / 8 + i → ⊥
  skip-and-low x y i k mx my lx hi hk e =
      let ex = (chunk_inside x mx).0 in
      let Y : Start (all h) 0 y = start (all h) 0 y s.sizes my in
      ⊎_elim (λ l. omega (arith, Y.even)) (λ l. ⊎_elim (λ q. omega (arith, ap (λ (z : ℕ). z / 8) q)) (λ q. omega (arith, Y.even)) l)
      (clear_of h x y s mx my)

  -- skip links are written: other chunks' skip links stay, and the first four words of all
  pub skip-out : (L : List ℕ) (ws : List Write) (w : List ℕ) (x i : ℕ) → SkipW (λ y. size_of h y) L ws → Sub L (starts h) → 1 ≤ cnt x (starts h) → large ≤ size_of h x
      → i / 2 ≡ 2 → cnt x L ≡ 0 → get_or (apply ws w) (x / 8 + i) 0 ≡ get_or w (x / 8 + i) 0
  skip-out L [] w x i k sub mx lx hi n = refl
  skip-out L (e ∷ ws) w x i k sub mx lx hi n =
      skip-out L ws (put e w) x i k.4 sub mx lx hi n
      ∙ get_or-set_other w (who e / 8 + field e) (x / 8 + i) (value e w) 0
      (λ z. two-skips x (who e) i (field e) mx (sub (who e) k.1) lx k.2 hi k.0 (λ p q. omega (arith, n, k.1, ap (λ (y : ℕ). cnt y L) p)) (sym z))

  pub skip-low : (L : List ℕ) (ws : List Write) (w : List ℕ) (y k : ℕ) → SkipW (λ y. size_of h y) L ws → Sub L (starts h) → 1 ≤ cnt y (Starts h) → k < 4
      → get_or (apply ws w) (y / 8 + k) 0 ≡ get_or w (y / 8 + k) 0
  skip-low L [] w y k lw sub my hk = refl
  skip-low L (e ∷ ws) w y k lw sub my hk =
      skip-low L ws (put e w) y k lw.4 sub my hk
      ∙ get_or-set_other w (who e / 8 + field e) (y / 8 + k) (value e w) 0
      (λ z. skip-and-low (who e) y (field e) k (sub (who e) lw.1) my lw.2 lw.0 hk z)

  -- one of the first four words of a chunk is written
  abbrev LowW : List Write → Type 0
  LowW [] = Unit {0}
  LowW (e ∷ ws) = (field e < 4) × (1 ≤ cnt (who e) (Starts h)) × LowW ws

  pub low-skip : (ws : List Write) (w : List ℕ) (x i : ℕ) → LowW ws → 1 ≤ cnt x (starts h) → large ≤ size_of h x → i / 2 ≡ 2
      → get_or (apply ws w) (x / 8 + i) 0 ≡ get_or w (x / 8 + i) 0
  low-skip [] w x i k mx lx hi = refl
  low-skip (e ∷ ws) w x i k mx lx hi =
      low-skip ws (put e w) x i k.2 mx lx hi
      ∙ get_or-set_other w (who e / 8 + field e) (x / 8 + i) (value e w) 0
      (λ z. skip-and-low x (who e) i (field e) mx k.1 lx hi k.0 (sym z))

  pub link-low-w : (L : List ℕ) (ws : List Write) → Sub L (Starts h) → LinkW L ws → LowW ws
  link-low-w L [] sub k = tt
  link-low-w L (e ∷ ws) sub k = (omega (arith, k.0), sub (who e) k.1, link-low-w L ws sub k.2)

  pub head-low-w : (ws : List Write) → HeadW (Starts h) ws → LowW ws
  head-low-w [] k = tt
  head-low-w (e ∷ ws) k = (omega (arith, k.0), k.1, head-low-w ws k.2)

  -- what was written stands
  stand-apply : (L : List ℕ) (ws : List Write) (w : List ℕ) → 8 * length w ≡ h.len → SkipW (λ y. size_of h y) L ws → Sub L (starts h) → Once ws → stand ws (apply ws w)
  stand-apply L [] w n k sub o = tt
  stand-apply L (e ∷ ws) w n k sub o =
      let me : 1 ≤ cnt (who e) (starts h) = sub (who e) k.1 in
      let ce = chunk_inside (who e) me in (
        after ws (put e w) k.4 o.0
            ∙ get_or-set_same w (who e / 8 + field e) (value e w) 0 (omega (arith, ce.0, ce.1, k.0, k.2)) ∙ k.3 w (apply ws (put e w)),
        stand-apply L ws (put e w) (ap (λ (i : ℕ). 8 * i) (put-length e w) ∙ n) k.4 sub o.1,
      )
    where
      after : (vs : List Write) (v : List ℕ) → SkipW (λ y. size_of h y) L vs → Other e vs → get_or (apply vs v) (who e / 8 + field e) 0 ≡ get_or v (who e / 8 + field e) 0
      after [] v j d = refl
      after (b ∷ vs) v j d =
          after vs (put b v) j.4 d.1
          ∙ get_or-set_other v (who b / 8 + field b) (who e / 8 + field e) (value b v) 0
          (λ z. two-skips (who e) (who b) (field e) (field b) (sub (who e) k.1) (sub (who b) j.1) k.2 j.2 k.0 j.0 d.0 (sym z))

  -- ---- all the skip links of the heap, where none of their words is written
  pub skips-kept : (w v : List ℕ) → ((x i : ℕ) → 1 ≤ cnt x (starts h) → 1 ≤ cnt_all x h.bins → large ≤ size_of h x → i / 2 ≡ 2
      → get_or v (x / 8 + i) 0 ≡ get_or w (x / 8 + i) 0) → Skips h w → Skips h v
  skips-kept w v a k j =
      stand-cong (λ x. size_of h x) (bin h j) (skips j (λ x. size_of h x) (bin h j)) w v
      (skips-w j (λ x. size_of h x) (bin h j) (λ z x m. s.roomy j x z m))
      (λ x i m lx hi. a x i (omega (arith, s.own x, cnt-le-all x h.bins j)) (omega (arith, cnt-le-all x h.bins j)) lx hi) (k j)

  pub low-skips : (ws : List Write) (w : List ℕ) → LowW ws → Skips h w → Skips h (apply ws w)
  low-skips ws w lw = skips-kept w (apply ws w) (λ x i mx mb lx hi. low-skip ws w x i lw mx lx hi)

  -- bin j gets the list l: first its links are written, then its skip links, and no other bin has a chunk of l
  pub skips-bin : (w : List ℕ) (j : ℕ) (l : List ℕ) (ws vs : List Write) → Skips h w → j < length h.bins → LowW ws → SkipW (λ x. size_of h x) l vs
      → Sub l (starts h) → ((x : ℕ) → 1 ≤ cnt x l → (i : ℕ) → (i ≡ j → ⊥) → cnt x (bin h i) ≡ 0)
      → stand (skips j (λ x. size_of h x) l) (apply vs (apply ws w)) → Skips (with_bin j l h) (apply vs (apply ws w))
  skips-bin w j l ws vs k hj lw kw sub d own i =
      set_cases (λ q. stand (skips i (λ x. size_of h x) q) (apply vs (apply ws w))) h.bins j l i hj
      (λ e. rw e own)
      (λ e. stand-cong (λ x. size_of h x) (bin h i) (skips i (λ x. size_of h x) (bin h i)) w (apply vs (apply ws w))
      (skips-w i (λ x. size_of h x) (bin h i) (λ z x m. s.roomy i x z m))
      (λ x n m lx hi.
      let mx : 1 ≤ cnt x (starts h) = omega (arith, s.own x, cnt-le-all x h.bins i) in
      let out : cnt x l ≡ 0 = ⊎_elim (λ z. z) (λ z. absurd (omega (arith, d x z i e))) (zero_or (cnt x l)) in
      skip-out l vs (apply ws w) x n kw sub mx lx hi out ∙ low-skip ws w x n lw mx lx hi) (k i))

  -- a list's own: a ring written anew; unsorted when a chunk leaves it, and when one comes
  pub ring-stands : (l : List ℕ) (w : List ℕ) → 8 * length w ≡ h.len → Sub l (starts h) → ((x : ℕ) → cnt x l ≤ 1) → ((x : ℕ) → 1 ≤ cnt x l → large ≤ size_of h x)
      → stand (ring (λ x. size_of h x) l) (apply (ring (λ x. size_of h x) l) w)
  ring-stands l w n sub o r = stand-apply l (ring (λ x. size_of h x) l) w n (ring-w (λ x. size_of h x) l r) sub (once l o)
    where
      once : (l : List ℕ) → ((x : ℕ) → cnt x l ≤ 1) → Once (ring (λ x. size_of h x) l)
      once [] o = tt
      once (c ∷ l) o =
          let z : cnt c l ≡ 0 = omega (arith, o c, ind-same c) in
          ring-once (λ x. size_of h x) c c l z z (λ x. omega (arith, o x))

  pub put-stands : (c : ℕ) (w : List ℕ) → 8 * length w ≡ h.len → 1 ≤ cnt c (starts h)
      → stand (put_skips (λ x. size_of h x) c) (apply (put_skips (λ x. size_of h x) c) w)
  put-stands c w n m = put-case (λ ws. stand ws (apply ws w)) (λ x. size_of h x) c tt
      (λ e. stand-apply (c ∷ []) (no_skips c) w n (omega arith, cnt-here c [], e, (λ v w. refl), (omega arith, cnt-here c [], e, (λ v w. refl), tt))
      (λ x i. ⊎_elim (λ q. rw q m) (λ q. absurd (omega (arith, ind-other x c q))) (eq? x c)) (((λ z y. omega (arith, y)), tt), (tt, tt)))

  pub left-stands : (j c : ℕ) (xs ys : List ℕ) (ws : List Write) (w : List ℕ) → 8 * length w ≡ h.len → Skips h w → LowW ws → bin h j ≡ xs ++ c ∷ ys
      → Sub (xs ++ ys) (starts h) → ((x : ℕ) → cnt x (xs ++ ys) ≤ 1) → (first_large ≤ j → (x : ℕ) → 1 ≤ cnt x (xs ++ ys) → large ≤ size_of h x)
      → stand (skips j (λ x. size_of h x) (xs ++ ys)) (apply (skips_out j (λ x. size_of h x) (xs ++ ys)) (apply ws w))
  left-stands j c xs ys ws w n k lw e sub o r = go (ltb j first_large) refl (eqb j unsorted) refl (k j)
    where
      sz : ℕ → ℕ
      sz x = size_of h x

      v : List ℕ
      v = apply ws w

      len : 8 * length v ≡ h.len
      len = ap (λ (i : ℕ). 8 * i) (apply-length ws w) ∙ n

      still : (l : List ℕ) → Sub l (starts h) → stand (all_put sz l) w → stand (all_put sz l) v
      still l sl = stand-cong sz l (all_put sz l) w v (all_put-w sz l) (λ x i m lx hi. low-skip ws w x i lw (sl x m) lx hi)

      go : (t : Bool) → ltb j first_large ≡ t → (u : Bool) → eqb j unsorted ≡ u
          → stand (elim t [ true ↦ elim u [ true ↦ all_put sz (bin h j) | false ↦ [] ] | false ↦ ring sz (bin h j) ]) w
          → stand (elim t [ true ↦ elim u [ true ↦ all_put sz (xs ++ ys) | false ↦ [] ] | false ↦ ring sz (xs ++ ys) ])
          (apply (elim t [ true ↦ [] | false ↦ ring sz (xs ++ ys) ]) v)
      go true p true q b =
          let parts = all_put-split sz xs (c ∷ ys) w (subst (λ (l : List ℕ). stand (all_put sz l) w) e b) in
          let rest = stand-split (put_skips sz c) (all_put sz ys) w parts.1 in
          still (xs ++ ys) sub (all_put-append sz xs ys w parts.0 rest.1)
      go true p false q b = tt
      go false p u q b = ring-stands (xs ++ ys) v len sub o (r (ltb-false j first_large p))

  pub come-stands : (j c : ℕ) (xs ys : List ℕ) (ws : List Write) (w : List ℕ) → 8 * length w ≡ h.len → Skips h w → LowW ws → bin h j ≡ xs ++ ys
      → Sub (xs ++ c ∷ ys) (starts h) → ((x : ℕ) → cnt x (xs ++ c ∷ ys) ≤ 1) → (first_large ≤ j → (x : ℕ) → 1 ≤ cnt x (xs ++ c ∷ ys) → large ≤ size_of h x)
      → stand (skips j (λ x. size_of h x) (xs ++ c ∷ ys)) (apply (skips_in j (λ x. size_of h x) c (xs ++ c ∷ ys)) (apply ws w))
  come-stands j c xs ys ws w n k lw e sub o r = go (ltb j first_large) refl (eqb j unsorted) refl (k j)
    where
      sz : ℕ → ℕ
      sz x = size_of h x

      v : List ℕ
      v = apply ws w

      len : 8 * length v ≡ h.len
      len = ap (λ (i : ℕ). 8 * i) (apply-length ws w) ∙ n

      sum : (x : ℕ) → cnt x (xs ++ c ∷ ys) ≡ cnt x xs + (ind (eqb x c) + cnt x ys)
      sum x = cnt-append x xs (c ∷ ys)

      mc : 1 ≤ cnt c (starts h)
      mc = sub c (omega (arith, sum c, ind-same c))

      one : Sub (c ∷ []) (starts h)
      one x i = ⊎_elim (λ q. rw q mc) (λ q. absurd (omega (arith, ind-other x c q))) (eq? x c)

      still : (l : List ℕ) → ((x : ℕ) → cnt x l + ind (eqb x c) ≤ cnt x (xs ++ c ∷ ys)) → stand (all_put sz l) w → stand (all_put sz l) (apply (put_skips sz c) v)
      still l sl = stand-cong sz l (all_put sz l) w (apply (put_skips sz c) v) (all_put-w sz l)
          (λ x i m lx hi.
          let mx : 1 ≤ cnt x (starts h) = sub x (omega (arith, sl x)) in
          skip-out (c ∷ []) (put_skips sz c) v x i (put-w sz c) one mx lx hi (omega (arith, sl x, o x)) ∙ low-skip ws w x i lw mx lx hi)

      go : (t : Bool) → ltb j first_large ≡ t → (u : Bool) → eqb j unsorted ≡ u
          → stand (elim t [ true ↦ elim u [ true ↦ all_put sz (bin h j) | false ↦ [] ] | false ↦ ring sz (bin h j) ]) w
          → stand (elim t [ true ↦ elim u [ true ↦ all_put sz (xs ++ c ∷ ys) | false ↦ [] ] | false ↦ ring sz (xs ++ c ∷ ys) ])
          (apply (elim t [ true ↦ elim u [ true ↦ put_skips sz c | false ↦ [] ] | false ↦ ring sz (xs ++ c ∷ ys) ]) v)
      go true p true q b =
          let parts = all_put-split sz xs ys w (subst (λ (l : List ℕ). stand (all_put sz l) w) e b) in
          all_put-append sz xs (c ∷ ys) (apply (put_skips sz c) v) (still xs (λ x. omega (arith, sum x)) parts.0)
          (stand-append (put_skips sz c) (all_put sz ys) (apply (put_skips sz c) v) (put-stands c v len mc) (still ys (λ x. omega (arith, sum x)) parts.1))
      go true p false q b = tt
      go false p u q b = ring-stands (xs ++ c ∷ ys) v len sub o (r (ltb-false j first_large p))

  -- ---- skip links are written: the rest of the words stays, which is all that versions before the third ask for
  pub skip-links-mem : (w : List ℕ) (L : List ℕ) (vs : List Write) → MemBy 2 h w → SkipW (λ x. size_of h x) L vs → Sub L (starts h) → MemBy 2 h (apply vs w)
  skip-links-mem w L vs m kw sub =
      let v : List ℕ = apply vs w in
      let ag : (i : ℕ) (l : List ℕ) → i < 4 → ((y : ℕ) → 1 ≤ cnt y l → 1 ≤ cnt y (Starts h)) → Agree w v i l = λ i l hi sl x n. skip-low L vs w x i kw sub (sl x n) hi in
      let st : (i : ℕ) (y : ℕ) → 1 ≤ cnt y (stack h i) → 1 ≤ cnt y (Starts h) = λ i y n. in-starts h y s (omega (arith, cnt-le-all y h.stacks i)) in
      let bi : (i : ℕ) (y : ℕ) → 1 ≤ cnt y (bin h i) → 1 ≤ cnt y (Starts h) = λ i y n. in-starts h y s (omega (arith, cnt-le-all y h.bins i)) in
      record {
        long = rw apply-length m.long;
        words = tiles-agree w v 0 (all h) (ag 0 (Starts h) (omega arith) (λ y n. n)) (ag 1 (Starts h) (omega arith) (λ y n. n)) m.words;
        chains = λ i. chain-cong h.edition w v (stack h i) (ag 2 (stack h i) (omega arith) (st i)) (m.chains i);
        blinks = λ i. links-cong w v none64 (bin h i) none64 (ag 2 (bin h i) (omega arith) (bi i)) (ag 3 (bin h i) (omega arith) (bi i)) (m.blinks i);
        keys = λ z i x p n. ag 3 (stack h i) (omega arith) (st i) x n ∙ m.keys z i x p n;
        key64 = m.key64;
        edited = m.edited;
        skipped = λ z. absurd (omega (arith, z));
      }

  pub skips-mem : (w : List ℕ) → MemBy 2 h w → Skips h w → Mem h w
  skips-mem w m k = record {
    long = m.long;
    words = m.words;
    chains = m.chains;
    blinks = m.blinks;
    keys = λ z. m.keys (omega arith);
    key64 = m.key64;
    edited = m.edited;
    skipped = λ z. k;
  }

  pub skip-mem : (w : List ℕ) (L : List ℕ) (vs : List Write) → MemBy 2 h w → SkipW (λ x. size_of h x) L vs → Sub L (starts h) → Skips h (apply vs w) → Mem h (apply vs w)
  skip-mem w L vs m kw sub k = skips-mem (apply vs w) (skip-links-mem w L vs m kw sub) k

-- ---- the same lists and sizes in another heap
pub skips-tiles : (h : Heap) (ts : List Tile) (w : List ℕ) → ((x : ℕ) → 1 ≤ total x h → size_of (with_tiles ts h) x ≡ size_of h x) → Skips h w → Skips (with_tiles ts h) w
skips-tiles h ts w e k j = subst (λ (ws : List Write). stand ws w)
    (skips-cong j (λ x. size_of h x) (λ x. size_of (with_tiles ts h) x) (bin h j) (λ x m. sym (e x (omega (arith, cnt-le-all x h.bins j))))) (k j)
