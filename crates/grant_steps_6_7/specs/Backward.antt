-- A bin walked from its last chunk along the back links: what the words have at each chunk, and that each step leaves fewer chunks to come. By the bin's
-- links, a list taken apart at its end. Assumes nothing.
use Rattle.std.specs.Prelude.{◌≡◌, refl, ℕ, zero, suc, ◌+◌, ◌≤◌, ◌<◌, length, get_or}
use Rattle.std.proofs.Common.{sym, ap, ◌∙◌, subst, not-suc-le-zero, arith, length-append, ne_eqb}
use mathlib.Core.List.{List, [], ◌∷◌, ◌++◌, append_assoc}
use Rattle.sizes.specs.Limits.{none64}
use Rattle.sizes.specs.Layout.{back_word}
use Rattle.machine.specs.Lists.{hd, lst, cnt}
use Rattle.machine.specs.Count.{cnt-append, cnt-here, cnt-le-all, pigeons}
use Rattle.machine.specs.Heap.{tile, Heap, bin, end_from, top_size, starts, size_of}
use Rattle.machine.specs.View.{size_at}
use Rattle.sound.specs.Relation.{all, links, Mem, Shape}
use Rattle.sound.specs.Frames.{end-all}
use Rattle.sound.specs.Tiles.{end-append, starts-length}
use Rattle.sound.specs.Apart.{tiled-tiles}
use Rattle.sound.specs.Lists.{links-split}
use Rattle.primitives.specs.Chunks.{Chunk, bin-chunk}
use Rattle.primitives.specs.Sizes.{chunk-says}
use Rattle.grant_steps_6_7.specs.Finds.{back_from, left}

-- ---- a list by its end
pub record Snoc (l : List ℕ) (c : ℕ) : Type 0 where
  pub rest : List ℕ
  pub list : l ≡ rest ++ c ∷ []

snoc : (x : ℕ) (l : List ℕ) → Snoc (x ∷ l) (lst x l)
snoc x [] = record { rest = []; list = refl }
snoc x (y ∷ l) = let r = snoc y l in record { rest = x ∷ r.rest; list = ap (λ (m : List ℕ). x ∷ m) r.list }

snoc-length : (l : List ℕ) (c : ℕ) → length (l ++ c ∷ []) ≡ suc (length l)
snoc-length l c = omega (arith, length-append l (c ∷ []))

-- the back link of the last
pub snoc-back : (w l : List ℕ) (c n : ℕ) → links w none64 (l ++ c ∷ []) n → get_or w (back_word c) 0 ≡ lst none64 l
snoc-back w l c n k = (links-split w none64 l (c ∷ []) n k).1.1

-- ---- how far it is
back_from-length : (n : ℕ) (w xs : List ℕ) (k : ℕ) → links w none64 xs k → ((x : ℕ) → 1 ≤ cnt x xs → x ≡ none64 → ⊥) → length xs ≤ n
    → length (back_from n w (lst none64 xs)) ≡ length xs
unfolding back_from
back_from-length zero w [] k j ne l = refl
back_from-length zero w (x ∷ xs) k j ne l = absurd (not-suc-le-zero l)
back_from-length (suc n) w [] k j ne l = refl
back_from-length (suc n) w (x ∷ xs) k j ne l =
    let c : ℕ = lst x xs in
    let S : Snoc (x ∷ xs) c = snoc x xs in
    let e : length (x ∷ xs) ≡ suc (length S.rest) = ap length S.list ∙ snoc-length S.rest c in
    let sum : (y : ℕ) → cnt y (x ∷ xs) ≡ cnt y S.rest + cnt y (c ∷ []) = λ y. ap (cnt y) S.list ∙ cnt-append y S.rest (c ∷ []) in
    let j' : links w none64 (S.rest ++ c ∷ []) k = subst (λ (l : List ℕ). links w none64 l k) S.list j in
    let r = back_from-length n w S.rest c (links-split w none64 S.rest (c ∷ []) k j').0 (λ y i. ne y (omega (arith, sum y))) (omega arith) in
    rw (ne_eqb c none64 (ne c (omega (arith, sum c, cnt-here c []))), back_from) (ap suc (ap (λ (y : ℕ). length (back_from n w y)) (snoc-back w S.rest c k j') ∙ r) ∙ sym e)

-- ---- a part of a bin
module _ (h : Heap) (w : List ℕ) (s : Shape h) (m : Mem h w) (j : ℕ) where
  part-chunk : (xs ys : List ℕ) → bin h j ≡ xs ++ ys → (x : ℕ) → 1 ≤ cnt x xs → Chunk w x
  part-chunk xs ys e x i = bin-chunk h w s m j x (omega (arith, ap (cnt x) e, cnt-append x xs ys))

  part-short : (xs ys : List ℕ) → bin h j ≡ xs ++ ys → length xs ≤ length w
  part-short xs ys e =
      let p : length xs ≤ length (starts h) = pigeons xs (starts h) (λ x. omega (arith, s.own x, cnt-le-all x h.bins j, ap (cnt x) e, cnt-append x xs ys)) in
      omega (arith, starts-length 0 h.tiles (tiled-tiles h s), end-all h s.sizes, m.long, end-top h)
    where
      end-top : (h : Heap) → end_from 0 h.tiles ≤ end_from 0 (all h)
      end-top h = omega (arith, end-append 0 h.tiles (tile (top_size h) 1 0 ∷ []))

  left_is : (xs ys : List ℕ) → bin h j ≡ xs ++ ys → left w (lst none64 xs) ≡ length xs
  unfolding left
  left_is xs ys e =
      back_from-length (length w) w xs (hd none64 ys) (links-split w none64 xs ys none64 (subst (λ (l : List ℕ). links w none64 l none64) e (m.blinks j))).0
      (λ x i q. omega (arith, (part-chunk xs ys e x i).small)) (part-short xs ys e)

-- the last chunk of the part xs of a bin, as the words have it; rest: what stands before it
pub record Tip (h : Heap) (w xs : List ℕ) (c : ℕ) : Type 0 where
  pub rest : List ℕ
  pub list : xs ≡ rest ++ c ∷ []
  pub chunk : Chunk w c
  pub size : size_at w c ≡ size_of h c
  pub back : get_or w (back_word c) 0 ≡ lst none64 rest

module _ (h : Heap) (w : List ℕ) (s : Shape h) (m : Mem h w) (j : ℕ) where
  pub tip : (xs ys : List ℕ) (c : ℕ) → bin h j ≡ xs ++ ys → c ≡ lst none64 xs → (c ≡ none64 → ⊥) → Tip h w xs c
  tip [] ys c e q ne = absurd (ne q)
  tip (x ∷ xs) ys c e q ne = subst (λ (c : ℕ). Tip h w (x ∷ xs) c) (sym q)
      (let d : ℕ = lst x xs in
      let S : Snoc (x ∷ xs) d = snoc x xs in
      let k : links w none64 (x ∷ xs) (hd none64 ys) = (links-split w none64 (x ∷ xs) ys none64 (subst (λ (l : List ℕ). links w none64 l none64) e (m.blinks j))).0 in
      let i : 1 ≤ cnt d (bin h j) = omega (arith, ap (cnt d) e, cnt-append d (x ∷ xs) ys, ap (cnt d) S.list, cnt-append d S.rest (d ∷ []), cnt-here d []) in
      record {
        rest = S.rest;
        list = S.list;
        chunk = bin-chunk h w s m j d i;
        size = (chunk-says h s w m d (omega (arith, s.own d, cnt-le-all d h.bins j))).size;
        back = snoc-back w S.rest d (hd none64 ys) (subst (λ (l : List ℕ). links w none64 l (hd none64 ys)) S.list k);
      })

  -- with it among what is after
  pub tip-parts : (xs ys : List ℕ) (c : ℕ) (T : Tip h w xs c) → bin h j ≡ xs ++ ys → bin h j ≡ T.rest ++ c ∷ ys
  tip-parts xs ys c T e = e ∙ ap (λ (l : List ℕ). l ++ ys) T.list ∙ append_assoc T.rest (c ∷ []) ys

  pub left_less : (xs ys : List ℕ) (c p : ℕ) → bin h j ≡ xs ++ ys → c ≡ lst none64 xs → (c ≡ none64 → ⊥) → p ≡ get_or w (back_word c) 0 → left w p < left w c
  left_less xs ys c p e q ne k =
      let T = tip xs ys c e q ne in
      omega (arith, ap (left w) (k ∙ T.back), left_is h w s m j T.rest (c ∷ ys) (tip-parts xs ys c T e), ap (left w) q, left_is h w s m j xs ys e, ap length T.list, snoc-length T.rest c)
