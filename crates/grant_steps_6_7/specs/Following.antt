-- The searches as the code does them: each way through a turn of a walk, what a walk ends with, and that steps 6 and 7 follow the machine. Assumes nothing.
use Rattle.std.specs.Prelude.{◌≡◌, refl, Bool, true, false, List, [], ◌∷◌, ◌++◌, ◌⊎◌, ℕ, suc, ◌+◌, ◌-◌, ◌≤◌, ◌<◌, eqb, ltb, length, get_or, Option, Some, None}
use Rattle.std.proofs.Common.{sym, ◌∙◌, subst, append_assoc, append-nil, inl, inr, ⊎_elim, not-suc-le-zero, arith, eq-eqb, ne_eqb, eqb-true, le-leb}
use Rattle.std.proofs.Math.Path.{ap}
use Rattle.std.proofs.lemmas.Bool.{eqb-false, lt-leb}
use Rattle.le.specs.Arena.{arena_words}
use Rattle.sizes.specs.Limits.{none64, none32, large, last_bin}
use Rattle.sizes.specs.Layout.{back_word, bin_last}
use Rattle.sizes.specs.Sizes.{bin_of}
use Rattle.sizes.specs.BinLaws.{bin-monotone, bin_of-bounds, bin_of-large}
use Rattle.machine.specs.Lists.{hd, lst, some?, cnt}
use Rattle.machine.specs.Count.{eq?, ind-other, cnt-append, cnt-here, cnt-le-all}
use Rattle.machine.specs.Heap.{Heap, bin, size_of}
use Rattle.machine.specs.Writes.{nothing}
use Rattle.machine.specs.Grant.{fit, step8, step6, first_bin, step7}
use Rattle.machine.specs.View.{size_at, up}
use Rattle.sound.specs.Relation.{links, Mem, Shape, Good}
use Rattle.sound.specs.Tiles.{lt-or-le}
use Rattle.sound.specs.Lists.{lst-in, links-split}
use Rattle.sound.specs.Small.{some-has}
use Rattle.sound.specs.Large.{fit_has, first_bin-has}
use Rattle.primitives.specs.Follow.{Ok, Has, Gave, Does}
use Rattle.primitives.specs.FollowLaws.{gave-by, gave-none, got-absurd}
use Rattle.primitives.specs.Chunks.{Chunk, Chunks, Inside, in_bytes, bin-chunk}
use Rattle.primitives.specs.Sizes.{chunk-says}
use Rattle.primitives.specs.Ends.{Leads, lst-leads}
use Rattle.primitives.specs.Bins.{ok-bin, ok-last}
use Rattle.grant_step_8.specs.Taken.{Fit}
use Rattle.grant_steps_6_7.specs.Finds.{Back, LastFit, equal_at, Spelled, Stands, Standing, Run, Running, SecondEqual, left, FirstBin}
use Rattle.grant_steps_6_7.specs.Falling.{fit_none, fit-second}
use Rattle.grant_steps_6_7.specs.Backward.{Tip, tip, tip-parts, left_less, snoc-back}

-- ---- the last chunk of a bin, in the record
up-lst : (w l : List ℕ) → Chunks w l → up (lst none32 l) ≡ lst none64 l
up-lst w [] k = refl
up-lst w (x ∷ l) k = rw (ne_eqb (lst x l) none32 (λ e. omega (arith, (k (lst x l) (lst-in x l)).small)), up)

-- ---- the last of at least b bytes
module _ (h : Heap) (w r : List ℕ) (j b : ℕ) (o : Ok h w r) where
  pub back_start : (at c : ℕ) → 1 ≤ j → j ≤ 126 → at ≡ bin_last j → c ≡ up (get_or r at 0) → Back h j b c
  back_start at c l m q e = record {
    xs = bin h j;
    ys = [];
    parts = sym (append-nil (bin h j));
    at = e ∙ ap (λ (n : ℕ). up (get_or r n 0)) q ∙ ap up (ok-last h w r o j l m) ∙ up-lst w (bin h j) (ok-bin h w r o j);
    small = λ y i. absurd (not-suc-le-zero i);
  }

  module _ (c : ℕ) (B : Back h j b c) (ne : c ≡ none64 → ⊥) where
    back-tip : Tip h w B.xs c
    back-tip = tip h w o.shape o.mem j B.xs B.ys c B.parts B.at ne

    pub back-chunk : Chunk w c
    back-chunk = back-tip.chunk

    pub back_found : b ≤ size_at w c → LastFit h j b c
    back_found l = record { back = B; enough = λ n. omega (arith, back-tip.size) }

    pub back-next : (p : ℕ) → p ≡ get_or w (back_word c) 0 → size_at w c < b → Back h j b p
    back-next p e l =
        let T = back-tip in
        record {
          xs = T.rest;
          ys = c ∷ B.ys;
          parts = tip-parts h w o.shape o.mem j B.xs B.ys c T B.parts;
          at = e ∙ T.back;
          small = λ y i. ⊎_elim (λ (e : y ≡ c). omega (arith, ap (size_of h) e, T.size)) (λ (e : y ≡ c → ⊥). B.small y (omega (arith, ind-other y c e))) (eq? y c);
        }

    pub back-less : (p : ℕ) → p ≡ get_or w (back_word c) 0 → left w p < left w c
    back-less p e = left_less h w o.shape o.mem j B.xs B.ys c p B.parts B.at ne e

  pub back_end : (c : ℕ) → Back h j b c → c ≡ none64 → LastFit h j b c
  back_end c B e = record { back = B; enough = λ n. absurd (n e) }

-- ---- a chunk of size z
module _ (w : List ℕ) (p z : ℕ) where
  pub equal_at-none : p ≡ none64 → equal_at w p z ≡ false
  unfolding equal_at
  equal_at-none e = rw (eq-eqb p none64 e, equal_at)

  pub equal_at-some : (p ≡ none64 → ⊥) → equal_at w p z ≡ eqb (size_at w p) z
  unfolding equal_at
  equal_at-some e = rw (ne_eqb p none64 e, equal_at)

  pub equal_at-not-none : equal_at w p z ≡ true → p ≡ none64 → ⊥
  equal_at-not-none t e = let u : true ≡ false = sym t ∙ equal_at-none e in let z : ◌≡◌ {A = ℕ} 0 1 = cc in omega arith

  equal_at-same : equal_at w p z ≡ true → size_at w p ≡ z
  equal_at-same t = eqb-true (size_at w p) z (sym (equal_at-some (equal_at-not-none t)) ∙ t)

  equal_at-other : equal_at w p z ≡ false → (p ≡ none64 → ⊥) → size_at w p ≡ z → ⊥
  equal_at-other t ne = eqb-false (size_at w p) z (sym (equal_at-some ne) ∙ t)

-- ---- back to the second of c's equals
module _ (h : Heap) (w : List ℕ) (s : Shape h) (m : Mem h w) (j : ℕ) where
  -- where the part xs of the bin ends with no chunk of size z
  stops : (xs ys : List ℕ) (p z : ℕ) → bin h j ≡ xs ++ ys → p ≡ lst none64 xs → equal_at w p z ≡ false → (xs ≡ []) ⊎ (size_of h (lst none64 xs) ≡ z → ⊥)
  stops [] ys p z e q t = inl refl
  stops (x ∷ xs) ys p z e q t =
      let d : ℕ = lst x xs in
      let k : Chunk w d = bin-chunk h w s m j d (omega (arith, lst-in x xs, ap (cnt d) e, cnt-append d (x ∷ xs) ys)) in
      let ne : p ≡ none64 → ⊥ = λ n. omega (arith, q, n, k.small) in
      let T = tip h w s m j (x ∷ xs) ys p e q ne in
      inr (λ n. equal_at-other w p z t ne (T.size ∙ ap (size_of h) q ∙ n))

  module _ (c : ℕ) (xs ys : List ℕ) (S : Stands h c j xs ys) where
    abbrev sz : ℕ → ℕ
    sz x = size_of h x

    stand-here : 1 ≤ cnt c (bin h j)
    stand-here = omega (arith, ap (cnt c) S.parts, cnt-append c xs (c ∷ ys), cnt-here c ys)

    stand-chunk : Chunk w c
    stand-chunk = bin-chunk h w s m j c stand-here

    stand-size : size_at w c ≡ size_of h c
    stand-size = (chunk-says h s w m c (omega (arith, s.own c, cnt-le-all c h.bins j, stand-here))).size

    snocs : bin h j ≡ (xs ++ c ∷ []) ++ ys
    snocs = S.parts ∙ sym (append_assoc xs (c ∷ []) ys)

    stand-back : get_or w (back_word c) 0 ≡ lst none64 xs
    stand-back = snoc-back w xs c (hd none64 ys) (links-split w none64 (xs ++ c ∷ []) ys none64 (subst (λ (l : List ℕ). links w none64 l none64) snocs (m.blinks j))).0

    -- the only one
    pub run-one : (p : ℕ) → p ≡ get_or w (back_word c) 0 → equal_at w p (size_at w c) ≡ false → Run sz (sz c) (xs ++ c ∷ []) c
    run-one p e t = record {
      front = xs;
      eqs = c ∷ [];
      parts = refl;
      same = λ y i. ⊎_elim (λ (q : y ≡ c). ap sz q) (λ (q : y ≡ c → ⊥). absurd (omega (arith, ind-other y c q))) (eq? y c);
      stop = stops xs (c ∷ ys) p (sz c) S.parts (e ∙ stand-back) (ap (equal_at w p) (sym stand-size) ∙ t);
      is = refl;
    }

    -- one before it
    pub run-start : (p q : ℕ) → p ≡ get_or w (back_word c) 0 → q ≡ get_or w (back_word p) 0 → equal_at w p (size_at w c) ≡ true → Running sz (sz c) (xs ++ c ∷ []) c p q
    run-start p q e k t =
        let ne = equal_at-not-none w p (size_at w c) t in
        let T = tip h w s m j xs (c ∷ ys) p S.parts (e ∙ stand-back) ne in
        let eq : sz p ≡ sz c = sym T.size ∙ equal_at-same w p (size_at w c) t ∙ stand-size in
        record {
          front = T.rest;
          rest = [];
          parts = ap (λ (l : List ℕ). l ++ c ∷ []) T.list ∙ append_assoc T.rest (p ∷ []) (c ∷ []);
          at = k ∙ T.back;
          same = λ y i. ⊎_elim (λ (n : y ≡ p). ap sz n ∙ eq)
              (λ (n : y ≡ p → ⊥). ⊎_elim (λ (u : y ≡ c). ap sz u) (λ (u : y ≡ c → ⊥). absurd (omega (arith, ind-other y p n, ind-other y c u))) (eq? y c))
              (eq? y p);
        }

    module _ (n f p : ℕ) (R : Running sz (sz c) (xs ++ c ∷ []) n f p) where
      run-parts : bin h j ≡ R.front ++ ((f ∷ n ∷ R.rest) ++ ys)
      run-parts = snocs ∙ ap (λ (l : List ℕ). l ++ ys) R.parts ∙ append_assoc R.front (f ∷ n ∷ R.rest) ys

      run-front : Chunks w R.front
      run-front x i = bin-chunk h w s m j x (omega (arith, ap (cnt x) run-parts, cnt-append x R.front ((f ∷ n ∷ R.rest) ++ ys)))

      pub run_end : equal_at w p (size_at w c) ≡ false → Run sz (sz c) (xs ++ c ∷ []) n
      run_end t = record {
        front = R.front;
        eqs = f ∷ n ∷ R.rest;
        parts = R.parts;
        same = R.same;
        stop = stops R.front ((f ∷ n ∷ R.rest) ++ ys) p (sz c) run-parts R.at (ap (equal_at w p) (sym stand-size) ∙ t);
        is = refl;
      }

      module _ (t : equal_at w p (size_at w c) ≡ true) where
        run-tip : Tip h w R.front p
        run-tip = tip h w s m j R.front ((f ∷ n ∷ R.rest) ++ ys) p run-parts R.at (equal_at-not-none w p (size_at w c) t)

        pub run-next : (q : ℕ) → q ≡ get_or w (back_word p) 0 → Running sz (sz c) (xs ++ c ∷ []) f p q
        run-next q k =
            let T = run-tip in
            let eq : sz p ≡ sz c = sym T.size ∙ equal_at-same w p (size_at w c) t ∙ stand-size in
            record {
              front = T.rest;
              rest = n ∷ R.rest;
              parts = R.parts ∙ ap (λ (l : List ℕ). l ++ f ∷ n ∷ R.rest) T.list ∙ append_assoc T.rest (p ∷ []) (f ∷ n ∷ R.rest);
              at = k ∙ T.back;
              same = λ y i. ⊎_elim (λ (q : y ≡ p). ap sz q ∙ eq) (λ (q : y ≡ p → ⊥). R.same y (omega (arith, ind-other y p q))) (eq? y p);
            }

        pub run-less : (q : ℕ) → q ≡ get_or w (back_word p) 0 → left w q < left w p
        run-less q k = left_less h w s m j R.front ((f ∷ n ∷ R.rest) ++ ys) p q run-parts R.at (equal_at-not-none w p (size_at w c) t) k

-- the test as the code makes it, of a size z that was read
pub tested : (w : List ℕ) (p z c : ℕ) (t v : Bool) → z ≡ size_at w c → t ≡ equal_at w p z → t ≡ v → equal_at w p (size_at w c) ≡ v
tested w p z c t v e q k = ap (equal_at w p) (sym e) ∙ sym q ∙ k

-- where the back links lead in the bytes
module _ (h : Heap) (a : List ℕ) (s : Shape h) (m : Mem h (arena_words a)) (j c : ℕ) (xs ys : List ℕ) (S : Stands h c j xs ys) where
  pub stand-inside : Inside (length a) c
  stand-inside = in_bytes a c (stand-chunk h (arena_words a) s m j c xs ys S)

  pub stand-leads : (p : ℕ) → p ≡ get_or (arena_words a) (back_word c) 0 → Leads (length a) p
  stand-leads p e = subst (Leads (length a)) (sym (e ∙ stand-back h (arena_words a) s m j c xs ys S))
      (lst-leads a xs (λ x i. bin-chunk h (arena_words a) s m j x (omega (arith, ap (cnt x) S.parts, cnt-append x xs (c ∷ ys)))))

  pub run-leads : (n f p : ℕ) → Running (λ x. size_of h x) (size_of h c) (xs ++ c ∷ []) n f p → Leads (length a) p
  run-leads n f p R = subst (Leads (length a)) (sym R.at) (lst-leads a R.front (run-front h (arena_words a) s m j c xs ys S n f p R))

-- ---- step 6, by its tests
step6-small : (b : ℕ) (h : Heap) → b < 1024 → step6 b h ≡ nothing h
unfolding step6
step6-small b h l = rw (lt-leb large b l, step6)

step6-is : (b : ℕ) (h : Heap) → 1024 ≤ b → step6 b h ≡ elim (fit (λ x. size_of h x) b (bin h (bin_of b))) [ Some c ↦ step8 (bin_of b) c b false h | None ↦ nothing h ]
unfolding step6
step6-is b h l = rw (le-leb large b l, step6)

pub small-gave : (h : Heap) (w r : List ℕ) (b : ℕ) → Ok h w r → b < 1024 → Gave (Option ℕ) (step6 b h) None w w r
small-gave h w r b o l = gave-by (step6-small b h l) (gave-none h None w r o.rec)

-- the search in the own bin, whose number j was computed
pub own-fit : (h : Heap) (j b c : ℕ) → j ≡ bin_of b → LastFit h j b c → LastFit h (bin_of b) b c
own-fit h j b c e L = subst (λ (j : ℕ). LastFit h j b c) e L

module _ (h : Heap) (w r : List ℕ) (b c : ℕ) (o : Ok h w r) (large : 1024 ≤ b) (L : LastFit h (bin_of b) b c) where
  abbrev own : List ℕ
  own = bin h (bin_of b)

  pub none-gave : c ≡ none64 → Gave (Option ℕ) (step6 b h) None w w r
  none-gave e = go L.back.xs L.back.parts L.back.at
    where
      go : (xs : List ℕ) → own ≡ xs ++ L.back.ys → c ≡ lst none64 xs → Gave (Option ℕ) (step6 b h) None w w r
      go [] p q =
          let no : fit (λ x. size_of h x) b own ≡ None = fit_none (λ x. size_of h x) b own (λ y i. L.back.small y (subst (λ (l : List ℕ). 1 ≤ cnt y l) p i)) in
          gave-by (step6-is b h large ∙ ap (λ (x : Option ℕ). elim x [ Some c ↦ step8 (bin_of b) c b false h | None ↦ nothing h ]) no) (gave-none h None w r o.rec)
      go (x ∷ xs) p q =
          let k = bin-chunk h w o.shape o.mem (bin_of b) (lst x xs) (omega (arith, lst-in x xs, ap (cnt (lst x xs)) p, cnt-append (lst x xs) (x ∷ xs) L.back.ys)) in
          absurd (omega (arith, e, q, k.small))

  module _ (ne : c ≡ none64 → ⊥) where
    found-tip : Tip h w L.back.xs c
    found-tip = tip h w o.shape o.mem (bin_of b) L.back.xs L.back.ys c L.back.parts L.back.at ne

    found-stands : Stands h c (bin_of b) found-tip.rest L.back.ys
    found-stands = record { parts = tip-parts h w o.shape o.mem (bin_of b) L.back.xs L.back.ys c found-tip L.back.parts }

    pub found-standing : Spelled (λ g. Standing g c) w
    found-standing = record { heap = h; shape = o.shape; mem = o.mem; holds = record { bin-no = bin_of b; xs = found-tip.rest; ys = L.back.ys; stands = found-stands } }

    module _ (g : Good h) (d : ℕ) (R : SecondEqual w c d) where
      found-second : fit (λ x. size_of h x) b own ≡ Some d
      found-second =
          let xs : List ℕ = found-tip.rest in
          let ys : List ℕ = L.back.ys in
          let K = R h (bin_of b) xs ys o.shape o.mem found-stands in
          fit-second (λ x. size_of h x) b (size_of h c) d own K.front K.eqs ys (g.homes.falling (bin_of b) (bin_of-large b large))
          (found-stands.parts ∙ sym (append_assoc xs (c ∷ []) ys) ∙ ap (λ (l : List ℕ). l ++ ys) K.parts ∙ append_assoc K.front K.eqs ys)
          K.same L.back.small (omega arith) (L.enough ne) K.stop K.is

      found-fit : Fit h (bin_of b) d b
      found-fit = let k = fit_has (λ x. size_of h x) b own d found-second in record { here = k.0; enough = k.1 }

      pub found-has : (j : ℕ) → j ≡ bin_of b → Has (λ h. Good h × Fit h j d b) w r
      found-has j ej = record { heap = h; ok = o; holds = (g, subst (λ (j : ℕ). Fit h j d b) (sym ej) found-fit) }

      pub found-gave : (j : ℕ) → j ≡ bin_of b → (a : Option ℕ) (v q : List ℕ) → Does (Option ℕ) (λ h. Good h × Fit h j d b) (step8 j d b false) w r a v q → Gave (Option ℕ) (step6 b h) a w v q
      found-gave j ej a v q D =
          let m : Gave (Option ℕ) (step8 (bin_of b) d b false h) a w v q =
          (subst (λ (j : ℕ). Does (Option ℕ) (λ h. Good h × Fit h j d b) (step8 j d b false) w r a v q) ej D).does h o (g, found-fit) in
          gave-by (step6-is b h large ∙ ap (λ (x : Option ℕ). elim x [ Some c ↦ step8 (bin_of b) c b false h | None ↦ nothing h ]) found-second) m

-- ---- the first bin above, by the ends that the record has
module _ (h : Heap) (w r : List ℕ) (o : Ok h w r) (i : ℕ) (low : 1 ≤ i) (high : i ≤ 126) where
  last_none : get_or r (bin_last i) 0 ≡ none32 → some? (bin h i) ≡ false
  last_none e = go (bin h i) (ok-bin h w r o i) (sym (ok-last h w r o i low high) ∙ e)
    where
      go : (l : List ℕ) → Chunks w l → lst none32 l ≡ none32 → some? l ≡ false
      go [] k q = refl
      go (x ∷ l) k q = absurd (omega (arith, q, (k (lst x l) (lst-in x l)).small))

  last_some : (get_or r (bin_last i) 0 ≡ none32 → ⊥) → some? (bin h i) ≡ true
  last_some ne = go (bin h i) (ok-last h w r o i low high)
    where
      go : (l : List ℕ) → get_or r (bin_last i) 0 ≡ lst none32 l → some? l ≡ true
      go [] q = absurd (ne q)
      go (x ∷ l) q = refl

first_bin-here : (n i : ℕ) (h : Heap) → some? (bin h i) ≡ true → first_bin (suc n) i h ≡ Some i
first_bin-here n i h e = rw (e, first_bin)

first_bin-next : (n i : ℕ) (h : Heap) → some? (bin h i) ≡ false → first_bin (suc n) i h ≡ first_bin n (suc i) h
first_bin-next n i h e = rw (e, first_bin)

first_bin-at : (n m i j : ℕ) (h : Heap) → n ≡ m → i ≡ j → first_bin n i h ≡ first_bin m j h
first_bin-at n m i j h e q = cc

at_same : {x y : ℕ} → ◌≡◌ {A = Option ℕ} (Some x) (Some y) → x ≡ y
at_same e = cc

-- from bin i on the search goes as from the start
abbrev pub Seeking : List ℕ → ℕ → ℕ → Type 0
Seeking r j i = (h : Heap) (w : List ℕ) → Ok h w r → first_bin (127 - i) i h ≡ first_bin (last_bin - j) (suc j) h

module _ (r : List ℕ) (j : ℕ) where
  pub seek-start : (i : ℕ) → i ≡ j + 1 → Seeking r j i
  seek-start i e h w o = first_bin-at (127 - i) (last_bin - j) i (suc j) h (omega arith) (omega arith)

  module _ (i : ℕ) (low : 1 ≤ i) (high : i ≤ 126) (S : Seeking r j i) where
    pub seek_found : (at : ℕ) → at ≡ bin_last i → (get_or r at 0 ≡ none32 → ⊥) → FirstBin r j (Some i)
    seek_found at e ne = record {
      most = λ k f. subst (λ (n : ℕ). n ≤ 126) (at_same f) high;
      is = λ h w o. sym (S h w o) ∙ first_bin-at (127 - i) (suc (126 - i)) i i h (omega arith) refl
          ∙ first_bin-here (126 - i) i h (last_some h w r o i low high (λ z. ne (ap (λ (n : ℕ). get_or r n 0) e ∙ z)));
    }

    pub seek-next : (at : ℕ) → at ≡ bin_last i → get_or r at 0 ≡ none32 → Seeking r j (i + 1)
    seek-next at q e h w o =
        first_bin-at (127 - (i + 1)) (126 - i) (i + 1) (suc i) h (omega arith) (omega arith) ∙ sym (first_bin-next (126 - i) i h (last_none h w r o i low high (ap (λ (n : ℕ). get_or r n 0) (sym q) ∙ e)))
        ∙ first_bin-at (suc (126 - i)) (127 - i) i i h (omega arith) refl ∙ S h w o

  pub seek-end : (i : ℕ) → 127 ≤ i → Seeking r j i → FirstBin r j None
  seek-end i l S = record { most = λ k f. got-absurd (sym f); is = λ h w o. sym (S h w o) ∙ first_bin-at (127 - i) 0 i i h (omega arith) refl }

-- ---- step 7
pub own_first : (r : List ℕ) (j b : ℕ) (g : Option ℕ) → j ≡ bin_of b → FirstBin r j g → FirstBin r (bin_of b) g
own_first r j b g e B = subst (λ (j : ℕ). FirstBin r j g) e B

module _ (h : Heap) (w r : List ℕ) (b : ℕ) (x : Option ℕ) (o : Ok h w r) (B : FirstBin r (bin_of b) x) where
  step7-is : (y : Option ℕ) → x ≡ y → step7 b h ≡ elim y [ Some j ↦ step8 j (lst none64 (bin h j)) b (ltb b 1024) h | None ↦ nothing h ]
  unfolding step7
  step7-is y e = ap (λ (x : Option ℕ). elim x [ Some j ↦ step8 j (lst none64 (bin h j)) b (ltb b large) h | None ↦ nothing h ]) (B.is h w o ∙ e)

  pub above-none : x ≡ None → Gave (Option ℕ) (step7 b h) None w w r
  above-none e = gave-by (step7-is None e) (gave-none h None w r o.rec)

  module _ (i : ℕ) (e : x ≡ Some i) (g : Good h) (b32 : 32 ≤ b) (at : ℕ) (q : at ≡ bin_last i) where
    above-has : (some? (bin h i) ≡ true) × (suc (bin_of b) ≤ i)
    above-has = first_bin-has (last_bin - bin_of b) (suc (bin_of b)) h i (B.is h w o ∙ e)

    above_word : get_or r at 0 ≡ lst none64 (bin h i)
    above_word = ap (λ (n : ℕ). get_or r n 0) q ∙ go (bin h i) above-has.0 (ok-last h w r o i (omega (arith, above-has.1)) (B.most i e))
      where
        go : (l : List ℕ) → some? l ≡ true → get_or r (bin_last i) 0 ≡ lst none32 l → get_or r (bin_last i) 0 ≡ lst none64 l
        go [] t e = let u : ◌≡◌ {A = ℕ} 0 1 = cc in absurd (omega arith)
        go (x ∷ l) t e = e

    pub above_fit : Fit h i (get_or r at 0) b
    above_fit = subst (λ (c : ℕ). Fit h i c b) (sym above_word)
        (let c : ℕ = lst none64 (bin h i) in
        let mc : 1 ≤ cnt c (bin h i) = some-has (bin h i) above-has.0 in
        let so : bin_of (size_of h c) ≡ i = g.homes.sorted i c (omega (arith, above-has.1, (bin_of-bounds b b32).0)) mc in
        record { here = mc; enough = ⊎_elim (λ l. absurd (omega (arith, so, above-has.1, bin-monotone (size_of h c) b (omega (arith, l))))) (λ l. l) (lt-or-le (size_of h c) b) })

    pub above-gave : (new? : Bool) → new? ≡ ltb b 1024 → (a : Option ℕ) (v u : List ℕ) → Does (Option ℕ) (λ h. Good h × Fit h i (get_or r at 0) b) (step8 i (get_or r at 0) b new?) w r a v u
        → Gave (Option ℕ) (step7 b h) a w v u
    above-gave new? n a v u D =
        let m : Gave (Option ℕ) (step8 i (get_or r at 0) b (ltb b 1024) h) a w v u = subst (λ (t : Bool). Gave (Option ℕ) (step8 i (get_or r at 0) b t h) a w v u) n (D.does h o (g, above_fit)) in
        gave-by (step7-is (Some i) e) (subst (λ (c : ℕ). Gave (Option ℕ) (step8 i c b (ltb b 1024) h) a w v u) above_word m)
