-- Unlink, and insertion between two parts of a bin, keep the heap's shape and words. By the links of a list in two parts, of which one link each is
-- redirected. Assumes nothing.
use Rattle.std.specs.Prelude.{◌≡◌, refl, List, [], ◌∷◌, ◌++◌, Bool, true, false, ℕ, zero, suc, ◌+◌, ◌≤◌, ◌<◌, eqb, length, get_or}
use Rattle.std.proofs.Common.{sym, ap, ◌∙◌, subst, inl, inr, ⊎_elim, not-suc-le-zero, arith, length-set, eqb-true}
use Rattle.sizes.specs.Limits.{none64, large, first_large}
use Rattle.machine.specs.Lists.{hd, lst, pre, post, ind, cnt, cnt_all}
use Rattle.machine.specs.Count.{eq?, ind-same, ind-other, cnt-append, cnt-here, cnt_all-set, cnt-le-all, cnt-two}
use Rattle.machine.specs.Heap.{Heap, bin, with_bin, starts, size_of}
use Rattle.machine.specs.Writes.{Write, who, put, apply, heap_of, writes, fwd, back}
use Rattle.machine.specs.Primitives.{fwd_to, back_to, links_in, link_in, links_out, unlink}
use Rattle.machine.specs.Skips.{skips_in, skips_out}
use Rattle.sound.specs.Relation.{chain, links, MemBy, Mem, Shape, Loose}
use Rattle.sound.specs.Tiles.{starts-once}
use Rattle.sound.specs.Frames.{Agree, links-cong, set_cases, Starts, starts-all, Grid, grid, Sub, put-length, apply-length, apply-append, put_other, put_same, agree, LinkW, link-append, link-out, Skips, rebin}
use Rattle.sound.specs.Apart.{tiled-tiles}
use Rattle.sound.specs.Rings.{SkipW, skips_in-w, skips_out-w, link-low-w, skips-bin, left-stands, come-stands, skip-mem}

-- ---- the list alone
pub cut : (c : ℕ) (l : List ℕ) → 1 ≤ cnt c l → l ≡ pre c l ++ c ∷ post c l
cut c [] m = absurd (not-suc-le-zero m)
cut c (y ∷ l) m = go (λ k. cut c l k) (eqb c y) refl
  where
    go : (1 ≤ cnt c l → l ≡ pre c l ++ c ∷ post c l) → (b : Bool) → eqb c y ≡ b
        → y ∷ l ≡ ◌++◌ {A = ℕ} (elim b [ true ↦ [] | false ↦ y ∷ pre c l ]) (c ∷ elim b [ true ↦ l | false ↦ post c l ])
    go r true e = ap (λ (z : ℕ). z ∷ l) (sym (eqb-true c y e))
    go r false e = ap (λ (z : List ℕ). y ∷ z) (r (omega (arith, ap ind e)))

pub hd-append : (n : ℕ) (a b : List ℕ) → hd n (a ++ b) ≡ hd (hd n b) a
hd-append n [] b = refl
hd-append n (x ∷ a) b = refl

pub lst-append : (n : ℕ) (a b : List ℕ) → lst n (a ++ b) ≡ lst (lst n a) b
lst-append n [] b = refl
lst-append n (x ∷ a) b = lst-append x a b

pub lst-in : (x : ℕ) (xs : List ℕ) → 1 ≤ cnt (lst x xs) (x ∷ xs)
lst-in x [] = cnt-here x []
lst-in x (y ∷ ys) = omega (arith, lst-in y ys)

-- ---- links of a list in two parts
pub links-chain : (w : List ℕ) (p : ℕ) (l : List ℕ) → links w p l none64 → chain w l
links-chain w p [] k = tt
links-chain w p (x ∷ l) k = (k.0, links-chain w x l k.2)

pub links-split : (w : List ℕ) (p : ℕ) (a b : List ℕ) (n : ℕ) → links w p (a ++ b) n → links w p a (hd n b) × links w (lst p a) b n
links-split w p [] b n k = (tt, k)
links-split w p (x ∷ a) b n k =
    let r : links w x a (hd n b) × links w (lst x a) b n = links-split w x a b n k.2 in
    ((k.0 ∙ hd-append n a b, k.1, r.0), r.1)

pub links-join : (w : List ℕ) (p : ℕ) (a b : List ℕ) (n : ℕ) → links w p a (hd n b) → links w (lst p a) b n → links w p (a ++ b) n
links-join w p [] b n j k = k
links-join w p (x ∷ a) b n j k = (j.0 ∙ sym (hd-append n a b), j.1, links-join w x a b n j.2 k)

pub cut-cnt : (c : ℕ) (l : List ℕ) → 1 ≤ cnt c l → (x : ℕ) → cnt x l ≡ cnt x (pre c l) + (ind (eqb x c) + cnt x (post c l))
cut-cnt c l m x = ap (cnt x) (cut c l m) ∙ cnt-append x (pre c l) (c ∷ post c l)

pub in-range : (x : ℕ) (ls : List (List ℕ)) (j : ℕ) → 1 ≤ cnt x (get_or ls j []) → j < length ls
in-range x [] j m = absurd (not-suc-le-zero m)
in-range x (l ∷ ls) zero m = omega arith
in-range x (l ∷ ls) (suc j) m = omega (arith, in-range x ls j m)

pub fwd-w : (xs : List ℕ) (m : ℕ) → LinkW xs (fwd_to xs m)
fwd-w [] m = tt
fwd-w (x ∷ xs) m = (omega arith, lst-in x xs, tt)

pub back-w : (ys : List ℕ) (q : ℕ) → LinkW ys (back_to ys q)
back-w [] q = tt
back-w (y ∷ ys) q = (omega arith, cnt-here y ys, tt)

pub link-more : (L M : List ℕ) (ws : List Write) → Sub L M → LinkW L ws → LinkW M ws
link-more L M [] s k = tt
link-more L M (e ∷ ws) s k = (k.0, s (who e) k.1, link-more L M ws s k.2)

pub out-w : (xs ys : List ℕ) → LinkW (xs ++ ys) (links_out xs ys)
out-w xs ys = link-append (xs ++ ys) (fwd_to xs (hd none64 ys)) (back_to ys (lst none64 xs))
    (link-more xs (xs ++ ys) (fwd_to xs (hd none64 ys)) (λ x i. omega (arith, cnt-append x xs ys)) (fwd-w xs (hd none64 ys)))
    (link-more ys (xs ++ ys) (back_to ys (lst none64 xs)) (λ x i. omega (arith, cnt-append x xs ys)) (back-w ys (lst none64 xs)))

pub in-w : (c : ℕ) (xs ys : List ℕ) → LinkW (c ∷ (xs ++ ys)) (links_in c xs ys)
in-w c xs ys =
    let L : List ℕ = c ∷ (xs ++ ys) in (
      omega arith,
      cnt-here c (xs ++ ys),
      (
        omega arith,
        cnt-here c (xs ++ ys),
        link-append L (fwd_to xs c) (back_to ys c)
            (link-more xs L (fwd_to xs c) (λ x i. omega (arith, cnt-append x xs ys)) (fwd-w xs c))
            (link-more ys L (back_to ys c) (λ x i. omega (arith, cnt-append x xs ys)) (back-w ys c)),
      ),
    )

module _ (S : List ℕ) (n : ℕ) (g : Grid S n) where
  -- a list of chunks, each at most once
  abbrev Part : List ℕ → Type 0
  Part l = (x : ℕ) → cnt x l ≤ cnt x S

  -- words of l under link writes of L, which l has none of
  links-frame : (w : List ℕ) (ws : List Write) (L : List ℕ) (p : ℕ) (l : List ℕ) (k : ℕ) → LinkW L ws → Sub L S → Sub l S → ((x : ℕ) → 1 ≤ cnt x L → cnt x l ≡ 0)
      → links w p l k → links (apply ws w) p l k
  links-frame w ws L p l k lw sL sl d j =
      links-cong w (apply ws w) p l k
      (agree S n g ws w 2 l (omega arith) sl (link-out S L l 2 ws sL d lw))
      (agree S n g ws w 3 l (omega arith) sl (link-out S L l 3 ws sL d lw)) j

  pub fwd-links : (w : List ℕ) → length w ≡ n → (p : ℕ) (xs : List ℕ) (k m : ℕ) → Part xs → links w p xs k → links (apply (fwd_to xs m) w) p xs m
  fwd-links w lw p [] k m sub j = tt
  fwd-links w lw p (x ∷ []) k m sub j =
      let mx : 1 ≤ cnt x S = omega (arith, sub x, ind-same x) in
      (put_same S n g (fwd x m) (omega arith) w lw mx, put_other S n g (fwd x m) (omega arith) w x 3 mx mx (omega arith) (λ q. omega arith) ∙ j.1, tt)
  fwd-links w lw p (x ∷ y ∷ zs) k m sub j =
      let z : ℕ = lst y zs in
      let mx : 1 ≤ cnt x S = omega (arith, sub x, ind-same x) in
      let mz : 1 ≤ cnt z S = omega (arith, sub z, lst-in y zs) in
      let ne : x ≡ z → ⊥ = λ e. omega (arith, g.once x, sub x, ind-same x, lst-in y zs, ap (λ (u : ℕ). cnt u (y ∷ zs)) e) in (
        put_other S n g (fwd z m) (omega arith) w x 2 mz mx (omega arith) (λ q r. ne q) ∙ j.0,
        put_other S n g (fwd z m) (omega arith) w x 3 mz mx (omega arith) (λ q r. ne q) ∙ j.1,
        fwd-links w lw x (y ∷ zs) k m (λ u. omega (arith, sub u)) j.2,
      )

  pub back-links : (w : List ℕ) → length w ≡ n → (p q : ℕ) (ys : List ℕ) (k : ℕ) → Part ys → links w p ys k → links (apply (back_to ys q) w) q ys k
  back-links w lw p q [] k sub j = tt
  back-links w lw p q (y ∷ ys) k sub j =
      let my : 1 ≤ cnt y S = omega (arith, sub y, ind-same y) in
      let v : List ℕ = apply (back y q ∷ []) w in
      let sl : Sub ys S = λ x m. omega (arith, sub x) in
      let out : cnt y ys ≡ 0 = omega (arith, g.once y, sub y, ind-same y) in (
        put_other S n g (back y q) (omega arith) w y 2 my my (omega arith) (λ e. omega arith) ∙ j.0,
        put_same S n g (back y q) (omega arith) w lw my,
        links-cong w v y ys k
            (agree S n g (back y q ∷ []) w 2 ys (omega arith) sl (my, omega arith, inr (omega arith), tt))
            (agree S n g (back y q ∷ []) w 3 ys (omega arith) sl (my, omega arith, inl out, tt)) j.2,
      )

  pub unlink-links : (w : List ℕ) → length w ≡ n → (xs ys : List ℕ) (c : ℕ) → Part (xs ++ c ∷ ys) → links w none64 (xs ++ c ∷ ys) none64
      → links (apply (fwd_to xs (hd none64 ys) ++ back_to ys (lst none64 xs)) w) none64 (xs ++ ys) none64
  unlink-links w lw xs ys c sub j =
      let m : ℕ = hd none64 ys in
      let q : ℕ = lst none64 xs in
      let w1 : List ℕ = apply (fwd_to xs m) w in
      let l1 : length w1 ≡ n = apply-length (fwd_to xs m) w ∙ lw in
      let sum : (x : ℕ) → cnt x (xs ++ c ∷ ys) ≡ cnt x xs + (ind (eqb x c) + cnt x ys) = λ x. cnt-append x xs (c ∷ ys) in
      let sx : Part xs = λ x. omega (arith, sub x, sum x) in
      let sy : Part ys = λ x. omega (arith, sub x, sum x) in
      let k : links w none64 xs c × links w q (c ∷ ys) none64 = links-split w none64 xs (c ∷ ys) none64 j in
      rw apply-append (links-join (apply (back_to ys q) w1) none64 xs ys none64
      (links-frame w1 (back_to ys q) ys none64 xs m (back-w ys q) (λ x i. omega (arith, sy x)) (λ x i. omega (arith, sx x))
      (λ x i. omega (arith, sub x, sum x, g.once x))
      (fwd-links w lw none64 xs c m sx k.0))
      (back-links w1 l1 c q ys none64 sy
      (links-frame w (fwd_to xs m) xs c ys none64 (fwd-w xs m) (λ x i. omega (arith, sx x)) (λ x i. omega (arith, sy x))
      (λ x i. omega (arith, sub x, sum x, g.once x)) k.1.2)))

  pub link-links : (w : List ℕ) → length w ≡ n → (xs ys : List ℕ) (c : ℕ) → Part (xs ++ c ∷ ys) → links w none64 (xs ++ ys) none64
      → links (apply (fwd c (hd none64 ys) ∷ back c (lst none64 xs) ∷ fwd_to xs c ++ back_to ys c) w) none64 (xs ++ c ∷ ys) none64
  link-links w lw xs ys c sub j =
      let m : ℕ = hd none64 ys in
      let q : ℕ = lst none64 xs in
      let ws0 : List Write = fwd c m ∷ back c q ∷ [] in
      let w0 : List ℕ = apply ws0 w in
      let w1 : List ℕ = apply (fwd_to xs c) w0 in
      let l0 : length w0 ≡ n = apply-length ws0 w ∙ lw in
      let l1 : length w1 ≡ n = apply-length (fwd_to xs c) w0 ∙ l0 in
      let sum : (x : ℕ) → cnt x (xs ++ c ∷ ys) ≡ cnt x xs + (ind (eqb x c) + cnt x ys) = λ x. cnt-append x xs (c ∷ ys) in
      let mc : 1 ≤ cnt c S = omega (arith, sub c, sum c, ind-same c) in
      let lw0 : LinkW (c ∷ []) ws0 = (omega arith, cnt-here c [], (omega arith, cnt-here c [], tt)) in
      let sx : Part xs = λ x. omega (arith, sub x, sum x) in
      let sy : Part ys = λ x. omega (arith, sub x, sum x) in
      let sc : Part (c ∷ []) = λ x. omega (arith, sub x, sum x) in
      let x_s : Sub xs S = λ x i. omega (arith, sx x) in
      let y_s : Sub ys S = λ x i. omega (arith, sy x) in
      let c_s : Sub (c ∷ []) S = λ x i. omega (arith, sc x) in
      let k : links w none64 xs m × links w q ys none64 = links-split w none64 xs ys none64 j in
      let cx : (x : ℕ) → 1 ≤ cnt x (c ∷ []) → cnt x xs ≡ 0 = λ x i. omega (arith, sub x, sum x, g.once x) in
      let cy : (x : ℕ) → 1 ≤ cnt x (c ∷ []) → cnt x ys ≡ 0 = λ x i. omega (arith, sub x, sum x, g.once x) in
      let xy : (x : ℕ) → 1 ≤ cnt x xs → cnt x ys ≡ 0 = λ x i. omega (arith, sub x, sum x, g.once x) in
      let yx : (x : ℕ) → 1 ≤ cnt x ys → cnt x xs ≡ 0 = λ x i. omega (arith, sub x, sum x, g.once x) in
      let keep : (i : ℕ) → i < 4 → Agree w0 (apply (back_to ys c) w1) i (c ∷ []) = λ i hi x e.
      agree S n g (back_to ys c) w1 i (c ∷ []) hi c_s
      (link-out S ys (c ∷ []) i (back_to ys c) y_s (λ x i. omega (arith, sub x, sum x, g.once x)) (back-w ys c)) x e
      ∙ agree S n g (fwd_to xs c) w0 i (c ∷ []) hi c_s
      (link-out S xs (c ∷ []) i (fwd_to xs c) x_s (λ x i. omega (arith, sub x, sum x, g.once x)) (fwd-w xs c)) x e in
      rw apply-append (links-join (apply (back_to ys c) w1) none64 xs (c ∷ ys) none64
      (links-frame w1 (back_to ys c) ys none64 xs c (back-w ys c) y_s x_s yx
      (fwd-links w0 l0 none64 xs m c sx (links-frame w ws0 (c ∷ []) none64 xs m lw0 c_s x_s cx k.0))) (
        keep 2 (omega arith) c (cnt-here c []) ∙ put_other S n g (back c q) (omega arith) (put (fwd c m) w) c 2 mc mc (omega arith) (λ e. omega arith)
            ∙ put_same S n g (fwd c m) (omega arith) w lw mc,
        keep 3 (omega arith) c (cnt-here c []) ∙ put_same S n g (back c q) (omega arith) (put (fwd c m) w) (put-length (fwd c m) w ∙ lw) mc,
        back-links w1 l1 q c ys none64 sy
            (links-frame w0 (fwd_to xs c) xs q ys none64 (fwd-w xs c) x_s y_s xy
            (links-frame w ws0 (c ∷ []) q ys none64 lw0 c_s y_s cy k.1)),
      ))

-- ---- the heap
pub unlink-shape : (h : Heap) (j c : ℕ) → Shape h → 1 ≤ cnt c (bin h j) → Shape (heap_of (unlink j c h))
unlink-shape h j c s mc =
    let l : List ℕ = pre c (bin h j) ++ post c (bin h j) in
    record {
      small = s.small;
      sizes = s.sizes;
      stacked74 = s.stacked74;
      binned127 = length-set h.bins j l ∙ s.binned127;
      own = λ x. omega (
        arith,
        s.own x,
        cut-cnt c (bin h j) mc x,
        cnt-append x (pre c (bin h j)) (post c (bin h j)),
        cnt_all-set x h.bins j l
            (in-range c h.bins j mc),
      );
      roomy = λ i x z. set_cases (λ q. 1 ≤ cnt x q → large ≤ size_of h x) h.bins j l i (in-range c h.bins j mc)
          (λ e m. s.roomy j x (omega (arith, e)) (omega (arith, cut-cnt c (bin h j) mc x, cnt-append x (pre c (bin h j)) (post c (bin h j))))) (λ e. s.roomy i x z);
    }

-- c is in no list then
pub unlink-loose : (h : Heap) (j c : ℕ) → Shape h → 1 ≤ cnt c (bin h j) → Loose (heap_of (unlink j c h)) c
unlink-loose h j c s mc =
    let l : List ℕ = pre c (bin h j) ++ post c (bin h j) in
    omega (
      arith,
      s.own c,
      cut-cnt c (bin h j) mc c,
      ind-same c,
      cnt-append c (pre c (bin h j)) (post c (bin h j)),
      cnt_all-set c h.bins j l
          (in-range c h.bins j mc),
    )

-- the links, before the skip links follow
pub unlinked-mem : (h : Heap) (w : List ℕ) (j c : ℕ) → Shape h → Mem h w → 1 ≤ cnt c (bin h j)
    → MemBy 2 (heap_of (unlink j c h)) (apply (links_out (pre c (bin h j)) (post c (bin h j))) w)
unlinked-mem h w j c s m mc =
    let xs : List ℕ = pre c (bin h j) in
    let ys : List ℕ = post c (bin h j) in
    let S : List ℕ = Starts h in
    let g : Grid S (length w) = grid h (length w) s.sizes m.long in
    let cc : (x : ℕ) → cnt x (bin h j) ≡ cnt x xs + (ind (eqb x c) + cnt x ys) = cut-cnt c (bin h j) mc in
    let up : (x : ℕ) → cnt x (xs ++ ys) ≡ cnt x xs + cnt x ys = λ x. cnt-append x xs ys in
    let pt : (x : ℕ) → cnt x (bin h j) ≤ cnt x S = λ x. omega (arith, s.own x, starts-all h x, cnt-le-all x h.bins j) in
    rebin h w j (xs ++ ys) (xs ++ ys) (links_out xs ys) s m (in-range c h.bins j mc) (λ x i. omega (arith, pt x, cc x, up x)) (out-w xs ys)
    (λ x i. omega (arith, s.own x, starts-all h x, g.once x, cc x, up x, cnt-le-all x h.bins j))
    (λ x i k ne. omega (arith, s.own x, starts-all h x, g.once x, cc x, up x, cnt-two x h.bins k j ne))
    (unlink-links S (length w) g w refl xs ys c (λ x. omega (arith, pt x, ap (cnt x) (cut c (bin h j) mc)))
    (subst (λ (l : List ℕ). links w none64 l none64) (cut c (bin h j) mc) (m.blinks j)))

pub unlink-mem : (h : Heap) (w : List ℕ) (j c : ℕ) → Shape h → Mem h w → 1 ≤ cnt c (bin h j) → Mem (heap_of (unlink j c h)) (apply (writes (unlink j c h)) w)
unlink-mem h w j c s m mc =
    let xs : List ℕ = pre c (bin h j) in
    let ys : List ℕ = post c (bin h j) in
    let ls : List ℕ = xs ++ ys in
    let ws : List Write = links_out xs ys in
    let hj = in-range c h.bins j mc in
    let K : Skips h w = m.skipped (omega arith) in
    let few : (x : ℕ) → cnt x ls ≤ cnt x (bin h j) = λ x. omega (arith, cut-cnt c (bin h j) mc x, cnt-append x xs ys) in
    let has : Sub ls (starts h) = λ x i. omega (arith, few x, s.own x, cnt-le-all x h.bins j) in
    let low = link-low-w h s ls ws (λ x i. omega (arith, has x i, starts-all h x)) (out-w xs ys) in
    let wide : first_large ≤ j → (x : ℕ) → 1 ≤ cnt x ls → large ≤ size_of h x = λ z x i. s.roomy j x z (omega (arith, few x)) in
    let vs : List Write = skips_out j (λ x. size_of h x) ls in
    let kw : SkipW (λ x. size_of h x) ls vs = skips_out-w j (λ x. size_of h x) ls wide in
    let once : (x : ℕ) → cnt x (starts h) ≤ 1 = λ x. starts-once h.tiles 0 x (tiled-tiles h s) in
    rw (apply-append ws vs w) (skip-mem (with_bin j ls h) (unlink-shape h j c s mc) (apply ws w) ls vs (unlinked-mem h w j c s m mc) kw has
    (skips-bin h s w j ls ws vs K hj low kw has
    (λ x i k ne. omega (arith, s.own x, few x, cnt-two x h.bins k j ne, once x))
    (left-stands h s j c xs ys ws w m.long K low (cut c (bin h j) mc) has (λ x. omega (arith, few x, s.own x, cnt-le-all x h.bins j, once x)) wide)))

pub link-shape : (h : Heap) (j c : ℕ) (xs ys : List ℕ) → Shape h → j < length h.bins → Loose h c → bin h j ≡ xs ++ ys → (first_large ≤ j → large ≤ size_of h c)
    → Shape (heap_of (link_in j c xs ys h))
link-shape h j c xs ys s hj lo e lc =
    record {
      small = s.small;
      sizes = s.sizes;
      stacked74 = s.stacked74;
      binned127 = length-set h.bins j (xs ++ c ∷ ys) ∙ s.binned127;
      own = λ x. ⊎_elim
          (λ q. rw q (omega (arith, ind-same c, ap (cnt c) e, cnt-append c xs (c ∷ ys), cnt-append c xs ys, cnt_all-set c h.bins j (xs ++ c ∷ ys) hj)))
          (λ q. omega (arith, s.own x, ind-other x c q, ap (cnt x) e, cnt-append x xs (c ∷ ys), cnt-append x xs ys, cnt_all-set x h.bins j (xs ++ c ∷ ys) hj))
          (eq? x c);
      roomy = λ i x z. set_cases (λ q. 1 ≤ cnt x q → large ≤ size_of h x) h.bins j (xs ++ c ∷ ys) i hj
          (λ q m. ⊎_elim (λ y. rw y (lc (omega (arith, q))))
          (λ y. s.roomy j x (omega (arith, q)) (omega (arith, ind-other x c y, ap (cnt x) e, cnt-append x xs (c ∷ ys), cnt-append x xs ys))) (eq? x c)) (λ q. s.roomy i x z);
    }

-- c, which no list has, comes to them
come-own : (h : Heap) (c : ℕ) → Shape h → Loose h c → (x : ℕ) → cnt_all x h.stacks + cnt_all x h.bins + ind (eqb x c) ≤ cnt x (starts h)
come-own h c s lo x = ⊎_elim (λ q. rw q (omega (arith, ind-same c))) (λ q. omega (arith, s.own x, ind-other x c q)) (eq? x c)

pub linked-mem : (h : Heap) (w : List ℕ) (j c : ℕ) (xs ys : List ℕ) → Shape h → Mem h w → j < length h.bins → Loose h c → bin h j ≡ xs ++ ys
    → MemBy 2 (heap_of (link_in j c xs ys h)) (apply (links_in c xs ys) w)
linked-mem h w j c xs ys s m hj lo e =
    let S : List ℕ = Starts h in
    let g : Grid S (length w) = grid h (length w) s.sizes m.long in
    let L : List ℕ = c ∷ (xs ++ ys) in
    let up : (x : ℕ) → cnt x (bin h j) ≡ cnt x xs + cnt x ys = λ x. ap (cnt x) e ∙ cnt-append x xs ys in
    let up' : (x : ℕ) → cnt x (xs ++ ys) ≡ cnt x xs + cnt x ys = λ x. cnt-append x xs ys in
    let own' = come-own h c s lo in
    rebin h w j (xs ++ c ∷ ys) L (links_in c xs ys) s m hj
    (λ x i. omega (arith, own' x, starts-all h x, up x, up' x, cnt-le-all x h.bins j)) (in-w c xs ys)
    (λ x i. omega (arith, own' x, starts-all h x, g.once x, up x, up' x, cnt-le-all x h.bins j))
    (λ x i k ne. omega (arith, own' x, starts-all h x, g.once x, up x, up' x, cnt-two x h.bins k j ne))
    (link-links S (length w) g w refl xs ys c (λ x. omega (arith, own' x, starts-all h x, up x, cnt-append x xs (c ∷ ys), cnt-le-all x h.bins j))
    (subst (λ (l : List ℕ). links w none64 l none64) e (m.blinks j)))

pub link-mem : (h : Heap) (w : List ℕ) (j c : ℕ) (xs ys : List ℕ) → Shape h → Mem h w → j < length h.bins → Loose h c → bin h j ≡ xs ++ ys
    → (first_large ≤ j → large ≤ size_of h c) → Mem (heap_of (link_in j c xs ys h)) (apply (writes (link_in j c xs ys h)) w)
link-mem h w j c xs ys s m hj lo e lc =
    let ls : List ℕ = xs ++ c ∷ ys in
    let ws : List Write = links_in c xs ys in
    let own' = come-own h c s lo in
    let K : Skips h w = m.skipped (omega arith) in
    let all' : (x : ℕ) → cnt x ls ≡ cnt x (bin h j) + ind (eqb x c) = λ x. omega (arith, cnt-append x xs (c ∷ ys), ap (cnt x) e, cnt-append x xs ys) in
    let has : Sub ls (starts h) = λ x i. omega (arith, all' x, own' x, cnt-le-all x h.bins j) in
    let low = link-low-w h s (c ∷ (xs ++ ys)) ws
    (λ x i. omega (arith, has x (omega (arith, cnt-append x xs (c ∷ ys), cnt-append x xs ys)), starts-all h x)) (in-w c xs ys) in
    let wide : first_large ≤ j → (x : ℕ) → 1 ≤ cnt x ls → large ≤ size_of h x = λ z x i. ⊎_elim (λ q. rw q (lc z)) (λ q. s.roomy j x z (omega (arith, all' x, ind-other x c q))) (eq? x c) in
    let vs : List Write = skips_in j (λ x. size_of h x) c ls in
    let kw : SkipW (λ x. size_of h x) ls vs = skips_in-w j (λ x. size_of h x) c ls (omega (arith, all' c, ind-same c)) wide in
    let once : (x : ℕ) → cnt x (starts h) ≤ 1 = λ x. starts-once h.tiles 0 x (tiled-tiles h s) in
    rw (apply-append ws vs w) (skip-mem (with_bin j ls h) (link-shape h j c xs ys s hj lo e lc) (apply ws w) ls vs (linked-mem h w j c xs ys s m hj lo e) kw has
    (skips-bin h s w j ls ws vs K hj low kw has
    (λ x i k ne. omega (arith, own' x, all' x, cnt-two x h.bins k j ne, once x))
    (come-stands h s j c xs ys ws w m.long K low e has (λ x. omega (arith, all' x, own' x, cnt-le-all x h.bins j, once x)) wide)))
