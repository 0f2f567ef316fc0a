-- Insertion into a bin and unlink, as the code does them, follow the machine: what a chunk's links say are the ends of the two parts around it, and an end of
-- the record that is not set has its value. Assumes nothing.
use Rattle.std.specs.Prelude.{◌≡◌, refl, List, [], ◌∷◌, ◌++◌, ℕ, ◌+◌, ◌≤◌, ◌<◌, ◌^◌, length, get_or, set}
use Rattle.std.proofs.Common.{sym, ap, ◌∙◌, subst, append-nil, ⊎_elim, arith, get_or-set_other}
use Rattle.le.specs.Arena.{arena_words}
use Rattle.sizes.specs.Limits.{none64, none32, unsorted}
use Rattle.sizes.specs.Layout.{bin_first, bin_last, fwd_word, back_word}
use Rattle.machine.specs.Lists.{hd, lst, pre, post, cnt}
use Rattle.machine.specs.Count.{eq?, cnt-here, cnt-append, cnt-two}
use Rattle.machine.specs.Heap.{Heap, bin, with_bin, record_of}
use Rattle.machine.specs.Writes.{fwd, back, put, apply}
use Rattle.machine.specs.Primitives.{fwd_to, back_to}
use Rattle.machine.specs.View.{up}
use Rattle.sound.specs.Relation.{links, Loose}
use Rattle.sound.specs.Frames.{apply-append, Starts, starts-all, Grid, grid}
use Rattle.chunk_fields.specs.Links.{down}
use Rattle.sound.specs.Lists.{cut, cut-cnt, lst-append, lst-in, links-split, in-range}
use Rattle.sound.specs.RecordOf.{record-bin_first, record-bin_last, record-with_bin}
use Rattle.primitives.specs.Follow.{Ok, Gave, Does}
use Rattle.primitives.specs.Places.{Gap, InBin, Home, home-in}
use Rattle.primitives.specs.Linked.{comes, leaves}
use Rattle.primitives.specs.Chunks.{Chunk, Chunks, Inside, in_bytes, loose-chunk, bin-chunk, down-chunk, up-hd, down-hd, down-lst, hd-narrow, lst-narrow}
use Rattle.primitives.specs.Ends.{link_fwd, link_back, link_end, bin_by, Leads, link_fwd-some, link_back-some, link_end-some, bin_by-same, bin_by-other, not_none, fwd-words, back-words, hd-leads, lst-leads, end-set}

-- ---- a part whose end is none has no chunk
pub lst-nil : (w xs : List ℕ) → Chunks w xs → lst none64 xs ≡ none64 → xs ≡ []
lst-nil w [] k e = refl
lst-nil w (x ∷ xs) k e = absurd (not_none w (lst x xs) (k (lst x xs) (lst-in x xs)) e)

pub hd-nil : (w ys : List ℕ) → Chunks w ys → hd none64 ys ≡ none64 → ys ≡ []
hd-nil w [] k e = refl
hd-nil w (y ∷ ys) k e = absurd (not_none w y (k y (cnt-here y ys)) e)

pub hd-kept : (xs a b : List ℕ) → (lst none64 xs ≡ none64 → ⊥) → hd none32 (xs ++ a) ≡ hd none32 (xs ++ b)
hd-kept [] a b ne = absurd (ne refl)
hd-kept (x ∷ xs) a b ne = refl

pub lst-kept : (xs : List ℕ) (c : ℕ) (ys : List ℕ) → (hd none64 ys ≡ none64 → ⊥) → lst none32 (xs ++ c ∷ ys) ≡ lst none32 (xs ++ ys)
lst-kept xs c [] ne = absurd (ne refl)
lst-kept xs c (y ∷ ys) ne = lst-append none32 xs (c ∷ y ∷ ys) ∙ sym (lst-append none32 xs (y ∷ ys))

pub hd-has : (l : List ℕ) (c : ℕ) → c < none32 → hd none32 l ≡ c → 1 ≤ cnt c l
hd-has [] c b e = absurd (omega arith)
hd-has (x ∷ l) c b e = subst (λ (c : ℕ). 1 ≤ cnt c (x ∷ l)) e (cnt-here x l)

pub lst-has : (l : List ℕ) (c : ℕ) → c < none32 → lst none32 l ≡ c → 1 ≤ cnt c l
lst-has [] c b e = absurd (omega arith)
lst-has (x ∷ l) c b e = subst (λ (c : ℕ). 1 ≤ cnt c (x ∷ l)) e (lst-in x l)

-- ---- what calls on the ends p and n of two parts ask, in an arena of m bytes
pub record Ready (m p n : ℕ) : Type 0 where
  pub pin : Leads m p
  pub nin : Leads m n
  pub pnarrow : down p < 2 ^ 32
  pub nnarrow : down n < 2 ^ 32

pub ready : (a xs ys : List ℕ) → Chunks (arena_words a) xs → Chunks (arena_words a) ys → Ready (length a) (lst none64 xs) (hd none64 ys)
ready a xs ys kx ky = record {
  pin = lst-leads a xs kx;
  nin = hd-leads a ys ky;
  pnarrow = rw (down-lst (arena_words a) xs kx) (lst-narrow (arena_words a) xs kx);
  nnarrow = rw (down-hd (arena_words a) ys ky) (hd-narrow (arena_words a) ys ky);
}

-- what the links of c, which bin j has, say
pub record Around (h : Heap) (w : List ℕ) (j c : ℕ) : Type 0 where
  pub next : get_or w (fwd_word c) 0 ≡ hd none64 (post c (bin h j))
  pub prev : get_or w (back_word c) 0 ≡ lst none64 (pre c (bin h j))
  pub here : Chunk w c
  pub low : Chunks w (pre c (bin h j))
  pub high : Chunks w (post c (bin h j))

module _ (h : Heap) (w r : List ℕ) (o : Ok h w r) where
  pub ok-bin : (j : ℕ) → Chunks w (bin h j)
  ok-bin j = bin-chunk h w o.shape o.mem j

  pub ok-first : (j : ℕ) → 1 ≤ j → j ≤ 126 → get_or r (bin_first j) 0 ≡ hd none32 (bin h j)
  ok-first j l m = ap (λ (r : List ℕ). get_or r (bin_first j) 0) o.rec ∙ record-bin_first h o.shape.stacked74 o.shape.binned127 j l m

  pub ok-last : (j : ℕ) → 1 ≤ j → j ≤ 126 → get_or r (bin_last j) 0 ≡ lst none32 (bin h j)
  ok-last j l m = ap (λ (r : List ℕ). get_or r (bin_last j) 0) o.rec ∙ record-bin_last h o.shape.stacked74 o.shape.binned127 j l m

  -- bin j gets the list l: each end is set, or has its value
  pub relinked : (j f g p n x y : ℕ) (l q₁ q : List ℕ) → 1 ≤ j → j ≤ 126
      → (p ≡ none64 → (f ≡ bin_first j) × (down x ≡ hd none32 l)) → ((p ≡ none64 → ⊥) → hd none32 (bin h j) ≡ hd none32 l)
      → (n ≡ none64 → (g ≡ bin_last j) × (down y ≡ lst none32 l)) → ((n ≡ none64 → ⊥) → lst none32 (bin h j) ≡ lst none32 l)
      → q₁ ≡ link_end r f p x → q ≡ link_end q₁ g n y → q ≡ record_of (with_bin j l h)
  relinked j f g p n x y l q₁ q low high F F' G G' e₁ e =
      let r₁ = set r (bin_first j) (hd none32 l) in
      let d₁ : q₁ ≡ r₁ = e₁ ∙ end-set r f (bin_first j) p x (hd none32 l) F (λ ne. ok-first j low high ∙ F' ne) in
      e ∙ ap (λ (q : List ℕ). link_end q g n y) d₁
      ∙ end-set r₁ g (bin_last j) n y (lst none32 l) G
      (λ ne. get_or-set_other r (bin_first j) (bin_last j) (hd none32 l) 0 (λ z. omega arith) ∙ ok-last j low high ∙ G' ne)
      ∙ ap (λ (r : List ℕ). set (set r (bin_first j) (hd none32 l)) (bin_last j) (lst none32 l)) o.rec
      ∙ sym (record-with_bin h o.shape.stacked74 o.shape.binned127 j l low high)

  -- ---- insertion
  gap-cnt : (j : ℕ) (xs ys : List ℕ) (p n : ℕ) → Gap h j xs ys p n → (x : ℕ) → cnt x (bin h j) ≡ cnt x xs + cnt x ys
  gap-cnt j xs ys p n g x = ap (cnt x) g.parts ∙ cnt-append x xs ys

  pub gap-low : (j : ℕ) (xs ys : List ℕ) (p n : ℕ) → Gap h j xs ys p n → Chunks w xs
  gap-low j xs ys p n g x i = ok-bin j x (omega (arith, gap-cnt j xs ys p n g x))

  pub gap-high : (j : ℕ) (xs ys : List ℕ) (p n : ℕ) → Gap h j xs ys p n → Chunks w ys
  gap-high j xs ys p n g x i = ok-bin j x (omega (arith, gap-cnt j xs ys p n g x))

  pub loose-narrow : (c : ℕ) → Loose h c → down c < 2 ^ 32
  loose-narrow c lo = let k = loose-chunk h w o.shape o.mem c lo in rw (down-chunk w c k) (omega (arith, k.small))

  pub link-in-gave : (j c p n : ℕ) (xs ys v₁ v₂ v₃ v q₁ q : List ℕ) → 1 ≤ j → j ≤ 126 → Loose h c → Gap h j xs ys p n
      → v₁ ≡ put (fwd c n) w → v₂ ≡ put (back c p) v₁
      → v₃ ≡ link_fwd v₂ p c → q₁ ≡ link_end r (bin_first j) p c → v ≡ link_back v₃ n c → q ≡ link_end q₁ (bin_last j) n c
      → Gave (Unit {0}) (comes j c xs ys h) tt w v q
  link-in-gave j c p n xs ys v₁ v₂ v₃ v q₁ q low high lo g e₁ e₂ e₃ f₁ e f =
      let kx = gap-low j xs ys p n g in
      let ky = gap-high j xs ys p n g in
      let dc : down c ≡ c = down-chunk w c (loose-chunk h w o.shape o.mem c lo) in
      let w₂ = put (back c (lst none64 xs)) (put (fwd c (hd none64 ys)) w) in
      let a₂ : v₂ ≡ w₂ = e₂ ∙ rw (e₁, g.left, g.right) in
      record {
        says = refl;
        bytes = e ∙ rw (e₃, a₂, g.left, g.right)
            (ap (λ (z : List ℕ). link_back z (hd none64 ys) c) (fwd-words w w₂ xs c kx) ∙ back-words w (apply (fwd_to xs c) w₂) ys c ky ∙ sym (apply-append (fwd_to xs c) (back_to ys c) w₂));
        rec = relinked j (bin_first j) (bin_last j) p n c c (xs ++ c ∷ ys) q₁ q low high
            (λ z. (refl, dc ∙ ap (λ (l : List ℕ). hd none32 (l ++ c ∷ ys)) (sym (lst-nil w xs kx (sym g.left ∙ z)))))
            (λ z. ap (hd none32) g.parts ∙ hd-kept xs ys (c ∷ ys) (λ y. z (g.left ∙ y)))
            (λ z. (refl, dc ∙ sym (lst-append none32 xs (c ∷ ys) ∙ ap (lst c) (hd-nil w ys ky (sym g.right ∙ z)))))
            (λ z. ap (lst none32) g.parts ∙ sym (lst-kept xs c ys (λ y. z (g.right ∙ y))))
            f₁ f;
      }

  -- the first of bin j, as the record has it, is what stands behind nothing
  pub first-gap : (j at v : ℕ) → 1 ≤ j → j ≤ 126 → at ≡ bin_first j → v ≡ up (get_or r at 0) → Gap h j [] (bin h j) none64 v
  first-gap j at v low high d e = record {
    parts = refl;
    left = refl;
    right = e ∙ ap (λ (i : ℕ). up (get_or r i 0)) d ∙ ap up (ok-first j low high) ∙ up-hd w (bin h j) (ok-bin j);
  }

  -- ---- unlink
  pub around : (j c : ℕ) → 1 ≤ cnt c (bin h j) → Around h w j c
  around j c mc =
      let xs = pre c (bin h j) in
      let ys = post c (bin h j) in
      let k : links w none64 xs c × links w (lst none64 xs) (c ∷ ys) none64 =
      links-split w none64 xs (c ∷ ys) none64 (subst (λ (l : List ℕ). links w none64 l none64) (cut c (bin h j) mc) (o.mem.blinks j)) in
      record {
        next = k.1.0;
        prev = k.1.1;
        here = ok-bin j c mc;
        low = λ x i. ok-bin j x (omega (arith, cut-cnt c (bin h j) mc x));
        high = λ x i. ok-bin j x (omega (arith, cut-cnt c (bin h j) mc x));
      }

  -- no other bin has c
  pub one-bin : (i j c : ℕ) → 1 ≤ cnt c (bin h j) → 1 ≤ cnt c (bin h i) → i ≡ j
  one-bin i j c mj mi =
      let g : Grid (Starts h) (length w) = grid h (length w) o.shape.sizes o.mem.long in
      ⊎_elim (λ e. e) (λ ne. absurd (omega (arith, o.shape.own c, starts-all h c, g.once c, cnt-two c h.bins i j ne))) (eq? i j)

  pub bin-below : (j c : ℕ) → 1 ≤ cnt c (bin h j) → j ≤ 126
  bin-below j c mc = omega (arith, in-range c h.bins j mc, o.shape.binned127)

  -- c's bin by an end v of unsorted, where c is that end of its own bin
  pub bin-by : (j c z v : ℕ) → Home h j c z → (j ≡ unsorted → v ≡ c) → (v ≡ c → 1 ≤ cnt c (bin h unsorted)) → bin_by v c z ≡ j
  bin-by j c z v m f g = ⊎_elim one (λ e. ⊎_elim one (λ ne. bin_by-other v c z (λ q. ne (sym (one-bin unsorted j c m.here (g q)))) ∙ sym e) (eq? j unsorted)) m.which
    where
      one : j ≡ unsorted → bin_by v c z ≡ j
      one e = bin_by-same v c z (f e) ∙ sym e

  -- where c is the first of its bin, and where it is the last, unsorted's own first or last tells which bin that is
  pub first_home : (j c z p at : ℕ) → Home h j c z → p ≡ get_or w (back_word c) 0 → p ≡ none64 → at ≡ bin_first unsorted → bin_by (get_or r at 0) c z ≡ j
  first_home j c z p at m ep e ea =
      let a = around j c m.here in
      let ys = post c (bin h j) in
      let nil : pre c (bin h j) ≡ [] = lst-nil w (pre c (bin h j)) a.low (sym a.prev ∙ sym ep ∙ e) in
      let own : hd none32 (bin h j) ≡ c = ap (hd none32) (cut c (bin h j) m.here) ∙ ap (λ (l : List ℕ). hd none32 (l ++ c ∷ ys)) nil in
      let first : get_or r at 0 ≡ hd none32 (bin h unsorted) = ap (λ (i : ℕ). get_or r i 0) ea ∙ ok-first unsorted (omega arith) (omega arith) in
      bin-by j c z (get_or r at 0) m (λ u. first ∙ ap (λ (i : ℕ). hd none32 (bin h i)) (sym u) ∙ own) (λ u. hd-has (bin h unsorted) c (omega (arith, a.here.small)) (sym first ∙ u))

  pub last-home : (j c z n at : ℕ) → Home h j c z → n ≡ get_or w (fwd_word c) 0 → n ≡ none64 → at ≡ bin_last unsorted → bin_by (get_or r at 0) c z ≡ j
  last-home j c z n at m en e ea =
      let a = around j c m.here in
      let xs = pre c (bin h j) in
      let nil : post c (bin h j) ≡ [] = hd-nil w (post c (bin h j)) a.high (sym a.next ∙ sym en ∙ e) in
      let own : lst none32 (bin h j) ≡ c = ap (lst none32) (cut c (bin h j) m.here) ∙ lst-append none32 xs (c ∷ post c (bin h j)) ∙ ap (lst c) nil in
      let last : get_or r at 0 ≡ lst none32 (bin h unsorted) = ap (λ (i : ℕ). get_or r i 0) ea ∙ ok-last unsorted (omega arith) (omega arith) in
      bin-by j c z (get_or r at 0) m (λ u. last ∙ ap (λ (i : ℕ). lst none32 (bin h i)) (sym u) ∙ own) (λ u. lst-has (bin h unsorted) c (omega (arith, a.here.small)) (sym last ∙ u))

  pub unlink-gave : (j c n p : ℕ) (v₁ v q₁ q : List ℕ) → InBin h j c → n ≡ get_or w (fwd_word c) 0 → p ≡ get_or w (back_word c) 0
      → v₁ ≡ link_fwd w p n → q₁ ≡ link_end r (bin_first j) p n → v ≡ link_back v₁ n p → q ≡ link_end q₁ (bin_last j) n p
      → Gave (Unit {0}) (leaves j c h) tt w v q
  unlink-gave j c n p v₁ v q₁ q m en ep e₁ f₁ e f₂ =
      let a = around j c m.here in
      let xs = pre c (bin h j) in
      let ys = post c (bin h j) in
      let next : n ≡ hd none64 ys = en ∙ a.next in
      let prev : p ≡ lst none64 xs = ep ∙ a.prev in
      let high = bin-below j c m.here in
      let es : bin h j ≡ xs ++ c ∷ ys = cut c (bin h j) m.here in
      record {
        says = refl;
        bytes = e ∙ rw (e₁, prev, next)
            (ap (λ (z : List ℕ). link_back z (hd none64 ys) (lst none64 xs)) (fwd-words w w xs (hd none64 ys) a.low) ∙ back-words w (apply (fwd_to xs (hd none64 ys)) w) ys (lst none64 xs) a.high
            ∙ sym (apply-append (fwd_to xs (hd none64 ys)) (back_to ys (lst none64 xs)) w));
        rec = relinked j (bin_first j) (bin_last j) p n n p (xs ++ ys) q₁ q m.low high
            (λ y.
            let nil : xs ≡ [] = lst-nil w xs a.low (sym prev ∙ y) in
            (refl, ap down next ∙ down-hd w ys a.high ∙ ap (λ (l : List ℕ). hd none32 (l ++ ys)) (sym nil)))
            (λ y. ap (hd none32) es ∙ hd-kept xs (c ∷ ys) ys (λ u. y (prev ∙ u)))
            (λ y.
            let nil : ys ≡ [] = hd-nil w ys a.high (sym next ∙ y) in
            (refl, ap down prev ∙ down-lst w xs a.low ∙ sym (ap (λ (l : List ℕ). lst none32 (xs ++ l)) nil ∙ ap (lst none32) (append-nil xs))))
            (λ y. ap (lst none32) es ∙ lst-kept xs c ys (λ u. y (next ∙ u)))
            f₁ f₂;
      }

  -- the bin is known by another number, which is the same
  pub unlink-known-gave : (j i c z : ℕ) {v q : List ℕ} → Home h j c z → i ≡ j → Does (Unit {0}) (λ h. InBin h i c) (leaves i c) w r tt v q → Gave (Unit {0}) (leaves j c h) tt w v q
  unlink-known-gave j i c z {v} {q} m e d =
      (subst (λ (k : ℕ). Does (Unit {0}) (λ h. InBin h k c) (leaves k c) w r tt v q) e d).does h o (home-in h j c z m)

  -- between two chunks the record stays as it is
  pub unlink-inner-gave : (j c n p : ℕ) (v₁ v : List ℕ) → InBin h j c → n ≡ get_or w (fwd_word c) 0 → p ≡ get_or w (back_word c) 0 → (p ≡ none64 → ⊥) → (n ≡ none64 → ⊥)
      → v₁ ≡ put (fwd p n) w → v ≡ put (back n p) v₁ → Gave (Unit {0}) (leaves j c h) tt w v r
  unlink-inner-gave j c n p v₁ v m en ep sp sn e₁ e =
      unlink-gave j c n p v₁ v r r m en ep (e₁ ∙ sym (link_fwd-some w p n sp)) (sym (link_end-some r (bin_first j) p n sp)) (e ∙ sym (link_back-some v₁ n p sn)) (sym (link_end-some r (bin_last j) n p sn))

-- ---- what the calls ask, over the arena's bytes
pub gap-ready : (h : Heap) (a r : List ℕ) (j : ℕ) (xs ys : List ℕ) (p n : ℕ) → Ok h (arena_words a) r → Gap h j xs ys p n → Ready (length a) p n
gap-ready h a r j xs ys p n o g =
    rw (g.left, g.right) (ready a xs ys (gap-low h (arena_words a) r o j xs ys p n g) (gap-high h (arena_words a) r o j xs ys p n g))

pub home-ready : (h : Heap) (a r : List ℕ) (j c n p : ℕ) → Ok h (arena_words a) r → 1 ≤ cnt c (bin h j)
    → n ≡ get_or (arena_words a) (fwd_word c) 0 → p ≡ get_or (arena_words a) (back_word c) 0 → Ready (length a) p n
home-ready h a r j c n p o mc en ep =
    let k = around h (arena_words a) r o j c mc in
    rw (ep, k.prev, en, k.next) (ready a (pre c (bin h j)) (post c (bin h j)) k.low k.high)

pub home-inside : (h : Heap) (a r : List ℕ) (j c : ℕ) → Ok h (arena_words a) r → 1 ≤ cnt c (bin h j) → Inside (length a) c
home-inside h a r j c o mc = in_bytes a c (ok-bin h (arena_words a) r o j c mc)
