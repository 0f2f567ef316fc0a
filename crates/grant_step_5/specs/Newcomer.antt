-- Where a newcomer goes in a bin, as the code walks it: what is behind the walk and what is ahead, one lemma for each way out of a turn. The measure is
-- how many chunks are ahead, read along the links. Assumes nothing.
use Rattle.std.specs.Prelude.{◌≡◌, refl, List, [], ◌∷◌, ◌++◌, ℕ, ◌+◌, ◌≤◌, ◌<◌, length, get_or}
use Rattle.std.proofs.Common.{sym, ◌∙◌, subst, append_assoc, append-nil, arith, eq-eqb, ne_eqb, lt-ltb, le-ltb}
use Rattle.std.proofs.Math.Path.{ap}
use Rattle.le.specs.Arena.{arena_words}
use Rattle.sizes.specs.Limits.{none64, large}
use Rattle.sizes.specs.Layout.{bin_first, fwd_word}
use Rattle.sizes.specs.Sizes.{bin_of}
use Rattle.sizes.specs.BinLaws.{bin_of-bounds}
use Rattle.machine.specs.Lists.{hd, lst, cnt}
use Rattle.machine.specs.Count.{cnt-append, cnt-here, cnt-le-all}
use Rattle.machine.specs.Heap.{Heap, bin, size_of}
use Rattle.machine.specs.Primitives.{link_in, put_first}
use Rattle.machine.specs.Grant.{front, behind, sort_in}
use Rattle.machine.specs.View.{up, size_at, chunks_from}
use Rattle.sound.specs.Relation.{links, Loose}
use Rattle.sound.specs.Edits.{size_32}
use Rattle.sound.specs.Lists.{lst-append, links-split, links-chain}
use Rattle.sound.specs.Sort.{front-behind}
use Rattle.primitives.specs.Follow.{Ok, Gave, Does}
use Rattle.primitives.specs.FollowLaws.{gave-by}
use Rattle.primitives.specs.Places.{Gap}
use Rattle.primitives.specs.Linked.{Fits}
use Rattle.primitives.specs.Chunks.{Chunk, Chunks, Inside, in_bytes, list-short, walk-list}
use Rattle.primitives.specs.Sizes.{chunk-says}
use Rattle.primitives.specs.Bins.{ok-bin, first-gap, hd-nil}

-- p and n are the neighbours that a newcomer of size z gets in bin j, whichever heap it is
abbrev pub Goes : ℕ → ℕ → ℕ → ℕ → List ℕ → List ℕ → Type 0
Goes j z p n w r = (h : Heap) → Ok h w r → Gap h j (front (λ x. size_of h x) z (bin h j)) (behind (λ x. size_of h x) z (bin h j)) p n

-- ---- the two parts by the tests
module _ (f : ℕ → ℕ) (z x : ℕ) (l : List ℕ) where
  smaller : f x < z → (front f z (x ∷ l) ≡ []) × (behind f z (x ∷ l) ≡ x ∷ l)
  smaller k = let t = lt-ltb (f x) z k in (rw (t, front), rw (t, behind))

  equal : f x ≡ z → (front f z (x ∷ l) ≡ x ∷ []) × (behind f z (x ∷ l) ≡ l)
  equal e = let t = le-ltb (f x) z (omega arith) in let u = eq-eqb (f x) z e in (rw (t, front) (rw u), rw (t, behind) (rw u))

  larger : z ≤ f x → (f x ≡ z → ⊥) → (front f z (x ∷ l) ≡ x ∷ front f z l) × (behind f z (x ∷ l) ≡ behind f z l)
  larger k e = let t = le-ltb (f x) z k in let u = ne_eqb (f x) z e in (rw (t, front) (rw u), rw (t, behind) (rw u))

-- ---- the walk at n, after p: xs are behind it, ys are ahead
pub record On (h : Heap) (j z p n : ℕ) : Type 0 where
  pub xs : List ℕ
  pub ys : List ℕ
  pub gap : Gap h j xs ys p n
  pub before : front (λ x. size_of h x) z (bin h j) ≡ xs ++ front (λ x. size_of h x) z ys
  pub after : behind (λ x. size_of h x) z (bin h j) ≡ behind (λ x. size_of h x) z ys

abbrev pub Walking : ℕ → ℕ → ℕ → ℕ → List ℕ → List ℕ → Type 0
Walking j z p n w r = (h : Heap) → Ok h w r → On h j z p n

pub on-start : (h : Heap) (w r : List ℕ) (j z at v : ℕ) → Ok h w r → 1 ≤ j → j ≤ 126 → at ≡ bin_first j → v ≡ up (get_or r at 0) → On h j z none64 v
on-start h w r j z at v o low high d e = record { xs = []; ys = bin h j; gap = first-gap h w r o j at v low high d e; before = refl; after = refl }

-- the chunk that the walk is at
pub record Here (h : Heap) (w : List ℕ) (n : ℕ) (ys : List ℕ) : Type 0 where
  pub past : List ℕ
  pub list : ys ≡ n ∷ past
  pub chunk : Chunk w n
  pub next : get_or w (fwd_word n) 0 ≡ hd none64 past
  pub size : size_at w n ≡ size_of h n

module _ (h : Heap) (w r : List ℕ) (j z p n : ℕ) (o : Ok h w r) (a : On h j z p n) where
  ahead-cnt : (x : ℕ) → cnt x (bin h j) ≡ cnt x a.xs + cnt x a.ys
  ahead-cnt x = ap (cnt x) a.gap.parts ∙ cnt-append x a.xs a.ys

  ahead-chunks : Chunks w a.ys
  ahead-chunks x i = ok-bin h w r o j x (omega (arith, ahead-cnt x))

  ahead-links : links w (lst none64 a.xs) a.ys none64
  ahead-links = (links-split w none64 a.xs a.ys none64 (subst (λ (l : List ℕ). links w none64 l none64) a.gap.parts (o.mem.blinks j))).1

  pub here : (n ≡ none64 → ⊥) → Here h w n a.ys
  here ne = go a.ys a.gap.right ahead-chunks ahead-links (λ x i. omega (arith, ahead-cnt x))
    where
      go : (ys : List ℕ) → n ≡ hd none64 ys → Chunks w ys → links w (lst none64 a.xs) ys none64 → ((x : ℕ) → 1 ≤ cnt x ys → 1 ≤ cnt x (bin h j)) → Here h w n ys
      go [] e k l i = absurd (ne e)
      go (y ∷ ys) e k l i = subst (λ (n : ℕ). Here h w n (y ∷ ys)) (sym e)
          (record {
            past = ys;
            list = refl;
            chunk = k y (cnt-here y ys);
            next = l.0;
            size = (chunk-says h o.shape w o.mem y (omega (arith, o.shape.own y, i y (cnt-here y ys), cnt-le-all y h.bins j))).size;
          })

  abbrev Front : List ℕ
  Front = front (λ x. size_of h x) z (bin h j)

  abbrev Behind : List ℕ
  Behind = behind (λ x. size_of h x) z (bin h j)

  -- the walk ends: at the end, at a smaller chunk, behind an equal one
  pub goes_end : n ≡ none64 → Gap h j Front Behind p n
  goes_end e =
      let nil : a.ys ≡ [] = hd-nil w a.ys ahead-chunks (sym a.gap.right ∙ e) in
      record {
        parts = front-behind (λ x. size_of h x) z (bin h j);
        left = a.gap.left ∙ sym (ap (lst none64) (a.before ∙ ap (λ (k : List ℕ). a.xs ++ front (λ x. size_of h x) z k) nil ∙ append-nil a.xs));
        right = e ∙ sym (ap (hd none64) (a.after ∙ ap (behind (λ x. size_of h x) z) nil));
      }

  front_at : (l : List ℕ) → a.ys ≡ n ∷ l → Front ≡ a.xs ++ front (λ x. size_of h x) z (n ∷ l)
  front_at l e = a.before ∙ ap (λ (k : List ℕ). a.xs ++ front (λ x. size_of h x) z k) e

  behind-at : (l : List ℕ) → a.ys ≡ n ∷ l → Behind ≡ behind (λ x. size_of h x) z (n ∷ l)
  behind-at l e = a.after ∙ ap (behind (λ x. size_of h x) z) e

  module _ (ne : n ≡ none64 → ⊥) (s : ℕ) (es : s ≡ size_at w n) where
    pub goes-smaller : s < z → Gap h j Front Behind p n
    goes-smaller l =
        let H = here ne in
        let t = smaller (λ x. size_of h x) z n H.past (omega (arith, H.size)) in
        record {
          parts = front-behind (λ x. size_of h x) z (bin h j);
          left = a.gap.left ∙ sym (ap (lst none64) (front_at H.past H.list ∙ ap (λ (k : List ℕ). a.xs ++ k) t.0 ∙ append-nil a.xs));
          right = sym (ap (hd none64) (behind-at H.past H.list ∙ t.1));
        }

    module _ (x : ℕ) (ex : x ≡ get_or w (fwd_word n) 0) where
      pub goes-equal : s ≡ z → Gap h j Front Behind n x
      goes-equal e =
          let H = here ne in
          let t = equal (λ x. size_of h x) z n H.past (sym H.size ∙ sym es ∙ e) in
          record {
            parts = front-behind (λ x. size_of h x) z (bin h j);
            left = sym (ap (lst none64) (front_at H.past H.list ∙ ap (λ (k : List ℕ). a.xs ++ k) t.0) ∙ lst-append none64 a.xs (n ∷ []));
            right = ex ∙ H.next ∙ sym (ap (hd none64) (behind-at H.past H.list ∙ t.1));
          }

      -- the walk goes on
      pub on-next : z ≤ s → (s ≡ z → ⊥) → On h j z n x
      on-next l nq =
          let H = here ne in
          let t = larger (λ x. size_of h x) z n H.past (omega (arith, H.size)) (λ e. nq (es ∙ H.size ∙ e)) in
          record {
            xs = a.xs ++ n ∷ [];
            ys = H.past;
            gap = record {
              parts = a.gap.parts ∙ ap (λ (k : List ℕ). a.xs ++ k) H.list ∙ sym (append_assoc a.xs (n ∷ []) H.past);
              left = sym (lst-append none64 a.xs (n ∷ []));
              right = ex ∙ H.next;
            };
            before = front_at H.past H.list ∙ ap (λ (k : List ℕ). a.xs ++ k) t.0 ∙ sym (append_assoc a.xs (n ∷ []) (front (λ x. size_of h x) z H.past));
            after = behind-at H.past H.list ∙ t.1;
          }

-- ---- the measure: the chunks from n on
unfoldable pub ahead : List ℕ → ℕ → ℕ
ahead w n = length (chunks_from (length w) w n)

pub ahead-is : (h : Heap) (w r : List ℕ) (j z p n : ℕ) → Ok h w r → (a : On h j z p n) → ahead w n ≡ length a.ys
unfolding ahead
ahead-is h w r j z p n o a =
    ap (λ (m : ℕ). length (chunks_from (length w) w m)) a.gap.right
    ∙ ap length (walk-list 1 (length w) w a.ys
    (list-short h w o.shape o.mem a.ys (λ x. omega (arith, ahead-cnt h w r j z p n o a x, cnt-le-all x h.bins j, o.shape.own x)))
    (ahead-chunks h w r j z p n o a) (links-chain w (lst none64 a.xs) a.ys (ahead-links h w r j z p n o a)))

pub ahead-less : (h : Heap) (w r : List ℕ) (j z p n : ℕ) → Ok h w r → (a : On h j z p n) → (ne : n ≡ none64 → ⊥) (s : ℕ) → s ≡ size_at w n → (x : ℕ) → x ≡ get_or w (fwd_word n) 0
    → z ≤ s → (s ≡ z → ⊥) → ahead w x < ahead w n
unfolding on-next
ahead-less h w r j z p n o a ne s es x ex l nq =
    omega (arith, ahead-is h w r j z p n o a, ahead-is h w r j z n x o (on-next h w r j z p n o a ne s es x ex l nq), ap length (here h w r j z p n o a ne).list)

-- how many chunks bin j has
pub ahead-first : (h : Heap) (w r : List ℕ) (j : ℕ) → Ok h w r → 1 ≤ j → j ≤ 126 → ahead w (up (get_or r (bin_first j) 0)) ≡ length (bin h j)
unfolding on-start
ahead-first h w r j o low high = ahead-is h w r j 0 none64 (up (get_or r (bin_first j) 0)) o (on-start h w r j 0 (bin_first j) (up (get_or r (bin_first j) 0)) o low high refl refl)

-- where the walk is, in the bytes
pub here-inside : (h : Heap) (a r : List ℕ) (j z p n : ℕ) → Ok h (arena_words a) r → On h j z p n → (n ≡ none64 → ⊥) → Inside (length a) n
here-inside h a r j z p n o w ne = in_bytes a n (here h (arena_words a) r j z p n o w ne).chunk

-- ---- the newcomer c, of size z, goes into its bin
pub own-low : (h : Heap) (w r : List ℕ) (c z : ℕ) → Ok h w r → Loose h c → size_of h c ≡ z → 2 ≤ bin_of z
own-low h w r c z o lo e = (bin_of-bounds z (omega (arith, e, size_32 h c o.shape (omega arith)))).0

module _ (h : Heap) (w r : List ℕ) (c z j : ℕ) (v q : List ℕ) (o : Ok h w r) (lo : Loose h c) (sz : size_of h c ≡ z) (ej : j ≡ bin_of z) where
  own-bin : bin_of (size_of h c) ≡ j
  own-bin = ap bin_of sz ∙ sym ej

  pub sort-small-gave : z < 1024 → Does (Unit {0}) (λ h. Loose h c) (put_first j c) w r tt v q → Gave (Unit {0}) (sort_in c h) tt w v q
  unfolding sort_in
  sort-small-gave l d =
      gave-by (rw (lt-ltb (size_of h c) large (omega (arith, sz)), sort_in) (ap (λ (j : ℕ). put_first j c h) own-bin)) (d.does h o lo)

  pub sort-large-gave : 1024 ≤ z → (p n : ℕ) → Goes j z p n w r
      → ((h : Heap) (xs ys : List ℕ) → Ok h w r → Loose h c → Gap h j xs ys p n → Fits h j c → Gave (Unit {0}) (link_in j c xs ys h) tt w v q)
      → Gave (Unit {0}) (sort_in c h) tt w v q
  unfolding sort_in
  sort-large-gave l p n g d =
      gave-by
      (rw (le-ltb (size_of h c) large (omega (arith, sz)), sort_in)
      (ap (λ (j : ℕ). link_in j c (front (λ x. size_of h x) (size_of h c) (bin h j)) (behind (λ x. size_of h x) (size_of h c) (bin h j)) h) own-bin
      ∙ ap (λ (s : ℕ). link_in j c (front (λ x. size_of h x) s (bin h j)) (behind (λ x. size_of h x) s (bin h j)) h) sz))
      (d h (front (λ x. size_of h x) z (bin h j)) (behind (λ x. size_of h x) z (bin h j)) o lo (g h o) (λ y. omega (arith, sz)))
