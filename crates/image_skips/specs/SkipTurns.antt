-- The loops that write the skip links, turn by turn: the words now, with those still to come, are the words at the end. All along the words and the record
-- are those of the heap but for its skip links. Assumes nothing.
use Rattle.std.specs.Prelude.{◌≡◌, refl, List, [], ◌∷◌, ◌++◌, ℕ, suc, ◌+◌, ◌-◌, ◌/◌, ◌%◌, ◌≤◌, ◌<◌, get_or}
use Rattle.std.proofs.Common.{sym, ◌∙◌, subst, ⊎_elim, arith}
use Rattle.std.proofs.Math.Path.{ap}
use Rattle.std.proofs.Math.ListN.{length}
use Rattle.le.specs.Arena.{arena_words}
use Rattle.sizes.specs.Limits.{none64, unsorted}
use Rattle.sizes.specs.Layout.{bin_first, fwd_word}
use Rattle.machine.specs.Lists.{hd, tl, cnt}
use Rattle.machine.specs.Count.{eq?, ind-other, cnt-le-all}
use Rattle.machine.specs.Heap.{Heap, bin, starts, size_of}
use Rattle.machine.specs.Writes.{Write, apply}
use Rattle.machine.specs.Skips.{ring, put_skips, all_put}
use Rattle.machine.specs.View.{size_at, up}
use Rattle.sound.specs.Relation.{SoundBy}
use Rattle.sound.specs.Frames.{chain-cong, apply-append, in-starts}
use Rattle.sound.specs.Rings.{SkipW, skip-more, put-w, skip-low, skip-links-mem}
use Rattle.skip_links.specs.Walk.{Walk}
use Rattle.skip_links.specs.WalkTurn.{Rest, left, rest-left, rest_end, rest_more, rest_in, rest-next, walk-bytes}
use Rattle.primitives.specs.Linked.{Linked, HasLinks}
use Rattle.primitives.specs.Rings.{size-says, bin-walk, linked-first}
use Rattle.image_skips.specs.Skips.{rings_from, skips_of}
use Rattle.image_skips.specs.SkipsLaws.{bin-sub, puts-w, ring_in}

-- ---- skip links of chunks of the heap are written
still-linked : (h : Heap) (w r : List ℕ) (ws : List Write) {u : List ℕ} → Linked h w r → SkipW (λ x. size_of h x) (starts h) ws → u ≡ apply ws w → Linked h u r
still-linked h w r ws o kw e =
    subst (λ (u : List ℕ). Linked h u r) (sym e) (record { shape = o.shape; mem = skip-links-mem h o.shape w (starts h) ws o.mem kw (λ x m. m); rec = o.rec })

-- ---- unsorted: with all ones for the large chunks from x on the words w are v
pub record Putting (h : Heap) (r v w : List ℕ) (x : ℕ) : Type 0 where
  pub linked : Linked h w r
  pub rest : List ℕ
  pub on : Rest w (bin h unsorted) x rest
  pub same : apply (all_put (λ y. size_of h y) rest) w ≡ v

pub putting-start : (h : Heap) (w r : List ℕ) (at x : ℕ) → Linked h w r → at ≡ bin_first unsorted → x ≡ up (get_or r at 0)
    → Putting h r (apply (all_put (λ y. size_of h y) (bin h unsorted)) w) w x
putting-start h w r at x o e g = record {
  linked = o;
  rest = bin h unsorted;
  on = record {
    first = g ∙ ap (λ (i : ℕ). up (get_or r i 0)) e ∙ linked-first h w r o unsorted (omega arith) (omega arith);
    chained = (bin-walk h w r o unsorted).chained;
    part = λ y. omega arith;
  };
  same = refl;
}

module _ {h : Heap} {r v w : List ℕ} {x : ℕ} (P : Putting h r v w x) where
  W : Walk w (hd none64 (bin h unsorted)) (bin h unsorted)
  W = bin-walk h w r P.linked unsorted

  pub putting-end : x ≡ none64 → w ≡ v
  putting-end e = ap (λ (l : List ℕ). apply (all_put (λ y. size_of h y) l) w) (sym (rest_end W x P.rest P.on e)) ∙ P.same

  pub putting-in : (x ≡ none64 → ⊥) → 1 ≤ cnt x (bin h unsorted)
  putting-in e = rest_in W x P.rest P.on e

  pub putting-size : (x ≡ none64 → ⊥) → size_at w x ≡ size_of h x
  putting-size e = size-says h w r P.linked x (bin-sub h P.linked.shape unsorted x (putting-in e))

  -- a turn: the chunk at x has all ones, if it is large, and the words are u; y is its link
  module _ {u : List ℕ} {y : ℕ} (e : x ≡ none64 → ⊥) (eu : u ≡ apply (put_skips (λ y. size_of h y) x) w) (ey : y ≡ get_or u (fwd_word x) 0) where
    put_in : SkipW (λ y. size_of h y) (starts h) (put_skips (λ y. size_of h y) x)
    put_in = skip-more (λ y. size_of h y) (x ∷ []) (starts h) (put_skips (λ y. size_of h y) x) (λ z m. ⊎_elim (λ q. rw q (bin-sub h P.linked.shape unsorted x (putting-in e))) (λ q. absurd (omega (arith, m, ind-other z x q))) (eq? z x)) (put-w (λ y. size_of h y) x)

    low : (z i : ℕ) → 1 ≤ cnt z (bin h unsorted) → i < 4 → get_or u (z / 8 + i) 0 ≡ get_or w (z / 8 + i) 0
    low z i m hi =
        ap (λ (u : List ℕ). get_or u (z / 8 + i) 0) eu
        ∙ skip-low h P.linked.shape (starts h) (put_skips (λ y. size_of h y) x) w z i put_in (λ x m. m)
        (in-starts h z P.linked.shape (omega (arith, cnt-le-all z h.bins unsorted))) hi

    next : Rest w (bin h unsorted) y (tl P.rest)
    next = rest-next W x y P.rest P.on e (ey ∙ low x 2 (putting-in e) (omega arith))

    pub putting-next : Putting h r v u y
    putting-next = record {
      linked = still-linked h w r (put_skips (λ y. size_of h y) x) P.linked put_in eu;
      rest = tl P.rest;
      on = record {
        first = next.first;
        chained = chain-cong 1 w u (tl P.rest) (λ z m. low z 2 (omega (arith, next.part z)) (omega arith)) next.chained;
        part = next.part;
      };
      same = ap (apply (all_put (λ y. size_of h y) (tl P.rest))) eu
          ∙ sym (apply-append (put_skips (λ y. size_of h y) x) (all_put (λ y. size_of h y) (tl P.rest)) w)
          ∙ ap (λ (l : List ℕ). apply (all_put (λ y. size_of h y) l) w) (sym (rest_more W x P.rest P.on e)) ∙ P.same;
    }

    pub putting-fewer : left u y < left w x
    unfolding putting-next
    putting-fewer =
        omega (arith, rest-left W x P.rest P.on, rest-left (bin-walk h u r putting-next.linked unsorted) y (tl P.rest) putting-next.on, ap length (rest_more W x P.rest P.on e))

-- where such a chunk lies among the bytes
pub putting-bytes : {h : Heap} {r v : List ℕ} (a : List ℕ) {x : ℕ} → Putting h r v (arena_words a) x → (x ≡ none64 → ⊥)
    → (x % 8 ≡ 0) × (x + 32 ≤ length a) × (32 ≤ size_at (arena_words a) x) × (x + size_at (arena_words a) x ≤ length a)
putting-bytes {h} {r} a {x} P e =
    let W = bin-walk h (arena_words a) r P.linked unsorted in
    let i = putting-in P e in
    let p = walk-bytes a W x i in
    (p.0, p.1, W.least x i, p.2)

-- ---- rings, bin after bin: with those of the bins from j on the words w are v
pub record RingsTo (j : ℕ) (h : Heap) (r v w : List ℕ) : Type 0 where
  pub linked : Linked h w r
  pub same : apply (rings_from (127 - j) j h) w ≡ v

pub rings-start : (h : Heap) (w r : List ℕ) → Linked h w r → RingsTo 64 h r (apply (rings_from 63 64 h) w) w
rings-start h w r o = record { linked = o; same = refl }

module _ {j : ℕ} {h : Heap} {r v w : List ℕ} (R : RingsTo j h r v w) where
  pub rings-next : {u : List ℕ} → 64 ≤ j → j ≤ 126 → u ≡ apply (ring (λ x. size_of h x) (bin h j)) w → RingsTo (j + 1) h r v u
  rings-next {u} l m e = record {
    linked = still-linked h w r (ring (λ x. size_of h x) (bin h j)) R.linked (ring_in h R.linked.shape j l) e;
    same = ap (apply (rings_from (127 - (j + 1)) (j + 1) h)) e
        ∙ sym (apply-append (ring (λ x. size_of h x) (bin h j)) (rings_from (127 - (j + 1)) (j + 1) h) w)
        ∙ ap (λ (i : ℕ). apply (ring (λ x. size_of h x) (bin h j) ++ rings_from (127 - (j + 1)) i h) w) n
        ∙ ap (λ (k : ℕ). apply (rings_from k j h) w) (sym k) ∙ R.same;
  }
    where
      n : j + 1 ≡ suc j
      n = omega arith

      k : 127 - j ≡ suc (127 - (j + 1))
      k = omega arith

  pub rings-end : 127 ≤ j → w ≡ v
  rings-end l = ap (λ (k : ℕ). apply (rings_from k j h) w) (sym none) ∙ R.same
    where
      none : 127 - j ≡ 0
      none = omega arith

-- ---- both
pub puts-linked : (h : Heap) (w r : List ℕ) {u : List ℕ} → Linked h w r → u ≡ apply (all_put (λ x. size_of h x) (bin h unsorted)) w → Linked h u r
puts-linked h w r o e = still-linked h w r (all_put (λ x. size_of h x) (bin h unsorted)) o (puts-w h o.shape) e

pub skips-both : (h : Heap) (w r : List ℕ) {u v : List ℕ} → Linked h w r → u ≡ apply (all_put (λ x. size_of h x) (bin h unsorted)) w
    → (Linked h u r → v ≡ apply (rings_from 63 64 h) u) → v ≡ apply (skips_of h) w
skips-both h w r o e f =
    f (puts-linked h w r o e)
    ∙ ap (apply (rings_from 63 64 h)) e ∙ sym (apply-append (all_put (λ x. size_of h x) (bin h unsorted)) (rings_from 63 64 h) w)

-- ---- a heap that is sound by the rules of version 2 has the links, and it is that heap whose skip links are written
sound-linked : (h : Heap) (w r : List ℕ) → SoundBy 2 h w r → Linked h w r
sound-linked h w r o = record { shape = o.good.shape; mem = o.mem; rec = o.rec }

pub sound-links : (h : Heap) (w r : List ℕ) → SoundBy 2 h w r → HasLinks (λ h. Unit {0}) w r
sound-links h w r o = record { heap = h; linked = sound-linked h w r o; holds = tt }

pub sound-skips : (h : Heap) (w r : List ℕ) {v : List ℕ} → SoundBy 2 h w r → ((h : Heap) → Linked h w r → v ≡ apply (skips_of h) w) → v ≡ apply (skips_of h) w
sound-skips h w r o k = k h (sound-linked h w r o)
