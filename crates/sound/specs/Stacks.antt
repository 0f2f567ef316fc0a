-- Push, pop, and the cache's push and take keep a sound heap and its words. They write the links' words of a chunk that no list has, which no list asks for
-- (loose-mem). Assumes nothing.
use Rattle.std.specs.Prelude.{◌≡◌, refl, List, [], ◌∷◌, ℕ, ◌≤◌, ◌<◌, length, get_or}
use Rattle.std.proofs.Common.{sym, ap, ◌∙◌, ⊎_elim, arith, length-set}
use Rattle.sizes.specs.Limits.{cache_room, most_fast, none64}
use Rattle.sizes.specs.Layout.{fwd_word, key_word}
use Rattle.machine.specs.Lists.{hd, tl, cnt}
use Rattle.machine.specs.Mixing.{stored}
use Rattle.machine.specs.Count.{eq?, ind-same, ind-other, cnt-here, cnt_all-set, cnt-le-all}
use Rattle.machine.specs.Heap.{Heap, stack, bin, with_stack, size_of, total}
use Rattle.machine.specs.Writes.{Write, put, apply, heap_of, does, link, key}
use Rattle.machine.specs.Primitives.{push, pop, push_cache, take_cache}
use Rattle.sound.specs.Relation.{all, chain_by, Mem, Shape, Loose, stack_size, Good}
use Rattle.sound.specs.Frames.{Agree, chain-cong, links-cong, set_cases, Starts, starts-all, Grid, grid, Sub, apply-length, put-length, put_other, put_same, agree, LinkW, link-low, link-out, tiles-agree, in-starts}
use Rattle.sound.specs.Rings.{link-low-w, low-skips}
use Rattle.sound.specs.Ends.{Ends}

cnt-tl : (x : ℕ) (l : List ℕ) → cnt x (tl l) ≤ cnt x l
cnt-tl x [] = omega arith
cnt-tl x (y ∷ l) = omega arith

chain-tl : (d : ℕ) (w l : List ℕ) → chain_by d w l → chain_by d w (tl l)
chain-tl d w [] c = tt
chain-tl d w (x ∷ l) c = c.1

length-tl : (l : List ℕ) → length (tl l) ≤ length l
length-tl [] = omega arith
length-tl (x ∷ l) = omega arith

pub pop-ends : (h : Heap) (w : List ℕ) (k : ℕ) → k < 74 → Good h → Mem h w → Ends (pop k h) w Good
pop-ends h w k hk g m =
    let s = g.shape in
    let o = g.homes in
    let l : List ℕ = tl (stack h k) in
    let hk' : k < length h.stacks = omega (arith, s.stacked74) in
    record {
      mem = record {
        long = m.long;
        words = m.words;
        blinks = m.blinks;
        chains = λ j. set_cases (chain_by h.edition w) h.stacks k l j hk' (λ e. chain-tl h.edition w (stack h k) (m.chains k)) (λ e. m.chains j);
        keys = λ z j x p. set_cases (λ l. 1 ≤ cnt x l → get_or w (key_word x) 0 ≡ h.key) h.stacks k l j hk'
            (λ e i. m.keys z j x p (rw e (omega (arith, cnt-tl x (stack h k))))) (λ e. m.keys z j x p);
        key64 = m.key64;
        edited = m.edited;
        skipped = m.skipped;
      };
      now = record {
        shape = record {
          small = s.small;
          sizes = s.sizes;
          stacked74 = length-set h.stacks k l ∙ s.stacked74;
          binned127 = s.binned127;
          own = λ x. omega (arith, s.own x, cnt-tl x (stack h k), cnt_all-set x h.stacks k l hk');
          roomy = s.roomy;
        };
        homes = record {
          stacked = λ j x. set_cases (λ l. 1 ≤ cnt x l → size_of h x ≡ stack_size j) h.stacks k l j hk'
              (λ e i. o.stacked j x (rw e (omega (arith, cnt-tl x (stack h k))))) (λ e. o.stacked j x);
          quick = λ j x p. set_cases (λ l. 1 ≤ cnt x l → size_of h x ≤ most_fast) h.stacks k l j hk'
              (λ e i. o.quick j x p (rw e (omega (arith, cnt-tl x (stack h k))))) (λ e. o.quick j x p);
          short = λ j p. set_cases (λ l. length l ≤ cache_room) h.stacks k l j hk'
              (λ e. omega (arith, length-tl (stack h k), o.short k (rw e at p))) (λ e. o.short j p);
          none = o.none;
          sorted = o.sorted;
          falling = o.falling;
        };
        flag = g.flag;
      };
    }

-- ---- words 2 and 3 of a chunk that no list has
pub loose-mem : (h : Heap) (w : List ℕ) (c : ℕ) (ws : List Write) → Shape h → Mem h w → Loose h c → LinkW (c ∷ []) ws → Mem h (apply ws w)
loose-mem h w c ws s m lo lw =
    let S : List ℕ = Starts h in
    let v : List ℕ = apply ws w in
    let G : Grid S (length w) = grid h (length w) s.sizes m.long in
    let mc : 1 ≤ cnt c S = omega (arith, starts-all h c) in
    let zc : (y : ℕ) → 1 ≤ cnt y (c ∷ []) → total y h ≡ 0 = λ y i. ⊎_elim
    (λ q. rw q (omega (arith, lo, starts-all h c, G.once c))) (λ q. absurd (omega (arith, ind-other y c q))) (eq? y c) in
    let sc : Sub (c ∷ []) S = λ y i. ⊎_elim (λ q. rw q mc) (λ q. absurd (omega (arith, ind-other y c q))) (eq? y c) in
    let ag : (i : ℕ) (z : List ℕ) → i < 4 → ((y : ℕ) → cnt y z ≤ total y h) → Agree w v i z = λ i z hi sub.
    agree S (length w) G ws w i z hi (λ y k. in-starts h y s (omega (arith, sub y)))
    (link-out S (c ∷ []) z i ws sc (λ y k. omega (arith, zc y k, sub y)) lw) in
    record {
      long = rw apply-length m.long;
      words = tiles-agree w v 0 (all h)
          (agree S (length w) G ws w 0 S (omega arith) (λ x k. k) (link-low S (c ∷ []) S 0 ws sc (omega arith) lw))
          (agree S (length w) G ws w 1 S (omega arith) (λ x k. k) (link-low S (c ∷ []) S 1 ws sc (omega arith) lw)) m.words;
      chains = λ j. chain-cong h.edition w v (stack h j) (ag 2 (stack h j) (omega arith) (λ y. omega (arith, cnt-le-all y h.stacks j))) (m.chains j);
      blinks = λ j. links-cong w v none64 (bin h j) none64
          (ag 2 (bin h j) (omega arith) (λ y. omega (arith, cnt-le-all y h.bins j)))
          (ag 3 (bin h j) (omega arith) (λ y. omega (arith, cnt-le-all y h.bins j))) (m.blinks j);
      keys = λ z j x p i. ag 3 (stack h j) (omega arith) (λ y. omega (arith, cnt-le-all y h.stacks j)) x i ∙ m.keys z j x p i;
      key64 = m.key64;
      edited = m.edited;
      skipped = λ z. low-skips h s ws w (link-low-w h s (c ∷ []) ws sc lw) (m.skipped z);
    }

-- ---- c, which no list has, goes on stack k; its words are v's, with its link, and in the cache the key
pushed-ends : (h : Heap) (w : List ℕ) (k c : ℕ) (ws : List Write) → k < 74 → Good h → Mem h w → Loose h c → size_of h c ≡ stack_size k → (64 ≤ k → size_of h c ≤ 128)
    → (k < 64 → length (stack h k) < 7) → LinkW (c ∷ []) ws → get_or (apply ws w) (fwd_word c) 0 ≡ stored h.edition c (hd none64 (stack h k))
    → (k < 64 → get_or (apply ws w) (key_word c) 0 ≡ h.key) → Ends (does (with_stack k (c ∷ stack h k) h) ws) w Good
pushed-ends h w k c ws hk g m lo sz qk sh lw el ek =
    let s = g.shape in
    let o = g.homes in
    let l : List ℕ = c ∷ stack h k in
    let hk' : k < length h.stacks = omega (arith, s.stacked74) in
    let v : List ℕ = apply ws w in
    let n : Mem h v = loose-mem h w c ws s m lo lw in
    record {
      mem = record {
        long = n.long;
        words = n.words;
        chains = λ j. set_cases (chain_by h.edition v) h.stacks k l j hk' (λ e. (el, n.chains k)) (λ e. n.chains j);
        blinks = n.blinks;
        keys = λ z j x p. set_cases (λ l. 1 ≤ cnt x l → get_or v (key_word x) 0 ≡ h.key) h.stacks k l j hk'
            (λ e i. ⊎_elim (λ q. ap (λ (y : ℕ). get_or v (key_word y) 0) q ∙ ek (rw e at p))
            (λ (q : x ≡ c → ⊥). n.keys z j x p (rw e (omega (arith, ind-other x c q)))) (eq? x c))
            (λ e. n.keys z j x p);
        key64 = n.key64;
        edited = n.edited;
        skipped = n.skipped;
      };
      now = record {
        shape = record {
          small = s.small;
          sizes = s.sizes;
          stacked74 = length-set h.stacks k l ∙ s.stacked74;
          binned127 = s.binned127;
          own = λ x. ⊎_elim
              (λ q. rw q (omega (arith, ind-same c, cnt_all-set c h.stacks k l hk')))
              (λ q. omega (arith, ind-other x c q, s.own x, cnt_all-set x h.stacks k l hk')) (eq? x c);
          roomy = s.roomy;
        };
        homes = record {
          stacked = λ j x. set_cases (λ l. 1 ≤ cnt x l → size_of h x ≡ stack_size j) h.stacks k l j hk'
              (λ e i. ⊎_elim (λ q. ap (size_of h) q ∙ sz ∙ ap stack_size (sym e))
              (λ (q : x ≡ c → ⊥). o.stacked j x (rw e (omega (arith, ind-other x c q)))) (eq? x c))
              (λ e. o.stacked j x);
          quick = λ j x p. set_cases (λ l. 1 ≤ cnt x l → size_of h x ≤ most_fast) h.stacks k l j hk'
              (λ e i. ⊎_elim (λ q. omega (arith, ap (size_of h) q, qk (rw e at p)))
              (λ (q : x ≡ c → ⊥). o.quick j x p (rw e (omega (arith, ind-other x c q)))) (eq? x c))
              (λ e. o.quick j x p);
          short = λ j p. set_cases (λ l. length l ≤ cache_room) h.stacks k l j hk' (λ e. omega (arith, sh (rw e at p))) (λ e. o.short j p);
          none = o.none;
          sorted = o.sorted;
          falling = o.falling;
        };
        flag = g.flag;
      };
    }

-- the only write: its link
link-words : (c x : ℕ) → LinkW (c ∷ []) (link c x ∷ [])
link-words c x = (omega arith, cnt-here c [], tt)

pub push-ends : (h : Heap) (w : List ℕ) (k c : ℕ) → 64 ≤ k → k < 74 → Good h → Mem h w → Loose h c → size_of h c ≡ stack_size k → size_of h c ≤ 128 → Ends (push k c h) w Good
push-ends h w k c lk hk g m lo sz q =
    let G : Grid (Starts h) (length w) = grid h (length w) g.shape.sizes m.long in
    pushed-ends h w k c (link c (stored h.edition c (hd none64 (stack h k))) ∷ []) hk g m lo sz (λ z. q) (λ z. absurd (omega arith)) (link-words c (stored h.edition c (hd none64 (stack h k))))
    (put_same (Starts h) (length w) G (link c (stored h.edition c (hd none64 (stack h k)))) (omega arith) w refl (omega (arith, starts-all h c)))
    (λ z. absurd (omega arith))

-- ---- the cache: the key behind the link
pub push_cache-ends : (h : Heap) (w : List ℕ) (k c : ℕ) → k < 64 → Good h → Mem h w → Loose h c → size_of h c ≡ stack_size k → length (stack h k) < 7 → Ends (push_cache k c h) w Good
push_cache-ends h w k c hk g m lo sz sh =
    let S : List ℕ = Starts h in
    let G : Grid S (length w) = grid h (length w) g.shape.sizes m.long in
    let mc : 1 ≤ cnt c S = omega (arith, starts-all h c) in
    let x : ℕ = stored h.edition c (hd none64 (stack h k)) in
    let w₁ : List ℕ = put (link c x) w in
    pushed-ends h w k c (link c x ∷ key c h.key ∷ []) (omega arith) g m lo sz (λ z. absurd (omega arith)) (λ z. sh)
    (omega arith, cnt-here c [], (omega arith, cnt-here c [], tt))
    (put_other S (length w) G (key c h.key) (omega arith) w₁ c 2 mc mc (omega arith) (λ _ q. absurd (omega (arith, q))) ∙ put_same S (length w) G (link c x) (omega arith) w refl mc)
    (λ z. put_same S (length w) G (key c h.key) (omega arith) w₁ (put-length (link c x) w) mc)

-- a head that was taken is loose, and has 0 where the key was
pub popped-loose : (h : Heap) (k c : ℕ) (l : List ℕ) → k < 74 → Shape h → stack h k ≡ c ∷ l → Loose (heap_of (pop k h)) c
popped-loose h k c l hk s e = omega (
  arith,
  s.own c,
  ap (cnt c) e,
  ap (λ (l : List ℕ). cnt c (tl l)) e,
  ind-same c,
  cnt_all-set c h.stacks k (tl (stack h k)) (omega (arith, s.stacked74)),
)

pub take_cache-ends : (h : Heap) (w : List ℕ) (k c : ℕ) (l : List ℕ) → k < 64 → Good h → Mem h w → stack h k ≡ c ∷ l → Ends (take_cache k h) w Good
take_cache-ends h w k c l hk g m e =
    let E = pop-ends h w k (omega arith) g m in
    let z : hd none64 (stack h k) ≡ c = ap (hd none64) e in
    record {
      mem = loose-mem (heap_of (pop k h)) w c (key (hd none64 (stack h k)) 0 ∷ []) E.now.shape E.mem (popped-loose h k c l (omega arith) g.shape e)
          (omega arith, rw z (cnt-here c []), tt);
      now = E.now;
    }
