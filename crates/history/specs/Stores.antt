-- A holder's write in a usable byte of a block that it holds leaves the same heap: it changes one word, and that is a usable word of a live block.
-- Assumes nothing.
use Rattle.std.specs.Prelude.{◌≡◌, refl, List, [], ◌∷◌, Bool, true, false, ◌⊎◌, ℕ, ◌+◌, ◌-◌, ◌*◌, ◌/◌, ◌%◌, ◌≤◌, ◌<◌, ltb, leb, length, get_or, set}
use Rattle.std.proofs.Common.{sym, ap, ◌∙◌, subst, inl, inr, ⊎_elim, add-zero, arith, length-set, get_or-set_same, get_or-set_other, leb-true, ltb-true}
use Rattle.std.proofs.Math.ListN.{get_or-eq_default}
use Rattle.std.proofs.Math.Seq.{set_out}
use Rattle.le.specs.Number.{put_from, put}
use Rattle.le.specs.NumberLaws.{length-put, number-put-other}
use Rattle.le.specs.Arena.{arena_words}
use Rattle.le.specs.ArenaLaws.{length-arena_words, get_d-arena_words}
use Rattle.machine.specs.Lists.{either}
use Rattle.machine.specs.Count.{eq?, ind-same}
use Rattle.machine.specs.Heap.{Heap, size_of}
use Rattle.machine.specs.Calls.{heap_in, words_of}
use Rattle.sound.specs.Relation.{Sound}
use Rattle.sound.specs.Tiles.{lt-or-le, start}
use Rattle.sound.specs.Apart.{tiled-tiles}
use Rattle.sound.specs.Edits.{size-16}
use Rattle.sound.specs.Release.{both_true}
use Rattle.sound.specs.Usable.{Usable, Agrees}
use Rattle.audit.specs.Frame.{frame-sound, frame-view}
use Rattle.history.specs.Histories.{Block, usable_at?, holds?}
use Rattle.history.specs.Ready.{held_at, Sized, Holds, Ready, held-loose}

-- ---- bytes
set-small : (l : List ℕ) (p v i : ℕ) → ((j : ℕ) → get_or l j 0 < 256) → v < 256 → get_or (set l p v) i 0 < 256
set-small l p v i s b = ⊎_elim
    (λ e. ⊎_elim
    (λ k. rw e (rw (get_or-set_same l p v 0 k) b))
    (λ k. rw (set_out l p v k) (s i))
    (lt-or-le p (length l)))
    (λ n. rw (get_or-set_other l p i v 0 n) (s i))
    (eq? i p)

set-put : (l : List ℕ) (p v : ℕ) → set l p (v % 256) ≡ put 1 l p v
unfolding put put_from
set-put l p v = ap (λ (q : ℕ). set l q (v % 256)) (sym (add-zero p))

-- the words but the one that has the byte p
words-put : (a : List ℕ) (p v i : ℕ) → (i ≡ p / 8 → ⊥) → get_or (arena_words (put 1 a p v)) i 0 ≡ get_or (arena_words a) i 0
words-put a p v i n = ⊎_elim
    (λ l.
    let e : 8 * i / 8 ≡ i = omega arith in
    let out : (p + 1 ≤ 8 * i) ⊎ (8 * i + 8 ≤ p) = ⊎_elim (λ k. inl (omega arith)) (λ k. inr (omega arith)) (lt-or-le p (8 * i)) in
    ap (λ (j : ℕ). get_or (arena_words (put 1 a p v)) j 0) (sym e)
    ∙ get_d-arena_words (put 1 a p v) (8 * i) (omega arith) (omega (arith, length-put 1 a p v))
    ∙ number-put-other 1 8 a p v (8 * i) out
    ∙ sym (get_d-arena_words a (8 * i) (omega arith) (omega arith))
    ∙ ap (λ (j : ℕ). get_or (arena_words a) j 0) e)
    (λ l.
    get_or-eq_default (arena_words (put 1 a p v)) 0 (omega (arith, length-arena_words (put 1 a p v), length-put 1 a p v))
    ∙ sym (get_or-eq_default (arena_words a) 0 (omega (arith, length-arena_words a))))
    (lt-or-le i (length a / 8))

-- ---- the block that has a byte
pub record Within (z : ℕ → ℕ) (bs : List Block) (p : ℕ) : Type 0 where
  pub mem : ℕ
  pub held : 1 ≤ held_at mem bs
  pub low : mem ≤ p
  pub high : p + 8 < mem + z (mem - 16)

pub within : (z : ℕ → ℕ) (bs : List Block) (p : ℕ) → Sized z bs → holds? bs p ≡ true → Within z bs p
within z [] p k e = absurd (let q : ◌≡◌ {A = ℕ} 0 1 = cc in omega arith)
within z (b ∷ bs) p k e = go (λ q. within z bs p k.1 q) (usable_at? p b) refl e
  where
    go : (holds? bs p ≡ true → Within z bs p) → (t : Bool) → usable_at? p b ≡ t → either t (holds? bs p) ≡ true → Within z (b ∷ bs) p
    go f true q e =
        let u = both_true (leb b.mem p) (ltb p (b.mem + b.usable)) q in
        record {
          mem = b.mem;
          held = omega (arith, ind-same b.mem);
          low = leb-true b.mem p u.0;
          high = omega (arith, k.0, ltb-true p (b.mem + b.usable) u.1);
        }
    go f false q e = let W = f e in record { mem = W.mem; held = omega (arith, W.held); low = W.low; high = W.high }

-- ---- the store
module _ (a r : List ℕ) (bs : List Block) (R : Ready a r bs) (p v : ℕ) (e : holds? bs p ≡ true) where
  in_block : Within (λ c. size_of (heap_in a r) c) bs p
  in_block = within (λ c. size_of (heap_in a r) c) bs p R.holds.sizes e

  usable-word : Usable (heap_in a r) (in_block.mem - 16) (p / 8)
  usable-word =
      let B = in_block in
      let h : Heap = heap_in a r in
      let l = held-loose h bs R.holds B.mem B.held in
      let s = R.sound.good.shape in
      let st = start h.tiles 0 (B.mem - 16) (tiled-tiles h s) (omega (arith, l.1)) in
      (l.1, omega (arith, st.even, B.low, l.0), omega (arith, st.even, B.high, B.low, l.0, size-16 h (B.mem - 16) s (omega (arith, l.1))))

  agrees : Agrees (heap_in a r) (arena_words a) (arena_words (set a p (v % 256)))
  agrees = record {
    long = length-arena_words (set a p (v % 256)) ∙ ap (λ (n : ℕ). n / 8) (length-set a p (v % 256)) ∙ sym (length-arena_words a);
    same = λ i n. rw (set-put a p v) (words-put a p v i (λ q. n (in_block.mem - 16) (rw q usable-word)));
  }

  pub store_view : heap_in (set a p (v % 256)) r ≡ heap_in a r
  store_view = frame-view (heap_in a r) (arena_words a) (arena_words (set a p (v % 256))) (words_of r) R.sound agrees

  pub store-ready : Ready (set a p (v % 256)) r bs
  store-ready =
      let L = R.lent in
      let n = length-set a p (v % 256) in
      record {
        lent = record {
          even = ap (λ (k : ℕ). k % 16) n ∙ L.even;
          least = omega (arith, n, L.least);
          most = omega (arith, n, L.most);
          long = L.long;
          bytes = λ i. set-small a p (v % 256) i L.bytes (omega arith);
          words = L.words;
        };
        sound = subst (λ (h : Heap). Sound h (arena_words (set a p (v % 256))) (words_of r)) (sym store_view)
            (frame-sound (heap_in a r) (arena_words a) (arena_words (set a p (v % 256))) (words_of r) R.sound agrees);
        holds = subst (λ (h : Heap). Holds h bs) (sym store_view) R.holds;
      }
