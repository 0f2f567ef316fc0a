-- With the key in each cached chunk a heap that is sound by the rules of version 1 is sound by those of version 2. Only second words of cached chunks are
-- written, and those no list's links nor the tiles ask for (keys-sound); whichever write comes last, it writes the key (keys_in-has). Assumes nothing.
use Rattle.std.specs.Prelude.{◌≡◌, refl, List, [], ◌∷◌, ◌++◌, ◌⊎◌, ℕ, zero, suc, ◌+◌, ◌/◌, ◌≤◌, ◌<◌, length, get_or, take}
use Rattle.std.proofs.Common.{sym, ap, ◌∙◌, inl, inr, ⊎_elim, arith, get_or-set_same, get_or-set_other, get_or-take}
use Rattle.sizes.specs.Limits.{none64, cache_lists}
use Rattle.sizes.specs.Layout.{key_word}
use Rattle.machine.specs.Lists.{cnt, cnt_all}
use Rattle.machine.specs.Count.{eq?, ind-other, cnt-here, cnt-le-all}
use Rattle.machine.specs.Heap.{Heap, stack, bin}
use Rattle.machine.specs.Writes.{Write, who, field, key, put, apply}
use Rattle.sound.specs.Relation.{all, MemBy, Shape, SoundBy}
use Rattle.sound.specs.Tiles.{lt-or-le}
use Rattle.sound.specs.Frames.{Agree, chain-cong, links-cong, Starts, starts-all, Grid, grid, Sub, Off, put-length, apply-length, apply-append, agree, tiles-agree, in-starts}
use Rattle.image_keys.specs.Keys.{keys_for, keys_in, keys_of}

-- ---- writes of second words only, of chunks of the lists ls
abbrev pub KeyW : List (List ℕ) → List Write → Type 0
KeyW ls [] = Unit {0}
KeyW ls (e ∷ ws) = (field e ≡ 3) × (1 ≤ cnt_all (who e) ls) × KeyW ls ws

key-append : (ls : List (List ℕ)) (a b : List Write) → KeyW ls a → KeyW ls b → KeyW ls (a ++ b)
key-append ls [] b j k = k
key-append ls (e ∷ a) b j k = (j.0, j.1, key-append ls a b j.2 k)

pub keys_for-key : (q : ℕ) (l : List ℕ) (ms : List (List ℕ)) → ((x : ℕ) → cnt x l ≤ cnt_all x ms) → KeyW ms (keys_for q l)
keys_for-key q [] ms s = tt
keys_for-key q (c ∷ l) ms s = (refl, omega (arith, s c, cnt-here c l), keys_for-key q l ms (λ x. omega (arith, s x)))

keys_in-key : (q : ℕ) (ls ms : List (List ℕ)) → ((x : ℕ) → cnt_all x ls ≤ cnt_all x ms) → KeyW ms (keys_in q ls)
keys_in-key q [] ms s = tt
keys_in-key q (l ∷ ls) ms s =
    key-append ms (keys_for q l) (keys_in q ls) (keys_for-key q l ms (λ x. omega (arith, s x))) (keys_in-key q ls ms (λ x. omega (arith, s x)))

-- they are not the j-th words of l, if j is another or l has none of these chunks
key-off : (S l : List ℕ) (j : ℕ) (ls : List (List ℕ)) (ws : List Write) → ((x : ℕ) → 1 ≤ cnt_all x ls → 1 ≤ cnt x S)
    → ((3 ≡ j → ⊥) ⊎ ((x : ℕ) → 1 ≤ cnt_all x ls → cnt x l ≡ 0)) → KeyW ls ws → Off S j l ws
key-off S l j ls [] s d k = tt
key-off S l j ls (e ∷ ws) s d k =
    (s (who e) k.1, omega (arith, k.0), ⊎_elim (λ n. inr (λ z. n (sym k.0 ∙ z))) (λ n. inl (n (who e) k.1)) d, key-off S l j ls ws s d k.2)

-- ---- such writes keep a heap sound by the rules of version 1
keys-mem : (h : Heap) (w : List ℕ) (ws : List Write) → Shape h → MemBy 1 h w → KeyW h.stacks ws → MemBy 1 h (apply ws w)
keys-mem h w ws s m kw =
    let S : List ℕ = Starts h in
    let v : List ℕ = apply ws w in
    let G : Grid S (length w) = grid h (length w) s.sizes m.long in
    let sub : (x : ℕ) → 1 ≤ cnt_all x h.stacks → 1 ≤ cnt x S = λ x i. in-starts h x s (omega arith) in
    let ag : (j : ℕ) (l : List ℕ) → j < 3 → Sub l S → Agree w v j l = λ j l hj sl.
    agree S (length w) G ws w j l (omega arith) sl (key-off S l j h.stacks ws sub (inl (λ e. omega arith)) kw) in
    record {
      long = rw apply-length m.long;
      words = tiles-agree w v 0 (all h) (ag 0 S (omega arith) (λ x i. i)) (ag 1 S (omega arith) (λ x i. i)) m.words;
      chains = λ k. chain-cong h.edition w v (stack h k) (ag 2 (stack h k) (omega arith) (λ x i. sub x (omega (arith, cnt-le-all x h.stacks k)))) (m.chains k);
      blinks = λ j.
          let sb : Sub (bin h j) S = λ x i. in-starts h x s (omega (arith, cnt-le-all x h.bins j)) in
          links-cong w v none64 (bin h j) none64 (ag 2 (bin h j) (omega arith) sb)
          (agree S (length w) G ws w 3 (bin h j) (omega arith) sb (key-off S (bin h j) 3 h.stacks ws sub
          (inr (λ x i. omega (arith, s.own x, starts-all h x, G.once x, cnt-le-all x h.bins j))) kw)) (m.blinks j);
      keys = λ z. absurd (omega arith);
      key64 = m.key64;
      edited = m.edited;
      skipped = λ z. absurd (omega (arith, z));
    }

pub keys-sound : (h : Heap) (w r : List ℕ) (ws : List Write) → SoundBy 1 h w r → KeyW h.stacks ws → SoundBy 1 h (apply ws w) r
keys-sound h w r ws o kw = record { good = o.good; mem = keys-mem h w ws o.good.shape o.mem kw; rec = o.rec }

-- ---- a chunk of one of the lists has the key then, and one that had it has it still
module _ (q x : ℕ) where
  keys_for-has : (l w : List ℕ) → key_word x < length w → (1 ≤ cnt x l) ⊎ (get_or w (key_word x) 0 ≡ q) → get_or (apply (keys_for q l) w) (key_word x) 0 ≡ q
  keys_for-has [] w b (inl m) = absurd (omega (arith, m))
  keys_for-has [] w b (inr e) = e
  keys_for-has (c ∷ l) w b d = keys_for-has l (put (key c q) w) (omega (arith, put-length (key c q) w)) (⊎_elim same other (eq? (key_word x) (key_word c)))
    where
      same : key_word x ≡ key_word c → (1 ≤ cnt x l) ⊎ (get_or (put (key c q) w) (key_word x) 0 ≡ q)
      same e = inr (ap (λ (i : ℕ). get_or (put (key c q) w) i 0) e ∙ get_or-set_same w (key_word c) q 0 (omega arith))

      other : (key_word x ≡ key_word c → ⊥) → (1 ≤ cnt x l) ⊎ (get_or (put (key c q) w) (key_word x) 0 ≡ q)
      other n = ⊎_elim (λ m. inl (omega (arith, ind-other x c (λ e. n (ap key_word e))))) (λ e. inr (get_or-set_other w (key_word c) (key_word x) q 0 n ∙ e)) d

  keys_in-has : (ls : List (List ℕ)) (w : List ℕ) → key_word x < length w → (1 ≤ cnt_all x ls) ⊎ (get_or w (key_word x) 0 ≡ q) → get_or (apply (keys_in q ls) w) (key_word x) 0 ≡ q
  keys_in-has [] w b (inl m) = absurd (omega (arith, m))
  keys_in-has [] w b (inr e) = e
  keys_in-has (l ∷ ls) w b d =
      ap (λ (v : List ℕ). get_or v (key_word x) 0) (apply-append (keys_for q l) (keys_in q ls) w)
      ∙ keys_in-has ls (apply (keys_for q l) w) (omega (arith, apply-length (keys_for q l) w)) (⊎_elim first (λ e. inr (keys_for-has l w b (inr e))) d)
    where
      first : 1 ≤ cnt x l + cnt_all x ls → (1 ≤ cnt_all x ls) ⊎ (get_or (apply (keys_for q l) w) (key_word x) 0 ≡ q)
      first m = ⊎_elim (λ i. inr (keys_for-has l w b (inl i))) (λ i. inl (omega arith)) (lt-or-le 0 (cnt x l))

-- ---- every cached chunk
cnt_all-take : (n x : ℕ) (ls : List (List ℕ)) → cnt_all x (take n ls) ≤ cnt_all x ls
cnt_all-take zero x ls = omega arith
cnt_all-take (suc n) x [] = omega arith
cnt_all-take (suc n) x (l ∷ ls) = omega (arith, cnt_all-take n x ls)

pub keyed-sound : (h : Heap) (w r : List ℕ) → SoundBy 1 h w r → SoundBy 2 h (apply (keys_of h) w) r
keyed-sound h w r o =
    let cached : List (List ℕ) = take cache_lists h.stacks in
    let s = o.good.shape in
    let m = keys-mem h w (keys_of h) s o.mem (keys_in-key h.key cached h.stacks (λ x. cnt_all-take cache_lists x h.stacks)) in
    let G : Grid (Starts h) (length w) = grid h (length w) s.sizes o.mem.long in
    record {
      good = o.good;
      mem = record {
        long = m.long;
        words = m.words;
        chains = m.chains;
        blinks = m.blinks;
        keys = λ z k x p i.
            let b : x / 8 + 4 ≤ length w = G.inside x (in-starts h x s (omega (arith, cnt-le-all x h.stacks k))) in
            keys_in-has h.key x cached w (omega arith) (inl (omega (arith, cnt-le-all x cached k, ap (cnt x) (get_or-take cache_lists h.stacks k [] p))));
        key64 = m.key64;
        edited = m.edited;
        skipped = λ z. absurd (omega (arith, z));
      };
      rec = o.rec;
    }
