-- The loops that write the keys, turn by turn: the words now, with the keys still to come, are the words at the end. Assumes nothing.
use Rattle.std.specs.Prelude.{◌≡◌, refl, List, [], ◌∷◌, ℕ, suc, ◌+◌, ◌≤◌, ◌<◌, length, get_or, take, drop}
use Rattle.std.proofs.Common.{sym, ap, ◌∙◌, subst, arith, drop_of_length-le, get_or-set_other, get_or-take, length-take-le, drop-cons}
use Rattle.le.specs.Arena.{arena_words}
use Rattle.sizes.specs.Limits.{none64, none32, cache_lists, cache_room}
use Rattle.sizes.specs.Layout.{cache_head, key_low, key_high, edition_word, fwd_word, key_word}
use Rattle.machine.specs.Lists.{hd}
use Rattle.machine.specs.Count.{cnt-here, cnt-there, cnt-le-all}
use Rattle.machine.specs.Heap.{Heap, stack}
use Rattle.machine.specs.Writes.{key, put, apply}
use Rattle.machine.specs.Mixing.{stored}
use Rattle.machine.specs.MixingLaws.{stored-twice}
use Rattle.machine.specs.View.{up, key_in, edition_in, chunks_by}
use Rattle.sound.specs.Relation.{chain_by, SoundBy}
use Rattle.sound.specs.Frames.{put-length, apply-append, chain-cong}
use Rattle.sound.specs.RecordOf.{record-length, record-words, record-cache_head}
use Rattle.primitives.specs.Chunks.{Chunk, Chunks, Inside, in_bytes, stack-chunk, up-hd, walk-list}
use Rattle.image_keys.specs.Keys.{keys_for, keys_in, keys_of}
use Rattle.image_keys.specs.KeysLaws.{keys_for-key, keys-sound}

-- ---- what words and record have of the lists
module _ (h : Heap) (w r : List ℕ) (o : SoundBy 1 h w r) where
  pub lacking-length : length r ≡ 396
  lacking-length = ap length o.rec ∙ record-length h o.good.shape.stacked74 o.good.shape.binned127

  lacking-stack : (k : ℕ) → Chunks w (stack h k)
  lacking-stack k = stack-chunk h w o.good.shape o.mem k

  lacking-head : (k : ℕ) → k < 64 → get_or r (cache_head k) 0 ≡ hd none32 (stack h k)
  lacking-head k hk = ap (λ (r : List ℕ). get_or r (cache_head k) 0) o.rec ∙ record-cache_head h o.good.shape.stacked74 o.good.shape.binned127 k hk

  lacking-key : key_in r ≡ h.key
  lacking-key =
      let m = record-words h o.good.shape.stacked74 o.good.shape.binned127 in
      omega (arith, ap (λ (r : List ℕ). get_or r key_low 0) o.rec ∙ m.low, ap (λ (r : List ℕ). get_or r key_high 0) o.rec ∙ m.high)

  lacking-edition : edition_in r ≡ h.edition
  lacking-edition = ap (λ (r : List ℕ). get_or r edition_word 0) o.rec ∙ (record-words h o.good.shape.stacked74 o.good.shape.binned127).edition

-- ---- one list, whose links are stored by edition d: x is the first of chunks whose keys, written into words w, make the words v
pub record Unkeyed (d q : ℕ) (v w : List ℕ) (x : ℕ) : Type 0 where
  pub rest : List ℕ
  pub first : x ≡ hd none64 rest
  pub short : length rest ≤ cache_room
  pub chunks : Chunks w rest
  pub chained : chain_by d w rest
  pub same : apply (keys_for q rest) w ≡ v

pub unkeyed-start : (h : Heap) (w r : List ℕ) (k d q x : ℕ) → SoundBy 1 h w r → k < 64 → d ≡ edition_in r → x ≡ up (get_or r (cache_head k) 0)
    → Unkeyed d q (apply (keys_for q (stack h k)) w) w x
unkeyed-start h w r k d q x o hk ed e = record {
  rest = stack h k;
  first = e ∙ ap up (lacking-head h w r o k hk) ∙ up-hd w (stack h k) (lacking-stack h w r o k);
  short = o.good.homes.short k hk;
  chunks = lacking-stack h w r o k;
  chained = subst (λ (d : ℕ). chain_by d w (stack h k)) (sym (ed ∙ lacking-edition h w r o)) (o.mem.chains k);
  same = refl;
}

pub unkeyed-end : {d q : ℕ} {v w : List ℕ} {x : ℕ} → Unkeyed d q v w x → x ≡ none64 → w ≡ v
unkeyed-end {d} {q} {v} {w} {x} A e = go A.rest (sym A.first ∙ e) A.chunks A.same
  where
    go : (l : List ℕ) → hd none64 l ≡ none64 → Chunks w l → apply (keys_for q l) w ≡ v → w ≡ v
    go [] z k s = s
    go (c ∷ l) z k s = absurd (omega (arith, (k c (cnt-here c l)).small))

-- how many they are, by the words
abbrev pub unkeyed : ℕ → List ℕ → ℕ → ℕ
unkeyed d w x = length (chunks_by d cache_room w x)

unkeyed-is : {d q : ℕ} {v w : List ℕ} {x : ℕ} (A : Unkeyed d q v w x) → unkeyed d w x ≡ length A.rest
unkeyed-is {d} {q} {v} {w} A = ap (unkeyed d w) A.first ∙ ap length (walk-list d cache_room w A.rest A.short A.chunks A.chained)

-- a turn: x is a chunk, y its link, and with its key the words are u
pub record Keyed (d q : ℕ) (v w : List ℕ) (x y : ℕ) (u : List ℕ) : Type 0 where
  pub here : Chunk w x
  pub on : Unkeyed d q v u y
  pub fewer : unkeyed d u y < unkeyed d w x

keyed-first : {d q : ℕ} {v w u : List ℕ} {y : ℕ} (c : ℕ) (l : List ℕ) → length (c ∷ l) ≤ cache_room → Chunks w (c ∷ l) → chain_by d w (c ∷ l) → apply (keys_for q (c ∷ l)) w ≡ v
    → y ≡ stored d c (get_or w (fwd_word c) 0) → u ≡ put (key c q) w → Keyed d q v w c y u
keyed-first {d} {q} {v} {w} {u} {y} c l s k t e ey eu =
    let here : Chunk w c = k c (cnt-here c l) in
    let kl : Chunks w l = λ x i. k x (cnt-there x c l i) in
    let A : Unkeyed d q v w c = record { rest = c ∷ l; first = refl; short = s; chunks = k; chained = t; same = e } in
    let B : Unkeyed d q v u y = record {
      rest = l;
      first = ey ∙ ap (stored d c) t.0 ∙ stored-twice d c (hd none64 l);
      short = omega arith;
      chunks = λ x i. record { even = (kl x i).even; inside = omega (arith, (kl x i).inside, ap length eu, put-length (key c q) w); small = (kl x i).small };
      chained = chain-cong d w u l (λ x i. ap (λ (u : List ℕ). get_or u (fwd_word x) 0) eu
          ∙ get_or-set_other w (key_word c) (fwd_word x) q 0 (λ z. omega (arith, here.even, (kl x i).even))) t.1;
      same = ap (apply (keys_for q l)) eu ∙ e;
    } in
    record { here = here; on = B; fewer = omega (arith, unkeyed-is A, unkeyed-is B) }

pub unkeyed-next : {d q : ℕ} {v w u : List ℕ} {x y : ℕ} → Unkeyed d q v w x → (x ≡ none64 → ⊥) → y ≡ stored d x (get_or w (fwd_word x) 0) → u ≡ put (key x q) w
    → Keyed d q v w x y u
unkeyed-next {d} {q} {v} {w} {u} {x} {y} A n = go A.rest A.first A.short A.chunks A.chained A.same
  where
    go : (l : List ℕ) → x ≡ hd none64 l → length l ≤ cache_room → Chunks w l → chain_by d w l → apply (keys_for q l) w ≡ v
        → y ≡ stored d x (get_or w (fwd_word x) 0) → u ≡ put (key x q) w → Keyed d q v w x y u
    go [] e s k t f = absurd (n e)
    go (c ∷ l) e s k t f = subst (λ (x : ℕ). y ≡ stored d x (get_or w (fwd_word x) 0) → u ≡ put (key x q) w → Keyed d q v w x y u) (sym e) (keyed-first c l s k t f)

pub unkeyed-inside : {d q : ℕ} {v : List ℕ} (a : List ℕ) {x : ℕ} → Unkeyed d q v (arena_words a) x → (x ≡ none64 → ⊥) → Inside (length a) x
unkeyed-inside a {x} A n = in_bytes a x (unkeyed-next A n refl refl).here

-- ---- list after list: words w are those of h, and with the keys of the cache lists from k on they are v
pub record UnkeyedFrom (k : ℕ) (h : Heap) (r v w : List ℕ) : Type 0 where
  pub sound : SoundBy 1 h w r
  pub same : apply (keys_in h.key (drop k (take cache_lists h.stacks))) w ≡ v

pub from_start : (h : Heap) (w r : List ℕ) → SoundBy 1 h w r → UnkeyedFrom 0 h r (apply (keys_of h) w) w
from_start h w r o = record { sound = o; same = refl }

module _ {k : ℕ} {h : Heap} {r v w : List ℕ} (L : UnkeyedFrom k h r v w) where
  abbrev cached : List (List ℕ)
  cached = take cache_lists h.stacks

  cached64 : length cached ≡ 64
  cached64 = length-take-le cache_lists h.stacks (omega (arith, L.sound.good.shape.stacked74))

  pub from_next : (q : ℕ) {u : List ℕ} → k < 64 → q ≡ key_in r → u ≡ apply (keys_for q (stack h k)) w → UnkeyedFrom (k + 1) h r v u
  from_next q {u} hk eq e =
      let ek : q ≡ h.key = eq ∙ lacking-key h w r L.sound in
      let n : suc k ≡ k + 1 = omega arith in
      let d : drop k cached ≡ stack h k ∷ drop (k + 1) cached =
      drop-cons cached k [] (omega (arith, cached64)) ∙ ap (λ (l : List ℕ). l ∷ drop (suc k) cached) (get_or-take cache_lists h.stacks k [] hk)
      ∙ ap (λ (i : ℕ). stack h k ∷ drop i cached) n in
      record {
        sound = subst (λ (u : List ℕ). SoundBy 1 h u r) (sym e)
            (keys-sound h w r (keys_for q (stack h k)) L.sound (keys_for-key q (stack h k) h.stacks (λ x. cnt-le-all x h.stacks k)));
        same = ap (apply (keys_in h.key (drop (k + 1) cached))) (e ∙ ap (λ (q : ℕ). apply (keys_for q (stack h k)) w) ek)
            ∙ sym (apply-append (keys_for h.key (stack h k)) (keys_in h.key (drop (k + 1) cached)) w)
            ∙ ap (λ (ls : List (List ℕ)). apply (keys_in h.key ls) w) (sym d) ∙ L.same;
      }

  pub from_end : 64 ≤ k → w ≡ v
  from_end hk = ap (λ (ls : List (List ℕ)). apply (keys_in h.key ls) w) (sym (drop_of_length-le cached {i = k} (omega (arith, cached64)))) ∙ L.same
