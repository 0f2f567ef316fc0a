-- Push and take of a cache or fast list, as the code does them, follow the machine: the link and the head that the record has are the stack's. Assumes nothing.
use Rattle.std.specs.Prelude.{◌≡◌, refl, true, List, ◌∷◌, ℕ, ◌+◌, ◌-◌, ◌≤◌, ◌<◌, ◌^◌, length, get_or, set, Option, Some}
use Rattle.std.proofs.Common.{sym, ap, ◌∙◌, arith}
use Rattle.le.specs.Arena.{arena_words}
use Rattle.sizes.specs.Limits.{none64, none32}
use Rattle.sizes.specs.Layout.{cache_head, cache_count, fast_head, key_low, key_high, edition_word, fwd_word}
use Rattle.machine.specs.Lists.{hd, tl, some?}
use Rattle.machine.specs.Heap.{Heap, stack, fast_at}
use Rattle.machine.specs.Writes.{link, key, put}
use Rattle.machine.specs.Mixing.{stored}
use Rattle.machine.specs.Primitives.{push, pop, push_cache, take_cache}
use Rattle.machine.specs.View.{up, key_in, edition_in}
use Rattle.sound.specs.Relation.{Loose}
use Rattle.chunk_fields.specs.Links.{down}
use Rattle.sound.specs.RecordOf.{record-length, record-words, record-cache_head, record-cache_count, record-fast_head, record-with_cache, record-with_fast}
use Rattle.primitives.specs.Follow.{Ok, Gave}
use Rattle.primitives.specs.Chunks.{Chunks, Inside, in_bytes, loose-chunk, stack-chunk, up-hd, Head, head}

module _ (h : Heap) (w r : List ℕ) (o : Ok h w r) where
  pub ok-length : length r ≡ 396
  ok-length = ap length o.rec ∙ record-length h o.shape.stacked74 o.shape.binned127

  pub ok-stack : (k : ℕ) → Chunks w (stack h k)
  ok-stack k = stack-chunk h w o.shape o.mem k

  pub ok-cache_head : (k : ℕ) → k < 64 → get_or r (cache_head k) 0 ≡ hd none32 (stack h k)
  ok-cache_head k hk = ap (λ (r : List ℕ). get_or r (cache_head k) 0) o.rec ∙ record-cache_head h o.shape.stacked74 o.shape.binned127 k hk

  pub ok-cache_count : (k : ℕ) → k < 64 → get_or r (cache_count k) 0 ≡ length (stack h k)
  ok-cache_count k hk = ap (λ (r : List ℕ). get_or r (cache_count k) 0) o.rec ∙ record-cache_count h o.shape.stacked74 o.shape.binned127 k hk

  pub ok-fast_head : (k : ℕ) → k < 10 → get_or r (fast_head k) 0 ≡ hd none32 (stack h (fast_at k))
  ok-fast_head k hk = ap (λ (r : List ℕ). get_or r (fast_head k) 0) o.rec ∙ record-fast_head h o.shape.stacked74 o.shape.binned127 k hk

  pub ok-key : key_in r ≡ h.key
  ok-key =
      let m = record-words h o.shape.stacked74 o.shape.binned127 in
      omega (arith, ap (λ (r : List ℕ). get_or r key_low 0) o.rec ∙ m.low, ap (λ (r : List ℕ). get_or r key_high 0) o.rec ∙ m.high)

  pub ok-edition : edition_in r ≡ h.edition
  ok-edition = ap (λ (r : List ℕ). get_or r edition_word 0) o.rec ∙ (record-words h o.shape.stacked74 o.shape.binned127).edition

  pub ok-head : (k : ℕ) → some? (stack h k) ≡ true → Head h.edition w (stack h k)
  ok-head k e = head h.edition w (stack h k) e (ok-stack k) (o.mem.chains k)

  -- the link of c by the record's edition
  link-by : (d c x : ℕ) → d ≡ edition_in r → x ≡ stored d c (get_or w (fwd_word c) 0) → x ≡ stored h.edition c (get_or w (fwd_word c) 0)
  link-by d c x e f = f ∙ ap (λ (d : ℕ). stored d c (get_or w (fwd_word c) 0)) (e ∙ ok-edition)

  -- the head c of a stack, as the record has it, and its link x as a word y of the record
  taken_next : (k c x y : ℕ) → some? (stack h k) ≡ true → c ≡ hd none32 (stack h k) → x ≡ stored h.edition c (get_or w (fwd_word c) 0) → y ≡ down x → y ≡ hd none32 (tl (stack h k))
  taken_next k c x y e q f g = g ∙ ap down f ∙ ap (λ (c : ℕ). down (stored h.edition c (get_or w (fwd_word c) 0))) q ∙ (ok-head k e).next

  taken-narrow : (k c x : ℕ) → some? (stack h k) ≡ true → c ≡ hd none32 (stack h k) → x ≡ stored h.edition c (get_or w (fwd_word c) 0) → down x < 2 ^ 32
  taken-narrow k c x e q f = rw (f, q) (ok-head k e).narrow

  taken-says : (k c : ℕ) → some? (stack h k) ≡ true → c ≡ hd none32 (stack h k) → ◌≡◌ {A = Option ℕ} (Some (hd none64 (stack h k))) (Some c)
  taken-says k c e q = ap (λ (c : ℕ). (Some c)) ((ok-head k e).same ∙ sym q)

  -- ---- cache lists
  pub push-cache-gave : (k c x y d : ℕ) (u v q : List ℕ) → k < 64 → x ≡ up (get_or r (cache_head k) 0)
      → d ≡ edition_in r → u ≡ put (link c (stored d c x)) w → y ≡ key_in r → v ≡ put (key c y) u → q ≡ set (set r (cache_head k) c) (cache_count k) (get_or r (cache_count k) 0 + 1) → Gave (Unit {0}) (push_cache k c h) tt w v q
  push-cache-gave k c x y ed u v q hk d ed-is e y-is g f =
      let l = c ∷ stack h k in
      let n : get_or r (cache_count k) 0 + 1 ≡ length l = omega (arith, ok-cache_count k hk) in
      record {
        says = refl;
        bytes = g ∙ ap (λ (y : ℕ). put (key c y) u) (y-is ∙ ok-key)
            ∙ ap (put (key c h.key)) (e ∙ ap (λ (i : ℕ). put (link c (stored i c x)) w) (ed-is ∙ ok-edition)
            ∙ ap (λ (x : ℕ). put (link c (stored h.edition c x)) w) (d ∙ ap up (ok-cache_head k hk) ∙ up-hd w (stack h k) (ok-stack k)));
        rec = f ∙ ap (λ (n : ℕ). set (set r (cache_head k) c) (cache_count k) n) n ∙ ap (λ (r : List ℕ). set (set r (cache_head k) c) (cache_count k) (length l)) o.rec
            ∙ sym (record-with_cache h o.shape.stacked74 o.shape.binned127 k l hk);
      }

  pub cache-narrow : (k x d : ℕ) → k < 64 → some? (stack h k) ≡ true → d ≡ edition_in r → x ≡ stored d (get_or r (cache_head k) 0) (get_or w (fwd_word (get_or r (cache_head k) 0)) 0) → down x < 2 ^ 32
  cache-narrow k x d hk e g f = taken-narrow k (get_or r (cache_head k) 0) x e (ok-cache_head k hk) (link-by d (get_or r (cache_head k) 0) x g f)

  pub cache-some : (k : ℕ) → k < 64 → some? (stack h k) ≡ true → 1 ≤ get_or r (cache_count k) 0
  cache-some k hk e = omega (arith, ok-cache_count k hk, (ok-head k e).more)

  pub take-cache-gave : (k c x y d : ℕ) (v q : List ℕ) → k < 64 → some? (stack h k) ≡ true → c ≡ get_or r (cache_head k) 0 → d ≡ edition_in r → x ≡ stored d c (get_or w (fwd_word c) 0) → y ≡ down x
      → q ≡ set (set r (cache_head k) y) (cache_count k) (get_or r (cache_count k) 0 - 1) → v ≡ put (key c 0) w → Gave (Option ℕ) (take_cache k h) (Some c) w v q
  take-cache-gave k c x y d v q hk e z ed ex ey f b =
      let l = tl (stack h k) in
      let n : get_or r (cache_count k) 0 - 1 ≡ length l = omega (arith, ok-cache_count k hk, (ok-head k e).more) in
      let g : c ≡ hd none32 (stack h k) = z ∙ ok-cache_head k hk in
      record {
        says = taken-says k c e g;
        bytes = b ∙ ap (λ (c : ℕ). put (key c 0) w) (g ∙ sym (ok-head k e).same);
        rec = f ∙ ap (λ (y : ℕ). set (set r (cache_head k) y) (cache_count k) (get_or r (cache_count k) 0 - 1)) (taken_next k c x y e g (link-by d c x ed ex) ey)
            ∙ ap (λ (n : ℕ). set (set r (cache_head k) (hd none32 l)) (cache_count k) n) n
            ∙ ap (λ (r : List ℕ). set (set r (cache_head k) (hd none32 l)) (cache_count k) (length l)) o.rec
            ∙ sym (record-with_cache h o.shape.stacked74 o.shape.binned127 k l hk);
      }

  -- ---- fast lists
  pub push-fast-gave : (k c x d : ℕ) (v q : List ℕ) → k < 10 → x ≡ up (get_or r (fast_head k) 0)
      → d ≡ edition_in r → v ≡ put (link c (stored d c x)) w → q ≡ set r (fast_head k) c → Gave (Unit {0}) (push (fast_at k) c h) tt w v q
  push-fast-gave k c x ed v q hk d ed-is e f =
      record {
        says = refl;
        bytes = e ∙ ap (λ (i : ℕ). put (link c (stored i c x)) w) (ed-is ∙ ok-edition) ∙ ap (λ (x : ℕ). put (link c (stored h.edition c x)) w) (d ∙ ap up (ok-fast_head k hk) ∙ up-hd w (stack h (fast_at k)) (ok-stack (fast_at k)));
        rec = f ∙ ap (λ (r : List ℕ). set r (fast_head k) c) o.rec ∙ sym (record-with_fast h o.shape.stacked74 o.shape.binned127 k (c ∷ stack h (fast_at k)) hk);
      }

  pub fast-narrow : (k x d : ℕ) → k < 10 → some? (stack h (fast_at k)) ≡ true → d ≡ edition_in r → x ≡ stored d (get_or r (fast_head k) 0) (get_or w (fwd_word (get_or r (fast_head k) 0)) 0) → down x < 2 ^ 32
  fast-narrow k x d hk e g f = taken-narrow (fast_at k) (get_or r (fast_head k) 0) x e (ok-fast_head k hk) (link-by d (get_or r (fast_head k) 0) x g f)

  pub take-fast-gave : (k c x y d : ℕ) (q : List ℕ) → k < 10 → some? (stack h (fast_at k)) ≡ true → c ≡ get_or r (fast_head k) 0 → d ≡ edition_in r → x ≡ stored d c (get_or w (fwd_word c) 0) → y ≡ down x
      → q ≡ set r (fast_head k) y → Gave (Option ℕ) (pop (fast_at k) h) (Some c) w w q
  take-fast-gave k c x y d q hk e z ed ex ey f =
      let l = tl (stack h (fast_at k)) in
      let g : c ≡ hd none32 (stack h (fast_at k)) = z ∙ ok-fast_head k hk in
      record {
        says = taken-says (fast_at k) c e g;
        bytes = refl;
        rec = f ∙ ap (set r (fast_head k)) (taken_next (fast_at k) c x y e g (link-by d c x ed ex) ey) ∙ ap (λ (r : List ℕ). set r (fast_head k) (hd none32 l)) o.rec
            ∙ sym (record-with_fast h o.shape.stacked74 o.shape.binned127 k l hk);
      }

-- ---- where the chunks lie in the arena's bytes
module _ (h : Heap) (a r : List ℕ) (o : Ok h (arena_words a) r) where
  pub loose-inside : (c : ℕ) → Loose h c → Inside (length a) c
  loose-inside c l = in_bytes a c (loose-chunk h (arena_words a) o.shape o.mem c l)

  pub head-inside : (k c : ℕ) → some? (stack h k) ≡ true → c ≡ hd none32 (stack h k) → Inside (length a) c
  head-inside k c e q = rw q (in_bytes a (hd none32 (stack h k)) (ok-head h (arena_words a) r o k e).here)

  pub cache-inside : (k : ℕ) → k < 64 → some? (stack h k) ≡ true → Inside (length a) (get_or r (cache_head k) 0)
  cache-inside k hk e = head-inside k (get_or r (cache_head k) 0) e (ok-cache_head h (arena_words a) r o k hk)

  pub fast-inside : (k : ℕ) → k < 10 → some? (stack h (fast_at k)) ≡ true → Inside (length a) (get_or r (fast_head k) 0)
  fast-inside k hk e = head-inside (fast_at k) (get_or r (fast_head k) 0) e (ok-fast_head h (arena_words a) r o k hk)
