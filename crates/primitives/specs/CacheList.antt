-- A step that changed one cache list: which of the record's words changed. And what the test of a list's room tells of the list. Assumes nothing.
use Rattle.std.specs.Prelude.{◌≡◌, refl, Bool, true, false, List, [], ℕ, ◌≤◌, ◌<◌, ltb, leb, length, get_or, set}
use Rattle.std.proofs.Common.{sym, ap, ◌∙◌, subst, arith, length-set, get_or-set_same, ltb-true, leb-true}
use Rattle.sizes.specs.Limits.{none32, most_cached, cache_room}
use Rattle.sizes.specs.Layout.{cache_head, cache_count}
use Rattle.sizes.specs.Sizes.{cache_of}
use Rattle.sizes.specs.SizesLaws.{cache_of-bound}
use Rattle.machine.specs.Lists.{both, hd}
use Rattle.machine.specs.Heap.{Heap, stack, cache, with_stack, record_of}
use Rattle.sound.specs.Relation.{Shape}
use Rattle.sound.specs.Release.{both_true}
use Rattle.sound.specs.RecordOf.{record-cache_head, record-cache_count, record-with_cache}
use Rattle.record_words.specs.CacheOnly.{CacheOnly}
use Rattle.primitives.specs.Follow.{Ok}
use Rattle.primitives.specs.Room.{cache_takes}
use Rattle.primitives.specs.Stacks.{ok-cache_count}

-- the record's words when cache list k became l
pub cache-only : (h : Heap) (k : ℕ) (l q p : List ℕ) → Shape h → k < 64 → q ≡ record_of h → p ≡ record_of (with_stack k l h) → CacheOnly k q p
cache-only h k l q p s hk eq ep =
    let n : length (set h.stacks k l) ≡ 74 = length-set h.stacks k l ∙ s.stacked74 in
    let now : stack (with_stack k l h) k ≡ l = get_or-set_same h.stacks k l [] (omega (arith, s.stacked74)) in
    let head : get_or p (cache_head k) 0 ≡ hd none32 l =
    ap (λ (r : List ℕ). get_or r (cache_head k) 0) ep ∙ record-cache_head (with_stack k l h) n s.binned127 k hk ∙ ap (λ (m : List ℕ). hd none32 m) now in
    let count : get_or p (cache_count k) 0 ≡ length l =
    ap (λ (r : List ℕ). get_or r (cache_count k) 0) ep ∙ record-cache_count (with_stack k l h) n s.binned127 k hk ∙ ap (λ (m : List ℕ). length m) now in
    ep ∙ record-with_cache h s.stacked74 s.binned127 k l hk
    ∙ ap (λ (r : List ℕ). set (set r (cache_head k) (hd none32 l)) (cache_count k) (length l)) (sym eq)
    ∙ ap (λ (x : ℕ). set (set q (cache_head k) x) (cache_count k) (length l)) (sym head)
    ∙ ap (λ (x : ℕ). set (set q (cache_head k) (get_or p (cache_head k) 0)) (cache_count k) x) (sym count)

-- t: what the test of the cache answered for the size z, by the count that the record has
module _ (h : Heap) (w r : List ℕ) (z : ℕ) (o : Ok h w r) (t : Bool) (et : t ≡ cache_takes (get_or r (cache_count (cache_of z)) 0) z) where
  pub takes-is : cache_takes (length (cache h (cache_of z))) z ≡ t
  takes-is = by (leb z most_cached) refl ∙ sym et
    where
      by : (u : Bool) → leb z most_cached ≡ u → both u (ltb (length (cache h (cache_of z))) cache_room) ≡ both u (ltb (get_or r (cache_count (cache_of z)) 0) cache_room)
      by true e = ap (λ (n : ℕ). ltb n cache_room) (sym (ok-cache_count h w r o (cache_of z) (cache_of-bound z (leb-true z most_cached e))))
      by false e = refl

  module _ (y : t ≡ true) where
    takes : (leb z most_cached ≡ true) × (ltb (length (cache h (cache_of z))) cache_room ≡ true)
    takes = both_true (leb z most_cached) (ltb (length (cache h (cache_of z))) cache_room) (takes-is ∙ y)

    pub takes-small : z ≤ 1040
    takes-small = leb-true z most_cached takes.0

    pub takes-room : (k : ℕ) → k ≡ cache_of z → length (stack h k) < 7
    takes-room k ek = subst (λ (k : ℕ). length (stack h k) < 7) (sym ek) (ltb-true (length (cache h (cache_of z))) cache_room takes.1)
