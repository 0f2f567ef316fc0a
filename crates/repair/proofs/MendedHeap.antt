-- The whole of a repair: which heap it leaves, and that its words stand. From its parts. Assumes nothing.
use Rattle.std.specs.Prelude.{◌≡◌, refl, List, [], ◌∷◌, ◌⊎◌, Bool, ℕ, ◌*◌, ◌≤◌, ◌<◌, ◌^◌, length, replicate}
use Rattle.std.proofs.Common.{sym, ◌∙◌, subst, not-suc-le-zero, arith}
use Rattle.sizes.specs.Limits.{none32, cache_room, most_fast, plain, mixed}
use Rattle.sizes.specs.Sizes.{bin_of}
use Rattle.machine.specs.Lists.{cnt}
use Rattle.machine.specs.Heap.{Heap, top_size, size_of, binned}
use Rattle.machine.specs.Writes.{Write, apply, heap_of}
use Rattle.sound.specs.Relation.{Shape, falls, stack_size, Good}
use Rattle.sound.specs.Opened.{cnt_all-none, of_none}
use Rattle.sound.specs.Ends.{Ends, ends_more}
use Rattle.repair.specs.Repair.{tiles_anew, free_anew, bare, tile_writes, put_all, repair}
use Rattle.repair.proofs.Mends.{Tiles, but-one, heap-more, put_all-heap, put_all-ends, bare-fits, bare-shape, bare-mem}

-- ---- the whole: no list but unsorted, which has the free ones by rising offset
abbrev pub mended_heap : (ℕ → Bool) → Heap → Heap
mended_heap f h = record {
  len = h.len;
  tiles = tiles_anew f 0 0 h.tiles;
  stacks = replicate 74 [];
  bins = [] ∷ free_anew f 0 0 h.tiles ∷ replicate 125 [];
  remainder = none32;
  key = h.key;
  edition = h.edition;
}

pub repair-heap : (f : ℕ → Bool) (h : Heap) → heap_of (repair f h) ≡ mended_heap f h
unfolding repair
repair-heap f h =
    heap-more (tile_writes (bare f h)) (put_all (free_anew f 0 0 h.tiles) (bare f h))
    ∙ put_all-heap (free_anew f 0 0 h.tiles) (bare f h) (omega arith)

pub mended-good : (f : ℕ → Bool) (h : Heap) → Tiles h → Shape (mended_heap f h) → Good (mended_heap f h)
mended-good f h t s =
    let k : Heap = mended_heap f h in
    let l : List ℕ = free_anew f 0 0 h.tiles in
    record {
      shape = s;
      homes = record {
        stacked = λ i x. of_none 74 i (λ z. 1 ≤ cnt x z → size_of k x ≡ stack_size i) (λ m. absurd (not-suc-le-zero m));
        quick = λ i x p. of_none 74 i (λ z. 1 ≤ cnt x z → size_of k x ≤ most_fast) (λ m. absurd (not-suc-le-zero m));
        short = λ i p. of_none 74 i (λ z. length z ≤ cache_room) (omega arith);
        none = refl;
        sorted = λ j x p. but-one 125 l j p (λ z. 1 ≤ cnt x z → bin_of (size_of k x) ≡ j) (λ m. absurd (not-suc-le-zero m));
        falling = λ j p. but-one 125 l j (omega (arith, p)) (falls (λ x. size_of k x)) tt;
      };
      flag = (bare-fits f h t).flag (λ x. binned k x) (λ x i. omega (arith, cnt_all-none 125 x)) 0 (top_size k);
    }

pub repair-ends : (f : ℕ → Bool) (h : Heap) (w : List ℕ) → Tiles h → 8 * length w ≡ h.len → h.key < 2 ^ 64 → (h.edition ≡ plain) ⊎ (h.edition ≡ mixed)
    → Ends (repair f h) w Good
unfolding repair
repair-ends f h w t e q ed =
    let ws : List Write = tile_writes (bare f h) in
    let l : List ℕ = free_anew f 0 0 h.tiles in
    let k : Ends (repair f h) w Shape = ends_more ws (put_all l (bare f h))
    (put_all-ends l (bare f h) (apply ws w) (bare-shape f h t) (bare-mem f h t w e q ed)
    (λ x. omega (arith, (bare-fits f h t).own x, cnt_all-none 74 x, cnt_all-none 127 x))) in
    record { mem = k.mem; now = subst Good (sym (repair-heap f h)) (mended-good f h t (subst Shape (repair-heap f h) k.now)) }
