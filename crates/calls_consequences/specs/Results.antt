-- What is asked of a call, in words on bytes: what it answered, the arena, the record and the heap that it left; a live block that it kept; a block that
-- it granted or resized. Definitions only; the theorems stand in Consequences.
use Rattle.std.specs.Prelude.{◌≡◌, List, true, false, ◌⊎◌, ℕ, ◌+◌, ◌-◌, ◌%◌, ◌≤◌, ◌<◌, length, get_or}
use Rattle.le.specs.Arena.{arena_words}
use Rattle.sizes.specs.Sizes.{need}
use Rattle.machine.specs.Heap.{Heap, cache, size_of, p_of, live?}
use Rattle.machine.specs.Audit.{sound?, audit_of}
use Rattle.machine.specs.Calls.{After, after, words_of, heap_in, Answered}
use Rattle.sound.specs.Drain.{NoFast}
use Rattle.sound.specs.Resize.{standing}

-- good shape: bytes lent by a caller of C, an arena of an allowed length and a record of 1,584 bytes
pub record Lent (a r : List ℕ) : Type 0 where
  pub even : length a % 16 ≡ 0
  pub least : 32 ≤ length a
  pub most : length a ≤ 262144
  pub long : length r ≡ 1584
  pub bytes : (i : ℕ) → get_or a i 0 < 256
  pub words : (i : ℕ) → get_or r i 0 < 256

-- the audit of arena bytes a and record bytes r
abbrev pub SoundIn : List ℕ → List ℕ → Type 0
SoundIn a r = sound? (audit_of (arena_words a) (words_of r)) ≡ true

abbrev pub UnsoundIn : List ℕ → List ℕ → Type 0
UnsoundIn a r = sound? (audit_of (arena_words a) (words_of r)) ≡ false

-- ---- what a call left
abbrev pub answered : After → Answered
answered (after a r x) = x

abbrev pub arena_left : After → List ℕ
arena_left (after a r x) = a

abbrev pub record_left : After → List ℕ
record_left (after a r x) = r

abbrev pub heap_left : After → Heap
heap_left x = heap_in (arena_left x) (record_left x)

-- ---- the mem m is a live block's; one exactly if the other
abbrev pub LiveMem : List ℕ → List ℕ → ℕ → Type 0
LiveMem a r m = (16 ≤ m) × (live? (heap_in a r) (m - 16) ≡ true)

abbrev pub Exactly : Type 0 → Type 0 → Type 0
Exactly P Q = (P → Q) × (Q → P)

-- ---- bytes of good shape, and sound
pub record StaysSound (x : After) : Type 0 where
  pub lent : Lent (arena_left x) (record_left x)
  pub sound : SoundIn (arena_left x) (record_left x)

-- ---- the cache lists and the last remainder are as they were
pub record CachesKept (a r : List ℕ) (x : After) : Type 0 where
  pub lists : (k : ℕ) → k < 64 → cache (heap_left x) k ≡ cache (heap_in a r) k
  pub remainder : (heap_left x).remainder ≡ (heap_in a r).remainder

-- ---- the chunk c is live still, of the same size, and every usable byte of its block is as it was
pub record LiveKept (a r : List ℕ) (c : ℕ) (x : After) : Type 0 where
  pub live : live? (heap_left x) c ≡ true
  pub size : size_of (heap_left x) c ≡ size_of (heap_in a r) c
  pub bytes : (i : ℕ) → c + 16 ≤ i → i < c + size_of (heap_in a r) c + 8 → get_or (arena_left x) i 0 ≡ get_or a i 0

-- ---- a block for n bytes at mem, with u usable bytes, in an arena of len; g is the heap. Mem is a multiple of 16, not 0; its chunk is live, u is the chunk's
-- size less 8 and at least n, the usable bytes lie in the arena, and none of them is another live block's
pub record BlockAt (g : Heap) (len n mem u : ℕ) : Type 0 where
  pub low : 16 ≤ mem
  pub even : mem % 16 ≡ 0
  pub live : live? g (mem - 16) ≡ true
  pub usable : u ≡ size_of g (mem - 16) - 8
  pub holds : n ≤ u
  pub inside : mem + u ≤ len
  pub apart : (c : ℕ) → (c ≡ mem - 16 → ⊥) → live? g c ≡ true → (c + size_of g c + 8 ≤ mem) ⊎ (mem + u ≤ c + 16)

-- ---- granted: h is the heap before, g the heap after. Its chunk was not live
pub record GrantedNew (h g : Heap) (len n mem u : ℕ) : Type 0 where
  pub block : BlockAt g len n mem u
  pub fresh : live? h (mem - 16) ≡ false

-- ---- the live block at m, resized to n bytes, stands at mem with u usable bytes. It has its first bytes, as many as both have room for. Moved, its old place is
-- live no more, and its new one was not live; not moved, it has its own P as it stood when its size word was written, unless the release of its rest has consolidated:
-- no fast list has a chunk then
pub record ResizedTo (a r : List ℕ) (m n mem u : ℕ) (x : After) : Type 0 where
  pub block : BlockAt (heap_left x) (length a) n mem u
  pub bytes : (i : ℕ) → i < size_of (heap_in a r) (m - 16) - 8 → i < u → get_or (arena_left x) (mem + i) 0 ≡ get_or a (m + i) 0
  pub moved : (mem ≡ m → ⊥) → (live? (heap_left x) (m - 16) ≡ false) × (live? (heap_in a r) (mem - 16) ≡ false)
  pub own : mem ≡ m → (p_of (heap_left x) (m - 16) ≡ p_of (standing (m - 16) (need n) (heap_in a r)) (m - 16)) ⊎ NoFast (heap_left x)
