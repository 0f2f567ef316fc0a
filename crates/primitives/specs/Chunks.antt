-- What the heap tells of a chunk that a list has or that no list has: where its four words lie, that its offset is a word of the record, and what the links
-- that lead to it are on either side, arena or record. By the tiles' starts. Assumes nothing.
use Rattle.std.specs.Prelude.{◌≡◌, refl, true, List, [], ◌∷◌, ℕ, zero, suc, ◌+◌, ◌*◌, ◌/◌, ◌%◌, ◌≤◌, ◌<◌, ◌^◌, length, get_or}
use Rattle.std.proofs.Common.{ap, ◌∙◌, le_of_suc-le-suc, not-suc-le-zero, arith, ne_eqb}
use Rattle.le.specs.Arena.{arena_words}
use Rattle.le.specs.ArenaLaws.{length-arena_words}
use Rattle.sizes.specs.Limits.{none64, none32}
use Rattle.sizes.specs.Layout.{fwd_word}
use Rattle.machine.specs.Lists.{hd, lst, tl, some?, cnt}
use Rattle.machine.specs.Count.{cnt-here, cnt-le-all, pigeons}
use Rattle.machine.specs.Heap.{Heap, stack, bin, starts}
use Rattle.machine.specs.View.{up, chunks_by}
use Rattle.machine.specs.Mixing.{stored}
use Rattle.machine.specs.MixingLaws.{stored-twice}
use Rattle.sound.specs.Relation.{all, MemBy, Shape, Loose, chain_by}
use Rattle.sound.specs.Tiles.{starts-length}
use Rattle.sound.specs.Frames.{Starts, starts-all, end-all, Grid, grid, in-starts}
use Rattle.sound.specs.Lists.{lst-in}
use Rattle.chunk_fields.specs.Links.{down}

-- the chunk at c has its four words among the words w
pub record Chunk (w : List ℕ) (c : ℕ) : Type 0 where
  pub even : c % 16 ≡ 0
  pub inside : c + 32 ≤ 8 * length w
  pub small : c + 32 ≤ 262144

-- and so among the bytes
pub record Inside (n c : ℕ) : Type 0 where
  pub even : c % 16 ≡ 0
  pub high : c + 32 ≤ n
  pub small : c + 32 ≤ 262144

pub in_bytes : (a : List ℕ) (c : ℕ) → Chunk (arena_words a) c → Inside (length a) c
in_bytes a c k = record { even = k.even; high = omega (arith, k.inside, length-arena_words a); small = k.small }

-- by any version of the rules
module _ {v : ℕ} (h : Heap) (w : List ℕ) (s : Shape h) (m : MemBy v h w) where
  pub start-chunk : (c : ℕ) → 1 ≤ cnt c (Starts h) → Chunk w c
  start-chunk c i =
      let g : Grid (Starts h) (length w) = grid h (length w) s.sizes m.long in
      let e : c % 16 ≡ 0 = g.even c i in
      let n : c / 8 + 4 ≤ length w = g.inside c i in
      record { even = e; inside = omega arith; small = omega (arith, m.long, s.small) }

  -- a list of chunks is no longer than the words: each chunk has four of them
  pub list-short : (l : List ℕ) → ((x : ℕ) → cnt x l ≤ cnt x (starts h)) → length l ≤ length w
  list-short l c = omega (arith, pigeons l (Starts h) (λ x. omega (arith, c x, starts-all h x)), starts-length 0 (all h) s.sizes, end-all h s.sizes, m.long)

  pub loose-chunk : (c : ℕ) → Loose h c → Chunk w c
  loose-chunk c l = start-chunk c (omega (arith, starts-all h c))

  pub stack-chunk : (k c : ℕ) → 1 ≤ cnt c (stack h k) → Chunk w c
  stack-chunk k c i = start-chunk c (in-starts h c s (omega (arith, cnt-le-all c h.stacks k)))

  pub bin-chunk : (j c : ℕ) → 1 ≤ cnt c (bin h j) → Chunk w c
  bin-chunk j c i = start-chunk c (in-starts h c s (omega (arith, cnt-le-all c h.bins j)))

-- ---- none on either side
abbrev pub Chunks : List ℕ → List ℕ → Type 0
Chunks w l = (x : ℕ) → 1 ≤ cnt x l → Chunk w x

pub down-chunk : (w : List ℕ) (c : ℕ) → Chunk w c → down c ≡ c
down-chunk w c k = rw (ne_eqb c none64 (λ e. omega (arith, k.small)), down)

pub up-hd : (w l : List ℕ) → Chunks w l → up (hd none32 l) ≡ hd none64 l
up-hd w [] k = refl
up-hd w (x ∷ l) k = rw (ne_eqb x none32 (λ e. omega (arith, (k x (cnt-here x l)).small)), up)

pub down-hd : (w l : List ℕ) → Chunks w l → down (hd none64 l) ≡ hd none32 l
down-hd w [] k = refl
down-hd w (x ∷ l) k = down-chunk w x (k x (cnt-here x l))

pub down-lst : (w l : List ℕ) → Chunks w l → down (lst none64 l) ≡ lst none32 l
down-lst w [] k = refl
down-lst w (x ∷ l) k = down-chunk w (lst x l) (k (lst x l) (lst-in x l))

pub hd-narrow : (w l : List ℕ) → Chunks w l → hd none32 l < 2 ^ 32
hd-narrow w [] k = omega arith
hd-narrow w (x ∷ l) k = omega (arith, (k x (cnt-here x l)).small)

pub lst-narrow : (w l : List ℕ) → Chunks w l → lst none32 l < 2 ^ 32
lst-narrow w [] k = omega arith
lst-narrow w (x ∷ l) k = omega (arith, (k (lst x l) (lst-in x l)).small)

-- ---- the head of a list that has one, whose links are stored by edition d
pub record Head (d : ℕ) (w l : List ℕ) : Type 0 where
  pub here : Chunk w (hd none32 l)
  pub same : hd none64 l ≡ hd none32 l
  pub next : down (stored d (hd none32 l) (get_or w (fwd_word (hd none32 l)) 0)) ≡ hd none32 (tl l)
  pub narrow : down (stored d (hd none32 l) (get_or w (fwd_word (hd none32 l)) 0)) < 2 ^ 32
  pub more : length l ≡ suc (length (tl l))

pub head : (d : ℕ) (w l : List ℕ) → some? l ≡ true → Chunks w l → chain_by d w l → Head d w l
head d w [] e k c = let z : ◌≡◌ {A = ℕ} 0 1 = cc in absurd (omega arith)
head d w (x ∷ l) e k c =
    let t : Chunks w l = λ y i. k y (omega arith) in
    let n : down (stored d x (get_or w (fwd_word x) 0)) ≡ hd none32 l = ap (λ (y : ℕ). down (stored d x y)) c.0 ∙ ap down (stored-twice d x (hd none64 l)) ∙ down-hd w l t in
    record { here = k x (cnt-here x l); same = refl; next = n; narrow = rw n (hd-narrow w l t); more = refl }

-- ---- along the links the walk finds the list, if it may go that far
pub walk-list : (d n : ℕ) (w l : List ℕ) → length l ≤ n → Chunks w l → chain_by d w l → chunks_by d n w (hd none64 l) ≡ l
walk-list d zero w [] f k c = refl
walk-list d zero w (x ∷ l) f k c = absurd (not-suc-le-zero f)
walk-list d (suc n) w [] f k c = refl
walk-list d (suc n) w (x ∷ l) f k c =
    rw (ne_eqb x none64 (λ e. omega (arith, (k x (cnt-here x l)).small)), chunks_by)
    (ap (λ (m : List ℕ). x ∷ m) (ap (λ (y : ℕ). chunks_by d n w (stored d x y)) c.0 ∙ ap (chunks_by d n w) (stored-twice d x (hd none64 l)) ∙ walk-list d n w l (le_of_suc-le-suc f) (λ y i. k y (omega arith)) c.1))
