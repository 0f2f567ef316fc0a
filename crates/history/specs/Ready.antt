-- What holds between the events of a run: bytes of the allowed lengths, a sound heap, and blocks held that are exactly its live chunks, each once and with
-- its usable bytes. Blocks are counted as chunks are, so each step's counts carry the third. Assumes nothing.
use Rattle.std.specs.Prelude.{◌≡◌, refl, List, [], ◌∷◌, Bool, true, false, ℕ, ◌+◌, ◌-◌, ◌%◌, ◌≤◌, ◌<◌, eqb, length}
use Rattle.std.proofs.Common.{sym, ap, ◌∙◌, subst, ⊎_elim, not-suc-le-zero, arith, eqb-true}
use Rattle.le.specs.Number.{bytes}
use Rattle.le.specs.NumberLaws.{number_small}
use Rattle.le.specs.WordsLaws.{get_d_words, length-bytes}
use Rattle.le.specs.Arena.{arena_words}
use Rattle.sizes.specs.Limits.{record_words}
use Rattle.machine.specs.Lists.{ind, cnt}
use Rattle.machine.specs.Count.{eq?, ind-same, ind-other}
use Rattle.machine.specs.Heap.{Heap, starts, size_of, total, record_of}
use Rattle.machine.specs.Writes.{Write, apply}
use Rattle.machine.specs.Calls.{heap_in, words_of}
use Rattle.sound.specs.Relation.{Mem, Loose, Good, Sound}
use Rattle.sound.specs.Tiles.{lt-or-le, starts-once}
use Rattle.sound.specs.Apart.{tiled-tiles}
use Rattle.sound.specs.RecordOf.{record-words}
use Rattle.history.specs.Histories.{Block, drop, State, state}
use Rattle.calls_consequences.specs.Results.{Lent}
use Rattle.calls_consequences.specs.Bytes.{bytes_small}
use Rattle.calls_consequences.specs.Written.{written-sound, written_read}
use Rattle.calls_consequences.specs.Remainder.{Fine}
use Rattle.calls_consequences.specs.Left.{left-length}

-- how often a block at mem m is held
abbrev pub held_at : ℕ → List Block → ℕ
held_at m [] = 0
held_at m (b ∷ bs) = ind (eqb m b.mem) + held_at m bs

-- each block has the usable bytes of its chunk; z: the sizes
abbrev pub Sized : (ℕ → ℕ) → List Block → Type 0
Sized z [] = Unit {0}
Sized z (b ∷ bs) = (b.usable + 8 ≡ z (b.mem - 16)) × Sized z bs

-- the blocks are the chunks that are neither the top nor in a list
pub record Holds (h : Heap) (bs : List Block) : Type 0 where
  pub low : (m : ℕ) → m < 16 → held_at m bs ≡ 0
  pub count : (c : ℕ) → held_at (c + 16) bs + total c h ≡ cnt c (starts h)
  pub sizes : Sized (λ c. size_of h c) bs

pub record Ready (a r : List ℕ) (bs : List Block) : Type 0 where
  pub lent : Lent a r
  pub sound : Sound (heap_in a r) (arena_words a) (words_of r)
  pub holds : Holds (heap_in a r) bs

abbrev pub ReadyAt : State → Type 0
ReadyAt (state a r bs) = Ready a r bs

-- ---- blocks counted
pub held-loose : (h : Heap) (bs : List Block) → Holds h bs → (m : ℕ) → 1 ≤ held_at m bs → (16 ≤ m) × Loose h (m - 16)
held-loose h bs H m k = ⊎_elim
    (λ l. absurd (omega (arith, H.low m l)))
    (λ l.
    let e : m - 16 + 16 ≡ m = omega arith in
    (l, omega (arith, H.count (m - 16), ap (λ (n : ℕ). held_at n bs) e)))
    (lt-or-le m 16)

pub held-once : (h : Heap) (bs : List Block) → Good h → Holds h bs → (m : ℕ) → held_at m bs ≤ 1
held-once h bs g H m = ⊎_elim
    (λ l. omega (arith, H.low m l))
    (λ l.
    let e : m - 16 + 16 ≡ m = omega arith in
    omega (arith, H.count (m - 16), ap (λ (n : ℕ). held_at n bs) e, starts-once h.tiles 0 (m - 16) (tiled-tiles h g.shape)))
    (lt-or-le m 16)

pub sized-keep : (z z' : ℕ → ℕ) (bs : List Block) → ((m : ℕ) → 1 ≤ held_at m bs → z' (m - 16) ≡ z (m - 16)) → Sized z bs → Sized z' bs
sized-keep z z' [] e k = tt
sized-keep z z' (b ∷ bs) e k =
    (k.0 ∙ sym (e b.mem (omega (arith, ind-same b.mem))), sized-keep z z' bs (λ m l. e m (omega arith)) k.1)

pub ind-chunk : (x c m : ℕ) → m ≡ c + 16 → ind (eqb (x + 16) m) ≡ ind (eqb x c)
ind-chunk x c m e = ⊎_elim
    (λ q. let p : x + 16 ≡ m = omega arith in ap (λ (y : ℕ). ind (eqb y m)) p ∙ ind-same m ∙ sym (ap (λ (y : ℕ). ind (eqb y c)) q ∙ ind-same c))
    (λ q. ind-other (x + 16) m (λ p. q (omega arith)) ∙ sym (ind-other x c q))
    (eq? x c)

-- ---- a block is dropped
pub drop-count : (m : ℕ) (bs : List Block) → 1 ≤ held_at m bs → (x : ℕ) → held_at x (drop m bs) + ind (eqb x m) ≡ held_at x bs
drop-count m [] k x = absurd (not-suc-le-zero k)
drop-count m (b ∷ bs) k x = go (λ l. drop-count m bs l x) (eqb m b.mem) refl
  where
    go : (1 ≤ held_at m bs → held_at x (drop m bs) + ind (eqb x m) ≡ held_at x bs) → (t : Bool) → eqb m b.mem ≡ t
        → held_at x (elim t [ true ↦ bs | false ↦ b ∷ drop m bs ]) + ind (eqb x m) ≡ held_at x (b ∷ bs)
    go f true e = omega (arith, ap (λ (y : ℕ). ind (eqb x y)) (eqb-true m b.mem e))
    go f false e = omega (arith, f (omega (arith, ap ind e)))

pub drop-none : (m : ℕ) (bs : List Block) → held_at m bs ≡ 0 → drop m bs ≡ bs
drop-none m [] k = refl
drop-none m (b ∷ bs) k = go (λ l. drop-none m bs l) (eqb m b.mem) refl
  where
    go : (held_at m bs ≡ 0 → drop m bs ≡ bs) → (t : Bool) → eqb m b.mem ≡ t → ◌≡◌ {A = List Block} (elim t [ true ↦ bs | false ↦ b ∷ drop m bs ]) (b ∷ bs)
    go f true e = absurd (omega (arith, ap ind e))
    go f false e = ap (λ (l : List Block). b ∷ l) (f (omega arith))

pub sized-drop : (z : ℕ → ℕ) (m : ℕ) (bs : List Block) → Sized z bs → Sized z (drop m bs)
sized-drop z m [] k = tt
sized-drop z m (b ∷ bs) k = go (sized-drop z m bs k.1) (eqb m b.mem)
  where
    go : Sized z (drop m bs) → (t : Bool) → Sized z (elim t [ true ↦ bs | false ↦ b ∷ drop m bs ])
    go f true = k.1
    go f false = (k.0, f)

-- ---- what a step leaves, as bytes
pub left-ready : (a r : List ℕ) → Lent a r → (g : Heap) (ws : List Write) (bs : List Block) → Fine g → Mem g (apply ws (arena_words a)) → Holds g bs
    → Ready (bytes 8 (apply ws (arena_words a))) (bytes 4 (record_of g)) bs
left-ready a r L g ws bs F m H =
    let G : Good g = F.good in
    let w : List ℕ = apply ws (arena_words a) in
    let e : length (bytes 8 w) ≡ length a = left-length a r L ws in
    let q = written_read g G w m F.low in
    record {
      lent = record {
        even = ap (λ (n : ℕ). n % 16) e ∙ L.even;
        least = omega (arith, L.least);
        most = omega (arith, L.most);
        long = length-bytes 4 (record_of g) ∙ omega (arith, (record-words g G.shape.stacked74 G.shape.binned127).all);
        bytes = bytes_small 8 w;
        words = bytes_small 4 (record_of g);
      };
      sound = subst (λ (k : Heap). Sound k (arena_words (bytes 8 w)) (words_of (bytes 4 (record_of g)))) (sym q) (written-sound g G w m F.low);
      holds = subst (λ (k : Heap). Holds k bs) (sym q) H;
    }

-- the last remainder that is read tiled its word
pub ready-fine : (a r : List ℕ) (bs : List Block) → Ready a r bs → Fine (heap_in a r)
ready-fine a r bs R = record {
  good = R.sound.good;
  low = omega (arith, get_d_words 4 record_words r 2 (omega arith), number_small 4 r 8 R.lent.words);
}
