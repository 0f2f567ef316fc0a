-- What a step of a sound heap leaves in the two buffers: bytes of good shape that spell its heap, and the usable bytes of every block that it spares.
-- Assumes nothing.
use Rattle.std.specs.Prelude.{◌≡◌, refl, List, Bool, true, ℕ, ◌+◌, ◌/◌, ◌%◌, ◌≤◌, ◌<◌, leb, length, get_or}
use Rattle.std.proofs.Common.{sym, ap, ◌∙◌, subst, arith, eq-eqb, le-leb}
use Rattle.le.specs.Number.{bytes}
use Rattle.le.specs.Arena.{arena_words}
use Rattle.le.specs.NumberLaws.{number_small}
use Rattle.le.specs.WordsLaws.{length-bytes, get_d_words}
use Rattle.le.specs.ArenaLaws.{length-arena_words, bytes-arena_words}
use Rattle.sizes.specs.Limits.{record_words}
use Rattle.machine.specs.Lists.{both, cnt}
use Rattle.machine.specs.Heap.{Heap, starts, size_of, live?, record_of}
use Rattle.machine.specs.Writes.{Write, Ran, heap_of, writes, apply}
use Rattle.machine.specs.Audit.{sound?}
use Rattle.machine.specs.Calls.{left, shape?, arena_allowed?, words_of, heap_in, Answered}
use Rattle.sound.specs.Relation.{Loose, Good, Sound}
use Rattle.sound.specs.Tiles.{start}
use Rattle.sound.specs.Frames.{apply-length}
use Rattle.sound.specs.Apart.{tiled-tiles}
use Rattle.sound.specs.Edits.{size-16}
use Rattle.sound.specs.RecordOf.{record-words}
use Rattle.sound.specs.Ends.{Ends}
use Rattle.sound.specs.Live.{Tame, tame-words, live-loose, loose-live}
use Rattle.audit.specs.Exact.{audit-complete}
use Rattle.calls.specs.Ways.{shape-true}
use Rattle.calls.specs.Through.{came-sound}
use Rattle.calls_consequences.specs.Bytes.{byte-same, bytes_small}
use Rattle.calls_consequences.specs.Written.{top-most, chunk-most, written-sound, written_read}
use Rattle.calls_consequences.specs.Remainder.{Fine}
use Rattle.calls_consequences.specs.Results.{Lent, SoundIn, heap_left, StaysSound, LiveKept}

-- ---- good shape
pub lent-shape : (a r : List ℕ) → Lent a r → (arena_allowed? (length a) ≡ true) × (shape? a r ≡ true)
lent-shape a r L = (allowed, shape-true a r L.long allowed)
  where
    allowed : arena_allowed? (length a) ≡ true
    allowed =
        ap (λ (t : Bool). both t (both (leb 32 (length a)) (leb (length a) 262144))) (eq-eqb (length a % 16) 0 L.even)
        ∙ ap (λ (t : Bool). both t (leb (length a) 262144)) (le-leb 32 (length a) L.least) ∙ le-leb (length a) 262144 L.most

pub lent-sound : (a r : List ℕ) → Lent a r → SoundIn a r → Sound (heap_in a r) (arena_words a) (words_of r)
lent-sound a r L S = came-sound a r (words_of r) (record { shape = (lent-shape a r L).1; small = L.words; words = refl }) S

pub lent-fine : (a r : List ℕ) → Lent a r → SoundIn a r → Fine (heap_in a r)
lent-fine a r L S = record {
  good = (lent-sound a r L S).good;
  low = omega (arith, get_d_words 4 record_words r 2 (omega arith), number_small 4 r 8 L.words);
}

-- ---- what a step leaves
pub left-length : (a r : List ℕ) → Lent a r → (ws : List Write) → length (bytes 8 (apply ws (arena_words a))) ≡ length a
left-length a r L ws = omega (arith, length-bytes 8 (apply ws (arena_words a)), apply-length ws (arena_words a), length-arena_words a, L.even)

module _ {A : Type 0} (a r : List ℕ) (s : Ran A) (y : Answered) (L : Lent a r) (E : Ends s (arena_words a) Fine) where
  pub left-heap : heap_left (left a (heap_of s) (writes s) y) ≡ heap_of s
  left-heap = written_read (heap_of s) E.now.good (apply (writes s) (arena_words a)) E.mem E.now.low

  pub left-stays : StaysSound (left a (heap_of s) (writes s) y)
  left-stays =
      let g : Heap = heap_of s in
      let G : Good g = E.now.good in
      let w : List ℕ = apply (writes s) (arena_words a) in
      let e : length (bytes 8 w) ≡ length a = left-length a r L (writes s) in
      record {
        lent = record {
          even = ap (λ (n : ℕ). n % 16) e ∙ L.even;
          least = omega (arith, L.least);
          most = omega (arith, L.most);
          long = length-bytes 4 (record_of g) ∙ omega (arith, (record-words g G.shape.stacked74 G.shape.binned127).all);
          bytes = bytes_small 8 w;
          words = bytes_small 4 (record_of g);
        };
        sound = ap sound? (audit-complete g (arena_words (bytes 8 w)) (words_of (bytes 4 (record_of g))) (written-sound g G w E.mem E.now.low));
      }

  -- a live block that the step spares
  pub left-keeps : (X : ℕ → Type 0) → SoundIn a r → Tame X (heap_in a r) s → (c : ℕ) → X c → live? (heap_in a r) c ≡ true → LiveKept a r c (left a (heap_of s) (writes s) y)
  left-keeps X S t c x v =
      let h : Heap = heap_in a r in
      let w : List ℕ = arena_words a in
      let G : Good h = (lent-sound a r L S).good in
      let lo : Loose h c = live-loose h c v in
      let k = t.keeps c x lo in
      let m : 1 ≤ cnt c (starts h) = omega arith in
      let st = start h.tiles 0 c (tiled-tiles h G.shape) m in
      record {
        live = subst (λ (g : Heap). live? g c ≡ true) (sym left-heap) (loose-live (heap_of s) c E.now.good.shape k.0);
        size = ap (λ (g : Heap). size_of g c) left-heap ∙ k.1;
        bytes = λ i l u.
            let in? : i / 8 < length w = omega (arith, chunk-most h G c m, top-most h G) in
            byte-same (apply (writes s) w) w i i refl (omega (arith, apply-length (writes s) w)) in?
            (tame-words X h s w t c x lo (i / 8) (omega (arith, st.even)) (omega (arith, st.even, size-16 h c G.shape m)))
            ∙ ap (λ (b : List ℕ). get_or b i 0) (bytes-arena_words a (omega (arith, L.even)) L.bytes);
      }

  -- a block that is somewhere else after the step: of the words from the third on that it had and has room for, each byte
  pub left-moves : (c d z n : ℕ) → SoundIn a r → live? (heap_in a r) c ≡ true → Loose (heap_of s) d → z ≡ size_of (heap_in a r) c → n ≡ size_of (heap_of s) d
      → ((i : ℕ) → 2 ≤ i → i ≤ z / 8 → i ≤ n / 8 → get_or (apply (writes s) (arena_words a)) (d / 8 + i) 0 ≡ get_or (arena_words a) (c / 8 + i) 0)
      → (i : ℕ) → i + 8 < z → i + 8 < n → get_or (bytes 8 (apply (writes s) (arena_words a))) (d + 16 + i) 0 ≡ get_or a (c + 16 + i) 0
  left-moves c d z n S v ld ez en f i iz jn =
      let h : Heap = heap_in a r in
      let g : Heap = heap_of s in
      let w : List ℕ = arena_words a in
      let G : Good h = (lent-sound a r L S).good in
      let G' : Good g = E.now.good in
      let lo : Loose h c = live-loose h c v in
      let m : 1 ≤ cnt c (starts h) = omega arith in
      let m' : 1 ≤ cnt d (starts g) = omega arith in
      let st = start h.tiles 0 c (tiled-tiles h G.shape) m in
      let st' = start g.tiles 0 d (tiled-tiles g G'.shape) m' in
      let at : (c + 16 + i) / 8 ≡ c / 8 + (i / 8 + 2) = omega (arith, st.even) in
      let at' : (d + 16 + i) / 8 ≡ d / 8 + (i / 8 + 2) = omega (arith, st'.even) in
      let k : get_or (apply (writes s) w) ((d + 16 + i) / 8) 0 ≡ get_or w ((c + 16 + i) / 8) 0 =
      ap (λ (j : ℕ). get_or (apply (writes s) w) j 0) at' ∙ f (i / 8 + 2) (omega arith) (omega (arith, ez, size-16 h c G.shape m)) (omega (arith, en, size-16 g d G'.shape m'))
      ∙ ap (λ (j : ℕ). get_or w j 0) (sym at) in
      byte-same (apply (writes s) w) w (d + 16 + i) (c + 16 + i) (omega (arith, st.even, st'.even))
      (omega (arith, E.mem.long, en, chunk-most g G' d m', top-most g G')) (omega (arith, ez, chunk-most h G c m, top-most h G)) k
      ∙ ap (λ (b : List ℕ). get_or b (c + 16 + i) 0) (bytes-arena_words a (omega (arith, L.even)) L.bytes)
