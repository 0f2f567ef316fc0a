-- What follows from a repair of bytes that is not refused, by the names that reviewers ask for: what it leaves passes the audit, a second repair changes nothing, a held chunk is a
-- live block of its size with every usable byte, and a chunk that a list reached is free. Assumes nothing.
use Rattle.std.specs.Prelude.{◌≡◌, refl, List, Bool, true, false, ℕ, ◌*◌, ◌/◌, ◌%◌, ◌^◌, ◌≤◌, ◌<◌, length, get_or, Ok}
use Rattle.std.proofs.Common.{sym, ap, ◌∙◌, subst, arith}
use Rattle.le.specs.NumberLaws.{number_small}
use Rattle.le.specs.WordsLaws.{get_d_words}
use Rattle.le.specs.Arena.{arena_words}
use Rattle.le.specs.ArenaLaws.{length-arena_words, bytes-arena_words}
use Rattle.sizes.specs.Limits.{record_words, newest}
use Rattle.machine.specs.Lists.{cnt}
use Rattle.machine.specs.Heap.{Heap, starts, size_of, live?}
use Rattle.machine.specs.Writes.{Ran, heap_of, writes, apply}
use Rattle.machine.specs.Audit.{sound?, audit_by, audit_of}
use Rattle.machine.specs.Calls.{After, left, words_of, heap_in}
use Rattle.machine.specs.declared.Answer.TheVariants.{Done}
use Rattle.sound.specs.Relation.{Loose}
use Rattle.sound.specs.Tiles.{start}
use Rattle.sound.specs.Frames.{apply-length}
use Rattle.sound.specs.Apart.{tiled-tiles}
use Rattle.sound.specs.Edits.{size-16}
use Rattle.sound.specs.Ends.{Ends}
use Rattle.sound.specs.Live.{live-loose}
use Rattle.calls_consequences.specs.Bytes.{byte-same}
use Rattle.calls_consequences.specs.Written.{top-most, chunk-most}
use Rattle.calls_consequences.specs.Remainder.{Fine}
use Rattle.calls_consequences.specs.Results.{Lent, SoundIn, StaysSound, LiveKept, heap_left, arena_left, record_left}
use Rattle.calls_consequences.specs.Consequences.{clash}
use Rattle.calls_consequences.specs.Left.{left-heap, left-stays, lent-shape}
use Rattle.audit_reached.specs.Reached.{tiled?}
use Rattle.audit_reached.specs.Tiled.{Tiled, tiled-good}
use Rattle.repair.specs.Repair.{free?, repair}
use Rattle.repair.specs.RepairCall.{after_repair, repaired, repair_by, repair_call}
use Rattle.repair.proofs.MendedHeap.{repair-heap, repair-ends}
use Rattle.repair.proofs.Whole.{view-tiles, view-key}
use Rattle.repair.proofs.Ways.{left_is, by-sound, repair-cases}
use Rattle.repair.proofs.Held.{In, held_kept, free-freed}

-- a sound heap is left as it is
pub sound-left : (a r : List ℕ) → Lent a r → SoundIn a r → repair_call a r ≡ after_repair a r (Ok tt)
sound-left a r L S = sym (by-sound newest a r (words_of r) (audit_of (arena_words a) (words_of r)) (lent-shape a r L).1 refl refl S)

-- what a repair by the rules of version v leaves of any other whose record and tiles are good
abbrev pub mended_by : ℕ → List ℕ → List ℕ → After
mended_by v a r = left a (heap_of (repair (free? v (arena_words a) (words_of r)) (heap_in a r))) (writes (repair (free? v (arena_words a) (words_of r)) (heap_in a r))) (Ok Done)

-- ---- by the rules of version v the audit finds no fault of the record or of a tile
module _ (v : ℕ) (a r : List ℕ) (L : Lent a r) (t : tiled? (audit_by v (arena_words a) (words_of r)) ≡ true) where
  abbrev f : ℕ → Bool
  f = free? v (arena_words a) (words_of r)

  abbrev s : Ran (Unit {0})
  s = repair f (heap_in a r)

  good : Tiled (arena_words a) (words_of r)
  good = tiled-good v (arena_words a) (words_of r) t

  small : 8 * length (arena_words a) ≤ 262144
  small = omega (arith, length-arena_words a, L.most)

  halves : (i : ℕ) → i < 396 → get_or (words_of r) i 0 < 2 ^ 32
  halves i l = omega (arith, get_d_words 4 record_words r i l, number_small 4 r (4 * i) L.words)

  ends : Ends s (arena_words a) Fine
  ends =
      let J = good in
      let E = repair-ends f (heap_in a r) (arena_words a) (view-tiles v (arena_words a) (words_of r) J small halves) refl (view-key v (arena_words a) (words_of r) J small halves) J.edited in
      record { mem = E.mem; now = record { good = E.now; low = omega (arith, ap (λ (h : Heap). h.remainder) (repair-heap f (heap_in a r))) } }

  -- that is what the call leaves
  pub repair-mends : sound? (audit_by v (arena_words a) (words_of r)) ≡ false → repair_by v a r ≡ after_repair (arena_left (mended_by v a r)) (record_left (mended_by v a r)) (Ok tt)
  unfolding repair_by
  repair-mends u = rw ((lent-shape a r L).1, repair_by) (rw (u, repaired) (rw t)) ∙ left_is a s

  -- what it leaves passes the audit, and so later calls go on under demand 2
  pub repair-passes : StaysSound (mended_by v a r)
  repair-passes = left-stays a r s (Ok Done) L ends

  -- a second repair changes nothing
  pub repair-twice : repair_call (arena_left (mended_by v a r)) (record_left (mended_by v a r))
      ≡ after_repair (arena_left (mended_by v a r)) (record_left (mended_by v a r)) (Ok tt)
  repair-twice = sound-left _ _ repair-passes.lent repair-passes.sound

  -- a chunk that a list reached lies in one free chunk, or in the top
  pub reached-freed : (c : ℕ) → 1 ≤ cnt c (starts (heap_in a r)) → f c ≡ true → In (heap_left (mended_by v a r)) c (size_of (heap_in a r) c)
  reached-freed c i e =
      subst (λ (g : Heap). In g c (size_of (heap_in a r) c)) (sym (left-heap a r s (Ok Done) L ends ∙ repair-heap f (heap_in a r)))
      (free-freed f (heap_in a r) c (view-tiles v (arena_words a) (words_of r) good small halves) i e)

  -- every other chunk but the top is held: a live block of its size, with all its usable bytes
  pub held_keeps : (c : ℕ) → 1 ≤ cnt c (starts (heap_in a r)) → f c ≡ false → LiveKept a r c (mended_by v a r)
  held_keeps c i e =
      let w : List ℕ = arena_words a in
      let g : Heap = heap_of s in
      let G = ends.now.good in
      let k = held_kept f (heap_in a r) w c (view-tiles v w (words_of r) good small halves) i e in
      let lo : Loose g c = live-loose g c k.0 in
      let m : 1 ≤ cnt c (starts g) = omega arith in
      let st = start g.tiles 0 c (tiled-tiles g G.shape) m in
      let n : g.len ≡ 8 * length w = ap (λ (h : Heap). h.len) (repair-heap f (heap_in a r)) in
      let b : size_of g c % 16 ≡ 0 = size-16 g c G.shape m in
      record {
        live = subst (λ (g : Heap). live? g c ≡ true) (sym (left-heap a r s (Ok Done) L ends)) k.0;
        size = ap (λ (g : Heap). size_of g c) (left-heap a r s (Ok Done) L ends) ∙ k.1;
        bytes = λ x l u.
            let in? : x / 8 < length w = omega (arith, chunk-most g G c m, top-most g G, k.1, n, b, st.even) in
            byte-same (apply (writes s) w) w x x refl (omega (arith, apply-length (writes s) w)) in?
            (k.2 (x / 8) (omega (arith, st.even)) (omega (arith, st.even, k.1, b)))
            ∙ ap (λ (b : List ℕ). get_or b x 0) (bytes-arena_words a (omega (arith, L.even)) L.bytes);
      }

-- ---- any bytes: what is answered with 0 passes the audit
pub repaired-passes : (a r b q : List ℕ) → Lent a r → repair_call a r ≡ after_repair b q (Ok tt) → Lent b q × SoundIn b q
repaired-passes a r b q L =
    repair-cases (λ y. y ≡ after_repair b q (Ok tt) → Lent b q × SoundIn b q) newest a r
    (λ s e. clash (cc))
    (λ s g e. let k : a ≡ b = cc in let l : r ≡ q = cc in rw (← k, ← l) (L, g))
    (λ s t e. clash (cc))
    (λ s t e.
    let k = repair-passes newest a r L t in
    let m : after_repair (arena_left (mended_by newest a r)) (record_left (mended_by newest a r)) (Ok tt) ≡ after_repair b q (Ok tt) =
    sym (left_is a (repair (free? newest (arena_words a) (words_of r)) (heap_in a r))) ∙ e in
    let b' : arena_left (mended_by newest a r) ≡ b = cc in
    let q' : record_left (mended_by newest a r) ≡ q = cc in
    rw (← b', ← q') (k.lent, k.sound))
