-- A call that passed its audit: the words are those of the heap that the bytes spell, and what the steps below did with it is what the machine's call does.
-- Assumes nothing.
use Rattle.std.specs.Prelude.{◌≡◌, refl, Bool, true, false, List, ℕ, ◌*◌, ◌^◌, ◌≤◌, ◌<◌, eqb, leb, length, get_or, Result, Ok, Err}
use Rattle.std.proofs.Common.{sym, ap, ◌∙◌, subst, ⊎_elim, arith, ne_eqb, leb-true}
use Rattle.std.proofs.Math.ListN.{get_or-eq_default}
use Rattle.le.specs.Number.{bytes}
use Rattle.le.specs.Arena.{arena_words}
use Rattle.le.specs.NumberLaws.{number_small}
use Rattle.le.specs.WordsLaws.{length-words, get_d_words}
use Rattle.sizes.specs.Offsets.{chunk_of}
use Rattle.machine.specs.Heap.{Heap, live?}
use Rattle.machine.specs.Writes.{Ran, ran, giving}
use Rattle.machine.specs.Release.{release}
use Rattle.machine.specs.Audit.{sound?, audit_of, Audited}
use Rattle.machine.specs.Calls.{after, shape?, words_of, heap_in, release_call, job_call}
use Rattle.machine.specs.declared.Refusal.TheVariants as R
use Rattle.machine.specs.declared.Answer.TheVariants.{Done}
use Rattle.sound.specs.Relation.{Loose, Good, Sound}
use Rattle.sound.specs.Tiles.{lt-or-le}
use Rattle.sound.specs.Live.{live-loose}
use Rattle.sound.specs.Release.{both_true}
use Rattle.audit_walks.specs.Tests.{is-sound}
use Rattle.audit_walks.specs.Marks.{ArenaBytes}
use Rattle.audit.specs.Exact.{arena-words, audit-sound}
use Rattle.audit.specs.Looks.{live_mem?, look_at, look-is-faulty, look-tells, look-is-live, look-is-dead}
use Rattle.machine.specs.declared.Fault.{Fault}
use Rattle.primitives.specs.Follow as F
use Rattle.primitives.specs.Follow.{Has, answer, Gave, Does}
use Rattle.record_words.specs.CacheOnly.{Changes}
use Rattle.record_words.specs.declared.Changed.{Changed}
use Rattle.calls.specs.Ways.{Octets, kept, allowed-true, shape-allowed, job-unsound, job-done, release-unsound, release-null, release_dead, release-done}

-- good buffers, and the record's words q
pub record Came (a r q : List ℕ) : Type 0 where
  pub shape : shape? a r ≡ true
  pub small : (i : ℕ) → get_or r i 0 < 256
  pub words : q ≡ words_of r

-- as the code has it: the test of shape, bytes, and the words that were read
pub came : (a r q : List ℕ) (t : Bool) → t ≡ shape? a r → t ≡ true → ((i : ℕ) → get_or r i 0 < 256) → q ≡ words_of r → Came a r q
came a r q t e s l w = record { shape = sym e ∙ s; small = l; words = w }

pub came-arena : (a r q : List ℕ) → Came a r q → ArenaBytes a
came-arena a r q c = let l = allowed-true (length a) (shape-allowed a r c.shape) in record { even = l.0; least = l.1; small = l.2 }

-- an arena of the same length
pub octets : (a r q b : List ℕ) → Came a r q → length b ≡ length a → ((i : ℕ) → get_or b i 0 < 256) → Octets b
octets a r q b c e s = let l = allowed-true (length a) (shape-allowed a r c.shape) in record { even = omega (arith, l.0); small = s }

pub words_small : (r : List ℕ) → ((i : ℕ) → get_or r i 0 < 256) → (i : ℕ) → get_or (words_of r) i 0 < 2 ^ 32
words_small r s i =
    ⊎_elim
    (λ l. subst (λ (n : ℕ). n < 2 ^ 32) (sym (get_d_words 4 396 r i l)) (number_small 4 r (4 * i) s))
    (λ l. subst (λ (n : ℕ). n < 2 ^ 32) (sym (get_or-eq_default (words_of r) 0 (omega (arith, length-words 4 396 r)))) (omega arith))
    (lt-or-le i 396)

pub came-sound : (a r q : List ℕ) → Came a r q → sound? (audit_of (arena_words a) (words_of r)) ≡ true → Sound (heap_in a r) (arena_words a) (words_of r)
came-sound a r q c e =
    audit-sound (arena_words a) (words_of r) (arena-words a (came-arena a r q c)) (length-words 4 396 r) (words_small r c.small) (is-sound (audit_of (arena_words a) (words_of r)) e)

-- as the code has it: an answer about q
pub told : (a r q : List ℕ) (f : Audited) → Came a r q → f ≡ audit_of (arena_words a) q → (t : Bool) → sound? f ≡ t → sound? (audit_of (arena_words a) (words_of r)) ≡ t
told a r q f c e t s = ap (λ (l : List ℕ). sound? (audit_of (arena_words a) l)) (sym c.words) ∙ ap sound? (sym e) ∙ s

pub sound-ok : {h : Heap} {w r : List ℕ} → Sound h w r → F.Ok h w r
sound-ok s = record { shape = s.good.shape; mem = s.mem; rec = s.rec }

pub came-has : (a r q : List ℕ) (f : Audited) → Came a r q → f ≡ audit_of (arena_words a) q → sound? f ≡ true → Has Good (arena_words a) q
came-has a r q f c e s =
    let k = came-sound a r q c (told a r q f c e true s) in
    subst (Has Good (arena_words a)) (sym c.words) (record { heap = heap_in a r; ok = sound-ok k; holds = k.good })

-- ---- the two jobs
module _ (job : Heap → Ran (Unit {0})) (a r q : List ℕ) (f : Audited) (c : Came a r q) (e : f ≡ audit_of (arena_words a) q) where
  pub job-refused : sound? f ≡ false → after a r (Err R.Unsound) ≡ job_call job a r
  job-refused s = job-unsound job a r c.shape (told a r q f c e false s)

  pub job-through : (b v p : List ℕ) → sound? f ≡ true → Octets b → Does (Unit {0}) Good job (arena_words a) q tt (arena_words b) p → v ≡ bytes 4 p
      → after b v (Ok Done) ≡ job_call job a r
  job-through b v p s o d z =
      let t = told a r q f c e true s in
      let k = came-sound a r q c t in
      kept b v p (Ok Done) z
      (job-done job a r b p c.shape t o
      ((subst (λ (l : List ℕ). Does (Unit {0}) Good job (arena_words a) l tt (arena_words b) p) c.words d).does (heap_in a r) (sound-ok k) k.good))

-- what a step changed in the words that were read, it changed in the record's
pub came-changes : (a r q p : List ℕ) (x : Changed) → Came a r q → Changes x q p → Changes x (words_of r) p
came-changes a r q p x c k = subst (λ (l : List ℕ). Changes x l p) c.words k

-- ---- release and resize
pub looked : (a r q : List ℕ) (m : ℕ) (l : Result Bool Fault) → Came a r q → l ≡ look_at (arena_words a) q m → l ≡ look_at (arena_words a) (words_of r) m
looked a r q m l c e = e ∙ ap (λ (p : List ℕ). look_at (arena_words a) p m) c.words

pub release-refused : (a r q : List ℕ) (m : ℕ) (l : Result Bool Fault) (f : Fault) → Came a r q → l ≡ look_at (arena_words a) q m → l ≡ Err f → after a r (Err R.Unsound) ≡ release_call a r m
release-refused a r q m l f c e u = release-unsound a r m c.shape (look-is-faulty (arena_words a) (words_of r) f m (sym u ∙ looked a r q m l c e))

pub release-of-null : (a r q : List ℕ) (m : ℕ) (l : Result Bool Fault) (t : Bool) → Came a r q → l ≡ look_at (arena_words a) q m → l ≡ Ok t → eqb m 0 ≡ true → after a r (Ok Done) ≡ release_call a r m
release-of-null a r q m l t c e u z =
    release-null a r m c.shape (look-tells (arena_words a) (words_of r) m t (sym u ∙ looked a r q m l c e)).0 z

pub release-of-dead : (a r q : List ℕ) (m : ℕ) (l : Result Bool Fault) → Came a r q → l ≡ look_at (arena_words a) q m → l ≡ Ok false → eqb m 0 ≡ false
    → after a r (Err R.NotLive) ≡ release_call a r m
release-of-dead a r q m l c e u z =
    let d = look-is-dead (arena_words a) (words_of r) m (sym u ∙ looked a r q m l c e) in
    release_dead a r m c.shape d.0 z d.1

-- a live block: its mem is at least 16, its chunk is loose
pub record Lives (a r : List ℕ) (m : ℕ) : Type 0 where
  pub sound : sound? (audit_of (arena_words a) (words_of r)) ≡ true
  pub live : live_mem? (arena_words a) (words_of r) m ≡ true
  pub low : 16 ≤ m
  pub loose : Loose (heap_in a r) (chunk_of m)

pub lives : (a r q : List ℕ) (m : ℕ) (l : Result Bool Fault) → Came a r q → l ≡ look_at (arena_words a) q m → l ≡ Ok true → Lives a r m
lives a r q m l c e u =
    let d = look-is-live (arena_words a) (words_of r) m (sym u ∙ looked a r q m l c e) in
    let p = both_true (leb 16 m) (live? (heap_in a r) (chunk_of m)) d.1 in
    record { sound = d.0; live = d.1; low = leb-true 16 m p.0; loose = live-loose (heap_in a r) (chunk_of m) p.1 }

-- x is its chunk
pub lives-has : (a r q : List ℕ) (m x : ℕ) → x ≡ chunk_of m → Came a r q → Lives a r m → Has (λ h. Good h × Loose h x) (arena_words a) q
lives-has a r q m x e c v =
    let k = came-sound a r q c v.sound in
    subst (Has (λ h. Good h × Loose h x) (arena_words a)) (sym c.words) (record { heap = heap_in a r; ok = sound-ok k; holds = (k.good, subst (Loose (heap_in a r)) (sym e) v.loose) })

-- whatever a step answers
answers : {A : Type 0} (s : Ran A) {w v q : List ℕ} → Gave (Unit {0}) (giving tt s) tt w v q → Gave A s (answer s) w v q
answers (ran h ws x) m = record { says = refl; bytes = m.bytes; rec = m.rec }

pub release-through : (a r q b v p : List ℕ) (m x : ℕ) → x ≡ chunk_of m → Came a r q → Lives a r m → Octets b
    → Does (Unit {0}) (λ h. Good h × Loose h x) (λ h. giving tt (release x h)) (arena_words a) q tt (arena_words b) p → v ≡ bytes 4 p → after b v (Ok Done) ≡ release_call a r m
release-through a r q b v p m x e c i o D z =
    let d = subst (λ (x : ℕ). Does (Unit {0}) (λ h. Good h × Loose h x) (λ h. giving tt (release x h)) (arena_words a) q tt (arena_words b) p) e D in
    let k = came-sound a r q c i.sound in
    let n : eqb m 0 ≡ false = ne_eqb m 0 (λ y. omega (arith, i.low)) in
    kept b v p (Ok Done) z
    (release-done a r b p m (answer (release (chunk_of m) (heap_in a r))) c.shape i.sound n i.live o
    (answers (release (chunk_of m) (heap_in a r))
    ((subst (λ (l : List ℕ). Does (Unit {0}) (λ h. Good h × Loose h (chunk_of m)) (λ h. giving tt (release (chunk_of m) h)) (arena_words a) l tt (arena_words b) p) c.words d
    ).does (heap_in a r) (sound-ok k) (k.good, i.loose))))
