-- No call changes bytes 0 to 7 of the arena: no write of a step goes to the arena's first word. Of bytes of good shape; of any others a call leaves the arena
-- as it was. Assumes nothing.
use Rattle.std.specs.Prelude.{◌≡◌, refl, List, [], ◌∷◌, ℕ, ◌-◌, ◌/◌, ◌<◌, length, get_or}
use Rattle.std.proofs.Common.{ap, ◌∙◌, arith}
use Rattle.le.specs.Number.{bytes}
use Rattle.le.specs.Arena.{arena_words}
use Rattle.le.specs.ArenaLaws.{length-arena_words, bytes-arena_words}
use Rattle.sizes.specs.Sizes.{need}
use Rattle.sizes.specs.SizesLaws.{need-bounds}
use Rattle.machine.specs.Heap.{Heap}
use Rattle.machine.specs.Writes.{Write, size, apply, Ran, writes}
use Rattle.machine.specs.Release.{release, emptying, joining}
use Rattle.machine.specs.Grant.{grant}
use Rattle.machine.specs.Resize.{resize}
use Rattle.machine.specs.Calls.{After, words_of, heap_in, open_call, grant_call, release_call, resize_call, job_call, emptying_call, joining_call}
use Rattle.sound.specs.Relation.{Sound}
use Rattle.sound.specs.Frames.{apply-length}
use Rattle.sound.specs.Spares.{Past, past_first}
use Rattle.sound.specs.Release.{release-leaves}
use Rattle.sound.specs.Grant.{grant-leaves}
use Rattle.sound.specs.Resize.{resize-resized}
use Rattle.sound.specs.Live.{live-loose}
use Rattle.calls_consequences.specs.Bytes.{byte-same}
use Rattle.calls_consequences.specs.Results.{Lent, SoundIn, arena_left, LiveMem}
use Rattle.calls_consequences.specs.Left.{lent-sound}
use Rattle.calls_consequences.specs.Cases.{open-cases, grant-cases, release-cases, resize-cases, job-cases}
use Rattle.calls_consequences.specs.Consequences.{Job, emptying-job, joining-job}

-- a call that leaves bytes 0 to 7 of the arena a as they were
abbrev pub FirstKept : List ℕ → After → Type 0
FirstKept a x = (i : ℕ) → i < 8 → get_or (arena_left x) i 0 ≡ get_or a i 0

module _ (a r : List ℕ) (L : Lent a r) where
  kept : (ws : List Write) → Past ws → (i : ℕ) → i < 8 → get_or (bytes 8 (apply ws (arena_words a))) i 0 ≡ get_or a i 0
  kept ws p i l =
      let w : List ℕ = arena_words a in
      let e : i / 8 ≡ 0 = omega arith in
      let n : 0 < length w = omega (arith, length-arena_words a, L.least) in
      byte-same (apply ws w) w i i refl (omega (arith, apply-length ws w)) (omega arith) (rw e (past_first ws w p))
      ∙ ap (λ (b : List ℕ). get_or b i 0) (bytes-arena_words a (omega (arith, L.even)) L.bytes)

  heard : SoundIn a r → Sound (heap_in a r) (arena_words a) (words_of r)
  heard S = lent-sound a r L S

  grant-past : (n : ℕ) → SoundIn a r → Past (writes (grant (need n) (heap_in a r)))
  grant-past n S = (grant-leaves (need n) (need-bounds n).whole (need-bounds n).least (heap_in a r) (arena_words a) (heard S).good (heard S).mem).moved.past

  release-past : (m : ℕ) → SoundIn a r → LiveMem a r m → Past (writes (release (m - 16) (heap_in a r)))
  release-past m S v = (release-leaves (heap_in a r) (arena_words a) (m - 16) (heard S).good (heard S).mem (live-loose (heap_in a r) (m - 16) v.1)).moved.past

  resize-past : (m n : ℕ) → SoundIn a r → LiveMem a r m → Past (writes (resize (m - 16) (need n) (heap_in a r)))
  resize-past m n S v =
      (resize-resized (heap_in a r) (arena_words a) (m - 16) (need n) (heard S).good (heard S).mem (live-loose (heap_in a r) (m - 16) v.1) (need-bounds n).whole (need-bounds n).least
      ).leaves.moved.past

  open-first : (q d : ℕ) → FirstKept a (open_call a r q d)
  open-first q d = open-cases a r q d L (FirstKept a) (kept (size 0 (length a) 1 ∷ []) (omega arith, tt)) (λ i j. refl)

  grant-first : (n : ℕ) → FirstKept a (grant_call a r n)
  grant-first n =
      let ws : List Write = writes (grant (need n) (heap_in a r)) in
      grant-cases a r L (FirstKept a) n (λ l i j. refl) (λ U i j. refl) (λ l S q. kept ws (grant-past n S)) (λ l S c q. kept ws (grant-past n S))

  release-first : (m : ℕ) → FirstKept a (release_call a r m)
  release-first m = release-cases a r L (FirstKept a) m
      (λ U i j. refl) (λ S z i j. refl) (λ S z d i j. refl) (λ S v. kept (writes (release (m - 16) (heap_in a r))) (release-past m S v))

  job-first : (f : Heap → Ran (Unit {0})) → Job f → FirstKept a (job_call f a r)
  job-first f J = job-cases a r L (FirstKept a) f (λ U i j. refl)
      (λ S. kept (writes (f (heap_in a r))) (J.moved (heap_in a r) (arena_words a) (heard S).good (heard S).mem).past)

  resize-first : (m n : ℕ) → FirstKept a (resize_call a r m n)
  resize-first m n =
      let ws : List Write = writes (resize (m - 16) (need n) (heap_in a r)) in
      resize-cases a r L (FirstKept a) m n
      (λ z. grant-first n) (λ z k. release-first m) (λ z l i j. refl) (λ z k U i j. refl) (λ z k S d i j. refl)
      (λ k i S v q. kept ws (resize-past m n S v)) (λ k i S v c q. kept ws (resize-past m n S v))

  pub first-bytes-kept : (q d m n : ℕ) → FirstKept a (open_call a r q d) × FirstKept a (grant_call a r n) × FirstKept a (release_call a r m)
      × FirstKept a (resize_call a r m n) × FirstKept a (emptying_call a r) × FirstKept a (joining_call a r)
  first-bytes-kept q d m n =
      (open-first q d, grant-first n, release-first m, resize-first m n, job-first emptying emptying-job, job-first joining joining-job)
