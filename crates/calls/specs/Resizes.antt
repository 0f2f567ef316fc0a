-- A resize of a block to another length than 0: each refusal, and what the steps did, are the machine's. Assumes nothing.
use Rattle.std.specs.Prelude.{◌≡◌, Bool, false, List, ℕ, ◌+◌, eqb, Option, Some, None, Result, Ok, Err}
use Rattle.std.proofs.Common.{sym, ap, ◌∙◌, subst}
use Rattle.le.specs.Number.{bytes}
use Rattle.le.specs.Arena.{arena_words}
use Rattle.sizes.specs.Sizes.{need, usable}
use Rattle.sizes.specs.SizesLaws.{need-bounds}
use Rattle.sizes.specs.Offsets.{chunk_of}
use Rattle.sizes.specs.Needed.{needed_of}
use Rattle.machine.specs.Writes.{heap_of}
use Rattle.machine.specs.Resize.{resize}
use Rattle.machine.specs.View.{size_at}
use Rattle.machine.specs.Calls.{after, heap_in, words_of, resize_call, Answered}
use Rattle.machine.specs.declared.Refusal.TheVariants as R
use Rattle.machine.specs.declared.Answer.TheVariants.{Granted}
use Rattle.sound.specs.Relation.{Loose, Good, Sound}
use Rattle.sound.specs.Moves.{answer_of}
use Rattle.sound.specs.Ends.{Ends}
use Rattle.sound.specs.Keeps.{resize-ends}
use Rattle.sound.specs.Live.{resize-resizes}
use Rattle.audit.specs.Looks.{look_at, look-is-faulty, look-is-dead}
use Rattle.machine.specs.declared.Fault.{Fault}
use Rattle.primitives.specs.Follow.{Gave, Does}
use Rattle.calls.specs.Ways.{Octets, kept, resize-request, resize-unsound, resize-dead, resize-none, resize-at}
use Rattle.calls.specs.Through.{Came, came-sound, sound-ok, looked, Lives}
use Rattle.calls.specs.Grants.{needed-large, Sized, Stands, found-size, found-stands}

module _ (a r : List ℕ) (m n : ℕ) (y : (eqb m 0 ≡ false) × (eqb n 0 ≡ false)) (q : List ℕ) (c : Came a r q) where
  pub resize-large : (x : Option ℕ) → x ≡ needed_of n → x ≡ None → after a r (Err R.Request) ≡ resize_call a r m n
  resize-large x e f = resize-request a r m n y.0 y.1 c.shape (needed-large n (sym e ∙ f))

  module _ (k : ℕ) (z : Sized n k) where
    pub resize-refused : (l : Result Bool Fault) (f : Fault) → l ≡ look_at (arena_words a) q m → l ≡ Err f → after a r (Err R.Unsound) ≡ resize_call a r m n
    resize-refused l f e u =
        resize-unsound a r m n y.0 y.1 c.shape z.small (look-is-faulty (arena_words a) (words_of r) f m (sym u ∙ looked a r q m l c e))

    pub resize-of-dead : (l : Result Bool Fault) → l ≡ look_at (arena_words a) q m → l ≡ Ok false → after a r (Err R.NotLive) ≡ resize_call a r m n
    resize-of-dead l e u =
        let d = look-is-dead (arena_words a) (words_of r) m (sym u ∙ looked a r q m l c e) in
        resize-dead a r m n y.0 y.1 c.shape z.small d.0 d.1

    -- ---- what the steps did: x is the block's chunk
    module _ (v : Lives a r m) (x : ℕ) (w : x ≡ chunk_of m) (b p : List ℕ) (g : Option ℕ)
        (d : Does (Option ℕ) (λ h. Good h × Loose h x) (resize x k) (arena_words a) q g (arena_words b) p) where
      heard : Sound (heap_in a r) (arena_words a) (words_of r)
      heard = came-sound a r q c v.sound

      gave : Gave (Option ℕ) (resize (chunk_of m) (need n) (heap_in a r)) g (arena_words a) (arena_words b) p
      gave =
          subst (λ (x : ℕ). Gave (Option ℕ) (resize x (need n) (heap_in a r)) g (arena_words a) (arena_words b) p) w
          (subst (λ (k : ℕ). Gave (Option ℕ) (resize x k (heap_in a r)) g (arena_words a) (arena_words b) p) z.is
          ((subst (λ (l : List ℕ). Does (Option ℕ) (λ h. Good h × Loose h x) (resize x k) (arena_words a) l g (arena_words b) p) c.words d
          ).does (heap_in a r) (sound-ok heard) (heard.good, subst (Loose (heap_in a r)) (sym w) v.loose)))

      ends : Ends (resize (chunk_of m) (need n) (heap_in a r)) (arena_words a) Good
      ends = resize-ends (need n) (need-bounds n).whole (need-bounds n).least (heap_in a r) (arena_words a) heard.good heard.mem (chunk_of m) v.loose

      loose : (d : ℕ) → answer_of (resize (chunk_of m) (need n) (heap_in a r)) ≡ Some d → Loose (heap_of (resize (chunk_of m) (need n) (heap_in a r))) d
      loose d e = ((resize-resizes (need n) (need-bounds n).whole (need-bounds n).least (heap_in a r) (arena_words a) heard.good heard.mem (chunk_of m) v.loose).given d e).0

      pub resize-through-none : (l : List ℕ) → g ≡ None → Octets b → l ≡ bytes 4 p → after b l (Err R.NoRoom) ≡ resize_call a r m n
      resize-through-none l e o i =
          kept b l p (Err R.NoRoom) i
          (resize-none a r m n y.0 y.1 c.shape z.small v.sound v.live b p o
          (subst (λ (x : Option ℕ). Gave (Option ℕ) (resize (chunk_of m) (need n) (heap_in a r)) x (arena_words a) (arena_words b) p) e gave))

      pub resize-stands : (d : ℕ) → g ≡ Some d → Octets b → Stands b d
      resize-stands d e o = found-stands a b p (resize (chunk_of m) (need n) (heap_in a r)) g gave ends loose d e o

      pub resize-through-at : (d : ℕ) → g ≡ Some d → (l : List ℕ) (u : Answered) → Octets b → l ≡ bytes 4 p → u ≡ Ok (Granted (d + 16) (usable (size_at (arena_words b) d)))
          → after b l u ≡ resize_call a r m n
      resize-through-at d e l u o i f =
          ap (after b l) f
          ∙ kept b l p (Ok (Granted (d + 16) (usable (size_at (arena_words b) d)))) i
          (resize-at a r m n y.0 y.1 c.shape z.small v.sound v.live b p d (usable (size_at (arena_words b) d)) o
          (subst (λ (x : Option ℕ). Gave (Option ℕ) (resize (chunk_of m) (need n) (heap_in a r)) x (arena_words a) (arena_words b) p) e gave)
          (ap usable (found-size a b p (resize (chunk_of m) (need n) (heap_in a r)) g gave ends loose d e)))
