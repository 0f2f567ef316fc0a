-- Joining as the code does it follows the machine. Assumes nothing.
use Rattle.std.specs.Prelude.{◌≡◌, refl, ℕ}
use Rattle.std.proofs.Math.Path.{sym, ap}
use Rattle.std.proofs.Common.{◌∙◌}
use mathlib.Core.List.{List}
use Rattle.std.proofs.Math.ListN.{set}
use Rattle.sizes.specs.Limits.{none32}
use Rattle.sizes.specs.Layout.{remainder_word}
use Rattle.machine.specs.Heap.{Heap}
use Rattle.machine.specs.Writes.{heap_of}
use Rattle.machine.specs.Primitives.{set_remainder}
use Rattle.machine.specs.Release.{consolidate, joining}
use Rattle.sound.specs.Relation.{Good}
use Rattle.sound.specs.RecordOf.{record-with_remainder}
use Rattle.primitives.specs.Follow.{Ok, Gave, Does}
use Rattle.primitives.specs.FollowLaws.{gave_then}

module _ (h : Heap) (w r : List ℕ) (o : Ok h w r) (g : Good h) where
  pub joining-gave : {v q q' : List ℕ} → Does (Unit {0}) Good consolidate w r tt v q → q' ≡ set q remainder_word none32 → Gave (Unit {0}) (joining h) tt w v q'
  unfolding joining
  joining-gave {v} {q} D e =
      let C : Gave (Unit {0}) (consolidate h) tt w v q = D.does h o g in
      gave_then (consolidate h) (λ h. set_remainder none32 h) tt tt C
      (record {
        says = refl;
        bytes = refl;
        rec = e ∙ ap (λ (r : List ℕ). set r remainder_word none32) C.rec
            ∙ sym (record-with_remainder (heap_of (consolidate h)) none32);
      })
