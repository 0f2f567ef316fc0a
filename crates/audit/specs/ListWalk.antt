-- A bin that the audit finds good can be walked for its skip links: its chunks are tiles, which the walk over the tiles found good, and in a bin from 64 on
-- they are large. Assumes nothing.
use Rattle.std.specs.Prelude.{◌≡◌, List, true, ℕ, ◌+◌, ◌*◌, ◌≤◌, ◌<◌, length}
use Rattle.std.proofs.Common.{subst, ⊎_elim, arith}
use Rattle.sizes.specs.Limits.{none64}
use Rattle.sizes.specs.BinLaws.{bin_of-wide}
use Rattle.machine.specs.Lists.{cnt}
use Rattle.machine.specs.Heap.{end_from}
use Rattle.machine.specs.View.{size_at, chunks_by, tiles_of}
use Rattle.machine.specs.Audit.{good_from}
use Rattle.machine.specs.declared.ListKind.{ListKind}
use Rattle.machine.specs.declared.ListKind.TheVariants.{Bin}
use Rattle.sound.specs.Relation.{chain, chain_by}
use Rattle.sound.specs.Tiles.{Start, start, starts-once}
use Rattle.audit_walks.specs.Tiles.{TilesOk, chunk_lies, chunks-lie-apart}
use Rattle.audit_walks.specs.Marks.{starts_of}
use Rattle.audit_lists.specs.Linked.{head_of, links_in, list_of, KindWalk}
use Rattle.audit.specs.Lists.{suits, Listed, list-sound}
use Rattle.audit.specs.Kinds.{bin-out}

-- left: the chunks that were not met when the list began
pub good-walk : (v : ℕ) (k : ListKind) (w r left : List ℕ) → TilesOk w 0 (tiles_of w) → 8 * length w ≤ 262144 → ((x : ℕ) → cnt x left ≤ cnt x (starts_of w))
    → length left < length w → good_from v k w r left none64 0 (list_of w r k) ≡ true → KindWalk k w r
unfolding list_of
good-walk v k w r left t small part few e = record {
  walk = λ j b. record {
    leads = found.head;
    chained = plainly j b;
    small = small;
    once = λ y. omega (arith, found.cnts y, part y, starts-once (tiles_of w) 0 y t.sizes);
    even = λ y m. (at y m).even;
    least = λ y m. (lies y m).0;
    inside = λ y m. omega (arith, (lies y m).1, t.top);
    apart = λ y z m n. chunks-lie-apart w 0 (tiles_of w) y z t.sizes t.words (own y m) (own z n);
  };
  roomy = λ j b h y m.
      let o = (bin-out v j w r none64 0 l (λ x i q. omega (arith, (at x i).high, t.top, small, q)) (plainly j b)
      (subst (λ (z : ListKind). suits v z w r none64 0 l) b found.good)).own y m in
      ⊎_elim (λ q. absurd (omega (arith, h, q))) (λ q. bin_of-wide (size_at w y) (omega (arith, h, q))) o;
}
  where
    l : List ℕ
    l = chunks_by (links_in r k) (length w) w (head_of r k)

    found : Listed v k w r left none64 0 (head_of r k) l
    found = list-sound v (length w) k w r left none64 0 (head_of r k) few e

    -- the links of a bin are as they are
    plainly : (j : ℕ) → k ≡ Bin j → chain w l
    plainly j b = subst (λ (z : ListKind). chain_by (links_in r z) w l) b found.links

    own : (y : ℕ) → 1 ≤ cnt y l → 1 ≤ cnt y (starts_of w)
    own y m = omega (arith, m, found.cnts y, part y)

    at : (y : ℕ) → 1 ≤ cnt y l → Start (tiles_of w) 0 y
    at y m = start (tiles_of w) 0 y t.sizes (own y m)

    lies : (y : ℕ) → 1 ≤ cnt y l → (32 ≤ size_at w y) × (y + size_at w y ≤ end_from 0 (tiles_of w))
    lies y m = chunk_lies w 0 (tiles_of w) y t.sizes t.words (own y m)
