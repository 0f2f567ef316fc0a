-- Step 9, as the code does it, follows the machine: the record has the top and the length, and the top's size is what lies between. Assumes nothing.
use Rattle.std.specs.Prelude.{◌≡◌, refl, List, [], ◌∷◌, ◌++◌, ℕ, ◌+◌, ◌-◌, ◌%◌, ◌≤◌, ◌<◌, length, get_or, set, Option, Some, None}
use Rattle.std.proofs.Common.{sym, ap, ◌∙◌, arith}
use Rattle.std.proofs.Math.Bool.{true, false}
use Rattle.std.proofs.Math.Dec.{leb}
use borrow.Author.Tests.{le-leb, lt-leb}
use Rattle.le.specs.Arena.{arena_words}
use Rattle.le.specs.ArenaLaws.{length-arena_words}
use Rattle.sizes.specs.Layout.{length_word, top_word}
use Rattle.machine.specs.Heap.{tile, Heap, top_of, top_size, record_of}
use Rattle.machine.specs.Writes.{size, put, nothing}
use Rattle.machine.specs.Primitives.{cut_top}
use Rattle.machine.specs.Grant.{step9}
use Rattle.sound.specs.Relation.{Good}
use Rattle.sound.specs.Tiles.{tiled-split, end-even}
use Rattle.sound.specs.Apart.{tiled-tiles}
use Rattle.sound.specs.Edits.{snoc-end}
use Rattle.sound.specs.RecordOf.{record-with_tiles}
use Rattle.primitives.specs.Follow.{Ok, Has, Gave, Does}
use Rattle.primitives.specs.FollowLaws.{gave-by, gave-none, ok-len, ok-top}

-- the top t in an arena of n bytes, of which the heap has l
pub record TopAt (n t l : ℕ) : Type 0 where
  pub even : t % 16 ≡ 0
  pub room : t + 32 ≤ l
  pub inside : l ≤ n
  pub small : l ≤ 262144

pub top-at : (a r : List ℕ) → Has Good (arena_words a) r → TopAt (length a) (get_or r top_word 0) (get_or r length_word 0)
top-at a r H =
    let h = H.heap in
    let o = H.ok in
    let s = o.shape in
    let f = (tiled-split h.tiles (tile (top_size h) 1 0 ∷ []) s.sizes).1 in
    let t = ok-top h (arena_words a) r o in
    let l = ok-len h (arena_words a) r o in
    let e : top_of h % 16 ≡ 0 = end-even 0 h.tiles refl (tiled-tiles h s) in
    record { even = omega arith; room = omega (arith, f.1); inside = omega (arith, o.mem.long, length-arena_words a); small = omega (arith, s.small) }

module _ (b : ℕ) (h : Heap) where
  nine-short : top_size h < b + 32 → step9 b h ≡ nothing h
  unfolding step9
  nine-short l = let t : leb (b + 32) (top_size h) ≡ false = lt-leb (b + 32) (top_size h) l in rw (t, step9)

  nine-cut : b + 32 ≤ top_size h → step9 b h ≡ cut_top b h
  unfolding step9
  nine-cut l = let t : leb (b + 32) (top_size h) ≡ true = le-leb (b + 32) (top_size h) l in rw (t, step9)

module _ (b : ℕ) (w r : List ℕ) where
  pub short9 : get_or r length_word 0 - get_or r top_word 0 < b + 32 → Does (Option ℕ) Good (step9 b) w r None w r
  short9 l = record { does = λ h o g. gave-by (nine-short b h (omega (arith, l, ok-len h w r o, ok-top h w r o))) (gave-none h None w r o.rec) }

  pub took9 : (v u : List ℕ) → b + 32 ≤ get_or r length_word 0 - get_or r top_word 0 → v ≡ put (size (get_or r top_word 0) b 1) w
      → u ≡ put (size (get_or r top_word 0 + b) (get_or r length_word 0 - get_or r top_word 0 - b) 1) v
      → Does (Option ℕ) Good (step9 b) w r (Some (get_or r top_word 0)) u (set r top_word (get_or r top_word 0 + b))
  took9 v u l e f = record { does = λ h o g. gave-by (nine-cut b h (omega (arith, l, ok-len h w r o, ok-top h w r o))) (gave h o) }
    where
      gave : (h : Heap) → Ok h w r → Gave (Option ℕ) (cut_top b h) (Some (get_or r top_word 0)) w u (set r top_word (get_or r top_word 0 + b))
      gave h o =
          let t : ℕ = top_of h in
          let et = ok-top h w r o in
          let z : get_or r length_word 0 - get_or r top_word 0 - b ≡ h.len - (t + b) = omega (arith, et, ok-len h w r o) in
          let x : ℕ = get_or r length_word 0 - get_or r top_word 0 - b in
          record {
            says = ap (λ (t : ℕ). (Some t)) (sym et);
            bytes = f ∙ ap (put (size (get_or r top_word 0 + b) x 1)) e ∙ ap (λ (t : ℕ). put (size (t + b) x 1) (put (size t b 1) w)) et
                ∙ ap (λ (x : ℕ). put (size (t + b) x 1) (put (size t b 1) w)) z;
            rec = ap (λ (t : ℕ). set r top_word (t + b)) et ∙ ap (λ (r : List ℕ). set r top_word (t + b)) o.rec
                ∙ ap (set (record_of h) top_word) (sym (snoc-end h.tiles (tile b 1 0))) ∙ sym (record-with_tiles h (h.tiles ++ tile b 1 0 ∷ []));
          }
