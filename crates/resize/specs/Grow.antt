-- A block takes from the top, and the code follows the machine. By the tiles before it, which are all but it. Assumes nothing.
use Rattle.std.specs.Prelude.{◌≡◌, refl, List, [], ◌∷◌, ◌++◌, ℕ, ◌+◌, ◌-◌, ◌*◌, ◌%◌, ◌≤◌, length, get_or, set}
use Rattle.std.proofs.Common.{sym, ap, ◌∙◌, subst, arith}
use Rattle.sizes.specs.Layout.{length_word, top_word, size_word}
use Rattle.machine.specs.Heap.{Tile, tile, Heap, end_from, top_of, top_size, record_of}
use Rattle.machine.specs.Writes.{size, put}
use Rattle.machine.specs.Primitives.{grow_top}
use Rattle.sound.specs.Relation.{tiled}
use Rattle.sound.specs.Tiles.{tiled-split, end-le, end-append, Place, place}
use Rattle.sound.specs.Apart.{tiled-tiles}
use Rattle.sound.specs.Edits.{snoc-end, grow-is, size-place}
use Rattle.sound.specs.RecordOf.{record-with_tiles}
use Rattle.primitives.specs.Follow.{Ok, Gave}
use Rattle.primitives.specs.FollowLaws.{gave-by, ok-len}
use Rattle.release_join.specs.Reads.{Reads, reads, all-at, loose-reads}
use Rattle.resize.specs.States.{Grows}

-- ---- c takes from the top: c and the top after it in an arena of n bytes, of which the heap has l
pub record Growing (n l c b : ℕ) : Type 0 where
  pub even : c % 16 ≡ 0
  pub high : c + b + 32 ≤ l
  pub inside : l ≤ n
  pub small : l ≤ 262144

pub growing : (h : Heap) (w r : List ℕ) (c b : ℕ) → Ok h w r → Grows h c b → (m : ℕ) → 8 * length w ≤ m → Growing m (get_or r length_word 0) c b
growing h w r c b o G m i =
    let f : tiled h.tiles × tiled (tile (top_size h) 1 0 ∷ []) = tiled-split h.tiles (tile (top_size h) 1 0 ∷ []) o.shape.sizes in
    let len = ok-len h w r o in
    record {
      even = (loose-reads h w r o c G.loose).reads.even;
      high = omega (arith, len, G.top, G.enough, f.1.1);
      inside = omega (arith, len, o.mem.long);
      small = omega (arith, len, o.shape.small);
    }

grow-at : (h : Heap) (w r : List ℕ) (a : List Tile) (t : Tile) (l : List Tile) (b : ℕ) → Ok h w r → h.tiles ≡ a ++ t ∷ l → end_from 0 a + t.size ≡ top_of h → {v u : List ℕ}
    → v ≡ put (size (end_from 0 a) b (get_or w (size_word (end_from 0 a)) 0 % 2)) w → u ≡ put (size (end_from 0 a + b) (get_or r length_word 0 - (end_from 0 a + b)) 1) v
    → Gave (Unit {0}) (grow_top (end_from 0 a) b h) tt w u (set r top_word (end_from 0 a + b))
grow-at h w r a t (x ∷ l) b o e tp i j =
    let f : tiled a × tiled (t ∷ x ∷ l) = tiled-split a (t ∷ x ∷ l) (subst tiled e (tiled-tiles h o.shape)) in
    absurd (omega (arith, tp, ap (end_from 0) e, end-append 0 a (t ∷ x ∷ l), end-le (end_from 0 a + t.size + x.size) l, f.1.3.1))
grow-at h w r a t [] b o e tp {v} {u} i j =
    let c : ℕ = end_from 0 a in
    let k : Reads w c t = reads h w r o a (tile (top_size h) 1 0 ∷ []) t (all-at h a (t ∷ []) e) in
    let U : Tile = tile b t.p t.prev in
    gave-by (grow-is h a t b e o.shape) (record {
      says = refl;
      bytes = j ∙ ap (λ (n : ℕ). put (size (c + b) (n - (c + b)) 1) v) (ok-len h w r o) ∙ ap (put (size (c + b) (h.len - (c + b)) 1)) i
          ∙ ap (λ (p : ℕ). put (size (c + b) (h.len - (c + b)) 1) (put (size c b p) w)) k.p;
      rec = ap (λ (r : List ℕ). set r top_word (c + b)) o.rec ∙ ap (set (record_of h) top_word) (sym (snoc-end a U)) ∙ sym (record-with_tiles h (a ++ U ∷ []));
    })

pub grow-gave : (h : Heap) (w r : List ℕ) (c b : ℕ) → Ok h w r → Grows h c b → {v u : List ℕ} → v ≡ put (size c b (get_or w (size_word c) 0 % 2)) w
    → u ≡ put (size (c + b) (get_or r length_word 0 - (c + b)) 1) v → Gave (Unit {0}) (grow_top c b h) tt w u (set r top_word (c + b))
grow-gave h w r c b o G {v} {u} i j =
    let P : Place h.tiles 0 c = place h.tiles 0 c (omega (arith, G.loose)) in
    let x : ℕ = end_from 0 P.a in
    let tp : x + P.t.size ≡ top_of h = omega (arith, G.top, P.at, (size-place h c o.shape P).0) in
    subst (λ (c : ℕ). Gave (Unit {0}) (grow_top c b h) tt w u (set r top_word (c + b))) (sym P.at)
    (grow-at h w r P.a P.t P.z b o P.tiles tp (i ∙ ap (λ (c : ℕ). put (size c b (get_or w (size_word c) 0 % 2)) w) P.at)
    (j ∙ ap (λ (c : ℕ). put (size (c + b) (get_or r length_word 0 - (c + b)) 1) v) P.at))
