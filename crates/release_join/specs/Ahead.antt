-- What stands after a chunk c of size z, as the code reads it: the chunk after it, and behind that one the P that tells whether it is binned. By the tiles from
-- c on. Assumes nothing.
use Rattle.std.specs.Prelude.{◌≡◌, refl, Bool, true, false, List, [], ◌∷◌, ◌++◌, ℕ, ◌+◌, ◌*◌, ◌%◌, ◌≤◌, length, get_or}
use Rattle.std.proofs.Common.{sym, ap, ◌∙◌, subst, arith, eqb-true}
use Rattle.std.proofs.lemmas.Bool.{eqb-false}
use Rattle.sizes.specs.Layout.{length_word, top_word, size_word}
use Rattle.sizes.specs.SizeWord.{p_of_word}
use Rattle.machine.specs.Heap.{Tile, tile, Heap, end_from, top_size, size_of, next, binned}
use Rattle.machine.specs.View.{size_at}
use Rattle.sound.specs.Relation.{tiled, flags}
use Rattle.sound.specs.Tiles.{tiled-split}
use Rattle.sound.specs.Apart.{size-at, tiled-tiles}
use Rattle.sound.specs.Edits.{snoc-end, snoc-tiles}
use Rattle.sound.specs.Flags.{flags_after}
use Rattle.primitives.specs.Follow.{Ok}
use Rattle.primitives.specs.FollowLaws.{ok-len, ok-top}
use Rattle.primitives.specs.Chunks.{Inside}
use Rattle.primitives.specs.Stacks.{ok-length}
use Rattle.release_join.specs.Reads.{Reads, reads, all-at, reads-inside}

-- c, of size z, and P and end notes in order behind the chunk after it
pub record Ahead (h : Heap) (c z : ℕ) : Type 0 where
  pub a : List Tile
  pub t : Tile
  pub r : List Tile
  pub at : c ≡ end_from 0 a
  pub whole : z ≡ t.size
  pub tiles : h.tiles ≡ a ++ t ∷ r
  pub high : flags_after (λ x. binned h x) (end_from 0 a + t.size) (r ++ tile (top_size h) 1 0 ∷ [])

-- ---- what the code needs for its own safety, in m bytes of arena: c, of size z, and what stands after it
pub record Nearby (m : ℕ) (w r : List ℕ) (c z : ℕ) : Type 0 where
  pub here : Inside m c
  pub after : Inside m (c + z)
  pub long : length r ≡ 396
  pub within : c + z ≤ get_or r length_word 0
  pub most : get_or r length_word 0 ≤ 262144
  pub beyond : (c + z ≡ get_or r top_word 0 → ⊥) → (y : ℕ) → y ≡ size_at w (c + z) → Inside m (c + z + y)

head_of : (z : List Tile) (T : Tile) → (v : Tile) × (y : List Tile) × (z ++ T ∷ [] ≡ v ∷ y)
head_of [] T = (T, [], refl)
head_of (v ∷ z) T = (v, z ++ T ∷ [], refl)

module _ (h : Heap) (w r : List ℕ) (c z : ℕ) (o : Ok h w r) (A : Ahead h c z) where
  abbrev a : List Tile
  a = A.a

  abbrev t : Tile
  t = A.t

  abbrev T : Tile
  T = tile (top_size h) 1 0

  pub here : Reads w c A.t
  here = subst (λ (c : ℕ). Reads w c t) (sym A.at) (reads h w r o a (A.r ++ T ∷ []) t (all-at h a (t ∷ A.r) A.tiles))

  pub after_is : end_from 0 (A.a ++ A.t ∷ []) ≡ c + z
  after_is = snoc-end a t ∙ (let e : end_from 0 a + t.size ≡ c + z = omega (arith, A.at, A.whole) in e)

  pub size_is : size_of h c ≡ z
  size_is = ap (size_of h) A.at ∙ size-at h a A.r t A.tiles (tiled-split a (t ∷ A.r) (subst tiled A.tiles (tiled-tiles h o.shape))).0 ∙ sym A.whole

  pub next-is : next h c ≡ c + z
  next-is = ap (λ (z : ℕ). c + z) size_is

  after-reads : (y : Tile) × Reads w (c + z) y
  after-reads =
      let H = head_of A.r T in
      let a₁ : List Tile = a ++ t ∷ [] in (
        H.0,
        subst (λ (x : ℕ). Reads w x H.0) after_is (reads h w r o a₁ H.1 H.0
            (all-at h a₁ A.r (A.tiles ∙ sym (snoc-tiles a A.r t)) ∙ ap (λ (l : List Tile). a₁ ++ l) H.2)),
      )

  -- what stands after c, where that is not the top
  pub record Beyond : Type 0 where
    pub u : Tile
    pub y : List Tile
    pub tiles : h.tiles ≡ A.a ++ A.t ∷ u ∷ y
    pub reads : Reads w (c + z) u
    pub last : Tile
    pub lastly : Reads w (c + z + u.size) last
    pub bit : last.p + binned h (c + z) ≡ 1

  pub beyond : (c + z ≡ get_or r top_word 0 → ⊥) → Beyond
  beyond ne = go A.r refl
    where
      tiled : (l : List Tile) → A.r ≡ l → h.tiles ≡ a ++ t ∷ l
      tiled l e = A.tiles ∙ ap (λ (r : List Tile). a ++ t ∷ r) e

      go : (l : List Tile) → A.r ≡ l → Beyond
      go [] e = absurd (ne (sym (ok-top h w r o ∙ ap (end_from 0) (tiled [] e) ∙ after_is)))
      go (u ∷ y) e =
          let b : ℕ → ℕ = λ x. binned h x in
          let a₁ : List Tile = a ++ t ∷ [] in
          let a₂ : List Tile = a₁ ++ u ∷ [] in
          let H = head_of y T in
          let n₂ : end_from 0 a₂ ≡ c + z + u.size = snoc-end a₁ u ∙ ap (λ (x : ℕ). x + u.size) after_is in
          let e₁ : h.tiles ≡ a₁ ++ u ∷ y = tiled (u ∷ y) e ∙ sym (snoc-tiles a (u ∷ y) t) in
          let F : flags b (end_from 0 a + t.size + u.size) (b (end_from 0 a + t.size)) u.size (H.0 ∷ H.1) =
          subst (flags b (end_from 0 a + t.size + u.size) (b (end_from 0 a + t.size)) u.size) H.2
          (subst (λ (r : List Tile). flags_after b (end_from 0 a + t.size) (r ++ T ∷ [])) e A.high) in
          record {
            u = u;
            y = y;
            tiles = tiled (u ∷ y) e;
            reads = subst (λ (x : ℕ). Reads w x u) after_is (reads h w r o a₁ (y ++ T ∷ []) u (all-at h a₁ (u ∷ y) e₁));
            last = H.0;
            lastly = subst (λ (x : ℕ). Reads w x H.0) n₂ (reads h w r o a₂ H.1 H.0
                (all-at h a₂ y (e₁ ∙ sym (snoc-tiles a₁ y u)) ∙ ap (λ (l : List Tile). a₂ ++ l) H.2));
            bit = ap (λ (x : ℕ). H.0.p + b x) (sym after_is ∙ snoc-end a t) ∙ F.0;
          }

  pub ahead-nearby : (m : ℕ) → 8 * length w ≤ m → Nearby m w r c z
  ahead-nearby m l =
      let k = after-reads.1 in
      record {
        here = reads-inside m w c t l here;
        after = reads-inside m w (c + z) after-reads.0 l k;
        long = ok-length h w r o;
        within = omega (arith, ok-len h w r o, o.mem.long, k.high);
        most = omega (arith, ok-len h w r o, o.shape.small);
        beyond = λ ne y e.
            let B = beyond ne in
            let q : c + z + B.u.size ≡ c + z + y = omega (arith, B.reads.size) in
            subst (Inside m) q (reads-inside m w (c + z + B.u.size) B.last l B.lastly);
      }

  pub next-size : (y : ℕ) → (c + z ≡ get_or r top_word 0 → ⊥) → y ≡ size_at w (c + z) → size_of h (c + z) ≡ y
  next-size y ne ey =
      let B = beyond ne in
      let a₁ : List Tile = a ++ t ∷ [] in
      let e₁ : h.tiles ≡ a₁ ++ B.u ∷ B.y = B.tiles ∙ sym (snoc-tiles a (B.u ∷ B.y) t) in
      ap (size_of h) (sym after_is) ∙ size-at h a₁ B.y B.u e₁ (tiled-split a₁ (B.u ∷ B.y) (subst tiled e₁ (tiled-tiles h o.shape))).0
      ∙ sym (ey ∙ B.reads.size)

  -- x: the size word behind the next chunk, whose size is y; p: its P
  module _ (y x : ℕ) (p : Bool) (ne : c + z ≡ get_or r top_word 0 → ⊥) (ey : y ≡ size_at w (c + z)) (ex : x ≡ get_or w (size_word (c + z + y)) 0) (ep : p ≡ p_of_word x) where
    bit_is : x % 2 + binned h (c + z) ≡ 1
    bit_is =
        let B = beyond ne in
        let q : y ≡ B.u.size = ey ∙ B.reads.size in
        omega (arith, ap (λ (n : ℕ). n % 2) ex, ap (λ (y : ℕ). get_or w (size_word (c + z + y)) 0 % 2) q, B.lastly.p, B.bit)

    pub clear-binned : p ≡ false → 1 ≤ binned h (c + z)
    clear-binned e = omega (arith, bit_is, eqb-false (x % 2) 1 (sym ep ∙ e))

    pub set_free : p ≡ true → binned h (c + z) ≡ 0
    set_free e = omega (arith, bit_is, eqb-true (x % 2) 1 (sym ep ∙ e))
