-- A block takes in the chunk behind it, loose or binned, and the code follows the machine. One lemma for each way, and what each call requires. Assumes nothing.
use Rattle.std.specs.Prelude.{◌≡◌, refl, List, [], ◌∷◌, ◌++◌, ℕ, ◌+◌, ◌*◌, ◌%◌, ◌≤◌, length, get_or}
use Rattle.std.proofs.Common.{sym, ap, ◌∙◌, subst, arith}
use Rattle.sizes.specs.Layout.{top_word, size_word}
use Rattle.machine.specs.Lists.{cnt}
use Rattle.machine.specs.Heap.{Tile, tile, Heap, with_tiles, end_from, top_of, top_size, starts, size_of, next, binned, bin_has, total}
use Rattle.machine.specs.Writes.{Write, size, put, apply, Ran, heap_of, does, ◌>>=◌}
use Rattle.machine.specs.Primitives.{unlink, widen}
use Rattle.machine.specs.Resize.{finish}
use Rattle.machine.specs.View.{size_at}
use Rattle.sound.specs.Relation.{Mem}
use Rattle.sound.specs.Lists.{unlink-shape, unlink-mem}
use Rattle.sound.specs.Edits.{snoc-end, snoc-tiles, top-mid, Kept, widen-is, widen-kept}
use Rattle.sound.specs.RecordOf.{record-tiles}
use Rattle.sound.specs.Widen.{Beside, beside-loose, beside-unlinked, widened}
use Rattle.primitives.specs.Follow.{Ok, Has, Gave, Does}
use Rattle.primitives.specs.FollowLaws.{gave-by, gave_then, gave-ok}
use Rattle.primitives.specs.Places.{Home, Binned}
use Rattle.primitives.specs.Chunks.{Inside}
use Rattle.release_join.specs.Reads.{Reads, reads, all-at, reads-inside}
use Rattle.release_join.specs.Ahead.{Nearby, Beyond, beyond, next-size}
use Rattle.release_join.specs.Parts.{home_of}
use Rattle.resize.specs.States.{Live, Stands, Widens, Reaches, widen_finish, take_in}
use Rattle.resize.specs.Finish.{live-stands, ahead, start-not-top, stands-nearby}

-- ---- c takes in the chunk behind it
module _ (h : Heap) (w r : List ℕ) (c z b : ℕ) (o : Ok h w r) (W : Widens h c z b) where
  abbrev a : List Tile
  a = W.a

  abbrev t : Tile
  t = W.t

  abbrev u : Tile
  u = W.u

  abbrev T : Tile
  T = tile (top_size h) 1 0

  own-reads : Reads w c W.t
  own-reads = subst (λ (c : ℕ). Reads w c t) (sym W.at) (reads h w r o a (u ∷ (W.r ++ T ∷ [])) t (all-at h a (t ∷ u ∷ W.r) W.beside.tiles))

  behind-reads : Reads w (c + z) W.u
  behind-reads =
      let a₁ : List Tile = a ++ t ∷ [] in
      let e : end_from 0 a₁ ≡ c + z = snoc-end a t ∙ (let q : end_from 0 a + t.size ≡ c + z = omega (arith, W.at, W.whole) in q) in
      subst (λ (x : ℕ). Reads w x u) e (reads h w r o a₁ (W.r ++ T ∷ []) u (all-at h a₁ (u ∷ W.r) (W.beside.tiles ∙ sym (snoc-tiles a (u ∷ W.r) t))))

  pub own-inside : (m : ℕ) → 8 * length w ≤ m → Inside m c
  own-inside m l = reads-inside m w c t l own-reads

  pub behind-inside : (m : ℕ) → 8 * length w ≤ m → Inside m (c + z)
  behind-inside m l = reads-inside m w (c + z) u l behind-reads

  -- s: both together
  module _ (s : ℕ) (es : s ≡ z + size_at w (c + z)) where
    both_is : s ≡ W.t.size + W.u.size
    both_is = omega (arith, es, W.whole, behind-reads.size)

    pub both_small : s ≤ 262144
    both_small = omega (arith, both_is, W.whole, behind-reads.small)

    pub both-enough : b ≤ s
    both-enough = omega (arith, both_is, W.enough)

    module _ {v : List ℕ} (e : v ≡ put (size c s (get_or w (size_word c) 0 % 2)) w) where
      abbrev U : Tile
      U = tile (W.t.size + W.u.size) W.t.p W.t.prev

      abbrev ts : List Tile
      ts = W.a ++ tile (W.t.size + W.u.size) W.t.p W.t.prev ∷ W.r

      abbrev ws : List Write
      ws = size (end_from 0 W.a) (W.t.size + W.u.size) W.t.p ∷ []

      kept : Kept h ts w ws
      kept = widen-kept h w a W.r t u W.beside.tiles o.shape o.mem W.beside.loose W.beside.behind

      widen-bytes : v ≡ apply ws w
      widen-bytes =
          e ∙ ap (λ (p : ℕ). put (size c s p) w) own-reads.p ∙ ap (λ (s : ℕ). put (size c s t.p) w) both_is
          ∙ ap (λ (c : ℕ). put (size c (t.size + u.size) t.p) w) W.at

      widen_ok : Ok (with_tiles ts h) v r
      widen_ok =
          let top : end_from 0 ts ≡ top_of h = top-mid h a (t ∷ u ∷ []) (U ∷ []) W.r W.beside.tiles (omega arith) in
          record { shape = kept.shape; mem = subst (Mem (with_tiles ts h)) (sym widen-bytes) kept.mem; rec = o.rec ∙ sym (record-tiles h ts o.shape top) }

      widen-stands : Stands (with_tiles ts h) c s
      widen-stands = record { a = a; t = U; r = W.r; at = W.at; whole = both_is; held = widened h w a W.r t u W.beside o.mem }

      pub widen-has : Has (λ g. Stands g c s) v r
      widen-has = record { heap = with_tiles ts h; ok = widen_ok; holds = widen-stands }

      pub widen-gave : {v₁ q₁ : List ℕ} → Does (Unit {0}) (λ g. Stands g c s) (finish c b) v r tt v₁ q₁ → Gave (Unit {0}) (widen_finish c b h) tt w v₁ q₁
      widen-gave D =
          gave-by (ap (λ (x : Ran (Unit {0})). x >>= (λ g. finish c b g)) (ap (λ (c : ℕ). widen c h) W.at ∙ widen-is h w a W.r t u W.beside.tiles o.shape))
          (gave_then (does (with_tiles ts h) ws) (λ g. finish c b g) tt tt (record { says = refl; bytes = widen-bytes; rec = widen_ok.rec })
          (D.does (with_tiles ts h) widen_ok widen-stands))

-- ---- the chunk behind a live block, where that is a chunk but the top
module _ (h : Heap) (w r : List ℕ) (c z : ℕ) (o : Ok h w r) (L : Live h c z) (i : 1 ≤ cnt (c + z) (starts h)) where
  abbrev S : Stands h c z
  S = live-stands h c z L

  not_top : c + z ≡ get_or r top_word 0 → ⊥
  not_top = start-not-top h w r (c + z) o i

  B : Beyond h w r c z o (ahead h c z (live-stands h c z L))
  B = beyond h w r c z o (ahead h c z S) not_top

  behind-size : size_of h (c + z) ≡ B.u.size
  behind-size = next-size h w r c z o (ahead h c z S) (size_at w (c + z)) not_top refl ∙ B.reads.size

  -- it is loose
  pub loose-widens : (b : ℕ) → total (c + z) h ≡ 0 → b ≤ size_of h (c + z) → Widens h c z b
  loose-widens b lo l =
      let e : c + z ≡ end_from 0 S.a + S.t.size = omega (arith, S.at, S.whole) in
      record {
        a = S.a;
        t = S.t;
        u = B.u;
        r = B.y;
        at = S.at;
        whole = S.whole;
        beside = beside-loose h S.a B.y S.t B.u L.good B.tiles S.held.loose (subst (λ (x : ℕ). total x h ≡ 0) e lo);
        enough = omega (arith, behind-size);
      }

  -- it leaves its bin
  module _ (b : ℕ) (m : 1 ≤ binned h (c + z)) (l : b ≤ z + size_of h (c + z)) where
    unlinked-widens : Widens (heap_of (unlink (bin_has h (c + z)) (c + z) h)) c z b
    unlinked-widens =
        let x : ℕ = end_from 0 S.a + S.t.size in
        let e : x ≡ c + z = omega (arith, S.at, S.whole) in
        record {
          a = S.a;
          t = S.t;
          u = B.u;
          r = B.y;
          at = S.at;
          whole = S.whole;
          beside = subst (λ (x : ℕ). Beside (heap_of (unlink (bin_has h x) x h)) S.a S.t B.u B.y) e
              (beside-unlinked h S.a B.y S.t B.u L.good B.tiles S.held.loose (subst (λ (x : ℕ). 1 ≤ binned h x) (sym e) m));
          enough = omega (arith, behind-size, S.whole);
        }

module _ (h : Heap) (w r : List ℕ) (c z b : ℕ) (o : Ok h w r) (R : Reaches h c z b) where
  there : 1 ≤ cnt (c + z) (starts h)
  there = omega (arith, R.behind, o.shape.own (c + z))

  stands : Stands h c z
  stands = live-stands h c z R.live

  next-same : next h c ≡ c + z
  next-same = ap (λ (z : ℕ). c + z) R.live.whole

  pub reaches-nearby : (m : ℕ) → 8 * length w ≤ m → Nearby m w r c z
  reaches-nearby = stands-nearby h w r c z o stands

  module _ (y : ℕ) (ey : y ≡ size_at w (c + z)) where
    at_home : Home h (bin_has h (c + z)) (c + z) y
    at_home = home_of h (c + z) y R.live.good.homes R.behind
        (next-size h w r c z o (ahead h c z stands) y (start-not-top h w r (c + z) o there) ey)

    pub reaches-binned : Binned h (c + z) y
    reaches-binned = record { bin-no = bin_has h (c + z); home = at_home }

    module _ {v q : List ℕ} (D : (h : Heap) (j : ℕ) → Ok h w r → Home h j (c + z) y → Gave (Unit {0}) (unlink j (c + z) h) tt w v q) where
      abbrev h₁ : Heap
      h₁ = heap_of (unlink (bin_has h (c + z)) (c + z) h)

      unlinked : Gave (Unit {0}) (unlink (bin_has h (c + z)) (c + z) h) tt w v q
      unlinked = D h (bin_has h (c + z)) o at_home

      unlinked-ok : Ok (heap_of (unlink (bin_has h (c + z)) (c + z) h)) v q
      unlinked-ok = gave-ok (unlink (bin_has h (c + z)) (c + z) h) tt (unlink-shape h (bin_has h (c + z)) (c + z) o.shape at_home.here)
          (unlink-mem h w (bin_has h (c + z)) (c + z) o.shape o.mem at_home.here) unlinked

      pub taken-has : Has (λ g. Widens g c z b) v q
      taken-has = record { heap = h₁; ok = unlinked-ok; holds = unlinked-widens h w r c z o R.live there b R.behind R.enough }

      pub take-in-gave : {v₁ q₁ : List ℕ} → Does (Unit {0}) (λ g. Widens g c z b) (widen_finish c b) v q tt v₁ q₁ → Gave (Unit {0}) (take_in c b h) tt w v₁ q₁
      take-in-gave E =
          gave-by (ap (λ (x : ℕ). unlink (bin_has h x) x h >>= (λ g. widen c g >>= (λ g. finish c b g))) next-same)
          (gave_then (unlink (bin_has h (c + z)) (c + z) h) (λ g. widen_finish c b g) tt tt unlinked
          (E.does h₁ unlinked-ok (unlinked-widens h w r c z o R.live there b R.behind R.enough)))
