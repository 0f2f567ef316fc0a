-- Join as the code does it follows the machine: with the chunk before taken in or not. Between its parts the heap is open, by the laws of the machine's join.
-- Assumes nothing.
use Rattle.std.specs.Prelude.{◌≡◌, refl, true, false, List, [], ◌∷◌, ◌++◌, ℕ, ◌+◌, ◌-◌, ◌%◌, ◌≤◌, get_or}
use Rattle.std.proofs.Common.{sym, ap, ◌∙◌, subst, arith, eqb-true}
use Rattle.std.proofs.lemmas.Bool.{eqb-false}
use Rattle.sizes.specs.Layout.{prev_word, size_word}
use Rattle.sizes.specs.SizeWord.{p_of_word}
use Rattle.machine.specs.Lists.{lst}
use Rattle.machine.specs.Heap.{Tile, Heap, end_from, starts_from, top_size, size_of, p_of, before, binned, total}
use Rattle.machine.specs.Writes.{heap_of, ◌>>=◌}
use Rattle.machine.specs.Release.{absorb, join_next, put_down, join}
use Rattle.machine.specs.View.{size_at}
use Rattle.sound.specs.Relation.{tiled, Loose, Good}
use Rattle.sound.specs.Tiles.{tiled-split, starts-once, Place}
use Rattle.sound.specs.Apart.{size-at, tiled-tiles, tiles-at}
use Rattle.sound.specs.Edits.{snoc-end, snoc-tiles}
use Rattle.sound.specs.Flags.{last_s}
use Rattle.sound.specs.Ends.{Ends, ends-weaken}
use Rattle.sound.specs.Join.{Joined, Opened, next-ends, Before, before_of, lst-starts, open-flags, gap_here, prev-ends, join-here, join-prev}
use Rattle.primitives.specs.Follow.{Ok, Has, Gave, Does}
use Rattle.primitives.specs.FollowLaws.{gave-by, gave_then, gave-ok}
use Rattle.release_join.specs.Reads.{Reads, loose-reads}
use Rattle.release_join.specs.States.{Taking, Open, join_rest}
use Rattle.release_join.specs.Parts.{home_of}

-- ---- joined with the chunk after, and put down
module _ (h : Heap) (w r : List ℕ) (c : ℕ) (o : Ok h w r) (O : Open h c) {v q : List ℕ} (N : Does (Unit {0}) (λ h. Open h c) (join_next c) w r tt v q) where
  next-gave : Gave (Unit {0}) (join_next c h) tt w v q
  next-gave = N.does h o O

  next-open : Ends (join_next c h) w (λ g. Open g c)
  next-open = subst (λ (x : ℕ). Ends (join_next x h) w (λ g. Open g c)) (sym O.at)
      (ends-weaken (join_next (end_from 0 O.a) h) w (λ g. Joined g O.a O.n) (λ g. Open g c)
      (λ g J. record { a = O.a; n = O.n; at = O.at; now = record { t = J.t; r = J.r; gap = J.gap } })
      (next-ends h w O.a O.now.t O.now.r O.n O.now.gap o.mem))

  next-ok : Ok (heap_of (join_next c h)) v q
  next-ok = gave-ok (join_next c h) tt next-open.now.now.gap.shape next-open.mem next-gave

  pub next-has : Has (λ h. Open h c) v q
  next-has = record { heap = heap_of (join_next c h); ok = next-ok; holds = next-open.now }

  pub rest-gave : {v' q' : List ℕ} {s : ℕ} → Does ℕ (λ h. Open h c) (put_down c) v q s v' q' → Gave ℕ (join_rest c h) s w v' q'
  rest-gave {v'} {q'} {s} D = gave_then (join_next c h) (λ h₂. put_down c h₂) tt s next-gave (D.does (heap_of (join_next c h)) next-ok next-open.now)

-- the chunk before c, of size d, and c, of size z: it takes c in, which leaves it open, and the join goes on with it
pub record Behind (h : Heap) (w : List ℕ) (c d z : ℕ) : Type 0 where
  pub low : d ≤ c
  pub small : d + z ≤ 262144
  pub taking : Taking h (c - d) d (c - d) (d + z)
  pub is : join c h ≡ (absorb (c - d) (c - d) h >>= join_rest (c - d))
  pub ends : Ends (absorb (c - d) (c - d) h) w (λ g. Open g (c - d))

last-size : (s : ℕ) (a : List Tile) (u : Tile) → last_s s (a ++ u ∷ []) ≡ u.size
last-size s [] u = refl
last-size s (t ∷ a) u = last-size t.size a u

-- ---- the whole join of a loose c, whose size word is y
module _ (h : Heap) (w r : List ℕ) (c y : ℕ) (o : Ok h w r) (g : Good h) (lo : Loose h c) (ey : y ≡ get_or w (size_word c) 0) where
  abbrev at : Place h.tiles 0 c
  at = (loose-reads h w r o c lo).place

  at_reads : Reads w c at.t
  at_reads = (loose-reads h w r o c lo).reads

  none : total (end_from 0 at.a) h ≡ 0
  none = omega (arith, lo, starts-once h.tiles 0 c (tiled-tiles h g.shape), ap (λ (x : ℕ). total x h) at.at)

  halves : tiled at.a × tiled (at.t ∷ at.z)
  halves = tiled-split at.a (at.t ∷ at.z) (subst tiled at.tiles (tiled-tiles h g.shape))

  p-is : p_of h c ≡ y % 2
  p-is = (loose-reads h w r o c lo).p ∙ ap (λ (y : ℕ). y % 2) (sym ey)

  -- P is set
  module _ (e : p_of_word y ≡ true) where
    p-set : y % 2 ≡ 1
    p-set = eqb-true (y % 2) 1 e

    pub join-open : Open h c
    join-open = record {
      a = at.a;
      n = top_size h;
      at = at.at;
      now = record { t = at.t; r = at.z; gap = gap_here h w at.a at.z at.t at.tiles g none (omega (arith, at_reads.p, p-set)) };
    }

    pub join-here-gave : {v q : List ℕ} {s : ℕ} → Does ℕ (λ h. Open h c) (join_rest c) w r s v q → Gave ℕ (join c h) s w v q
    join-here-gave D = gave-by (join-here c h (λ q. omega (arith, p-is, p-set))) (D.does h o join-open)

  -- P is clear, and d is noted
  module _ (d z : ℕ) (e : p_of_word y ≡ false) (ed : d ≡ get_or w (prev_word c) 0) (ez : z ≡ size_at w c) where
    p-clear : y % 2 ≡ 0
    p-clear = omega (arith, eqb-false (y % 2) 1 e)

    pub behind : Behind h w c d z
    behind = go (before_of (λ x. binned h x) at.a (omega (arith, (open-flags h w at.a at.z at.t at.tiles g none).1.0, at_reads.p, p-clear)))
      where
        go : Before (λ x. binned h x) 0 at.a → Behind h w c d z
        go B =
            let a : List Tile = at.a in
            let t : Tile = at.t in
            let tp : t.p ≡ 0 = omega (arith, at_reads.p, p-clear) in
            let x : ℕ = end_from 0 B.a₀ in
            let ex : end_from 0 a ≡ x + B.s.size = ap (end_from 0) B.tiles ∙ snoc-end B.a₀ B.s in
            let es : d ≡ B.s.size = ed ∙ at_reads.note tp ∙ (open-flags h w a at.z t at.tiles g none).1.2.0 tp ∙ ap (last_s 0) B.tiles
            ∙ last-size 0 B.a₀ B.s in
            let eq : c - d ≡ x = omega (arith, at.at) in
            let e₀ : h.tiles ≡ B.a₀ ++ B.s ∷ t ∷ at.z = at.tiles ∙ ap (λ (l : List Tile). l ++ t ∷ at.z) B.tiles
            ∙ snoc-tiles B.a₀ (t ∷ at.z) B.s in
            let f : tiled B.a₀ × tiled (B.s ∷ t ∷ at.z) = tiled-split B.a₀ (B.s ∷ t ∷ at.z) (subst tiled e₀ (tiled-tiles h g.shape)) in
            let eb : before h c ≡ c - d =
            ap (before h) at.at ∙ ap (λ (l : List Tile). lst 0 (starts_from 0 l)) ((tiles-at h a (t ∷ at.z) at.tiles halves.0).0 ∙ B.tiles)
            ∙ lst-starts 0 0 B.a₀ B.s ∙ sym eq in
            record {
              low = omega (arith, at.at);
              small = omega (arith, at.at, at_reads.small, at_reads.size);
              taking = record {
                a = B.a₀;
                t = B.s;
                u = t;
                z = at.z;
                tiles = e₀;
                at = eq;
                whole = omega (arith, at_reads.size);
                home = home_of h (c - d) d g.homes (omega (arith, ap (λ (x : ℕ). binned h x) eq, B.was))
                    (ap (size_of h) eq ∙ size-at h B.a₀ (t ∷ at.z) B.s e₀ f.0 ∙ sym es);
              };
              is = join-prev c (c - d) h (p-is ∙ p-clear) eb;
              ends = subst (λ (x : ℕ). Ends (absorb x x h) w (λ g. Open g (c - d))) (sym eq)
                  (ends-weaken (absorb x x h) w (λ g. Opened g B.a₀ (top_size h)) (λ g. Open g (c - d))
                  (λ g O. record { a = B.a₀; n = top_size h; at = eq; now = O })
                  (prev-ends h w a at.z t at.tiles g none B.a₀ B.s B.tiles B.was o.mem));
            }

-- the chunk before is taken in, and the join goes on with the whole
module _ (h : Heap) (w r : List ℕ) (c d z : ℕ) (o : Ok h w r) (B : Behind h w c d z) {v q : List ℕ}
    (A : Does (Unit {0}) (λ h. Taking h (c - d) d (c - d) (d + z)) (absorb (c - d) (c - d)) w r tt v q) where
  absorbed-ok : Ok (heap_of (absorb (c - d) (c - d) h)) v q
  absorbed-ok = gave-ok (absorb (c - d) (c - d) h) tt B.ends.now.now.gap.shape B.ends.mem (A.does h o B.taking)

  pub absorbed-has : Has (λ h. Open h (c - d)) v q
  absorbed-has = record { heap = heap_of (absorb (c - d) (c - d) h); ok = absorbed-ok; holds = B.ends.now }

  pub join-prev-gave : {v' q' : List ℕ} {s : ℕ} → Does ℕ (λ h. Open h (c - d)) (join_rest (c - d)) v q s v' q' → Gave ℕ (join c h) s w v' q'
  join-prev-gave {v'} {q'} {s} D =
      gave-by B.is (gave_then (absorb (c - d) (c - d) h) (join_rest (c - d)) tt s (A.does h o B.taking)
      (D.does (heap_of (absorb (c - d) (c - d) h)) absorbed-ok B.ends.now))
