-- A loose chunk is joined with its neighbours: the whole step keeps a sound heap, and its words. By a named state in between (Joining). Assumes nothing.
use Rattle.std.specs.Prelude.{◌≡◌, Bool, true, false, eqb, length, get_or}
use Rattle.std.proofs.Math.Path.{refl, ap}
use Rattle.std.proofs.Common.{sym, ◌∙◌, subst, inl, inr, ⊎_elim, not-suc-le-zero, arith, eq-eqb, ne_eqb, eqb-true}
use mathlib.Core.List.{List, [], ◌∷◌, ◌++◌, append_assoc, append-nil}
use Prim.Native.Nat.{ℕ, suc, ◌+◌, ◌-◌, ◌≤◌, ◌<◌}
use Rattle.std.proofs.lemmas.Bool.{eqb-false}
use Rattle.sizes.specs.Limits.{unsorted}
use Rattle.machine.specs.Lists.{lst, pre, post, ind, cnt, cnt_all}
use Rattle.machine.specs.Count.{eq?, ind-same, ind-other, cnt-append, cnt_all-set}
use Rattle.machine.specs.Heap.{Tile, tile, Heap, bin, with_tiles, end_from, starts_from, hd_p, top_of, top_size, size_of, p_of, next, before, binned, total, bin_from, bin_has}
use Rattle.machine.specs.Writes.{Write, apply, Ran, heap_of, writes, does, giving, more, ◌>>=◌, size, note}
use Rattle.machine.specs.Primitives.{link_in, put_first, unlink, swallow, clear_p, to_top}
use Rattle.machine.specs.Release.{absorb, join_next, put_down, join}
use Rattle.sound.specs.Relation.{tiled, Mem, Shape, Loose, flags, Homes, Good}
use Rattle.sound.specs.Tiles.{zero_or, tiled-split, end-le, end-append, starts-append, none_out, starts-once, Place, place}
use Rattle.sound.specs.Apart.{size-at, sizes-mid, tiled-tiles, tiles-at}
use Rattle.sound.specs.Lists.{cut-cnt, in-range, unlink-shape, unlink-loose, unlink-mem, link-shape, link-mem}
use Rattle.sound.specs.Edits.{snoc-end, snoc-tiles, top-mid, all-mid, Kept, swallow-is, swallow-kept, clear-is, clear_kept, to-top-is, to-top-kept}
use Rattle.sound.specs.Flags.{flags_after, last_b, last_s, flags-split, flags-join, flags-below, last_b-below, flags-above, after-above, flags-after}
use Rattle.sound.specs.Homes.{homes-tiles, homes-unlink, homes-link, homes-whole}
use Rattle.sound.specs.Ends.{Ends, ends_more, ends-then, ends-giving, ends_by}

-- ---- how often the bins have y after a chunk left or came
pub binned-unlink : (h : Heap) (j x y : ℕ) → 1 ≤ cnt x (bin h j) → binned h y ≡ binned (heap_of (unlink j x h)) y + ind (eqb y x)
binned-unlink h j x y m =
    let l : List ℕ = pre x (bin h j) ++ post x (bin h j) in
    omega (arith, cnt_all-set y h.bins j l (in-range x h.bins j m), cut-cnt x (bin h j) m y, cnt-append y (pre x (bin h j)) (post x (bin h j)))

pub binned-link : (h : Heap) (j c y : ℕ) (xs ys : List ℕ) → j < length h.bins → bin h j ≡ xs ++ ys
    → binned (heap_of (link_in j c xs ys h)) y ≡ binned h y + ind (eqb y c)
binned-link h j c y xs ys hj e =
    omega (arith, cnt_all-set y h.bins j (xs ++ c ∷ ys) hj, ap (cnt y) e, cnt-append y xs ys, cnt-append y xs (c ∷ ys))

-- the bin that has c, counted from j on
bin-from : (c j : ℕ) (ls : List (List ℕ)) → 1 ≤ cnt_all c ls → (i : ℕ) × (bin_from j c ls ≡ j + i) × (1 ≤ cnt c (get_or ls i []))
bin-from c j [] m = absurd (not-suc-le-zero m)
bin-from c j (l ∷ ls) m = go (λ k. bin-from c (j + 1) ls k) (eqb (cnt c l) 0) refl
  where
    go : (1 ≤ cnt_all c ls → (i : ℕ) × (bin_from (j + 1) c ls ≡ j + 1 + i) × (1 ≤ cnt c (get_or ls i [])))
        → (b : Bool) → eqb (cnt c l) 0 ≡ b → (i : ℕ) × (◌≡◌ {A = ℕ} (elim b [ true ↦ bin_from (j + 1) c ls | false ↦ j ]) (j + i)) × (1 ≤ cnt c (get_or (l ∷ ls) i []))
    go r true e = let k = r (omega (arith, eqb-true (cnt c l) 0 e)) in (suc k.0, omega (arith, k.1), k.2)
    go r false e = (0, omega arith, ⊎_elim (λ z. absurd (eqb-false (cnt c l) 0 e z)) (λ z. z) (zero_or (cnt c l)))

pub bin-has : (h : Heap) (c : ℕ) → 1 ≤ binned h c → 1 ≤ cnt c (bin h (bin_has h c))
bin-has h c m =
    let k = bin-from c 0 h.bins m in
    let e : bin_has h c ≡ k.0 = omega (arith, k.1) in
    rw e k.2

-- ---- the chunk at the end of a takes in the next one, after x left its bin
pub record Absorbed (h₁ g : Heap) (ts : List Tile) : Type 0 where
  pub same : g ≡ with_tiles ts h₁
  pub shape : Shape g
  pub homes : Homes g

pub unlink-swallow-ends : (h : Heap) (w : List ℕ) (a r : List Tile) (t u : Tile) (j x : ℕ) → h.tiles ≡ a ++ t ∷ u ∷ r → Shape h → Homes h → Mem h w
    → 1 ≤ cnt x (bin h j)
    → total (end_from 0 a) (heap_of (unlink j x h)) ≡ 0 → total (end_from 0 a + t.size) (heap_of (unlink j x h)) ≡ 0
    → Ends (unlink j x h >>= (λ g. swallow (end_from 0 a) g)) w (λ g. Absorbed (heap_of (unlink j x h)) g (a ++ tile (t.size + u.size) 1 0 ∷ r))
unlink-swallow-ends h w a r t u j x e s o k mx tc tn =
    let c : ℕ = end_from 0 a in
    let h₁ : Heap = heap_of (unlink j x h) in
    let ws : List Write = writes (unlink j x h) in
    let v : List ℕ = apply ws w in
    let U : Tile = tile (t.size + u.size) 1 0 in
    let s₁ : Shape h₁ = unlink-shape h j x s mx in
    let K : Kept h₁ (a ++ U ∷ r) v (size c (t.size + u.size) 1 ∷ []) = swallow-kept h₁ v a r t u e s₁ (unlink-mem h w j x s k mx) tc tn in
    ends_more ws (swallow c h₁) (rw (swallow-is h₁ v a r t u e s₁) (record {
      mem = K.mem;
      now = record {
        same = refl;
        shape = K.shape;
        homes = homes-whole h₁ a r t u U e s₁ refl (omega arith) tc tn (homes-unlink h j x mx o);
      };
    }))

-- ---- within a join: c, at the end of a, is loose, and so is everything that its end says
pub record Joining (h : Heap) (a : List Tile) (t : Tile) (r : List Tile) (n : ℕ) : Type 0 where
  pub shape : Shape h
  pub homes : Homes h
  pub tiles : h.tiles ≡ a ++ t ∷ r
  pub top : top_size h ≡ n
  pub low : flags (λ x. binned h x) 0 0 0 a
  pub held : last_b (λ x. binned h x) 0 0 a ≡ 0
  pub one : t.p ≡ 1
  pub bare : t.prev ≡ 0
  pub loose : total (end_from 0 a) h ≡ 0
  pub high : flags_after (λ x. binned h x) (end_from 0 a + t.size) (r ++ tile n 1 0 ∷ [])

first-free : (b : ℕ → ℕ) (o q s : ℕ) (r : List Tile) (T : Tile) → flags b o q s (r ++ T ∷ []) → 1 ≤ q → b o ≡ 0
first-free b o q s [] T k m = omega (arith, k.1)
first-free b o q s (t ∷ r) T k m = omega (arith, k.1)

-- the gap after an absorption: x is one of the two that became one
pub absorbed-gap : (h : Heap) (a r : List Tile) (t u : Tile) (j x n : ℕ) (g : Heap) → h.tiles ≡ a ++ t ∷ u ∷ r → 1 ≤ cnt x (bin h j) → top_size h ≡ n
    → Absorbed (heap_of (unlink j x h)) g (a ++ tile (t.size + u.size) 1 0 ∷ r)
    → tiled a → end_from 0 a ≤ x → x < end_from 0 a + t.size + u.size → total (end_from 0 a) (heap_of (unlink j x h)) ≡ 0
    → flags (λ y. binned h y) 0 0 0 a → last_b (λ y. binned h y) 0 0 a ≡ 0
    → flags_after (λ y. binned h y) (end_from 0 a + t.size + u.size) (r ++ tile n 1 0 ∷ [])
    → Joining g a (tile (t.size + u.size) 1 0) r n
absorbed-gap h a r t u j x n g e mx en A fa lx hx lo low held high =
    let c : ℕ = end_from 0 a in
    let U : Tile = tile (t.size + u.size) 1 0 in
    let h₁ : Heap = heap_of (unlink j x h) in
    let b : ℕ → ℕ = λ y. binned h y in
    let d : ℕ → ℕ = λ y. binned h₁ y in
    let same : (y : ℕ) → (y ≡ x → ⊥) → d y ≡ b y = λ y q. omega (arith, binned-unlink h j x y mx, ind-other y x q) in
    let below : (y : ℕ) → y < c → d y ≡ b y = λ y l. same y (omega arith) in
    let ez : c + t.size + u.size ≡ c + (t.size + u.size) = omega arith in
    let G : Joining (with_tiles (a ++ U ∷ r) h₁) a U r n = record {
      shape = subst Shape A.same A.shape;
      homes = subst Homes A.same A.homes;
      tiles = refl;
      top = ap (λ (o : ℕ). h.len - o) (top-mid h a (t ∷ u ∷ []) (U ∷ []) r e ez) ∙ en;
      low = flags-below b d 0 0 0 0 a fa refl below low;
      held = last_b-below b d 0 0 0 a fa refl below ∙ held;
      one = refl;
      bare = refl;
      loose = lo;
      high = subst (λ (o : ℕ). flags_after d o (r ++ tile n 1 0 ∷ [])) ez
          (after-above b d (c + t.size + u.size) (r ++ tile n 1 0 ∷ []) (λ y l. same y (omega arith)) high);
    } in
    subst (λ (g : Heap). Joining g a U r n) (sym A.same) G

-- ---- with the chunk after
pub record Joined (g : Heap) (a : List Tile) (n : ℕ) : Type 0 where
  pub t : Tile
  pub r : List Tile
  pub gap : Joining g a t r n
  pub free : binned g (end_from 0 a + t.size) ≡ 0

pub next-no : (c : ℕ) (h : Heap) → binned h (next h c) ≡ 0 → join_next c h ≡ does h []
unfolding join_next
next-no c h e = rw (eq-eqb (binned h (next h c)) 0 e, join_next)

pub next-yes : (c x : ℕ) (h : Heap) → next h c ≡ x → 1 ≤ binned h x → join_next c h ≡ absorb x c h
unfolding join_next
next-yes c x h n e = rw (ne_eqb (binned h (next h c)) 0 (λ q. omega (arith, ap (binned h) n)), join_next) (ap (λ (y : ℕ). absorb y c h) n)

pub next-ends : (h : Heap) (w : List ℕ) (a : List Tile) (t : Tile) (r : List Tile) (n : ℕ) → Joining h a t r n → Mem h w
    → Ends (join_next (end_from 0 a) h) w (λ g. Joined g a n)
unfolding absorb
next-ends h w a t r n G k =
    let c : ℕ = end_from 0 a in
    let f : tiled a × tiled (t ∷ r) = tiled-split a (t ∷ r) (subst tiled G.tiles (tiled-tiles h G.shape)) in
    let en : next h c ≡ c + t.size = ap (λ (z : ℕ). c + z) (size-at h a r t G.tiles f.0) in
    ⊎_elim
    (λ z. ends_by (next-no c h (ap (binned h) en ∙ z)) (record { mem = k; now = record { t = t; r = r; gap = G; free = z } }))
    (λ z. ends_by (next-yes c (c + t.size) h en z) (yes r G z f))
    (zero_or (binned h (c + t.size)))
  where
    yes : (r : List Tile) → Joining h a t r n → 1 ≤ binned h (end_from 0 a + t.size) → tiled a × tiled (t ∷ r)
        → Ends (absorb (end_from 0 a + t.size) (end_from 0 a) h) w (λ g. Joined g a n)
    yes [] G z f =
        let e : top_of h ≡ end_from 0 a + t.size = ap (end_from 0) G.tiles ∙ snoc-end a t in
        absurd (omega (arith, G.shape.own (end_from 0 a + t.size), none_out h.tiles 0 (end_from 0 a + t.size) (tiled-tiles h G.shape) (inr (omega arith))))
    yes (u ∷ r) G z f =
        let c : ℕ = end_from 0 a in
        let x : ℕ = c + t.size in
        let j : ℕ = bin_has h x in
        let mx : 1 ≤ cnt x (bin h j) = bin-has h x z in
        let s = G.shape in
        let lo : total c (heap_of (unlink j x h)) ≡ 0 = omega (arith, G.loose, binned-unlink h j x c mx) in
        let lx : Loose (heap_of (unlink j x h)) x = unlink-loose h j x s mx in
        let tx : total x (heap_of (unlink j x h)) ≡ 0 = omega (arith, lx, starts-once h.tiles 0 x (tiled-tiles h s)) in
        let E = unlink-swallow-ends h w a r t u j x G.tiles s G.homes k mx lo tx in
        record {
          mem = E.mem;
          now = record {
            t = tile (t.size + u.size) 1 0;
            r = r;
            gap = absorbed-gap h a r t u j x n (heap_of (absorb x c h)) G.tiles mx G.top E.now f.0 (omega (arith, f.1.1))
                (omega (arith, f.1.3.1)) lo G.low G.held
                (flags-after (λ y. binned h y) (x + u.size) (binned h x) u.size (r ++ tile n 1 0 ∷ []) G.high);
            free =
                let fr : binned h (x + u.size) ≡ 0 = first-free (λ y. binned h y) (x + u.size) (binned h x) u.size r (tile n 1 0) G.high z in
                ap (λ (g : Heap). binned g (c + (t.size + u.size))) E.now.same
                ∙ (let e : c + (t.size + u.size) ≡ x + u.size = omega arith in rw e (omega (arith, binned-unlink h j x (x + u.size) mx)));
          };
        }

-- ---- the whole is put down
pub down_top : (c : ℕ) (h : Heap) → next h c ≡ top_of h → put_down c h ≡ giving (h.len - c) (to_top c h)
unfolding put_down
down_top c h e = rw (eq-eqb (next h c) (top_of h) e, put_down)

pub down-bin : (c x z : ℕ) (h : Heap) (r : Ran (Unit {0})) → (next h c ≡ top_of h → ⊥) → next h c ≡ x → size_of h c ≡ z → clear_p x z h ≡ r
    → put_down c h ≡ giving z (r >>= (λ g. put_first unsorted c g))
unfolding put_down
down-bin c x z h r e n s q =
    rw (ne_eqb (next h c) (top_of h) e, put_down) (
    ap (λ (y : ℕ). giving (size_of h c) (clear_p y (size_of h c) h >>= (λ g. put_first unsorted c g))) n
    ∙ ap (λ (y : ℕ). giving y (clear_p x y h >>= (λ g. put_first unsorted c g))) s
    ∙ ap (λ (r : Ran (Unit {0})). giving z (r >>= (λ g. put_first unsorted c g))) q)

pub down_ends : (h : Heap) (w : List ℕ) (a : List Tile) (n : ℕ) (t : Tile) (r : List Tile) → Joining h a t r n → binned h (end_from 0 a + t.size) ≡ 0 → Mem h w
    → Ends (put_down (end_from 0 a) h) w Good
down_ends h w a n t [] G fr k =
    let c : ℕ = end_from 0 a in
    let s = G.shape in
    let f : tiled a × tiled (t ∷ []) = tiled-split a (t ∷ []) (subst tiled G.tiles (tiled-tiles h s)) in
    let en : next h c ≡ top_of h = ap (λ (z : ℕ). c + z) (size-at h a [] t G.tiles f.0) ∙ sym (ap (end_from 0) G.tiles ∙ snoc-end a t) in
    let K : Kept h a w (size c (h.len - c) 1 ∷ []) = to-top-kept h w a t G.tiles s k G.loose in
    let lb = G.held in
    ends_by (down_top c h en ∙ ap (giving (h.len - c)) (to-top-is h a t G.tiles s)) (record {
      mem = K.mem;
      now = record {
        shape = K.shape;
        homes = homes-tiles h a
            (λ y i. sizes-mid h a a (t ∷ []) [] [] y s (tiled-tiles h s) tt G.tiles (sym (append-nil a)) (inr refl) i
            (omega (arith, ind-other y c (λ q. omega (arith, ap (λ (z : ℕ). total z h) q, G.loose)))))
            G.homes;
        flag = flags-join (λ x. binned h x) 0 0 0 a (tile (h.len - c) 1 0 ∷ []) G.low
            (omega arith, omega (arith, G.loose), ((λ q. absurd (omega (arith, q))), λ q. refl), tt);
      };
    })
down_ends h w a n t (u ∷ r) G fr k =
    let c : ℕ = end_from 0 a in
    let s = G.shape in
    let a₁ : List Tile = a ++ t ∷ [] in
    let e₁ : h.tiles ≡ a₁ ++ u ∷ r = G.tiles ∙ sym (snoc-tiles a (u ∷ r) t) in
    let x : ℕ = end_from 0 a₁ in
    let ex : x ≡ c + t.size = snoc-end a t in
    let f : tiled a × tiled (t ∷ u ∷ r) = tiled-split a (t ∷ u ∷ r) (subst tiled G.tiles (tiled-tiles h s)) in
    let f₁ : tiled a₁ × tiled (u ∷ r) = tiled-split a₁ (u ∷ r) (subst tiled e₁ (tiled-tiles h s)) in
    let sz : size_of h c ≡ t.size = size-at h a (u ∷ r) t G.tiles f.0 in
    let en : next h c ≡ x = ap (λ (z : ℕ). c + z) sz ∙ sym ex in
    let U : Tile = tile u.size 0 t.size in
    let ts : List Tile = a₁ ++ U ∷ r in
    let h₁ : Heap = with_tiles ts h in
    let ws : List Write = size x u.size 0 ∷ note x t.size ∷ [] in
    let K : Kept h ts w ws = clear_kept h w a₁ r u e₁ s t.size k in
    let tp : top_of h ≡ end_from (x + u.size) r = ap (end_from 0) e₁ ∙ end-append 0 a₁ (u ∷ r) in
    let nt : next h c ≡ top_of h → ⊥ = λ q. omega (arith, en, tp, end-le (x + u.size) r, f₁.1.1) in
    let lo : Loose h₁ c = omega (arith, G.loose, starts-append 0 a₁ (U ∷ r) c, starts-append 0 a (t ∷ []) c, ind-same c) in
    let b : ℕ → ℕ = λ y. binned h y in
    let j1 : 1 < length h.bins = omega (arith, s.binned127) in
    let d : ℕ → ℕ = λ y. binned (heap_of (put_first unsorted c h₁)) y in
    let db : (y : ℕ) → d y ≡ b y + ind (eqb y c) = λ y. binned-link h₁ 1 c y [] (bin h₁ 1) j1 refl in
    let same : (y : ℕ) → (y ≡ c → ⊥) → d y ≡ b y = λ y q. omega (arith, db y, ind-other y c q) in
    let below : (y : ℕ) → y < c → d y ≡ b y = λ y l. same y (omega arith) in
    let dc : d c ≡ 1 = omega (arith, db c, ind-same c, G.loose) in
    let T : Tile = tile (top_size h) 1 0 in
    let A = all-mid h a₁ (u ∷ []) (U ∷ []) r e₁ refl in
    let lb : last_b d 0 0 a ≡ 0 = last_b-below b d 0 0 0 a f.0 refl below ∙ G.held in
    ends_by (down-bin c x t.size h (does h₁ ws) nt en sz (clear-is h w a₁ r u e₁ s t.size))
    (ends-giving t.size (more ws (put_first unsorted c h₁)) (ends_more ws (put_first unsorted c h₁) (record {
      mem = link-mem h₁ (apply ws w) 1 c [] (bin h₁ 1) K.shape K.mem j1 lo refl (λ z. absurd (omega (arith, z)));
      now = record {
        shape = link-shape h₁ 1 c [] (bin h₁ 1) K.shape j1 lo refl (λ z. absurd (omega (arith, z)));
        homes = homes-link h₁ 1 c [] (bin h₁ 1) (omega arith) j1 refl (λ z. absurd (omega (arith, z))) (λ z. absurd (omega (arith, z)))
            (homes-tiles h ts
            (λ y i. ⊎_elim
            (λ q. rw q (size-at h₁ a₁ r U refl f₁.0 ∙ sym (size-at h a₁ r u e₁ f₁.0)))
            (λ q. sizes-mid h ts a₁ (u ∷ []) (U ∷ []) r y s (tiled-tiles h s) (f₁.1.0, f₁.1.1, omega arith, tt) e₁ refl (inl refl) i
            (omega (arith, ind-other y x q)))
            (eq? y x))
            G.homes);
        flag = subst (flags d 0 0 0) (sym (A.1 ∙ snoc-tiles a (U ∷ (r ++ T ∷ [])) t))
            (flags-join d 0 0 0 a (t ∷ U ∷ (r ++ T ∷ []))
            (flags-below b d 0 0 0 0 a f.0 refl below G.low) (
              omega (arith, G.one),
              omega (arith, dc),
              ((λ q. absurd (omega (arith, q, G.one))), λ q. G.bare),
              (
                omega (arith, dc),
                omega (arith, dc, fr, same (c + t.size) (omega (arith, f.1.1))),
                ((λ q. refl), λ q. absurd (omega (arith, q))),
                flags-above b d (c + t.size + u.size) (b (c + t.size)) (d (c + t.size)) u.size (r ++ T ∷ [])
                    (same (c + t.size) (omega (arith, f.1.1))) (λ y l. same y (omega (arith, f.1.1)))
                    (subst (λ (m : ℕ). flags b (c + t.size + u.size) (b (c + t.size)) u.size (r ++ tile m 1 0 ∷ [])) (sym G.top) G.high),
              ),
            ));
      };
    })))

-- ---- with the chunk before
pub record Opened (g : Heap) (a : List Tile) (n : ℕ) : Type 0 where
  pub t : Tile
  pub r : List Tile
  pub gap : Joining g a t r n

pub record Before (b : ℕ → ℕ) (o : ℕ) (a : List Tile) : Type 0 where
  pub a₀ : List Tile
  pub s : Tile
  pub tiles : a ≡ a₀ ++ s ∷ []
  pub was : b (end_from o a₀) ≡ 1

before-cons : (b : ℕ → ℕ) (o q : ℕ) (t : Tile) (a : List Tile) → last_b b o q (t ∷ a) ≡ 1 → Before b o (t ∷ a)
before-cons b o q t [] k = record { a₀ = []; s = t; tiles = refl; was = k }
before-cons b o q t (u ∷ a) k =
    let B : Before b (o + t.size) (u ∷ a) = before-cons b (o + t.size) (b o) u a k in
    record { a₀ = t ∷ B.a₀; s = B.s; tiles = ap (λ (l : List Tile). t ∷ l) B.tiles; was = B.was }

pub before_of : (b : ℕ → ℕ) (a : List Tile) → last_b b 0 0 a ≡ 1 → Before b 0 a
before_of b [] k = absurd (omega (arith, k))
before_of b (t ∷ a) k = before-cons b 0 0 t a k

pub lst-starts : (n o : ℕ) (a : List Tile) (s : Tile) → lst n (starts_from o (a ++ s ∷ [])) ≡ end_from o a
lst-starts n o [] s = refl
lst-starts n o (t ∷ a) s = lst-starts o (o + t.size) a s

module _ (h : Heap) (w : List ℕ) (a r : List Tile) (t : Tile) (e : h.tiles ≡ a ++ t ∷ r) (g : Good h) (lo : total (end_from 0 a) h ≡ 0) where
  abbrev b : ℕ → ℕ
  b x = binned h x

  pub open-flags : flags b 0 0 0 a × flags b (end_from 0 a) (last_b b 0 0 a) (last_s 0 a) (t ∷ (r ++ tile (top_size h) 1 0 ∷ []))
  open-flags = flags-split b 0 0 0 a (t ∷ (r ++ tile (top_size h) 1 0 ∷ []))
      (subst (flags b 0 0 0) (ap (λ (l : List Tile). l ++ tile (top_size h) 1 0 ∷ []) e ∙ append_assoc a (t ∷ r) (tile (top_size h) 1 0 ∷ [])) g.flag)

  pub gap_here : t.p ≡ 1 → Joining h a t r (top_size h)
  gap_here p =
      let k = open-flags in
      record {
        shape = g.shape;
        homes = g.homes;
        tiles = e;
        top = refl;
        low = k.0;
        held = omega (arith, k.1.0);
        one = p;
        bare = k.1.2.1 p;
        loose = lo;
        high = flags-after b (end_from 0 a + t.size) (b (end_from 0 a)) t.size (r ++ tile (top_size h) 1 0 ∷ []) k.1.3;
      }

  -- the chunk before, at the end of a₀, takes c in
  pub prev-ends : (a₀ : List Tile) (s : Tile) → a ≡ a₀ ++ s ∷ [] → binned h (end_from 0 a₀) ≡ 1 → Mem h w
      → Ends (absorb (end_from 0 a₀) (end_from 0 a₀) h) w (λ g. Opened g a₀ (top_size h))
  unfolding absorb
  prev-ends a₀ s ea was k =
      let q : ℕ = end_from 0 a₀ in
      let n : ℕ = top_size h in
      let c : ℕ = end_from 0 a in
      let j : ℕ = bin_has h q in
      let ec : c ≡ q + s.size = ap (end_from 0) ea ∙ snoc-end a₀ s in
      let mq : 1 ≤ cnt q (bin h j) = bin-has h q (omega (arith, was)) in
      let sh = g.shape in
      let e₀ : h.tiles ≡ a₀ ++ s ∷ t ∷ r = e ∙ ap (λ (l : List Tile). l ++ t ∷ r) ea ∙ snoc-tiles a₀ (t ∷ r) s in
      let f : tiled a₀ × tiled (s ∷ t ∷ r) = tiled-split a₀ (s ∷ t ∷ r) (subst tiled e₀ (tiled-tiles h sh)) in
      let lq : Loose (heap_of (unlink j q h)) q = unlink-loose h j q sh mq in
      let tq : total q (heap_of (unlink j q h)) ≡ 0 = omega (arith, lq, starts-once h.tiles 0 q (tiled-tiles h sh)) in
      let tc : total c (heap_of (unlink j q h)) ≡ 0 = omega (arith, lo, binned-unlink h j q c mq) in
      let E = unlink-swallow-ends h w a₀ r s t j q e₀ sh g.homes k mq tq (rw ec at tc) in
      let F = open-flags in
      let L : flags b 0 0 0 a₀ × flags b q (last_b b 0 0 a₀) (last_s 0 a₀) (s ∷ []) = flags-split b 0 0 0 a₀ (s ∷ []) (subst (flags b 0 0 0) ea F.0) in
      record {
        mem = E.mem;
        now = record {
          t = tile (s.size + t.size) 1 0;
          r = r;
          gap = absorbed-gap h a₀ r s t j q n (heap_of (absorb q q h)) e₀ mq refl E.now f.0 (omega arith) (omega (arith, f.1.1)) tq L.0
              (omega (arith, L.1.1, was))
              (subst (λ (o : ℕ). flags_after b (o + t.size) (r ++ tile n 1 0 ∷ [])) ec
              (flags-after b (c + t.size) (b c) t.size (r ++ tile n 1 0 ∷ []) F.1.3));
        };
      }

-- ---- the whole step
pub join-here : (c : ℕ) (h : Heap) → (p_of h c ≡ 0 → ⊥) → join c h ≡ (join_next c h >>= (λ h₂. put_down c h₂))
unfolding join
join-here c h e = rw (ne_eqb (p_of h c) 0 e, join)

pub join-prev : (c q : ℕ) (h : Heap) → p_of h c ≡ 0 → before h c ≡ q → join c h ≡ (absorb q q h >>= (λ h₁. join_next q h₁ >>= (λ h₂. put_down q h₂)))
unfolding join
join-prev c q h e n = rw (eq-eqb (p_of h c) 0 e, join) (ap (λ (q : ℕ). absorb q q h >>= (λ h₁. join_next q h₁ >>= (λ h₂. put_down q h₂))) n)

pub rest-ends : (h : Heap) (w : List ℕ) (a : List Tile) (n : ℕ) (t : Tile) (r : List Tile) → Joining h a t r n → Mem h w
    → Ends (join_next (end_from 0 a) h >>= (λ h₂. put_down (end_from 0 a) h₂)) w Good
rest-ends h w a n t r G k =
    ends-then (λ h₂. put_down (end_from 0 a) h₂) (next-ends h w a t r n G k)
    (λ g v m J. down_ends g v a n J.t J.r J.gap J.free m)

-- a loose chunk of a sound heap is joined: the heap is sound, and the words are its words
pub join-ends : (h : Heap) (w : List ℕ) (c : ℕ) → Good h → Mem h w → Loose h c → Ends (join c h) w Good
join-ends h w c g k lo =
    let P : Place h.tiles 0 c = place h.tiles 0 c (omega arith) in
    subst (λ (c : ℕ). Ends (join c h) w Good) (sym P.at)
    (go P (omega (arith, lo, starts-once h.tiles 0 c (tiled-tiles h g.shape), ap (λ (x : ℕ). total x h) P.at)))
  where
    go : (P : Place h.tiles 0 c) → total (end_from 0 P.a) h ≡ 0 → Ends (join (end_from 0 P.a) h) w Good
    go P lo =
        let a = P.a in
        let t = P.t in
        let r = P.z in
        let x : ℕ = end_from 0 a in
        let f : tiled a × tiled (t ∷ r) = tiled-split a (t ∷ r) (subst tiled P.tiles (tiled-tiles h g.shape)) in
        let tt' = tiles-at h a (t ∷ r) P.tiles f.0 in
        let ep : p_of h x ≡ t.p = ap hd_p tt'.1 in
        let F = open-flags h w a r t P.tiles g lo in
        ⊎_elim
        (λ z.
        let B : Before (λ x. binned h x) 0 a = before_of (λ x. binned h x) a (omega (arith, F.1.0)) in
        let q : ℕ = end_from 0 B.a₀ in
        let eq : before h x ≡ q = ap (λ (l : List Tile). lst 0 (starts_from 0 l)) (tt'.0 ∙ B.tiles) ∙ lst-starts 0 0 B.a₀ B.s in
        ends_by (join-prev x q h (ep ∙ z) eq)
        (ends-then (λ h₁. join_next q h₁ >>= (λ h₂. put_down q h₂))
        (prev-ends h w a r t P.tiles g lo B.a₀ B.s B.tiles B.was k)
        (λ g v m O. rest-ends g v B.a₀ (top_size h) O.t O.r O.gap m)))
        (λ z.
        ends_by (join-here x h (λ q. omega (arith, ep)))
        (rest-ends h w a (top_size h) t r (gap_here h w a r t P.tiles g lo (omega (arith, f.1.2))) k))
        (zero_or t.p)
