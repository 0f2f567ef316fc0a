-- A chunk leaves its bin and is given whole, or is split; a chunk is cut off the top: each keeps a sound heap, and its words. By a named state in
-- between (Out): the chunk is out of its bin and the next P still clear. Assumes nothing.
use Rattle.std.specs.Prelude.{◌≡◌, refl, List, [], ◌∷◌, ◌++◌, ℕ, ◌+◌, ◌-◌, ◌%◌, ◌≤◌, ◌<◌, eqb, length}
use Rattle.std.proofs.Common.{sym, ap, ◌∙◌, subst, append_assoc, append-nil, inl, inr, arith}
use Rattle.sizes.specs.Limits.{unsorted}
use Rattle.machine.specs.Lists.{ind, cnt}
use Rattle.machine.specs.Count.{ind-same, ind-other, cnt-le-all}
use Rattle.machine.specs.Heap.{Tile, tile, Heap, bin, with_tiles, with_remainder, end_from, starts_from, top_of, top_size, starts, size_of, next, binned, total}
use Rattle.machine.specs.Writes.{Write, apply, Ran, heap_of, does, more, ◌>>=◌, size, note}
use Rattle.machine.specs.Primitives.{put_first, unlink, set_p, set_note, cut_at, cut_top}
use Rattle.machine.specs.Grant.{split}
use Rattle.sound.specs.Relation.{tiled, Mem, Shape, Loose, flags, Homes, Good}
use Rattle.sound.specs.Tiles.{tiled-split, end-append, starts-append, none_out, starts-once}
use Rattle.sound.specs.Apart.{size-at, sizes-mid, tiled-tiles}
use Rattle.sound.specs.Lists.{unlink-shape, unlink-loose, link-shape, link-mem}
use Rattle.sound.specs.Edits.{snoc-end, snoc-tiles, all-mid, Kept, set_is, set-kept, note-is, note-kept, cut-is, cut-kept, cut-top-kept}
use Rattle.sound.specs.Flags.{last_b, last_s, flags-split, flags-join, flags-below, last_b-below, flags-above}
use Rattle.sound.specs.Homes.{homes-tiles, homes-unlink, homes-link, homes_same}
use Rattle.sound.specs.Ends.{Ends, ends_more, ends_by}
use Rattle.sound.specs.Join.{binned-unlink, binned-link}

-- ---- c, at the end of a, has left its bin; the chunk after it, u, still has P clear
pub record Out (h : Heap) (a : List Tile) (t u : Tile) (r : List Tile) : Type 0 where
  pub shape : Shape h
  pub homes : Homes h
  pub tiles : h.tiles ≡ a ++ t ∷ u ∷ r
  pub low : flags (λ x. binned h x) 0 0 0 a
  pub held : last_b (λ x. binned h x) 0 0 a ≡ 0
  pub one : t.p ≡ 1
  pub bare : t.prev ≡ 0
  pub loose : total (end_from 0 a) h ≡ 0
  pub clear : u.p ≡ 0
  pub free : binned h (end_from 0 a + t.size) ≡ 0
  pub high : flags (λ x. binned h x) (end_from 0 a + t.size + u.size) (binned h (end_from 0 a + t.size)) u.size (r ++ tile (top_size h) 1 0 ∷ [])

pub record Outs (h : Heap) (a : List Tile) (t : Tile) : Type 0 where
  pub u : Tile
  pub z : List Tile
  pub out : Out h a t u z

pub take-out : (h : Heap) (a : List Tile) (t : Tile) (r : List Tile) (j : ℕ) → h.tiles ≡ a ++ t ∷ r → Good h → 1 ≤ cnt (end_from 0 a) (bin h j)
    → Outs (heap_of (unlink j (end_from 0 a) h)) a t
take-out h a t r j e g mc =
    let T : Tile = tile (top_size h) 1 0 in
    go r e (flags-split (λ x. binned h x) 0 0 0 a (t ∷ (r ++ T ∷ []))
    (subst (flags (λ x. binned h x) 0 0 0) (ap (λ (l : List Tile). l ++ T ∷ []) e ∙ append_assoc a (t ∷ r) (T ∷ [])) g.flag))
  where
    go : (r : List Tile) → h.tiles ≡ a ++ t ∷ r
        → flags (λ x. binned h x) 0 0 0 a × flags (λ x. binned h x) (end_from 0 a) (last_b (λ x. binned h x) 0 0 a) (last_s 0 a) (t ∷ (r ++ tile (top_size h) 1 0 ∷ []))
        → Outs (heap_of (unlink j (end_from 0 a) h)) a t
    go [] e F = absurd (omega (arith, F.1.3.0, cnt-le-all (end_from 0 a) h.bins j))
    go (u ∷ r) e F =
        let c : ℕ = end_from 0 a in
        let s = g.shape in
        let b : ℕ → ℕ = λ x. binned h x in
        let d : ℕ → ℕ = λ x. binned (heap_of (unlink j c h)) x in
        let same : (y : ℕ) → (y ≡ c → ⊥) → d y ≡ b y = λ y q. omega (arith, binned-unlink h j c y mc, ind-other y c q) in
        let below : (y : ℕ) → y < c → d y ≡ b y = λ y l. same y (omega arith) in
        let f : tiled a × tiled (t ∷ u ∷ r) = tiled-split a (t ∷ u ∷ r) (subst tiled e (tiled-tiles h s)) in
        let bc : 1 ≤ b c = omega (arith, cnt-le-all c h.bins j) in
        let dn : d (c + t.size) ≡ b (c + t.size) = same (c + t.size) (omega (arith, f.1.1)) in
        let lc : Loose (heap_of (unlink j c h)) c = unlink-loose h j c s mc in
        let one : t.p ≡ 1 = omega (arith, F.1.0, F.1.1) in
        record {
          u = u;
          z = r;
          out = record {
            shape = unlink-shape h j c s mc;
            homes = homes-unlink h j c mc g.homes;
            tiles = e;
            low = flags-below b d 0 0 0 0 a f.0 refl below F.0;
            held = last_b-below b d 0 0 0 a f.0 refl below ∙ (let q : last_b b 0 0 a ≡ 0 = omega (arith, F.1.1) in q);
            one = one;
            bare = F.1.2.1 one;
            loose = omega (arith, lc, starts-once h.tiles 0 c (tiled-tiles h s));
            clear = omega (arith, F.1.3.0);
            free = omega (arith, F.1.3.1, dn);
            high = flags-above b d (c + t.size + u.size) (b (c + t.size)) (d (c + t.size)) u.size (r ++ tile (top_size h) 1 0 ∷ []) dn
                (λ y l. same y (omega (arith, f.1.1))) F.1.3.3;
          };
        }

-- a split comes to two edits and an insertion
pub split-is : (c b x z : ℕ) (h h₁ h₂ : Heap) (ws vs : List Write) → next h c ≡ x → size_of h c - b ≡ z → cut_at c b h ≡ does h₁ ws → set_note x z h₁ ≡ does h₂ vs
    → split c b h ≡ more ws (more vs (put_first unsorted (c + b) h₂))
unfolding split
split-is c b x z h h₁ h₂ ws vs e q k m =
    ap (λ (y : ℕ). cut_at c b h >>= (λ g. set_note y (size_of h c - b) g >>= (λ g₂. put_first unsorted (c + b) g₂))) e
    ∙ ap (λ (y : ℕ). cut_at c b h >>= (λ g. set_note x y g >>= (λ g₂. put_first unsorted (c + b) g₂))) q
    ∙ ap (λ (r : Ran (Unit {0})). r >>= (λ g. set_note x z g >>= (λ g₂. put_first unsorted (c + b) g₂))) k
    ∙ ap (λ (r : Ran (Unit {0})). more ws (r >>= (λ g₂. put_first unsorted (c + b) g₂))) m

module _ (h : Heap) (w : List ℕ) (a r : List Tile) (t u : Tile) (n : ℕ) (O : Out h a t u r) (k : Mem h w) where
  -- all of c is given, and the next P is set
  pub mark-ends : Ends (set_p (next h (end_from 0 a)) h) w (λ g. Good g × (size_of g (end_from 0 a) ≡ t.size))
  mark-ends =
      let c : ℕ = end_from 0 a in
      let s = O.shape in
      let a₁ : List Tile = a ++ t ∷ [] in
      let e₁ : h.tiles ≡ a₁ ++ u ∷ r = O.tiles ∙ sym (snoc-tiles a (u ∷ r) t) in
      let x : ℕ = end_from 0 a₁ in
      let f : tiled a × tiled (t ∷ u ∷ r) = tiled-split a (t ∷ u ∷ r) (subst tiled O.tiles (tiled-tiles h s)) in
      let sz : size_of h c ≡ t.size = size-at h a (u ∷ r) t O.tiles f.0 in
      let en : next h c ≡ x = ap (λ (z : ℕ). c + z) sz ∙ sym (snoc-end a t) in
      let U : Tile = tile u.size 1 0 in
      let T : Tile = tile (top_size h) 1 0 in
      let b : ℕ → ℕ = λ y. binned h y in
      let ws : List Write = size x u.size 1 ∷ [] in
      let h₁ : Heap = with_tiles (a₁ ++ U ∷ r) h in
      let K : Kept h (a₁ ++ U ∷ r) w ws = set-kept h w a₁ r u e₁ s k in
      let A = all-mid h a₁ (u ∷ []) (U ∷ []) r e₁ refl in
      ends_by (ap (λ (y : ℕ). set_p y h) en ∙ set_is h w a₁ r u e₁ s)
      (record {
        mem = K.mem;
        now = (
          record {
            shape = K.shape;
            homes = homes_same h a₁ r u U e₁ s refl (omega arith) O.homes;
            flag = subst (flags b 0 0 0) (sym (A.1 ∙ snoc-tiles a (U ∷ (r ++ T ∷ [])) t))
                (flags-join b 0 0 0 a (t ∷ U ∷ (r ++ T ∷ [])) O.low (
                  omega (arith, O.one, O.held),
                  omega (arith, O.held, O.loose),
                  ((λ q. absurd (omega (arith, q, O.one))), λ q. O.bare),
                  (omega (arith, O.loose), omega (arith, O.loose, O.free), ((λ q. absurd (omega (arith, q))), λ q. refl), O.high),
                ));
          },
          size-at h₁ a (U ∷ r) t (snoc-tiles a (U ∷ r) t) f.0,
        );
      })

  -- n of c is given; the rest goes first into unsorted
  pub split-ends : n % 16 ≡ 0 → 32 ≤ n → n + 32 ≤ t.size → Ends (split (end_from 0 a) n h) w (λ g. Good g × (size_of g (end_from 0 a) ≡ n))
  split-ends n16 n32 nt =
      let c : ℕ = end_from 0 a in
      let s = O.shape in
      let z : ℕ = t.size - n in
      let A₁ : Tile = tile n 1 0 in
      let B₁ : Tile = tile z 1 0 in
      let f : tiled a × tiled (t ∷ u ∷ r) = tiled-split a (t ∷ u ∷ r) (subst tiled O.tiles (tiled-tiles h s)) in
      let sz : size_of h c ≡ t.size = size-at h a (u ∷ r) t O.tiles f.0 in
      let ts₁ : List Tile = a ++ A₁ ∷ B₁ ∷ u ∷ r in
      let h₁ : Heap = with_tiles ts₁ h in
      let ws : List Write = size c n 1 ∷ size (c + n) z 1 ∷ [] in
      let K₁ : Kept h ts₁ w ws = cut-kept h w a (u ∷ r) t O.tiles s n n16 n32 nt k O.loose in
      let a₂ : List Tile = a ++ A₁ ∷ B₁ ∷ [] in
      let e₂ : ts₁ ≡ a₂ ++ u ∷ r = sym (append_assoc a (A₁ ∷ B₁ ∷ []) (u ∷ r)) in
      let x : ℕ = end_from 0 a₂ in
      let ex : x ≡ c + n + z = end-append 0 a (A₁ ∷ B₁ ∷ []) in
      let en : next h c ≡ x = ap (λ (y : ℕ). c + y) sz ∙ (let q : c + t.size ≡ c + n + z = omega arith in q) ∙ sym ex in
      let U : Tile = tile u.size u.p z in
      let ts₂ : List Tile = a₂ ++ U ∷ r in
      let h₂ : Heap = with_tiles ts₂ h in
      let vs : List Write = note x z ∷ [] in
      let v : List ℕ = apply ws w in
      let K₂ : Kept h₁ ts₂ v vs = note-kept h₁ v a₂ r u e₂ K₁.shape z K₁.mem in
      let T : Tile = tile (top_size h₁) 1 0 in
      let E₂ = all-mid h₁ a₂ (u ∷ []) (U ∷ []) r e₂ refl in
      let nostart : cnt (c + n) (starts h) ≡ 0 =
      omega (
        arith,
        ap (λ (l : List Tile). cnt (c + n) (starts_from 0 l)) O.tiles,
        starts-append 0 a (t ∷ u ∷ r) (c + n),
        none_out a 0 (c + n) f.0 (inr (omega arith)),
        ind-other (c + n) c (λ q. omega arith),
        none_out (u ∷ r) (c + t.size) (c + n)
            f.1.3 (inl (omega arith)),
      ) in
      let none : total (c + n) h ≡ 0 = omega (arith, s.own (c + n)) in
      let lo : Loose h₂ (c + n) = omega (arith, none, starts-append 0 a₂ (U ∷ r) (c + n), starts-append 0 a (A₁ ∷ B₁ ∷ []) (c + n), ind-same (c + n)) in
      let j1 : 1 < length h.bins = omega (arith, s.binned127) in
      let b : ℕ → ℕ = λ y. binned h y in
      let d : ℕ → ℕ = λ y. binned (heap_of (put_first unsorted (c + n) h₂)) y in
      let db : (y : ℕ) → d y ≡ b y + ind (eqb y (c + n)) = λ y. binned-link h₂ 1 (c + n) y [] (bin h₂ 1) j1 refl in
      let same : (y : ℕ) → (y ≡ c + n → ⊥) → d y ≡ b y = λ y q. omega (arith, db y, ind-other y (c + n) q) in
      let below : (y : ℕ) → y < c → d y ≡ b y = λ y l. same y (omega arith) in
      let dr : d (c + n) ≡ 1 = omega (arith, db (c + n), ind-same (c + n), none) in
      let dc : d c ≡ 0 = omega (arith, same c (omega arith), O.loose) in
      let xn : c + n + z ≡ c + t.size = omega arith in
      let dx : d (c + n + z) ≡ 0 = omega (arith, same (c + n + z) (omega arith), O.free, ap b xn) in
      let lb : last_b d 0 0 a ≡ 0 = last_b-below b d 0 0 0 a f.0 refl below ∙ O.held in
      let tp : top_size h₁ ≡ top_size h = ap (λ (o : ℕ). h.len - o)
      (end-append 0 a (A₁ ∷ B₁ ∷ u ∷ r) ∙ ap (λ (o : ℕ). end_from (o + u.size) r) xn ∙ sym (ap (end_from 0) O.tiles ∙ end-append 0 a (t ∷ u ∷ r))) in
      let Q : Heap → Type 0 = λ g. Good g × (size_of g c ≡ n) in
      ends_by
      (split-is c n x z h h₁ h₂ ws vs en (ap (λ (y : ℕ). y - n) sz) (cut-is h w a (u ∷ r) t O.tiles s n) (note-is h₁ v a₂ r u e₂ K₁.shape z))
      (ends_more ws (more vs (put_first unsorted (c + n) h₂)) (ends_more vs (put_first unsorted (c + n) h₂) (record {
        mem = link-mem h₂ (apply vs v) 1 (c + n) [] (bin h₂ 1) K₂.shape K₂.mem j1 lo refl (λ z. absurd (omega (arith, z)));
        now = (
          record {
            shape = link-shape h₂ 1 (c + n) [] (bin h₂ 1) K₂.shape j1 lo refl (λ z. absurd (omega (arith, z)));
            homes = homes-link h₂ 1 (c + n) [] (bin h₂ 1) (omega arith) j1 refl (λ i. absurd (omega (arith, i))) (λ i. absurd (omega (arith, i)))
                (homes_same h₁ a₂ r u U e₂ K₁.shape refl f.1.3.2
                (homes-tiles h ts₁
                (λ y i. sizes-mid h ts₁ a (t ∷ []) (A₁ ∷ B₁ ∷ []) (u ∷ r) y s (tiled-tiles h s)
                (n16, n32, omega arith, (omega (arith, f.1.0), omega arith, omega arith, tt)) O.tiles refl (inl (omega arith)) i
                (omega (arith, ind-other y c (λ q. omega (arith, ap (λ (o : ℕ). total o h) q, O.loose)))))
                O.homes));
            flag = subst (flags d 0 0 0) (sym (E₂.1 ∙ append_assoc a (A₁ ∷ B₁ ∷ []) (U ∷ (r ++ T ∷ []))))
                (flags-join d 0 0 0 a (A₁ ∷ B₁ ∷ U ∷ (r ++ T ∷ []))
                (flags-below b d 0 0 0 0 a f.0 refl below O.low) (
                  omega (arith, lb),
                  omega (arith, lb, dc),
                  ((λ q. absurd (omega (arith, q))), λ q. refl),
                  (
                    omega (arith, dc),
                    omega (arith, dc, dr),
                    ((λ q. absurd (omega (arith, q))), λ q. refl),
                    (
                      omega (arith, dr, O.clear),
                      omega (arith, dr, dx),
                      ((λ q. refl), λ q. absurd (omega (arith, q, O.clear))),
                      flags-above b d (c + n + z + u.size) (b (c + t.size)) (d (c + n + z)) u.size (r ++ T ∷ []) (omega (arith, dx, O.free))
                          (λ y l. same y (omega (arith, f.1.3.1)))
                          (rw (xn, tp) O.high),
                    ),
                  ),
                ));
          },
          size-at h₂ a (B₁ ∷ U ∷ r) A₁ (append_assoc a (A₁ ∷ B₁ ∷ []) (U ∷ r)) f.0,
        );
      })))

-- ---- another last remainder
pub remainder-good : (h : Heap) (c : ℕ) → Good h → Good (with_remainder c h)
remainder-good h c g =
    let s = g.shape in
    let o = g.homes in
    record {
      shape = record { small = s.small; sizes = s.sizes; stacked74 = s.stacked74; binned127 = s.binned127; own = s.own; roomy = s.roomy };
      homes = record { stacked = o.stacked; quick = o.quick; short = o.short; none = o.none; sorted = o.sorted; falling = o.falling };
      flag = g.flag;
    }

pub remainder-mem : (h : Heap) (w : List ℕ) (c : ℕ) → Mem h w → Mem (with_remainder c h) w
remainder-mem h w c m = record { long = m.long; words = m.words; chains = m.chains; blinks = m.blinks; keys = m.keys; key64 = m.key64; edited = m.edited; skipped = m.skipped }

-- ---- n is cut off the top
pub top-ends : (h : Heap) (w : List ℕ) (n : ℕ) → Good h → Mem h w → n % 16 ≡ 0 → 32 ≤ n → n + 32 ≤ top_size h
    → Ends (cut_top n h) w (λ g. Good g × (size_of g (top_of h) ≡ n))
top-ends h w n g k n16 n32 l =
    let s = g.shape in
    let a : List Tile = h.tiles in
    let c : ℕ = top_of h in
    let b : ℕ → ℕ = λ x. binned h x in
    let T : Tile = tile (h.len - c) 1 0 in
    let A₁ : Tile = tile n 1 0 in
    let B₁ : Tile = tile (h.len - (c + n)) 1 0 in
    let K = cut-top-kept h w n s k n16 n32 l in
    let F = flags-split b 0 0 0 a (T ∷ []) g.flag in
    let none : (x : ℕ) → c ≤ x → total x h ≡ 0 = λ x i. omega (arith, s.own x, none_out a 0 x (tiled-tiles h s) (inr i)) in
    let q : last_b b 0 0 a ≡ 0 = omega (arith, F.1.0) in
    record {
      mem = K.mem;
      now = (
        record {
          shape = K.shape;
          homes = homes-tiles h (a ++ A₁ ∷ [])
              (λ y i. sizes-mid h (a ++ A₁ ∷ []) a [] (A₁ ∷ []) [] y s (tiled-tiles h s) (n16, n32, omega arith, tt) (sym (append-nil a)) refl (inr refl) i refl)
              g.homes;
          flag = subst (flags b 0 0 0) (sym (ap (λ (o : ℕ). (a ++ A₁ ∷ []) ++ tile (h.len - o) 1 0 ∷ []) (snoc-end a A₁) ∙ snoc-tiles a (B₁ ∷ []) A₁))
              (flags-join b 0 0 0 a (A₁ ∷ B₁ ∷ []) F.0 (
                omega (arith, q),
                omega (arith, q, none c (omega arith)),
                ((λ z. absurd (omega (arith, z))), λ z. refl),
                (
                  omega (arith, none c (omega arith)),
                  omega (arith, none c (omega arith), none (c + n) (omega arith)),
                  ((λ z. absurd (omega (arith, z))), λ z. refl),
                  tt,
                ),
              ));
        },
        size-at (with_tiles (a ++ A₁ ∷ []) h) a [] A₁ refl (tiled-tiles h s),
      );
    }
