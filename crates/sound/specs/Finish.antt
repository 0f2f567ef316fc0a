-- A block that keeps its place: the next P is set, and a rest of 32 or more is cut off and released. By a named state (Held): the block is loose, and all
-- flags hold but those of the chunk after it. Assumes nothing.
use Rattle.std.specs.Prelude.{◌≡◌, refl, List, [], ◌∷◌, ◌++◌, Bool, true, false, ℕ, ◌+◌, ◌-◌, ◌%◌, ◌≤◌, ltb}
use Rattle.std.proofs.Common.{sym, ap, ◌∙◌, subst, append_assoc, append-nil, inl, inr, ⊎_elim, arith}
use borrow.Author.Tests.{eq-eqb, ne_eqb, ltb-false}
use Rattle.sizes.specs.Limits.{least_chunk}
use Rattle.machine.specs.Lists.{cnt}
use Rattle.machine.specs.Count.{ind-same, ind-other}
use Rattle.machine.specs.Heap.{Tile, tile, Heap, with_tiles, end_from, starts_from, top_of, top_size, starts, size_of, next, binned, total}
use Rattle.machine.specs.Writes.{Write, apply, Ran, heap_of, writes, does, giving, more, ◌>>=◌, ran, size}
use Rattle.machine.specs.Primitives.{set_p, trim_at}
use Rattle.machine.specs.Release.{release}
use Rattle.machine.specs.Resize.{next_p, finish}
use Rattle.sound.specs.Relation.{tiled, Mem, Shape, Loose, flags, Homes, Good}
use Rattle.sound.specs.Tiles.{tiled-split, end-le, end-append, starts-append, none_out, starts-once}
use Rattle.sound.specs.Apart.{size-at, sizes-mid, tiled-tiles}
use Rattle.sound.specs.Edits.{snoc-end, snoc-tiles, top-mid, all-mid, Kept, set_is, set-kept, trim-is, trim-kept}
use Rattle.sound.specs.Flags.{flags_after, last_b, last_b-snoc, flags-split, flags-join, flags-after}
use Rattle.sound.specs.Homes.{homes-tiles, homes_same}
use Rattle.sound.specs.Spares.{Spares, spares-append, spares_then, spares-less}
use Rattle.sound.specs.Moves.{answer_of, nil, one, any, Moved, moved_keeps, moved_by, set-moved, trim-moved}
use Rattle.sound.specs.Leaves.{Leaves, leaves-weaken, leaves_by, leaves_none, leaves-giving, leaves-next, leaves-size, leaves-widen}
use Rattle.sound.specs.Release.{release-leaves}
use Rattle.sound.specs.Below.{Below, OwnP, p-at, heap-giving, heap-then, Unmoved, release-below}

-- ---- c, at the end of a
pub record Held (h : Heap) (a : List Tile) (t : Tile) (r : List Tile) : Type 0 where
  pub shape : Shape h
  pub homes : Homes h
  pub tiles : h.tiles ≡ a ++ t ∷ r
  pub low : flags (λ x. binned h x) 0 0 0 (a ++ t ∷ [])
  pub loose : total (end_from 0 a) h ≡ 0
  pub high : flags_after (λ x. binned h x) (end_from 0 a + t.size) (r ++ tile (top_size h) 1 0 ∷ [])

pub held-good : (h : Heap) (a : List Tile) (t : Tile) (r : List Tile) → Good h → h.tiles ≡ a ++ t ∷ r → total (end_from 0 a) h ≡ 0 → Held h a t r
held-good h a t r g e lo =
    let T : List Tile = tile (top_size h) 1 0 ∷ [] in
    let b : ℕ → ℕ = λ x. binned h x in
    let a₁ : List Tile = a ++ t ∷ [] in
    let q : h.tiles ++ T ≡ a₁ ++ (r ++ T) = ap (λ (l : List Tile). l ++ T) (e ∙ sym (snoc-tiles a r t)) ∙ append_assoc a₁ r T in
    let F = flags-split b 0 0 0 a₁ (r ++ T) (subst (flags b 0 0 0) q g.flag) in
    record {
      shape = g.shape;
      homes = g.homes;
      tiles = e;
      low = F.0;
      loose = lo;
      high = subst (λ (o : ℕ). flags_after b o (r ++ T)) (snoc-end a t) (flags-after b (end_from 0 a₁) _ _ (r ++ T) F.1);
    }

pub held-loose : (h : Heap) (a : List Tile) (t : Tile) (r : List Tile) → Held h a t r → Loose h (end_from 0 a)
held-loose h a t r H =
    omega (arith, H.loose, ap (λ (l : List Tile). cnt (end_from 0 a) (starts_from 0 l)) H.tiles, starts-append 0 a (t ∷ r) (end_from 0 a), ind-same (end_from 0 a))

-- ---- the next P: nothing where the top is next, else the next chunk's size word with P set
pub next_p-top : (h : Heap) (a : List Tile) (t : Tile) → Held h a t [] → next_p (end_from 0 a) h ≡ does h []
unfolding next_p
next_p-top h a t H =
    let c : ℕ = end_from 0 a in
    let f : tiled a × tiled (t ∷ []) = tiled-split a (t ∷ []) (subst tiled H.tiles (tiled-tiles h H.shape)) in
    let en : next h c ≡ top_of h = ap (λ (z : ℕ). c + z) (size-at h a [] t H.tiles f.0) ∙ sym (ap (end_from 0) H.tiles ∙ snoc-end a t) in
    rw (eq-eqb (next h c) (top_of h) en, next_p)

pub next_p-set : (h : Heap) (a : List Tile) (t u : Tile) (r : List Tile) → Held h a t (u ∷ r)
    → next_p (end_from 0 a) h ≡ does (with_tiles ((a ++ t ∷ []) ++ tile u.size 1 0 ∷ r) h) (size (end_from 0 (a ++ t ∷ [])) u.size 1 ∷ [])
unfolding next_p
next_p-set h a t u r H =
    let c : ℕ = end_from 0 a in
    let a₁ : List Tile = a ++ t ∷ [] in
    let e₁ : h.tiles ≡ a₁ ++ u ∷ r = H.tiles ∙ sym (snoc-tiles a (u ∷ r) t) in
    let x : ℕ = end_from 0 a₁ in
    let f : tiled a × tiled (t ∷ u ∷ r) = tiled-split a (t ∷ u ∷ r) (subst tiled H.tiles (tiled-tiles h H.shape)) in
    let en : next h c ≡ x = ap (λ (z : ℕ). c + z) (size-at h a (u ∷ r) t H.tiles f.0) ∙ sym (snoc-end a t) in
    let tp : top_of h ≡ end_from (x + u.size) r = ap (end_from 0) e₁ ∙ end-append 0 a₁ (u ∷ r) in
    let nt : next h c ≡ top_of h → ⊥ = λ q. omega (arith, en, tp, end-le (x + u.size) r, f.1.3.1) in
    rw (ne_eqb (next h c) (top_of h) nt, next_p) (ap (λ (y : ℕ). set_p y h) en ∙ set_is h [] a₁ r u e₁ H.shape)

pub next_p-leaves : (h : Heap) (w : List ℕ) (a : List Tile) (t : Tile) (r : List Tile) → Held h a t r → Mem h w
    → Leaves h w (next_p (end_from 0 a) h) (λ b g. Good g) (any nil) nil
next_p-leaves h w a t [] H k =
    let c : ℕ = end_from 0 a in
    let s = H.shape in
    let b : ℕ → ℕ = λ x. binned h x in
    let lb : last_b b 0 0 (a ++ t ∷ []) ≡ 0 = last_b-snoc b 0 0 a t ∙ (let q : b c ≡ 0 = omega (arith, H.loose) in q) in
    let none : binned h (top_of h) ≡ 0 = omega (arith, s.own (top_of h), none_out h.tiles 0 (top_of h) (tiled-tiles h s) (inr (omega arith))) in
    let eo : end_from 0 (a ++ t ∷ []) ≡ top_of h = sym (ap (end_from 0) H.tiles) in
    leaves_by (next_p-top h a t H) (leaves_none k (record {
      shape = s;
      homes = H.homes;
      flag = subst (flags b 0 0 0) (ap (λ (l : List Tile). l ++ tile (top_size h) 1 0 ∷ []) (sym H.tiles))
          (flags-join b 0 0 0 (a ++ t ∷ []) (tile (top_size h) 1 0 ∷ []) H.low
          (omega (arith, lb), omega (arith, lb, none, ap b eo), ((λ q. absurd (omega (arith, q))), λ q. refl), tt));
    }))
next_p-leaves h w a t (u ∷ r) H k =
    let c : ℕ = end_from 0 a in
    let s = H.shape in
    let b : ℕ → ℕ = λ x. binned h x in
    let a₁ : List Tile = a ++ t ∷ [] in
    let e₁ : h.tiles ≡ a₁ ++ u ∷ r = H.tiles ∙ sym (snoc-tiles a (u ∷ r) t) in
    let x : ℕ = end_from 0 a₁ in
    let U : Tile = tile u.size 1 0 in
    let T : Tile = tile (top_size h) 1 0 in
    let K : Kept h (a₁ ++ U ∷ r) w (size x u.size 1 ∷ []) = set-kept h w a₁ r u e₁ s k in
    let A = all-mid h a₁ (u ∷ []) (U ∷ []) r e₁ refl in
    let lb : last_b b 0 0 a₁ ≡ 0 = last_b-snoc b 0 0 a t ∙ (let q : b c ≡ 0 = omega (arith, H.loose) in q) in
    let one : b x ≤ 1 = omega (arith, s.own x, starts-once h.tiles 0 x (tiled-tiles h s)) in
    leaves_by (next_p-set h a t u r H) (record {
      mem = K.mem;
      now = record {
        shape = K.shape;
        homes = homes_same h a₁ r u U e₁ s refl (omega arith) H.homes;
        flag = subst (flags b 0 0 0) (sym A.1)
            (flags-join b 0 0 0 a₁ (U ∷ (r ++ T ∷ [])) H.low (
              omega (arith, lb),
              omega (arith, lb, one),
              ((λ q. absurd (omega (arith, q))), λ q. refl),
              subst (λ (o : ℕ). flags b (o + u.size) (b o) u.size (r ++ T ∷ [])) (sym (snoc-end a t)) H.high,
            ));
      };
      moved = moved_by (sym (set_is h w a₁ r u e₁ s)) (set-moved h a₁ r u e₁ s);
    })

-- no tile up to c is changed
next-below : (h : Heap) (a : List Tile) (t : Tile) (r : List Tile) → Held h a t r → Below (a ++ t ∷ []) (heap_of (next_p (end_from 0 a) h))
next-below h a t [] H =
    record { rest = []; tiles = ap (λ (r : Ran (Unit {0})). (heap_of r).tiles) (next_p-top h a t H) ∙ H.tiles ∙ sym (append-nil (a ++ t ∷ [])) }
next-below h a t (u ∷ r) H = record { rest = tile u.size 1 0 ∷ r; tiles = ap (λ (r : Ran (Unit {0})). (heap_of r).tiles) (next_p-set h a t u r H) }

-- ---- c stays where it is, of at least n, with P as p has it unless the fast chunks were joined, and no usable word that it has before and after is written.
-- o: what goes from the loose ones, c among them
pub record InPlace {A : Type 0} (c n p : ℕ) (o : ℕ → ℕ) (h : Heap) (w : List ℕ) (x : Ran A) : Type 0 where
  pub leaves : Leaves h w x (λ b g. Good g × (n ≤ size_of g c)) (any (one c)) o
  pub own : OwnP c p (heap_of x)
  pub spare : (m : ℕ) → m ≤ size_of h c → m ≤ size_of (heap_of x) c → Spares c m (writes x)

in-place-if : {A : Type 0} {c n p : ℕ} {o : ℕ → ℕ} {h : Heap} {w : List ℕ} (t : Bool) {x y : Ran A} → (t ≡ true → InPlace c n p o h w x)
    → (t ≡ false → InPlace c n p o h w y) → InPlace {A = A} c n p o h w (elim t [ true ↦ x | false ↦ y ])
in-place-if true f g = f refl
in-place-if false f g = g refl

-- after a step that leaves c where it is, no smaller
pub in-place-next : {A B : Type 0} {c n p : ℕ} {h : Heap} {w : List ℕ} {r : Ran A} (f : Heap → Ran B) {i₁ : A → ℕ → ℕ} {o₁ o₂ o : ℕ → ℕ} → Moved h r i₁ o₁
    → Spares c (size_of h c) (writes r) → size_of h c ≤ size_of (heap_of r) c → InPlace c n p o₂ (heap_of r) (apply (writes r) w) (f (heap_of r))
    → ((x : ℕ) → o₁ x + o₂ x ≡ o x + i₁ (answer_of r) x) → ((x : ℕ) → Loose h x → o x ≡ 0 → (o₁ x ≡ 0) × (o₂ x ≡ 0)) → InPlace c n p o h w (r >>= f)
in-place-next {A} {B} {c} {n} {p} {h} {w} {r = ran g ws a} f {o₂ = o₂} m sp le I e out = record {
  leaves = leaves-next f m I.leaves (λ b x. omega (arith, e x)) out;
  own = subst (OwnP c p) (sym (heap-then (ran g ws a) f)) I.own;
  spare = go (f g) I.spare;
}
  where
    go : (q : Ran B) → ((m : ℕ) → m ≤ size_of g c → m ≤ size_of (heap_of q) c → Spares c m (writes q))
        → (m : ℕ) → m ≤ size_of h c → m ≤ size_of (heap_of (more ws q)) c → Spares c m (writes (more ws q))
    go (ran k vs b) s m l u = spares-append c m ws vs (spares-less c (size_of h c) m ws l sp) (s m (omega (arith, le)) u)

-- ---- the rest of c behind n is cut off: it is loose, as c is
module _ (h : Heap) (w : List ℕ) (a : List Tile) (t : Tile) (r : List Tile) (H : Held h a t r) (k : Mem h w) (n : ℕ) (n16 : n % 16 ≡ 0) (n32 : 32 ≤ n) where
  abbrev c : ℕ
  c = end_from 0 a

  abbrev A : Tile
  A = tile n t.p t.prev

  abbrev B : Tile
  B = tile (t.size - n) 1 0

  abbrev trimmed : Heap
  trimmed = with_tiles (a ++ A ∷ B ∷ r) h

  f : tiled a × tiled (t ∷ r)
  f = tiled-split a (t ∷ r) (subst tiled H.tiles (tiled-tiles h H.shape))

  no_start : n + 32 ≤ t.size → cnt (c + n) (starts h) ≡ 0
  no_start nt = omega (
    arith,
    ap (λ (l : List Tile). cnt (c + n) (starts_from 0 l)) H.tiles,
    starts-append 0 a (t ∷ r) (c + n),
    none_out a 0 (c + n) f.0 (inr (omega arith)),
    ind-other (c + n) c (λ q. omega arith),
    none_out r (c + t.size) (c + n) f.1.3 (inl (omega arith)),
  )

  pub trim-held : n + 32 ≤ t.size → Held trimmed (a ++ A ∷ []) B r
  trim-held nt =
      let s = H.shape in
      let b : ℕ → ℕ = λ x. binned h x in
      let ec : end_from 0 (a ++ A ∷ []) ≡ c + n = snoc-end a A in
      let ez : c + t.size ≡ c + n + (t.size - n) = omega arith in
      let none : total (c + n) h ≡ 0 = omega (arith, s.own (c + n), no_start nt) in
      let F = flags-split b 0 0 0 a (t ∷ []) H.low in
      record {
        shape = (trim-kept h w a r t H.tiles s n n16 n32 nt k H.loose).shape;
        homes = homes-tiles h (a ++ A ∷ B ∷ r)
            (λ y i. sizes-mid h (a ++ A ∷ B ∷ r) a (t ∷ []) (A ∷ B ∷ []) r y s (tiled-tiles h s)
            (n16, n32, f.1.2, (omega (arith, f.1.0), omega arith, omega arith, tt)) H.tiles refl (inl (omega arith)) i
            (omega (arith, ind-other y c (λ q. omega (arith, ap (λ (o : ℕ). total o h) q, H.loose)))))
            H.homes;
        tiles = sym (snoc-tiles a (B ∷ r) A);
        low = subst (flags b 0 0 0) (sym (snoc-tiles a (B ∷ []) A))
            (flags-join b 0 0 0 a (A ∷ B ∷ []) F.0 (
              F.1.0,
              F.1.1,
              F.1.2,
              (omega (arith, H.loose), omega (arith, H.loose, none), ((λ q. absurd (omega (arith, q))), λ q. refl), tt),
            ));
        loose = ap (λ (o : ℕ). total o h) ec ∙ none;
        high = rw (top-mid h a (t ∷ []) (A ∷ B ∷ []) r H.tiles ez, ec, ← ez) H.high;
      }

  stay-in-place : n ≤ t.size → InPlace c n t.p (one c) h w (next_p c h)
  stay-in-place l =
      let L = next_p-leaves h w a t r H k in
      let lo = held-loose h a t r H in
      let sz : size_of h c ≡ t.size = size-at h a r t H.tiles f.0 in
      record {
        leaves = leaves-widen (leaves-weaken (leaves-size c lo refl L) (λ b g p. (p.0, omega (arith, p.1, sz)))) (λ b x. omega arith) (λ x q. refl);
        own = inl (p-at (heap_of (next_p c h)) a t f.0 (next-below h a t r H));
        spare = λ m l u. spares-less c (size_of h c) m (writes (next_p c h)) l (L.moved.spare c lo refl);
      }

  -- it is released then
  abbrev freed : Heap → Ran (Unit {0})
  freed h = giving tt (release (c + n) h)

  abbrev rest : Heap → Ran (Unit {0})
  rest h = next_p (c + n) h >>= (λ h. freed h)

  cut-in-place : n + 32 ≤ t.size → InPlace c n t.p (one c) h w (trim_at c n h >>= (λ h. rest h))
  cut-in-place nt =
      let s = H.shape in
      let K = trim-kept h w a r t H.tiles s n n16 n32 nt k H.loose in
      let H₁ = trim-held nt in
      let h₁ : Heap = trimmed in
      let ws : List Write = size c n t.p ∷ size (c + n) (t.size - n) 1 ∷ [] in
      let ti : trim_at c n h ≡ does h₁ ws = trim-is h w a r t H.tiles s n in
      let ec : end_from 0 (a ++ A ∷ []) ≡ c + n = snoc-end a A in
      let N : Leaves h₁ (apply ws w) (next_p (c + n) h₁) (λ b g. Good g) (any nil) nil =
      subst (λ (o : ℕ). Leaves h₁ (apply ws w) (next_p o h₁) (λ b g. Good g) (any nil) nil) ec (next_p-leaves h₁ (apply ws w) (a ++ A ∷ []) B r H₁ K.mem) in
      let lr : Loose h₁ (c + n) = subst (λ (o : ℕ). Loose h₁ o) ec (held-loose h₁ (a ++ A ∷ []) B r H₁) in
      let lc : Loose h₁ c = omega (arith, H.loose, starts-append 0 a (A ∷ B ∷ r) c, ind-same c) in
      let zc : size_of h₁ c ≡ n = size-at h₁ a (B ∷ r) A refl f.0 in
      let h₂ : Heap = heap_of (next_p (c + n) h₁) in
      let v : List ℕ = apply (writes (next_p (c + n) h₁)) (apply ws w) in
      let lc₂ : Loose h₂ c = moved_keeps N.moved c lc refl in
      let zc₂ : size_of h₂ c ≡ n = N.moved.same c lc refl ∙ zc in
      let lr₂ : Loose h₂ (c + n) = moved_keeps N.moved (c + n) lr refl in
      let out : one (c + n) c ≡ 0 = ind-other c (c + n) (λ q. omega arith) in
      let R : Leaves h₂ v (freed h₂) (λ b g. Good g × (size_of g c ≡ size_of h₂ c)) (any nil) (one (c + n)) =
      leaves-giving tt (leaves-size c lc₂ out (release-leaves h₂ v (c + n) N.now N.mem lr₂)) (λ b x. refl) (λ b g p. p) in
      let W : Below ((a ++ A ∷ []) ++ B ∷ []) h₂ = subst (λ (o : ℕ). Below ((a ++ A ∷ []) ++ B ∷ []) (heap_of (next_p o h₁))) ec (next-below h₁ (a ++ A ∷ []) B r H₁) in
      let lo : total (end_from 0 (a ++ A ∷ [])) h₂ ≡ 0 = rw ec (omega (arith, lr₂, starts-once h₂.tiles 0 (c + n) (tiled-tiles h₂ N.now.shape))) in
      let D = release-below h₂ v (a ++ A ∷ []) B W.rest N.now N.mem (W.tiles ∙ snoc-tiles (a ++ A ∷ []) W.rest B) refl lo in
      let other : (y : ℕ) → Loose h y → one (c + n) y ≡ 0 = λ y l. ind-other y (c + n) (λ q. omega (arith, l, no_start nt, ap (λ (o : ℕ). cnt o (starts h)) q)) in
      let L : Leaves h w (does h₁ ws >>= (λ h. rest h)) (λ b g. Good g × (size_of g c ≡ n)) (any (one c)) (one c) =
      leaves-next (λ h. rest h)
      (moved_by (sym ti) (trim-moved h a r t H.tiles s n n16 n32 nt K.shape))
      (leaves-next (λ h. freed h) {i = any nil} {o = one (c + n)} N.moved (leaves-weaken R (λ b g p. (p.0, p.1 ∙ zc₂)))
      (λ b x. omega arith) (λ x lo z. (refl, z)))
      (λ b x. omega arith) (λ x lo z. (z, other x lo)) in
      let sp : Spares c n (writes (does h₁ ws >>= (λ h. rest h))) =
      spares_then (does h₁ ws) (λ h. rest h) c n (inl (omega arith), (inr (omega arith), tt))
      (spares_then (next_p (c + n) h₁) (λ h. freed h) c n
      (subst (λ (z : ℕ). Spares c z (writes (next_p (c + n) h₁))) zc (N.moved.spare c lc refl))
      (subst (λ (z : ℕ). Spares c z (writes (freed h₂))) zc₂ (R.moved.spare c lc₂ out))) in
      subst (λ (x : Ran (Unit {0})). InPlace c n t.p (one c) h w (x >>= (λ h. rest h))) (sym ti) (record {
        leaves = leaves-weaken L (λ b g p. (p.0, omega (arith, p.1)));
        own = subst (OwnP c t.p) (sym (heap-then (does h₁ ws) (λ h. rest h) ∙ heap-then (next_p (c + n) h₁) (λ h. freed h) ∙ heap-giving tt (release (c + n) h₂)))
            (⊎_elim (λ B. inl (p-at (heap_of (release (c + n) h₂)) a A f.0 B)) (λ e. inr e)
            (subst (λ (o : ℕ). Unmoved (a ++ A ∷ []) (heap_of (release o h₂))) ec D));
        spare = λ m l u. spares-less c n m (writes (does h₁ ws >>= (λ h. rest h))) (omega (arith, L.now.1)) sp;
      })

  pub finish-in-place : n ≤ t.size → InPlace c n t.p (one c) h w (finish c n h)
  unfolding finish
  finish-in-place l =
      let sz : size_of h c ≡ t.size = size-at h a r t H.tiles f.0 in
      in-place-if (ltb (size_of h c - n) least_chunk)
      (λ e. stay-in-place l)
      (λ e. cut-in-place (omega (arith, sz, ltb-false (size_of h c - n) least_chunk e)))
