-- What a step does to the loose chunks: which come and which go, counted; the others keep their sizes, and none of their usable words is written,
-- nor the arena's first word. Steps follow one another by adding the counts. Here the primitives, each by its edit. Assumes nothing.
use Rattle.std.specs.Prelude.{◌≡◌, refl, List, [], ◌∷◌, ◌++◌, ℕ, ◌+◌, ◌-◌, ◌%◌, ◌≤◌, ◌<◌, eqb, length}
use Rattle.std.proofs.Common.{sym, ap, ◌∙◌, subst, append-nil, inl, inr, ⊎_elim, arith}
use Rattle.sizes.specs.Limits.{none64, large, first_large}
use Rattle.machine.specs.Lists.{hd, lst, tl, pre, post, ind, cnt}
use Rattle.machine.specs.Count.{eq?, ind-same, ind-other, cnt-append, cnt-here, cnt_all-set, cnt-le-all}
use Rattle.machine.specs.Heap.{Tile, tile, Heap, stack, bin, with_tiles, end_from, starts_from, top_of, starts, size_of, next, total}
use Rattle.machine.specs.Writes.{Write, Ran, heap_of, writes, does, giving, more, ◌>>=◌, size, note, link, key, ran}
use Rattle.machine.specs.Primitives.{push, pop, push_cache, take_cache, links_in, link_in, links_out, unlink, swallow, clear_p, set_p, set_note, cut_at, to_top, cut_top, set_remainder, widen, trim_at, grow_top}
use Rattle.machine.specs.Mixing.{stored}
use Rattle.machine.specs.Skips.{skips_in, skips_out}
use Rattle.sound.specs.Relation.{tiled, Shape, Loose}
use Rattle.sound.specs.Tiles.{tiled-split, starts-append, starts-once}
use Rattle.sound.specs.Frames.{starts-all}
use Rattle.sound.specs.Apart.{sizes-at, sizes-same, tiled-tiles}
use Rattle.sound.specs.Edits.{size_32, snoc-end, same-starts, swallow-is, clear-is, set_is, note-is, cut-is, to-top-is, widen-is, trim-is, grow-is}
use Rattle.sound.specs.Lists.{cut-cnt}
use Rattle.sound.specs.Rings.{skips_in-w, skips_out-w}
use Rattle.sound.specs.Join.{binned-unlink, binned-link}
use Rattle.sound.specs.Spares.{Spares, Past, past-append, past-ends, past-skips, spares-append, spare-links, unlink-spares, link-spares, spare-size, spare-note}

abbrev pub answer_of : {A : Type 0} → Ran A → A
answer_of (ran h ws a) = a

-- the counts: none at all; c, once; the same for every answer
abbrev pub nil : ℕ → ℕ
nil x = 0

abbrev pub one : ℕ → ℕ → ℕ
one c x = ind (eqb x c)

abbrev pub any : {A : Type 0} → (ℕ → ℕ) → A → ℕ → ℕ
any f a x = f x

-- i: what comes, by the answer; o: what goes
pub record Moved {A : Type 0} (h : Heap) (r : Ran A) (i : A → ℕ → ℕ) (o : ℕ → ℕ) : Type 0 where
  pub count : (x : ℕ) → cnt x (starts (heap_of r)) + total x h + o x ≡ cnt x (starts h) + total x (heap_of r) + i (answer_of r) x
  pub same : (x : ℕ) → Loose h x → o x ≡ 0 → size_of (heap_of r) x ≡ size_of h x
  pub spare : (x : ℕ) → Loose h x → o x ≡ 0 → Spares x (size_of h x) (writes r)
  pub past : Past (writes r)

pub one-not : (c x : ℕ) → one c x ≡ 0 → x ≡ c → ⊥
one-not c x e q = omega (arith, ap (λ (y : ℕ). ind (eqb y c)) q, ind-same c)

-- a listed chunk is not loose
pub listed-not : (h : Heap) (x q : ℕ) → Shape h → Loose h x → 1 ≤ total q h → one q x ≡ 0
listed-not h x q s lo m = ⊎_elim
    (λ e. absurd (omega (arith, lo, ap (λ (y : ℕ). total y h) e, starts-once h.tiles 0 x (tiled-tiles h s))))
    (λ e. ind-other x q e)
    (eq? x q)

pub moved_keeps : {A : Type 0} {h : Heap} {r : Ran A} {i : A → ℕ → ℕ} {o : ℕ → ℕ} → Moved h r i o → (x : ℕ) → Loose h x → o x ≡ 0 → Loose (heap_of r) x
moved_keeps m x lo e = omega (arith, m.count x)

-- one step, then another: what goes and comes adds up, and no loose chunk that stays goes in between
pub moved_more : {A B : Type 0} {h h₁ : Heap} {ws : List Write} {a : A} {r : Ran B} {i₁ : A → ℕ → ℕ} {i₂ i : B → ℕ → ℕ} {o₁ o₂ o : ℕ → ℕ}
    → Moved h (ran h₁ ws a) i₁ o₁ → Moved h₁ r i₂ o₂
    → ((b : B) (x : ℕ) → o₁ x + o₂ x + i b x ≡ o x + i₁ a x + i₂ b x)
    → ((x : ℕ) → Loose h x → o x ≡ 0 → (o₁ x ≡ 0) × (o₂ x ≡ 0)) → Moved h (more ws r) i o
moved_more {h = h} {ws = ws} {r = ran h₂ vs b} m n e c = record {
  count = λ x. omega (arith, m.count x, n.count x, e b x);
  same = λ x lo z. let k = c x lo z in n.same x (moved_keeps m x lo k.0) k.1 ∙ m.same x lo k.0;
  spare = λ x lo z.
      let k = c x lo z in
      spares-append x (size_of h x) ws vs (m.spare x lo k.0)
      (subst (λ (n : ℕ). Spares x n vs) (m.same x lo k.0) (n.spare x (moved_keeps m x lo k.0) k.1));
  past = past-append ws vs m.past n.past;
}

pub moved_then : {A B : Type 0} {h : Heap} {r : Ran A} (f : Heap → Ran B) {i₁ : A → ℕ → ℕ} {i₂ i : B → ℕ → ℕ} {o₁ o₂ o : ℕ → ℕ}
    → Moved h r i₁ o₁ → Moved (heap_of r) (f (heap_of r)) i₂ o₂
    → ((b : B) (x : ℕ) → o₁ x + o₂ x + i b x ≡ o x + i₁ (answer_of r) x + i₂ b x)
    → ((x : ℕ) → Loose h x → o x ≡ 0 → (o₁ x ≡ 0) × (o₂ x ≡ 0)) → Moved h (r >>= f) i o
moved_then {r = ran h₁ ws a} f m n e c = moved_more m n e c

pub moved-giving : {A B : Type 0} {h : Heap} (b : B) {r : Ran A} {i : A → ℕ → ℕ} {j : B → ℕ → ℕ} {o : ℕ → ℕ}
    → ((x : ℕ) → j b x ≡ i (answer_of r) x) → Moved h r i o → Moved h (giving b r) j o
moved-giving b {r = ran g ws a} e m = record { count = λ x. omega (arith, m.count x, e x); same = m.same; spare = m.spare; past = m.past }

pub moved_by : {A : Type 0} {h : Heap} {r r' : Ran A} {i : A → ℕ → ℕ} {o : ℕ → ℕ} → r ≡ r' → Moved h r' i o → Moved h r i o
moved_by {A} {h} {i = i} {o = o} e m = subst (λ (r : Ran A). Moved h r i o) (sym e) m

pub moved_none : {A : Type 0} (h : Heap) (a : A) → Moved h (ran h [] a) (any nil) nil
moved_none h a = record { count = λ x. omega arith; same = λ x lo z. refl; spare = λ x lo z. tt; past = tt }

pub remainder-moved : (h : Heap) (c : ℕ) → Moved h (set_remainder c h) (any nil) nil
remainder-moved h c = record { count = λ x. omega arith; same = λ x lo z. refl; spare = λ x lo z. tt; past = tt }

-- ---- lists
pub unlink-moved : (h : Heap) (j q : ℕ) → Shape h → 1 ≤ cnt q (bin h j) → Moved h (unlink j q h) (any (one q)) nil
unlink-moved h j q s m = record {
  count = λ x. omega (arith, binned-unlink h j q x m);
  same = λ x lo z. refl;
  spare = λ x lo z. unlink-spares h j q x s lo m;
  past = past-append (links_out (pre q (bin h j)) (post q (bin h j))) (skips_out j (λ x. size_of h x) (pre q (bin h j) ++ post q (bin h j)))
      (past-ends (pre q (bin h j)) (post q (bin h j)) (hd none64 (post q (bin h j))) (lst none64 (pre q (bin h j))))
      (past-skips (λ x. size_of h x) (pre q (bin h j) ++ post q (bin h j)) (skips_out j (λ x. size_of h x) (pre q (bin h j) ++ post q (bin h j))) (skips_out-w j (λ x. size_of h x) (pre q (bin h j) ++ post q (bin h j))
      (λ z x i. s.roomy j x z (omega (arith, cut-cnt q (bin h j) m x, cnt-append x (pre q (bin h j)) (post q (bin h j)))))));
}

pub link-moved : (h : Heap) (j c : ℕ) (xs ys : List ℕ) → Shape h → j < length h.bins → Loose h c → bin h j ≡ xs ++ ys
    → (first_large ≤ j → large ≤ size_of h c) → Moved h (link_in j c xs ys h) (any nil) (one c)
link-moved h j c xs ys s hj lc e lw = record {
  count = λ x. omega (arith, binned-link h j c x xs ys hj e);
  same = λ x lo z. refl;
  spare = λ x lo z. link-spares h j c x xs ys s lo lc (one-not c x z) e lw;
  past = past-append (links_in c xs ys) (skips_in j (λ x. size_of h x) c (xs ++ c ∷ ys)) (omega arith, (omega arith, past-ends xs ys c c))
      (past-skips (λ x. size_of h x) (xs ++ c ∷ ys) (skips_in j (λ x. size_of h x) c (xs ++ c ∷ ys)) (skips_in-w j (λ x. size_of h x) c (xs ++ c ∷ ys) (omega (arith, cnt-append c xs (c ∷ ys), ind-same c))
      (λ z x i. ⊎_elim (λ q. rw q (lw z)) (λ q. s.roomy j x z (omega (arith, cnt-append x xs (c ∷ ys), ap (cnt x) e, cnt-append x xs ys, ind-other x c q))) (eq? x c))));
}

pub push-moved : (h : Heap) (k c : ℕ) → Shape h → k < 74 → Loose h c → Moved h (push k c h) (any nil) (one c)
push-moved h k c s hk lc = record {
  count = λ x. omega (arith, cnt_all-set x h.stacks k (c ∷ stack h k) (omega (arith, s.stacked74)));
  same = λ x lo z. refl;
  spare = λ x lo z. spare-links h x (c ∷ []) (link c (stored h.edition c (hd none64 (stack h k))) ∷ []) s (omega arith)
      (λ y i. ⊎_elim (λ q. rw q (omega (arith, starts-all h c))) (λ q. absurd (omega (arith, ind-other y c q))) (eq? y c))
      (omega arith) (omega arith, cnt-here c [], tt);
  past = (omega arith, tt);
}

pub pop-moved : (h : Heap) (k c : ℕ) (l : List ℕ) → Shape h → k < 74 → stack h k ≡ c ∷ l → Moved h (pop k h) (any (one c)) nil
pop-moved h k c l s hk e = record {
  count = λ x. omega (arith, cnt_all-set x h.stacks k (tl (stack h k)) (omega (arith, s.stacked74)), ap (cnt x) e, ap (λ (z : List ℕ). cnt x (tl z)) e);
  same = λ x lo z. refl;
  spare = λ x lo z. tt;
  past = tt;
}

-- the cache's: the key is written in the chunk that goes, 0 in the chunk that comes
pub push_cache-moved : (h : Heap) (k c : ℕ) → Shape h → k < 74 → Loose h c → Moved h (push_cache k c h) (any nil) (one c)
push_cache-moved h k c s hk lc = record {
  count = (push-moved h k c s hk lc).count;
  same = λ x lo z. refl;
  spare = λ x lo z. spare-links h x (c ∷ []) (link c (stored h.edition c (hd none64 (stack h k))) ∷ key c h.key ∷ []) s (omega arith)
      (λ y i. ⊎_elim (λ q. rw q (omega (arith, starts-all h c))) (λ q. absurd (omega (arith, ind-other y c q))) (eq? y c))
      (omega arith) (omega arith, cnt-here c [], (omega arith, cnt-here c [], tt));
  past = (omega arith, (omega arith, tt));
}

pub take_cache-moved : (h : Heap) (k c : ℕ) (l : List ℕ) → Shape h → k < 74 → stack h k ≡ c ∷ l → Moved h (take_cache k h) (any (one c)) nil
take_cache-moved h k c l s hk e = record {
  count = (pop-moved h k c l s hk e).count;
  same = λ x lo z. refl;
  spare = λ x lo z.
      let q : hd none64 (stack h k) ≡ c = ap (hd none64) e in
      let tot : 1 ≤ total c h = omega (arith, ap (cnt c) e, ind-same c, cnt-le-all c h.stacks k) in
      spare-links h x (c ∷ []) (key (hd none64 (stack h k)) 0 ∷ []) s (omega arith)
      (λ y i. ⊎_elim (λ q. rw q (omega (arith, starts-all h c, s.own c, tot))) (λ q. absurd (omega (arith, ind-other y c q))) (eq? y c))
      (omega (arith, listed-not h x c s lo tot)) (omega arith, rw q (cnt-here c []), tt);
  past = (omega arith, tt);
}

-- ---- tiles: the chunk at the end of a takes in the next one
module _ (h : Heap) (a z : List Tile) (t u : Tile) (e : h.tiles ≡ a ++ t ∷ u ∷ z) (s : Shape h) where
  whole-moved : (p n : ℕ) → p ≤ 1 → Moved h (does (with_tiles (a ++ tile (t.size + u.size) p n ∷ z) h) (size (end_from 0 a) (t.size + u.size) p ∷ []))
      (any (one (end_from 0 a))) (λ x. one (end_from 0 a) x + one (end_from 0 a + t.size) x)
  whole-moved p n p1 =
      let c : ℕ = end_from 0 a in
      let d : ℕ = c + t.size in
      let U : Tile = tile (t.size + u.size) p n in
      let ts : List Tile = a ++ U ∷ z in
      let f : tiled a × tiled (t ∷ u ∷ z) = tiled-split a (t ∷ u ∷ z) (subst tiled e (tiled-tiles h s)) in
      let ez : c + t.size + u.size ≡ c + (t.size + u.size) = omega arith in
      let cs : (x : ℕ) → cnt x (starts_from 0 ts) + one d x ≡ cnt x (starts h) = λ x.
      omega (
        arith,
        ap (λ (l : List Tile). cnt x (starts_from 0 l)) e,
        starts-append 0 a (t ∷ u ∷ z) x,
        starts-append 0 a (U ∷ z) x,
        ap
            (λ (o : ℕ). cnt x (starts_from o z)) ez,
      ) in
      record {
        count = λ x. omega (arith, cs x);
        same = λ x lo y. sizes-at h ts a (t ∷ u ∷ []) (U ∷ []) z x (tiled-tiles h s)
            (omega (arith, f.1.0, f.1.3.0), omega (arith, f.1.1), p1, tt) e refl (inl (omega arith)) (omega arith) (omega arith);
        spare = λ x lo y. spare-size h x c (t.size + u.size) p s lo
            (omega (arith, starts-all h c, ap (λ (l : List Tile). cnt c (starts_from 0 l)) e, starts-append 0 a (t ∷ u ∷ z) c, ind-same c));
        past = (omega arith, tt);
      }

  pub swallow-moved : Moved h (swallow (end_from 0 a) h) (any (one (end_from 0 a))) (λ x. one (end_from 0 a) x + one (end_from 0 a + t.size) x)
  swallow-moved = moved_by (swallow-is h [] a z t u e s) (whole-moved 1 0 (omega arith))

  pub widen-moved : Moved h (widen (end_from 0 a) h) (any (one (end_from 0 a))) (λ x. one (end_from 0 a) x + one (end_from 0 a + t.size) x)
  widen-moved = moved_by (widen-is h [] a z t u e s)
      (whole-moved t.p t.prev (tiled-split a (t ∷ u ∷ z) (subst tiled e (tiled-tiles h s))).1.2)

-- ---- P and the note of a chunk u; a chunk u is cut
module _ (h : Heap) (a z : List Tile) (u : Tile) (e : h.tiles ≡ a ++ u ∷ z) (s : Shape h) where
  fu : tiled a × tiled (u ∷ z)
  fu = tiled-split a (u ∷ z) (subst tiled e (tiled-tiles h s))

  here : 1 ≤ cnt (end_from 0 a) (starts h)
  here = omega (arith, ap (λ (l : List Tile). cnt (end_from 0 a) (starts_from 0 l)) e, starts-append 0 a (u ∷ z) (end_from 0 a), ind-same (end_from 0 a))

  pub set-moved : Moved h (set_p (end_from 0 a) h) (any nil) nil
  set-moved =
      let c : ℕ = end_from 0 a in
      let U : Tile = tile u.size 1 0 in
      let i = here in
      moved_by (set_is h [] a z u e s) (record {
        count = λ x. omega (arith, same-starts h a z u U e refl x);
        same = λ x lo y. sizes-same h a z u U x e s refl (omega arith) (omega arith);
        spare = λ x lo y. spare-size h x c u.size 1 s lo (omega (arith, starts-all h c));
        past = (omega arith, tt);
      })

  -- the note lies at the end of the chunk d before u
  pub note-moved : (d m : ℕ) → 1 ≤ cnt d (starts h) → next h d ≡ end_from 0 a → Moved h (set_note (end_from 0 a) m h) (any (one d)) (one d)
  note-moved d m md nd =
      let c : ℕ = end_from 0 a in
      let U : Tile = tile u.size u.p m in
      let i = here in
      moved_by (note-is h [] a z u e s m) (record {
        count = λ x. omega (arith, same-starts h a z u U e refl x);
        same = λ x lo y. sizes-same h a z u U x e s refl fu.1.2 (omega arith);
        spare = λ x lo y. subst (λ (o : ℕ). Spares x (size_of h x) (note o m ∷ [])) nd
            (spare-note h x d m s lo (one-not d x y) md (rw nd (omega (arith, starts-all h c))));
        past = (omega (arith, nd, size_32 h d s md), tt);
      })

  pub clear-moved : (d m : ℕ) → 1 ≤ cnt d (starts h) → next h d ≡ end_from 0 a → Moved h (clear_p (end_from 0 a) m h) (any (one d)) (one d)
  clear-moved d m md nd =
      let c : ℕ = end_from 0 a in
      let U : Tile = tile u.size 0 m in
      let i = here in
      moved_by (clear-is h [] a z u e s m) (record {
        count = λ x. omega (arith, same-starts h a z u U e refl x);
        same = λ x lo y. sizes-same h a z u U x e s refl (omega arith) (omega arith);
        spare = λ x lo y. (
          (spare-size h x c u.size 0 s lo (omega (arith, starts-all h c))).0,
          subst (λ (o : ℕ). Spares x (size_of h x) (note o m ∷ [])) nd (spare-note h x d m s lo (one-not d x y) md (rw nd (omega (arith, starts-all h c)))),
        );
        past = (omega arith, (omega (arith, nd, size_32 h d s md), tt));
      })

  parts-moved : (p n : ℕ) → p ≤ 1 → (b : ℕ) → b % 16 ≡ 0 → 32 ≤ b → b + 32 ≤ u.size → Shape (with_tiles (a ++ tile b p n ∷ tile (u.size - b) 1 0 ∷ z) h)
      → Moved h (does (with_tiles (a ++ tile b p n ∷ tile (u.size - b) 1 0 ∷ z) h) (size (end_from 0 a) b p ∷ size (end_from 0 a + b) (u.size - b) 1 ∷ []))
      (any (λ x. one (end_from 0 a) x + one (end_from 0 a + b) x)) (one (end_from 0 a))
  parts-moved p n p1 b b16 b32 bu s₁ =
      let f = fu in
      let c : ℕ = end_from 0 a in
      let ts : List Tile = a ++ tile b p n ∷ tile (u.size - b) 1 0 ∷ z in
      let h₁ : Heap = with_tiles ts h in
      let ez : c + b + (u.size - b) ≡ c + u.size = omega arith in
      let cs : (x : ℕ) → cnt x (starts h₁) ≡ cnt x (starts h) + one (c + b) x = λ x.
      omega (
        arith,
        ap (λ (l : List Tile). cnt x (starts_from 0 l)) e,
        starts-append 0 a (u ∷ z) x,
        starts-append 0 a
            (tile b p n ∷ tile (u.size - b) 1 0 ∷ z) x,
        ap (λ (o : ℕ). cnt x (starts_from o z)) ez,
      ) in
      let sz : (x : ℕ) → Loose h x → one c x ≡ 0 → size_of h₁ x ≡ size_of h x = λ x lo y.
      sizes-at h ts a (u ∷ []) (tile b p n ∷ tile (u.size - b) 1 0 ∷ []) z x (tiled-tiles h s)
      (b16, b32, p1, (omega (arith, f.1.0), omega arith, omega arith, tt)) e refl (inl (omega arith)) (omega arith) (omega arith) in
      let i = here in
      record {
        count = λ x. omega (arith, cs x);
        same = sz;
        spare = λ x lo y.
            let lo₁ : Loose h₁ x = omega (arith, cs x) in (
              (spare-size h x c b p s lo (omega (arith, starts-all h c))).0,
              subst (λ (n : ℕ). Spares x n (size (c + b) (u.size - b) 1 ∷ [])) (sz x lo y)
                  (spare-size h₁ x (c + b) (u.size - b) 1 s₁ lo₁ (omega (arith, starts-all h₁ (c + b), cs (c + b), ind-same (c + b)))),
            );
        past = (omega arith, (omega arith, tt));
      }

  pub cut_moved : (b : ℕ) → b % 16 ≡ 0 → 32 ≤ b → b + 32 ≤ u.size → Shape (with_tiles (a ++ tile b 1 0 ∷ tile (u.size - b) 1 0 ∷ z) h)
      → Moved h (cut_at (end_from 0 a) b h) (any (λ x. one (end_from 0 a) x + one (end_from 0 a + b) x)) (one (end_from 0 a))
  cut_moved b b16 b32 bu s₁ = moved_by (cut-is h [] a z u e s b) (parts-moved 1 0 (omega arith) b b16 b32 bu s₁)

  pub trim-moved : (b : ℕ) → b % 16 ≡ 0 → 32 ≤ b → b + 32 ≤ u.size → Shape (with_tiles (a ++ tile b u.p u.prev ∷ tile (u.size - b) 1 0 ∷ z) h)
      → Moved h (trim_at (end_from 0 a) b h) (any (λ x. one (end_from 0 a) x + one (end_from 0 a + b) x)) (one (end_from 0 a))
  trim-moved b b16 b32 bu s₁ = moved_by (trim-is h [] a z u e s b) (parts-moved u.p u.prev fu.1.2 b b16 b32 bu s₁)

-- ---- the last chunk becomes part of the top; a chunk is cut off the top
pub to-top-moved : (h : Heap) (a : List Tile) (t : Tile) → h.tiles ≡ a ++ t ∷ [] → Shape h → Moved h (to_top (end_from 0 a) h) (any nil) (one (end_from 0 a))
to-top-moved h a t e s =
    let c : ℕ = end_from 0 a in
    moved_by (to-top-is h a t e s) (record {
      count = λ x. omega (arith, ap (λ (l : List Tile). cnt x (starts_from 0 l)) e, starts-append 0 a (t ∷ []) x);
      same = λ x lo y. sizes-at h a a (t ∷ []) [] [] x (tiled-tiles h s) tt e (sym (append-nil a)) (inr refl) (omega arith) (omega arith);
      spare = λ x lo y. spare-size h x c (h.len - c) 1 s lo
          (omega (arith, starts-all h c, ap (λ (l : List Tile). cnt c (starts_from 0 l)) e, starts-append 0 a (t ∷ []) c, ind-same c));
      past = (omega arith, tt);
    })

pub cut-top-moved : (h : Heap) (b : ℕ) → Shape h → b % 16 ≡ 0 → 32 ≤ b → Shape (with_tiles (h.tiles ++ tile b 1 0 ∷ []) h)
    → Moved h (cut_top b h) (any (one (top_of h))) nil
cut-top-moved h b s b16 b32 s₁ =
    let a : List Tile = h.tiles in
    let c : ℕ = top_of h in
    let h₁ : Heap = with_tiles (a ++ tile b 1 0 ∷ []) h in
    let cs : (x : ℕ) → cnt x (starts h₁) ≡ cnt x (starts h) + one c x = λ x. omega (arith, starts-append 0 a (tile b 1 0 ∷ []) x) in
    let sz : (x : ℕ) → Loose h x → size_of h₁ x ≡ size_of h x = λ x lo.
    sizes-at h (a ++ tile b 1 0 ∷ []) a [] (tile b 1 0 ∷ []) [] x (tiled-tiles h s) (b16, b32, omega arith, tt) (sym (append-nil a)) refl
    (inr refl) (omega arith) refl in
    record {
      count = λ x. omega (arith, cs x);
      same = λ x lo y. sz x lo;
      spare = λ x lo y.
          let lo₁ : Loose h₁ x = omega (arith, cs x) in (
            (spare-size h x c b 1 s lo (omega (arith, starts-all h c, ind-same c))).0,
            subst (λ (n : ℕ). Spares x n (size (c + b) (h.len - (c + b)) 1 ∷ [])) (sz x lo)
                (spare-size h₁ x (c + b) (h.len - (c + b)) 1 s₁ lo₁
                (omega (arith, starts-all h₁ (c + b), ap (λ (o : ℕ). ind (eqb (c + b) o)) (snoc-end a (tile b 1 0)), ind-same (c + b)))),
          );
      past = (omega arith, (omega arith, tt));
    }

-- the last chunk takes from the top
pub grow-moved : (h : Heap) (a : List Tile) (t : Tile) (b : ℕ) → h.tiles ≡ a ++ t ∷ [] → Shape h → b % 16 ≡ 0 → 32 ≤ b
    → Shape (with_tiles (a ++ tile b t.p t.prev ∷ []) h) → Moved h (grow_top (end_from 0 a) b h) (any (one (end_from 0 a))) (one (end_from 0 a))
grow-moved h a t b e s b16 b32 s₁ =
    let c : ℕ = end_from 0 a in
    let A : Tile = tile b t.p t.prev in
    let h₁ : Heap = with_tiles (a ++ A ∷ []) h in
    let f : tiled a × tiled (t ∷ []) = tiled-split a (t ∷ []) (subst tiled e (tiled-tiles h s)) in
    let old : (x : ℕ) → cnt x (starts h) ≡ cnt x (starts_from 0 a) + one c x = λ x.
    omega (arith, ap (λ (l : List Tile). cnt x (starts_from 0 l)) e, starts-append 0 a (t ∷ []) x) in
    let cs : (x : ℕ) → cnt x (starts h₁) ≡ cnt x (starts h) = λ x. omega (arith, old x, starts-append 0 a (A ∷ []) x) in
    let sz : (x : ℕ) → Loose h x → one c x ≡ 0 → size_of h₁ x ≡ size_of h x = λ x lo y.
    sizes-at h (a ++ A ∷ []) a (t ∷ []) (A ∷ []) [] x (tiled-tiles h s) (b16, b32, f.1.2, tt) e refl (inr refl) (omega arith) (omega arith) in
    moved_by (grow-is h a t b e s) (record {
      count = λ x. omega (arith, cs x);
      same = sz;
      spare = λ x lo y.
          let lo₁ : Loose h₁ x = omega (arith, cs x) in (
            (spare-size h x c b t.p s lo (omega (arith, starts-all h c, old c, ind-same c))).0,
            subst (λ (n : ℕ). Spares x n (size (c + b) (h.len - (c + b)) 1 ∷ [])) (sz x lo y)
                (spare-size h₁ x (c + b) (h.len - (c + b)) 1 s₁ lo₁
                (omega (arith, starts-all h₁ (c + b), ap (λ (o : ℕ). ind (eqb (c + b) o)) (snoc-end a A), ind-same (c + b)))),
          );
      past = (omega arith, (omega arith, tt));
    })
