-- A sound heap whose cache and fast lists are empty is mended: a chunk is live, in a bin, or the top; no two of the last two kinds touch, by the flags; so
-- what lies between live chunks is one of them. Assumes nothing.
use Rattle.std.specs.Prelude.{◌≡◌, refl, List, [], ◌∷◌, ◌++◌, ◌⊎◌, ℕ, ◌+◌, ◌-◌, ◌/◌, ◌%◌, ◌≤◌, ◌<◌, length, get_or}
use Rattle.std.proofs.Common.{sym, ap, ◌∙◌, subst, append_assoc, append-nil, inl, inr, ⊎_elim, arith}
use Rattle.le.specs.Number.{number}
use Rattle.le.specs.WordsLaws.{get_d_words}
use Rattle.le.specs.Arena.{arena_words}
use Rattle.le.specs.ArenaLaws.{length-arena_words, get_d-arena_words}
use Rattle.sizes.specs.Limits.{record_words}
use Rattle.sizes.specs.Layout.{size_word, top_word}
use Rattle.machine.specs.Lists.{cnt, cnt_all}
use Rattle.machine.specs.Count.{ind-same}
use Rattle.machine.specs.Heap.{Tile, tile, Heap, binned, end_from, starts_from, top_of, top_size, starts, size_of}
use Rattle.machine.specs.Calls.{heap_in}
use Rattle.sound.specs.Relation.{all, tiled, flags, tiles_at, Loose}
use Rattle.sound.specs.Tiles.{lt-or-le, zero_or, tiled-split, end-even, starts-append, starts-once, tiles-split}
use Rattle.sound.specs.Frames.{starts-all}
use Rattle.sound.specs.Apart.{clear_of, size-at, tiled-tiles}
use Rattle.sound.specs.Edits.{snoc-end, snoc-tiles, size_32}
use Rattle.sound.specs.RecordOf.{record-words}
use Rattle.history.specs.Histories.{Block}
use Rattle.history.specs.Demand3.{Held, Stretch, Free, Mended}
use Rattle.calls_consequences.specs.Written.{start-most, top-most}
use Rattle.history.specs.Ready.{Ready, held-loose}
use Rattle.history.specs.Stretches.{stretch-one, held_in, held_out}

-- ---- tiles in a row: the one that has an offset, the last one, what the flags say of two neighbours
record Cover (ts : List Tile) (o x : ℕ) : Type 0 where
  a : List Tile
  t : Tile
  z : List Tile
  tiles : ts ≡ a ++ t ∷ z
  low : end_from o a ≤ x
  high : x < end_from o a + t.size

cover : (ts : List Tile) (o x : ℕ) → o ≤ x → x < end_from o ts → Cover ts o x
cover [] o x l u = absurd (omega arith)
cover (t ∷ ts) o x l u = ⊎_elim
    (λ k. record { a = []; t = t; z = ts; tiles = refl; low = l; high = k })
    (λ k.
    let C = cover ts (o + t.size) x k u in
    record { a = t ∷ C.a; t = C.t; z = C.z; tiles = ap (λ (l : List Tile). t ∷ l) C.tiles; low = C.low; high = C.high })
    (lt-or-le x (o + t.size))

pub record Snoc (a : List Tile) : Type 0 where
  pub init : List Tile
  pub end : Tile
  pub tiles : a ≡ init ++ end ∷ []

pub last_of : (a : List Tile) → (a ≡ []) ⊎ Snoc a
last_of [] = inl refl
last_of (t ∷ a) = inr (⊎_elim
    (λ e. record { init = []; end = t; tiles = ap (λ (l : List Tile). t ∷ l) e })
    (λ S. record { init = t ∷ S.init; end = S.end; tiles = ap (λ (l : List Tile). t ∷ l) S.tiles })
    (last_of a))

split-last : (ts a z b : List Tile) (u : Tile) → ts ≡ a ++ z → a ≡ b ++ u ∷ [] → ts ≡ b ++ u ∷ z
split-last ts a z b u e d = e ∙ ap (λ (l : List Tile). l ++ z) d ∙ snoc-tiles b z u

end-last : (a b : List Tile) (u : Tile) → a ≡ b ++ u ∷ [] → end_from 0 a ≡ end_from 0 b + u.size
end-last a b u e = ap (end_from 0) e ∙ snoc-end b u

pub adjacent : (b : ℕ → ℕ) (o q s : ℕ) (a : List Tile) (u t : Tile) (z : List Tile) → flags b o q s (a ++ u ∷ t ∷ z)
    → (t.p + b (end_from o a) ≡ 1) × (b (end_from o a) + b (end_from o a + u.size) ≤ 1)
adjacent b o q s [] u t z k = (k.3.0, k.3.1)
adjacent b o q s (v ∷ a) u t z k = adjacent b (o + v.size) (b o) v.size a u t z k.3

flag-own : (b : ℕ → ℕ) (o q s : ℕ) (a : List Tile) (t : Tile) (z : List Tile) → flags b o q s (a ++ t ∷ z) → (b (end_from o a) ≤ t.p) × (t.p ≤ 1)
flag-own b o q s [] t z k = (omega (arith, k.0, k.1), omega (arith, k.0))
flag-own b o q s (v ∷ a) t z k = flag-own b (o + v.size) (b o) v.size a t z k.3

pub start-at : (h : Heap) (a z : List Tile) (t : Tile) → h.tiles ≡ a ++ t ∷ z → 1 ≤ cnt (end_from 0 a) (starts h)
start-at h a z t e =
    let f : ℕ = end_from 0 a in
    omega (arith, ap (λ (l : List Tile). cnt f (starts_from 0 l)) e, starts-append 0 a (t ∷ z) f, ind-same f)

module _ (a r : List ℕ) (bs : List Block) (R : Ready a r bs) (E : (x : ℕ) → cnt_all x (heap_in a r).stacks ≡ 0) where
  abbrev h : Heap
  h = heap_in a r

  abbrev T : Tile
  T = tile (top_size (heap_in a r)) 1 0

  long : h.len ≡ length a
  long = omega (arith, length-arena_words a, R.lent.even)

  top-word : number 4 r 4 ≡ top_of h
  top-word =
      let s = R.sound.good.shape in
      sym (get_d_words 4 record_words r 1 (omega arith)) ∙ ap (λ (l : List ℕ). get_or l top_word 0) R.sound.rec ∙ (record-words h s.stacked74 s.binned127).top

  -- a chunk but the top that is in no bin is a held block's
  held-chunk : (c x : ℕ) → 1 ≤ cnt c (starts h) → binned h c ≡ 0 → c ≤ x → x < c + size_of h c → Held bs x
  held-chunk c x m b l u = held_in (λ c. size_of h c) bs c x R.holds.sizes (omega (arith, R.holds.count c, E c)) l u

  -- the chunk before one with P set
  front : (A Z z : List Tile) (t : Tile) → h.tiles ≡ A ++ Z → all h ≡ A ++ t ∷ z → t.p ≡ 1 → (end_from 0 A ≡ 0) ⊎ ((1 ≤ end_from 0 A) × Held bs (end_from 0 A - 1))
  front A Z z t e d p = ⊎_elim
      (λ k. inl (ap (end_from 0) k))
      (λ S.
      let u : Tile = S.end in
      let y : ℕ = end_from 0 S.init in
      let e' : h.tiles ≡ S.init ++ u ∷ Z = split-last h.tiles A Z S.init u e S.tiles in
      let d' : all h ≡ S.init ++ u ∷ t ∷ z = split-last (all h) A (t ∷ z) S.init u d S.tiles in
      let j = adjacent (λ x. binned h x) 0 0 0 S.init u t z (subst (flags (λ x. binned h x) 0 0 0) d' R.sound.good.flag) in
      let f : tiled S.init × tiled (u ∷ Z) = tiled-split S.init (u ∷ Z) (subst tiled e' (tiled-tiles h R.sound.good.shape)) in
      let q : end_from 0 A ≡ y + u.size = end-last A S.init u S.tiles in
      let s : size_of h y ≡ u.size = size-at h S.init Z u e' f.0 in
      inr (
        omega (arith, q, f.1.1),
        held-chunk y (end_from 0 A - 1) (start-at h S.init Z u e') (omega (arith, j.0, p)) (omega (arith, q, f.1.1)) (omega (arith, q, s, f.1.1)),
      ))
      (last_of A)

  -- the chunk after a binned one
  back : (A Z : List Tile) (t : Tile) → h.tiles ≡ A ++ t ∷ Z → 1 ≤ binned h (end_from 0 A) → Held bs (end_from 0 A + t.size) × (end_from 0 A + t.size < length a)
  back A [] t e b =
      let d : all h ≡ A ++ t ∷ T ∷ [] = ap (λ (l : List Tile). l ++ T ∷ []) e ∙ append_assoc A (t ∷ []) (T ∷ []) in
      absurd (omega (arith, (adjacent (λ x. binned h x) 0 0 0 A t T [] (subst (flags (λ x. binned h x) 0 0 0) d R.sound.good.flag)).0))
  back A (u ∷ Z) t e b =
      let g = R.sound.good in
      let d : all h ≡ A ++ t ∷ u ∷ (Z ++ T ∷ []) = ap (λ (l : List Tile). l ++ T ∷ []) e ∙ append_assoc A (t ∷ u ∷ Z) (T ∷ []) in
      let j = adjacent (λ x. binned h x) 0 0 0 A t u (Z ++ T ∷ []) (subst (flags (λ x. binned h x) 0 0 0) d g.flag) in
      let n : ℕ = end_from 0 A + t.size in
      let m : 1 ≤ cnt n (starts h) =
      subst (λ (k : ℕ). 1 ≤ cnt k (starts h)) (snoc-end A t) (start-at h (A ++ t ∷ []) Z u (e ∙ sym (snoc-tiles A (u ∷ Z) t))) in
      (held-chunk n n m (omega (arith, j.1)) (omega arith) (omega (arith, size_32 h n g.shape m)), omega (arith, start-most h g n m, top-most h g, long))

  -- nothing of it is held
  clear : (f e : ℕ) → ((c : ℕ) → Loose h c → (c + size_of h c ≤ f) ⊎ (e ≤ c)) → (y : ℕ) → f ≤ y → y < e → Held bs y → ⊥
  clear f e k y l u H =
      let W = held_out (λ c. size_of h c) bs y R.holds.sizes H in
      let b = held-loose h bs R.holds W.mem W.held in
      ⊎_elim (λ z. omega (arith, W.high, b.0)) (λ z. omega (arith, W.low)) (k (W.mem - 16) b.1)

  size-word : (A z : List Tile) (t : Tile) → all h ≡ A ++ t ∷ z → t.p ≡ 1 → end_from 0 A + 32 ≤ length a → number 8 a (end_from 0 A + 8) ≡ t.size + 1
  size-word A z t d p l =
      let f : ℕ = end_from 0 A in
      let k = tiled-split A (t ∷ z) (subst tiled d R.sound.good.shape.sizes) in
      let v : f % 16 ≡ 0 = end-even 0 A refl k.0 in
      let q : (f + 8) / 8 ≡ size_word f = omega arith in
      let w = tiles-split (arena_words a) 0 A (t ∷ z) (subst (tiles_at (arena_words a) 0) d R.sound.mem.words) in
      sym (get_d-arena_words a (f + 8) (omega arith) (omega arith)) ∙ ap (λ (i : ℕ). get_or (arena_words a) i 0) q ∙ w.1.0 ∙ ap (λ (i : ℕ). t.size + i) p

  -- the free chunk that x lies in, which is a stretch
  record Part (x : ℕ) : Type 0 where
    from : ℕ
    to : ℕ
    low : from ≤ x
    high : x < to
    stretch : Stretch bs (length a) from to
    free : Free a r from (to - from)

  bin-part : (x : ℕ) (C : Cover h.tiles 0 x) → 1 ≤ binned h (end_from 0 C.a) → Part x
  bin-part x C b =
      let g = R.sound.good in
      let s = g.shape in
      let t : Tile = C.t in
      let f : ℕ = end_from 0 C.a in
      let m : 1 ≤ cnt f (starts h) = start-at h C.a C.z t C.tiles in
      let d : all h ≡ C.a ++ t ∷ (C.z ++ T ∷ []) = ap (λ (l : List Tile). l ++ T ∷ []) C.tiles ∙ append_assoc C.a (t ∷ C.z) (T ∷ []) in
      let o = flag-own (λ x. binned h x) 0 0 0 C.a t (C.z ++ T ∷ []) (subst (flags (λ x. binned h x) 0 0 0) d g.flag) in
      let p : t.p ≡ 1 = omega (arith, o.0, o.1) in
      let k = tiled-split C.a (t ∷ C.z) (subst tiled C.tiles (tiled-tiles h s)) in
      let z : size_of h f ≡ t.size = size-at h C.a C.z t C.tiles k.0 in
      let n = back C.a C.z t C.tiles b in
      let e : f + t.size - f ≡ t.size = omega arith in
      let once : binned h f ≡ 1 = omega (arith, s.own f, starts-once h.tiles 0 f (tiled-tiles h s)) in
      record {
        from = f;
        to = f + t.size;
        low = C.low;
        high = C.high;
        stretch = record {
          some = omega (arith, k.1.1);
          inside = omega (arith, n.1);
          clear = clear f (f + t.size) (λ c lo.
              let mc : 1 ≤ cnt c (starts h) = omega (arith, lo) in
              ⊎_elim
              (λ q. ⊎_elim (λ v. absurd (omega arith)) (λ v. ⊎_elim (λ y. absurd (omega arith)) (λ y. inr (omega (arith, z))) v) (clear_of h f c s m (omega (arith, starts-all h c))))
              (λ q. ⊎_elim (λ v. absurd (omega (arith, lo, starts-once h.tiles 0 c (tiled-tiles h s), ap (λ (y : ℕ). binned h y) v))) (λ v. inl v) q)
              (clear_of h c f s mc (omega (arith, starts-all h f))));
          starts = front C.a (t ∷ C.z) (C.z ++ T ∷ []) t C.tiles d p;
          ends = inr n.0;
        };
        free = record {
          size = size-word C.a (C.z ++ T ∷ []) t d p (omega (arith, start-most h g f m, top-most h g, long)) ∙ ap (λ (i : ℕ). i + 1) (sym e);
          kind = inl (once, omega (arith, n.1));
        };
      }

  top-stretch : Stretch bs (length a) (top_of h) (length a)
  top-stretch =
      let g = R.sound.good in
      let f : ℕ = top_of h in
      record {
        some = omega (arith, top-most h g, long);
        inside = omega arith;
        clear = clear f (length a) (λ c lo.
            let mc : 1 ≤ cnt c (starts h) = omega (arith, lo) in
            ⊎_elim
            (λ q. absurd (omega (arith, start-most h g c mc)))
            (λ q. ⊎_elim (λ v. absurd (omega (arith, start-most h g c mc))) (λ v. inl v) q)
            (clear_of h c f g.shape mc (omega (arith, starts-all h f, ind-same f))));
        starts = front h.tiles [] [] T (sym (append-nil h.tiles)) refl refl;
        ends = inl refl;
      }

  top_part : (x : ℕ) → top_of h ≤ x → x < length a → Part x
  top_part x l u =
      let e : length a - top_of h ≡ top_size h = omega (arith, long) in
      record {
        from = top_of h;
        to = length a;
        low = l;
        high = u;
        stretch = top-stretch;
        free = record {
          size = size-word h.tiles [] T refl refl (omega (arith, top-most h R.sound.good, long)) ∙ ap (λ (i : ℕ). i + 1) (sym e);
          kind = inr (top-word, omega arith);
        };
      }

  part : (x : ℕ) → x < length a → (Held bs x → ⊥) → Part x
  part x u n = ⊎_elim
      (λ l.
      let C = cover h.tiles 0 x (omega arith) l in
      let c : ℕ = end_from 0 C.a in
      let m : 1 ≤ cnt c (starts h) = start-at h C.a C.z C.t C.tiles in
      let k = tiled-split C.a (C.t ∷ C.z) (subst tiled C.tiles (tiled-tiles h R.sound.good.shape)) in
      let z : size_of h c ≡ C.t.size = size-at h C.a C.z C.t C.tiles k.0 in
      ⊎_elim (λ b. absurd (n (held-chunk c x m b C.low (omega (arith, z, C.high))))) (λ b. bin-part x C b) (zero_or (binned h c)))
      (λ l. top_part x l u)
      (lt-or-le x (top_of h))

  pub mending : Mended a r bs
  mending = record {
    all = λ x u n. let P = part x u n in record { from = P.from; to = P.to; low = P.low; high = P.high; stretch = P.stretch };
    each = λ f e S.
        let P = part f (omega (arith, S.some, S.inside)) (S.clear f (omega arith) S.some) in
        let q = stretch-one bs (length a) f P.from P.to f e P.stretch S P.low P.high (omega arith) S.some in
        subst (λ (x : ℕ). Free a r x (e - x)) q.0 (subst (λ (y : ℕ). Free a r P.from (y - P.from)) q.1 P.free);
    last = rw top-word top-stretch;
  }
