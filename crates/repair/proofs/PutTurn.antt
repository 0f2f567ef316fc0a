-- What is free goes to unsorted, turn by turn along the tiles of a heap that had no list: a chunk is free if the next chunk's size word has P clear, and then
-- goes last in unsorted. The chunks from here on are in no list. By the tiles' words and the laws of insertion. Assumes nothing.
use Rattle.std.specs.Prelude.{◌≡◌, Bool, true, false, ℕ, ◌+◌, ◌*◌, ◌%◌, ◌≤◌, ◌<◌, length, get_or}
use Rattle.std.proofs.Math.Path.{refl, sym, ap, subst}
use Rattle.std.proofs.Common.{◌∙◌, ⊎_elim, arith, get_or-set_same, eq-eqb, ne_eqb, eqb-true}
use mathlib.Core.List.{List, [], ◌∷◌, ◌++◌, append_assoc, append-nil}
use Rattle.std.proofs.lemmas.Bool.{eqb-false}
use Rattle.le.specs.Arena.{arena_words}
use Rattle.le.specs.ArenaLaws.{length-arena_words}
use Rattle.sizes.specs.Limits.{none64, unsorted}
use Rattle.sizes.specs.Layout.{size_word}
use Rattle.sizes.specs.SizeWord.{p_of_word}
use Rattle.machine.specs.Lists.{lst, cnt, cnt_all}
use Rattle.machine.specs.Count.{ind-same, ind-other, cnt-append, cnt_all-set}
use Rattle.machine.specs.Heap.{Tile, tile, Heap, bin, end_from, starts_from, top_of, top_size, starts, total}
use Rattle.machine.specs.Writes.{Write, Ran, heap_of, writes, apply, more}
use Rattle.machine.specs.Primitives.{link_in}
use Rattle.machine.specs.View.{size_at}
use Rattle.sound.specs.Relation.{all, tiled, tiles_at, Shape, Mem, Loose}
use Rattle.sound.specs.Tiles.{zero_or, tiled-split, end-le, end-even, end-append, starts-append, tiles-split}
use Rattle.sound.specs.Frames.{apply-append, end-all}
use Rattle.sound.specs.Apart.{tiled-tiles}
use Rattle.sound.specs.Lists.{lst-append, link-shape, link-mem}
use Rattle.sound.specs.Opened.{cnt_all-none}
use Rattle.primitives.specs.Follow.{Ok, Gave}
use Rattle.primitives.specs.FollowLaws.{gave-ok}
use Rattle.primitives.specs.Places.{Gap}
use Rattle.primitives.specs.Linked.{Fits}
use Rattle.primitives.specs.Reach.{more-nil, more-more, then-more}
use Rattle.repair.specs.Repair.{put_last, put_all}
use Rattle.repair.specs.Told.{Unlisted, free_from, free_of}

-- ---- the chunk t is free if its next one, the top apart, has P clear
free-yes : (o : ℕ) (t u : Tile) (ts : List Tile) → u.p ≡ 0 → free_from o (t ∷ u ∷ ts) ≡ o ∷ free_from (o + t.size) (u ∷ ts)
unfolding free_from
free-yes o t u ts e = rw (eq-eqb u.p 0 e, free_from)

free-no : (o : ℕ) (t u : Tile) (ts : List Tile) → (u.p ≡ 0 → ⊥) → free_from o (t ∷ u ∷ ts) ≡ free_from (o + t.size) (u ∷ ts)
unfolding free_from
free-no o t u ts n = rw (ne_eqb u.p 0 n, free_from)

free-last : (o : ℕ) (t : Tile) → free_from o (t ∷ []) ≡ free_from (o + t.size) []
unfolding free_from
free-last o t = refl

-- ---- what the words say of the chunk at o, the first of the tiles ts from o on
record Here (w : List ℕ) (n o : ℕ) (ts : List Tile) : Type 0 where
  t : Tile
  z : List Tile
  parts : ts ≡ t ∷ z
  size : size_at w o ≡ t.size
  even : o % 16 ≡ 0
  sixteen : t.size % 16 ≡ 0
  wide : 32 ≤ t.size
  inside : o + t.size + 32 ≤ n
  held : get_or w (size_word (o + t.size)) 0 % 2 ≡ 1 → free_from o ts ≡ free_from (o + t.size) z
  free : (get_or w (size_word (o + t.size)) 0 % 2 ≡ 1 → ⊥) → free_from o ts ≡ o ∷ free_from (o + t.size) z

-- the tiles from t on and the top, in their words
record Seen (g : Heap) (w : List ℕ) (a : List Tile) (t : Tile) (z : List Tile) : Type 0 where
  even : end_from 0 a % 16 ≡ 0
  sizes : tiled (t ∷ (z ++ tile (top_size g) 1 0 ∷ []))
  words : tiles_at w (end_from 0 a) (t ∷ (z ++ tile (top_size g) 1 0 ∷ []))
  ends : end_from (end_from 0 a) (t ∷ (z ++ tile (top_size g) 1 0 ∷ [])) ≡ g.len

seen : (g : Heap) (w : List ℕ) (a : List Tile) (t : Tile) (z : List Tile) → Shape g → Mem g w → g.tiles ≡ a ++ t ∷ z → Seen g w a t z
seen g w a t z s m e =
    let T : Tile = tile (top_size g) 1 0 in
    let q : all g ≡ a ++ t ∷ (z ++ T ∷ []) = ap (λ (l : List Tile). l ++ T ∷ []) e ∙ append_assoc a (t ∷ z) (T ∷ []) in
    let f : tiled a × tiled (t ∷ (z ++ T ∷ [])) = tiled-split a (t ∷ (z ++ T ∷ [])) (subst tiled q s.sizes) in
    record {
      even = end-even 0 a refl f.0;
      sizes = f.1;
      words = (tiles-split w 0 a (t ∷ (z ++ T ∷ [])) (subst (tiles_at w 0) q m.words)).1;
      ends = sym (end-append 0 a (t ∷ (z ++ T ∷ []))) ∙ ap (end_from 0) (sym q) ∙ end-all g s.sizes;
    }

here : (g : Heap) (w : List ℕ) (a ts : List Tile) → Shape g → Mem g w → g.tiles ≡ a ++ ts → end_from 0 a < top_of g → Here w (8 * length w) (end_from 0 a) ts
here g w a [] s m e l = absurd (omega (arith, ap (end_from 0) e, end-append 0 a []))
here g w a (t ∷ []) s m e l =
    let S = seen g w a t [] s m e in
    let f = S.sizes in
    let k = S.words in
    record {
      t = t;
      z = [];
      parts = refl;
      size = omega (arith, k.0, f.0, f.2);
      even = S.even;
      sixteen = f.0;
      wide = f.1;
      inside = omega (arith, S.ends, f.3.1, m.long);
      held = λ x. free-last (end_from 0 a) t;
      free = λ x. absurd (x (omega (arith, k.2.0, f.3.0)));
    }
here g w a (t ∷ u ∷ z) s m e l =
    let S = seen g w a t (u ∷ z) s m e in
    let f = S.sizes in
    let k = S.words in
    record {
      t = t;
      z = u ∷ z;
      parts = refl;
      size = omega (arith, k.0, f.0, f.2);
      even = S.even;
      sixteen = f.0;
      wide = f.1;
      inside = omega (arith, S.ends, f.3.1, m.long, end-le (end_from 0 a + t.size + u.size) (z ++ tile (top_size g) 1 0 ∷ []));
      held = λ x. free-no (end_from 0 a) t u z (λ q. omega (arith, k.2.0, f.3.0, x));
      free = λ x. ⊎_elim (free-yes (end_from 0 a) t u z) (λ q. absurd (x (omega (arith, k.2.0, f.3.0, f.3.2)))) (zero_or u.p);
    }

-- ---- the way so far, from h and words w₀: o is where the rest of the tiles starts, p the last of unsorted; what is left to do is what is free from o on
pub record Walked (h : Heap) (w₀ : List ℕ) (top o p : ℕ) (w r : List ℕ) : Type 0 where
  pub heap : Heap
  pub ok : Ok heap w r
  pub before : List Tile
  pub rest : List Tile
  pub tiles : heap.tiles ≡ before ++ rest
  pub at : o ≡ end_from 0 before
  pub top-at : top_of heap ≡ top
  pub last : p ≡ lst none64 (bin heap unsorted)
  pub loose : (x : ℕ) → o ≤ x → total x heap ≡ 0
  pub done : List Write
  pub bytes : w ≡ apply done w₀
  pub same : put_all (free_of h) h ≡ more done (put_all (free_from o rest) heap)

pub walk_start : (h : Heap) (w r : List ℕ) (top : ℕ) → Ok h w r → Unlisted h top → Walked h w top 0 none64 w r
walk_start h w r top o u = record {
  heap = h;
  ok = o;
  before = [];
  rest = h.tiles;
  tiles = refl;
  at = refl;
  top-at = u.top;
  last = sym (ap (λ (l : List (List ℕ)). lst none64 (get_or l unsorted [])) u.bins);
  loose = λ x i. omega (arith, ap (cnt_all x) u.stacks, ap (cnt_all x) u.bins, cnt_all-none 74 x, cnt_all-none 127 x);
  done = [];
  bytes = refl;
  same = more-nil (put_all (free_of h) h);
}

module _ {h : Heap} {w₀ : List ℕ} {top o p : ℕ} {w r : List ℕ} (R : Walked h w₀ top o p w r) where
  -- the top: nothing is left
  nothing_left : top ≤ o → put_all (free_from o R.rest) R.heap ≡ put_all [] R.heap
  unfolding free_from
  nothing_left l = go R.rest R.tiles
    where
      go : (ts : List Tile) → R.heap.tiles ≡ R.before ++ ts → put_all (free_from o ts) R.heap ≡ put_all [] R.heap
      go [] e = refl
      go (t ∷ z) e =
          let f = tiled-split R.before (t ∷ z) (subst tiled e (tiled-tiles R.heap R.ok.shape)) in
          absurd (omega (arith, R.at, R.top-at, ap (end_from 0) e, end-append 0 R.before (t ∷ z), end-le (end_from 0 R.before + t.size) z, f.1.1))

  pub walk_end : top ≤ o → Gave (Unit {0}) (put_all (free_of h) h) tt w₀ w r
  unfolding put_all
  walk_end l =
      subst (λ (s : Ran (Unit {0})). Gave (Unit {0}) s tt w₀ w r) (sym (R.same ∙ ap (more R.done) (nothing_left l)))
      (record { says = refl; bytes = R.bytes ∙ sym (apply-append R.done [] w₀); rec = R.ok.rec })

  module _ (lt : o < top) where
    walk_here : Here w (8 * length w) o R.rest
    walk_here =
        subst (λ (o : ℕ). Here w (8 * length w) o R.rest) (sym R.at)
        (here R.heap w R.before R.rest R.ok.shape R.ok.mem R.tiles (omega (arith, R.at, R.top-at)))

    -- the chunk at o is in no list yet
    pub walk-loose : Loose R.heap o
    walk-loose =
        let H = walk_here in
        let c = end_from 0 R.before in
        let e : R.heap.tiles ≡ R.before ++ H.t ∷ H.z = R.tiles ∙ ap (λ (l : List Tile). R.before ++ l) H.parts in
        let i : 1 ≤ cnt c (starts R.heap) = omega (arith, ap (λ (l : List Tile). cnt c (starts_from 0 l)) e, starts-append 0 R.before (H.t ∷ H.z) c, ind-same c) in
        omega (arith, R.loose o (omega arith), subst (λ (x : ℕ). 1 ≤ cnt x (starts R.heap)) (sym R.at) i)

    pub walk-gap : Gap R.heap unsorted (bin R.heap unsorted) [] p none64
    walk-gap = record { parts = sym (append-nil (bin R.heap unsorted)); left = R.last; right = refl }

    pub walk-fits : Fits R.heap unsorted o
    walk-fits z = absurd (omega (arith, z))

    walk-tiles : R.heap.tiles ≡ (R.before ++ walk_here.t ∷ []) ++ walk_here.z
    walk-tiles = R.tiles ∙ ap (λ (l : List Tile). R.before ++ l) walk_here.parts ∙ sym (append_assoc R.before (walk_here.t ∷ []) walk_here.z)

    walk_at : o + walk_here.t.size ≡ end_from 0 (R.before ++ walk_here.t ∷ [])
    walk_at = ap (λ (o : ℕ). o + walk_here.t.size) R.at ∙ sym (end-append 0 R.before (walk_here.t ∷ []))

    -- P set: the chunk is held
    walk-held : get_or w (size_word (o + walk_here.t.size)) 0 % 2 ≡ 1 → Walked h w₀ top (o + walk_here.t.size) p w r
    walk-held e = record {
      heap = R.heap;
      ok = R.ok;
      before = R.before ++ walk_here.t ∷ [];
      rest = walk_here.z;
      tiles = walk-tiles;
      at = walk_at;
      top-at = R.top-at;
      last = R.last;
      loose = λ x i. R.loose x (omega arith);
      done = R.done;
      bytes = R.bytes;
      same = R.same ∙ ap (λ (l : List ℕ). more R.done (put_all l R.heap)) (walk_here.held e);
    }

    -- P clear: it is free, and goes last in unsorted
    put_one : (l : List ℕ) → put_all (o ∷ l) R.heap ≡ more (writes (put_last o R.heap)) (put_all l (heap_of (put_last o R.heap)))
    unfolding put_all
    put_one l = then-more (put_last o R.heap) (λ h. put_all l h)

    walk-free : {v q : List ℕ} → (get_or w (size_word (o + walk_here.t.size)) 0 % 2 ≡ 1 → ⊥)
        → ((h : Heap) (xs ys : List ℕ) → Ok h w r → Loose h o → Gap h unsorted xs ys p none64 → Fits h unsorted o → Gave (Unit {0}) (link_in unsorted o xs ys h) tt w v q)
        → Walked h w₀ top (o + walk_here.t.size) o v q
    walk-free {v} {q} n D =
        let g = R.heap in
        let xs : List ℕ = bin g unsorted in
        let s : Ran (Unit {0}) = put_last o g in
        let G : Gave (Unit {0}) s tt w v q = D g xs [] R.ok walk-loose walk-gap walk-fits in
        let hj : 1 < length g.bins = omega (arith, R.ok.shape.binned127) in
        let l : List ℕ = free_from (o + walk_here.t.size) walk_here.z in
        record {
          heap = heap_of s;
          ok = gave-ok s tt (link-shape g unsorted o xs [] R.ok.shape hj walk-loose walk-gap.parts walk-fits)
              (link-mem g w unsorted o xs [] R.ok.shape R.ok.mem hj walk-loose walk-gap.parts walk-fits) G;
          before = R.before ++ walk_here.t ∷ [];
          rest = walk_here.z;
          tiles = walk-tiles;
          at = walk_at;
          top-at = R.top-at;
          last = sym (ap (lst none64) (get_or-set_same g.bins unsorted (xs ++ o ∷ []) [] hj) ∙ lst-append none64 xs (o ∷ []));
          loose = λ x i. omega (arith, R.loose x (omega arith), cnt_all-set x g.bins unsorted (xs ++ o ∷ []) hj, cnt-append x xs (o ∷ []), ind-other x o (λ z. omega (arith, walk_here.wide)));
          done = R.done ++ writes s;
          bytes = G.bytes ∙ ap (apply (writes s)) R.bytes ∙ sym (apply-append R.done (writes s) w₀);
          same = R.same ∙ ap (λ (l : List ℕ). more R.done (put_all l g)) (walk_here.free n) ∙ ap (more R.done) (put_one l) ∙ more-more R.done (writes s) (put_all l (heap_of s));
        }

    -- the same by the tests: s is the size that the words say, x the next chunk's size word, and b whether it has P
    module _ {s x : ℕ} (b : Bool) (e : s ≡ size_at w o) (f : x ≡ get_or w (size_word (o + s)) 0) (t : b ≡ p_of_word x) where
      size_is : s ≡ walk_here.t.size
      size_is = e ∙ walk_here.size

      next-is : x ≡ get_or w (size_word (o + walk_here.t.size)) 0
      next-is = f ∙ ap (λ (s : ℕ). get_or w (size_word (o + s)) 0) size_is

      pub turn-held : b ≡ true → Walked h w₀ top (o + s) p w r
      turn-held y =
          subst (λ (s : ℕ). Walked h w₀ top (o + s) p w r) (sym size_is) (walk-held (subst (λ (x : ℕ). x % 2 ≡ 1) next-is (eqb-true (x % 2) 1 (sym t ∙ y))))

      pub turn-free : {v q : List ℕ} → b ≡ false
          → ((h : Heap) (xs ys : List ℕ) → Ok h w r → Loose h o → Gap h unsorted xs ys p none64 → Fits h unsorted o → Gave (Unit {0}) (link_in unsorted o xs ys h) tt w v q)
          → Walked h w₀ top (o + s) o v q
      turn-free {v} {q} y D =
          subst (λ (s : ℕ). Walked h w₀ top (o + s) o v q) (sym size_is)
          (walk-free (λ k. eqb-false (x % 2) 1 (sym t ∙ y) (subst (λ (x : ℕ). x % 2 ≡ 1) (sym next-is) k)) D)

-- ---- where the two size words lie, in an arena of m bytes
pub record Room (m o s : ℕ) : Type 0 where
  pub even : o % 16 ≡ 0
  pub next : (o + s) % 16 ≡ 0
  pub wide : 32 ≤ s
  pub inside : o + s + 32 ≤ m
  pub small : o + s + 32 ≤ 262144

pub room : {h : Heap} {w₀ : List ℕ} {top o p : ℕ} {r : List ℕ} (a : List ℕ) → Walked h w₀ top o p (arena_words a) r → o < top → Room (length a) o (size_at (arena_words a) o)
room {h} {w₀} {top} {o} {p} {r} a R lt =
    let H = walk_here R lt in
    record {
      even = H.even;
      next = omega (arith, H.size, H.even, H.sixteen);
      wide = omega (arith, H.size, H.wide);
      inside = omega (arith, H.size, H.inside, length-arena_words a);
      small = omega (arith, H.size, H.inside, R.ok.mem.long, R.ok.shape.small);
    }
