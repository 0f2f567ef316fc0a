-- What writes leave as it is: words that agree at a list's fields keep the list, a bin may get another list (rebin), and the tiles' middle another
-- middle (words-mid). The first four words of two chunks never meet (Grid), and the writes are data. Assumes nothing.
use Rattle.std.specs.Prelude.{◌≡◌, refl, List, [], ◌∷◌, ◌++◌, ◌⊎◌, ℕ, ◌+◌, ◌*◌, ◌/◌, ◌%◌, ◌≤◌, ◌<◌, eqb, length, get_or, set}
use Rattle.std.proofs.Common.{ap, ◌∙◌, subst, inl, inr, ⊎_elim, arith, length-set, get_or-set_same, get_or-set_other}
use Rattle.sizes.specs.Limits.{none64}
use Rattle.sizes.specs.Layout.{prev_word}
use Rattle.machine.specs.Lists.{ind, cnt, cnt_all}
use Rattle.machine.specs.Count.{eq?, cnt-here, cnt-there, cnt-le-all}
use Rattle.machine.specs.Heap.{Tile, tile, Heap, stack, bin, with_tiles, with_bin, end_from, starts_from, top_of, top_size, starts, size_of, total}
use Rattle.machine.specs.Writes.{Write, who, field, value, put, apply}
use Rattle.machine.specs.Skips.{skips}
use Rattle.sound.specs.Relation.{all, tiled, tiles_at, chain_by, links, stand, MemBy, Mem, Shape}
use Rattle.sound.specs.Tiles.{tiled-split, end-even, end-append, starts-append, Start, start, starts-once, gap, tiles-split, tiles-join, tiles-cong}

-- two memories that agree at the i-th word of each chunk of l
abbrev pub Agree : List ℕ → List ℕ → ℕ → List ℕ → Type 0
Agree w v i l = (x : ℕ) → 1 ≤ cnt x l → get_or v (x / 8 + i) 0 ≡ get_or w (x / 8 + i) 0

pub agree-tail : (w v : List ℕ) (i y : ℕ) (l : List ℕ) → Agree w v i (y ∷ l) → Agree w v i l
agree-tail w v i y l a x m = a x (cnt-there x y l m)

pub chain-cong : (d : ℕ) (w v l : List ℕ) → Agree w v 2 l → chain_by d w l → chain_by d v l
chain-cong d w v [] a c = tt
chain-cong d w v (x ∷ l) a c = (a x (cnt-here x l) ∙ c.0, chain-cong d w v l (agree-tail w v 2 x l a) c.1)

pub links-cong : (w v : List ℕ) (p : ℕ) (l : List ℕ) (n : ℕ) → Agree w v 2 l → Agree w v 3 l → links w p l n → links v p l n
links-cong w v p [] n a b c = tt
links-cong w v p (x ∷ l) n a b c =
    (a x (cnt-here x l) ∙ c.0, b x (cnt-here x l) ∙ c.1, links-cong w v x l n (agree-tail w v 2 x l a) (agree-tail w v 3 x l b) c.2)

-- ---- a list of a list of lists, after a store
pub set_cases : (P : List ℕ → Type 0) (ls : List (List ℕ)) (k : ℕ) (l : List ℕ) (j : ℕ) → k < length ls
    → (j ≡ k → P l) → ((j ≡ k → ⊥) → P (get_or ls j [])) → P (get_or (set ls k l) j [])
set_cases P ls k l j h same other =
    ⊎_elim
    (λ e. rw e (rw (get_or-set_same ls k l [] h) (same e)))
    (λ e. rw (get_or-set_other ls k j l [] e) (other e))
    (eq? j k)

pub end-all : (h : Heap) → tiled (all h) → end_from 0 (all h) ≡ h.len
end-all h f =
    let T : Tile = tile (top_size h) 1 0 in
    let r : tiled h.tiles × tiled (T ∷ []) = tiled-split h.tiles (T ∷ []) f in
    omega (arith, end-append 0 h.tiles (T ∷ []), r.1.1)

-- every chunk and the top
abbrev pub Starts : Heap → List ℕ
Starts h = starts_from 0 (all h)

pub starts-all : (h : Heap) (x : ℕ) → cnt x (Starts h) ≡ cnt x (starts h) + ind (eqb x (top_of h))
starts-all h x = omega (arith, starts-append 0 h.tiles (tile (top_size h) 1 0 ∷ []) x)

-- ---- offsets whose first four words do not meet, in a memory of n words
pub record Grid (S : List ℕ) (n : ℕ) : Type 0 where
  pub even : (x : ℕ) → 1 ≤ cnt x S → x % 16 ≡ 0
  pub inside : (x : ℕ) → 1 ≤ cnt x S → x / 8 + 4 ≤ n
  pub once : (x : ℕ) → cnt x S ≤ 1
  pub spaced : (x y : ℕ) → 1 ≤ cnt x S → 1 ≤ cnt y S → (x ≡ y → ⊥) → (x + 32 ≤ y) ⊎ (y + 32 ≤ x)

pub grid : (h : Heap) (n : ℕ) → tiled (all h) → 8 * n ≡ h.len → Grid (Starts h) n
grid h n f e = record {
  even = λ x m. let s : Start (all h) 0 x = start (all h) 0 x f m in omega arith;
  inside = λ x m. let s : Start (all h) 0 x = start (all h) 0 x f m in omega (arith, end-all h f);
  once = λ x. starts-once (all h) 0 x f;
  spaced = λ x y. gap (all h) 0 x y f;
}

abbrev pub Sub : List ℕ → List ℕ → Type 0
Sub l S = (x : ℕ) → 1 ≤ cnt x l → 1 ≤ cnt x S

-- each of ws writes one of the first four words of a chunk of S, and not the j-th of one of l
abbrev pub Off : List ℕ → ℕ → List ℕ → List Write → Type 0
Off S j l [] = Unit {0}
Off S j l (e ∷ ws) = (1 ≤ cnt (who e) S) × (field e < 4) × ((cnt (who e) l ≡ 0) ⊎ (field e ≡ j → ⊥)) × Off S j l ws

pub put-length : (e : Write) (w : List ℕ) → length (put e w) ≡ length w
put-length e w = length-set w (who e / 8 + field e) (value e w)

pub apply-length : (ws : List Write) (w : List ℕ) → length (apply ws w) ≡ length w
apply-length [] w = refl
apply-length (e ∷ ws) w = apply-length ws (put e w) ∙ put-length e w

pub apply-append : (a b : List Write) (w : List ℕ) → apply (a ++ b) w ≡ apply b (apply a w)
apply-append [] b w = refl
apply-append (e ∷ a) b w = apply-append a b (put e w)

module _ (S : List ℕ) (n : ℕ) (g : Grid S n) where
  pub put_other : (e : Write) → field e < 4 → (w : List ℕ) (x j : ℕ) → 1 ≤ cnt (who e) S → 1 ≤ cnt x S → j < 4 → (x ≡ who e → field e ≡ j → ⊥)
      → get_or (put e w) (x / 8 + j) 0 ≡ get_or w (x / 8 + j) 0
  put_other e lt w x j me mx hj d = get_or-set_other w (who e / 8 + field e) (x / 8 + j) (value e w) 0
      (λ q. ⊎_elim
      (λ z. d z (omega (arith, ap (λ (y : ℕ). y / 8) z)))
      (λ z. ⊎_elim (λ l. omega (arith, g.even x mx, g.even (who e) me))
      (λ l. omega (arith, g.even x mx, g.even (who e) me)) (g.spaced x (who e) mx me z))
      (eq? x (who e)))

  pub put_same : (e : Write) → field e < 4 → (w : List ℕ) → length w ≡ n → 1 ≤ cnt (who e) S → get_or (put e w) (who e / 8 + field e) 0 ≡ value e w
  put_same e lt w l me = get_or-set_same w (who e / 8 + field e) (value e w) 0 (omega (arith, g.inside (who e) me))

  pub agree : (ws : List Write) (w : List ℕ) (j : ℕ) (l : List ℕ) → j < 4 → Sub l S → Off S j l ws → Agree w (apply ws w) j l
  agree [] w j l hj s o x m = refl
  agree (e ∷ ws) w j l hj s o x m =
      agree ws (put e w) j l hj s o.3 x m
      ∙ put_other e o.1 w x j o.0 (s x m) hj
      (λ q k. ⊎_elim (λ z. omega (arith, ap (λ (y : ℕ). cnt y l) q)) (λ z. z k) o.2)

-- ---- writes of links only, words 2 and 3, of chunks of L; writes of size words and notes only, of chunks of S
abbrev pub LinkW : List ℕ → List Write → Type 0
LinkW L [] = Unit {0}
LinkW L (e ∷ ws) = (field e / 2 ≡ 1) × (1 ≤ cnt (who e) L) × LinkW L ws

abbrev pub HeadW : List ℕ → List Write → Type 0
HeadW S [] = Unit {0}
HeadW S (e ∷ ws) = (field e < 2) × (1 ≤ cnt (who e) S) × HeadW S ws

pub link-append : (L : List ℕ) (a b : List Write) → LinkW L a → LinkW L b → LinkW L (a ++ b)
link-append L [] b j k = k
link-append L (e ∷ a) b j k = (j.0, j.1, link-append L a b j.2 k)

pub link-low : (S L l : List ℕ) (j : ℕ) (ws : List Write) → Sub L S → j < 2 → LinkW L ws → Off S j l ws
link-low S L l j [] s hj k = tt
link-low S L l j (e ∷ ws) s hj k = (s (who e) k.1, omega (arith, k.0), inr (λ q. omega (arith, k.0)), link-low S L l j ws s hj k.2)

pub link-out : (S L l : List ℕ) (j : ℕ) (ws : List Write) → Sub L S → ((x : ℕ) → 1 ≤ cnt x L → cnt x l ≡ 0) → LinkW L ws → Off S j l ws
link-out S L l j [] s d k = tt
link-out S L l j (e ∷ ws) s d k = (s (who e) k.1, omega (arith, k.0), inl (d (who e) k.1), link-out S L l j ws s d k.2)

pub head-off : (S l : List ℕ) (j : ℕ) (ws : List Write) → 2 ≤ j → HeadW S ws → Off S j l ws
head-off S l j [] hj k = tt
head-off S l j (e ∷ ws) hj k = (k.1, omega (arith, k.0), inr (λ q. omega (arith, k.0)), head-off S l j ws hj k.2)

-- words that agree at the first two fields of each tile
pub tiles-agree : (w v : List ℕ) (o : ℕ) (ts : List Tile) → Agree w v 0 (starts_from o ts) → Agree w v 1 (starts_from o ts) → tiles_at w o ts → tiles_at v o ts
tiles-agree w v o [] a b k = tt
tiles-agree w v o (t ∷ ts) a b k =
    let l : List ℕ = starts_from (o + t.size) ts in
    (b o (cnt-here o l) ∙ k.0, (λ z. zeroth ∙ k.1 z), tiles-agree w v (o + t.size) ts (agree-tail w v 0 o l a) (agree-tail w v 1 o l b) k.2)
  where
    plus : (n : ℕ) → n + 0 ≡ n
    plus n = omega arith

    zeroth : get_or v (prev_word o) 0 ≡ get_or w (prev_word o) 0
    zeroth = rw plus at (a o (cnt-here o (starts_from (o + t.size) ts)))

pub in-starts : (h : Heap) (x : ℕ) → Shape h → 1 ≤ total x h → 1 ≤ cnt x (Starts h)
in-starts h x s m = omega (arith, s.own x, starts-all h x)

-- each chunk of a bin has its skip links
abbrev pub Skips : Heap → List ℕ → Type 0
Skips h w = (j : ℕ) → stand (skips j (λ x. size_of h x) (bin h j)) w

-- ---- a list changes: only links of chunks of L are written, and the other lists have none of them. The skip links are still to follow
pub rebin : (h : Heap) (w : List ℕ) (j : ℕ) (l L : List ℕ) (ws : List Write) → Shape h → Mem h w → j < length h.bins
    → Sub L (Starts h) → LinkW L ws
    → ((x : ℕ) → 1 ≤ cnt x L → cnt_all x h.stacks ≡ 0)
    → ((x : ℕ) → 1 ≤ cnt x L → (i : ℕ) → (i ≡ j → ⊥) → cnt x (bin h i) ≡ 0)
    → links (apply ws w) none64 l none64 → MemBy 2 (with_bin j l h) (apply ws w)
rebin h w j l L ws s m hj sub lw ds db own =
    let S : List ℕ = Starts h in
    let v : List ℕ = apply ws w in
    let g : Grid S (length w) = grid h (length w) s.sizes m.long in
    let ag : (i : ℕ) (l : List ℕ) → i < 4 → Sub l S → ((x : ℕ) → 1 ≤ cnt x L → cnt x l ≡ 0) → Agree w v i l
    = λ i l hi sl d. agree S (length w) g ws w i l hi sl (link-out S L l i ws sub d lw) in
    record {
      long = rw apply-length m.long;
      words = tiles-agree w v 0 (all h)
          (agree S (length w) g ws w 0 S (omega arith) (λ x k. k) (link-low S L S 0 ws sub (omega arith) lw))
          (agree S (length w) g ws w 1 S (omega arith) (λ x k. k) (link-low S L S 1 ws sub (omega arith) lw))
          m.words;
      chains = λ k. chain-cong h.edition w v (stack h k)
          (ag 2 (stack h k) (omega arith) (λ x i. in-starts h x s (omega (arith, cnt-le-all x h.stacks k)))
          (λ x i. omega (arith, ds x i, cnt-le-all x h.stacks k)))
          (m.chains k);
      blinks = λ i. set_cases (λ z. links v none64 z none64) h.bins j l i hj
          (λ e. own)
          (λ e.
          let sb : Sub (bin h i) S = λ x k. in-starts h x s (omega (arith, cnt-le-all x h.bins i)) in
          links-cong w v none64 (bin h i) none64 (ag 2 (bin h i) (omega arith) sb (λ x k. db x k i e))
          (ag 3 (bin h i) (omega arith) sb (λ x k. db x k i e)) (m.blinks i));
      keys = λ z k x p i. ag 3 (stack h k) (omega arith) (λ y n. in-starts h y s (omega (arith, cnt-le-all y h.stacks k)))
          (λ y n. omega (arith, ds y n, cnt-le-all y h.stacks k)) x i ∙ m.keys (omega arith) k x p i;
      key64 = m.key64;
      edited = m.edited;
      skipped = λ z. absurd (omega (arith, z));
    }

-- ---- the tiles change: only size words and notes are written
pub retile : (h : Heap) (w : List ℕ) (ts : List Tile) (ws : List Write) → Mem h w → Shape (with_tiles ts h)
    → HeadW (Starts (with_tiles ts h)) ws → tiles_at (apply ws w) 0 (all (with_tiles ts h)) → Skips (with_tiles ts h) (apply ws w)
    → Mem (with_tiles ts h) (apply ws w)
retile h w ts ws m s hw k sk =
    let h' : Heap = with_tiles ts h in
    let S : List ℕ = Starts h' in
    let v : List ℕ = apply ws w in
    let g : Grid S (length w) = grid h' (length w) s.sizes m.long in
    let ag : (i : ℕ) (l : List ℕ) → 2 ≤ i → i < 4 → Sub l S → Agree w v i l = λ i l h2 h4 sl. agree S (length w) g ws w i l h4 sl (head-off S l i ws h2 hw) in
    record {
      long = rw apply-length m.long;
      words = k;
      chains = λ k. chain-cong h.edition w v (stack h k) (ag 2 (stack h k) (omega arith) (omega arith)
          (λ x i. in-starts h' x s (omega (arith, cnt-le-all x h.stacks k)))) (m.chains k);
      blinks = λ i.
          let sb : Sub (bin h i) S = λ x k. in-starts h' x s (omega (arith, cnt-le-all x h.bins i)) in
          links-cong w v none64 (bin h i) none64 (ag 2 (bin h i) (omega arith) (omega arith) sb) (ag 3 (bin h i) (omega arith) (omega arith) sb) (m.blinks i);
      keys = λ z k x p i. ag 3 (stack h k) (omega arith) (omega arith) (λ y n. in-starts h' y s (omega (arith, cnt-le-all y h.stacks k))) x i ∙ m.keys z k x p i;
      key64 = m.key64;
      edited = m.edited;
      skipped = λ z. sk;
    }

-- ---- writes in a range of words
abbrev pub Within : ℕ → ℕ → List Write → Type 0
Within lo hi [] = Unit {0}
Within lo hi (e ∷ ws) = (lo ≤ who e / 8 + field e) × (who e / 8 + field e < hi) × Within lo hi ws

pub outside : (lo hi : ℕ) (ws : List Write) (w : List ℕ) (i : ℕ) → Within lo hi ws → (i < lo) ⊎ (hi ≤ i) → get_or (apply ws w) i 0 ≡ get_or w i 0
outside lo hi [] w i k d = refl
outside lo hi (e ∷ ws) w i k d =
    outside lo hi ws (put e w) i k.2 d
    ∙ get_or-set_other w (who e / 8 + field e) i (value e w) 0 (λ q. ⊎_elim (λ l. omega (arith, k.0)) (λ l. omega (arith, k.1)) d)

-- another middle of the same length, whose words are written
pub words-mid : (w : List ℕ) (ws : List Write) (a m n z : List Tile) → tiled (a ++ (m ++ z)) → tiled n → end_from (end_from 0 a) m ≡ end_from (end_from 0 a) n
    → Within (end_from 0 a / 8) (end_from (end_from 0 a) m / 8) ws → tiles_at (apply ws w) (end_from 0 a) n
    → tiles_at w 0 (a ++ (m ++ z)) → tiles_at (apply ws w) 0 (a ++ (n ++ z))
words-mid w ws a m n z f fn e win kn k =
    let c : ℕ = end_from 0 a in
    let v : List ℕ = apply ws w in
    let fa : tiled a × tiled (m ++ z) = tiled-split a (m ++ z) f in
    let fm : tiled m × tiled z = tiled-split m z fa.1 in
    let ka : tiles_at w 0 a × tiles_at w c (m ++ z) = tiles-split w 0 a (m ++ z) k in
    let km : tiles_at w c m × tiles_at w (end_from c m) z = tiles-split w c m z ka.1 in
    let ce : c % 16 ≡ 0 = end-even 0 a refl fa.0 in
    let me : end_from c m % 16 ≡ 0 = end-even c m ce fm.0 in
    tiles-join v 0 a (n ++ z)
    (tiles-cong w v 0 a refl fa.0 (λ i l h. outside (c / 8) (end_from c m / 8) ws w i win (inl h)) ka.0)
    (tiles-join v c n z kn
    (subst (λ (o : ℕ). tiles_at v o z) e
    (tiles-cong w v (end_from c m) z me fm.1 (λ i l h. outside (c / 8) (end_from c m / 8) ws w i win (inr l)) km.1)))
