-- A turn of step 5, as the code does it, follows the machine: the test for the lone chunk by the record, its split, and what becomes of a chunk that is taken
-- out. One lemma for each way. Assumes nothing.
use Rattle.std.specs.Prelude.{◌≡◌, refl, Bool, true, false, ℕ, suc, ◌+◌, ◌≤◌, ◌<◌, eqb, ltb, length, get_or}
use Rattle.std.proofs.Math.Path.{sym, ap}
use Rattle.std.proofs.Common.{◌∙◌, subst, arith}
use mathlib.Core.List.{List, [], ◌∷◌}
use Rattle.std.proofs.Math.ListN.{set}
use borrow.Author.Tests.{eq-eqb, ne_eqb, lt-ltb, le-ltb, ltb-true}
use Rattle.le.specs.Arena.{arena_words}
use Rattle.sizes.specs.Limits.{none32, none64, large, unsorted}
use Rattle.sizes.specs.Layout.{bin_first, bin_last, remainder_word}
use Rattle.machine.specs.Lists.{both, hd, lst, some?, cnt}
use Rattle.machine.specs.Count.{ind-same, cnt-le-all}
use Rattle.machine.specs.Heap.{Heap, bin, starts, size_of, next}
use Rattle.machine.specs.Writes.{size, put, Ran, heap_of, giving, ◌>>=◌, ran}
use Rattle.machine.specs.Primitives.{unlink, set_p, set_remainder}
use Rattle.machine.specs.Grant.{take_last, split, sort_in, lone?, split_lone, keep, turn_at, turn}
use Rattle.machine.specs.View.{size_at}
use Rattle.machine.specs.declared.{Turn.Turn}
use Rattle.machine.specs.declared.Turn.TheVariants as T
use Rattle.sound.specs.Relation.{Loose, Good}
use Rattle.sound.specs.Tiles.{starts-once}
use Rattle.sound.specs.Frames.{starts-all}
use Rattle.sound.specs.Apart.{tiled-tiles}
use Rattle.sound.specs.Lists.{lst-in, unlink-shape, unlink-mem}
use Rattle.sound.specs.Take.{take_last-leaves}
use Rattle.sound.specs.Release.{both_true}
use Rattle.sound.specs.RecordOf.{record-remainder, record-with_remainder}
use Rattle.primitives.specs.Follow.{Ok, Gave, Does}
use Rattle.primitives.specs.FollowLaws.{gave-by, gave_then, gave-giving, gave-none, gave-ok}
use Rattle.primitives.specs.Places.{InBin}
use Rattle.primitives.specs.Chunks.{Chunk, Inside, in_bytes, start-chunk}
use Rattle.primitives.specs.Sizes.{chunk-says, set-p-gave}
use Rattle.primitives.specs.Bins.{ok-bin, ok-first, ok-last}
use Rattle.grant_step_8.specs.Taken.{Taken}
use Rattle.grant_step_8.specs.Carving.{unlinked}

-- unsorted of a sound heap has c, of size z
pub record Waits (h : Heap) (c z : ℕ) : Type 0 where
  pub good : Good h
  pub here : 1 ≤ cnt c (bin h unsorted)
  pub size : size_of h c ≡ z

-- ---- the test for the lone chunk, as the record has it
unfoldable pub lone_in : List ℕ → ℕ → ℕ → ℕ → Bool
lone_in r b c z = both (ltb b large) (both (eqb (get_or r (bin_first unsorted) 0) c) (both (eqb c (get_or r remainder_word 0)) (ltb (b + 32) z)))

module _ (r : List ℕ) (b c z : ℕ) where
  pub not-small : 1024 ≤ b → false ≡ lone_in r b c z
  unfolding lone_in
  not-small l = sym (rw (le-ltb b large l, lone_in))

  module _ (l : b < 1024) (at : ℕ) (ea : at ≡ bin_first unsorted) where
    first-at : get_or r (bin_first unsorted) 0 ≡ get_or r at 0
    first-at = ap (λ (i : ℕ). get_or r i 0) (sym ea)

    pub not-only : (get_or r at 0 ≡ c → ⊥) → false ≡ lone_in r b c z
    unfolding lone_in
    not-only n = sym (rw (lt-ltb b large l, lone_in) (rw (ne_eqb (get_or r (bin_first unsorted) 0) c (λ e. n (sym first-at ∙ e)))))

    module _ (f : get_or r at 0 ≡ c) where
      pub not-remainder : (get_or r remainder_word 0 ≡ c → ⊥) → false ≡ lone_in r b c z
      unfolding lone_in
      not-remainder n = sym (rw (lt-ltb b large l, lone_in) (rw (eq-eqb (get_or r (bin_first unsorted) 0) c (first-at ∙ f), ne_eqb c (get_or r remainder_word 0) (λ e. n (sym e)))))

      pub by-room : get_or r remainder_word 0 ≡ c → ltb (b + 32) z ≡ lone_in r b c z
      unfolding lone_in
      by-room e = sym (rw (lt-ltb b large l, lone_in) (rw (eq-eqb (get_or r (bin_first unsorted) 0) c (first-at ∙ f), eq-eqb c (get_or r remainder_word 0) (sym e))))

  pub lone_room : (t : Bool) → t ≡ lone_in r b c z → t ≡ true → b + 32 < z
  unfolding lone_in
  lone_room t e f =
      let t₁ = both_true (ltb b large) (both (eqb (get_or r (bin_first unsorted) 0) c) (both (eqb c (get_or r remainder_word 0)) (ltb (b + 32) z))) (sym e ∙ f) in
      let t₂ = both_true (eqb (get_or r (bin_first unsorted) 0) c) (both (eqb c (get_or r remainder_word 0)) (ltb (b + 32) z)) t₁.1 in
      ltb-true (b + 32) z (both_true (eqb c (get_or r remainder_word 0)) (ltb (b + 32) z) t₂.1).1

-- ---- the last of unsorted
pub record Last (h : Heap) (w : List ℕ) (c : ℕ) : Type 0 where
  pub some : some? (bin h unsorted) ≡ true
  pub last : lst none64 (bin h unsorted) ≡ c
  pub here : 1 ≤ cnt c (bin h unsorted)
  pub chunk : Chunk w c

-- a list whose first is its last has one chunk
one-long : (l : List ℕ) (c : ℕ) → 1 ≤ cnt c l → cnt c l ≤ 1 → lst none64 l ≡ c → eqb (hd none32 l) c ≡ eqb (length l) 1
one-long [] c i once e = absurd (omega (arith, i))
one-long (x ∷ []) c i once e = eq-eqb x c e
one-long (x ∷ y ∷ l) c i once e =
    ne_eqb x c (λ q. omega (arith, once, ap (λ (z : ℕ). cnt z (x ∷ y ∷ l)) (sym q), ind-same x, ap (λ (z : ℕ). cnt z (y ∷ l)) (q ∙ sym e), lst-in y l))
    ∙ sym (ne_eqb (suc (suc (length l))) 1 (λ q. omega arith))

module _ (h : Heap) (w r : List ℕ) (o : Ok h w r) (at : ℕ) (ea : at ≡ bin_last unsorted) where
  last-at : get_or r at 0 ≡ lst none32 (bin h unsorted)
  last-at = ap (λ (i : ℕ). get_or r i 0) ea ∙ ok-last h w r o unsorted (omega arith) (omega arith)

  pub last_none : get_or r at 0 ≡ none32 → some? (bin h unsorted) ≡ false
  last_none e = go (bin h unsorted) (ok-bin h w r o unsorted) (sym last-at ∙ e)
    where
      go : (l : List ℕ) → ((x : ℕ) → 1 ≤ cnt x l → Chunk w x) → lst none32 l ≡ none32 → some? l ≡ false
      go [] k q = refl
      go (x ∷ l) k q = absurd (omega (arith, q, (k (lst x l) (lst-in x l)).small))

  pub last_some : (get_or r at 0 ≡ none32 → ⊥) → Last h w (get_or r at 0)
  last_some n = go (bin h unsorted) refl
    where
      go : (l : List ℕ) → bin h unsorted ≡ l → Last h w (get_or r at 0)
      go [] e = absurd (n (last-at ∙ ap (lst none32) e))
      go (x ∷ l) e =
          let ec : get_or r at 0 ≡ lst x l = last-at ∙ ap (lst none32) e in
          let i : 1 ≤ cnt (get_or r at 0) (bin h unsorted) = subst (λ (m : List ℕ). 1 ≤ cnt (get_or r at 0) m) (sym e) (subst (λ (c : ℕ). 1 ≤ cnt c (x ∷ l)) (sym ec) (lst-in x l)) in
          record { some = ap some? e; last = ap (lst none64) e ∙ sym ec; here = i; chunk = ok-bin h w r o unsorted (get_or r at 0) i }

pub last-size : (h : Heap) (w r : List ℕ) (c z : ℕ) → Ok h w r → Last h w c → z ≡ size_at w c → size_of h c ≡ z
last-size h w r c z o L e = sym (e ∙ (chunk-says h o.shape w o.mem c (omega (arith, o.shape.own c, L.here, cnt-le-all c h.bins unsorted))).size)

pub last-waits : (h : Heap) (w r : List ℕ) (c z : ℕ) → Ok h w r → Good h → Last h w c → z ≡ size_at w c → Waits h c z
last-waits h w r c z o g L e = record { good = g; here = L.here; size = last-size h w r c z o L e }

-- what the record says of the lone chunk is what the machine asks
lone_is : (h : Heap) (w r : List ℕ) (b c z : ℕ) → Ok h w r → Last h w c → z ≡ size_at w c → lone_in r b c z ≡ lone? b c h
unfolding lone_in
lone_is h w r b c z o L e =
    let s = o.shape in
    let once : cnt c (bin h unsorted) ≤ 1 = omega (arith, s.own c, cnt-le-all c h.bins unsorted, starts-once h.tiles 0 c (tiled-tiles h s)) in
    let f : eqb (get_or r (bin_first unsorted) 0) c ≡ eqb (length (bin h unsorted)) 1 =
    ap (λ (x : ℕ). eqb x c) (ok-first h w r o unsorted (omega arith) (omega arith)) ∙ one-long (bin h unsorted) c L.here once L.last in
    let m : get_or r remainder_word 0 ≡ h.remainder = ap (λ (r : List ℕ). get_or r remainder_word 0) o.rec ∙ record-remainder h s.stacked74 s.binned127 in
    ap (λ (t : Bool). both (ltb b large) (both t (both (eqb c (get_or r remainder_word 0)) (ltb (b + 32) z)))) f
    ∙ ap (λ (x : ℕ). both (ltb b large) (both (eqb (length (bin h unsorted)) 1) (both (eqb c x) (ltb (b + 32) z)))) m
    ∙ ap (λ (z : ℕ). both (ltb b large) (both (eqb (length (bin h unsorted)) 1) (both (eqb c h.remainder) (ltb (b + 32) z)))) (sym (last-size h w r c z o L e))

-- ---- c is taken out: kept if its size is b, else binned
unfoldable pub take_out : ℕ → ℕ → Heap → Ran Turn
take_out b c h = elim (eqb (size_of h c) b) [
  | true ↦ do
    h ← unlink unsorted c h
    h ← set_p (next h c) h
    keep b c h
  | false ↦ giving T.Binned do
    h ← unlink unsorted c h
    sort_in c h
]

module _ (h : Heap) (w r : List ℕ) (c z : ℕ) (o : Ok h w r) (U : Waits h c z) where
  pub in-unsorted : InBin h unsorted c
  in-unsorted = record { here = U.here; low = omega arith }

  -- the chunk after it is not the top
  next-chunk : Chunk w (c + z)
  next-chunk =
      let n : 1 ≤ cnt (c + z) (starts h) = subst (λ (z : ℕ). 1 ≤ cnt (c + z) (starts h)) U.size (unlinked h unsorted c U.good U.here).next in
      start-chunk h w o.shape o.mem (c + z) (omega (arith, starts-all h (c + z)))

  -- out of unsorted
  module _ (v₁ q₁ : List ℕ) (D : Does (Unit {0}) (λ h. InBin h unsorted c) (unlink unsorted c) w r tt v₁ q₁) where
    m : Gave (Unit {0}) (unlink unsorted c h) tt w v₁ q₁
    m = D.does h o in-unsorted

    abbrev H₁ : Heap
    H₁ = heap_of (unlink unsorted c h)

    pub out-ok : Ok H₁ v₁ q₁
    out-ok = gave-ok (unlink unsorted c h) tt (unlink-shape h unsorted c o.shape U.here) (unlink-mem h w unsorted c o.shape o.mem U.here) m

    pub out-taken : Taken H₁ c z
    out-taken = subst (λ (z : ℕ). Taken H₁ c z) U.size (unlinked h unsorted c U.good U.here)

    pub split_lone-gave : (b : ℕ) (v₂ q₂ q : List ℕ) → Does (Unit {0}) (λ g. Taken g c z) (split c b) v₁ q₁ tt v₂ q₂ → q ≡ set q₂ remainder_word (c + b)
        → Gave Turn (split_lone b c h) (T.Granted c) w v₂ q
    unfolding split_lone
    split_lone-gave b v₂ q₂ q d e =
        let n = d.does H₁ out-ok out-taken in
        gave-giving (unlink unsorted c h >>= (λ g. split c b g >>= (λ g. set_remainder (c + b) g))) tt (T.Granted c)
        (gave_then (unlink unsorted c h) (λ g. split c b g >>= (λ g. set_remainder (c + b) g)) tt tt m
        (gave_then (split c b H₁) (λ g. set_remainder (c + b) g) tt tt n
        (record {
          says = refl;
          bytes = refl;
          rec = e ∙ ap (λ (r : List ℕ). set r remainder_word (c + b)) n.rec ∙ sym (record-with_remainder (heap_of (split c b H₁)) (c + b));
        })))

    -- another size
    pub binned-gave : (b : ℕ) (v q : List ℕ) → (z ≡ b → ⊥) → Does (Unit {0}) (λ g. Loose g c × (size_of g c ≡ z)) (sort_in c) v₁ q₁ tt v q → Gave Turn (take_out b c h) T.Binned w v q
    unfolding take_out
    binned-gave b v q n d =
        gave-by (rw (ne_eqb (size_of h c) b (λ e. n (sym U.size ∙ e)), take_out))
        (gave-giving (unlink unsorted c h >>= (λ g. sort_in c g)) tt T.Binned
        (gave_then (unlink unsorted c h) (λ g. sort_in c g) tt tt m (d.does H₁ out-ok (out-taken.loose, U.size))))

    -- size b: the next P is set
    module _ (v₂ : List ℕ) (e₂ : v₂ ≡ put (size (c + z) (size_at v₁ (c + z)) 1) v₁) where
      abbrev H₂ : Heap
      H₂ = heap_of (set_p (next H₁ c) H₁)

      marked : Gave (Unit {0}) (set_p (next H₁ c) H₁) tt v₁ v₂ q₁
      marked = gave-by (ap (λ (y : ℕ). set_p (c + y) H₁) U.size) (set-p-gave H₁ v₁ q₁ out-ok (c + z) out-taken.next v₂ e₂)

      pub marked-ok : Ok H₂ v₂ q₁
      unfolding take_last
      marked-ok =
          let L = take_last-leaves h w unsorted c U.good o.mem U.here in
          gave-ok (take_last unsorted c h) tt L.now.0.shape L.mem (gave_then (unlink unsorted c h) (λ g. set_p (next g c) g) tt tt m marked)

      pub marked-loose : Loose H₂ c
      unfolding take_last
      marked-loose =
          let L = take_last-leaves h w unsorted c U.good o.mem U.here in
          omega (arith, L.moved.count c, ind-same c, o.shape.own c)

      pub equal-gave : (b : ℕ) → z ≡ b → (t : Turn) (v q : List ℕ) → Does Turn (λ g. Loose g c) (keep b c) v₂ q₁ t v q → Gave Turn (take_out b c h) t w v q
      unfolding take_out
      equal-gave b e t v q d =
          gave-by (rw (eq-eqb (size_of h c) b (U.size ∙ e), take_out))
          (gave_then (unlink unsorted c h) (λ g. set_p (next g c) g >>= (λ g. keep b c g)) tt t m
          (gave_then (set_p (next H₁ c) H₁) (λ g. keep b c g) tt t marked (d.does H₂ marked-ok marked-loose)))

pub next-inside : (h : Heap) (a r : List ℕ) (c z : ℕ) → Ok h (arena_words a) r → Waits h c z → Inside (length a) (c + z)
next-inside h a r c z o U = in_bytes a (c + z) (next-chunk h (arena_words a) r c z o U)

pub last-inside : (h : Heap) (a : List ℕ) (c : ℕ) → Last h (arena_words a) c → Inside (length a) c
last-inside h a c L = in_bytes a c L.chunk

-- ---- a turn, by its tests
pub turn-empty : (b : ℕ) (h : Heap) → some? (bin h unsorted) ≡ false → turn b h ≡ ran h [] T.Empty
unfolding turn
turn-empty b h e = rw (e, turn)

turn-at : (b : ℕ) (h : Heap) (c : ℕ) → some? (bin h unsorted) ≡ true → lst none64 (bin h unsorted) ≡ c → turn b h ≡ turn_at b c h
unfolding turn
turn-at b h c e f = rw (e, turn) (ap (λ (c : ℕ). turn_at b c h) f)

pub empty-gave : (b : ℕ) (h : Heap) (w r : List ℕ) → Ok h w r → some? (bin h unsorted) ≡ false → Gave Turn (turn b h) T.Empty w w r
empty-gave b h w r o e = gave-by (turn-empty b h e) (gave-none h T.Empty w r o.rec)

module _ (h : Heap) (w r : List ℕ) (b c z : ℕ) (o : Ok h w r) (L : Last h w c) (e : z ≡ size_at w c) (t : Bool) (et : t ≡ lone_in r b c z) where
  lone-test : lone? b c h ≡ t
  lone-test = sym (et ∙ lone_is h w r b c z o L e)

  pub lone-gave : (g : Turn) (v q : List ℕ) → t ≡ true → Gave Turn (split_lone b c h) g w v q → Gave Turn (turn b h) g w v q
  unfolding turn_at
  lone-gave g v q f m = gave-by (turn-at b h c L.some L.last ∙ rw (lone-test ∙ f, turn_at)) m

  pub other-gave : (g : Turn) (v q : List ℕ) → t ≡ false → Gave Turn (take_out b c h) g w v q → Gave Turn (turn b h) g w v q
  unfolding turn_at take_out
  other-gave g v q f m = gave-by (turn-at b h c L.some L.last ∙ rw (lone-test ∙ f, turn_at)) m
