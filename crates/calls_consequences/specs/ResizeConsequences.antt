-- What follows from a resize, by the names that reviewers ask for; what null and a new length of 0 come to is the grant's and the release's (resize-null,
-- resize-zero). The premise is good shape (Lent), and a sound heap where one is meant (SoundIn). By the ways through the call. Assumes nothing.
use Rattle.std.specs.Prelude.{◌≡◌, List, true, false, ℕ, ◌+◌, ◌-◌, ◌≤◌, ◌<◌, Option, Some, None, Ok, Err}
use Rattle.std.proofs.Math.Path.{refl, ap, subst}
use Rattle.std.proofs.Common.{sym, ◌∙◌, ⊎_elim, eq-eqb, ne_eqb, le-ltb}
use native.Mathlib.Omega.{arith}
use Rattle.std.proofs.Math.ListN.{length, get_or}
use Rattle.le.specs.Number.{bytes}
use Rattle.le.specs.Arena.{arena_words}
use Rattle.le.specs.ArenaLaws.{length-arena_words}
use Rattle.sizes.specs.Limits.{most_request}
use Rattle.sizes.specs.Sizes.{need, usable}
use Rattle.sizes.specs.SizesLaws.{NeedBounds, need-bounds}
use Rattle.machine.specs.Count.{eq?}
use Rattle.machine.specs.Heap.{Heap, stack, size_of, p_of, live?}
use Rattle.machine.specs.Writes.{Ran, heap_of, writes, apply}
use Rattle.machine.specs.Resize.{resize}
use Rattle.machine.specs.Calls.{after, left, shape?, heap_in, resize_call}
use Rattle.machine.specs.declared.Refusal.{Refusal}
use Rattle.machine.specs.declared.Refusal.TheVariants as R
use Rattle.machine.specs.declared.Answer.TheVariants.{Granted}
use Rattle.sound.specs.Relation.{Loose}
use Rattle.sound.specs.Frames.{apply-length}
use Rattle.sound.specs.Moves.{answer_of}
use Rattle.sound.specs.Ends.{Ends}
use Rattle.sound.specs.Below.{OwnP}
use Rattle.sound.specs.Resize.{standing}
use Rattle.sound.specs.Live.{But, Resizes, live-loose, resize-resizes, resize-own-p, resize-refused}
use Rattle.calls.specs.Ways.{grant-shape, grant-unsound, release-shape, release-unsound, resize-null, resize-zero, resize-shape}
use Rattle.calls_consequences.specs.Remainder.{Fine, resize-fine}
use Rattle.calls_consequences.specs.Results.{Lent, SoundIn, UnsoundIn, answered, heap_left, LiveMem, Exactly, StaysSound, CachesKept, LiveKept, BlockAt, ResizedTo}
use Rattle.calls_consequences.specs.Left.{lent-shape, lent-sound, lent-fine, left-heap, left-stays, left-keeps, left-moves}
use Rattle.calls_consequences.specs.Cases.{grant-cases, release-cases, resize-cases}
use Rattle.calls_consequences.specs.Consequences.{large-refused, clash, no-yes, not_live, block_at, same-keeps, same-stays, grant-refused-unchanged, release-refused-unchanged, release-4-exactly, grant-stays-sound, release-stays-sound, grant-5-keeps, grant-live-bytes-kept, release-live-bytes-kept}

-- ---- number 1
pub resize-bad-shape-refused : (a r : List ℕ) (m n : ℕ) → shape? a r ≡ false → resize_call a r m n ≡ after a r (Err R.Shape)
resize-bad-shape-refused a r m n e = ⊎_elim
    (λ z. sym (grant-shape a r n e ∙ resize-null a r m n (eq-eqb m 0 z)))
    (λ z. ⊎_elim
    (λ k. sym (release-shape a r m e ∙ resize-zero a r m n (ne_eqb m 0 z) (eq-eqb n 0 k)))
    (λ k. sym (resize-shape a r m n (ne_eqb m 0 z) (ne_eqb n 0 k) e))
    (eq? n 0))
    (eq? m 0)

module _ (a r : List ℕ) (L : Lent a r) (m n : ℕ) where
  abbrev h : Heap
  h = heap_in a r

  abbrev s : Ran (Option ℕ)
  s = resize (m - 16) (need n) (heap_in a r)

  -- ---- number 2, whether the heap is sound or not, and whatever the mem is
  pub resize-large-refused : 262144 < n → resize_call a r m n ≡ after a r (Err R.Request)
  resize-large-refused l = resize-cases a r L (λ x. x ≡ after a r (Err R.Request)) m n
      (λ z. large-refused a r n L l) (λ z k. absurd (omega arith)) (λ z l. refl) (λ z k. absurd (omega arith)) (λ z k. absurd (omega arith))
      (λ k i. absurd (omega arith)) (λ k i. absurd (omega arith))

  -- ---- number 3
  pub resize-unsound-refused : UnsoundIn a r → n ≤ 262144 → resize_call a r m n ≡ after a r (Err R.Unsound)
  resize-unsound-refused U l =
      let e = (lent-shape a r L).1 in
      resize-cases a r L (λ x. x ≡ after a r (Err R.Unsound)) m n
      (λ z. sym (grant-unsound a r n e (le-ltb most_request n l) U)) (λ z k. sym (release-unsound a r m e U)) (λ z k. absurd (omega arith)) (λ z k U. refl)
      (λ z k S. no-yes a r S U) (λ k i S. no-yes a r S U) (λ k i S. no-yes a r S U)

  -- ---- numbers 1 to 4 write nothing
  pub resize-refused-unchanged : (x : Refusal) → (x ≡ R.NoRoom → ⊥) → answered (resize_call a r m n) ≡ Err x → resize_call a r m n ≡ after a r (Err x)
  resize-refused-unchanged x ne = resize-cases a r L (λ y. answered y ≡ Err x → y ≡ after a r (Err x)) m n
      (λ z. grant-refused-unchanged a r L n x ne) (λ z k. release-refused-unchanged a r L m x) (λ z l e. ap (after a r) e) (λ z k U e. ap (after a r) e)
      (λ z k S d e. ap (after a r) e) (λ k i S v q e. absurd (ne (cc))) (λ k i S v c q e. clash (cc))

  -- ---- number 4: exactly if the mem is neither 0 nor a live block's
  pub resize-4-exactly : SoundIn a r → n ≤ 262144 → Exactly (answered (resize_call a r m n) ≡ Err R.NotLive) ((m ≡ 0 → ⊥) × (LiveMem a r m → ⊥))
  resize-4-exactly S l = resize-cases a r L (λ x. Exactly (answered x ≡ Err R.NotLive) ((m ≡ 0 → ⊥) × (LiveMem a r m → ⊥))) m n
      (λ z. (
        grant-cases a r L (λ x. answered x ≡ Err R.NotLive → (m ≡ 0 → ⊥) × (LiveMem a r m → ⊥)) n
            (λ i e. clash (cc)) (λ U e. clash (cc)) (λ i S q e. clash (cc)) (λ i S c q e. clash (cc)),
        λ q. absurd (q.0 z),
      ))
      (λ z k. release-4-exactly a r L m S)
      (λ z i. absurd (omega arith))
      (λ z k U. no-yes a r S U)
      (λ z k S d. (λ e. (z, d), λ q. refl))
      (λ k i S v q. (λ e. clash (cc), λ q. absurd (q.1 v)))
      (λ k i S v c q. (λ e. clash (cc), λ q. absurd (q.1 v)))

  -- ---- a live block, and a length that is neither 0 nor too large
  module _ (S : SoundIn a r) (v : LiveMem a r m) (l : n ≤ 262144) where
    loose : Loose (heap_in a r) (m - 16)
    loose = live-loose (heap_in a r) (m - 16) v.1

    resize-ends : Ends (resize (m - 16) (need n) (heap_in a r)) (arena_words a) Fine
    resize-ends =
        let b : NeedBounds n (need n) = need-bounds n in
        resize-fine (need n) b.whole b.least (b.most l) (m - 16) (heap_in a r) (arena_words a) (lent-fine a r L S) (lent-sound a r L S).mem loose

    resizes : Resizes (m - 16) (need n) (heap_in a r) (arena_words a) (resize (m - 16) (need n) (heap_in a r))
    resizes = resize-resizes (need n) (need-bounds n).whole (need-bounds n).least (heap_in a r) (arena_words a) (lent-sound a r L S).good (lent-sound a r L S).mem (m - 16) loose

    -- ---- number 5: exactly where the rules find no room
    pub resize-5-exactly : 1 ≤ n → Exactly (answered (resize_call a r m n) ≡ Err R.NoRoom) (answer_of (resize (m - 16) (need n) (heap_in a r)) ≡ None)
    resize-5-exactly k = resize-cases a r L (λ x. Exactly (answered x ≡ Err R.NoRoom) (answer_of s ≡ None)) m n
        (λ z. absurd (omega (arith, v.0))) (λ z i. absurd (omega arith)) (λ z i. absurd (omega arith)) (λ z i U. no-yes a r S U) (λ z i S d. absurd (d v))
        (λ k i S v q. (λ e. q, λ e. refl)) (λ k i S v c q. (λ e. clash (cc), λ e. clash (cc)))

    -- ---- the bytes left spell the heap that the steps left
    pub resize-heap : 1 ≤ n → heap_left (resize_call a r m n) ≡ heap_of (resize (m - 16) (need n) (heap_in a r))
    resize-heap k = resize-cases a r L (λ x. heap_left x ≡ heap_of s) m n
        (λ z. absurd (omega (arith, v.0))) (λ z i. absurd (omega arith)) (λ z i. absurd (omega arith)) (λ z i U. no-yes a r S U) (λ z i S d. absurd (d v))
        (λ k i S v q. left-heap a r s (Err R.NoRoom) L resize-ends)
        (λ k i S v c q. left-heap a r s (Ok (Granted (c + 16) (usable (size_of (heap_of s) c)))) L resize-ends)

    -- the block that is answered
    answered-to : (c : ℕ) → answer_of s ≡ Some c → (mem u : ℕ) → c + 16 ≡ mem → usable (size_of (heap_of s) c) ≡ u
        → ResizedTo a r m n mem u (left a (heap_of s) (writes s) (Ok (Granted (c + 16) (usable (size_of (heap_of s) c)))))
    unfolding usable
    answered-to c q mem u em eu =
        let g : Heap = heap_of s in
        let y = (Ok (Granted (c + 16) (usable (size_of g c)))) in
        let E = resize-ends in
        let H = left-heap a r s y L E in
        let k = resizes.given c q in
        let lo = loose in
        let len : g.len ≡ length a = omega (arith, E.mem.long, apply-length (writes s) (arena_words a), length-arena_words a, L.even) in
        let at : mem - 16 ≡ c = omega arith in
        record {
          block = subst (λ (f : Heap). BlockAt f (length a) n mem u) (sym H)
              (subst (λ (j : ℕ). BlockAt g j n mem u) len
              (subst (λ (j : ℕ). BlockAt g g.len n j u) em
              (subst (λ (j : ℕ). BlockAt g g.len n (c + 16) j) eu
              (block_at g n c E.now.good k.0 k.1))));
          bytes = λ i l u.
              ap (λ (j : ℕ). get_or (bytes 8 (apply (writes s) (arena_words a))) (j + i) 0) (sym em)
              ∙ left-moves a r s y L E (m - 16) c (size_of h (m - 16)) (size_of g c) S v.1 k.0 refl refl (resizes.words c q) i (omega arith) (omega (arith, eu))
              ∙ ap (λ (j : ℕ). get_or a (j + i) 0) (omega (arith, v.0));
          moved = λ ne.
              let o = resizes.moves c (λ e. ne (omega (arith, v.0))) q in
              (ap (λ (f : Heap). live? f (m - 16)) H ∙ not_live g (m - 16) o.0, ap (λ (j : ℕ). live? h j) at ∙ not_live h c o.1);
          own = λ e. subst (OwnP (m - 16) (p_of (standing (m - 16) (need n) h) (m - 16))) (sym H)
              (resize-own-p (need n) (need-bounds n).whole (need-bounds n).least h (arena_words a) (lent-sound a r L S).good (lent-sound a r L S).mem (m - 16) lo
              (q ∙ ap Some (omega (arith, v.0))));
        }

    -- ---- a live block that is resized: what is answered is live, holds n and overlaps no other; it keeps its first bytes; moved or not
    pub resized-to : (mem u : ℕ) → answered (resize_call a r m n) ≡ Ok (Granted mem u) → ResizedTo a r m n mem u (resize_call a r m n)
    resized-to mem u = resize-cases a r L (λ x. answered x ≡ Ok (Granted mem u) → ResizedTo a r m n mem u x) m n
        (λ z. absurd (omega (arith, v.0)))
        (λ z k. release-cases a r L (λ x. answered x ≡ Ok (Granted mem u) → ResizedTo a r m n mem u x) m
        (λ U e. clash (cc)) (λ S z e. clash (cc)) (λ S z d e. clash (cc)) (λ S v e. clash (cc)))
        (λ z i e. clash (cc)) (λ z i U e. clash (cc)) (λ z i S d e. clash (cc)) (λ k i S v q e. clash (cc))
        (λ k i S v c q e. answered-to c q mem u (cc) (cc))

  -- ---- what is sound stays sound and of good shape, refused or not
  pub resize-stays-sound : SoundIn a r → StaysSound (resize_call a r m n)
  resize-stays-sound S = resize-cases a r L StaysSound m n
      (λ z. grant-stays-sound a r L n S) (λ z k. release-stays-sound a r L m S)
      (λ z l. same-stays a r L (Err R.Request) S) (λ z k U. same-stays a r L (Err R.Unsound) S) (λ z k S d. same-stays a r L (Err R.NotLive) S)
      (λ k l S v q. left-stays a r s (Err R.NoRoom) L (resize-ends S v l))
      (λ k l S v c q. left-stays a r s (Ok (Granted (c + 16) (usable (size_of (heap_of s) c)))) L (resize-ends S v l))

  -- ---- number 5 leaves the cache lists and the last remainder as they were
  pub resize-5-keeps : answered (resize_call a r m n) ≡ Err R.NoRoom → CachesKept a r (resize_call a r m n)
  resize-5-keeps = resize-cases a r L (λ x. answered x ≡ Err R.NoRoom → CachesKept a r x) m n
      (λ z. grant-5-keeps a r L n)
      (λ z k. release-cases a r L (λ x. answered x ≡ Err R.NoRoom → CachesKept a r x) m
      (λ U e. clash (cc)) (λ S z e. clash (cc)) (λ S z d e. clash (cc)) (λ S v e. clash (cc)))
      (λ z l e. clash (cc)) (λ z k U e. clash (cc)) (λ z k S d e. clash (cc))
      (λ k l S v q e.
      let H = left-heap a r s (Err R.NoRoom) L (resize-ends S v l) in
      let T = resize-refused (need n) (need-bounds n).whole (need-bounds n).least h (arena_words a) (lent-sound a r L S).good (lent-sound a r L S).mem (m - 16) (loose S v l) q in
      record { lists = λ k i. ap (λ (g : Heap). stack g k) H ∙ T.lists k i; remainder = ap (λ (g : Heap). g.remainder) H ∙ T.remainder })
      (λ k l S v c q e. clash (cc))

  -- ---- every other live block keeps every usable byte
  pub resize-live-bytes-kept : (c : ℕ) → (m ≡ c + 16 → ⊥) → live? (heap_in a r) c ≡ true → LiveKept a r c (resize_call a r m n)
  resize-live-bytes-kept c ne w = resize-cases a r L (LiveKept a r c) m n
      (λ z. grant-live-bytes-kept a r L n c w) (λ z k. release-live-bytes-kept a r L m c ne w)
      (λ z l. same-keeps a r L c (Err R.Request) w) (λ z k U. same-keeps a r L c (Err R.Unsound) w) (λ z k S d. same-keeps a r L c (Err R.NotLive) w)
      (λ k l S v q. left-keeps a r s (Err R.NoRoom) L (resize-ends S v l) (But (m - 16)) S (resizes S v l).tame c (λ e. ne (omega (arith, v.0))) w)
      (λ k l S v d q.
      left-keeps a r s (Ok (Granted (d + 16) (usable (size_of (heap_of s) d)))) L (resize-ends S v l) (But (m - 16)) S (resizes S v l).tame c
      (λ e. ne (omega (arith, v.0))) w)

  -- ---- a refused resize leaves every live block live, with its size and all its usable bytes, the old block among them
  pub resize-refused-keeps : (x : Refusal) → answered (resize_call a r m n) ≡ Err x → (c : ℕ) → live? (heap_in a r) c ≡ true → LiveKept a r c (resize_call a r m n)
  resize-refused-keeps x e c w = resize-cases a r L (λ y. answered y ≡ Err x → LiveKept a r c y) m n
      (λ z e. grant-live-bytes-kept a r L n c w)
      (λ z k. release-cases a r L (λ y. answered y ≡ Err x → LiveKept a r c y) m
      (λ U e. same-keeps a r L c (Err R.Unsound) w) (λ S z e. clash (cc)) (λ S z d e. same-keeps a r L c (Err R.NotLive) w) (λ S v e. clash (cc)))
      (λ z l e. same-keeps a r L c (Err R.Request) w) (λ z k U e. same-keeps a r L c (Err R.Unsound) w) (λ z k S d e. same-keeps a r L c (Err R.NotLive) w)
      (λ k l S v q e. left-keeps a r s (Err R.NoRoom) L (resize-ends S v l) (λ x. Unit {0}) S ((resizes S v l).refused q).tame c tt w)
      (λ k l S v d q e. clash (cc)) e
