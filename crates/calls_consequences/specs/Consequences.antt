-- What follows from the calls on bytes, by the names that reviewers ask for. The premise is good shape (Lent), and a sound heap where one is meant (SoundIn);
-- each theorem goes by the ways through its call and what each step does to the live blocks. Assumes nothing.
use Rattle.std.specs.Prelude.{◌≡◌, refl, List, [], ◌∷◌, Bool, true, false, ℕ, ◌+◌, ◌-◌, ◌*◌, ◌≤◌, ◌<◌, ◌^◌, eqb, length, get_or, Option, None, Ok, Err}
use Rattle.std.proofs.Common.{sym, ap, ◌∙◌, subst, inl, inr, ⊎_elim, arith, ne_eqb, le-ltb, lt-ltb}
use Rattle.le.specs.Number.{number, number_from, words, digits, bytes}
use Rattle.le.specs.Arena.{arena_words}
use Rattle.le.specs.ArenaLaws.{length-arena_words}
use Rattle.sizes.specs.Limits.{none32, most_request, record_bytes, unsorted}
use Rattle.sizes.specs.Layout.{length_word}
use Rattle.sizes.specs.Sizes.{need, usable}
use Rattle.sizes.specs.SizesLaws.{NeedBounds, need-bounds}
use Rattle.machine.specs.Lists.{both, cnt}
use Rattle.machine.specs.Heap.{Heap, stack, cache, bin, opened, starts, size_of, live?}
use Rattle.machine.specs.Writes.{size, Ran, does, heap_of, writes}
use Rattle.machine.specs.Release.{release, emptying, joining}
use Rattle.machine.specs.Grant.{grant}
use Rattle.machine.specs.View.{edition_in}
use Rattle.machine.specs.Audit.{sound?, first, edition?, record_fault, audit_by, audit_of, Audited}
use Rattle.machine.specs.Calls.{After, after, shape?, arena_allowed?, words_of, heap_in, closed_record, open_call, grant_call, release_call, job_call, emptying_call, joining_call, joined_after, audit_call, Answered}
use Rattle.machine.specs.declared.Refusal.{Refusal}
use Rattle.machine.specs.declared.Refusal.TheVariants as R
use Rattle.machine.specs.declared.Answer.TheVariants.{Done, Granted}
use Rattle.machine.specs.declared.Fault.TheVariants as A
use Rattle.sound.specs.Relation.{Mem, Loose, Good, Sound}
use Rattle.sound.specs.Tiles.{start}
use Rattle.sound.specs.Frames.{starts-all, apply-length}
use Rattle.sound.specs.Apart.{clear_of, tiled-tiles}
use Rattle.sound.specs.Edits.{size_32}
use Rattle.sound.specs.Moves.{answer_of, nil, any, Moved}
use Rattle.sound.specs.Ends.{Ends}
use Rattle.sound.specs.Opened.{opened-ends}
use Rattle.sound.specs.Release.{both_true}
use Rattle.sound.specs.Drain.{NoFast}
use Rattle.sound.specs.Emptying.{emptying-leaves}
use Rattle.sound.specs.Joining.{Merged, joining-leaves}
use Rattle.sound.specs.Unsorted.{unsorted-few}
use Rattle.sound.specs.Live.{But, Gives, live-loose, loose-live, moved-tame, release-goes, emptying-empties, joining-merges, grant-gives, grant-refused}
use Rattle.audit.specs.Spelled.{edition-out}
use Rattle.audit.specs.Exact.{arena-words, audit-good}
use Rattle.primitives.specs.Follow.{Has, Does}
use Rattle.calls.specs.Ways.{allowed-true, grant-shape, grant-request, grant-unsound, release-shape, release-unsound, job-shape, job-unsound}
use Rattle.calls_consequences.specs.Written.{top-most, chunk-most}
use Rattle.calls_consequences.specs.Remainder.{Fine, grant-fine, release-fine, emptying-fine, joining-fine}
use Rattle.calls_consequences.specs.Results.{Lent, SoundIn, UnsoundIn, answered, arena_left, record_left, heap_left, LiveMem, Exactly, StaysSound, CachesKept, LiveKept, BlockAt, GrantedNew}
use Rattle.calls_consequences.specs.Left.{lent-shape, lent-sound, lent-fine, left-heap, left-stays, left-keeps}
use Rattle.calls_consequences.specs.Cases.{open-called, open_none, grant-cases, release-cases, job-cases}

-- ---- number 3: an unsound heap is refused before the first write, and nothing changes
pub unsound-refused : (a r : List ℕ) (n m : ℕ) → Lent a r → UnsoundIn a r → n ≤ 262144
    → (grant_call a r n ≡ after a r (Err R.Unsound)) × (release_call a r m ≡ after a r (Err R.Unsound))
    × (emptying_call a r ≡ after a r (Err R.Unsound)) × (joining_call a r ≡ after a r (Err R.Unsound))
unsound-refused a r n m L U l =
    let e = (lent-shape a r L).1 in
    (sym (grant-unsound a r n e (le-ltb most_request n l) U), sym (release-unsound a r m e U), sym (job-unsound emptying a r e U), sym (job-unsound joining a r e U))

-- ---- a closed record, which a refused open leaves, is unsound with every arena of an allowed length: its length is 0
closed-length : get_or (words_of (bytes 4 closed_record)) length_word 0 ≡ 0
unfolding closed_record words bytes digits number number_from
closed-length = refl

first-fault : (x y : Audited) → sound? x ≡ false → sound? (first x y) ≡ false
first-fault x y e = ap (λ (t : Bool). sound? (elim t [ true ↦ y | false ↦ x ])) e ∙ e

pub closed-unsound : (a : List ℕ) → 32 ≤ length a → UnsoundIn a (bytes 4 closed_record)
unfolding audit_by
closed-unsound a l =
    let e : eqb (get_or (words_of (bytes 4 closed_record)) length_word 0) (8 * length (arena_words a)) ≡ false =
    ap (λ (n : ℕ). eqb n (8 * length (arena_words a))) closed-length ∙ ne_eqb 0 (8 * length (arena_words a)) (λ z. omega (arith, z, length-arena_words a)) in
    first-fault (record_fault (arena_words a) (words_of (bytes 4 closed_record))) _
    (ap (λ (t : Bool). sound? (elim (both t (edition? (edition_in (words_of (bytes 4 closed_record))))) [ true ↦ Ok tt | false ↦ Err A.Record ])) e)

-- ---- number 1: bytes of bad shape
pub bad-shape-refused : (a r : List ℕ) (n m : ℕ) → shape? a r ≡ false
    → (grant_call a r n ≡ after a r (Err R.Shape)) × (release_call a r m ≡ after a r (Err R.Shape))
    × (emptying_call a r ≡ after a r (Err R.Shape)) × (joining_call a r ≡ after a r (Err R.Shape))
bad-shape-refused a r n m e = (sym (grant-shape a r n e), sym (release-shape a r m e), sym (job-shape emptying a r e), sym (job-shape joining a r e))

-- ---- number 2: a request above 262,144, whether the heap is sound or not
pub large-refused : (a r : List ℕ) (n : ℕ) → Lent a r → 262144 < n → grant_call a r n ≡ after a r (Err R.Request)
large-refused a r n L l = sym (grant-request a r n (lent-shape a r L).1 (lt-ltb most_request n l))

-- ---- number 12: an edition that there is not, at an open of good shape; the arena is left, and the record is closed
pub edition-refused : (a r : List ℕ) (q d : ℕ) → Lent a r → edition? d ≡ false → open_call a r q d ≡ after a (bytes 4 closed_record) (Err R.Edition)
edition-refused a r q d L e = sym (open_none a r q d L e)

-- ---- any two results that meet a promise are equal: every promise says `after .. ≡ call`, and the audit's says `.. ≡ audit_call ..`
pub results-unique : (call : After) (a b r s : List ℕ) (x y : Answered) → after a r x ≡ call → after b s y ≡ call → (a ≡ b) × (r ≡ s) × (x ≡ y)
results-unique call a b r s x y p q =
    let e : after a r x ≡ after b s y = p ∙ sym q in
    (ap arena_left e, ap record_left e, ap answered e)

pub audits-unique : (a r : List ℕ) (x y : Audited) → x ≡ audit_call a r → y ≡ audit_call a r → x ≡ y
audits-unique a r x y p q = p ∙ sym q

-- so are those of a step: on a heap that there is (Has), what it does (Does) is its answer, its words and its record
pub does-unique : {A : Type 0} (P : Heap → Type 0) (f : Heap → Ran A) (w r v u q p : List ℕ) (x y : A) → Has P w r → Does A P f w r x v q → Does A P f w r y u p
    → (x ≡ y) × (v ≡ u) × (q ≡ p)
does-unique P f w r v u q p x y H d e =
    let g = d.does H.heap H.ok H.holds in
    let k = e.does H.heap H.ok H.holds in
    (sym g.says ∙ k.says, g.bytes ∙ sym k.bytes, g.rec ∙ sym k.rec)

-- ---- what cannot be
pub clash : {B : Type 0} → ◌≡◌ {A = ℕ} 0 1 → B
clash z = absurd (omega arith)

pub no-yes : {B : Type 0} (a r : List ℕ) → SoundIn a r → UnsoundIn a r → B
no-yes a r S U = clash (cc)

pub not_live : (h : Heap) (c : ℕ) → (Loose h c → ⊥) → live? h c ≡ false
not_live h c n = go (live? h c) refl
  where
    go : (t : Bool) → live? h c ≡ t → t ≡ false
    go true e = absurd (n (live-loose h c e))
    go false e = refl

-- ---- whatever arena and record the audit finds sound, unsorted has at most 4,096 chunks
pub sound-unsorted-few : (a r : List ℕ) → audit_call a r ≡ Ok tt → length (bin (heap_in a r) unsorted) ≤ 4096
unfolding audit_call
sound-unsorted-few a r e = unsorted-few (heap_in a r) (go (shape? a r) refl e)
  where
    go : (t : Bool) → shape? a r ≡ t → ◌≡◌ {A = Audited} (elim t [ true ↦ audit_of (arena_words a) (words_of r) | false ↦ Err A.Shape ]) (Ok tt) → Good (heap_in a r)
    go true s e =
        let l = allowed-true (length a) (both_true (eqb (length r) record_bytes) (arena_allowed? (length a)) s).1 in
        audit-good (arena_words a) (words_of r) (arena-words a (record { even = l.0; least = l.1; small = l.2 })) e
    go false s e = clash (cc)

-- a block of a sound heap g
pub block_at : (g : Heap) (n c : ℕ) → Good g → Loose g c → need n ≤ size_of g c → BlockAt g g.len n (c + 16) (usable (size_of g c))
unfolding usable
block_at g n c G lo b =
    let k : c + 16 - 16 ≡ c = omega arith in
    let s = G.shape in
    let m : 1 ≤ cnt c (starts g) = omega arith in
    let z : 32 ≤ size_of g c = size_32 g c s m in
    record {
      low = omega arith;
      even = omega (arith, (start g.tiles 0 c (tiled-tiles g s) m).even);
      live = rw k (loose-live g c s lo);
      usable = rw k;
      holds = omega (arith, (need-bounds n).holds);
      inside = omega (arith, chunk-most g G c m, top-most g G);
      apart = λ d ne v.
          let lo' : Loose g d = live-loose g d v in
          let m' : 1 ≤ cnt d (starts g) = omega (arith, lo') in
          ⊎_elim
          (λ l. ⊎_elim (λ i. absurd (omega arith)) (λ i. ⊎_elim (λ e. absurd (ne (sym e ∙ sym k))) (λ e. inl (omega arith)) i)
          (clear_of g d c s m' (omega (arith, starts-all g c))))
          (λ l. ⊎_elim (λ e. absurd (ne (e ∙ sym k))) (λ e. inr (omega arith)) l)
          (clear_of g c d s m (omega (arith, starts-all g d)));
    }

-- a new one: it was not live before
new-block : (h g : Heap) (n c : ℕ) → Good g → Loose g c → need n ≤ size_of g c → (Loose h c → ⊥) → GrantedNew h g g.len n (c + 16) (usable (size_of g c))
new-block h g n c G lo b dead =
    let k : c + 16 - 16 ≡ c = omega arith in
    record { block = block_at g n c G lo b; fresh = rw k (not_live h c dead) }

-- ---- what the laws of the two jobs ask of one: it keeps a sound heap, its words and a last remainder that a record can hold; every loose chunk stays, and
-- no other comes
pub record Job (f : Heap → Ran (Unit {0})) : Type 0 where
  pub ends : (h : Heap) (w : List ℕ) → Fine h → Mem h w → Ends (f h) w Fine
  pub moved : (h : Heap) (w : List ℕ) → Good h → Mem h w → Moved h (f h) (any nil) nil

pub emptying-job : Job emptying
emptying-job = record { ends = emptying-fine; moved = λ h w g m. (emptying-leaves h w g m).moved }

pub joining-job : Job joining
joining-job = record { ends = joining-fine; moved = λ h w g m. (joining-leaves h w g m).moved }

module _ (a r : List ℕ) (L : Lent a r) where
  -- nothing was written
  pub same-keeps : (c : ℕ) (x : Answered) → live? (heap_in a r) c ≡ true → LiveKept a r c (after a r x)
  same-keeps c x v = record { live = v; size = refl; bytes = λ i l u. refl }

  heard : SoundIn a r → Sound (heap_in a r) (arena_words a) (words_of r)
  heard S = lent-sound a r L S

  grant-ends : (n : ℕ) → n ≤ 262144 → SoundIn a r → Ends (grant (need n) (heap_in a r)) (arena_words a) Fine
  grant-ends n l S =
      let b : NeedBounds n (need n) = need-bounds n in
      grant-fine (need n) b.whole b.least (b.most l) (heap_in a r) (arena_words a) (lent-fine a r L S) (heard S).mem

  gives : (n : ℕ) → SoundIn a r → Gives (need n) (heap_in a r) (grant (need n) (heap_in a r))
  gives n S = grant-gives (need n) (need-bounds n).whole (need-bounds n).least (heap_in a r) (arena_words a) (heard S).good (heard S).mem

  release-ends : (m : ℕ) → SoundIn a r → LiveMem a r m → Ends (release (m - 16) (heap_in a r)) (arena_words a) Fine
  release-ends m S v = release-fine (m - 16) (heap_in a r) (arena_words a) (lent-fine a r L S) (heard S).mem (live-loose (heap_in a r) (m - 16) v.1)

  job-ends : (f : Heap → Ran (Unit {0})) → Job f → SoundIn a r → Ends (f (heap_in a r)) (arena_words a) Fine
  job-ends f J S = J.ends (heap_in a r) (arena_words a) (lent-fine a r L S) (heard S).mem

  open-ends : (q d : ℕ) → q < 2 ^ 64 → edition? d ≡ true → Ends (does (opened (length a) q d) (size 0 (length a) 1 ∷ [])) (arena_words a) Fine
  open-ends q d b e =
      let o = opened-ends (length a) q d (arena_words a) b (edition-out d e) L.even L.least L.most (omega (arith, length-arena_words a, L.even)) in
      record { mem = o.1; now = record { good = o.0; low = omega arith } }

  -- ---- numbers 1 to 4 write nothing
  pub grant-refused-unchanged : (n : ℕ) (x : Refusal) → (x ≡ R.NoRoom → ⊥) → answered (grant_call a r n) ≡ Err x → grant_call a r n ≡ after a r (Err x)
  grant-refused-unchanged n x ne = grant-cases a r L (λ y. answered y ≡ Err x → y ≡ after a r (Err x)) n
      (λ l e. ap (after a r) e) (λ U e. ap (after a r) e) (λ l S q e. absurd (ne (cc)))
      (λ l S c q e. clash (cc))

  pub release-refused-unchanged : (m : ℕ) (x : Refusal) → answered (release_call a r m) ≡ Err x → release_call a r m ≡ after a r (Err x)
  release-refused-unchanged m x = release-cases a r L (λ y. answered y ≡ Err x → y ≡ after a r (Err x)) m
      (λ U e. ap (after a r) e) (λ S z e. ap (after a r) e) (λ S z d e. ap (after a r) e)
      (λ S v e. clash (cc))

  pub job-refused-unchanged : (f : Heap → Ran (Unit {0})) (x : Refusal) → answered (job_call f a r) ≡ Err x → job_call f a r ≡ after a r (Err x)
  job-refused-unchanged f x = job-cases a r L (λ y. answered y ≡ Err x → y ≡ after a r (Err x)) f
      (λ U e. ap (after a r) e) (λ S e. clash (cc))

  -- ---- number 4: a release is refused exactly if the mem is neither 0 nor a live block's
  pub release-4-exactly : (m : ℕ) → SoundIn a r → Exactly (answered (release_call a r m) ≡ Err R.NotLive) ((m ≡ 0 → ⊥) × (LiveMem a r m → ⊥))
  release-4-exactly m S = release-cases a r L (λ x. Exactly (answered x ≡ Err R.NotLive) ((m ≡ 0 → ⊥) × (LiveMem a r m → ⊥))) m
      (λ U. no-yes a r S U)
      (λ S z. (λ e. clash (cc), λ q. absurd (q.0 z)))
      (λ S z d. (λ e. (z, d), λ q. refl))
      (λ S v. (λ e. clash (cc), λ q. absurd (q.1 v)))

  -- ---- number 5: a grant is refused exactly where step 9 refuses
  pub grant-5-exactly : (n : ℕ) → SoundIn a r → n ≤ 262144
      → Exactly (answered (grant_call a r n) ≡ Err R.NoRoom) (answer_of (grant (need n) (heap_in a r)) ≡ None)
  grant-5-exactly n S l =
      grant-cases a r L (λ x. Exactly (answered x ≡ Err R.NoRoom) (answer_of (grant (need n) (heap_in a r)) ≡ None)) n
      (λ g. absurd (omega arith))
      (λ U. no-yes a r S U)
      (λ l S q. (λ e. q, λ e. refl))
      (λ l S c q. (λ e. clash (cc), λ e. clash (cc)))

  -- ---- the bytes left spell the heap that the steps left
  pub open-heap : (q d : ℕ) → q < 2 ^ 64 → edition? d ≡ true → heap_left (open_call a r q d) ≡ opened (length a) q d
  open-heap q d b e =
      ap heap_left (sym (open-called a r q d L e)) ∙ left-heap a r (does (opened (length a) q d) (size 0 (length a) 1 ∷ [])) (Ok Done) L (open-ends q d b e)

  pub grant-heap : (n : ℕ) → SoundIn a r → n ≤ 262144 → heap_left (grant_call a r n) ≡ heap_of (grant (need n) (heap_in a r))
  grant-heap n S l = grant-cases a r L (λ x. heap_left x ≡ heap_of (grant (need n) (heap_in a r))) n
      (λ g. absurd (omega arith)) (λ U. no-yes a r S U)
      (λ l S q. left-heap a r (grant (need n) (heap_in a r)) (Err R.NoRoom) L (grant-ends n l S))
      (λ l S c q.
      left-heap a r (grant (need n) (heap_in a r)) (Ok (Granted (c + 16) (usable (size_of (heap_of (grant (need n) (heap_in a r))) c)))) L (grant-ends n l S))

  pub release-heap : (m : ℕ) → SoundIn a r → LiveMem a r m → heap_left (release_call a r m) ≡ heap_of (release (m - 16) (heap_in a r))
  release-heap m S v = release-cases a r L (λ x. heap_left x ≡ heap_of (release (m - 16) (heap_in a r))) m
      (λ U. no-yes a r S U) (λ S z. absurd (omega (arith, v.0))) (λ S z d. absurd (d v))
      (λ S v. left-heap a r (release (m - 16) (heap_in a r)) (Ok Done) L (release-ends m S v))

  pub job-heap : (f : Heap → Ran (Unit {0})) → Job f → SoundIn a r → heap_left (job_call f a r) ≡ heap_of (f (heap_in a r))
  job-heap f J S = job-cases a r L (λ x. heap_left x ≡ heap_of (f (heap_in a r))) f
      (λ U. no-yes a r S U) (λ S. left-heap a r (f (heap_in a r)) (Ok Done) L (job-ends f J S))

  -- ---- an opened heap is sound, and what is sound stays sound and of good shape in every call, refused or not
  pub open-sound : (q d : ℕ) → q < 2 ^ 64 → edition? d ≡ true → StaysSound (open_call a r q d)
  open-sound q d b e =
      subst StaysSound (open-called a r q d L e) (left-stays a r (does (opened (length a) q d) (size 0 (length a) 1 ∷ [])) (Ok Done) L (open-ends q d b e))

  pub same-stays : (x : Answered) → SoundIn a r → StaysSound (after a r x)
  same-stays x S = record { lent = L; sound = S }

  pub grant-stays-sound : (n : ℕ) → SoundIn a r → StaysSound (grant_call a r n)
  grant-stays-sound n S = grant-cases a r L StaysSound n
      (λ g. same-stays (Err R.Request) S) (λ U. same-stays (Err R.Unsound) S)
      (λ l S q. left-stays a r (grant (need n) (heap_in a r)) (Err R.NoRoom) L (grant-ends n l S))
      (λ l S c q.
      left-stays a r (grant (need n) (heap_in a r)) (Ok (Granted (c + 16) (usable (size_of (heap_of (grant (need n) (heap_in a r))) c)))) L (grant-ends n l S))

  pub release-stays-sound : (m : ℕ) → SoundIn a r → StaysSound (release_call a r m)
  release-stays-sound m S = release-cases a r L StaysSound m
      (λ U. same-stays (Err R.Unsound) S) (λ S z. same-stays (Ok Done) S) (λ S z d. same-stays (Err R.NotLive) S)
      (λ S v. left-stays a r (release (m - 16) (heap_in a r)) (Ok Done) L (release-ends m S v))

  pub job-stays-sound : (f : Heap → Ran (Unit {0})) → Job f → SoundIn a r → StaysSound (job_call f a r)
  job-stays-sound f J S = job-cases a r L StaysSound f
      (λ U. same-stays (Err R.Unsound) S) (λ S. left-stays a r (f (heap_in a r)) (Ok Done) L (job-ends f J S))

  -- ---- number 5 leaves the cache lists and the last remainder as they were
  pub grant-5-keeps : (n : ℕ) → answered (grant_call a r n) ≡ Err R.NoRoom → CachesKept a r (grant_call a r n)
  grant-5-keeps n = grant-cases a r L (λ x. answered x ≡ Err R.NoRoom → CachesKept a r x) n
      (λ g e. clash (cc)) (λ U e. clash (cc))
      (λ l S q e.
      let H = left-heap a r (grant (need n) (heap_in a r)) (Err R.NoRoom) L (grant-ends n l S) in
      let T = grant-refused (need n) (need-bounds n).whole (need-bounds n).least (heap_in a r) (arena_words a) (heard S).good (heard S).mem q in
      record { lists = λ k i. ap (λ (g : Heap). stack g k) H ∙ T.lists k i; remainder = ap (λ (g : Heap). g.remainder) H ∙ T.remainder })
      (λ l S c q e. clash (cc))

  -- ---- no live block's usable bytes change in any call that leaves it live: in a grant, an emptying and a joining all live blocks are kept, in a release all but
  -- its own
  pub grant-live-bytes-kept : (n c : ℕ) → live? (heap_in a r) c ≡ true → LiveKept a r c (grant_call a r n)
  grant-live-bytes-kept n c v = grant-cases a r L (LiveKept a r c) n
      (λ g. same-keeps c (Err R.Request) v) (λ U. same-keeps c (Err R.Unsound) v)
      (λ l S q. left-keeps a r (grant (need n) (heap_in a r)) (Err R.NoRoom) L (grant-ends n l S) (λ x. Unit {0}) S (gives n S).tame c tt v)
      (λ l S d q.
      left-keeps a r (grant (need n) (heap_in a r)) (Ok (Granted (d + 16) (usable (size_of (heap_of (grant (need n) (heap_in a r))) d)))) L (grant-ends n l S) (λ x. Unit {0}) S
      (gives n S).tame c tt v)

  pub release-live-bytes-kept : (m c : ℕ) → (m ≡ c + 16 → ⊥) → live? (heap_in a r) c ≡ true → LiveKept a r c (release_call a r m)
  release-live-bytes-kept m c ne v = release-cases a r L (LiveKept a r c) m
      (λ U. same-keeps c (Err R.Unsound) v) (λ S z. same-keeps c (Ok Done) v) (λ S z d. same-keeps c (Err R.NotLive) v)
      (λ S w. left-keeps a r (release (m - 16) (heap_in a r)) (Ok Done) L (release-ends m S w) (But (m - 16)) S
      (release-goes (heap_in a r) (arena_words a) (m - 16) (heard S).good (heard S).mem (live-loose (heap_in a r) (m - 16) w.1)).tame c
      (λ e. ne (omega (arith, w.0))) v)

  pub job-live-bytes-kept : (f : Heap → Ran (Unit {0})) → Job f → (c : ℕ) → live? (heap_in a r) c ≡ true → LiveKept a r c (job_call f a r)
  job-live-bytes-kept f J c v = job-cases a r L (LiveKept a r c) f
      (λ U. same-keeps c (Err R.Unsound) v)
      (λ S. left-keeps a r (f (heap_in a r)) (Ok Done) L (job-ends f J S) (λ x. Unit {0}) S
      (moved-tame (λ x y. refl) (J.moved (heap_in a r) (arena_words a) (heard S).good (heard S).mem)) c tt v)

  -- ---- a released block is live no more
  pub released-gone : (m : ℕ) → SoundIn a r → LiveMem a r m → live? (heap_left (release_call a r m)) (m - 16) ≡ false
  released-gone m S v =
      let lo = live-loose (heap_in a r) (m - 16) v.1 in
      ap (λ (g : Heap). live? g (m - 16)) (release-heap m S v)
      ∙ not_live (heap_of (release (m - 16) (heap_in a r))) (m - 16) (release-goes (heap_in a r) (arena_words a) (m - 16) (heard S).good (heard S).mem lo).gone

  -- ---- a granted block is new: it was not live and is, n is at most its usable bytes, and these lie in the arena and overlap no other live block's
  pub granted-new : (n mem u : ℕ) → answered (grant_call a r n) ≡ Ok (Granted mem u) → GrantedNew (heap_in a r) (heap_left (grant_call a r n)) (length a) n mem u
  granted-new n mem u = grant-cases a r L (λ x. answered x ≡ Ok (Granted mem u) → GrantedNew (heap_in a r) (heap_left x) (length a) n mem u) n
      (λ g e. clash (cc)) (λ U e. clash (cc))
      (λ l S q e. clash (cc))
      (λ l S c q e.
      let s : Ran (Option ℕ) = grant (need n) (heap_in a r) in
      let z : ℕ = usable (size_of (heap_of s) c) in
      let E = grant-ends n l S in
      let k = (gives n S).given c q in
      let p : c + 16 ≡ mem = cc in
      let v : z ≡ u = cc in
      let len : (heap_of s).len ≡ length a = omega (arith, E.mem.long, apply-length (writes s) (arena_words a), length-arena_words a, L.even) in
      subst (λ (g : Heap). GrantedNew (heap_in a r) g (length a) n mem u) (sym (left-heap a r s (Ok (Granted (c + 16) z)) L E))
      (subst (λ (j : ℕ). GrantedNew (heap_in a r) (heap_of s) j n mem u) len
      (subst (λ (j : ℕ). GrantedNew (heap_in a r) (heap_of s) (heap_of s).len n j u) p
      (subst (λ (j : ℕ). GrantedNew (heap_in a r) (heap_of s) (heap_of s).len n (c + 16) j) v
      (new-block (heap_in a r) (heap_of s) n c E.now.good k.0 k.1 k.2)))))

  -- ---- an emptying leaves every cache list empty; a joining every fast list, and no last remainder, and the cache lists as they were
  pub emptying-leaves-cache-empty : SoundIn a r → (k : ℕ) → k < 64 → cache (heap_left (emptying_call a r)) k ≡ []
  emptying-leaves-cache-empty S k l =
      ap (λ (g : Heap). cache g k) (job-heap emptying emptying-job S) ∙ (emptying-empties (heap_in a r) (arena_words a) (heard S).good (heard S).mem).empty k l

  merges : SoundIn a r → Merged (heap_in a r) (heap_left (joining_call a r))
  merges S = subst (Merged (heap_in a r)) (sym (job-heap joining joining-job S)) (joining-merges (heap_in a r) (arena_words a) (heard S).good (heard S).mem)

  pub joining-leaves-fast-empty : SoundIn a r → NoFast (heap_left (joining_call a r)) × ((heap_left (joining_call a r)).remainder ≡ none32)
  joining-leaves-fast-empty S = ((merges S).empty, (merges S).none)

  pub joining-leaves-cache : SoundIn a r → (k : ℕ) → k < 64 → cache (heap_left (joining_call a r)) k ≡ cache (heap_in a r) k
  joining-leaves-cache S = (merges S).cached

  -- ---- of a sound heap neither job is refused
  pub job-sound-done : (f : Heap → Ran (Unit {0})) → SoundIn a r → answered (job_call f a r) ≡ Ok Done
  job-sound-done f S = job-cases a r L (λ x. answered x ≡ Ok Done) f (λ U. no-yes a r S U) (λ S. refl)

-- ---- after a good emptying the joining is not refused
pub emptied-joins : (a r : List ℕ) → Lent a r → answered (emptying_call a r) ≡ Ok Done → answered (joined_after (emptying_call a r)) ≡ Ok Done
emptied-joins a r L = job-cases a r L (λ x. answered x ≡ Ok Done → answered (joined_after x) ≡ Ok Done) emptying
    (λ U e. clash (cc))
    (λ S e.
    let k = left-stays a r (emptying (heap_in a r)) (Ok Done) L (job-ends a r L emptying emptying-job S) in
    job-sound-done _ _ k.lent joining k.sound)
