-- Document 02, (ii), computed. Two pairs of runs on different lengths meet the premises, so they agree by the theorem; and what differs where one is not met:
-- a grant that finds the smaller arena's top short, a release that yields 65,536 in the larger alone. Assumes nothing.
use Rattle.std.specs.Prelude.{◌≡◌, refl, List, [], ◌∷◌, ◌++◌, Bool, true, false, not, ℕ, zero, suc, ◌+◌, ◌-◌, ◌%◌, ◌≤◌, ◌<◌, ltb, leb, length, get_or, replicate, Ok, Err}
use Rattle.std.proofs.Common.{sym, ap, ◌∙◌, arith, le-leb, ltb-true}
use Rattle.std.proofs.lemmas.List.{length-replicate}
use Rattle.sizes.specs.Limits.{most_request, cache_lists, consolidate_from}
use Rattle.sizes.specs.Sizes.{need}
use Rattle.machine.specs.Lists.{both, cnt}
use Rattle.machine.specs.Heap.{Heap, stack, fast, bin, live?, record_of}
use Rattle.machine.specs.Writes.{heap_of}
use Rattle.machine.specs.Primitives.{take_cache}
use Rattle.machine.specs.Release.{drain, release_past, release, emptying}
use Rattle.machine.specs.Grant.{grant}
use Rattle.machine.specs.declared.Answer.TheVariants.{Done, Granted}
use Rattle.machine.specs.declared.Refusal.TheVariants as N
use Rattle.machine.proofs.Script as X
use Rattle.calls_consequences.specs.Results.{Lent}
use Rattle.history.specs.Histories.{Event, Grant, Release, Resize, Emptying, Joining, Store, State, heap_at, arena_in, next, run, answers, Choice, begin}
use Rattle.history.proofs.Alike.{said, Always}
use Rattle.history.specs.Like.{given, with_given, answer, up_to9, short?, FewIn, FewFrom, Few}
use Rattle.history.specs.Agrees.{written, but_given, Agrees}
use Rattle.history.specs.Bigger.{Premise}
use Rattle.history.proofs.BiggerHolds.{bigger-agrees}
use Rattle.le.specs.Number as L
use Rattle.le.specs.Arena as B
use Rattle.sizes.specs.Sizes as S
use Rattle.machine.specs.Heap as H
use Rattle.machine.specs.View as W
use Rattle.machine.specs.Audit as U
use Rattle.machine.specs.Release as E
use Rattle.machine.specs.Grant as G
use Rattle.machine.specs.Calls as C

-- ---- the premises as a test, so that one computation shows that two runs meet them
implies : Bool → Bool → Bool
implies true b = b
implies false b = true

implied : (t b : Bool) → implies t b ≡ true → t ≡ true → b ≡ true
unfolding implies
implied true b e p = e
implied false b e p = absurd (let z : ◌≡◌ {A = ℕ} 0 1 = cc in omega arith)

both-parts : (t b : Bool) → both t b ≡ true → (t ≡ true) × (b ≡ true)
both-parts true b e = (refl, e)
both-parts false b e = absurd (let z : ◌≡◌ {A = ℕ} 0 1 = cc in omega arith)

not-true : (t : Bool) → not t ≡ true → t ≡ false
not-true true e = sym e
not-true false e = refl

few_in? : ℕ → List ℕ → Heap → Bool
few_in? k [] h = true
few_in? k (c ∷ l) h = both (ltb (answer (release_past c (heap_of (take_cache k h)))) consolidate_from) (few_in? k l (heap_of (release_past c (heap_of (take_cache k h)))))

few_from? : ℕ → ℕ → Heap → Bool
few_from? zero k h = true
few_from? (suc m) k h = both (few_in? k (stack h k) h) (few_from? m (suc k) (heap_of (drain take_cache release_past k (stack h k) h)))

premise? : Event → Heap → Heap → Bool
premise? (Grant n) h g = implies (leb n most_request) (not (short? (need n) (up_to9 (need n) h)))
premise? (Release m) h g =
    implies (both (leb 16 m) (live? h (m - 16))) (both (ltb (answer (release (m - 16) h)) consolidate_from) (ltb (answer (release (m - 16) g)) consolidate_from))
premise? (Resize m n) h g = false
premise? Emptying h g = both (few_from? cache_lists 0 h) (few_from? cache_lists 0 g)
premise? Joining h g = true
premise? (Store p v) h g = true

always? : List Event → State → State → Bool
unfolding implies few_in? few_from? premise?
always? [] s t = true
always? (e ∷ es) s t = both (premise? e (heap_at s) (heap_at t)) (always? es (next e s) (next e t))

few_in : (k : ℕ) (l : List ℕ) (h : Heap) → few_in? k l h ≡ true → FewIn k l h
unfolding few_in?
few_in k [] h e = tt
few_in k (c ∷ l) h e = let p = both-parts _ _ e in (ltb-true _ _ p.0, few_in k l (heap_of (release_past c (heap_of (take_cache k h)))) p.1)

few_from : (m k : ℕ) (h : Heap) → few_from? m k h ≡ true → FewFrom m k h
unfolding few_from?
few_from zero k h e = tt
few_from (suc m) k h e = let p = both-parts _ _ e in (few_in k (stack h k) h p.0, few_from m (suc k) (heap_of (drain take_cache release_past k (stack h k) h)) p.1)

premise : (e : Event) (h g : Heap) → premise? e h g ≡ true → Premise e h g
unfolding premise?
premise (Grant n) h g e = λ l. not-true _ (implied _ _ e (le-leb n most_request l))
premise (Release m) h g e = λ v. let p = both-parts _ _ (implied _ _ e v) in (ltb-true _ _ p.0, ltb-true _ _ p.1)
premise (Resize m n) h g e = absurd (let z : ◌≡◌ {A = ℕ} 0 1 = cc in omega arith)
premise Emptying h g e = let p = both-parts _ _ e in (few_from cache_lists 0 h p.0, few_from cache_lists 0 g p.1)
premise Joining h g e = tt
premise (Store p v) h g e = tt

always : (es : List Event) (s t : State) → always? es s t ≡ true → Always Premise es s t
unfolding always?
always [] s t e = tt
always (e ∷ es) s t a = let p = both-parts _ _ a in (premise e (heap_at s) (heap_at t) p.0, always es (next e s) (next e t) p.1)

-- ---- an arena of n bytes x and a record of bytes x: they are lent
all-below : (x : ℕ) → x < 256 → (n i : ℕ) → get_or (replicate n x) i 0 < 256
all-below x l zero i = omega arith
all-below x l (suc n) zero = l
all-below x l (suc n) (suc i) = all-below x l n i

pub lent : (n x : ℕ) → n % 16 ≡ 0 → 32 ≤ n → n ≤ 262144 → x < 256 → Lent (replicate n x) (replicate 1584 x)
lent n x e l m b =
    let k : length (replicate n x) ≡ n = length-replicate n x in
    record { even = rw k e; least = omega arith; most = omega arith; long = refl; bytes = all-below x b n; words = all-below x b 1584 }

-- the key x, in edition 1 if x is even, else in edition 2
abbrev pub choice_of : ℕ → Choice
choice_of x = record { key = x; edition = 1 + x % 2 }

-- newly opened with this choice; every step of a run from there unfolds with it
unfoldable pub over : ℕ → ℕ → State
unfolding up_to9 next begin L.number_from L.number L.words L.digits L.bytes B.arena_words S.need S.usable S.cache_of S.fast_of S.large_bin S.bin_of H.record_of W.list_at W.tiles_of W.stacks_of W.bins_of U.tile_fault U.good_from U.list_fault U.flag_fault U.audit_by C.open_call C.grant_call C.release_call C.job_call C.closed_record E.absorb E.join_next E.put_down E.join E.release_past E.release E.drain E.drains E.consolidate E.emptying E.joining G.step1 G.move_fast G.step2 G.take_last G.move_lasts G.step3 G.step4 G.split G.sort_in G.split_lone G.keep G.turn_at G.turn G.swept G.sweep G.step5 G.carve G.step8 G.step6 G.step7 G.step9 G.pass G.again G.from4 G.seek G.grant
over n x = begin (replicate n x) (replicate 1584 x) (choice_of x)

-- ---- 256 bytes of 0 and 384 of 1. A double release is refused; in the emptying a block is joined to the top, which yields 176 bytes in the one and 304 in the
-- other, and the joining joins the one released before it
pub sample : List Event
sample = Grant 24 ∷ Grant 25 ∷ Store 20 7 ∷ Grant 121 ∷ Release 48 ∷ Release 48 ∷ Release 96 ∷ Emptying ∷ Joining ∷ Grant 100 ∷ []

pub sample-meets : Always Premise sample (over 256 0) (over 384 1)
unfolding sample over always?
sample-meets = always sample (over 256 0) (over 384 1) refl

pub sample-agrees : Agrees but_given sample (over 256 0) (over 384 1)
unfolding over
sample-agrees =
    bigger-agrees (replicate 256 0) (replicate 1584 0) (replicate 384 1) (replicate 1584 1) (choice_of 0) (choice_of 1) (lent 256 0 refl (omega arith) (omega arith) (omega arith))
    (lent 384 1 refl (omega arith) (omega arith) (omega arith))
    (record { key = omega arith; edition = refl }) (record { key = omega arith; edition = refl }) (omega arith) sample sample-meets

pub sample-smaller :
    answers sample (over 256 0) ≡ Ok (Granted 16 24) ∷ Ok (Granted 48 40) ∷ Ok (Granted 96 136) ∷ Ok Done ∷ Err N.NotLive ∷ Ok Done ∷ Ok Done ∷ Ok Done ∷ Ok (Granted 48 104) ∷ []
unfolding sample over answers
sample-smaller = refl

-- the larger arena's answers are not computed: they are the smaller's, by the theorem
pub sample-larger :
    answers sample (over 384 1) ≡ Ok (Granted 16 24) ∷ Ok (Granted 48 40) ∷ Ok (Granted 96 136) ∷ Ok Done ∷ Err N.NotLive ∷ Ok Done ∷ Ok Done ∷ Ok Done ∷ Ok (Granted 48 104) ∷ []
sample-larger = sym sample-agrees.told ∙ sample-smaller

-- ---- 128 bytes of 255 and 272 of 0. Each grant of 56 finds exactly 64+32 bytes in the smaller arena's top; a request above 262,144 is refused
pub exact : List Event
exact = Grant 24 ∷ Grant 56 ∷ Grant 262145 ∷ Release 0 ∷ Store 20 7 ∷ Store 48 300 ∷ Release 48 ∷ Emptying ∷ Joining ∷ Grant 56 ∷ []

pub exact-meets : Always Premise exact (over 128 255) (over 272 0)
unfolding exact over always?
exact-meets = always exact (over 128 255) (over 272 0) refl

pub exact-agrees : Agrees but_given exact (over 128 255) (over 272 0)
unfolding over
exact-agrees =
    bigger-agrees (replicate 128 255) (replicate 1584 255) (replicate 272 0) (replicate 1584 0) (choice_of 255) (choice_of 0) (lent 128 255 refl (omega arith) (omega arith) (omega arith))
    (lent 272 0 refl (omega arith) (omega arith) (omega arith))
    (record { key = omega arith; edition = refl }) (record { key = omega arith; edition = refl }) (omega arith) exact exact-meets

pub exact-smaller : answers exact (over 128 255) ≡ Ok (Granted 16 24) ∷ Ok (Granted 48 56) ∷ Err N.Request ∷ Ok Done ∷ Ok Done ∷ Ok Done ∷ Ok Done ∷ Ok (Granted 48 56) ∷ []
unfolding exact over answers
exact-smaller = refl

pub exact-larger : answers exact (over 272 0) ≡ Ok (Granted 16 24) ∷ Ok (Granted 48 56) ∷ Err N.Request ∷ Ok Done ∷ Ok Done ∷ Ok Done ∷ Ok Done ∷ Ok (Granted 48 56) ∷ []
exact-larger = sym exact-agrees.told ∙ exact-smaller

-- the byte stored at 20 is the same in both. That at 48 does not count: its block was released, and another granted there
pub exact-written : written exact (over 128 255) [] ≡ 20 ∷ []
unfolding exact over written
exact-written = refl

pub exact-stored : get_or (arena_in (run exact (over 128 255))) 20 0 ≡ 7
unfolding exact over run
exact-stored = refl

pub exact-byte : get_or (arena_in (run exact (over 272 0))) 20 0 ≡ 7
exact-byte = sym (exact-agrees.bytes 20 (omega (arith, ap (cnt 20) exact-written))) ∙ exact-stored

-- a byte that no holder has written differs, in a block that is held: it is the arena's from before
pub unwritten : (get_or (arena_in (run (Grant 24 ∷ []) (over 128 255))) 20 0 ≡ 255) × (get_or (arena_in (run (Grant 24 ∷ []) (over 272 0))) 20 0 ≡ 0)
unfolding over run
unwritten = (refl, refl)

-- ---- a grant that finds the smaller arena's top short does not meet the premise
excluded : (n : ℕ) → n ≤ 262144 → (h g : Heap) → short? (need n) (up_to9 (need n) h) ≡ true → Premise (Grant n) h g → ⊥
excluded n l h g e p = let q : short? (need n) (up_to9 (need n) h) ≡ false = p l in let z : ◌≡◌ {A = ℕ} 0 1 = cc in omega arith

-- the first such: 208+32 bytes are asked of a top of 176, and no fast list has a chunk. Refused there, granted in the larger arena
pub early : List Event
early = Grant 24 ∷ Grant 25 ∷ []

pub early-meets : Always Premise early (over 256 0) (over 384 1)
unfolding early over always?
early-meets = always early (over 256 0) (over 384 1) refl

pub short-excluded : Premise (Grant 200) (heap_at (run early (over 256 0))) (heap_at (run early (over 384 1))) → ⊥
unfolding early over run
short-excluded = excluded 200 (omega arith) (heap_at (run early (over 256 0))) (heap_at (run early (over 384 1))) refl

pub short-smaller : answers (early ++ Grant 200 ∷ []) (over 256 0) ≡ Ok (Granted 16 24) ∷ Ok (Granted 48 40) ∷ Err N.NoRoom ∷ []
unfolding early over answers
short-smaller = refl

pub short-larger : answers (early ++ Grant 200 ∷ []) (over 384 1) ≡ Ok (Granted 16 24) ∷ Ok (Granted 48 40) ∷ Ok (Granted 96 200) ∷ []
unfolding early over answers
short-larger = refl

-- also where consolidating then helps it: the smaller arena's top takes in the fast chunk at 0, and the block is cut off there. Granted in both, at two mems
pub one-fast : List Event
one-fast = Grant 24 ∷ Release 16 ∷ Emptying ∷ []

pub one-fast-meets : Always Premise one-fast (over 128 0) (over 160 0)
unfolding one-fast over always?
one-fast-meets = always one-fast (over 128 0) (over 160 0) refl

pub helped-excluded : Premise (Grant 80) (heap_at (run one-fast (over 128 0))) (heap_at (run one-fast (over 160 0))) → ⊥
unfolding one-fast over run
helped-excluded = excluded 80 (omega arith) (heap_at (run one-fast (over 128 0))) (heap_at (run one-fast (over 160 0))) refl

pub helped-smaller : answers (one-fast ++ Grant 80 ∷ []) (over 128 0) ≡ Ok (Granted 16 24) ∷ Ok Done ∷ Ok Done ∷ Ok (Granted 16 88) ∷ []
unfolding one-fast over answers
helped-smaller = refl

pub helped-larger : answers (one-fast ++ Grant 80 ∷ []) (over 160 0) ≡ Ok (Granted 16 24) ∷ Ok Done ∷ Ok Done ∷ Ok (Granted 48 88) ∷ []
unfolding one-fast over answers
helped-larger = refl

-- ---- a release that yields 65,536 in the larger arena alone. On the heap, as bytes of this length would be slow: two fast chunks at 0 and 32, a live one, and one of
-- 1,120 at 96, whose release joins it to the top
pub two-fast : ℕ → Heap
two-fast n = X.heap_after (X.script n (X.G 24 ∷ X.G 24 ∷ X.G 24 ∷ X.G 1112 ∷ X.R 16 ∷ X.R 48 ∷ X.E ∷ []))

pub two-fast-alike : two-fast 65632 ≡ with_given (λ o. given (two-fast 65632)) (two-fast 65616)
unfolding two-fast X.script
two-fast-alike = refl

pub release-yields : (answer (release 96 (two-fast 65616)) ≡ 65520) × (answer (release 96 (two-fast 65632)) ≡ 65536)
unfolding two-fast X.script
release-yields = (refl, refl)

pub release-excluded : Premise (Release 112) (two-fast 65616) (two-fast 65632) → ⊥
unfolding two-fast X.script
release-excluded p = omega (arith, (p refl).1, release-yields.1)

-- after it the fast lists differ, and so the records: in the larger arena the two are joined to one chunk, in unsorted, and the next grant takes that
pub fast-smaller : (fast (heap_of (release 96 (two-fast 65616))) 0 ≡ 0 ∷ 32 ∷ []) × (bin (heap_of (release 96 (two-fast 65616))) 1 ≡ [])
unfolding two-fast X.script
fast-smaller = (refl, refl)

pub fast-larger : (fast (heap_of (release 96 (two-fast 65632))) 0 ≡ []) × (bin (heap_of (release 96 (two-fast 65632))) 1 ≡ 0 ∷ [])
unfolding two-fast X.script
fast-larger = (refl, refl)

-- (byte 520 behind the length: fast list 0)
pub records-differ :
    but_given (L.bytes 4 (record_of (heap_of (release 96 (two-fast 65616))))) ≡ but_given (L.bytes 4 (record_of (heap_of (release 96 (two-fast 65632))))) → ⊥
unfolding two-fast X.script L.bytes L.digits
records-differ e = let z : ◌≡◌ {A = ℕ} 0 255 = ap (λ (l : List ℕ). get_or l 520 0) e in omega arith

pub next-granted :
    (said (grant (need 40) (heap_of (release 96 (two-fast 65616)))) ≡ Ok (Granted 112 40))
    × (said (grant (need 40) (heap_of (release 96 (two-fast 65632)))) ≡ Ok (Granted 16 56))
unfolding two-fast X.script
next-granted = (refl, refl)

-- the same inside an emptying: two chunks go on fast list 0, then that of cache list 11, of 208 bytes at 96, is joined to the top
pub three-cached : ℕ → Heap
three-cached n = X.heap_after (X.script n (X.G 24 ∷ X.G 24 ∷ X.G 24 ∷ X.G 200 ∷ X.R 16 ∷ X.R 48 ∷ X.R 112 ∷ []))

pub emptying-few : Few (three-cached 65616)
unfolding three-cached X.script few_in? few_from?
emptying-few = few_from cache_lists 0 (three-cached 65616) refl

pub emptying-excluded : Premise Emptying (three-cached 65616) (three-cached 65632) → ⊥
unfolding three-cached X.script
emptying-excluded p = omega (arith, p.1.1.1.1.1.1.1.1.1.1.1.1.0.0)

pub emptied-smaller : fast (heap_of (emptying (three-cached 65616))) 0 ≡ 0 ∷ 32 ∷ []
unfolding three-cached X.script
emptied-smaller = refl

pub emptied-larger : fast (heap_of (emptying (three-cached 65632))) 0 ≡ []
unfolding three-cached X.script
emptied-larger = refl
