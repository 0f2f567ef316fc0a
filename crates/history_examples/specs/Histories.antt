-- Document 01's sample run, computed: its calls on 256 bytes answer as the document prints them; and one with resizes. So runs exist, and these definitions
-- run them. Assumes nothing.
use Rattle.std.specs.Prelude.{◌≡◌, refl, List, [], ◌∷◌, ℕ, zero, suc, ◌≤◌, ◌<◌, length, get_or, replicate, Ok, Err}
use Rattle.std.proofs.Common.{sym, ap, subst, inl, inr, ⊎_elim, arith}
use Rattle.machine.specs.declared.Answer.TheVariants.{Done, Granted}
use Rattle.history.specs.Histories.{Grant, Release, Resize, Emptying, Joining, Block, State, state, next, run, answers, Choice, begin}
use Rattle.calls_consequences.specs.Results.{Lent}
use Rattle.history.specs.Demand3.{Held, here, there, Stretch, Mended, MendedAt}
use Rattle.le.specs.Number as L
use Rattle.le.specs.Arena as B
use Rattle.sizes.specs.Sizes as S
use Rattle.machine.specs.Heap.{binned}
use Rattle.machine.specs.Heap as H
use Rattle.machine.specs.View as W
use Rattle.machine.specs.Audit as U
use Rattle.machine.specs.Release as E
use Rattle.machine.specs.Grant as G
use Rattle.machine.specs.Resize as Z
use Rattle.machine.specs.Calls as C
use Rattle.machine.specs.declared.Refusal.TheVariants as N

-- key 0, in edition 1
abbrev pub plainly : Choice
plainly = record { key = 0; edition = 1 }

-- bytes that are lent: 256 and 1,584 zeros
zeros : (n i : ℕ) → get_or (replicate n 0) i 0 < 256
zeros zero i = omega arith
zeros (suc n) zero = omega arith
zeros (suc n) (suc i) = zeros n i

pub sample-lent : Lent (replicate 256 0) (replicate 1584 0)
sample-lent = record { even = refl; least = omega arith; most = omega arith; long = refl; bytes = zeros 256; words = zeros 1584 }

pub sample-run :
    answers
    (Grant 24 ∷ Grant 25 ∷ Release 16 ∷ Release 16 ∷ Grant 0 ∷ Grant 200 ∷ Release 48 ∷ Release 16 ∷ Emptying ∷ Joining ∷ Grant 200 ∷ [])
    (begin (replicate 256 0) (replicate 1584 0) plainly)
    ≡ Ok (Granted 16 24) ∷ Ok (Granted 48 40) ∷ Ok Done ∷ Err N.NotLive ∷ Ok (Granted 16 24) ∷ Err N.NoRoom ∷ Ok Done ∷ Ok Done ∷ Ok Done ∷ Ok Done ∷ Ok (Granted 16 200) ∷ []
unfolding next answers begin L.number_from L.number L.words L.digits L.bytes B.arena_words S.need S.usable S.cache_of S.fast_of S.large_bin S.bin_of H.record_of W.list_at W.tiles_of W.stacks_of W.bins_of U.tile_fault U.good_from U.list_fault U.flag_fault U.audit_by C.open_call C.grant_call C.release_call C.job_call C.closed_record E.absorb E.join_next E.put_down E.join E.release_past E.release E.drain E.drains E.consolidate E.emptying E.joining G.step1 G.move_fast G.step2 G.take_last G.move_lasts G.step3 G.step4 G.split G.sort_in G.split_lone G.keep G.turn_at G.turn G.swept G.sweep G.step5 G.carve G.step8 G.step6 G.step7 G.step9 G.pass G.again G.from4 G.seek G.grant
sample-run = refl

-- resizes of null, moved, in place from the top, of a block that is no more, for too much, without room, in place with a rest, to length 0: the block that
-- moved is granted at its new mem, and what is emptied is a new heap
pub sample-resizes :
    answers
    (Resize 0 24 ∷ Grant 24 ∷ Resize 16 40 ∷ Resize 80 100 ∷ Resize 16 24 ∷ Resize 80 262145 ∷ Resize 80 200 ∷ Resize 80 24 ∷ Resize 48 0 ∷ Release 80 ∷ Emptying ∷ Joining ∷ Grant 200 ∷ [])
    (begin (replicate 256 0) (replicate 1584 0) plainly)
    ≡ Ok (Granted 16 24) ∷ Ok (Granted 48 24) ∷ Ok (Granted 80 40) ∷ Ok (Granted 80 104) ∷ Err N.NotLive ∷ Err N.Request ∷ Err N.NoRoom ∷ Ok (Granted 80 24) ∷ Ok Done ∷ Ok Done ∷ Ok Done ∷ Ok Done ∷ Ok (Granted 16 200) ∷ []
unfolding next answers begin L.number_from L.number L.words L.digits L.bytes B.arena_words S.need S.usable S.cache_of S.fast_of S.large_bin S.bin_of H.record_of W.list_at W.tiles_of W.stacks_of W.bins_of U.tile_fault U.good_from U.list_fault U.flag_fault U.audit_by C.open_call C.grant_call C.release_call C.resize_call C.job_call C.closed_record E.absorb E.join_next E.put_down E.join E.release_past E.release E.drain E.drains E.consolidate E.emptying E.joining G.step1 G.move_fast G.step2 G.take_last G.move_lasts G.step3 G.step4 G.split G.sort_in G.split_lone G.keep G.turn_at G.turn G.swept G.sweep G.step5 G.carve G.step8 G.step6 G.step7 G.step9 G.pass G.again G.from4 G.seek G.grant Z.next_p Z.finish Z.resize
sample-resizes = refl

-- the block sought is found right behind the old one, and joined to it. The search bins the chunk before, which clears the old block's P: it keeps P as that
-- then stands, and so the heap is sound still
pub sample-joined :
    answers
    (Grant 0 ∷ Grant 0 ∷ Grant 0 ∷ Grant 0 ∷ Grant 0 ∷ Grant 0 ∷ Grant 0 ∷ Grant 0 ∷ Grant 40 ∷ Grant 0 ∷ Release 16 ∷ Release 48 ∷ Release 80 ∷ Release 112 ∷ Release 144 ∷ Release 176 ∷ Release 208 ∷ Release 240 ∷ Release 320 ∷ Resize 272 80 ∷ Emptying ∷ Joining ∷ [])
    (begin (replicate 432 0) (replicate 1584 0) plainly)
    ≡ Ok (Granted 16 24) ∷ Ok (Granted 48 24) ∷ Ok (Granted 80 24) ∷ Ok (Granted 112 24) ∷ Ok (Granted 144 24) ∷ Ok (Granted 176 24) ∷ Ok (Granted 208 24) ∷ Ok (Granted 240 24) ∷ Ok (Granted 272 40) ∷ Ok (Granted 320 24) ∷ Ok Done ∷ Ok Done ∷ Ok Done ∷ Ok Done ∷ Ok Done ∷ Ok Done ∷ Ok Done ∷ Ok Done ∷ Ok Done ∷ Ok (Granted 272 88) ∷ Ok Done ∷ Ok Done ∷ []
unfolding next answers begin L.number_from L.number L.words L.digits L.bytes B.arena_words S.need S.usable S.cache_of S.fast_of S.large_bin S.bin_of H.record_of W.list_at W.tiles_of W.stacks_of W.bins_of U.tile_fault U.good_from U.list_fault U.flag_fault U.audit_by C.open_call C.grant_call C.release_call C.resize_call C.job_call C.closed_record E.absorb E.join_next E.put_down E.join E.release_past E.release E.drain E.drains E.consolidate E.emptying E.joining G.step1 G.move_fast G.step2 G.take_last G.move_lasts G.step3 G.step4 G.split G.sort_in G.split_lone G.keep G.turn_at G.turn G.swept G.sweep G.step5 G.carve G.step8 G.step6 G.step7 G.step9 G.pass G.again G.from4 G.seek G.grant Z.next_p Z.finish Z.resize
sample-joined = refl

-- 32 bytes lie before the one block that is held, and neither a binned chunk nor the top begins there: the heap is cut up
second : List Block
second = record { mem = 48; usable = 24 } ∷ []

gap : Stretch second 128 0 32
unfolding second
gap = record {
  some = omega arith;
  inside = omega arith;
  clear = λ y l u H. omega (arith, only y H);
  starts = inl refl;
  ends = inr (here {b = record { mem = 48; usable = 24 }} {x = 32} (omega arith, omega arith));
}
  where
    only : (y : ℕ) → Held second y → 32 ≤ y
    only y (here i) = omega (arith, i.0)
    only y (there i) = elim i [ ]

-- the arena's length, how often the chunk at 0 is binned, the top, the blocks held
abbrev Seen : Type 0
Seen = ℕ × ℕ × ℕ × List Block

seen : State → Seen
seen (state a r bs) = (length a, binned (C.heap_in a r) 0, L.number 4 r 4, bs)

cut : (s : State) → seen s ≡ (128, 0, 64, second) → MendedAt s → ⊥
unfolding seen
cut (state a r bs) e M =
    let n : length a ≡ 128 = ap (λ (x : Seen). x.0) e in
    let b : binned (C.heap_in a r) 0 ≡ 0 = ap (λ (x : Seen). x.1) e in
    let t : L.number 4 r 4 ≡ 64 = ap (λ (x : Seen). x.2) e in
    let M' : Mended a r second = subst (Mended a r) (ap (λ (x : Seen). x.3) e) M in
    ⊎_elim (λ z. omega (arith, z.0, b)) (λ z. omega (arith, z.0, t)) (M'.each 0 32 (subst (λ (k : ℕ). Stretch second k 0 32) (sym n) gap)).kind

-- what the theorem says is false of a run without an emptying and a joining: a cached chunk is no free chunk
pub sample-cut : MendedAt (run (Grant 24 ∷ Grant 24 ∷ Release 16 ∷ []) (begin (replicate 128 0) (replicate 1584 0) plainly)) → ⊥
unfolding run next begin L.number_from L.number L.words L.digits L.bytes B.arena_words S.need S.usable S.cache_of S.fast_of S.large_bin S.bin_of H.record_of W.list_at W.tiles_of W.stacks_of W.bins_of U.tile_fault U.good_from U.list_fault U.flag_fault U.audit_by C.open_call C.grant_call C.release_call C.job_call C.closed_record E.absorb E.join_next E.put_down E.join E.release_past E.release E.drain E.drains E.consolidate E.emptying E.joining G.step1 G.move_fast G.step2 G.take_last G.move_lasts G.step3 G.step4 G.split G.sort_in G.split_lone G.keep G.turn_at G.turn G.swept G.sweep G.step5 G.carve G.step8 G.step6 G.step7 G.step9 G.pass G.again G.from4 G.seek G.grant second seen
sample-cut = cut (run (Grant 24 ∷ Grant 24 ∷ Release 16 ∷ []) (begin (replicate 128 0) (replicate 1584 0) plainly)) refl

-- so it is with a grant and its release between the two: the released chunk is cached, and a joining leaves it
pub sample-grant-between : MendedAt (run (Grant 24 ∷ Grant 24 ∷ Release 16 ∷ Emptying ∷ Grant 24 ∷ Release 16 ∷ Joining ∷ []) (begin (replicate 128 0) (replicate 1584 0) plainly)) → ⊥
unfolding run next begin L.number_from L.number L.words L.digits L.bytes B.arena_words S.need S.usable S.cache_of S.fast_of S.large_bin S.bin_of H.record_of W.list_at W.tiles_of W.stacks_of W.bins_of U.tile_fault U.good_from U.list_fault U.flag_fault U.audit_by C.open_call C.grant_call C.release_call C.job_call C.closed_record E.absorb E.join_next E.put_down E.join E.release_past E.release E.drain E.drains E.consolidate E.emptying E.joining G.step1 G.move_fast G.step2 G.take_last G.move_lasts G.step3 G.step4 G.split G.sort_in G.split_lone G.keep G.turn_at G.turn G.swept G.sweep G.step5 G.carve G.step8 G.step6 G.step7 G.step9 G.pass G.again G.from4 G.seek G.grant second seen
sample-grant-between =
    cut (run (Grant 24 ∷ Grant 24 ∷ Release 16 ∷ Emptying ∷ Grant 24 ∷ Release 16 ∷ Joining ∷ []) (begin (replicate 128 0) (replicate 1584 0) plainly)) refl

-- and with the joining first: the emptying leaves the chunk on a fast list
pub sample-joined-first : MendedAt (run (Grant 24 ∷ Grant 24 ∷ Release 16 ∷ Joining ∷ Emptying ∷ []) (begin (replicate 128 0) (replicate 1584 0) plainly)) → ⊥
unfolding run next begin L.number_from L.number L.words L.digits L.bytes B.arena_words S.need S.usable S.cache_of S.fast_of S.large_bin S.bin_of H.record_of W.list_at W.tiles_of W.stacks_of W.bins_of U.tile_fault U.good_from U.list_fault U.flag_fault U.audit_by C.open_call C.grant_call C.release_call C.job_call C.closed_record E.absorb E.join_next E.put_down E.join E.release_past E.release E.drain E.drains E.consolidate E.emptying E.joining G.step1 G.move_fast G.step2 G.take_last G.move_lasts G.step3 G.step4 G.split G.sort_in G.split_lone G.keep G.turn_at G.turn G.swept G.sweep G.step5 G.carve G.step8 G.step6 G.step7 G.step9 G.pass G.again G.from4 G.seek G.grant second seen
sample-joined-first =
    cut (run (Grant 24 ∷ Grant 24 ∷ Release 16 ∷ Joining ∷ Emptying ∷ []) (begin (replicate 128 0) (replicate 1584 0) plainly)) refl
