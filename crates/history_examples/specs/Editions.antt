-- Document 02, (xi) and (viii), computed: an arena of zeros opened with key 0 in edition 1, and with the largest key in edition 2. A run with resizes, in which the
-- written bytes are followed to where a resized block takes them; and one whose chunks stand so high that their links are stored mixed. The answers are the same; what
-- differs are key and edition in the record, and in a cached chunk the key and the stored link. Assumes nothing.
use Rattle.std.specs.Prelude.{◌≡◌, refl, List, [], ◌∷◌, ℕ, ◌-◌, ◌^◌, get_or, replicate, Ok}
use Rattle.std.proofs.Common.{sym, ap, ◌∙◌, arith}
use Rattle.machine.specs.Lists.{cnt}
use Rattle.machine.specs.declared.Answer.TheVariants.{Done, Granted}
use Rattle.calls_consequences.specs.Results.{Lent}
use Rattle.history.specs.Histories.{Event, Grant, Release, Resize, Store, State, arena_in, record_in, next, run, answers, Choice, Allowed, begin}
use Rattle.history.specs.Agrees.{written, but_choice, Agrees}
use Rattle.history.proofs.Editions.{editions-agree}
use Rattle.history_examples.specs.Histories.{plainly, sample-lent}
use Rattle.history_examples.specs.Bigger.{lent}
use Rattle.le.specs.Number as L
use Rattle.le.specs.Arena as B
use Rattle.sizes.specs.Sizes as S
use Rattle.machine.specs.Heap as H
use Rattle.machine.specs.View as W
use Rattle.machine.specs.Audit as U
use Rattle.machine.specs.Release as E
use Rattle.machine.specs.Grant as G
use Rattle.machine.specs.Resize as Z
use Rattle.machine.specs.Calls as C

-- the largest key, in edition 2
abbrev pub mixedly : Choice
mixedly = record { key = 2 ^ 64 - 1; edition = 2 }

plainly-allowed : Allowed plainly
plainly-allowed = record { key = omega arith; edition = refl }

mixedly-allowed : Allowed mixedly
mixedly-allowed = record { key = omega arith; edition = refl }

-- n zeros, newly opened with the choice q; every step of a run from there unfolds with it
unfoldable pub chosen : ℕ → Choice → State
unfolding next begin L.number_from L.number L.words L.digits L.bytes B.arena_words S.need S.usable S.cache_of S.fast_of S.large_bin S.bin_of H.record_of W.list_at W.tiles_of W.stacks_of W.bins_of U.tile_fault U.good_from U.list_fault U.flag_fault U.audit_by C.open_call C.grant_call C.release_call C.resize_call C.job_call C.closed_record E.absorb E.join_next E.put_down E.join E.release_past E.release E.drain E.drains E.consolidate E.emptying E.joining G.step1 G.move_fast G.step2 G.take_last G.move_lasts G.step3 G.step4 G.split G.sort_in G.split_lone G.keep G.turn_at G.turn G.swept G.sweep G.step5 G.carve G.step8 G.step6 G.step7 G.step9 G.pass G.again G.from4 G.seek G.grant Z.next_p Z.finish Z.resize
chosen n q = begin (replicate n 0) (replicate 1584 0) q

-- ---- 256 zeros. The block at 16 moves to 80, takes from the top, and gives a rest back; the block at 48 is released and cached
pub resizes : List Event
resizes = Grant 24 ∷ Grant 24 ∷ Store 20 7 ∷ Resize 16 40 ∷ Resize 80 100 ∷ Store 150 9 ∷ Resize 80 24 ∷ Store 60 5 ∷ Release 48 ∷ []

pub resizes-agree : Agrees but_choice resizes (chosen 256 plainly) (chosen 256 mixedly)
unfolding chosen
resizes-agree =
    editions-agree (replicate 256 0) (replicate 1584 0) (replicate 256 0) (replicate 1584 0) plainly mixedly sample-lent sample-lent plainly-allowed mixedly-allowed refl resizes

pub resizes-answers : answers resizes (chosen 256 plainly) ≡ Ok (Granted 16 24) ∷ Ok (Granted 48 24) ∷ Ok (Granted 80 40) ∷ Ok (Granted 80 104) ∷ Ok (Granted 80 24) ∷ Ok Done ∷ []
unfolding resizes chosen answers
resizes-answers = refl

-- the other choice's are not computed: they are the same, by the theorem
pub resizes-answered : answers resizes (chosen 256 mixedly) ≡ Ok (Granted 16 24) ∷ Ok (Granted 48 24) ∷ Ok (Granted 80 40) ∷ Ok (Granted 80 104) ∷ Ok (Granted 80 24) ∷ Ok Done ∷ []
resizes-answered = sym resizes-agree.told ∙ resizes-answers

-- the byte stored at 20 stands at 84 now. Those at 150 and 60 do not count: the one went with the rest, the other with its block
pub resizes-written : written resizes (chosen 256 plainly) [] ≡ 84 ∷ []
unfolding resizes chosen written
resizes-written = refl

pub resizes-stored : get_or (arena_in (run resizes (chosen 256 plainly))) 84 0 ≡ 7
unfolding resizes chosen run
resizes-stored = refl

pub resizes-byte : get_or (arena_in (run resizes (chosen 256 mixedly))) 84 0 ≡ 7
resizes-byte = sym (resizes-agree.bytes 84 (omega (arith, ap (cnt 84) resizes-written))) ∙ resizes-stored

-- the cached chunk at 32 has its key at 56; the record has its key at 1,572, and its edition at 1,580
pub choices-differ :
    (get_or (arena_in (run resizes (chosen 256 plainly))) 56 0 ≡ 0) × (get_or (arena_in (run resizes (chosen 256 mixedly))) 56 0 ≡ 255)
    × (get_or (record_in (run resizes (chosen 256 plainly))) 1572 0 ≡ 0) × (get_or (record_in (run resizes (chosen 256 mixedly))) 1572 0 ≡ 255)
    × (get_or (record_in (run resizes (chosen 256 plainly))) 1580 0 ≡ 1) × (get_or (record_in (run resizes (chosen 256 mixedly))) 1580 0 ≡ 2)
unfolding resizes chosen run
choices-differ = (refl, refl, refl, refl, refl, refl)

-- ---- 4,176 zeros. The blocks at 4,096 and 4,128, where their chunks' link fields stand, are released into one cache list
pub links : List Event
links = Grant 4072 ∷ Grant 24 ∷ Grant 24 ∷ Release 4096 ∷ Release 4128 ∷ []

links-lent : Lent (replicate 4176 0) (replicate 1584 0)
links-lent = lent 4176 0 refl (omega arith) (omega arith) (omega arith)

pub links-agree : Agrees but_choice links (chosen 4176 plainly) (chosen 4176 mixedly)
unfolding chosen
links-agree =
    editions-agree (replicate 4176 0) (replicate 1584 0) (replicate 4176 0) (replicate 1584 0) plainly mixedly links-lent links-lent plainly-allowed mixedly-allowed refl links

pub links-answers : answers links (chosen 4176 plainly) ≡ Ok (Granted 16 4072) ∷ Ok (Granted 4096 24) ∷ Ok (Granted 4128 24) ∷ Ok Done ∷ Ok Done ∷ []
unfolding links chosen answers
links-answers = refl

pub links-answered : answers links (chosen 4176 mixedly) ≡ Ok (Granted 16 4072) ∷ Ok (Granted 4096 24) ∷ Ok (Granted 4128 24) ∷ Ok Done ∷ Ok Done ∷ []
links-answered = sym links-agree.told ∙ links-answers

-- the end mark at 4,096 and the link to 4,080 at 4,128: as they are, and exclusive-or 1
pub links-differ :
    (L.number 8 (arena_in (run links (chosen 4176 plainly))) 4096 ≡ 2 ^ 64 - 1) × (L.number 8 (arena_in (run links (chosen 4176 mixedly))) 4096 ≡ 2 ^ 64 - 2)
    × (L.number 8 (arena_in (run links (chosen 4176 plainly))) 4128 ≡ 4080) × (L.number 8 (arena_in (run links (chosen 4176 mixedly))) 4128 ≡ 4081)
unfolding links chosen run
links-differ = (refl, refl, refl, refl)
