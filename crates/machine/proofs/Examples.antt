-- The machine computes: worked examples of document 01 and of the open points on the heap, each one theorem by computation. Those on bytes stand in the
-- crate examples. Assumes nothing.
use mathlib.Core.Path.{◌≡◌, refl}
use mathlib.Core.Bool.{true}
use mathlib.Core.List.{List, [], ◌∷◌, ◌++◌}
use Prim.Native.Nat.{ℕ, ◌/◌}
use lib.ListN.{length, get_or, take, drop, replicate}
use Rattle.le.specs.Number.{number, number_from, words, digits, bytes}
use Rattle.le.specs.Arena.{arena_words}
use Rattle.sizes.specs.Limits.{none32, none64}
use Rattle.sizes.specs.Sizes.{need}
use Rattle.machine.specs.Heap.{Heap, cache, fast, bin, size_of, p_of, record_of}
use Rattle.machine.specs.Writes.{apply}
use Rattle.machine.specs.Grant.{grant}
use Rattle.machine.specs.Audit.{audit_by}
use Rattle.machine.specs.Calls.{After, after, answer_numbers, open_call, granted, grant_call, release_call, resize_call}
use Rattle.machine.proofs.Script.{Line, G, R, S, E, J, Z, script, outs, heap_after, writes_after, arena_after, same?}

-- document 01's heaplog example behind its A 256, line by line: number, mem, usable and top
example : List Line
example = G 24 ∷ G 25 ∷ R 16 ∷ R 16 ∷ G 0 ∷ G 200 ∷ R 48 ∷ R 16 ∷ S ∷ G 200 ∷ []

heaplog-example : same? (outs (script 256 example))
    (0 ∷ 16 ∷ 24 ∷ 32 ∷
    0 ∷ 48 ∷ 40 ∷ 80 ∷
    0 ∷ 0 ∷ 0 ∷ 80 ∷
    4 ∷ 0 ∷ 0 ∷ 80 ∷
    0 ∷ 16 ∷ 24 ∷ 80 ∷
    5 ∷ 0 ∷ 0 ∷ 80 ∷
    0 ∷ 0 ∷ 0 ∷ 80 ∷
    0 ∷ 0 ∷ 0 ∷ 80 ∷
    0 ∷ 0 ∷ 0 ∷ 0 ∷
    0 ∷ 16 ∷ 200 ∷ 208 ∷ []) ≡ true
unfolding script example
heaplog-example = refl

-- eight live 32-byte chunks released: seven cached, the eighth on fast list 0
lists_of : (ℕ → List ℕ) → List ℕ → List ℕ
lists_of f [] = []
lists_of f (k ∷ ks) = length (f k) ∷ f k ++ lists_of f ks

eight : List Line
eight = G 24 ∷ G 24 ∷ G 24 ∷ G 24 ∷ G 24 ∷ G 24 ∷ G 24 ∷ G 24 ∷ G 24 ∷ R 16 ∷ R 48 ∷ R 80 ∷ R 112 ∷ R 144 ∷ R 176 ∷ R 208 ∷ R 240 ∷ []

eight-released : same? (cache (heap_after (script 1024 eight)) 0 ++ fast (heap_after (script 1024 eight)) 0)
    (192 ∷ 160 ∷ 128 ∷ 96 ∷ 64 ∷ 32 ∷ 0 ∷ 224 ∷ []) ≡ true
unfolding script eight
eight-released = refl

-- the last remainder at exactly b+32: of size 96 and b 64 it goes to bin 6, and the chunk of bin 5 is taken whole
last-remainder : same? (outs (script 8192 (G 1112 ∷ G 24 ∷ G 1112 ∷ G 24 ∷ R 16 ∷ G 1032 ∷ R 1168 ∷ G 872 ∷ G 136 ∷ G 56 ∷ [])))
    (0 ∷ 16 ∷ 1112 ∷ 1120 ∷
    0 ∷ 1136 ∷ 24 ∷ 1152 ∷
    0 ∷ 1168 ∷ 1112 ∷ 2272 ∷
    0 ∷ 2288 ∷ 24 ∷ 2304 ∷
    0 ∷ 0 ∷ 0 ∷ 2304 ∷
    0 ∷ 16 ∷ 1032 ∷ 2304 ∷
    0 ∷ 0 ∷ 0 ∷ 2304 ∷
    0 ∷ 1168 ∷ 872 ∷ 2304 ∷
    0 ∷ 2048 ∷ 136 ∷ 2304 ∷
    0 ∷ 1056 ∷ 72 ∷ 2304 ∷ []) ≡ true
unfolding script
last-remainder = refl

-- three equal large chunks are sorted, the newcomer second among its equals; the second of them is taken
equals : List Line
equals = G 1112 ∷ G 24 ∷ G 1112 ∷ G 24 ∷ G 1112 ∷ G 24 ∷ R 16 ∷ R 1168 ∷ R 2320 ∷ []

sorted-equals : same? (bin (heap_after (script 8192 (equals ++ G 6000 ∷ []))) 65) (0 ∷ 2304 ∷ 1152 ∷ []) ≡ true
unfolding script equals
sorted-equals = refl

second-of-equals : same? (bin (heap_after (script 8192 (equals ++ G 1096 ∷ []))) 65) (0 ∷ 1152 ∷ []) ≡ true
unfolding script equals
second-of-equals = refl

-- a refused grant leaves the sorting: unsorted is empty, the chunk stands in its bin
refused-sorts : same? (lists_of (bin (heap_after (script 4096 (G 1112 ∷ G 24 ∷ R 16 ∷ G 5000 ∷ [])))) (1 ∷ 65 ∷ [])) (0 ∷ 1 ∷ 0 ∷ []) ≡ true
unfolding script lists_of
refused-sorts = refl

-- the last remainder is split while one chunk is cached: that one stays cached (cache list 11), and the block comes from the remainder
G8 : List Line
G8 = G 200 ∷ G 200 ∷ G 200 ∷ G 200 ∷ G 200 ∷ G 200 ∷ G 200 ∷ G 200 ∷ []

splitting : List Line
splitting = G8 ++ G 24 ∷ G 1500 ∷ G 1200 ∷ G 24 ∷ R 1712 ∷ R 16 ∷ R 224 ∷ R 432 ∷ R 640 ∷ R 848 ∷ R 1056 ∷ R 1264 ∷ G 300 ∷ R 1472 ∷ R 3232 ∷ G8

last-line : List ℕ → List ℕ
last-line [] = []
last-line (x ∷ []) = []
last-line (x ∷ y ∷ []) = []
last-line (x ∷ y ∷ z ∷ []) = []
last-line (x ∷ y ∷ z ∷ t ∷ []) = x ∷ y ∷ z ∷ t ∷ []
last-line (x ∷ y ∷ z ∷ t ∷ u ∷ l) = last-line (y ∷ z ∷ t ∷ u ∷ l)

split-while-cached : same? (cache (heap_after (script 8192 splitting)) 11 ++ last-line (outs (script 8192 splitting))) (1456 ∷ 0 ∷ 2032 ∷ 200 ∷ 4464 ∷ []) ≡ true
unfolding script splitting G8 last-line
split-while-cached = refl

-- step 9's return to 5: two fast chunks behind seven cached ones, and a short top; the grant is served after they are joined
returning : List Line
returning = eight ++ R 272 ∷ G 700 ∷ []

returns-to-5 : same? (last-line (outs (script 1024 returning))) (0 ∷ 240 ∷ 712 ∷ 944 ∷ []) ≡ true
unfolding script returning eight last-line
returns-to-5 = refl

-- a join takes out the chunk before, then the one after, whose forward link the first unlink has made none: that stays in the whole
joined : List Line
joined = G 1112 ∷ G 1112 ∷ G 1112 ∷ G 24 ∷ R 16 ∷ R 2256 ∷ R 1136 ∷ []

join-order : same? (bin (heap_after (script 8192 joined)) 1 ++ get_or (apply (writes_after (script 8192 joined)) (replicate 1024 0)) 282 0 ∷ []) (0 ∷ none64 ∷ []) ≡ true
unfolding script joined
join-order = refl

-- a refused grant leaves what its steps wrote in the arena: the fast chunk at 224 was joined and binned, so P of the chunk behind it is clear
refused-joins : number 8 (arena_after (granted (replicate 512 0) (grant (need 400) (heap_after (script 512 eight))))) 264 ≡ 32
unfolding script eight number number_from words digits bytes arena_words
refused-joins = refl

-- ---- resize: number, mem, usable and top of each line
-- null is a grant, a new length of 0 a release, and what was released is no live block
null-and-0 : same? (outs (script 256 (Z 0 24 ∷ Z 16 0 ∷ Z 16 24 ∷ [])))
    (0 ∷ 16 ∷ 24 ∷ 32 ∷
    0 ∷ 0 ∷ 0 ∷ 32 ∷
    4 ∷ 0 ∷ 0 ∷ 32 ∷ []) ≡ true
unfolding script
null-and-0 = refl

-- from the top if both together reach b+32, exactly; else, where nothing else is found, number 5, and the block stays as it is
from-the-top : same? (outs (script 256 (G 24 ∷ Z 16 217 ∷ Z 16 216 ∷ [])))
    (0 ∷ 16 ∷ 24 ∷ 32 ∷
    5 ∷ 0 ∷ 0 ∷ 32 ∷
    0 ∷ 16 ∷ 216 ∷ 224 ∷ []) ≡ true
unfolding script
from-the-top = refl

-- size and P of each chunk named
heads : Heap → List ℕ → List ℕ
heads h [] = []
heads h (c ∷ cs) = size_of h c ∷ p_of h c ∷ heads h cs

-- the chunk behind is binned, of 1,120: taken in whole, the P behind it is set again; or its rest goes to the cache (144 bytes: list 7)
binned-behind : List Line
binned-behind = G 24 ∷ G 1112 ∷ G 24 ∷ R 48 ∷ []

taken_in : same? (heads (heap_after (script 8192 binned-behind)) (0 ∷ 32 ∷ 1152 ∷ []) ++ heads (heap_after (script 8192 (binned-behind ++ Z 16 1132 ∷ []))) (0 ∷ 1152 ∷ []))
    (32 ∷ 1 ∷ 1120 ∷ 1 ∷ 32 ∷ 0 ∷ 1152 ∷ 1 ∷ 32 ∷ 1 ∷ []) ≡ true
unfolding script binned-behind heads
taken_in = refl

rest-cached : same? (last-line (outs (script 8192 (binned-behind ++ Z 16 1000 ∷ []))) ++ cache (heap_after (script 8192 (binned-behind ++ Z 16 1000 ∷ []))) 7)
    (0 ∷ 16 ∷ 1000 ∷ 1184 ∷ 1008 ∷ []) ≡ true
unfolding script binned-behind last-line
rest-cached = refl

-- a block large enough stays; its rest of 96 goes on fast list 4 where the cache list is full, a larger one into unsorted, or into the top
G7 : List Line
G7 = G 88 ∷ G 88 ∷ G 88 ∷ G 88 ∷ G 88 ∷ G 88 ∷ G 88 ∷ []

shrunk : List Line
shrunk = G7 ++ G 200 ∷ G 24 ∷ R 16 ∷ R 112 ∷ R 208 ∷ R 304 ∷ R 400 ∷ R 496 ∷ R 592 ∷ Z 688 100 ∷ []

rest-fast : same? (last-line (outs (script 8192 shrunk)) ++ fast (heap_after (script 8192 shrunk)) 4) (0 ∷ 688 ∷ 104 ∷ 912 ∷ 784 ∷ []) ≡ true
unfolding script shrunk G7 last-line
rest-fast = refl

rest-unsorted : same? (bin (heap_after (script 8192 (G 2000 ∷ G 24 ∷ Z 16 100 ∷ []))) 1) (112 ∷ []) ≡ true
unfolding script
rest-unsorted = refl

rest-to-top : same? (last-line (outs (script 8192 (G 2000 ∷ Z 16 100 ∷ [])))) (0 ∷ 16 ∷ 104 ∷ 112 ∷ []) ≡ true
unfolding script last-line
rest-to-top = refl

-- a block that cannot grow is moved: its three usable words (7, 8, 9) are copied, and it is released, which writes its link
copying : List Line
copying = G 24 ∷ G 24 ∷ Z 16 100 ∷ []

moved-and-copied : same? (last-line (outs (script 256 copying)) ++ cache (heap_after (script 256 copying)) 0
    ++ take 4 (drop 9 (apply (writes_after (script 256 copying)) (0 ∷ 0 ∷ 7 ∷ 8 ∷ 9 ∷ replicate 27 0))))
    (0 ∷ 80 ∷ 104 ∷ 176 ∷ 0 ∷ 113 ∷ 7 ∷ 8 ∷ 9 ∷ []) ≡ true
unfolding script copying last-line
moved-and-copied = refl

-- the block is sought by steps 2 to 9: a chunk of its size in the cache stays there
not-the-cache : same? (last-line (outs (script 512 (G 24 ∷ G 24 ∷ G 100 ∷ G 24 ∷ R 80 ∷ Z 16 100 ∷ [])))) (0 ∷ 224 ∷ 104 ∷ 320 ∷ []) ≡ true
unfolding script last-line
not-the-cache = refl

-- open point 85: the fast chunk before the block is joined and binned on the way, so the block's P is clear; the fast chunk behind it goes to the top, from
-- which the sought block is cut: it lies right behind the old one and is joined to it, which keeps P as it stands, and the rest of 48 goes to the cache
fast-around : List Line
fast-around = G 0 ∷ G 0 ∷ G 0 ∷ G 0 ∷ G 0 ∷ G 0 ∷ G 0 ∷ G 0 ∷ G 40 ∷ G 0 ∷ R 16 ∷ R 48 ∷ R 80 ∷ R 112 ∷ R 144 ∷ R 176 ∷ R 208 ∷ R 240 ∷ R 320 ∷ []

own-p : List Line
own-p = fast-around ++ Z 272 80 ∷ []

own-p-lines : same? (drop 28 (outs (script 432 own-p)))
    (0 ∷ 240 ∷ 24 ∷ 256 ∷
    0 ∷ 272 ∷ 40 ∷ 304 ∷
    0 ∷ 320 ∷ 24 ∷ 336 ∷
    0 ∷ 0 ∷ 0 ∷ 336 ∷
    0 ∷ 0 ∷ 0 ∷ 336 ∷
    0 ∷ 0 ∷ 0 ∷ 336 ∷
    0 ∷ 0 ∷ 0 ∷ 336 ∷
    0 ∷ 0 ∷ 0 ∷ 336 ∷
    0 ∷ 0 ∷ 0 ∷ 336 ∷
    0 ∷ 0 ∷ 0 ∷ 336 ∷
    0 ∷ 0 ∷ 0 ∷ 336 ∷
    0 ∷ 0 ∷ 0 ∷ 336 ∷
    0 ∷ 272 ∷ 88 ∷ 400 ∷ []) ≡ true
unfolding script fast-around own-p
own-p-lines = refl

own-p-kept : same? (heads (heap_after (script 432 own-p)) (224 ∷ 256 ∷ 352 ∷ []) ++ bin (heap_after (script 432 own-p)) 2 ++ cache (heap_after (script 432 own-p)) 1)
    (32 ∷ 1 ∷ 96 ∷ 0 ∷ 48 ∷ 1 ∷ 224 ∷ 352 ∷ []) ≡ true
unfolding script fast-around own-p heads
own-p-kept = refl

-- refused, the same block stays live with its size, and no list has it; what was joined stays joined, so its P is clear as well
refused-p : same? (last-line (outs (script 432 (fast-around ++ Z 272 200 ∷ []))) ++ heads (heap_after (script 432 (fast-around ++ Z 272 200 ∷ []))) (256 ∷ [])
    ++ cache (heap_after (script 432 (fast-around ++ Z 272 200 ∷ []))) 1)
    (5 ∷ 0 ∷ 0 ∷ 304 ∷ 48 ∷ 0 ∷ []) ≡ true
unfolding script fast-around heads last-line
refused-p = refl

-- ---- document 02, (vi): a joining that yields 65,536 or more, and a fast chunk. The fast chunk at 224 goes to unsorted then; its neighbours are cached or live.
-- behind ls ms: nine chunks of 32, then the grants of ls; seven of the nine are cached; then ms, and the block behind the nine is released
seven-cached : List Line
seven-cached = R 16 ∷ R 48 ∷ R 80 ∷ R 112 ∷ R 144 ∷ R 176 ∷ R 208 ∷ []

behind : List Line → List Line → List Line
behind ls ms = G 24 ∷ G 24 ∷ G 24 ∷ G 24 ∷ G 24 ∷ G 24 ∷ G 24 ∷ G 24 ∷ G 24 ∷ ls ++ seven-cached ++ ms ++ R 304 ∷ []

fast-and-unsorted : Heap → List ℕ
fast-and-unsorted h = length (fast h 0) ∷ fast h 0 ++ length (bin h 1) ∷ bin h 1

yields-65536 : same? (fast-and-unsorted (heap_after (script 131072 (behind (G 65528 ∷ G 24 ∷ []) (R 240 ∷ []))))) (0 ∷ 2 ∷ 224 ∷ 288 ∷ []) ≡ true
unfolding script behind seven-cached fast-and-unsorted
yields-65536 = refl

yields-65520 : same? (fast-and-unsorted (heap_after (script 131072 (behind (G 65512 ∷ G 24 ∷ []) (R 240 ∷ []))))) (1 ∷ 224 ∷ 1 ∷ 288 ∷ []) ≡ true
unfolding script behind seven-cached fast-and-unsorted
yields-65520 = refl

-- the top included: a chunk of 1,120 and the top are 65,536 together, or 65,520
top-makes-65536 : same? (fast-and-unsorted (heap_after (script 65824 (behind (G 1112 ∷ []) (R 240 ∷ []))))) (0 ∷ 1 ∷ 224 ∷ []) ≡ true
unfolding script behind seven-cached fast-and-unsorted
top-makes-65536 = refl

top-makes-65520 : same? (fast-and-unsorted (heap_after (script 65808 (behind (G 1112 ∷ []) (R 240 ∷ []))))) (1 ∷ 224 ∷ 0 ∷ []) ≡ true
unfolding script behind seven-cached fast-and-unsorted
top-makes-65520 = refl

-- without a fast chunk nothing more is done, whatever is yielded: the seven stay cached, and the eighth is live
no-fast-chunk : same? (fast-and-unsorted (heap_after (script 131072 (behind (G 65528 ∷ G 24 ∷ []) []))) ++ cache (heap_after (script 131072 (behind (G 65528 ∷ G 24 ∷ []) []))) 0)
    (0 ∷ 1 ∷ 288 ∷ 192 ∷ 160 ∷ 128 ∷ 96 ∷ 64 ∷ 32 ∷ 0 ∷ []) ≡ true
unfolding script behind seven-cached fast-and-unsorted
no-fast-chunk = refl

no-fast-chunk-top : same? (fast-and-unsorted (heap_after (script 65824 (behind (G 1112 ∷ []) [])))) (0 ∷ 0 ∷ []) ≡ true
unfolding script behind seven-cached fast-and-unsorted
no-fast-chunk-top = refl

-- in an emptying: the chunk at 0 goes on fast list 0; the one at 416 (cache list 11) joins the top, which yields 65,536 and has the fast chunk joined; so the one at
-- 64 (cache list 18) comes before it in unsorted. With 16 bytes less the joining at the end has it joined, behind that one
emptied-halfway : List Line
emptied-halfway = G 24 ∷ G 24 ∷ G 312 ∷ G 24 ∷ G 200 ∷ R 16 ∷ R 80 ∷ R 432 ∷ S ∷ []

emptying-consolidates : same? (bin (heap_after (script 65952 emptied-halfway)) 1) (64 ∷ 0 ∷ []) ≡ true
unfolding script emptied-halfway
emptying-consolidates = refl

emptying-does-not : same? (bin (heap_after (script 65936 emptied-halfway)) 1) (0 ∷ 64 ∷ []) ≡ true
unfolding script emptied-halfway
emptying-does-not = refl

-- in a resize: the block at 256 is cut to 112 and its rest of 69,904 released; the fast chunk before it is joined and binned, so that its own P is clear. A rest of
-- 65,520 leaves that chunk fast, and P set
rest-released : ℕ → List Line
rest-released n = G 24 ∷ G 24 ∷ G 24 ∷ G 24 ∷ G 24 ∷ G 24 ∷ G 24 ∷ G 24 ∷ G n ∷ G 24 ∷ seven-cached ++ R 240 ∷ Z 272 100 ∷ []

rest-consolidates : same? (heads (heap_after (script 131072 (rest-released 70000))) (256 ∷ 368 ∷ []) ++ fast-and-unsorted (heap_after (script 131072 (rest-released 70000))))
    (112 ∷ 0 ∷ 69904 ∷ 1 ∷ 0 ∷ 2 ∷ 224 ∷ 368 ∷ []) ≡ true
unfolding script rest-released seven-cached heads fast-and-unsorted
rest-consolidates = refl

rest-does-not : same? (heads (heap_after (script 131072 (rest-released 65624))) (256 ∷ 368 ∷ []) ++ fast-and-unsorted (heap_after (script 131072 (rest-released 65624))))
    (112 ∷ 1 ∷ 65520 ∷ 1 ∷ 1 ∷ 224 ∷ 1 ∷ 368 ∷ []) ≡ true
unfolding script rest-released seven-cached heads fast-and-unsorted
rest-does-not = refl

-- ---- document 02, (vii): emptying and joining, each alone. The nine chunks of 32 are cut from a binned one: seven are cached, the eighth is on fast list 0, and
-- the rest at 288 is the last remainder, in unsorted
two-jobs : List Line
two-jobs = G 1112 ∷ G 24 ∷ R 16 ∷ eight

lists-and-remainder : Heap → List ℕ
lists-and-remainder h = length (cache h 0) ∷ cache h 0 ++ fast-and-unsorted h ++ h.remainder ∷ []

-- an emptying leaves the fast chunk on its list, those of the cache before it, and the last remainder
emptying-alone : same? (lists-and-remainder (heap_after (script 2048 (two-jobs ++ E ∷ []))))
    (0 ∷ 8 ∷ 0 ∷ 32 ∷ 64 ∷ 96 ∷ 128 ∷ 160 ∷ 192 ∷ 224 ∷ 1 ∷ 288 ∷ 288 ∷ []) ≡ true
unfolding script two-jobs eight lists-and-remainder fast-and-unsorted
emptying-alone = refl

-- a joining leaves the cached chunks, puts the fast one in unsorted and clears the last remainder
joining-alone : same? (lists-and-remainder (heap_after (script 2048 (two-jobs ++ J ∷ []))))
    (7 ∷ 192 ∷ 160 ∷ 128 ∷ 96 ∷ 64 ∷ 32 ∷ 0 ∷ 0 ∷ 2 ∷ 224 ∷ 288 ∷ none32 ∷ []) ≡ true
unfolding script two-jobs eight lists-and-remainder fast-and-unsorted
joining-alone = refl

-- both in that order join all eight
both-jobs : same? (lists-and-remainder (heap_after (script 2048 (two-jobs ++ E ∷ J ∷ [])))) (0 ∷ 0 ∷ 2 ∷ 0 ∷ 288 ∷ none32 ∷ []) ≡ true
unfolding script two-jobs eight lists-and-remainder fast-and-unsorted
both-jobs = refl

-- on a newly opened arena of 32 bytes, which has no live block, a resize above 262,144 is refused with 2 and not with 4
number_of : After → ℕ
number_of (after a r x) = (answer_numbers x).no

number_after : (List ℕ → List ℕ → After) → After → ℕ
number_after f (after a r x) = number_of (f a r)

number-2-first : number_after (λ a r. resize_call a r 16 262145) (open_call (replicate 32 0) (replicate 1584 0) 99 1) ≡ 2
unfolding number_of number_after open_call resize_call record_of words digits bytes number number_from arena_words
number-2-first = refl

-- on a record of zeros, which is no heap's, a grant above 262,144 is refused with 2 and not with 3, and null with 3
number-2-before-3 : number_of (grant_call (replicate 32 0) (replicate 1584 0) 262145) ≡ 2
unfolding number_of grant_call
number-2-before-3 = refl

null-unsound : number_of (release_call (replicate 32 0) (replicate 1584 0) 0) ≡ 3
unfolding number_of release_call audit_by words digits bytes number number_from arena_words
null-unsound = refl

-- ---- the key, 99 here, in the second word of a cached chunk, over an arena of sevens; what stands in word i afterwards
word_after : ℕ → List Line → ℕ → ℕ
word_after n ls i = get_or (apply (writes_after (script n ls)) (replicate (n / 8) 7)) i 0

-- a release on the cache writes it, the grant that takes the chunk 0; an emptying writes 0 too, and a fast list gets neither
key-and-0 : same?
    (word_after 256 (G 24 ∷ G 24 ∷ R 16 ∷ []) 3 ∷ word_after 256 (G 24 ∷ G 24 ∷ R 16 ∷ G 24 ∷ []) 3 ∷ word_after 256 (G 24 ∷ G 24 ∷ R 16 ∷ E ∷ []) 3
    ∷ word_after 1024 eight 31 ∷ [])
    (99 ∷ 0 ∷ 0 ∷ 7 ∷ []) ≡ true
unfolding script eight word_after
key-and-0 = refl

-- step 2: nine released, seven granted from the cache; the next takes 256 from the fast list as it is and moves 224 to the cache, with the key
seven-of : ℕ → List Line
seven-of n = G n ∷ G n ∷ G n ∷ G n ∷ G n ∷ G n ∷ G n ∷ []

key-in-step-2 : same?
    (let ls : List Line = (G 24 ∷ eight) ++ (R 272 ∷ seven-of 24 ++ G 24 ∷ []) in word_after 1024 ls 31 ∷ word_after 1024 ls 35 ∷ [])
    (99 ∷ 7 ∷ []) ≡ true
unfolding script eight seven-of word_after
key-in-step-2 = refl

-- nine chunks of 144 bytes with a live one behind each; seven go to the cache, two, at 1,232 and 1,408, to unsorted, and the cache is emptied by grants
pairs_of : ℕ → List Line
pairs_of n = G n ∷ G 24 ∷ G n ∷ G 24 ∷ G n ∷ G 24 ∷ G n ∷ G 24 ∷ G n ∷ G 24 ∷ G n ∷ G 24 ∷ G n ∷ G 24 ∷ G n ∷ G 24 ∷ G n ∷ G 24 ∷ []

two-unsorted : List Line
two-unsorted = pairs_of 136 ++ (R 16 ∷ R 192 ∷ R 368 ∷ R 544 ∷ R 720 ∷ R 896 ∷ R 1072 ∷ R 1248 ∷ R 1424 ∷ seven-of 136)

-- step 3: sorted by a larger grant, then 1,232 is taken, a chunk of a bin, its old back link as it was, and 1,408 moved to the cache with the key
key-in-step-3 : same? (let ls : List Line = two-unsorted ++ G 200 ∷ G 136 ∷ [] in word_after 2048 ls 157 ∷ word_after 2048 ls 179 ∷ []) (1408 ∷ 99 ∷ []) ≡ true
unfolding script pairs_of seven-of two-unsorted word_after
key-in-step-3 = refl

-- step 5: both are of the size asked for and cached with the key; the head is granted, with 0
key-in-step-5 : same? (let ls : List Line = two-unsorted ++ G 136 ∷ [] in word_after 2048 ls 157 ∷ word_after 2048 ls 179 ∷ []) (99 ∷ 0 ∷ []) ≡ true
unfolding script pairs_of seven-of two-unsorted word_after
key-in-step-5 = refl
