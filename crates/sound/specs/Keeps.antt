-- Every step keeps a sound heap and its words: one law for each step of release, emptying, joining, grant and resize, from any sound heap. What was shown of each step with
-- its answer and its loose chunks is read off here. Assumes nothing.
use Rattle.std.specs.Prelude.{◌≡◌, refl, ◌⊎◌, List, [], ◌∷◌, Bool, false, ℕ, ◌+◌, ◌*◌, ◌%◌, ◌≤◌, ◌<◌, ◌^◌, length, Option, Some, None}
use Rattle.sizes.specs.Limits.{plain, mixed}
use Rattle.machine.specs.Lists.{cnt}
use Rattle.machine.specs.Heap.{Heap, stack, bin, size_of, opened, record_of}
use Rattle.machine.specs.Writes.{apply, Ran, heap_of, writes, size}
use Rattle.machine.specs.Release.{release_past, release, drain, drains, consolidate, emptying, joining}
use Rattle.machine.specs.Grant.{step1, step2, step3, step4, turn, sweep, step5, step8, step6, step7, step9, pass, again, from4, seek, grant}
use Rattle.machine.specs.Resize.{resize}
use Rattle.sound.specs.Relation.{Mem, Loose, Good, Sound}
use Rattle.sound.specs.Ends.{Ends}
use Rattle.sound.specs.Moves.{nil, one, any}
use Rattle.sound.specs.Leaves.{Leaves, leaves-ends, gave, Still, Cached, Found, still-here}
use Rattle.sound.specs.Release.{release_past-leaves, release-leaves}
use Rattle.sound.specs.Drain.{Taken, drain-leaves, drains-leaves, consolidate-leaves}
use Rattle.sound.specs.Emptying.{emptying-leaves}
use Rattle.sound.specs.Joining.{joining-leaves}
use Rattle.sound.specs.Take.{step8-leaves}
use Rattle.sound.specs.Small.{step1-leaves, step2-leaves, step3-leaves, step4-leaves}
use Rattle.sound.specs.Sweep.{Turned, turn-leaves, sweep-leaves, step5-leaves}
use Rattle.sound.specs.Large.{step6-leaves, step7-leaves, step9-leaves}
use Rattle.sound.specs.Grant.{pass-leaves, again-leaves, from4-leaves, seek-leaves, grant-leaves}
use Rattle.sound.specs.Resize.{resize-resized}
use Rattle.sound.specs.Opened.{opened-ends}
use Rattle.machine.specs.declared.{Turn.Turn}
use Rattle.machine.specs.declared.Turn.TheVariants as T

-- ---- stacks emptied, their heads taken by t, with anything done to each chunk that keeps a sound heap and the stacks of M
module _ (t : ℕ → Heap → Ran (Option ℕ)) (f : ℕ → Heap → Ran ℕ) (M : ℕ → Type 0)
    (T : (h : Heap) (w : List ℕ) (k c : ℕ) (l : List ℕ) → Good h → Mem h w → stack h k ≡ c ∷ l → k < 74 → M k → Leaves h w (t k h) (λ a g. Taken h k c l g) (any (one c)) nil)
    (F : (h : Heap) (w : List ℕ) (c : ℕ) → Good h → Mem h w → Loose h c → Leaves h w (f c h) (λ a g. Good g × Still M h g) (any nil) (one c)) where
  pub drain-ends : (k : ℕ) → k < 74 → M k → (h : Heap) (w : List ℕ) → Good h → Mem h w → Ends (drain t f k (stack h k) h) w Good
  drain-ends k hk mk h w g m = leaves-ends (drain-leaves t f M T F k hk mk (stack h k) h w g m refl) (λ a n p. p.0)

  pub drains-ends : (n k : ℕ) → k + n ≤ 74 → ((i : ℕ) → k ≤ i → i < k + n → M i) → (h : Heap) (w : List ℕ) → Good h → Mem h w → Ends (drains t f n k h) w Good
  drains-ends n k hk mk h w g m = leaves-ends (drains-leaves t f M T F n k hk mk h w g m) (λ a n p. p.good)

-- ---- release
pub release_past-ends : (h : Heap) (w : List ℕ) (c : ℕ) → Good h → Mem h w → Loose h c → Ends (release_past c h) w Good
release_past-ends h w c g m lo = leaves-ends (release_past-leaves h w c g m lo) (λ a n p. p.0)

pub release-ends : (h : Heap) (w : List ℕ) (c : ℕ) → Good h → Mem h w → Loose h c → Ends (release c h) w Good
release-ends h w c g m lo = leaves-ends (release-leaves h w c g m lo) (λ a n p. p)

-- ---- emptying and joining
pub consolidate-ends : (h : Heap) (w : List ℕ) → Good h → Mem h w → Ends (consolidate h) w Good
consolidate-ends h w g m = leaves-ends (consolidate-leaves h w g m) (λ a n p. p.good)

pub emptying-ends : (h : Heap) (w : List ℕ) → Good h → Mem h w → Ends (emptying h) w Good
emptying-ends h w g m = leaves-ends (emptying-leaves h w g m) (λ a n p. p.good)

pub joining-ends : (h : Heap) (w : List ℕ) → Good h → Mem h w → Ends (joining h) w Good
joining-ends h w g m = leaves-ends (joining-leaves h w g m) (λ a n p. p.good)

-- ---- grant
found-good : (b : ℕ) (h : Heap) (x : Option ℕ) (g : Heap) → Found b h x g → Good g
found-good b h (Some c) g p = p.0
found-good b h None g p = p.0

turned-good : (b : ℕ) (h : Heap) (x : Turn) (g : Heap) → Turned b h x g → Good g
turned-good b h (T.Granted c) g p = p.0
turned-good b h T.Cached g p = p.0
turned-good b h T.Binned g p = p.0
turned-good b h T.Empty g p = p.0

pub step4-ends : (b : ℕ) (h : Heap) (w : List ℕ) → Good h → Mem h w → Ends (step4 b h) w Good
step4-ends b h w g m = leaves-ends (step4-leaves b h w g m) (λ a n p. p.0)

module _ (b : ℕ) (b16 : b % 16 ≡ 0) (b32 : 32 ≤ b) (h : Heap) (w : List ℕ) (g : Good h) (m : Mem h w) where
  found-ends : (r : Ran (Option ℕ)) → Leaves h w r (Found b h) gave nil → Ends r w Good
  found-ends r l = leaves-ends l (found-good b h)

  pub step1-ends : Ends (step1 b h) w Good
  step1-ends = found-ends (step1 b h) (step1-leaves b b16 b32 h w g m)

  pub step2-ends : Ends (step2 b h) w Good
  step2-ends = found-ends (step2 b h) (step2-leaves b b16 b32 h w g m)

  pub step3-ends : Ends (step3 b h) w Good
  step3-ends = found-ends (step3 b h) (step3-leaves b b16 b32 h w g m)

  pub turn-ends : Ends (turn b h) w Good
  turn-ends = leaves-ends (turn-leaves b b16 b32 h w g m) (turned-good b h)

  -- as step 5 calls it, with any turns left, none cached yet
  pub sweep-ends : (n : ℕ) → Ends (sweep n b false h) w Good
  sweep-ends n = found-ends (sweep n b false h) (sweep-leaves b b16 b32 n false h h w g m (still-here Cached h))

  pub step5-ends : Ends (step5 b h) w Good
  step5-ends = found-ends (step5 b h) (step5-leaves b b16 b32 h w g m)

  pub step6-ends : Ends (step6 b h) w Good
  step6-ends = found-ends (step6 b h) (step6-leaves b b16 b32 h w g m)

  pub step7-ends : Ends (step7 b h) w Good
  step7-ends = found-ends (step7 b h) (step7-leaves b b16 b32 h w g m)

  pub step8-ends : (j c : ℕ) (new? : Bool) → 1 ≤ cnt c (bin h j) → b ≤ size_of h c → Ends (step8 j c b new? h) w Good
  step8-ends j c new? mc bc = found-ends (step8 j c b new? h) (step8-leaves h w j c b new? g m mc b16 b32 bc)

  pub step9-ends : Ends (step9 b h) w Good
  step9-ends = found-ends (step9 b h) (step9-leaves b b16 b32 h w g m)

  pub pass-ends : Ends (pass b h) w Good
  pass-ends = found-ends (pass b h) (pass-leaves b b16 b32 h w g m)

  pub again-ends : Ends (again b h) w Good
  again-ends = found-ends (again b h) (again-leaves b b16 b32 h w g m)

  pub from4-ends : Ends (from4 b h) w Good
  from4-ends = found-ends (from4 b h) (from4-leaves b b16 b32 h w g m)

  pub seek-ends : Ends (seek b h) w Good
  seek-ends = found-ends (seek b h) (seek-leaves b b16 b32 h w g m)

  pub grant-ends : Ends (grant b h) w Good
  grant-ends = found-ends (grant b h) (grant-leaves b b16 b32 h w g m)

  -- ---- resize
  pub resize-ends : (c : ℕ) → Loose h c → Ends (resize c b h) w Good
  resize-ends c lo = leaves-ends (resize-resized h w c b g m lo b16 b32).leaves (found-good b h)

-- ---- the calls' steps, on words and record: what is sound stays sound
ends-sound : {A : Type 0} {r : Ran A} {w : List ℕ} → Ends r w Good → Sound (heap_of r) (apply (writes r) w) (record_of (heap_of r))
ends-sound e = record { good = e.now; mem = e.mem; rec = refl }

pub opened-sound : (n q d : ℕ) (w : List ℕ) → q < 2 ^ 64 → (d ≡ plain) ⊎ (d ≡ mixed) → n % 16 ≡ 0 → 32 ≤ n → n ≤ 262144 → 8 * length w ≡ n
    → Sound (opened n q d) (apply (size 0 n 1 ∷ []) w) (record_of (opened n q d))
opened-sound n q d w b ed e l m z = let o = opened-ends n q d w b ed e l m z in record { good = o.0; mem = o.1; rec = refl }

module _ (h : Heap) (w r : List ℕ) (s : Sound h w r) where
  pub release-sound : (c : ℕ) → Loose h c → Sound (heap_of (release c h)) (apply (writes (release c h)) w) (record_of (heap_of (release c h)))
  release-sound c lo = ends-sound (release-ends h w c s.good s.mem lo)

  pub emptying-sound : Sound (heap_of (emptying h)) (apply (writes (emptying h)) w) (record_of (heap_of (emptying h)))
  emptying-sound = ends-sound (emptying-ends h w s.good s.mem)

  pub joining-sound : Sound (heap_of (joining h)) (apply (writes (joining h)) w) (record_of (heap_of (joining h)))
  joining-sound = ends-sound (joining-ends h w s.good s.mem)

  pub grant-sound : (b : ℕ) → b % 16 ≡ 0 → 32 ≤ b → Sound (heap_of (grant b h)) (apply (writes (grant b h)) w) (record_of (heap_of (grant b h)))
  grant-sound b b16 b32 = ends-sound (grant-ends b b16 b32 h w s.good s.mem)

  pub resize-sound : (c b : ℕ) → Loose h c → b % 16 ≡ 0 → 32 ≤ b
      → Sound (heap_of (resize c b h)) (apply (writes (resize c b h)) w) (record_of (heap_of (resize c b h)))
  resize-sound c b lo b16 b32 = ends-sound (resize-ends b b16 b32 h w s.good s.mem c lo)
