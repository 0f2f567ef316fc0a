-- An older heap that is sound by the rules of its version, with what it lacks: it is sound by the newest. Its words after the keys are those of a heap of
-- version 2, whose skip links may be written; one of version 3 lacks neither. Assumes nothing.
use Rattle.std.specs.Prelude.{◌≡◌, refl, List, [], ℕ, ◌≤◌, ◌<◌}
use Rattle.std.proofs.Common.{sym, ap, ◌∙◌, subst, ⊎_elim, arith, lt-ltb, le-ltb}
use Rattle.sizes.specs.Limits.{newest}
use Rattle.machine.specs.Heap.{Heap}
use Rattle.machine.specs.Writes.{Write, apply}
use Rattle.sound.specs.Relation.{SoundBy, Sound}
use Rattle.sound.specs.Tiles.{lt-or-le}
use Rattle.sound.specs.Frames.{apply-append}
use Rattle.image_keys.specs.Keys.{keys_of, Lacking}
use Rattle.image_keys.specs.KeysLaws.{keyed-sound}
use Rattle.image_skips.specs.Skips.{skips_of}
use Rattle.image_skips.specs.SkipsLaws.{skipped-sound}
use Rattle.image.specs.Image.{lacked_keys, lacked_skips, lacked}

-- a `requires`: words w and record r are those of some heap that is sound by the rules of v, an older version
pub record Old (v : ℕ) (w r : List ℕ) : Type 0 where
  pub first : 1 ≤ v
  pub older : v < newest
  pub heap : Heap
  pub sound : SoundBy v heap w r

-- the rules of two versions ask for the same, but for the keys and the skip links
pub by-rules : {v u : ℕ} {h : Heap} {w r : List ℕ} → (2 ≤ u → 2 ≤ v) → (3 ≤ u → 3 ≤ v) → SoundBy v h w r → SoundBy u h w r
by-rules k l s = record {
  good = s.good;
  mem = record {
    long = s.mem.long;
    words = s.mem.words;
    chains = s.mem.chains;
    blinks = s.mem.blinks;
    keys = λ z. s.mem.keys (k z);
    key64 = s.mem.key64;
    edited = s.mem.edited;
    skipped = λ z. s.mem.skipped (l z);
  };
  rec = s.rec;
}

-- ---- the keys, which version 1 alone lacks
keys-1 : (v : ℕ) (h : Heap) → v < 2 → lacked_keys v h ≡ keys_of h
keys-1 v h l = rw (lt-ltb v 2 l, lacked_keys)

keys-2 : (v : ℕ) (h : Heap) → 2 ≤ v → lacked_keys v h ≡ []
keys-2 v h l = rw (le-ltb v 2 l, lacked_keys)

pub no-keys-written : (v : ℕ) (h : Heap) (w : List ℕ) → 2 ≤ v → w ≡ apply (lacked_keys v h) w
no-keys-written v h w l = ap (λ (ws : List Write). apply ws w) (sym (keys-2 v h l))

module _ {v : ℕ} {w r : List ℕ} where
  by-1 : (h : Heap) → 1 ≤ v → v < 2 → SoundBy v h w r → SoundBy 1 h w r
  by-1 h f l s = let e : v ≡ 1 = omega arith in subst (λ (v : ℕ). SoundBy v h w r) e s

  pub old-lacking : Old v w r → v < 2 → Lacking w r
  old-lacking O l = record { heap = O.heap; sound = by-1 O.heap O.first l O.sound }

  pub keys-written : (h : Heap) (u : List ℕ) → 1 ≤ v → v < 2 → SoundBy v h w r → ((h : Heap) → SoundBy 1 h w r → u ≡ apply (keys_of h) w) → u ≡ apply (lacked_keys v h) w
  keys-written h u f l s k = k h (by-1 h f l s) ∙ ap (λ (ws : List Write). apply ws w) (sym (keys-1 v h l))

  -- ---- with them it is sound by the rules of version 2
  with_keys : (h : Heap) → 1 ≤ v → v < newest → SoundBy v h w r → SoundBy 2 h (apply (lacked_keys v h) w) r
  with_keys h f o s = ⊎_elim
      (λ l. subst (λ (ws : List Write). SoundBy 2 h (apply ws w) r) (sym (keys-1 v h l)) (keyed-sound h w r (by-1 h f l s)))
      (λ l. subst (λ (ws : List Write). SoundBy 2 h (apply ws w) r) (sym (keys-2 v h l)) (by-rules (λ z. l) (λ z. absurd (omega (arith, z))) s))
      (lt-or-le v 2)

  -- u: the words after the keys; t: those after the skip links
  pub old-keyed : (h : Heap) {u : List ℕ} → 1 ≤ v → v < newest → SoundBy v h w r → ((h : Heap) → SoundBy v h w r → u ≡ apply (lacked_keys v h) w) → SoundBy 2 h u r
  old-keyed h f o s k = subst (λ (u : List ℕ). SoundBy 2 h u r) (sym (k h s)) (with_keys h f o s)

  pub both-written : (h : Heap) {u t : List ℕ} → SoundBy v h w r → ((h : Heap) → SoundBy v h w r → u ≡ apply (lacked_keys v h) w) → t ≡ apply (lacked_skips v h) u → t ≡ apply (lacked v h) w
  both-written h s k e = e ∙ ap (apply (lacked_skips v h)) (k h s) ∙ sym (apply-append (lacked_keys v h) (lacked_skips v h) w)

-- ---- the skip links, which versions 1 and 2 lack
skips-2 : (v : ℕ) (h : Heap) → v < 3 → lacked_skips v h ≡ skips_of h
skips-2 v h l = rw (lt-ltb v 3 l, lacked_skips)

skips-3 : (v : ℕ) (h : Heap) → 3 ≤ v → lacked_skips v h ≡ []
skips-3 v h l = rw (le-ltb v 3 l, lacked_skips)

pub no-skips-written : (v : ℕ) (h : Heap) (w : List ℕ) → 3 ≤ v → w ≡ apply (lacked_skips v h) w
no-skips-written v h w l = ap (λ (ws : List Write). apply ws w) (sym (skips-3 v h l))

pub skips-written : (v : ℕ) (h : Heap) (w : List ℕ) {u : List ℕ} → v < 3 → u ≡ apply (skips_of h) w → u ≡ apply (lacked_skips v h) w
skips-written v h w l e = e ∙ ap (λ (ws : List Write). apply ws w) (sym (skips-2 v h l))

-- ---- with both it is sound by the newest
pub lacked-sound : (v : ℕ) (h : Heap) (w r : List ℕ) → 1 ≤ v → v < newest → SoundBy v h w r → Sound h (apply (lacked v h) w) r
lacked-sound v h w r f o s =
    let u : List ℕ = apply (lacked_keys v h) w in
    subst (λ (u : List ℕ). Sound h u r) (sym (apply-append (lacked_keys v h) (lacked_skips v h) w))
    (⊎_elim
    (λ l. subst (λ (t : List ℕ). Sound h t r) (skips-written v h u l refl) (skipped-sound h u r (with_keys h f o s)))
    (λ l. subst (λ (t : List ℕ). Sound h t r) (no-keys-written v h w (omega arith) ∙ no-skips-written v h u l) (by-rules (λ z. omega arith) (λ z. l) s))
    (lt-or-le v 3))
