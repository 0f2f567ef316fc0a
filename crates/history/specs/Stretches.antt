-- Stretches outside the held blocks: two that share an offset are one; and what is held, by chunks. Assumes nothing.
use Rattle.std.specs.Prelude.{◌≡◌, List, [], ◌∷◌, ℕ, ◌+◌, ◌-◌, ◌≤◌, ◌<◌}
use Rattle.std.proofs.Common.{ap, ◌∙◌, ⊎_elim, not-suc-le-zero, arith}
use Rattle.machine.specs.Count.{eq?, ind-same, ind-other}
use Rattle.sound.specs.Tiles.{lt-or-le}
use Rattle.history.specs.Histories.{Block}
use Rattle.history.specs.Demand3.{Held, here, there, Stretch}
use Rattle.history.specs.Ready.{held_at, Sized}

-- ---- two stretches around x
module _ (bs : List Block) (n x f e f' e' : ℕ) (S : Stretch bs n f e) (S' : Stretch bs n f' e') (l : f ≤ x) (u : x < e) (l' : f' ≤ x) (u' : x < e') where
  from-before : f < f' → ⊥
  from-before k = ⊎_elim (λ z. omega arith) (λ z. S.clear (f' - 1) (omega arith) (omega arith) z.1) S'.starts

  to-before : e < e' → ⊥
  to-before k = ⊎_elim (λ z. omega (arith, S'.inside)) (λ z. S'.clear e (omega arith) k z) S.ends

pub stretch-one : (bs : List Block) (n x f e f' e' : ℕ) → Stretch bs n f e → Stretch bs n f' e' → f ≤ x → x < e → f' ≤ x → x < e' → (f ≡ f') × (e ≡ e')
stretch-one bs n x f e f' e' S S' l u l' u' = (
  ⊎_elim (λ k. absurd (from-before bs n x f e f' e' S S' l u l' u' k))
      (λ k. ⊎_elim (λ j. absurd (from-before bs n x f' e' f e S' S l' u' l u j)) (λ j. omega arith) (lt-or-le f' f)) (lt-or-le f f'),
  ⊎_elim (λ k. absurd (to-before bs n x f e f' e' S S' l u l' u' k))
      (λ k. ⊎_elim (λ j. absurd (to-before bs n x f' e' f e S' S l' u' l u j)) (λ j. omega arith) (lt-or-le e' e)) (lt-or-le e e'),
)

-- ---- the chunk of a block that is held, and the block of an offset that is
pub held_in : (z : ℕ → ℕ) (bs : List Block) (c x : ℕ) → Sized z bs → 1 ≤ held_at (c + 16) bs → c ≤ x → x < c + z c → Held bs x
held_in z [] c x k m l u = absurd (not-suc-le-zero m)
held_in z (b ∷ bs) c x k m l u = ⊎_elim
    (λ e.
    let q : b.mem - 16 ≡ c = omega arith in
    let s : b.usable + 8 ≡ z c = k.0 ∙ ap z q in
    here (omega arith, omega arith))
    (λ e. there (held_in z bs c x k.1 (omega (arith, ind-other (c + 16) b.mem e)) l u))
    (eq? (c + 16) b.mem)

pub record Whose (z : ℕ → ℕ) (bs : List Block) (x : ℕ) : Type 0 where
  pub mem : ℕ
  pub held : 1 ≤ held_at mem bs
  pub low : mem ≤ x + 16
  pub high : x + 16 < mem + z (mem - 16)

pub held_out : (z : ℕ → ℕ) (bs : List Block) (x : ℕ) → Sized z bs → Held bs x → Whose z bs x
held_out z [] x k i = elim i [ ]
held_out z (b ∷ bs) x k (here i) = record { mem = b.mem; held = omega (arith, ind-same b.mem); low = i.0; high = omega (arith, k.0, i.1) }
held_out z (b ∷ bs) x k (there i) =
    let W = held_out z bs x k.1 i in
    record { mem = W.mem; held = omega (arith, W.held); low = W.low; high = W.high }
