-- What a test of the key tells: where it is not asked for each chunk has it, where it is the chunk's word decides. Assumes nothing.
use Rattle.std.specs.Prelude.{◌≡◌, List, Option, Some, None, true, ℕ, eqb, get_or}
use Rattle.std.proofs.Common.{subst, lt-ltb, le-ltb}
use Rattle.sizes.specs.Layout.{key_word}
use Rattle.machine.specs.Audit.{key_ok}
use Rattle.audit_lists.specs.Asks.{Asks}

module _ (v : ℕ) (w r : List ℕ) (c : ℕ) (x : Option ℕ) (k : Asks v r x) where
  pub key-unasked : x ≡ None → true ≡ key_ok v w r c
  key-unasked e = let l = subst (Asks v r) e k in rw (lt-ltb v 2 l, key_ok)

  pub key-asked : (q z : ℕ) → x ≡ Some q → z ≡ get_or w (key_word c) 0 → eqb z q ≡ key_ok v w r c
  key-asked q z e g = let l = subst (Asks v r) e k in rw (g, l.1, le-ltb v 2 l.0, key_ok)
