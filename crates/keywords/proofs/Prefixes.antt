-- The number behind a prefix. Assumes nothing.
use mathlib.Core.Path.{◌≡◌, ◌∙◌}
use mathlib.Core.Bool.{Bool, true, false, cond}
use mathlib.Core.List.{List}
use Prim.Native.Nat.{ℕ, ◌-◌, ◌≤◌, ◌<◌}
use native.Mathlib.Omega.{arith}
use lib.ListN.{length, take, drop, length-drop, length-take}
use lib.Seq.{take_all}
use Rattle.std.specs.Prelude.{Option, Some, None}
use Rattle.words.specs.Words.{same_word}
use Rattle.words.proofs.Words.{same_differ}
use Rattle.numbers.specs.Integers.{natural}
use Rattle.numbers.proofs.Integers.{natural-small}
use Rattle.keywords.specs.Keywords.{number_after}

module _ (p : List ℕ) (top : ℕ) (w : List ℕ) where
  pub no_prefix : false ≡ same_word (take (length p) w) p → None ≡ number_after p top w
  unfolding number_after
  no_prefix e = simp (← e)

  pub too_short : length w < length p → None ≡ number_after p top w
  too_short h = no_prefix (same_differ (take (length p) w) p (λ e. omega (arith, length-take (length p) w)))

  pub behind : (r : Option ℕ) → true ≡ same_word (take (length p) w) p
      → r ≡ natural top (take (length w - length p) (drop (length p) w))
      → r ≡ number_after p top w
  unfolding number_after
  behind r e f =
      f ∙ simp (← e, take_all (length w - length p) (drop (length p) w) (omega (arith, length-drop (length p) w)))

  pub small : (n : ℕ) → number_after p top w ≡ Some n → n ≤ top
  unfolding number_after
  small n e = by (same_word (take (length p) w) p) e
    where
      by : (t : Bool) → cond t (natural top (drop (length p) w)) None ≡ Some n → n ≤ top
      by true e = natural-small top (drop (length p) w) n e
      by false e = let z : ◌≡◌ {A = ℕ} 0 1 = cc in omega arith
