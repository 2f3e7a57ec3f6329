-- The number of an action and the action of a number are each other's inverse; a rule on numbers is a rule on actions. Assumes nothing.
use mathlib.Core.Path.{◌≡◌, refl, ap, sym, ◌∙◌}
use Prim.Native.Nat.{ℕ, ◌<◌}
use denote.Enum.Enum.{tag_below}
use denote.Enum.Declared.{rowss}
use Rattle.laws.proofs.Tabulate.{agree}
use Rattle.laws.proofs.Variants.{found}
use Rattle.names.specs.contracts.ActionName.{enum, the_parts as parts, the_type}
use Rattle.names.specs.declared.ActionName.{ActionName}
use Rattle.names.specs.declared.ActionName.TheVariants.{Add}
use Rattle.actions.specs.Numbers.{action_at, number_of}

pub number_below : (a : ActionName) → number_of a < 100
unfolding number_of
number_below a = tag_below (rowss parts) (the_type.to a)

pub action-number : (a : ActionName) → action_at (number_of a) ≡ a
unfolding number_of
action-number a = found enum Add a tt

pub number-action : (n : ℕ) → n < 100 → number_of (action_at n) ≡ n
unfolding number_of
number-action n h = agree (λ k. number_of (action_at k)) (λ k. k) 100 n refl h

pub same_number : (a b : ActionName) → number_of a ≡ number_of b → a ≡ b
same_number a b e = sym (action-number a) ∙ ap action_at e ∙ action-number b
