-- What holds of each of a list of actions holds of any action that is one of them. Assumes nothing.
use mathlib.Core.Path.{◌≡◌, refl, sym, subst}
use mathlib.Core.Bool.{Bool, true, false, ◌||◌, false≢true}
use mathlib.Core.List.{List, [], ◌∷◌}
use borrow.Author.Tests.{eqb-true}
use Rattle.names.specs.declared.ActionName.{ActionName}
use Rattle.actions.specs.Numbers.{is_action, number_of, one_of}
use Rattle.actions.proofs.Numbers.{same_number}

module _ (P : ActionName → Type 0) where
  abbrev pub Each : List ActionName → Type 0
  Each [] = Unit {0}
  Each (b ∷ l) = P b × Each l

  pub one-of : (l : List ActionName) → Each l → (a : ActionName) → one_of a l ≡ true → P a
  one-of [] p a e = absurd (false≢true e)
  one-of (b ∷ l) p a e = by (is_action a b) refl (one-of l p.1 a) e
    where
      by : (t : Bool) → is_action a b ≡ t → (one_of a l ≡ true → P a) → (t || one_of a l) ≡ true → P a
      by true h g e = subst P (sym (same_number a b (eqb-true (number_of a) (number_of b) h))) p.0
      by false h g e = g e
