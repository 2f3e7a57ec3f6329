-- An arm of several actions, or of all the others: a function that has one value at each of them has it at the action matched on.
-- Assumes nothing.
use mathlib.Core.Path.{◌≡◌, ap, sym, ◌∙◌}
use mathlib.Core.Logic.{inl, inr}
use mathlib.Core.List.{List, [], ◌∷◌, map}
use mathlib.Core.Bool.{cond}
use lib.ListN.{length, replicate}
use types.Run.{OneOf}
use Rattle.names.specs.declared.ActionName.{ActionName}
use Rattle.actions.specs.Numbers.{actions, number_of, one_of}
use Rattle.actions.proofs.Numbers.{same_number}

module _ {S : Type 0} (f : ActionName → S) (v : S) (a : ActionName) where
  first : (b : ActionName) → f b ≡ v → number_of a ≡ number_of b → v ≡ f a
  first b e h = sym (ap f (same_number a b h) ∙ e)

  -- e is shown by `refl`: the values compute
  pub arm : (l : List ActionName) → map f l ≡ replicate (length l) v → OneOf (map number_of l) (number_of a) → v ≡ f a
  arm [] e h = absurd h
  arm (b ∷ []) e h = let q : f b ≡ v = cc in first b q h
  arm (b ∷ c ∷ l) e (inl h) = let q : f b ≡ v = cc in first b q h
  arm (b ∷ c ∷ l) e (inr h) = let q : map f (c ∷ l) ≡ replicate (length (c ∷ l)) v = cc in arm (c ∷ l) q h

-- the actions that are none of the list, in their order
abbrev without : List ActionName → List ActionName → List ActionName
without l [] = []
without l (b ∷ bs) = cond (one_of b l) (without l bs) (b ∷ without l bs)

abbrev pub others : List ActionName → List ActionName
others l = without l actions
