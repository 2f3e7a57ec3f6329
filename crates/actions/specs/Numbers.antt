-- The number of an action, the action of a number, and tests of an action against others.
use Rattle.std.specs.Prelude.{Bool, false, ◌||◌, List, [], ◌∷◌, map, ℕ, eqb, get_or}
use denote.Enum.Declared.{tag_of}
use Rattle.names.specs.contracts.ActionName.{the_type}
use Rattle.names.specs.declared.ActionName.{ActionName}
use Rattle.names.specs.declared.ActionName.TheVariants.{Add}
use Rattle.names.specs.Names.{Name, names}

abbrev pub actions : List ActionName
actions = map (λ (x : Name). x.action) names

-- the action at a place of the list; `Add` past its end
abbrev pub action_at : ℕ → ActionName
action_at n = get_or actions n Add

-- the place of an action's variant in the enum: its place in the list (`Numbers` in proofs/)
unfoldable pub number_of : ActionName → ℕ
number_of a = tag_of the_type a

abbrev pub is_action : ActionName → ActionName → Bool
is_action a b = eqb (number_of a) (number_of b)

abbrev pub one_of : ActionName → List ActionName → Bool
one_of a [] = false
one_of a (b ∷ l) = is_action a b || one_of a l
