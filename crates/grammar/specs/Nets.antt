-- The net of each level (document 01's word): the sum of its own actions' deltas in written order, bodies not counted, or
-- undetermined with the number of the first of the seven.
use Rattle.std.specs.Prelude.{Bool, true, false, List, [], ◌∷◌, map, ℕ, suc, ◌+◌, ℤ, pos, ◌+ℤ◌, length}
use Rattle.std.proofs.Math.Option.{Option, none, some}
use Rattle.pcode.specs.Deltas.{delta_of}
use Rattle.lexemes.specs.Lexemes.{Lexeme, lexeme}
use Rattle.grammar.specs.Grammar.{Items, done, label, action}
use Rattle.grammar.specs.Reading.{Opened, opened, actions_inside, Has}

pub data Net : Type 0 where
  height : ℤ → Net
  undetermined : ℕ → Net

-- whether the first operand's raw text, a function's name, is empty
abbrev pub name_is_empty : List Lexeme → Bool
name_is_empty [] = false
name_is_empty (lexeme i k [] ∷ os) = true
name_is_empty (lexeme i k (b ∷ w) ∷ os) = false

-- at the height h: the delta of action a, and then `rest`, given the new height
abbrev pub moved : Option ℤ → ℕ → ℤ → (ℤ → Net) → Net
moved none a h rest = undetermined a
moved (some d) a h rest = rest (h +ℤ d)

-- the net of a level from the height h on, the next action being a
abbrev pub net_from : ℕ → ℤ → Items → Net
net_from a h done = height h
net_from a h (label t x) = net_from a h x
net_from a h (action n os bs x) = moved (delta_of n (length os) (name_is_empty os)) a h (λ g. net_from (suc a + actions_inside bs) g x)

-- one for each level
unfoldable pub nets : Items → List Net
nets x = map (λ (l : Opened). net_from l.first (pos 0) l.items) (opened x)

-- the levels of the tokens have these nets
abbrev pub Nets : List Lexeme → List Net → Type 0
Nets ts l = Has nets ts l
