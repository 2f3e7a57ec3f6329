-- The net of a level behind its next action, from the words of its operands.
use Rattle.std.specs.Prelude.{Bool, true, false, cond, List, [], ◌∷◌, ℕ, ltb, ℤ, ◌+ℤ◌, get_or}
use Rattle.std.proofs.Math.Option.{Option, none, some}
use Rattle.tokens.specs.Tokens.{token_of, raw_text}
use Rattle.entries.specs.declared.Net.{Net}
use Rattle.entries.specs.declared.Net.TheVariants as N
use Rattle.entries.specs.Entries.{operand_of}

abbrev pub is_empty : List ℕ → Bool
is_empty [] = true
is_empty (b ∷ w) = false

-- whether there is a first operand and its raw text is empty
unfoldable pub first_is_empty : (text s operands : List ℕ) → ℕ → ℕ → Bool
first_is_empty text s operands from to =
    cond (ltb from to) (is_empty (raw_text text (token_of (get_or s (operand_of (get_or operands from 0)).token 0)))) false

-- the net of a level behind its action a
abbrev pub moved_by : Option ℤ → ℕ → Net → Net
moved_by d a (N.Undetermined b) = N.Undetermined b
moved_by none a (N.Height h) = N.Undetermined a
moved_by (some z) a (N.Height h) = N.Height (h +ℤ z)
