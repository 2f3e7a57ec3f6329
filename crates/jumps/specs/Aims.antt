-- The label that an If or a Jump names, in its level.
use Rattle.std.specs.Prelude.{cond, List, [], ◌∷◌, ℕ, zero, suc, get_or}
use Rattle.tokens.specs.Tokens.{token_of, raw_text}
use Rattle.entries.specs.Entries.{action_of, operand_of, label_of}
use Rattle.label_names.specs.Names.{is_named}
use Rattle.movies.specs.Movie.{Value, position, missing}

-- the raw text of a token
abbrev pub name_at : List ℕ → List ℕ → ℕ → List ℕ
name_at text s token = raw_text text (token_of (get_or s token 0))

-- one more than the position of the first label of that level and name; 0 where there is none
abbrev pub aim_in : List ℕ → List ℕ → ℕ → List ℕ → List ℕ → ℕ
aim_in text s level name [] = 0
aim_in text s level name (w ∷ ws) = cond (is_named text s level name w) (suc (label_of w).position) (aim_in text s level name ws)

-- of action i, whose first operand names the label
unfoldable pub aim_at : (text s actions operands : List ℕ) → ℕ → List ℕ → ℕ
aim_at text s actions operands i labels =
    let a = action_of (get_or actions i 0) in
    aim_in text s a.level (name_at text s (operand_of (get_or operands a.first 0)).token) labels

-- what a jump's operand is worth
abbrev pub aimed : ℕ → Value
aimed zero = missing
aimed (suc p) = position p
