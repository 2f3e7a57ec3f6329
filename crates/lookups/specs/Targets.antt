-- Where a jump goes.
use Rattle.std.specs.Prelude.{cond, List, [], ◌∷◌, ℕ, Option, Some, None}
use Rattle.entries.specs.Entries.{label_of}
use Rattle.label_names.specs.Names.{is_named}

-- the position of the first label of that level and name
unfoldable pub target_in : List ℕ → List ℕ → ℕ → List ℕ → List ℕ → Option ℕ
target_in text s level name [] = None
target_in text s level name (w ∷ ws) = cond (is_named text s level name w) (Some (label_of w).position) (target_in text s level name ws)
