-- The characters of a text by UTF-8's table, one after another: what `code_points` counts in a text that is UTF-8.
use Rattle.std.specs.Prelude.{List, [], ◌∷◌, ℕ, zero, suc, ◌-◌}
use Rattle.utf8.specs.Utf8.{char_len}

-- where the first k bytes end a character already begun
unfoldable pub characters_from : List ℕ → ℕ → ℕ
characters_from [] k = 0
characters_from (b ∷ s) zero = suc (characters_from s (char_len (b ∷ s) - 1))
characters_from (b ∷ s) (suc k) = characters_from s k
