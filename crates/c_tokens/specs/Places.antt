-- What the calls for C return and write of an action's name and of a place in a text. `old` is what the caller's array held.
use Rattle.std.specs.Prelude.{cond, List, [], ◌∷◌, ◌++◌, ℕ, ltb, length, drop, get_or}
use Rattle.std.proofs.lemmas.List.Edits.{sets}
use Rattle.words.specs.Spellings.{spellings}
use Rattle.places.specs.Places.{line_at, column_at}

-- the spelling of the action of that number; no letters where no action has it
abbrev pub name_of : ℕ → List ℕ
name_of n = get_or spellings n []

-- a word, and behind it what stood there; all as it was where the word has no room
abbrev pub word_after : List ℕ → List ℕ → List ℕ
word_after w old = cond (ltb (length old) (length w)) old (w ++ drop (length w) old)

-- line and column of the byte `at`
abbrev pub place_after : List ℕ → ℕ → List ℕ → List ℕ
place_after text at old = sets old 0 (line_at text at ∷ column_at text at ∷ [])
