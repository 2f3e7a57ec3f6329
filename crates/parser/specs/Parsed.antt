-- What parsing a list of tokens ensures, in the grammar's terms: the outcome, and, where there is a reading, a log of what is read.
use Rattle.std.specs.Prelude.{◌≡◌, List, [], ◌++◌, map, ℕ, length, drop, Result, Ok, Err}
use Rattle.answers.specs.Answers.{accepted, refused}
use Rattle.grammar.specs.Grammar.{Items, Text}
use Rattle.grammar.specs.Reading.{reading_of}
use Rattle.grammar.specs.Refusals.{Outcome}
use Rattle.grammar.specs.Trees.{events}
use Rattle.operands.specs.declared.At.{At}
use Rattle.operands.specs.declared.Unread.{Unread}
use Rattle.operands.specs.declared.Unread.TheVariants.{Bad, Deep}
use Rattle.classes.specs.Lexemes.{lexemes}
use Rattle.operands.specs.Log.{event_word}

-- the events of a tree, as words
abbrev pub log_of : Items → List ℕ
log_of x = map event_word (events x [])

-- the tokens are a text, in whose log the first words are the events of its tree
pub record Logged (text s a b : List ℕ) (c : At) : Type 0 where
  pub tree : Items
  pub fits : Text (lexemes text s) tree
  pub outcome : Outcome (lexemes text s) (accepted (reading_of tree))
  pub count : c.events ≡ length (log_of tree)
  pub log : b ≡ log_of tree ++ drop (length (log_of tree)) a

unfoldable pub Parsed : List ℕ → List ℕ → List ℕ → List ℕ → Result At Unread → Type 0
Parsed text s a b (Ok c) = Logged text s a b c
Parsed text s a b (Err (Bad k)) = Outcome (lexemes text s) (refused 6 k)
Parsed text s a b (Err (Deep k)) = Outcome (lexemes text s) (refused 7 k)
