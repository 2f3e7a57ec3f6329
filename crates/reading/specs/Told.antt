-- What leads from a text to the tables of its reading: its tokens and the log of its tree, then its tables, then the lent ones.
use Rattle.std.specs.Prelude.{◌≡◌, List, map, ℕ, ◌*◌, ◌≤◌, ◌<◌, length, take, get_or, Result, Ok, Err}
use Rattle.answers.specs.Answers.{accepted, refusal}
use Rattle.answers.specs.declared.Refusal.{Refusal}
use Rattle.lexer.specs.Lexing.{lex_text}
use Rattle.tokens.specs.declared.Token.{Token}
use Rattle.tokens.specs.Tokens.{word_of}
use Rattle.lexemes.specs.Lexemes.{Lexeme, numbered, place_of}
use Rattle.grammar.specs.Grammar.{Items, Text}
use Rattle.grammar.specs.Reading.{opened_of, reading_of}
use Rattle.grammar.specs.Nets.{nets}
use Rattle.grammar.specs.Refusals.{Outcome, Answers}
use Rattle.grammar.specs.Trees.{size}
use Rattle.classes.specs.Lexemes.{lexeme_of}
use Rattle.parser.specs.Parsed.{log_of}
use Rattle.reading.specs.declared.Parsed.{Parsed}
use Rattle.reading.specs.Trees.{AllOf, named_of}
use Rattle.reading.specs.Tables.{front, action_words, operand_words, level_words}

-- ---- a text's tokens and its tree

-- a token of a tree stands at its place
abbrev pub Of : List ℕ → List ℕ → Lexeme → Type 0
Of text s t = (place_of t < length s) × (t ≡ lexeme_of text (place_of t) (get_or s (place_of t) 0))

pub record Known (text s : List ℕ) (x : Items) : Type 0 where
  pub known : AllOf (Of text s) x
  pub few : length s ≤ 65536
  pub small : size x ≤ length s
  pub named_half : 2 * length (named_of 0 1 0 x) ≤ length s
  pub opened_half : 2 * length (opened_of 0 x) ≤ length s

-- the words s of a text's tokens, and the log of its tree
pub record Logged (text : List ℕ) (room : ℕ) (s log : List ℕ) : Type 0 where
  pub tokens : List Token
  pub lexed : lex_text text room ≡ accepted tokens
  pub words : s ≡ map word_of tokens
  pub in_room_lem : length s ≤ room
  pub in_text : length s ≤ length text
  pub tree : Items
  pub fits : Text (numbered 0 text tokens) tree
  pub outcome : Outcome (numbered 0 text tokens) (accepted (reading_of tree))
  pub of : Known text s tree
  pub log-of : log ≡ log_of tree
  pub events : length log ≤ length s

-- refusals 3 to 7, whatever the other tables; or the tokens and the events at the front of their tables
unfoldable pub Parses : List ℕ → ℕ → List ℕ → List ℕ → Result Parsed Refusal → Type 0
Parses text room s log (Err r) = (places : List ℕ) → Answers room places text (refusal r)
Parses text room s log (Ok p) = Logged text room (take p.tokens s) (take p.events log) × ((p.tokens ≤ length s) × (p.events ≤ length log))

-- ---- the lent tables

pub record Filled (x : Items) (xs os ls xs' os' ls' : List ℕ) : Type 0 where
  pub actions : xs' ≡ front (action_words (reading_of x)) xs
  pub operands : os' ≡ front (operand_words (reading_of x)) os
  pub levels : ls' ≡ front (level_words (reading_of x) (nets x)) ls
