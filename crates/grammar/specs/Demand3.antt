-- Demand 3's words: when reading accepts, and when it answers 6. No contract cites them: the theorems `accepts_exactly_when`
-- and `six_exactly_when` tie them to `Answers`, which the contracts cite.
use Rattle.std.specs.Prelude.{◌≡◌, List, ℕ, ◌<◌}
use Rattle.answers.specs.Answers.{accepted}
use Rattle.lexer.specs.Lexing.{lex_text}
use Rattle.tokens.specs.declared.Token.{Token}
use Rattle.lexemes.specs.Lexemes.{Lexeme, numbered}
use Rattle.grammar.specs.Reading.{Reading, Reads, Grammatical}
use Rattle.grammar.specs.Refusals.{NotGrammatical, TooDeep, Short}

-- the written grammar gives the tokens exactly one reading, R
pub record OneReading (ts : List Lexeme) (R : Reading) : Type 0 where
  pub reads : Reads ts R
  pub only : {Q : Reading} → Reads ts Q → Q ≡ R

-- none of 1 to 5, 7, 8 applies to the text, and its tokens have exactly one reading, R
pub record Acceptable (room : ℕ) (places text : List ℕ) (R : Reading) : Type 0 where
  pub tokens : List Token
  pub none-of_1_to_5 : lex_text text room ≡ accepted tokens
  pub no_7 : (k : ℕ) → ¬ TooDeep (numbered 0 text tokens) k
  pub no_8 : (k : ℕ) → ¬ Short places R k
  pub one-reading : OneReading (numbered 0 text tokens) R

-- none of 1 to 5 applies to the text, its tokens have no reading, and no 7 comes before the place where they go wrong
pub record Unreadable (room : ℕ) (text : List ℕ) : Type 0 where
  pub tokens : List Token
  pub none-of_1_to_5 : lex_text text room ≡ accepted tokens
  pub no_reading : ¬ Grammatical (numbered 0 text tokens)
  pub no_7_earlier : (k j : ℕ) → NotGrammatical (numbered 0 text tokens) k → j < k → ¬ TooDeep (numbered 0 text tokens) j
