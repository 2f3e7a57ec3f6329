-- What the inner functions of lexing ensure of their scratch table. Of the calls for other crates only `lex_into` cites it.
use Rattle.std.specs.Prelude.{◌≡◌, List, [], map, ℕ, ◌≤◌, length, take, Result, Ok, Err}
use Rattle.answers.specs.Answers.{Answer, accepted, refused}
use Rattle.answers.specs.declared.Refusal.{Refusal}
use Rattle.tokens.specs.declared.Token.{Token}
use Rattle.tokens.specs.Tokens.{word_of}
use Rattle.lexer.specs.Lexing.{Handed, answer, counted, fitting, lex_from}

abbrev pub count_of : Result ℕ Refusal → ℕ
count_of (Ok n) = n
count_of (Err r) = 0

abbrev pub words_of : Answer (List Token) → List ℕ
words_of (accepted l) = map word_of l
words_of (refused n p) = []

-- the answer for a text of UTF-8, and the words at the front of the scratch table x
pub record Stored (s x : List ℕ) (r : Result ℕ Refusal) : Type 0 where
  pub answered : answer r ≡ counted (lex_from s 0 0)
  pub words : take (count_of r) x ≡ words_of (lex_from s 0 0)
  pub few : count_of r ≤ length s

-- rows 3 to 5
abbrev pub LexesUtf8 : List ℕ → List ℕ → List ℕ → Result ℕ Refusal → Type 0
LexesUtf8 s x y r = Handed (fitting (length x) (lex_from s 0 0)) x y r
