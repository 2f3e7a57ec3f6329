-- A call that works on a text first refuses it as reading does (document 01, 'The call'); of a text that reading accepts it answers by the
-- text's one tree.
use Rattle.std.specs.Prelude.{◌≡◌, List, ℕ, length}
use Rattle.answers.specs.Answers.{Answer, accepted, refused}
use Rattle.lexer.specs.Lexing.{lex_text}
use Rattle.tokens.specs.declared.Token.{Token}
use Rattle.lexemes.specs.Lexemes.{numbered}
use Rattle.grammar.specs.Grammar.{Items}
use Rattle.grammar.specs.Reading.{Reading, Has}
use Rattle.grammar.specs.Refusals.{Answers}
use Rattle.handover.specs.Reading.{Tables, places}

-- with the tables x lent; `f` of the tree
pub data Asked {A L : Type 0} (f : Items → Answer A) (x : Tables L) (text : List ℕ) : Answer A → Type 0 where
  unread : {n p : ℕ} → Answers (length x.tokens) (places x) text (refused n p) → Asked f x text (refused n p)
  read : {ts : List Token} {R : Reading} {a : Answer A} →
      lex_text text (length x.tokens) ≡ accepted ts → Answers (length x.tokens) (places x) text (accepted R) →
      Has f (numbered 0 text ts) a → Asked f x text a
