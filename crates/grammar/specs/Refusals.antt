-- Refusals 6, 7 and 8, and what reading answers: document 01, the table in 'The call' and what stands under it.
use Rattle.std.specs.Prelude.{◌≡◌, true, List, [], ◌∷◌, ◌++◌, ◌⊎◌, ℕ, suc, ◌+◌, ◌<◌, ◌≤◌, length, take, get_or}
use Rattle.answers.specs.Answers.{Answer, accepted, refused}
use Rattle.lexer.specs.Lexing.{lex_text}
use Rattle.tokens.specs.declared.Token.{Token}
use Rattle.tokens.specs.declared.TokenKind.TheVariants as K
use Rattle.lexemes.specs.Lexemes.{Lexeme, lexeme, numbered, is_of, count_of}
use Rattle.grammar.specs.Reading.{Reading, Reads, Grammatical}

-- some grammatical list begins with p
abbrev pub Begins : List Lexeme → Type 0
Begins p = (q : List Lexeme) × Grammatical (p ++ q)

-- ---- the place of 6

-- the least k such that the first k + 1 tokens begin no grammatical list
pub record FirstBad (ts : List Lexeme) (k : ℕ) : Type 0 where
  pub inside : k < length ts
  pub bad : ¬ Begins (take (suc k) ts)
  pub least : (j : ℕ) → j < k → Begins (take (suc j) ts)

-- the text merely ends early: the token count
pub record EndsEarly (ts : List Lexeme) (k : ℕ) : Type 0 where
  pub at-end : k ≡ length ts
  pub begins : Begins ts
  pub unread : ¬ Grammatical ts

abbrev pub NotGrammatical : List Lexeme → ℕ → Type 0
NotGrammatical ts k = FirstBad ts k ⊎ EndsEarly ts k

-- ---- the place of 7

-- so many blocks may be open at once
abbrev pub limit : ℕ
limit = 64

-- at k stands a `{` that some grammatical list has after the tokens before it, while `limit` blocks or more are open: the
-- `{` before it less the `}` before it
pub record TooDeep (ts : List Lexeme) (k : ℕ) : Type 0 where
  pub opens : is_of K.OpenBrace (get_or ts k (lexeme k K.Unknown [])) ≡ true
  pub begins : Begins (take (suc k) ts)
  pub full : count_of K.CloseBrace (take k ts) + limit ≤ count_of K.OpenBrace (take k ts)

-- ---- the refusals: of 6 and 7 the earlier place wins

pub record Refusal₆ (ts : List Lexeme) (k : ℕ) : Type 0 where
  pub ungrammatical : NotGrammatical ts k
  pub earlier : (j : ℕ) → j < k → ¬ TooDeep ts j

pub record Refusal₇ (ts : List Lexeme) (k : ℕ) : Type 0 where
  pub deep : TooDeep ts k
  pub first : (j : ℕ) → j < k → ¬ TooDeep ts j
  pub earlier : (j : ℕ) → j < k → ¬ NotGrammatical ts j

-- what reading makes of a list of tokens, tables aside: 6, 7, or a reading and no block too deep
pub data Outcome (ts : List Lexeme) : Answer Reading → Type 0 where
  row₆ : {k : ℕ} → Refusal₆ ts k → Outcome ts (refused 6 k)
  row₇ : {k : ℕ} → Refusal₇ ts k → Outcome ts (refused 7 k)
  reads : {R : Reading} → Reads ts R → ((k : ℕ) → ¬ TooDeep ts k) → Outcome ts (accepted R)

-- ---- 8: a table is too short if a reading has more entries for it than it has places; the lowest table

-- the entries of a reading for tables 0 to 3
abbrev pub entries : Reading → List ℕ
entries R = length R.actions ∷ length R.operands ∷ length R.levels ∷ length R.labels ∷ []

abbrev pub Short : List ℕ → Reading → ℕ → Type 0
Short places R k = get_or places k 0 < get_or (entries R) k 0

pub record Refusal₈ (places : List ℕ) (ts : List Lexeme) (k : ℕ) : Type 0 where
  pub reading : Reading
  pub outcome : Outcome ts (accepted reading)
  pub short : Short places reading k
  pub lowest : (j : ℕ) → j < k → ¬ Short places reading j

-- ---- the answer to a text, rows top down, with `room` places for tokens and `places` for tables 0 to 3

pub data Answers (room : ℕ) (places text : List ℕ) : Answer Reading → Type 0 where
  rows₁₋₅ : {n p : ℕ} → lex_text text room ≡ refused n p → Answers room places text (refused n p)
  rows₆₋₇ : {ts : List Token} {n k : ℕ} →
      lex_text text room ≡ accepted ts → Outcome (numbered 0 text ts) (refused n k) → Answers room places text (refused n k)
  row₈ : {ts : List Token} {k : ℕ} →
      lex_text text room ≡ accepted ts → Refusal₈ places (numbered 0 text ts) k → Answers room places text (refused 8 k)
  fits : {ts : List Token} {R : Reading} →
      lex_text text room ≡ accepted ts → Outcome (numbered 0 text ts) (accepted R) → ((k : ℕ) → ¬ Short places R k) → Answers room places text (accepted R)
