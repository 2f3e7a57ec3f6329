-- Tokens, lists of tokens, readings and answers that differ only in which strings are closed, and in places as far as `At` lets them:
-- document 02, 'demand 2's equality leaves it and the count out. What is accepted is unchanged.'
use Rattle.std.specs.Prelude.{◌≡◌, Bool, List, [], ◌∷◌, ℕ}
use Rattle.answers.specs.Answers.{Answer, accepted, refused}
use Rattle.tokens.specs.declared.TokenKind.{TokenKind}
use Rattle.tokens.specs.declared.TokenKind.TheVariants as K
use Rattle.lexemes.specs.Lexemes.{Lexeme, lexeme}
use Rattle.grammar.specs.Reading.{Operand, Level, Label, Reading}

-- two lists of one length, entry by entry
pub data Each {X : Type 0} (P : X → X → Type 0) : List X → List X → Type 0 where
  none : Each P [] []
  next : {a b : X} {l r : List X} → P a b → Each P l r → Each P (a ∷ l) (b ∷ r)

-- all of a level but its count of unclosed strings
pub record LevelAlike (l k : Level) : Type 0 where
  pub owner : l.owner ≡ k.owner
  pub actions : l.actions ≡ k.actions

-- how the places of two tokens may go together: they are the same
abbrev pub InPlace : ℕ → ℕ → Type 0
InPlace i j = i ≡ j

-- or each is any
abbrev pub Anywhere : ℕ → ℕ → Type 0
Anywhere i j = Unit {0}

module _ (At : ℕ → ℕ → Type 0) where
  -- two tokens of one kind and one raw text, or two strings of one raw text, each closed or not; their places may differ too, as `At` says
  pub data Alike : Lexeme → Lexeme → Type 0 where
    same : {i j : ℕ} {k : TokenKind} {w : List ℕ} → At i j → Alike (lexeme i k w) (lexeme j k w)
    quoted : {i j : ℕ} {c d : Bool} {w : List ℕ} → At i j → Alike (lexeme i (K.String c) w) (lexeme j (K.String d) w)

  pub record OperandAlike (o p : Operand) : Type 0 where
    pub action : o.action ≡ p.action
    pub token : Alike o.token p.token

  pub record LabelAlike (l k : Label) : Type 0 where
    pub level : l.level ≡ k.level
    pub name : Alike l.name k.name
    pub position : l.position ≡ k.position

  pub record ReadingAlike (R Q : Reading) : Type 0 where
    pub actions : R.actions ≡ Q.actions
    pub operands : Each OperandAlike R.operands Q.operands
    pub levels : Each LevelAlike R.levels Q.levels
    pub labels : Each LabelAlike R.labels Q.labels

  -- the same refusal at the same place, or readings that are alike
  pub data AnswerAlike : Answer Reading → Answer Reading → Type 0 where
    refuse : {n k : ℕ} → AnswerAlike (refused n k) (refused n k)
    accept : {R Q : Reading} → ReadingAlike R Q → AnswerAlike (accepted R) (accepted Q)
