-- Claims on closed texts, written short: a text's bytes, the reading that it has, with the values of its operands, or its refusal
-- and place. Assumes nothing.
use mathlib.Core.Path.{◌≡◌, refl}
use mathlib.Core.Bool.{true}
use mathlib.Core.List.{List, [], ◌∷◌, map}
use mathlib.Core.Option.{Option, none, some}
use Prim.Native.Nat.{ℕ, ◌+◌}
use lib.Ieee.{Float}
use lib.IntN.{ℤ, pos, neg_ℤ}
use lib.ListN.{length}
use Rattle.names.specs.declared.ActionName.{ActionName}
use Rattle.answers.specs.Answers.{Answer, accepted, refused}
use Rattle.tokens.specs.declared.TokenKind.{TokenKind}
use Rattle.tokens.specs.declared.TokenKind.TheVariants as K
use Rattle.tokens.specs.Tokens.{span}
use Rattle.lexer.specs.Lexing.{lex_text}
use Rattle.values.specs.declared.PushValue.{PushValue}
use Rattle.values.specs.declared.PushValue.TheVariants as P
use Rattle.lexemes.specs.Lexemes.{Lexeme, lexeme}
use Rattle.lexemes.specs.Operands.{value_of}
use Rattle.lexemes.specs.Events.{Part}
use Rattle.grammar.specs.Grammar.{Items}
use Rattle.grammar.specs.Reading.{Action, Operand, Level, Label, Reading, reading_of}
use Rattle.grammar.specs.Nets.{Net, height, Nets, nets}
use Rattle.grammar.specs.Refusals.{entries, Answers}
use Rattle.grammar.specs.Trees.{events}
use Rattle.grammar.proofs.Computed.{room, places, all_fit, lexed, Lexed, emitted, fault-at, deep-at, run-of, text_of, read_as, six_at, seven_at, unlexed_at}

-- ---- entries

-- an action of a level
abbrev pub act : ActionName → ℕ → Action
act n ℓ = record { name = n; level = ℓ }

pub record Valued : Type 0 where
  pub operand : Operand
  pub value : Option PushValue

-- under action a: the token i of a kind, its raw text, its value
abbrev pub op : ℕ → ℕ → TokenKind → List ℕ → Option PushValue → Valued
op a i k w v = record { operand = record { action = a; token = lexeme i k w }; value = v }

pub record Netted : Type 0 where
  pub level : Level
  pub net : Net

-- the top level, with so many actions and its net, every string closed
abbrev pub top : ℕ → Net → Netted
top c n = record { level = record { owner = none; actions = c; unclosed = 0 }; net = n }

-- a block of action a
abbrev pub of : ℕ → Part → ℕ → Net → Netted
of a p c n = record { level = record { owner = some (record { action = a; part = p }); actions = c; unclosed = 0 }; net = n }

-- a level with that many unclosed strings
abbrev pub lacking : ℕ → Netted → Netted
lacking k l = record { level = record { owner = l.level.owner; actions = l.level.actions; unclosed = k }; net = l.net }

abbrev pub up : ℕ → Net
up n = height (pos n)

abbrev pub down : ℕ → Net
down n = height (neg_ℤ (pos n))

abbrev pub whole : ℤ → Option PushValue
whole z = some (P.Integer z)

abbrev pub double : Float → Option PushValue
double x = some (P.Float x)

-- a string of n bytes
abbrev pub letters : ℕ → Option PushValue
letters n = some (P.String (span 0 n))

-- in a level: the token i, its name, its position
abbrev pub at : ℕ → ℕ → List ℕ → ℕ → Label
at ℓ i w p = record { level = ℓ; name = lexeme i K.Identifier w; position = p }

-- ---- claims

pub record Case : Type 0 where
  pub text : List ℕ
  pub answer : Answer Reading
  pub values : List (Option PushValue)
  pub nets : List Net

abbrev pub reads : List ℕ → List Action → List Valued → List Netted → List Label → Case
reads s a o l b =
    record {
      text = s;
      answer = accepted (record { actions = a; operands = map (λ (v : Valued). v.operand) o; levels = map (λ (n : Netted). n.level) l; labels = b });
      values = map (λ (v : Valued). v.value) o;
      nets = map (λ (n : Netted). n.net) l;
    }

abbrev pub refuses : List ℕ → ℕ → ℕ → Case
refuses s n p = record { text = s; answer = refused n p; values = []; nets = [] }

abbrev values_of : Answer Reading → List (Option PushValue)
values_of (accepted R) = map (λ (o : Operand). value_of o.token) R.operands
values_of (refused n p) = []

abbrev HasNets : Answer Reading → List Lexeme → List Net → Type 0
HasNets (accepted R) ts l = Nets ts l
HasNets (refused n p) ts l = Unit {0}

pub record Told (c : Case) : Type 0 where
  pub answered : Answers room places c.text c.answer
  pub valued : values_of c.answer ≡ c.values
  pub netted : HasNets c.answer (lexed c.text) c.nets

infixr 50 ◌also◌
pub data AllTold : List Case → Type 0 where
  no_more : AllTold []
  ◌also◌ : {c : Case} {cs : List Case} → Told c → AllTold cs → AllTold (c ∷ cs)

-- ---- by computation

-- a text that reads as the tree x
pub read_told : {s : List ℕ} {v : List (Option PushValue)} {l : List Net} (x : Items) → Lexed s → all_fit places (entries (reading_of x)) ≡ true →
    run-of (lexed s) ≡ emitted (events x []) → values_of (accepted (reading_of x)) ≡ v → nets x ≡ l →
    Told (record { text = s; answer = accepted (reading_of x); values = v; nets = l })
read_told {s = s} x e h r v n =
    record { answered = read_as s x e h r; valued = v; netted = record { tree = x; fits = text_of (lexed s) x r; told = n } }

-- a text that is refused at its token k, with n tokens left
pub six_told : {s : List ℕ} (k n : ℕ) → Lexed s → k + n ≡ length (lexed s) → run-of (lexed s) ≡ fault-at n → Told (refuses s 6 k)
six_told {s = s} k n e h r = record { answered = six_at s k n e h r; valued = refl; netted = tt }

pub seven_told : {s : List ℕ} (k n : ℕ) → Lexed s → k + n ≡ length (lexed s) → run-of (lexed s) ≡ deep-at n → Told (refuses s 7 k)
seven_told {s = s} k n e h r = record { answered = seven_at s k n e h r; valued = refl; netted = tt }

-- a text that lexing refuses
pub lexing_told : {s : List ℕ} (n p : ℕ) → lex_text s room ≡ refused n p → Told (refuses s n p)
lexing_told {s = s} n p e = record { answered = unlexed_at s n p e; valued = refl; netted = tt }
