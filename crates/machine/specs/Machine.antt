-- A pushdown machine for the grammar: a stack of symbols, the top one replaced at each token; no move without a token. It has
-- no output of its own: each move may have an event, and `run` hands the events to any `emit`.
use Rattle.std.specs.Prelude.{Bool, true, false, cond, List, [], ◌∷◌, ◌++◌, ℕ, suc, length}
use Rattle.std.proofs.Math.Option.{Option, some, none}
use Rattle.names.specs.declared.ActionName.{ActionName}
use Rattle.shapes.specs.Shapes.{shape_of}
use Rattle.tokens.specs.declared.TokenKind.{TokenKind}
use Rattle.tokens.specs.declared.TokenKind.TheVariants as K
use Rattle.tokens.specs.Kinds.{is_kind}
use Rattle.numbers.specs.Integers.{integer}
use Rattle.lexemes.specs.Lexemes.{Lexeme, lexeme}
use Rattle.lexemes.specs.Operands.{Class, string, bool, only_true, only_false, u16, target, is_operand, acting}
use Rattle.lexemes.specs.Events.{Part, body, try, catch, finally, Event, acted, named, given, opened, closed}
use Rattle.machine.specs.Plans.{Params, Plan, plain, listing, frame, function, within, trying, plan_of, behind_count}

-- ---- symbols

-- the whole text, or a block
pub data Nesting : Type 0 where
  top inner : Nesting

-- which handlers may still follow the action that ended last: none; finally; catch and finally, of a Try with or without a
-- target
pub data Handlers : Type 0 where
  no_handlers after-catch : Handlers
  after_try : Option Lexeme → Handlers

-- where in a level: before a label or an action; right behind an action; in a list of operands, before the first one or
-- behind one
pub data State : Type 0 where
  item ended : Handlers → State
  list₀ list₁ : Class → State

-- the marks that stand alone
pub data Punctuation : Type 0 where
  p_comma p_colon : Punctuation

abbrev pub kind-of : Punctuation → TokenKind
kind-of p_comma = K.Comma
kind-of p_colon = K.Colon

pub data Symbol : Type 0 where
  mark : Punctuation → Symbol
  operand : Class → Symbol
  flag : Symbol
  counted : Params → Symbol
  opens : Part → Symbol
  targets : Nesting → Symbol
  level : Nesting → State → Symbol

pub data Output : Type 0 where
  silent : Output
  out : Event → Output

pub data Move : Type 0 where
  stop : Move
  go : List Symbol → Output → Move

-- ---- the moves

abbrev pub further : List Class → List Symbol
further [] = []
further (c ∷ cs) = mark p_comma ∷ operand c ∷ further cs

-- the symbols of operands parted by commas
abbrev pub listed : List Class → List Symbol
listed [] = []
listed (c ∷ cs) = operand c ∷ further cs

-- what an action word puts in the place of its level
abbrev pub start : Plan → Nesting → List Symbol
start (plain cs) e = listed cs ++ (level e (ended no_handlers) ∷ [])
start (listing c) e = level e (list₀ c) ∷ []
start frame e = flag ∷ level e (ended no_handlers) ∷ []
start (function f) e = operand string ∷ mark p_comma ∷ counted f ∷ opens body ∷ level e (ended no_handlers) ∷ []
start within e = opens body ∷ level e (ended no_handlers) ∷ []
start trying e = targets e ∷ []

abbrev pub action_word_lem : TokenKind → Option ActionName
action_word_lem K.Newline = none
action_word_lem (K.String c) = none
action_word_lem K.Float = none
action_word_lem K.Integer = none
action_word_lem (K.Register n) = none
action_word_lem (K.Constant n) = none
action_word_lem (K.ActionName a) = some a
action_word_lem K.Identifier = none
action_word_lem K.Colon = none
action_word_lem K.Comma = none
action_word_lem K.OpenBrace = none
action_word_lem K.CloseBrace = none
action_word_lem K.True = none
action_word_lem K.False = none
action_word_lem K.Null = none
action_word_lem K.Undefined = none
action_word_lem K.Catch = none
action_word_lem K.Finally = none
action_word_lem K.Unknown = none

abbrev pub on_word : Nesting → Option ActionName → Move
on_word e none = stop
on_word e (some n) = go (start (plan_of (shape_of n)) e) (out (acted n))

abbrev pub on_close : Nesting → Move
on_close top = stop
on_close inner = go [] (out closed)

-- a target is given where its catch block is known to come
abbrev pub target-out : Option Lexeme → Output
target-out none = silent
target-out (some t) = out (given t)

abbrev pub on_catch : Nesting → Handlers → Move
on_catch e no_handlers = stop
on_catch e (after_try o) = go (opens catch ∷ level e (ended after-catch) ∷ []) (target-out o)
on_catch e after-catch = stop

abbrev pub on_finally : Nesting → Handlers → Move
on_finally e no_handlers = stop
on_finally e (after_try o) = go (opens finally ∷ level e (ended no_handlers) ∷ []) silent
on_finally e after-catch = go (opens finally ∷ level e (ended no_handlers) ∷ []) silent

abbrev pub on_count : Params → Lexeme → Option ℕ → Move
on_count f t none = stop
on_count f t (some n) = go (further (behind_count f n)) (out (given t))

abbrev pub move : Symbol → Lexeme → Move
move (mark c) (lexeme i k w) = cond (is_kind k (kind-of c)) (go [] silent) stop
move (operand c) t = cond (is_operand c t) (go [] (out (given t))) stop
move flag t =
    cond (is_operand only_true t) (go (further (bool ∷ u16 ∷ [])) (out (given t)))
    (cond (is_operand only_false t) (go (further (bool ∷ [])) (out (given t))) stop)
move (counted f) (lexeme i k w) = cond (is_kind k K.Integer) (on_count f (lexeme i k w) (acting (integer w))) stop
move (opens p) (lexeme i k w) = cond (is_kind k K.OpenBrace) (go (level inner (item no_handlers) ∷ []) (out (opened p))) stop
move (targets e) (lexeme i k w) =
    cond (is_kind k K.OpenBrace) (go (level inner (item no_handlers) ∷ level e (ended (after_try none)) ∷ []) (out (opened try)))
    (cond (is_operand target (lexeme i k w)) (go (opens try ∷ level e (ended (after_try (some (lexeme i k w)))) ∷ []) silent) stop)
move (level e (item h)) (lexeme i k w) =
    cond (is_kind k K.Newline) (go (level e (item h) ∷ []) silent)
    (cond (is_kind k K.Identifier) (go (mark p_colon ∷ level e (item no_handlers) ∷ []) (out (named (lexeme i k w))))
    (cond (is_kind k K.CloseBrace) (on_close e)
    (cond (is_kind k K.Catch) (on_catch e h)
    (cond (is_kind k K.Finally) (on_finally e h) (on_word e (action_word_lem k))))))
move (level e (ended h)) (lexeme i k w) = cond (is_kind k K.Newline) (go (level e (item h) ∷ []) silent) stop
move (level e (list₀ c)) (lexeme i k w) =
    cond (is_kind k K.Newline) (go (level e (item no_handlers) ∷ []) silent)
    (cond (is_operand c (lexeme i k w)) (go (level e (list₁ c) ∷ []) (out (given (lexeme i k w)))) stop)
move (level e (list₁ c)) (lexeme i k w) =
    cond (is_kind k K.Newline) (go (level e (item no_handlers) ∷ []) silent)
    (cond (is_kind k K.Comma) (go (operand c ∷ level e (list₁ c) ∷ []) silent) stop)

-- ---- runs

-- accepted with what was emitted, or refused with so many tokens left; none left: the text ends early
pub data Answer (S : Type 0) : Type 0 where
  accepted : S → Answer S
  refused : ℕ → Answer S

abbrev pub Accepts : {S : Type 0} → Answer S → Type 0
Accepts (accepted s) = Unit {0}
Accepts (refused n) = ⊥

-- the stack at the start of a text
abbrev pub text : List Symbol
text = level top (item no_handlers) ∷ []

-- the stacks at which the text may end
abbrev pub may_end : List Symbol → Bool
may_end [] = false
may_end (mark c ∷ σ) = false
may_end (operand c ∷ σ) = false
may_end (flag ∷ σ) = false
may_end (counted f ∷ σ) = false
may_end (opens p ∷ σ) = false
may_end (targets e ∷ σ) = false
may_end (level inner q ∷ σ) = false
may_end (level top q ∷ []) = true
may_end (level top q ∷ a ∷ σ) = false

module _ {S : Type 0} (emit : Event → S → S) where
  abbrev pub puts : Output → S → S
  puts silent s = s
  puts (out v) s = emit v s

  abbrev pub finish : Bool → S → Answer S
  finish true s = accepted s
  finish false s = refused 0

  -- how a run goes on by a move, with n tokens left
  abbrev pub proceed : Move → S → (List Symbol → S → Answer S) → ℕ → Answer S
  proceed stop s k n = refused n
  proceed (go α o) s k n = k α (puts o s)

  abbrev pub run : List Symbol → S → List Lexeme → Answer S
  run σ s [] = finish (may_end σ) s
  run [] s (t ∷ ts) = refused (suc (length ts))
  run (a ∷ σ) s (t ∷ ts) = proceed (move a t) s (λ α s'. run (α ++ σ) s' ts) (suc (length ts))

  -- what a stack can still read: some list that it accepts begins with p
  abbrev pub Can : List Symbol → S → List Lexeme → Type 0
  Can σ s p = (q : List Lexeme) × Accepts (run σ s (p ++ q))
