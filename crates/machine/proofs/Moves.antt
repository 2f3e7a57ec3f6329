-- The machine's moves as a relation: which token a symbol takes, and what comes in its place. `legal` says that `move` makes
-- no other; later proofs go by cases on this relation, and none takes `move` apart again. Assumes nothing.
use mathlib.Core.Path.{◌≡◌, refl}
use mathlib.Core.Bool.{Bool, true, cond}
use mathlib.Core.Option.{Option, some, none}
use mathlib.Core.List.{List, [], ◌∷◌}
use Prim.Native.Nat.{ℕ}
use Rattle.names.specs.declared.ActionName.{ActionName}
use Rattle.shapes.specs.Shapes.{shape_of}
use Rattle.tokens.specs.declared.TokenKind.{TokenKind}
use Rattle.tokens.specs.declared.TokenKind.TheVariants as K
use Rattle.tokens.specs.Kinds.{is_kind}
use Rattle.numbers.specs.Integers.{integer}
use Rattle.lexemes.specs.Lexemes.{Lexeme, lexeme}
use Rattle.lexemes.specs.Operands.{Class, bool, only_true, only_false, u16, target, count, is_operand, acting}
use Rattle.lexemes.specs.Events.{Part, try, catch, finally, acted, named, given, opened, closed}
use Rattle.lexemes.proofs.Tests.{chosen, kind-is, acting-acts}
use Rattle.machine.specs.Plans.{Params, plan_of, behind_count}
use Rattle.machine.specs.Machine.{Nesting, top, inner, Handlers, no_handlers, after_try, after-catch, State, item, ended, list₀, list₁, Punctuation, p_colon, kind-of, Symbol, mark, operand, flag, counted, opens, targets, level, Output, silent, out, target-out, Move, stop, go, further, start, action_word_lem, move, on_count, on_finally, on_word, on_close, on_catch}

-- the states in which a newline ends an action, and the handlers that may follow it
pub data Ends : State → Handlers → Type 0 where
  ends : {h : Handlers} → Ends (ended h) h
  ends₀ : {c : Class} → Ends (list₀ c) no_handlers
  ends₁ : {c : Class} → Ends (list₁ c) no_handlers

pub data Step : Symbol → Lexeme → List Symbol → Output → Type 0 where
  marks : {c : Punctuation} {k : TokenKind} {i : ℕ} {w : List ℕ} → is_kind k (kind-of c) ≡ true → Step (mark c) (lexeme i k w) [] silent
  gives : {c : Class} {t : Lexeme} → is_operand c t ≡ true → Step (operand c) t [] (out (given t))
  flags_true : {t : Lexeme} → is_operand only_true t ≡ true → Step flag t (further (bool ∷ u16 ∷ [])) (out (given t))
  flags_false : {t : Lexeme} → is_operand only_false t ≡ true → Step flag t (further (bool ∷ [])) (out (given t))
  counts : {f : Params} (n : ℕ) {t : Lexeme} → is_operand (count n) t ≡ true → Step (counted f) t (further (behind_count f n)) (out (given t))
  block-opens : {p : Part} {i : ℕ} {w : List ℕ} → Step (opens p) (lexeme i K.OpenBrace w) (level inner (item no_handlers) ∷ []) (out (opened p))
  try-opens : {e : Nesting} {i : ℕ} {w : List ℕ} →
      Step (targets e) (lexeme i K.OpenBrace w) (level inner (item no_handlers) ∷ level e (ended (after_try none)) ∷ []) (out (opened try))
  has-target : {e : Nesting} {t : Lexeme} → is_operand target t ≡ true → Step (targets e) t (opens try ∷ level e (ended (after_try (some t))) ∷ []) silent
  skips : {e : Nesting} {h : Handlers} {i : ℕ} {w : List ℕ} → Step (level e (item h)) (lexeme i K.Newline w) (level e (item h) ∷ []) silent
  names : {e : Nesting} {h : Handlers} {i : ℕ} {w : List ℕ} →
      Step (level e (item h)) (lexeme i K.Identifier w) (mark p_colon ∷ level e (item no_handlers) ∷ []) (out (named (lexeme i K.Identifier w)))
  closes : {h : Handlers} {i : ℕ} {w : List ℕ} → Step (level inner (item h)) (lexeme i K.CloseBrace w) [] (out closed)
  catches : {e : Nesting} {o : Option Lexeme} {i : ℕ} {w : List ℕ} →
      Step (level e (item (after_try o))) (lexeme i K.Catch w) (opens catch ∷ level e (ended after-catch) ∷ []) (target-out o)
  finishes-try : {e : Nesting} {o : Option Lexeme} {i : ℕ} {w : List ℕ} →
      Step (level e (item (after_try o))) (lexeme i K.Finally w) (opens finally ∷ level e (ended no_handlers) ∷ []) silent
  finishes-catch : {e : Nesting} {i : ℕ} {w : List ℕ} →
      Step (level e (item after-catch)) (lexeme i K.Finally w) (opens finally ∷ level e (ended no_handlers) ∷ []) silent
  begins : {e : Nesting} {h : Handlers} {n : ActionName} {i : ℕ} {w : List ℕ} →
      Step (level e (item h)) (lexeme i (K.ActionName n) w) (start (plan_of (shape_of n)) e) (out (acted n))
  ends_at : {e : Nesting} {q : State} {h : Handlers} {i : ℕ} {w : List ℕ} → Ends q h → Step (level e q) (lexeme i K.Newline w) (level e (item h) ∷ []) silent
  lists_first : {e : Nesting} {c : Class} {t : Lexeme} → is_operand c t ≡ true → Step (level e (list₀ c)) t (level e (list₁ c) ∷ []) (out (given t))
  lists_next : {e : Nesting} {c : Class} {i : ℕ} {w : List ℕ} → Step (level e (list₁ c)) (lexeme i K.Comma w) (operand c ∷ level e (list₁ c) ∷ []) silent

-- what is to be known of a move
pub data Legal (a : Symbol) (t : Lexeme) : Move → Type 0 where
  halts : Legal a t stop
  steps : {α : List Symbol} {o : Output} → Step a t α o → Legal a t (go α o)

tested : {a : Symbol} {t : Lexeme} (b : Bool) (x y : Move) → (b ≡ true → Legal a t x) → Legal a t y → Legal a t (cond b x y)
tested {a = a} {t = t} b x y f g = chosen (λ (m : Move). Legal a t m) b x y f g

at_word : (e : Nesting) (h : Handlers) (i : ℕ) (k : TokenKind) (w : List ℕ) → Legal (level e (item h)) (lexeme i k w) (on_word e (action_word_lem k))
at_word e h i K.Newline w = halts
at_word e h i (K.String c) w = halts
at_word e h i K.Float w = halts
at_word e h i K.Integer w = halts
at_word e h i (K.Register n) w = halts
at_word e h i (K.Constant n) w = halts
at_word e h i (K.ActionName n) w = steps begins
at_word e h i K.Identifier w = halts
at_word e h i K.Colon w = halts
at_word e h i K.Comma w = halts
at_word e h i K.OpenBrace w = halts
at_word e h i K.CloseBrace w = halts
at_word e h i K.True w = halts
at_word e h i K.False w = halts
at_word e h i K.Null w = halts
at_word e h i K.Undefined w = halts
at_word e h i K.Catch w = halts
at_word e h i K.Finally w = halts
at_word e h i K.Unknown w = halts

at_close : (e : Nesting) (h : Handlers) (i : ℕ) (w : List ℕ) → Legal (level e (item h)) (lexeme i K.CloseBrace w) (on_close e)
at_close top h i w = halts
at_close inner h i w = steps closes

at-catch : (e : Nesting) (h : Handlers) (i : ℕ) (w : List ℕ) → Legal (level e (item h)) (lexeme i K.Catch w) (on_catch e h)
at-catch e no_handlers i w = halts
at-catch e (after_try o) i w = steps catches
at-catch e after-catch i w = halts

at-finally : (e : Nesting) (h : Handlers) (i : ℕ) (w : List ℕ) → Legal (level e (item h)) (lexeme i K.Finally w) (on_finally e h)
at-finally e no_handlers i w = halts
at-finally e (after_try o) i w = steps finishes-try
at-finally e after-catch i w = steps finishes-catch

at_count : (f : Params) (i : ℕ) (k : TokenKind) (w : List ℕ) → is_kind k K.Integer ≡ true → (c : Option ℕ) → acting (integer w) ≡ c →
    Legal (counted f) (lexeme i k w) (on_count f (lexeme i k w) c)
at_count f i k w h none g = halts
at_count f i k w h (some n) g = steps (counts n {t = lexeme i k w} (rw h (acting-acts n (integer w) g)))

pub legal : (a : Symbol) (t : Lexeme) → Legal a t (move a t)
legal (mark c) (lexeme i k w) = tested (is_kind k (kind-of c)) _ _ (λ h. steps (marks h)) halts
legal (operand c) t = tested (is_operand c t) _ _ (λ h. steps (gives h)) halts
legal flag t = tested (is_operand only_true t) _ _ (λ h. steps (flags_true h)) (tested (is_operand only_false t) _ _ (λ h. steps (flags_false h)) halts)
legal (counted f) (lexeme i k w) = tested (is_kind k K.Integer) _ _ (λ h. at_count f i k w h (acting (integer w)) refl) halts
legal (opens p) (lexeme i k w) = tested (is_kind k K.OpenBrace) _ _ (λ h. rw (kind-is k K.OpenBrace h refl) (steps block-opens)) halts
legal (targets e) (lexeme i k w) =
    tested (is_kind k K.OpenBrace) _ _ (λ h. rw (kind-is k K.OpenBrace h refl) (steps try-opens))
    (tested (is_operand target (lexeme i k w)) _ _ (λ h. steps (has-target h)) halts)
legal (level e (item l)) (lexeme i k w) =
    tested (is_kind k K.Newline) _ _ (λ h. rw (kind-is k K.Newline h refl) (steps skips))
    (tested (is_kind k K.Identifier) _ _ (λ h. rw (kind-is k K.Identifier h refl) (steps names))
    (tested (is_kind k K.CloseBrace) _ _ (λ h. rw (kind-is k K.CloseBrace h refl) (at_close e l i w))
    (tested (is_kind k K.Catch) _ _ (λ h. rw (kind-is k K.Catch h refl) (at-catch e l i w))
    (tested (is_kind k K.Finally) _ _ (λ h. rw (kind-is k K.Finally h refl) (at-finally e l i w)) (at_word e l i k w)))))
legal (level e (ended l)) (lexeme i k w) = tested (is_kind k K.Newline) _ _ (λ h. rw (kind-is k K.Newline h refl) (steps (ends_at ends))) halts
legal (level e (list₀ c)) (lexeme i k w) =
    tested (is_kind k K.Newline) _ _ (λ h. rw (kind-is k K.Newline h refl) (steps (ends_at ends₀)))
    (tested (is_operand c (lexeme i k w)) _ _ (λ h. steps (lists_first h)) halts)
legal (level e (list₁ c)) (lexeme i k w) =
    tested (is_kind k K.Newline) _ _ (λ h. rw (kind-is k K.Newline h refl) (steps (ends_at ends₁)))
    (tested (is_kind k K.Comma) _ _ (λ h. rw (kind-is k K.Comma h refl) (steps lists_next)) halts)
