-- Completion: every stack that a run can reach has a list of tokens that it accepts. Assumes nothing.
use mathlib.Core.Path.{◌≡◌, refl, sym, subst}
use mathlib.Core.Bool.{Bool, true, false, ◌&&◌, false≢true}
use mathlib.Core.Option.{some, none}
use mathlib.Core.List.{List, [], ◌∷◌, ◌++◌, append_assoc}
use Prim.Native.Nat.{ℕ, zero, suc}
use lib.ListN.{replicate}
use borrow.Author.Tests.{eq-eqb}
use Rattle.shapes.specs.declared.Shape.{Shape}
use Rattle.shapes.specs.declared.Shape.TheVariants as S
use Rattle.shapes.specs.Shapes.{shape_of}
use Rattle.tokens.specs.declared.TokenKind.TheVariants as K
use Rattle.tokens.specs.Kinds.{code_of}
use Rattle.scanner.specs.Bytes.{run_of}
use Rattle.numbers.specs.Integers.{with_byte, value_from, up_to, is_natural, natural, integer}
use Rattle.values.specs.Values.{push_value}
use Rattle.lexemes.specs.Lexemes.{Lexeme, lexeme}
use Rattle.lexemes.specs.Operands.{Class, string, value, bool, only_true, only_false, u8, u16, identifier, target, count, is_operand}
use Rattle.lexemes.specs.Events.{Event, given}
use Rattle.lexemes.proofs.Tests.{both}
use Rattle.machine.specs.Plans.{Params, simple, registers, Plan, plain, listing, frame, function, within, trying, plan_of, behind_count}
use Rattle.machine.specs.Machine.{Nesting, top, inner, no_handlers, after_try, after-catch, State, item, ended, list₀, list₁, kind-of, Symbol, mark, operand, flag, counted, opens, targets, level, Output, out, go, further, listed, start, move, Answer, Accepts, run}
use Rattle.machine.proofs.Moves.{Step, marks, gives, flags_true, flags_false, counts, block-opens, try-opens, has-target, skips, names, closes, catches, finishes-try, finishes-catch, begins, ends_at, lists_first, lists_next}
use Rattle.machine.proofs.Runs.{gives as gives_all}

-- ---- the stacks that can be reached: the whole text's level is at the bottom and nowhere else; a count has its own symbol

abbrev plain_class : Class → Bool
plain_class string = true
plain_class value = true
plain_class bool = true
plain_class only_true = true
plain_class only_false = true
plain_class u8 = true
plain_class u16 = true
plain_class identifier = true
plain_class target = true
plain_class (count n) = false

abbrev plain_classes : List Class → Bool
plain_classes [] = true
plain_classes (c ∷ cs) = plain_class c && plain_classes cs

abbrev plain_plan : Plan → Bool
plain_plan (plain cs) = plain_classes cs
plain_plan (listing c) = plain_class c
plain_plan frame = true
plain_plan (function f) = true
plain_plan within = true
plain_plan trying = true

plain-shape : (s : Shape) → plain_plan (plan_of s) ≡ true
plain-shape S.Nothing = refl
plain-shape S.Values = refl
plain-shape S.Strings = refl
plain-shape S.StringString = refl
plain-shape S.BoolBoolU8 = refl
plain-shape S.U16 = refl
plain-shape S.BoolBoolMaybeU16 = refl
plain-shape S.String = refl
plain-shape S.Identifier = refl
plain-shape S.U8 = refl
plain-shape S.U16U8 = refl
plain-shape S.Function = refl
plain-shape S.Function2 = refl
plain-shape S.Block = refl
plain-shape S.Try = refl

plain-count : (f : Params) (k : ℕ) → plain_classes (behind_count f k) ≡ true
plain-count simple zero = refl
plain-count simple (suc k) = plain-count simple k
plain-count registers zero = refl
plain-count registers (suc k) = plain-count registers k

abbrev plain_state : State → Bool
plain_state (item h) = true
plain_state (ended h) = true
plain_state (list₀ c) = plain_class c
plain_state (list₁ c) = plain_class c

abbrev inside : Symbol → Bool
inside (mark c) = true
inside (operand c) = plain_class c
inside flag = true
inside (counted f) = true
inside (opens p) = true
inside (targets top) = false
inside (targets inner) = true
inside (level top q) = false
inside (level inner q) = plain_state q

pub data Good : List Symbol → Type 0 where
  bottom : {q : State} → plain_state q ≡ true → Good (level top q ∷ [])
  bottom_try : Good (targets top ∷ [])
  above : {a : Symbol} {σ : List Symbol} → inside a ≡ true → Good σ → Good (a ∷ σ)

level_good : (e : Nesting) {q : State} (q' : State) {σ : List Symbol} → plain_state q' ≡ true → Good (level e q ∷ σ) → Good (level e q' ∷ σ)
level_good top q' p (bottom h) = bottom p
level_good top q' p (above h g) = absurd (false≢true h)
level_good inner q' p (above h g) = above p g

state_good : (e : Nesting) {q : State} {σ : List Symbol} → Good (level e q ∷ σ) → plain_state q ≡ true
state_good top (bottom h) = h
state_good top (above h g) = absurd (false≢true h)
state_good inner (above h g) = h

further_good : (cs : List Class) {σ : List Symbol} → plain_classes cs ≡ true → Good σ → Good (further cs ++ σ)
further_good [] p g = g
further_good (c ∷ cs) p g = let b = both (plain_class c) (plain_classes cs) p in above refl (above b.0 (further_good cs b.1 g))

listed_good : (cs : List Class) {σ : List Symbol} → plain_classes cs ≡ true → Good σ → Good (listed cs ++ σ)
listed_good [] p g = g
listed_good (c ∷ cs) p g = let b = both (plain_class c) (plain_classes cs) p in above b.0 (further_good cs b.1 g)

to-try : (e : Nesting) {q : State} {σ : List Symbol} → Good (level e q ∷ σ) → Good (targets e ∷ σ)
to-try top (bottom h) = bottom_try
to-try top (above h g) = absurd (false≢true h)
to-try inner (above h g) = above refl g

from-try : (e : Nesting) (q : State) {σ : List Symbol} → plain_state q ≡ true → Good (targets e ∷ σ) → Good (level e q ∷ σ)
from-try top q p bottom_try = bottom p
from-try top q p (above h g) = absurd (false≢true h)
from-try inner q p (above h g) = above p g

start_good : (p : Plan) (e : Nesting) {q : State} (σ : List Symbol) → plain_plan p ≡ true → Good (level e q ∷ σ) → Good (start p e ++ σ)
start_good (plain cs) e σ h g = rw (append_assoc (listed cs) (level e (ended no_handlers) ∷ []) σ) (listed_good cs h (level_good e (ended no_handlers) refl g))
start_good (listing c) e σ h g = level_good e (list₀ c) h g
start_good frame e σ h g = above refl (level_good e (ended no_handlers) refl g)
start_good (function f) e σ h g = above refl (above refl (above refl (above refl (level_good e (ended no_handlers) refl g))))
start_good within e σ h g = above refl (level_good e (ended no_handlers) refl g)
start_good trying e σ h g = to-try e g

-- the stack below a symbol that is not the bottom
below : {a : Symbol} {σ : List Symbol} → Good (a ∷ σ) → inside a ≡ true → Good σ
below (bottom p) h = absurd (false≢true h)
below bottom_try h = absurd (false≢true h)
below (above h' g) h = g

-- an operand is never the bottom
operand_below : {c : Class} {σ : List Symbol} → Good (operand c ∷ σ) → Good σ
operand_below (above h g) = g

pub step_good : {a : Symbol} {t : Lexeme} {α : List Symbol} {o : Output} (σ : List Symbol) → Step a t α o → Good (a ∷ σ) → Good (α ++ σ)
step_good σ (marks h) g = below g refl
step_good σ (gives h) g = operand_below g
step_good σ (flags_true h) g = further_good (bool ∷ u16 ∷ []) refl (below g refl)
step_good σ (flags_false h) g = further_good (bool ∷ []) refl (below g refl)
step_good σ (counts {f = f} n h) g = further_good (behind_count f n) (plain-count f n) (below g refl)
step_good σ block-opens g = above refl (below g refl)
step_good σ (try-opens {e = e}) g = above refl (from-try e (ended (after_try none)) refl g)
step_good σ (has-target {e = e} {t = t} h) g = above refl (from-try e (ended (after_try (some t))) refl g)
step_good σ skips g = g
step_good σ (names {e = e}) g = above refl (level_good e (item no_handlers) refl g)
step_good σ closes g = below g refl
step_good σ (catches {e = e}) g = above refl (level_good e (ended after-catch) refl g)
step_good σ (finishes-try {e = e}) g = above refl (level_good e (ended no_handlers) refl g)
step_good σ (finishes-catch {e = e}) g = above refl (level_good e (ended no_handlers) refl g)
step_good σ (begins {e = e} {n = n}) g = start_good (plan_of (shape_of n)) e σ (plain-shape (shape_of n)) g
step_good σ (ends_at {e = e} {h = h} n) g = level_good e (item h) refl g
step_good σ (lists_first {e = e} {c = c} h) g = level_good e (list₁ c) (state_good e g) g
step_good σ (lists_next {e = e}) g = above (state_good e g) g

-- ---- a shortest reading of each symbol

abbrev digit : Lexeme
digit = lexeme 0 K.Integer (48 ∷ [])

-- an operand of each class
abbrev one-of : Class → Lexeme
one-of string = lexeme 0 (K.String true) []
one-of value = lexeme 0 K.Null []
one-of bool = lexeme 0 K.True []
one-of only_true = lexeme 0 K.True []
one-of only_false = lexeme 0 K.False []
one-of u8 = digit
one-of u16 = digit
one-of identifier = lexeme 0 K.Identifier []
one-of target = lexeme 0 (K.String true) []
one-of (count n) = digit

one-fits : (c : Class) → plain_class c ≡ true → is_operand c (one-of c) ≡ true
unfolding push_value natural is_natural up_to value_from with_byte run_of
one-fits string h = refl
one-fits value h = refl
one-fits bool h = refl
one-fits only_true h = refl
one-fits only_false h = refl
one-fits u8 h = refl
one-fits u16 h = refl
one-fits identifier h = refl
one-fits target h = refl
one-fits (count n) h = absurd (false≢true h)

count_zero : (f : Params) → move (counted f) digit ≡ go (further (behind_count f 0)) (out (given digit))
unfolding integer natural is_natural up_to value_from with_byte run_of
count_zero f = refl

abbrev open_brace : Lexeme
open_brace = lexeme 0 K.OpenBrace []

abbrev close_brace : Lexeme
close_brace = lexeme 0 K.CloseBrace []

abbrev newline : Lexeme
newline = lexeme 0 K.Newline []

abbrev comma : Lexeme
comma = lexeme 0 K.Comma []

-- so many flags, each behind a comma
abbrev flags : ℕ → List Lexeme
flags zero = []
flags (suc n) = comma ∷ lexeme 0 K.True [] ∷ flags n

module _ {S : Type 0} (emit : Event → S → S) where
  -- tokens that take a symbol off the stack, whatever comes next
  abbrev Closed : Symbol → Type 0
  Closed a = (ys : List Lexeme) × ((s : S) → (s' : S) × ((σ : List Symbol) (q : List Lexeme) → run emit (a ∷ σ) s (ys ++ q) ≡ run emit σ s' q))

  close : (a : Symbol) → inside a ≡ true → Closed a
  close (mark c) h = (lexeme 0 (kind-of c) [] ∷ [], λ s. (s, λ σ q. rw (eq-eqb (code_of (kind-of c)).place (code_of (kind-of c)).place refl)))
  close (operand c) h = (one-of c ∷ [], λ s. (emit (given (one-of c)) s, λ σ q. rw (one-fits c h)))
  close flag h = (lexeme 0 K.False [] ∷ comma ∷ lexeme 0 K.True [] ∷ [], λ s. (_, λ σ q. refl))
  close (counted simple) h = (digit ∷ [], λ s. (emit (given digit) s, λ σ q. rw (count_zero simple)))
  close (counted registers) h =
      (digit ∷ comma ∷ digit ∷ flags 9, λ s. (gives_all emit (digit ∷ digit ∷ replicate 9 (lexeme 0 K.True [])) s, λ σ q. rw (count_zero registers) (rw (one-fits u8 refl))))
  close (opens p) h = (open_brace ∷ close_brace ∷ [], λ s. (_, λ σ q. refl))
  close (targets top) h = absurd (false≢true h)
  close (targets inner) h = (open_brace ∷ close_brace ∷ newline ∷ close_brace ∷ [], λ s. (_, λ σ q. refl))
  close (level top q) h = absurd (false≢true h)
  close (level inner (item h')) h = (close_brace ∷ [], λ s. (_, λ σ q. refl))
  close (level inner (ended h')) h = (newline ∷ close_brace ∷ [], λ s. (_, λ σ q. refl))
  close (level inner (list₀ c)) h = (newline ∷ close_brace ∷ [], λ s. (_, λ σ q. refl))
  close (level inner (list₁ c)) h = (newline ∷ close_brace ∷ [], λ s. (_, λ σ q. refl))

  pub complete : {σ : List Symbol} → Good σ → (s : S) → (q : List Lexeme) × Accepts (run emit σ s q)
  complete (bottom h) s = ([], tt)
  complete bottom_try s = (open_brace ∷ close_brace ∷ [], tt)
  complete (above {a = a} {σ = σ} h g) s =
      let c = close a h in
      let b = c.1 s in
      let r = complete g b.0 in
      (c.0 ++ r.0, subst (λ (z : Answer S). Accepts z) (sym (b.1 σ r.0)) r.1)
