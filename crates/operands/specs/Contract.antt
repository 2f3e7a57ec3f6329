-- What each reader ensures: the run of the grammar's machine from the reader's symbols, whatever lies below them on the stack and
-- however many blocks may still open, is the run that its answer leads to. Only readers cite this; the contract of the reading
-- call does not.
use Rattle.std.specs.Prelude.{◌≡◌, List, [], ◌∷◌, ◌++◌, ℕ, ◌-◌, ◌≤◌, length, drop, replicate, Result, Ok, Err}
use Rattle.shapes.specs.declared.Shape.{Shape}
use Rattle.lexemes.specs.Operands.{string, u8, pairs}
use Rattle.lexemes.specs.Events.{body}
use Rattle.machine.specs.Plans.{simple, registers, behind_count, Plan, plain, listing, frame, function, within, trying, plan_of}
use Rattle.machine.specs.Machine.{Nesting, Symbol, mark, operand, flag, counted, opens, targets, level, p_comma, ended, no_handlers, list₀, list₁, further, start}
use Rattle.machine.specs.Depth.{Verdict, fault, too_deep, limited}
use Rattle.operands.specs.declared.At.{At}
use Rattle.operands.specs.declared.Unread.{Unread}
use Rattle.operands.specs.declared.Unread.TheVariants.{Bad, Deep}
use Rattle.classes.specs.declared.Class.{Class}
use Rattle.classes.specs.declared.Class.TheVariants as C
use Rattle.classes.specs.Lexemes.{Sound, lexemes, class_of, count_at}
use Rattle.operands.specs.Log.{Log, log, emit}

-- the machine's verdict from a place on
unfoldable pub judge : List ℕ → List ℕ → List Symbol → ℕ → Log → ℕ → Verdict Log
judge text s σ d L at = limited emit σ d L (drop at (lexemes text s))

-- where an answer leads: on with the stack σ, or to a refusal
unfoldable pub outcome : List ℕ → List ℕ → List Symbol → ℕ → List ℕ → Result At Unread → Verdict Log
outcome text s σ d l (Ok c) = judge text s σ d (log l c) c.at
outcome text s σ d l (Err (Bad k)) = fault (length s - k)
outcome text s σ d l (Err (Deep k)) = too_deep (length s - k)

-- the place is in the table, and there are no more events than tokens before it
pub record Fine (text s : List ℕ) (c : At) : Type 0 where
  pub sound : Sound text s
  pub inside : c.at ≤ length s
  pub events : c.events ≤ c.at

pub record Onward (text s : List ℕ) (c d : At) : Type 0 where
  pub from : c.at ≤ d.at
  pub fine : Fine text s d

unfoldable pub Ahead : List ℕ → List ℕ → At → Result At Unread → Type 0
Ahead text s c (Ok d) = Onward text s c d
Ahead text s c (Err (Bad k)) = k ≤ length s
Ahead text s c (Err (Deep k)) = k ≤ length s

-- from the symbols α to the symbols β, in a level of either kind; a is the log before and b after
pub record Reads (α β : Nesting → List Symbol) (text s a b : List ℕ) (c : At) (r : Result At Unread) : Type 0 where
  pub says : (e : Nesting) (σ : List Symbol) (d : ℕ) → judge text s (α e ++ σ) d (log a c) c.at ≡ outcome text s (β e ++ σ) d b r
  pub ahead : Ahead text s c r

-- a reader that logs nothing
pub record Passes (α β : Nesting → List Symbol) (text s : List ℕ) (c : At) (r : Result At Unread) : Type 0 where
  pub with_log : (a : List ℕ) → Reads α β text s a a c r

abbrev pub nothing : Nesting → List Symbol
nothing e = []

abbrev pub at-end : Nesting → List Symbol
at-end e = level e (ended no_handlers) ∷ []

-- ---- operands

abbrev pub OperandRead : Class → List ℕ → List ℕ → List ℕ → List ℕ → At → Result At Unread → Type 0
OperandRead m text s a b c r = Reads (λ e. operand (class_of m) ∷ []) nothing text s a b c r

abbrev pub CommaRead : List ℕ → List ℕ → At → Result At Unread → Type 0
CommaRead text s c r = Passes (λ e. mark p_comma ∷ []) nothing text s c r

abbrev pub NextRead : Class → List ℕ → List ℕ → List ℕ → List ℕ → At → Result At Unread → Type 0
NextRead m text s a b c r = Reads (λ e. mark p_comma ∷ operand (class_of m) ∷ []) nothing text s a b c r

abbrev pub TwoRead : Class → Class → List ℕ → List ℕ → List ℕ → List ℕ → At → Result At Unread → Type 0
TwoRead m n text s a b c r = Reads (λ e. operand (class_of m) ∷ mark p_comma ∷ operand (class_of n) ∷ []) nothing text s a b c r

abbrev pub ThreeRead : Class → Class → Class → List ℕ → List ℕ → List ℕ → List ℕ → At → Result At Unread → Type 0
ThreeRead m n k text s a b c r =
    Reads (λ e. operand (class_of m) ∷ mark p_comma ∷ operand (class_of n) ∷ mark p_comma ∷ operand (class_of k) ∷ []) nothing text s a b c r

abbrev pub repeated : Class → ℕ → List Symbol
repeated m n = further (replicate n (class_of m))

abbrev pub RepeatRead : Class → ℕ → List ℕ → List ℕ → List ℕ → List ℕ → At → Result At Unread → Type 0
RepeatRead m n text s a b c r = Reads (λ e. repeated m n) nothing text s a b c r

abbrev pub paired : ℕ → List Symbol
paired n = further (pairs n)

abbrev pub PairRead : List ℕ → List ℕ → List ℕ → List ℕ → At → Result At Unread → Type 0
PairRead text s a b c r = Reads (λ e. mark p_comma ∷ operand u8 ∷ mark p_comma ∷ operand string ∷ []) nothing text s a b c r

abbrev pub PairsRead : ℕ → List ℕ → List ℕ → List ℕ → List ℕ → At → Result At Unread → Type 0
PairsRead n text s a b c r = Reads (λ e. paired n) nothing text s a b c r

-- ---- functions

abbrev pub NameRead : List ℕ → List ℕ → List ℕ → List ℕ → At → Result At Unread → Type 0
NameRead text s a b c r = Reads (λ e. operand string ∷ mark p_comma ∷ []) nothing text s a b c r

-- the count decides what comes behind it
pub record CountRead (text s a b : List ℕ) (c : At) (r : Result At Unread) : Type 0 where
  pub names_too : Reads (λ e. counted simple ∷ []) (λ e. repeated C.String (count_at text s c.at)) text s a b c r
  pub registers_too : Reads (λ e. counted registers ∷ []) (λ e. further (behind_count registers (count_at text s c.at))) text s a b c r

abbrev pub NamesRead : List ℕ → List ℕ → List ℕ → List ℕ → At → Result At Unread → Type 0
NamesRead text s a b c r = Reads (λ e. counted simple ∷ []) nothing text s a b c r

abbrev pub FunctionRead : List ℕ → List ℕ → List ℕ → List ℕ → At → Result At Unread → Type 0
FunctionRead text s a b c r = Reads (λ e. operand string ∷ mark p_comma ∷ counted simple ∷ []) nothing text s a b c r

abbrev pub FlagsRead : List ℕ → List ℕ → List ℕ → List ℕ → At → Result At Unread → Type 0
FlagsRead text s a b c r = Reads (λ e. mark p_comma ∷ operand u8 ∷ repeated C.Bool 9) nothing text s a b c r

abbrev pub FlagsPairsRead : ℕ → List ℕ → List ℕ → List ℕ → List ℕ → At → Result At Unread → Type 0
FlagsPairsRead n text s a b c r = Reads (λ e. further (behind_count registers n)) nothing text s a b c r

abbrev pub RegistersRead : List ℕ → List ℕ → List ℕ → List ℕ → At → Result At Unread → Type 0
RegistersRead text s a b c r = Reads (λ e. counted registers ∷ []) nothing text s a b c r

abbrev pub Function2Read : List ℕ → List ℕ → List ℕ → List ℕ → At → Result At Unread → Type 0
Function2Read text s a b c r = Reads (λ e. operand string ∷ mark p_comma ∷ counted registers ∷ []) nothing text s a b c r

-- ---- other shapes

abbrev pub FrameRead : List ℕ → List ℕ → List ℕ → List ℕ → At → Result At Unread → Type 0
FrameRead text s a b c r = Reads (λ e. flag ∷ []) nothing text s a b c r

abbrev pub ValuesRead : Class → List ℕ → List ℕ → List ℕ → List ℕ → At → Result At Unread → Type 0
ValuesRead m text s a b c r = Reads (λ e. level e (list₁ (class_of m)) ∷ []) at-end text s a b c r

abbrev pub ListRead : Class → List ℕ → List ℕ → List ℕ → List ℕ → At → Result At Unread → Type 0
ListRead m text s a b c r = Reads (λ e. level e (list₀ (class_of m)) ∷ []) at-end text s a b c r

-- what is left of an action behind its operands
abbrev pub left : Plan → Nesting → List Symbol
left (plain cs) e = at-end e
left (listing c) e = at-end e
left frame e = at-end e
left (function f) e = opens body ∷ at-end e
left within e = opens body ∷ at-end e
left trying e = targets e ∷ []

abbrev pub OperandsRead : Shape → List ℕ → List ℕ → List ℕ → List ℕ → At → Result At Unread → Type 0
OperandsRead w text s a b c r = Reads (start (plan_of w)) (left (plan_of w)) text s a b c r
