-- What the readers of levels, actions and blocks ensure: runs of the grammar's machine, as in `operands`. Only readers cite this.
use Rattle.std.specs.Prelude.{◌≡◌, Bool, true, false, List, [], ◌∷◌, ◌++◌, ℕ, suc, ◌+◌, ◌-◌, ◌≤◌, ◌<◌, length, get_or, set, Result, Ok, Err, Option, Some, None}
use Rattle.std.proofs.Math.Option as M
use Rattle.std.proofs.Math.Option.{none, some}
use Rattle.shapes.specs.declared.Shape.{Shape}
use Rattle.lexemes.specs.Lexemes.{Lexeme}
use Rattle.lexemes.specs.Events.{Part, body, try, catch, finally}
use Rattle.machine.specs.Plans.{plan_of}
use Rattle.machine.specs.Machine.{Nesting, top, inner, Handlers, no_handlers, after_try, after-catch, Symbol, mark, p_colon, opens, targets, level, item, ended, target-out, puts}
use Rattle.machine.specs.Depth.{Verdict, read, fault, too_deep}
use Rattle.operands.specs.declared.At.{At}
use Rattle.operands.specs.declared.Unread.{Unread}
use Rattle.operands.specs.declared.Unread.TheVariants.{Bad, Deep}
use Rattle.classes.specs.Lexemes.{lexeme_of, kind_at}
use Rattle.events.specs.Log.{log_word}
use Rattle.operands.specs.Log.{Log, log, emit, passed}
use Rattle.operands.specs.Contract.{judge, outcome, Fine, Ahead, Reads, Passes, nothing, at-end, left}
use Rattle.parser.specs.declared.Handler.{Handler}
use Rattle.parser.specs.declared.Handler.TheVariants as H
use Rattle.events.specs.declared.BlockKind.{BlockKind}
use Rattle.events.specs.declared.BlockKind.TheVariants as B

-- from the symbols α to the symbols β, where d blocks may still open
pub record ReadsIn (α β : Nesting → List Symbol) (text s a b : List ℕ) (c : At) (d : ℕ) (r : Result At Unread) : Type 0 where
  pub says : (e : Nesting) (σ : List Symbol) → judge text s (α e ++ σ) d (log a c) c.at ≡ outcome text s (β e ++ σ) d b r
  pub ahead : Ahead text s c r

-- an answer that goes on is past the place
unfoldable pub Forward : At → Result At Unread → Type 0
Forward c (Ok d) = c.at < d.at
Forward c (Err (Bad k)) = Unit {0}
Forward c (Err (Deep k)) = Unit {0}

abbrev pub at_item : Nesting → List Symbol
at_item e = level e (item no_handlers) ∷ []

-- ---- leaves

abbrev pub EndRead : List ℕ → List ℕ → At → Result At Unread → Type 0
EndRead text s c r = Passes at-end at_item text s c r

abbrev pub ColonRead : List ℕ → List ℕ → At → Result At Unread → Type 0
ColonRead text s c r = Passes (λ e. mark p_colon ∷ []) nothing text s c r

pub record LabelRead (text s a b : List ℕ) (c : At) (r : Result At Unread) : Type 0 where
  pub reads : Reads at_item at_item text s a b c r
  pub forward : Forward c r

pub record NewlinesRead (text s : List ℕ) (at r : ℕ) : Type 0 where
  pub says : (e : Nesting) (h : Handlers) (σ : List Symbol) (d : ℕ) (L : Log) → judge text s (level e (item h) ∷ σ) d L at ≡ judge text s (level e (item h) ∷ σ) d L r
  pub from : at ≤ r
  pub to : r ≤ length s
  pub stops : kind_at s r ≡ 0 → ⊥

-- no newline follows, whatever handlers could
pub record NoNewlineSeen (text s : List ℕ) (c : At) : Type 0 where
  pub says : (h : Handlers) (e : Nesting) (σ : List Symbol) (d : ℕ) (L : Log) →
      judge text s (level e (ended h) ∷ σ) d L c.at ≡ judge text s (level e (ended no_handlers) ∷ σ) d L c.at

-- behind newlines, at q, an item follows or the end of the level
pub record ItemSeen (text s : List ℕ) (c : At) (q : ℕ) : Type 0 where
  pub says : (h : Handlers) (e : Nesting) (σ : List Symbol) (d : ℕ) (L : Log) →
      judge text s (level e (ended h) ∷ σ) d L c.at ≡ judge text s (level e (item no_handlers) ∷ σ) d L q
  pub from : c.at < q
  pub to : q ≤ length s

-- the word `catch` at q, behind a try block or, where none may follow, behind a catch block
pub record CatchSeen (text s : List ℕ) (c : At) (q : ℕ) : Type 0 where
  pub says : (o : M.Option Lexeme) (e : Nesting) (σ : List Symbol) (d : ℕ) (L : Log) →
      judge text s (level e (ended (after_try o)) ∷ σ) d L c.at ≡ judge text s (opens catch ∷ level e (ended after-catch) ∷ σ) d (puts emit (target-out o) L) (q + 1)
  pub again : (e : Nesting) (σ : List Symbol) (d : ℕ) (L : Log) → judge text s (level e (ended after-catch) ∷ σ) d L c.at ≡ fault (length s - q)
  pub from : c.at < q
  pub to : q < length s

-- behind a try block or a catch block
abbrev pub Finally-at : List ℕ → List ℕ → ℕ → ℕ → Handlers → Type 0
Finally-at text s at q h = (e : Nesting) (σ : List Symbol) (d : ℕ) (L : Log) →
    judge text s (level e (ended h) ∷ σ) d L at ≡ judge text s (opens finally ∷ level e (ended no_handlers) ∷ σ) d L (q + 1)

-- the word `finally` at q
pub record FinallySeen (text s : List ℕ) (c : At) (q : ℕ) : Type 0 where
  pub says-try : (o : M.Option Lexeme) → Finally-at text s c.at q (after_try o)
  pub says-catch : Finally-at text s c.at q after-catch
  pub from : c.at < q
  pub to : q < length s

unfoldable pub HandlerRead : List ℕ → List ℕ → At → Handler → Type 0
HandlerRead text s c H.NoNewline = NoNewlineSeen text s c
HandlerRead text s c (H.Item q) = ItemSeen text s c q
HandlerRead text s c (H.Catch q) = CatchSeen text s c q
HandlerRead text s c (H.Finally q) = FinallySeen text s c q

-- ---- a Try's target

abbrev pub target_of : List ℕ → List ℕ → Option ℕ → M.Option Lexeme
target_of text s None = none
target_of text s (Some t) = some (lexeme_of text t (get_or s t 0))

abbrev pub past_target : At → Option ℕ → At
past_target c None = c
past_target c (Some t) = passed c

abbrev pub move_to : At → ℕ → At
move_to c q = record { at = q; events = c.events }

-- the place of a target is not behind c
abbrev pub TargetBefore : At → Option ℕ → Type 0
TargetBefore c None = Unit {0}
TargetBefore c (Some t) = t ≤ c.at

pub record TargetRead (text s : List ℕ) (c : At) (a : Option ℕ) : Type 0 where
  pub says : (e : Nesting) (σ : List Symbol) (d : ℕ) (L : Log) →
      judge text s (targets e ∷ σ) d L c.at ≡ judge text s (opens try ∷ level e (ended (after_try (target_of text s a))) ∷ σ) d L (past_target c a).at
  pub fine : Fine text s (past_target c a)
  pub before : TargetBefore c a

pub record GiveAsked (c : At) (a : Option ℕ) : Type 0 where
  pub at : c.at ≤ 65536
  pub events : c.events < 65536
  pub before : TargetBefore c a

-- the log and the counts with the target as an operand
abbrev pub given_log : List ℕ → At → Option ℕ → List ℕ
given_log l c None = l
given_log l c (Some t) = set l c.events (log_word 2 t)

abbrev pub given_at : At → Option ℕ → At
given_at c None = c
given_at c (Some t) = record { at = c.at; events = c.events + 1 }

pub record GiveRead (a b : List ℕ) (c : At) (t : Option ℕ) (d : At) : Type 0 where
  pub given_to : b ≡ given_log a c t
  pub counted-to : d ≡ given_at c t

-- ---- the cycle

abbrev pub part_of : BlockKind → Part
part_of B.Body = body
part_of B.Try = try
part_of B.Catch = catch
part_of B.Finally = finally

abbrev pub BlockRead : BlockKind → List ℕ → List ℕ → List ℕ → List ℕ → At → ℕ → Result At Unread → Type 0
BlockRead k text s a b c d r = ReadsIn (λ e. opens (part_of k) ∷ []) nothing text s a b c d r

-- a block and the end of its action
abbrev pub LastBlockRead : BlockKind → List ℕ → List ℕ → List ℕ → List ℕ → At → ℕ → Result At Unread → Type 0
LastBlockRead k text s a b c d r = ReadsIn (λ e. opens (part_of k) ∷ level e (ended no_handlers) ∷ []) at_item text s a b c d r

abbrev pub TryRead : List ℕ → List ℕ → List ℕ → List ℕ → At → ℕ → Result At Unread → Type 0
TryRead text s a b c d r = ReadsIn (λ e. targets e ∷ []) at_item text s a b c d r

abbrev pub HandlersRead : Option ℕ → List ℕ → List ℕ → List ℕ → List ℕ → At → ℕ → Result At Unread → Type 0
HandlersRead t text s a b c d r = ReadsIn (λ e. level e (ended (after_try (target_of text s t))) ∷ []) at_item text s a b c d r

abbrev pub NoCatch : Handler → Type 0
NoCatch H.NoNewline = Unit {0}
NoCatch (H.Item q) = Unit {0}
NoCatch (H.Catch q) = ⊥
NoCatch (H.Finally q) = Unit {0}

-- with x seen, behind a catch block, or behind a try block that no catch block follows
pub record LastRead (x : Handler) (text s a b : List ℕ) (c : At) (d : ℕ) (r : Result At Unread) : Type 0 where
  pub behind_catch : ReadsIn (λ e. level e (ended after-catch) ∷ []) at_item text s a b c d r
  pub behind_try : NoCatch x → (o : M.Option Lexeme) → ReadsIn (λ e. level e (ended (after_try o)) ∷ []) at_item text s a b c d r

abbrev pub BlocksRead : Shape → List ℕ → List ℕ → List ℕ → List ℕ → At → ℕ → Result At Unread → Type 0
BlocksRead w text s a b c d r = ReadsIn (left (plan_of w)) at_item text s a b c d r

-- the token at c closes no level; it is no label and no newline either
pub record NotClosing (s : List ℕ) (c : At) : Type 0 where
  pub not_closing : kind_at s c.at ≡ 11 → ⊥

pub record Plain (s : List ℕ) (c : At) : Type 0 where
  pub not_closing : kind_at s c.at ≡ 11 → ⊥
  pub not_newline : kind_at s c.at ≡ 0 → ⊥
  pub not_label : kind_at s c.at ≡ 7 → ⊥

pub record ItemRead (text s a b : List ℕ) (c : At) (d : ℕ) (r : Result At Unread) : Type 0 where
  pub reads : ReadsIn at_item at_item text s a b c d r
  pub forward : Forward c r

-- the whole text
unfoldable pub whole : List ℕ → List ℕ → Result At Unread → Verdict Log
whole s l (Ok c) = read (log l c)
whole s l (Err (Bad k)) = fault (length s - k)
whole s l (Err (Deep k)) = too_deep (length s - k)

-- a level up to its brace, behind which one more block may open; or the whole text's level, up to the end
unfoldable pub LevelSays : Bool → List ℕ → List ℕ → List ℕ → List ℕ → At → ℕ → Result At Unread → Type 0
LevelSays true text s a b c d r = (σ : List Symbol) → judge text s (level inner (item no_handlers) ∷ σ) d (log a c) c.at ≡ outcome text s σ (suc d) b r
LevelSays false text s a b c d r = judge text s (level top (item no_handlers) ∷ []) d (log a c) c.at ≡ whole s b r

pub record LevelRead (text s a b : List ℕ) (c : At) (d : ℕ) (i : Bool) (r : Result At Unread) : Type 0 where
  pub says : LevelSays i text s a b c d r
  pub ahead : Ahead text s c r
