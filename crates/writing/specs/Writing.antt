-- What each event of a log writes into the lent tables. No public contract cites it.
use Rattle.std.specs.Prelude.{◌≡◌, Bool, true, false, cond, List, [], ◌∷◌, map, ℕ, zero, suc, ◌+◌, ◌-◌, ◌*◌, ◌≤◌, length, get_or, set}
use Rattle.std.proofs.lemmas.List.Edits.{sets}
use Rattle.names.specs.declared.ActionName.{ActionName}
use Rattle.actions.specs.Numbers.{action_at}
use Rattle.tokens.specs.Kinds.{is_unclosed}
use Rattle.tokens.specs.Tokens.{token_of}
use Rattle.events.specs.declared.BlockKind.{BlockKind}
use Rattle.events.specs.declared.BlockKind.TheVariants as K
use Rattle.events.specs.declared.Event.{Event}
use Rattle.events.specs.declared.Event.TheVariants as E
use Rattle.events.specs.Log.{event_of, block_of as block_kind}
use Rattle.entries.specs.declared.Block.{Block}
use Rattle.entries.specs.declared.Block.TheVariants as B
use Rattle.entries.specs.Entries.{action_word, action_of, operand_word, level_words, level_at, owner_of}
use Rattle.entries.specs.Levels.{fresh, with_action, Small}
use Rattle.pcode.specs.Deltas.{delta_of}
use Rattle.nets.specs.Nets.{first_is_empty, moved_by}
use Rattle.writing.specs.declared.Writer.{Writer}
use Rattle.writing.specs.declared.Given.{Given}

-- ---- an action's operands

-- how many blocks are open behind an event
abbrev pub deeper : Event → ℕ → ℕ
deeper (E.Action n) d = d
deeper (E.Label t) d = d
deeper (E.Operand t) d = d
deeper (E.Opened n) d = d + 1
deeper E.Closed d = d - 1

abbrev pub is_try : BlockKind → Bool
is_try K.Body = false
is_try K.Try = true
is_try K.Catch = false
is_try K.Finally = false

-- an operand before the others; a try block is passed over; any other event ends them
abbrev pub gather_by : Event → List ℕ → List ℕ → List ℕ
gather_by (E.Action n) next behind = []
gather_by (E.Label t) next behind = []
gather_by (E.Operand t) next behind = t ∷ next
gather_by (E.Opened n) next behind = cond (is_try (block_kind n)) behind []
gather_by E.Closed next behind = []

-- the operands of the action before these events: those that follow at once, and those that follow its try block, of which d
-- blocks are open
abbrev pub gather : ℕ → List ℕ → List ℕ
gather d [] = []
gather zero (w ∷ l) = gather_by (event_of w) (gather zero l) (gather 1 l)
gather (suc d) (w ∷ l) = gather (deeper (event_of w) (suc d)) l

-- whether the token at a place is a string without its closing quote
unfoldable pub unclosed_at : List ℕ → ℕ → Bool
unclosed_at s t = is_unclosed (token_of (get_or s t 0)).kind

-- how many of these tokens are
abbrev pub unclosed_of : List ℕ → List ℕ → ℕ
unclosed_of s [] = 0
unclosed_of s (t ∷ ts) = cond (unclosed_at s t) 1 0 + unclosed_of s ts

abbrev pub given : List ℕ → ℕ → ℕ → ℕ
given s a t = operand_word (record { action = a; token = t; unclosed = unclosed_at s t })

-- ---- the tables

-- the lent tables, and where the writer stands
pub record Written : Type 0 where
  pub actions : List ℕ
  pub operands : List ℕ
  pub levels : List ℕ
  pub at : Writer

unfoldable pub written : List ℕ → List ℕ → List ℕ → Writer → Written
written xs os ls w = record { actions = xs; operands = os; levels = ls; at = w }

-- level ℓ with one action more, whose operands stand from `first` on
unfoldable pub moved_level : (text s operands : List ℕ) (first : ℕ) (g : Given) (n : ActionName) (a ℓ : ℕ) (levels : List ℕ) → List ℕ
moved_level text s operands first g n a ℓ levels =
    sets levels (2 * ℓ)
    (level_words (with_action (moved_by (delta_of n (g.end - first) (first_is_empty text s operands first g.end)) a (level_at levels ℓ).net) g.unclosed (level_at levels ℓ)))

unfoldable pub given_in : List ℕ → ℕ → List ℕ → List ℕ → ℕ → List ℕ
given_in s a os table first = sets table first (map (given s a) os)

-- the operands os from `first` on
abbrev pub gave : List ℕ → ℕ → List ℕ → Given
gave s first os = record { end = first + length os; unclosed = unclosed_of s os }

unfoldable pub acted : (text s : List ℕ) → ActionName → List ℕ → Written → Written
acted text s n rest T =
    record {
      actions = set T.actions T.at.actions (action_word (record { name = n; level = T.at.level; first = T.at.operands; count = length (gather 0 rest) }));
      operands = given_in s T.at.actions (gather 0 rest) T.operands T.at.operands;
      levels =
          moved_level text s (given_in s T.at.actions (gather 0 rest) T.operands T.at.operands) T.at.operands
          (gave s T.at.operands (gather 0 rest)) n T.at.actions T.at.level T.levels;
      at = record {
        level = T.at.level;
        action = T.at.actions;
        actions = T.at.actions + 1;
        operands = T.at.operands + length (gather 0 rest);
        levels = T.at.levels;
      };
    }

abbrev pub opening : Writer → Writer
opening w = record { level = w.levels; action = w.action; actions = w.actions; operands = w.operands; levels = w.levels + 1 }

-- which block of an action opens
abbrev pub block_of : BlockKind → ℕ → Block
block_of K.Body a = B.Body a
block_of K.Try a = B.Try a
block_of K.Catch a = B.Catch a
block_of K.Finally a = B.Finally a

abbrev pub opened_in : List ℕ → Writer → BlockKind → List ℕ
opened_in levels w b = sets levels (2 * w.levels) (level_words (fresh (block_of b w.action)))

unfoldable pub opened : BlockKind → Written → Written
opened b T = record { actions = T.actions; operands = T.operands; levels = opened_in T.levels T.at b; at = opening T.at }

-- the action that owns a level
abbrev pub owner_in : List ℕ → ℕ → ℕ
owner_in levels ℓ = owner_of (level_at levels ℓ).block

-- back to the action that owns the level, and to that action's level
abbrev pub closing : List ℕ → List ℕ → Writer → Writer
closing actions levels w =
    record {
      level = (action_of (get_or actions (owner_in levels w.level) 0)).level;
      action = owner_in levels w.level;
      actions = w.actions;
      operands = w.operands;
      levels = w.levels;
    }

unfoldable pub closed : Written → Written
closed T = record { actions = T.actions; operands = T.operands; levels = T.levels; at = closing T.actions T.levels T.at }

-- what an event writes; `rest` are the events behind it. Operands are written with their action; labels are no concern of these
-- tables.
abbrev pub by : (text s : List ℕ) → Event → List ℕ → Written → Written
by text s (E.Action n) rest T = acted text s (action_at n) rest T
by text s (E.Label t) rest T = T
by text s (E.Operand t) rest T = T
by text s (E.Opened n) rest T = opened (block_kind n) T
by text s E.Closed rest T = closed T

unfoldable pub step : (text s : List ℕ) → ℕ → List ℕ → Written → Written
step text s w rest T = by text s (event_of w) rest T

abbrev pub steps : (text s : List ℕ) → List ℕ → Written → Written
steps text s [] T = T
steps text s (w ∷ l) T = steps text s l (step text s w l T)

-- before the first event: the top level is open
abbrev pub start : List ℕ → List ℕ → List ℕ → Written
start xs os ls = written xs os (sets ls 0 (level_words (fresh B.Top))) (record { level = 0; action = 0; actions = 0; operands = 0; levels = 1 })

-- what `write_tables` leaves
pub record Writes (text s log xs os ls xs' os' ls' : List ℕ) : Type 0 where
  pub at : Writer
  pub all : written xs' os' ls' at ≡ steps text s log (start xs os ls)

-- where the writer can stand behind i events
pub record Behind (i : ℕ) (w : Writer) : Type 0 where
  pub actions : w.actions ≤ i
  pub operands : w.operands ≤ i * 65536
  pub levels : w.levels ≤ i + 1
  pub level : Small w.level
  pub action : Small w.action
