-- The words of a log: which event, above twenty bits for what it holds.
use Rattle.std.specs.Prelude.{ℕ, zero, suc, ◌+◌, ◌*◌, ◌/◌, ◌%◌, ◌<◌}
use Rattle.events.specs.declared.BlockKind.{BlockKind}
use Rattle.events.specs.declared.BlockKind.TheVariants as B
use Rattle.events.specs.declared.Event.{Event}
use Rattle.events.specs.declared.Event.TheVariants as E

-- what an event can hold
abbrev pub Holdable : ℕ → Type 0
Holdable n = n < 1048576

abbrev pub log_word : ℕ → ℕ → ℕ
log_word k n = k * 1048576 + n

-- the blocks of an action in their order
abbrev pub block_number : BlockKind → ℕ
block_number B.Body = 0
block_number B.Try = 1
block_number B.Catch = 2
block_number B.Finally = 3

abbrev pub block_of : ℕ → BlockKind
block_of zero = B.Body
block_of (suc zero) = B.Try
block_of (suc (suc zero)) = B.Catch
block_of (suc (suc (suc n))) = B.Finally

abbrev pub word_of : Event → ℕ
word_of (E.Action n) = log_word 0 n
word_of (E.Label n) = log_word 1 n
word_of (E.Operand n) = log_word 2 n
word_of (E.Opened n) = log_word 3 n
word_of E.Closed = log_word 4 0

abbrev pub kind_of : ℕ → ℕ
kind_of w = w / 1048576

abbrev pub held_by : ℕ → ℕ
held_by w = w % 1048576

-- the kinds in their order
abbrev pub by_kind : ℕ → ℕ → Event
by_kind zero n = E.Action n
by_kind (suc zero) n = E.Label n
by_kind (suc (suc zero)) n = E.Operand n
by_kind (suc (suc (suc zero))) n = E.Opened n
by_kind (suc (suc (suc (suc k)))) n = E.Closed

unfoldable pub event_of : ℕ → Event
event_of w = by_kind (kind_of w) (held_by w)

abbrev pub Holds : Event → Type 0
Holds (E.Action n) = Holdable n
Holds (E.Label n) = Holdable n
Holds (E.Operand n) = Holdable n
Holds (E.Opened n) = Holdable n
Holds E.Closed = Unit {0}
