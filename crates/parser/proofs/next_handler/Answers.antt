-- `parser::next_handler` meets its contract. Assumes nothing.
use Rattle.parser.proofs.Leaves.{handler_not, newline-inside, handler_catch, handler_finally, handler_item}
use Rattle.parser.proofs.next_handler.Goals as goal

pub returns-then-not-is_kind_at : goal.returns-then-not-is_kind_at
returns-then-not-is_kind_at c = search handler_not

pub newlines-q-requires : goal.newlines-q-requires
newlines-q-requires c = search newline-inside

pub returns-then-is_kind_at : goal.returns-then-is_kind_at
returns-then-is_kind_at c = search handler_catch

pub returns-then-is_kind_at-2 : goal.returns-then-is_kind_at-2
returns-then-is_kind_at-2 c = search handler_finally

pub returns : goal.returns
returns c = search handler_item
