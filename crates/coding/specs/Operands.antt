-- The operands of an action, as `put_record` asks for them.
pub use Rattle.list_coding.specs.Operands.{Small}
