-- `shape_coding::put_pool` meets its contract. Assumes nothing.
use mathlib.Core.Path.{sym, ap}
use mathlib.Core.List.{◌∷◌, map}
use Prim.Native.Nat.{ℕ}
use Rattle.action_records.specs.Fields.{UI16}
use Rattle.action_records.specs.Operands.{text}
use Rattle.field_coding.proofs.Putting.{also, coded}
use Rattle.list_coding.specs.Operands.{values}
use Rattle.list_coding.proofs.There.{count_of}
use Rattle.shape_coding.proofs.put_pool.Goals as goal

pub returns : goal.returns
returns c = coded (ap (λ (n : ℕ). UI16 n ∷ map text (values c.args.o)) (sym (count_of c.args.o))) (also c.put_16.ensures c.put_texts.ensures.codes)
