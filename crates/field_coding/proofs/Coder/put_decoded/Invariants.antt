-- `field_coding::Coder::put_decoded` meets its contract. Assumes nothing.
use Rattle.field_coding.proofs.Escapes.{Going}
use Rattle.field_coding.proofs.Coder.put_decoded.Given as goal

abbrev pub invariant-loop-b : goal.invariant-loop-b
invariant-loop-b l = Going l.w l.initial.self l.self l.protected l.b-index
