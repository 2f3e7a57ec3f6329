-- `list_coding::put_flags` meets its contract. Assumes nothing.
use mathlib.Core.Path.{◌≡◌, sym, ap, ◌∙◌}
use mathlib.Core.Bool.{Bool, ◌&&◌}
use Rattle.list_coding.specs.Operands.{values}
use Rattle.list_coding.proofs.Bits.{nine}
use Rattle.list_coding.proofs.put_flags.Goals as goal
use Rattle.list_coding.proofs.put_flags.Goals.{then-high, else-high}

pub returns : goal.returns
returns c =
    let high = c.four_flags-high in
    let low = c.four_flags-low in
    let holds : c.if-high.put_bits ≡ (high.result.holds && low.result.holds) =
    elim c.if-high.branch [
      | then-high w ↦ w.put_bits-is ∙ ap (λ (b : Bool). b && low.result.holds) (sym w.if-high.true)
      | else-high w ↦ w.put_bits-is ∙ w.if-high.false ∙ ap (λ (b : Bool). b && low.result.holds) (sym w.if-high.false)
    ] in
    nine (values c.args.o) _ _ high.ensures.flagged low.ensures.flagged holds c.number_at-last.ensures.value c.put_bits.ensures c.put_bits-2.ensures
