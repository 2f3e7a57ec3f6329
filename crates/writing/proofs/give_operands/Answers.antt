-- `writing::give_operands` meets its contract. Assumes nothing.
use mathlib.Core.Path.{subst, sym, ◌∙◌}
use native.Mathlib.Omega.{arith}
use Rattle.events.specs.Log.{Holds}
use Rattle.writing.proofs.Gather.{begins, passes, flag_at_most, one_more, gives, tries, opens, others, ends}
use Rattle.writing.proofs.give_operands.Goals as goal
use Rattle.writing.proofs.give_operands.Goals.{in-Operand, in-Opened+else-not-is_try}

pub loop-i-init : goal.loop-i-init
loop-i-init c =
    begins _ _ _ _ _ _ c.requires.1.0

pub deeper-depth-requires : goal.deeper-depth-requires
deeper-depth-requires c =
    (c.if-depth-gt0.true, omega (arith, c.loop-i.invariant.shallow, c.loop-i.invariant.inside, c.requires.0))

pub loop-i-preserved-then-depth-gt0 : goal.loop-i-preserved-then-depth-gt0
loop-i-preserved-then-depth-gt0 c =
    passes _ _ _ _ _ _ _ _ _ _ _ c.loop-i.invariant c.loop-i-test.true _ c.event_of-event.ensures.value c.if-depth-gt0.true _ c.deeper-depth.ensures.0 c.deeper-depth.ensures.1

pub give_operand-is_unclosed-requires : goal.give_operand-is_unclosed-requires
give_operand-is_unclosed-requires c =
    (c.requires.1.1.0, subst Holds c.in-Operand.is c.event_of-event.ensures.holds)

pub overflow_add-unclosed : goal.overflow_add-unclosed
overflow_add-unclosed c =
    omega (arith, c.from-unclosed.ensures, flag_at_most c.give_operand-is_unclosed.result, c.loop-i.invariant.above, c.loop-i.invariant.few, c.loop-i.invariant.inside, c.requires.0, c.requires.1.1.1)

pub overflow_add-end : goal.overflow_add-end
overflow_add-end c =
    omega (arith, c.loop-i.invariant.few, c.loop-i.invariant.inside, c.requires.0, c.requires.1.1.1)

pub loop-i-preserved : goal.loop-i-preserved
loop-i-preserved c =
    elim c.match-event.branch [
      | in-Operand w ↦
          rw (w.operands-is, w.depth-is, w.end-is, w.unclosed-is)
          (gives _ _ _ _ _ _ _ _ _ _ _ c.loop-i.invariant c.loop-i-test.true _ c.event_of-event.ensures.value c.if-depth-gt0.false _ w.in-Operand.is _
          w.give_operand-is_unclosed.ensures.operands_after _ w.give_operand-is_unclosed.ensures.value _
          (one_more c.loop-i.unclosed w.from-unclosed.result _ w.from-unclosed.ensures))
      | in-Opened+else-not-is_try w ↦
          rw (w.operands-is, w.depth-is, w.end-is, w.unclosed-is)
          (tries _ _ _ _ _ _ _ _ _ _ _ c.loop-i.invariant c.loop-i-test.true _ c.event_of-event.ensures.value c.if-depth-gt0.false _ w.in-Opened.is _ w.block_of.ensures (sym w.if-not-is_try.false ∙ w.is_try.ensures))
    ]

pub returns-then-not-is_try : goal.returns-then-not-is_try
returns-then-not-is_try c =
    let got = opens _ _ _ _ _ _ _ _ _ _ _ c.loop-i.invariant c.loop-i-test.true _ c.event_of-event.ensures.value c.if-depth-gt0.false _ c.in-Opened.is _ c.block_of.ensures (sym c.if-not-is_try.true ∙ c.is_try.ensures) in
    record { operands_after = got.0; end_value = got.1.0; unclosed_value = got.1.1.0; unclosed_bound = got.1.1.1 }

pub returns-in-Action : goal.returns-in-Action
returns-in-Action c =
    let got = others _ _ _ _ _ _ _ _ _ _ _ c.loop-i.invariant c.loop-i-test.true _ c.event_of-event.ensures.value c.if-depth-gt0.false c.in-Action.is in
    record { operands_after = got.0; end_value = got.1.0; unclosed_value = got.1.1.0; unclosed_bound = got.1.1.1 }

pub returns : goal.returns
returns c =
    let got = ends _ _ _ _ _ _ _ _ _ _ _ c.loop-i.invariant c.loop-i-test.false in
    record { operands_after = got.0; end_value = got.1.0; unclosed_value = got.1.1.0; unclosed_bound = got.1.1.1 }
