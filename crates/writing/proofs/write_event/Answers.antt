-- `writing::write_event` meets its contract. Assumes nothing.
use mathlib.Core.Path.{ap, ◌∙◌}
use Prim.Native.Nat.{◌+◌}
use native.Mathlib.Omega.{arith}
use lib.ListN.{drop}
use Rattle.writing.specs.Writing.{acted, opened, written}
use Rattle.writing.proofs.Turns.{opened-is, closed_is, arm, idle, wider, widest, acts-small, stays_small, opens_small, closes_small}
use Rattle.writing.proofs.write_event.Goals as goal

pub act-requires : goal.act-requires
act-requires c = let p = c.requires in (p.0, (omega (arith, p.1.0), wider _ _ p.1.1 (omega (arith, p.0, p.1.0))))

pub open-requires : goal.open-requires
open-requires c = let p = c.requires in widest _ _ p.1.1 (omega (arith, p.0, p.1.0))

pub returns-in-Action : goal.returns-in-Action
returns-in-Action c =
    let p = c.requires in
    let a = c.args in
    let e = c.act.ensures in record {
      result_after = arm _ _ _ _ _ _ _ _ c.event_of-event.ensures.value c.in-Action.is
          (e.result_after ∙ ap (λ n. acted a.text.now a.s.now n (drop (a.i + 1) a.log.now) (written a.actions.now a.operands.now a.levels.now a.w)) c.action_at-name.ensures);
      behind = acts-small _ _ p.1.1 (omega (arith, p.0, p.1.0)) _ e.actions_value;
    }

pub returns-in-Label : goal.returns-in-Label
returns-in-Label c =
    let p = c.requires in
    record { result_after = idle _ _ _ _ _ _ c.event_of-event.ensures.value c.in-Label.is; behind = stays_small _ _ p.1.1 (omega (arith, p.0, p.1.0)) }

pub returns-in-Opened : goal.returns-in-Opened
returns-in-Opened c =
    let p = c.requires in
    let a = c.args in
    let e = c.open.ensures in record {
      result_after = arm _ _ _ _ _ _ _ _ c.event_of-event.ensures.value c.in-Opened.is
          (opened-is _ _ _ _ _ _ _ e.value e.levels_after ∙ ap (λ b. opened b (written a.actions.now a.operands.now a.levels.now a.w)) c.block_of.ensures);
      behind = opens_small _ _ p.1.1 (omega (arith, p.0, p.1.0)) _ e.value;
    }

pub returns-in-Closed : goal.returns-in-Closed
returns-in-Closed c =
    let p = c.requires in
    let a = c.args in
    let e = c.close.ensures in record { result_after = arm _ _ _ _ _ _ _ _ c.event_of-event.ensures.value c.in-Closed.is (closed_is a.actions.now a.operands.now a.levels.now a.w _ e.value); behind = closes_small _ _ p.1.1 (omega (arith, p.0, p.1.0)) a.actions.now a.levels.now _ e.value e.small.0 e.small.1 }
