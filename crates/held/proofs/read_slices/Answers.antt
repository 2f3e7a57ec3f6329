-- `held::read_slices` meets its contract: each table is cut, and the answer is that for the lent ones. Assumes nothing.
use borrow.Author.Rules.{rules}
use mathlib.Core.Path.{ap}
use mathlib.Core.List.{◌++◌}
use native.Mathlib.Omega.{arith}
use Rattle.handover.specs.Reading.{lent, held_in}
use Rattle.held.proofs.Cut.{held_cut}
use Rattle.held.proofs.read_slices.Goals as goal

pub returns : goal.returns
returns c =
    let a = c.args in
    record {
      before = lent a.tokens.now a.actions.now a.operands.now a.levels.now a.labels.now;
      reads =
          held_cut a.text.now a.places (lent c.split_at_mut-tokens.result.0.now c.split_at_mut-actions.result.0.now c.split_at_mut-operands.result.0.now c.split_at_mut-levels.result.0.now c.split_at_mut-labels.result.0.now) (held_in c.read.new.tables) _ _
          (record {
            tokens = record { rest = _; before = c.split_at_mut-tokens.ensures.value; after = ap (λ k. k ++ c.split_at_mut-tokens.result.1.now) (search rules) };
            actions = record { rest = _; before = c.split_at_mut-actions.ensures.value; after = ap (λ k. k ++ c.split_at_mut-actions.result.1.now) (search rules) };
            operands = record { rest = _; before = c.split_at_mut-operands.ensures.value; after = ap (λ k. k ++ c.split_at_mut-operands.result.1.now) (search rules) };
            levels = record { rest = _; before = c.split_at_mut-levels.ensures.value; after = ap (λ k. k ++ c.split_at_mut-levels.result.1.now) (search rules) };
            labels = record { rest = _; before = c.split_at_mut-labels.ensures.value; after = ap (λ k. k ++ c.split_at_mut-labels.result.1.now) (search rules) };
          })
          c.requires
          (omega (arith, c.split_at_mut-tokens.ensures.front_len, c.min-t.ensures)) (omega (arith, c.split_at_mut-actions.ensures.front_len, c.min-a.ensures))
          (omega (arith, c.split_at_mut-operands.ensures.front_len, c.min-o.ensures)) (omega (arith, c.split_at_mut-levels.ensures.front_len, c.min-l.ensures))
          (omega (arith, c.split_at_mut-labels.ensures.front_len, c.min-b.ensures))
          c.read.result c.read.ensures.reads;
    }
