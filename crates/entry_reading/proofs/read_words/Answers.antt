-- `entry_reading::read_words` meets its contract: the scratch is cut. Assumes nothing.
use borrow.Author.Rules.{rules}
use mathlib.Core.Path.{ap}
use mathlib.Core.List.{◌++◌}
use native.Mathlib.Omega.{arith}
use Rattle.handover.specs.Reading.{held_in}
use Rattle.held.proofs.Cut.{whole_part}
use Rattle.entry_reading.proofs.Labels.{scratch_read}
use Rattle.entry_reading.proofs.read_words.Goals as goal

pub returns : goal.returns
returns c =
    let a = c.args in
    scratch_read a.text.now a.tokens.now a.actions.now a.operands.now a.levels.now a.words.now c.split_at_mut-labels.result.0.now (held_in c.read.new.tables) _ a.room
    (record {
      tokens = whole_part (search rules);
      actions = whole_part (search rules);
      operands = whole_part (search rules);
      levels = whole_part (search rules);
      labels = record { rest = _; before = c.split_at_mut-labels.ensures.value; after = ap (λ k. k ++ c.split_at_mut-labels.result.1.now) (search rules) };
    })
    (omega (arith, c.split_at_mut-labels.ensures.front_len, c.min-n.ensures)) c.requires c.read.result c.read.ensures.reads
