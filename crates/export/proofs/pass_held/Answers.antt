-- `export::pass_held` meets its contract. Assumes nothing.
use mathlib.Core.Path.{sym}
use Prim.Native.Nat.{◌*◌}
use lib.Seq.{length-take-le}
use Rattle.export.proofs.pass_held.Goals as goal

pub slice_bounds-source-end : goal.slice_bounds-source-end
slice_bounds-source-end c = let p = c in sym (length-take-le p.args.c.tokens p.args.held.now.tokens.now p.requires.tokens)

pub slice_bounds-source-end-2 : goal.slice_bounds-source-end-2
slice_bounds-source-end-2 c = let p = c in sym (length-take-le p.args.c.actions p.args.held.now.actions.now p.requires.actions)

pub slice_bounds-source-end-3 : goal.slice_bounds-source-end-3
slice_bounds-source-end-3 c = let p = c in sym (length-take-le p.args.c.operands p.args.held.now.operands.now p.requires.operands)

pub slice_bounds-source-end-4 : goal.slice_bounds-source-end-4
slice_bounds-source-end-4 c = let p = c in sym (length-take-le (2 * p.args.c.levels) p.args.held.now.levels.now p.requires.levels)

pub slice_bounds-source-end-5 : goal.slice_bounds-source-end-5
slice_bounds-source-end-5 c = let p = c in sym (length-take-le p.args.c.labels p.args.held.now.labels.now p.requires.labels)
