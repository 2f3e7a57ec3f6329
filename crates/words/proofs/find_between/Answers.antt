-- `words::find_between` meets its contract. Assumes nothing.
use native.Mathlib.Omega.{arith}
use Rattle.words.proofs.Tables as laws
use Rattle.words.proofs.find_between.Goals as goal

pub slice_bounds-same_word-count : goal.slice_bounds-same_word-count
slice_bounds-same_word-count c = (laws.cut-here c.args.starts.now c.args.letters.now c.loop-k.k c.requires.letters_value (omega arith)).ordered

pub slice_bounds-same_word-start : goal.slice_bounds-same_word-start
slice_bounds-same_word-start c = (laws.cut-here c.args.starts.now c.args.letters.now c.loop-k.k c.requires.letters_value (omega arith)).ordered

pub slice_bounds-same_word-end : goal.slice_bounds-same_word-end
slice_bounds-same_word-end c = (laws.cut-here c.args.starts.now c.args.letters.now c.loop-k.k c.requires.letters_value (omega arith)).inside

pub returns-then-same_word : goal.returns-then-same_word
returns-then-same_word c =
    laws.found c.args.w.now c.args.starts.now c.args.letters.now c.args.lo c.args.hi c.loop-k.k c.loop-k.invariant (omega arith) (omega arith)
    c.if-same_word.ensures

pub loop-k-preserved : goal.loop-k-preserved
loop-k-preserved c =
    laws.on c.args.w.now c.args.starts.now c.args.letters.now c.args.lo c.args.hi c.loop-k.k c.loop-k.invariant (omega arith) (omega arith)
    c.if-same_word.ensures

pub returns : goal.returns
returns c =
    laws.at-end c.args.w.now c.args.starts.now c.args.letters.now c.args.lo c.args.hi c.loop-k.k c.loop-k.invariant (omega arith)
