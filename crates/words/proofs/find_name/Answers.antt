-- `words::find_name` meets its contract: the names with the word's first letter stand between the two entries. Assumes nothing.
use borrow.Author.Tests.{eqb-true, eqb-false}
use mathlib.Core.Path.{refl, sym}
use Prim.Native.Nat.{◌%◌}
use native.Mathlib.Omega.{arith}
use lib.ListN.{get_or}
use Rattle.words.proofs.Letters as laws
use Rattle.words.proofs.find_name.Goals as goal

pub returns-then-is_empty : goal.returns-then-is_empty
returns-then-is_empty c = laws.empty_word c.args.w.now (eqb-true _ 0 (sym c.if-is_empty.ensures))

pub find_between-i-requires-clause-lo_le_hi : goal.find_between-i-requires-clause-lo_le_hi
find_between-i-requires-clause-lo_le_hi c =
    let lent = c.args.names.now.lent in
    let range = laws.letter_range lent (get_or c.args.w.now 0 0 % 32) (omega arith) in
    (range.ordered, omega (arith, range.inside, lent.long))

pub returns-then-i-hi : goal.returns-then-i-hi
returns-then-i-hi c =
    let lent = c.args.names.now.lent in
    laws.names_it lent c.args.w.now (eqb-false _ 0 (sym c.if-is_empty.ensures)) refl _ _ _ (laws.letter_range lent (get_or c.args.w.now 0 0 % 32) (omega arith))
    c.find_between-i.ensures c.if-i-hi.true

pub returns-else-i-hi : goal.returns-else-i-hi
returns-else-i-hi c =
    let lent = c.args.names.now.lent in
    laws.names-none lent c.args.w.now (eqb-false _ 0 (sym c.if-is_empty.ensures)) refl _ _ _ (laws.letter_range lent (get_or c.args.w.now 0 0 % 32) (omega arith))
    c.find_between-i.ensures c.if-i-hi.false
