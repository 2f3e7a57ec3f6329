-- `exporting::second_pass` meets its contract. Assumes nothing.
use mathlib.Core.List.{[]}
use Rattle.exporting.specs.Passes.{tables_of}
use Rattle.exporting.proofs.Second.{given, given-again, large, short, written}
use Rattle.exporting.proofs.second_pass.Goals as goal

pub write_level-measured-requires : goal.write_level-measured-requires
write_level-measured-requires c =
    let p = c in
    let a = p.args in
    let n = c.actions_of-n in
    given (tables_of a.source a.aims.now) a.style a.place.now n.result n.ensures p.requires

pub returns-then-late-lt1048576 : goal.returns-then-late-lt1048576
returns-then-late-lt1048576 c =
    let p = c in
    let a = p.args in
    let n = c.actions_of-n in
    let w = c.write_level-measured in
    large (tables_of a.source a.aims.now) a.style a.place.now n.result n.ensures [] w.new.out w.result w.ensures a.out.now c.if-late-lt1048576.true

pub returns-then-out-size : goal.returns-then-out-size
returns-then-out-size c =
    let p = c in
    let a = p.args in
    let n = c.actions_of-n in
    let w = c.write_level-measured in
    short (tables_of a.source a.aims.now) a.style a.place.now n.result n.ensures [] w.new.out w.result w.ensures a.out.now c.if-late-lt1048576.false c.if-out-size.true

pub write_level-requires : goal.write_level-requires
write_level-requires c =
    let p = c in
    let a = p.args in
    let n = c.actions_of-n in
    let w = c.write_level-measured in
    given-again (tables_of a.source a.aims.now) a.style a.place.now n.result n.ensures p.requires w.new.place w.auto.place

pub returns : goal.returns
returns c =
    let p = c in
    let a = p.args in
    let n = c.actions_of-n in
    let w = c.write_level-measured in
    let v = c.write_level in
    written (tables_of a.source a.aims.now) a.style a.place.now n.result n.ensures [] w.new.out w.result w.ensures a.out.now c.if-late-lt1048576.false c.if-out-size.false
    w.new.place v.new.out v.result w.auto.place v.ensures
