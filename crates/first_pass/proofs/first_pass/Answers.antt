-- `first_pass::first_pass` meets its contract: after i turns no action before i has a fault. Assumes nothing.
use mathlib.Core.Path.{refl, sym, ap, subst}
use mathlib.Core.List.{List}
use Prim.Native.Nat.{ℕ}
use native.Mathlib.Omega.{arith}
use lib.Seq.{take-length}
use Rattle.std.proofs.lemmas.Result.{err_from_is_err_and}
use Rattle.entries.specs.declared.Action.{Action}
use Rattle.labels.specs.Index.{Distinct}
use Rattle.first_pass.proofs.Turns.{begins, place-there, found_first, goes_on, none_first, all-aimed}
use Rattle.first_pass.proofs.first_pass.Goals as goal

pub index_labels-t-requires : goal.index_labels-t-requires
index_labels-t-requires c =
    let p = c in
    let a = p.args in
    record { m_in_bounds = (omega arith, p.requires.actions_in_bounds.1); distinct = subst (λ (l : List ℕ). Distinct a.source.text.now a.source.tokens.now l) (sym (take-length a.source.labels.now)) p.requires.sound.1 }

pub loop-i-init : goal.loop-i-init
loop-i-init c =
    let p = c in
    let a = p.args in
    let start = c.index_labels-t.new.index in
    let q = c.index_labels-t in
    begins a.source.text.now a.source.tokens.now a.source.actions.now a.source.operands.now a.source.labels.now a.style a.aims.now start start q.result refl q.ensures.all q.ensures.indexed

pub find_aim-found-requires : goal.find_aim-found-requires
find_aim-found-requires c = let l = c.loop-i in (l.invariant.indexed, l.invariant.all)

pub bounds-aims-i : goal.bounds-aims-i
bounds-aims-i c =
    let p = c in
    let a = p.args in
    let start = c.index_labels-t.new.index in
    let l = c.loop-i in
    place-there a.source.text.now a.source.tokens.now a.source.actions.now a.source.operands.now a.source.labels.now a.style a.aims.now start l.aims l.index l.t l.i l.invariant c.loop-i-test.true p.requires.actions_in_bounds.0

pub fault_of-requires : goal.fault_of-requires
fault_of-requires c =
    let e = c.action_in.ensures in
    record { sound = c.requires.sound.0; small = record { first = omega (arith, ap (λ (x : Action). x.first) e); count = omega (arith, ap (λ (x : Action). x.count) e) } }

pub returns-in_err-fault_of-clause-first : goal.returns-in_err-fault_of-clause-first
returns-in_err-fault_of-clause-first c =
    let p = err_from_is_err_and c.from_residual.result c.from_residual.ensures.1 in
    let a = c.args in
    let start = c.index_labels-t.new.index in
    let l = c.loop-i in
    let q = c.find_aim-found in
    let e = c.action_in in
    let n = c.fault_of in
    rw (p.1, p.2)
    (found_first a.source.text.now a.source.tokens.now a.source.actions.now a.source.operands.now a.source.labels.now a.style a.aims.now start l.aims l.index l.t l.i l.invariant c.loop-i-test.true c.requires.actions_in_bounds.0
    e.result e.ensures q.result.aim q.ensures.aimed n.result n.ensures c.in_err-fault_of.field-0.0 c.in_err-fault_of.was)

pub loop-i-preserved : goal.loop-i-preserved
loop-i-preserved c =
    let p = c in
    let a = p.args in
    let start = c.index_labels-t.new.index in
    let l = c.loop-i in
    let q = c.find_aim-found in
    let e = c.action_in in
    let n = c.fault_of in
    goes_on a.source.text.now a.source.tokens.now a.source.actions.now a.source.operands.now a.source.labels.now a.style a.aims.now start l.aims l.index l.t l.i l.invariant c.loop-i-test.true p.requires.actions_in_bounds.0
    e.result e.ensures q.result.aim q.ensures.aimed n.result n.ensures c.in_ok-fault_of.was
    q.new.index q.result.merging q.auto.index q.ensures.indexed.0 q.ensures.indexed.1

pub returns : goal.returns
returns c =
    let p = c in
    let a = p.args in
    let start = c.index_labels-t.new.index in
    let l = c.loop-i in
    let no_more = c.loop-i-test.false in
    record {
      first = none_first a.source.text.now a.source.tokens.now a.source.actions.now a.source.operands.now a.source.labels.now a.style a.aims.now start l.aims l.index l.t l.i l.invariant no_more;
      aimed = all-aimed a.source.text.now a.source.tokens.now a.source.actions.now a.source.operands.now a.source.labels.now a.style a.aims.now start l.aims l.index l.t l.i l.invariant no_more;
    }
