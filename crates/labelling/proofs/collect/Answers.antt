-- `labelling::collect` meets its contract. Assumes nothing.
use borrow.Author.Rules.{rules}
use mathlib.Core.Path.{refl, ap, ◌∙◌}
use native.Mathlib.Omega.{arith}
use lib.ListN.{length, length-set}
use Rattle.labelling.specs.Naming.{steps, naming}
use Rattle.labelling.proofs.Turns.{first, wider, again, ended}
use Rattle.labelling.proofs.collect.Goals as goal

pub loop-word-init : goal.loop-word-init
loop-word-init c = record { inside = omega arith; few = first _ c.args.own.now c.put_label.ensures; told = refl; own-long = refl; named-long = refl }

pub name_event-n-requires : goal.name_event-n-requires
name_event-n-requires c = (wider _ _ _ (omega (arith, c.loop-word.invariant.inside, c.requires)) c.loop-word.invariant.few, c.event_of-event.ensures.holds)

pub loop-word-preserved : goal.loop-word-preserved
loop-word-preserved c =
    again _ _ _ _ _ _ _ _ c.loop-word.invariant c.loop-word-test.true c.requires _ c.event_of-event.ensures.value _ _ _ c.name_event-n.ensures (search rules) (search rules)

pub shape_of-own : goal.shape_of-own
shape_of-own c =
    c.loop-word.invariant.own-long ∙ ap length c.put_label.ensures ∙ simp length-set

pub shape_of-named : goal.shape_of-named
shape_of-named c =
    c.loop-word.invariant.named-long

pub returns : goal.returns
returns c =
    let a = c.args in
    record {
      at = _;
      all =
          ended _ _ _ _ _ _ _ _ c.loop-word.invariant c.loop-word-test.false
          ∙ ap (λ l. steps a.log.now (naming l a.named.now (record { level = 0; levels = 1; labels = 0; actions = 0 }))) c.put_label.ensures;
    }
