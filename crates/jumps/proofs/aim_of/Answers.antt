-- `jumps::aim_of` meets its contract. Assumes nothing.
use mathlib.Core.Path.{ap}
use native.Mathlib.Omega.{arith}
use Rattle.entries.specs.declared.Label.{Label}
use Rattle.jumps.proofs.Found.{found, not_found}
use Rattle.jumps.proofs.aim_of.Goals as goal

pub overflow_add-aim : goal.overflow_add-aim
overflow_add-aim c =
    record { fits = omega (arith, ap (λ (l : Label). l.position) c.label_of-aim.ensures) }

pub returns-then-k-t : goal.returns-then-k-t
returns-then-k-t c =
    let p = c in
    let a = p.args in
    let q = c.look_up-found in
    record {
      aimed =
          found a.source.text.now a.source.tokens.now a.level a.token p.requires.level_bound.1 a.source.labels.now a.t.labels p.requires.indexed_2.inside c.label_word.ensures
          q.result.place q.ensures.found c.if-k-t.true c.label_of-aim.ensures;
      kept = q.ensures.kept;
      indexed = q.ensures.indexed;
    }

pub returns : goal.returns
returns c =
    let p = c in
    let a = p.args in
    let q = c.look_up-found in
    record {
      aimed =
          not_found a.source.text.now a.source.tokens.now a.level a.token p.requires.level_bound.1 a.source.labels.now a.t.labels p.requires.indexed_2.inside c.label_word.ensures
          q.result.place q.ensures.found c.if-k-t.false;
      kept = q.ensures.kept;
      indexed = q.ensures.indexed;
    }
