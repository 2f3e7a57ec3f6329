-- `labels::look_up` meets its contract. Assumes nothing.
use mathlib.Core.Path.{◌≡◌, subst}
use Prim.Native.Nat.{ℕ}
use lib.ListN.{take}
use Rattle.labels.specs.Labels.{first_same}
use Rattle.labels.specs.Index.{Indexed}
use Rattle.labels.proofs.Searching.{indexed_anew}
use Rattle.labels.proofs.look_up.Goals as goal

pub find_label-found-requires : goal.find_label-found-requires
find_label-found-requires c =
    let indexed : let a = c.args in
    Indexed a.text.now a.s.now c.spread-u.result.seed c.spread-u.result.labels a.labels.now c.spread-u.new.index = let p = c in
    let a = p.args in
    let q = c.spread-u in
    indexed_anew a.text.now a.s.now a.t.seed a.t.labels a.labels.now a.index.now p.requires
    q.result.seed q.result.labels q.new.index q.auto.index q.ensures.kept q.ensures.chained in
    indexed

pub returns : goal.returns
returns c =
    let indexed : let a = c.args in
    Indexed a.text.now a.s.now c.spread-u.result.seed c.spread-u.result.labels a.labels.now c.spread-u.new.index = let p = c in
    let a = p.args in
    let q = c.spread-u in
    indexed_anew a.text.now a.s.now a.t.seed a.t.labels a.labels.now a.index.now p.requires
    q.result.seed q.result.labels q.new.index q.auto.index q.ensures.kept q.ensures.chained in
    let a = c.args in
    let q = c.spread-u in
    let f = c.find_label-found in record { found = subst (λ (m : ℕ). f.result.place ≡ first_same a.text.now a.s.now a.w (take m a.labels.now)) q.ensures.kept f.ensures.place; kept = q.ensures.kept; indexed = indexed }
