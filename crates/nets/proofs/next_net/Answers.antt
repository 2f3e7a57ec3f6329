-- `nets::next_net` meets its contract. Assumes nothing.
use borrow.Author.Rules.{rules}
use mathlib.Core.Path.{◌∙◌}
use lib.IntN.{◌+ℤ◌}
use mir.Syntax.{w32, w64}
use mir.Val.{SFits}
use mir.ValLaws.{to_z-of_z}
use Rattle.nets.proofs.Turns.{at-height, at-undetermined}
use Rattle.nets.proofs.next_net.Goals as goal

pub returns-in-Ok : goal.returns-in-Ok
returns-in-Ok c =
    let a = c.args in
    let p = c.requires in
    let f : SFits w64 c.raised.result = search rules in
    let fh : SFits w64 c.in-Height.h = search rules in
    let fd : SFits w32 c.in-Ok.by = search rules in
    let height = to_z-of_z w64 _ fh in
    let moved = to_z-of_z w32 _ fd in
    let got = at-height a.a a.values a.name a.empty a.net p.0 p.1.0 p.1.1 _ c.in-Height.is
    _ c.delta.ensures _ _ c.in-Ok.is (to_z-of_z w64 c.raised.result f ∙ c.raised.ensures ∙ (λ i. height i +ℤ moved i)) in
    record { value = got.0; net_fits = got.1 }

pub returns-in-Err : goal.returns-in-Err
returns-in-Err c =
    let a = c.args in
    let p = c.requires in
    let got = at-undetermined a.a a.values a.name a.empty a.net p.0 p.1.0 p.1.1 _ c.in-Height.is
    _ c.delta.ensures _ c.in-Err.is in
    record { value = got.0; net_fits = got.1 }
