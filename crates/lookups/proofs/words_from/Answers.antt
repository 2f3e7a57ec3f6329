-- `lookups::words_from` meets its contract. Assumes nothing.
use Prim.Native.Nat.{ℕ, ◌-◌}
use mathlib.Core.List.{List}
use mathlib.Core.Path.{ap, ◌∙◌}
use native.Mathlib.Omega.{arith}
use lib.ListN.{length, take, drop}
use Rattle.std.proofs.lemmas.List.{drop_min, take_min, take_all, length-drop}
use Rattle.lookups.proofs.words_from.Goals as goal

pub returns : goal.returns
returns c =
    let table = c.args.table.now in
    let first = c.min.result in
    let rest = take (length table - first) (drop first table) in
    ap (λ (n : ℕ). take n rest) c.min-2.ensures ∙ take_min c.args.count rest
    ∙ ap (take c.args.count) (take_all _ (drop first table) (omega (arith, length-drop first table)) ∙ ap (λ (n : ℕ). drop n table) c.min.ensures ∙ drop_min c.args.first table)
