-- `numbers::parse_integer` meets its contract. Assumes nothing.
use mathlib.Core.Path.{sym, ap, subst, ◌∙◌}
use Prim.Native.Nat.{ℕ, ◌≤◌}
use mir.Syntax.{w32}
use mir.ValLaws.{to_z-of_z}
use Rattle.std.specs.Prelude.{Some}
use Rattle.numbers.proofs.Integers as laws
use Rattle.numbers.proofs.parse_integer.Goals as goal

pub returns-in_err-n : goal.returns-in_err-n
returns-in_err-n c =
    let l = c in
    c.from_residual.ensures
    ∙ laws.signed_or_none l.args.s.now _ l.minus_end-digits.ensures _
    l.has_minus-negative.ensures _ l.largest.ensures _ _ c.parse_natural.ensures c.in_err-n.was

pub signed_number-requires : goal.signed_number-requires
signed_number-requires c =
    let l = c in
    subst (λ (top : ℕ). c.in_ok-n.n ≤ top) l.largest.ensures
    (laws.natural-small l.largest.result _ c.in_ok-n.n
    (sym c.parse_natural.ensures ∙ c.in_ok-n.was))

pub returns : goal.returns
returns c =
    let l = c in
    ap Some (to_z-of_z w32 c.signed_number.result (record { sfits = c.signed_number.type_inv }) ∙ c.signed_number.ensures)
    ∙ laws.signed_or_none l.args.s.now _ l.minus_end-digits.ensures _
    l.has_minus-negative.ensures _ l.largest.ensures _ _ c.parse_natural.ensures
    c.in_ok-n.was
