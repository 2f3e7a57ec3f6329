-- `numbers::parse_double` meets its contract. Assumes nothing.
use borrow.Author.Tests.{not-true, not-false}
use mathlib.Core.Path.{◌≡◌, sym, ◌∙◌}
use mathlib.Core.Bool.{true}
use mathlib.Core.List.{List}
use Prim.Native.Nat.{ℕ, ◌≤◌}
use lib.ListN.{length, length-take}
use native.Mathlib.Omega.{arith}
use Rattle.numbers.specs.Doubles.{is_number, w}
use Rattle.numbers.proofs.Doubles as laws
use Rattle.numbers.proofs.parse_double.Goals as goal

pub returns-then-not-is_number : goal.returns-then-not-is_number
returns-then-not-is_number c =
    laws.off_pattern c.args.s.now (sym c.is_number.ensures ∙ not-true _ c.if-not-is_number.true-raw)

pub slice_bounds-number_up_to-end : goal.slice_bounds-number_up_to-end
slice_bounds-number_up_to-end c =
    let inside : c.mantissa_end-end.result ≤ length c.args.s.now = omega (arith, c.mantissa_end-end.ensures, (laws.mantissa_within c.args.s.now).to) in
    simp length-take (omega (arith, inside))

pub returns-in_default : goal.returns-in_default
returns-in_default c =
    let is-number : is_number c.args.s.now ≡ true = sym c.is_number.ensures ∙ not-false _ c.if-not-is_number.false-raw in
    let m = c in
    let s = m.args.s.now in
    laws.long s (is-number)
    (laws.digits_many s _ m.mantissa_end-end.ensures _ c.number_up_to.ensures c.in_default.is)

pub slice_bounds-number_up_to-count : goal.slice_bounds-number_up_to-count
slice_bounds-number_up_to-count c =
    let inside : c.mantissa_end-end.result ≤ length c.args.s.now = omega (arith, c.mantissa_end-end.ensures, (laws.mantissa_within c.args.s.now).to) in
    inside

pub slice_bounds-number_up_to-start : goal.slice_bounds-number_up_to-start
slice_bounds-number_up_to-start c =
    let inside : c.mantissa_end-end.result ≤ length c.args.s.now = omega (arith, c.mantissa_end-end.ensures, (laws.mantissa_within c.args.s.now).to) in
    inside

pub far_double-requires : goal.far_double-requires
far_double-requires c =
    let m = c in
    let s = m.args.s.now in (
      m.requires,
      laws.exponent_many s _ m.mantissa_end-end.ensures _ c.number_up_to-2.ensures c.in_default-number_up_to.is,
    )

pub returns-in_default-number_up_to : goal.returns-in_default-number_up_to
returns-in_default-number_up_to c =
    let is-number : is_number c.args.s.now ≡ true = sym c.is_number.ensures ∙ not-false _ c.if-not-is_number.false-raw in
    let text : List ℕ = c.args.s.now in
    let digits : (c.in-Some.n ≡ w (text)) × (c.in-Some.n ≤ 9007199254740992) = let m = c in
    laws.digits_told (text) _ m.mantissa_end-end.ensures _ c.number_up_to.ensures _ c.in-Some.is in
    let k = c in
    laws.known (text) (is-number) _ (digits).0 _ c.far_double.ensures

pub known_double-requires : goal.known_double-requires
known_double-requires c =
    let text : List ℕ = c.args.s.now in
    let digits : (c.in-Some.n ≡ w (text)) × (c.in-Some.n ≤ 9007199254740992) = let m = c in
    laws.digits_told (text) _ m.mantissa_end-end.ensures _ c.number_up_to.ensures _ c.in-Some.is in
    let k = c in
    let m = k in
    let x = laws.exponent-told (text) _ m.mantissa_end-end.ensures _ c.number_up_to-2.ensures _ c.in-Some-number_up_to.is in
    record { s_len_bound = (m.requires, m.mantissa_end-end.ensures); n_bound = ((digits).1, (x.1, x.0)) }

pub returns : goal.returns
returns c =
    let is-number : is_number c.args.s.now ≡ true = sym c.is_number.ensures ∙ not-false _ c.if-not-is_number.false-raw in
    let text : List ℕ = c.args.s.now in
    let digits : (c.in-Some.n ≡ w (text)) × (c.in-Some.n ≤ 9007199254740992) = let m = c in
    laws.digits_told (text) _ m.mantissa_end-end.ensures _ c.number_up_to.ensures _ c.in-Some.is in
    let k = c in
    laws.known (text) (is-number) _ (digits).0 _ c.known_double.ensures
