-- The table of deltas lists the rule, action by action; the delta in each arm of `delta`. Assumes nothing.
use mathlib.Core.Path.{◌≡◌, refl, ap, sym, ◌∙◌}
use mathlib.Core.Bool.{Bool, true, false, cond}
use mathlib.Core.List.{List, ◌∷◌, ◌++◌, map}
use mathlib.Core.Logic.{◌⊎◌, inl, inr}
use mathlib.Core.Option.{Option, none, some}
use Prim.Native.Nat.{ℕ, ◌<◌, ◌≤◌}
use native.Mathlib.Omega.{arith}
use lib.IntN.{ℤ, pos}
use lib.ListN.{get_or}
use mir.Syntax.{w32}
use mir.Val.{to_z, of_z, bool_byte}
use mir.ValLaws.{to_z_pos}
use types.Run.{OneOf}
use borrow.Author.Tests.{lt-ltb, le-ltb}
use Rattle.laws.proofs.Tabulate.{agree, entry, tabulate}
use Rattle.names.specs.declared.ActionName.{ActionName}
use Rattle.names.specs.declared.ActionName.TheVariants as A
use Rattle.actions.specs.Numbers.{action_at, is_action, number_of, one_of}
use Rattle.actions.proofs.Numbers.{action-number, number_below}
use Rattle.actions.proofs.Arms.{arm, others}
use Rattle.answers.specs.Answers.{accepted, refused}
use Rattle.pcode.specs.Deltas.{delta_answer, delta_of, fixed_delta, functions, or_nine, undetermined}

-- the actions that no rule beside the table names
abbrev pub unruled : List ActionName
unruled = others (A.Push ∷ functions ++ undetermined)

abbrev pub listed : ℕ → ℤ
listed n = fixed_delta (action_at n)

-- a number as the machine keeps it and reads it back
abbrev pub kept : ℤ → ℤ
kept z = to_z w32 (of_z w32 z)

pub at-number : (n : ℕ) (a : ActionName) → n ≡ number_of a → kept (get_or (tabulate listed 0 100) n (pos 0)) ≡ fixed_delta a
unfolding fixed_delta number_of
at-number n a e =
    let h : n < 100 = rw e (number_below a) in
    ap kept (entry listed (pos 0) 100 n h)
    ∙ agree (λ k. kept (listed k)) listed 100 n refl h
    ∙ ap fixed_delta (ap action_at e ∙ action-number a)

module _ (a : ActionName) (values : ℕ) (empty : Bool) where
  pub too_long : 65536 < values → refused 1 0 ≡ delta_answer a values empty
  unfolding delta_answer
  too_long h = simp (lt-ltb _ _ h)

  module _ (h : values ≤ 65536) where
    answered : {d : Option ℤ} → d ≡ delta_of a values empty → or_nine d ≡ delta_answer a values empty
    unfolding delta_answer
    answered e = simp (le-ltb _ _ h, e)

    pub at_push : a ≡ A.Push → accepted (to_z w32 values) ≡ delta_answer a values empty
    unfolding delta_of number_of
    at_push e = ap accepted (to_z_pos w32 values (omega arith)) ∙ answered (sym (ap (λ (x : ActionName). delta_of x values empty) e))

    -- the flag as a number: 1 where the function has no name
    flag : (b : Bool) → kept (pos (bool_byte b)) ≡ cond b (pos 1) (pos 0)
    flag true = refl
    flag false = refl

    function-told : (b : ActionName) → a ≡ b → some (cond empty (pos 1) (pos 0)) ≡ delta_of b values empty → some (cond empty (pos 1) (pos 0)) ≡ delta_of a values empty
    function-told b e h = h ∙ sym (ap (λ (x : ActionName). delta_of x values empty) e)

    pub at-function : (r : ℤ) → r ≡ pos (bool_byte empty) → (a ≡ A.DefineFunction) ⊎ (a ≡ A.DefineFunction2)
        → accepted (kept r) ≡ delta_answer a values empty
    unfolding delta_of number_of
    at-function r e (inl k) = ap accepted (ap kept e ∙ flag empty) ∙ answered (function-told A.DefineFunction k refl)
    at-function r e (inr k) = ap accepted (ap kept e ∙ flag empty) ∙ answered (function-told A.DefineFunction2 k refl)

    pub at-undetermined : OneOf (map number_of undetermined) (number_of a) → refused 9 0 ≡ delta_answer a values empty
    unfolding delta_of number_of
    at-undetermined k = answered (arm (λ x. delta_of x values empty) none a undetermined refl k)

    -- none of the rules applies
    by-table : (u p f : Bool) → false ≡ u → false ≡ p → false ≡ f
        → some (fixed_delta a)
        ≡ cond u none (some (cond p (pos values) (cond f (cond empty (pos 1) (pos 0)) (fixed_delta a))))
    by-table u p f e g i = simp (← e, ← g, ← i)

    pub at_others : OneOf (map number_of unruled) (number_of a) → accepted (fixed_delta a) ≡ delta_answer a values empty
    unfolding delta_of number_of
    at_others k =
        answered
        (by-table (one_of a undetermined) (is_action a A.Push) (one_of a functions)
        (arm (λ x. one_of x undetermined) false a unruled refl k)
        (arm (λ x. is_action x A.Push) false a unruled refl k)
        (arm (λ x. one_of x functions) false a unruled refl k))
