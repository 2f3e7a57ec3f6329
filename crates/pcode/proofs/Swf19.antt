-- The deltas against SWF19: document 01's delta follows it for every action but the three differences, and not for those.
-- Assumes nothing.
use mathlib.Core.Path.{◌≡◌, refl, ap, sym, ◌∙◌}
use mathlib.Core.Bool.{Bool, true, false, cond, true≢false}
use mathlib.Core.List.{List, ◌∷◌, ◌++◌}
use mathlib.Core.Option.{Option, none, some}
use Prim.Native.Nat.{ℕ}
use native.Mathlib.Omega.{arith}
use lib.Dec.{eqb}
use lib.IntN.{ℤ, pos, nat_abs, ◌-ℤ◌}
use borrow.Author.Tests.{eqb-false}
use Rattle.laws.proofs.Tabulate.{agree}
use Rattle.names.specs.declared.ActionName.{ActionName}
use Rattle.names.specs.declared.ActionName.TheVariants as A
use Rattle.actions.specs.Numbers.{action_at, number_of, one_of}
use Rattle.actions.proofs.Numbers.{action-number, number_below}
use Rattle.actions.proofs.Listed.{one-of}
use Rattle.pcode.specs.Deltas.{delta_of, fixed_delta, functions, undetermined}
use Rattle.pcode.specs.Swf19.{Differs, Follows, Operands, Stack, differences, net}

abbrev delta_at : ActionName → Operands → Option ℤ
delta_at a o = delta_of a o.values o.name_is_empty

-- the actions whose effect in SWF19 is no constant
abbrev varying : List ActionName
varying = A.Push ∷ functions ++ (undetermined ++ differences)

abbrev less : Stack
less = record { count = 0; found = 0; constrained = false }

abbrev more : Stack
more = record { count = 1; found = 1; constrained = true }

-- ---- constant effects: one computed test over the 100 actions

module _ (o : Operands) where
  abbrev by-table : ActionName → Option ℤ
  by-table a = cond (one_of a varying) none (delta_at a o)

  abbrev by_swf19 : Stack → ActionName → Option ℤ
  by_swf19 s a = cond (one_of a varying) none (some (net o s a))

  tables : (s : Stack) (a : ActionName) → by-table a ≡ by_swf19 s a
  unfolding delta_of fixed_delta number_of
  tables s a =
      ap by-table (sym (action-number a))
      ∙ agree (λ n. by-table (action_at n)) (λ n. by_swf19 s (action_at n)) 100 (number_of a) refl (number_below a)
      ∙ ap (by_swf19 s) (action-number a)

  constant : (a : ActionName) → one_of a varying ≡ false → (s : Stack) → delta_at a o ≡ some (net o s a)
  constant a e s = simp e at (tables s a)

  follows : (a : ActionName) (d : Option ℤ) → ((s : Stack) → d ≡ some (net o s a)) → Follows a o d
  follows a none h = let e = h less in let z : ◌≡◌ {A = ℕ} 0 1 = cc in absurd (omega arith)
  follows a (some d) h = λ s. let e = h s in cc

-- ---- effects that depend on the operands

abbrev Agrees : ActionName → Type 0
Agrees a = (o : Operands) → Follows a o (delta_at a o)

push : Agrees A.Push
unfolding delta_of number_of
push o s = ap pos (omega arith)

unnamed : (t : Bool) → pos (cond t 1 0) -ℤ pos 0 ≡ cond t (pos 1) (pos 0)
unnamed true = refl
unnamed false = refl

-- ---- effects that depend on the stack: two stacks with different nets

varies : (a : ActionName) (o : Operands) → eqb (nat_abs (net o less a)) (nat_abs (net o more a)) ≡ false → Follows a o none
varies a o e = (less, more, λ h. eqb-false (nat_abs (net o less a)) (nat_abs (net o more a)) e (ap nat_abs h))

-- ---- all of them

abbrev Unless : ActionName → Type 0
Unless a = one_of a differences ≡ false → Agrees a

infixr 20 ◌and◌
◌and◌ : {A B : Type 0} → A → B → A × B
a and b = (a, b)

listed : (a : ActionName) → one_of a varying ≡ true → Unless a
unfolding delta_of number_of
listed =
    one-of Unless varying
    ((λ h. push)
    and (λ h o s. unnamed o.name_is_empty)
    and (λ h o s. unnamed o.name_is_empty)
    and (λ h o. varies A.CallFunction o refl)
    and (λ h o. varies A.CallMethod o refl)
    and (λ h o. varies A.ImplementsOp o refl)
    and (λ h o. varies A.InitArray o refl)
    and (λ h o. varies A.InitObject o refl)
    and (λ h o. varies A.NewMethod o refl)
    and (λ h o. varies A.StartDrag o refl)
    and (λ h. absurd (true≢false h))
    and (λ h. absurd (true≢false h))
    and (λ h. absurd (true≢false h))
    and tt)

-- where the delta is known, it is what SWF19 pushes less what it pops; it is undetermined exactly where that depends on the stack
pub agrees : (a : ActionName) → one_of a differences ≡ false → (o : Operands) → Follows a o (delta_of a o.values o.name_is_empty)
agrees a h o = by (one_of a varying) refl
  where
    by : (t : Bool) → one_of a varying ≡ t → Follows a o (delta_at a o)
    by true e = listed a e h o
    by false e = follows o a (delta_at a o) (constant o a e)

abbrev no_operands : Operands
no_operands = record { values = 0; name_is_empty = false }

differs-by : (a : ActionName) (d : ℤ) → delta_at a no_operands ≡ some d → eqb (nat_abs (net no_operands more a)) (nat_abs d) ≡ false → Differs a
differs-by a d k e =
    record {
      operands = no_operands;
      stack = more;
      delta = d;
      known = k;
      differs = λ h. eqb-false (nat_abs (net no_operands more a)) (nat_abs d) e (ap nat_abs h);
    }

-- each of the three does differ
pub differs : (a : ActionName) → one_of a differences ≡ true → Differs a
unfolding delta_of fixed_delta number_of
differs =
    one-of Differs differences
    (differs-by A.NewObject (pos 1) refl refl
    and differs-by A.Enumerate (pos 0) refl refl
    and differs-by A.Enumerate2 (pos 0) refl refl
    and tt)
