-- The stack delta of one action: document 01, 'Values and deltas', in its order.
use Rattle.std.specs.Prelude.{Bool, cond, List, [], ◌∷◌, ℕ, ltb, ℤ, pos, neg_ℤ, Result, Ok, Err}
use Rattle.std.proofs.Math.Option.{Option, none, some}
use Rattle.names.specs.declared.ActionName.{ActionName}
use Rattle.names.specs.declared.ActionName.TheVariants as A
use Rattle.actions.specs.Numbers.{is_action, one_of}
use Rattle.answers.specs.declared.Refusal.{Refusal}
use Rattle.answers.specs.Answers.{Answer, accepted, refused, refusal}

abbrev pub plus_one : List ActionName
plus_one =
    A.GetTime ∷ A.NewObject ∷ A.PushDuplicate ∷ []

abbrev pub minus_one : List ActionName
minus_one =
    A.Add ∷ A.Add2 ∷ A.And ∷ A.BitAnd ∷ A.BitLShift ∷ A.BitOr ∷ A.BitRShift ∷ A.BitURShift ∷ A.BitXor ∷ A.Call ∷
    A.CastOp ∷ A.DefineLocal2 ∷ A.Delete2 ∷ A.Divide ∷ A.Equals ∷ A.Equals2 ∷ A.GetMember ∷ A.GetProperty ∷
    A.GotoFrame2 ∷ A.Greater ∷ A.If ∷ A.InstanceOf ∷ A.Less ∷ A.Less2 ∷ A.Modulo ∷ A.Multiply ∷ A.Or ∷ A.Pop ∷
    A.RemoveSprite ∷ A.Return ∷ A.SetTarget2 ∷ A.StrictEquals ∷ A.StringAdd ∷ A.StringEquals ∷ A.StringGreater ∷
    A.StringLess ∷ A.Subtract ∷ A.Throw ∷ A.Trace ∷ A.WaitForFrame2 ∷ A.With ∷ []

abbrev pub minus_two : List ActionName
minus_two =
    A.DefineLocal ∷ A.Delete ∷ A.Extends ∷ A.GetUrl2 ∷ A.MBStringExtract ∷ A.SetVariable ∷ A.StringExtract ∷ []

abbrev pub minus_three : List ActionName
minus_three =
    A.CloneSprite ∷ A.SetMember ∷ A.SetProperty ∷ []

abbrev pub undetermined : List ActionName
undetermined =
    A.CallFunction ∷ A.CallMethod ∷ A.ImplementsOp ∷ A.InitArray ∷ A.InitObject ∷ A.NewMethod ∷ A.StartDrag ∷ []

abbrev pub functions : List ActionName
functions = A.DefineFunction ∷ A.DefineFunction2 ∷ []

-- the fixed table; all others 0
unfoldable pub fixed_delta : ActionName → ℤ
fixed_delta a =
    cond (one_of a plus_one) (pos 1)
    (cond (one_of a minus_one) (neg_ℤ (pos 1))
    (cond (one_of a minus_two) (neg_ℤ (pos 2))
    (cond (one_of a minus_three) (neg_ℤ (pos 3)) (pos 0))))

-- with the three rules beside it; `none` is undetermined
unfoldable pub delta_of : ActionName → ℕ → Bool → Option ℤ
delta_of a values name_is_empty =
    cond (one_of a undetermined) none
    (some (cond (is_action a A.Push) (pos values) (cond (one_of a functions) (cond name_is_empty (pos 1) (pos 0)) (fixed_delta a))))

abbrev pub or_nine : Option ℤ → Answer ℤ
or_nine none = refused 9 0
or_nine (some d) = accepted d

-- row 1 comes before row 9
unfoldable pub delta_answer : ActionName → ℕ → Bool → Answer ℤ
delta_answer a values name_is_empty = cond (ltb 65536 values) (refused 1 0) (or_nine (delta_of a values name_is_empty))

abbrev pub answer : Result ℤ Refusal → Answer ℤ
answer (Ok d) = accepted d
answer (Err r) = refusal r
