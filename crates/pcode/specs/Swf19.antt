-- What each action pops and pushes as SWF19 defines it (docs/swf19-actions.md, columns pops and pushes), and what a delta must be to follow it.
use Rattle.std.specs.Prelude.{◌≡◌, Bool, cond, List, [], ◌∷◌, ℕ, ◌+◌, ◌*◌, ℤ, pos, ◌-ℤ◌}
use Rattle.std.proofs.Math.Option.{Option, none, some}
use Rattle.names.specs.declared.ActionName.{ActionName}
use Rattle.names.specs.declared.ActionName.TheVariants as A
use Rattle.pcode.specs.Deltas.{delta_of}

-- what the action's operands say: the values of a Push, the name of a function
pub record Operands : Type 0 where
  pub values : ℕ
  pub name_is_empty : Bool

-- what the action finds: the count on the stack (of arguments, elements, properties or interfaces), the names that an
-- enumeration finds, and whether a drag is constrained
pub record Stack : Type 0 where
  pub count : ℕ
  pub found : ℕ
  pub constrained : Bool

pub record Effect : Type 0 where
  pub popped : ℕ
  pub pushed : ℕ

infix 40 pops◌pushes◌
abbrev pub pops◌pushes◌ : ℕ → ℕ → Effect
pops m pushes n = record { popped = m; pushed = n }

module _ (o : Operands) (s : Stack) where
  abbrev pub effect : ActionName → Effect
  effect A.Add = pops 2 pushes 1
  effect A.Add2 = pops 2 pushes 1
  effect A.And = pops 2 pushes 1
  effect A.AsciiToChar = pops 1 pushes 1
  effect A.BitAnd = pops 2 pushes 1
  effect A.BitLShift = pops 2 pushes 1
  effect A.BitOr = pops 2 pushes 1
  effect A.BitRShift = pops 2 pushes 1
  effect A.BitURShift = pops 2 pushes 1
  effect A.BitXor = pops 2 pushes 1
  effect A.Call = pops 1 pushes 0
  effect A.CallFunction = pops (2 + s.count) pushes 1
  effect A.CallMethod = pops (3 + s.count) pushes 1
  effect A.CastOp = pops 2 pushes 1
  effect A.CharToAscii = pops 1 pushes 1
  effect A.CloneSprite = pops 3 pushes 0
  effect A.ConstantPool = pops 0 pushes 0
  effect A.Decrement = pops 1 pushes 1
  effect A.DefineFunction = pops 0 pushes (cond o.name_is_empty 1 0)
  effect A.DefineFunction2 = pops 0 pushes (cond o.name_is_empty 1 0)
  effect A.DefineLocal = pops 2 pushes 0
  effect A.DefineLocal2 = pops 1 pushes 0
  effect A.Delete = pops 2 pushes 0
  effect A.Delete2 = pops 1 pushes 0
  effect A.Divide = pops 2 pushes 1
  effect A.End = pops 0 pushes 0
  effect A.EndDrag = pops 0 pushes 0
  effect A.Enumerate = pops 1 pushes (1 + s.found)
  effect A.Enumerate2 = pops 1 pushes (1 + s.found)
  effect A.Equals = pops 2 pushes 1
  effect A.Equals2 = pops 2 pushes 1
  effect A.Extends = pops 2 pushes 0
  effect A.GetMember = pops 2 pushes 1
  effect A.GetProperty = pops 2 pushes 1
  effect A.GetTime = pops 0 pushes 1
  effect A.GetUrl = pops 0 pushes 0
  effect A.GetUrl2 = pops 2 pushes 0
  effect A.GetVariable = pops 1 pushes 1
  effect A.GotoFrame = pops 0 pushes 0
  effect A.GotoFrame2 = pops 1 pushes 0
  effect A.GotoLabel = pops 0 pushes 0
  effect A.Greater = pops 2 pushes 1
  effect A.If = pops 1 pushes 0
  effect A.ImplementsOp = pops (2 + s.count) pushes 0
  effect A.Increment = pops 1 pushes 1
  effect A.InitArray = pops (1 + s.count) pushes 1
  effect A.InitObject = pops (1 + 2 * s.count) pushes 1
  effect A.InstanceOf = pops 2 pushes 1
  effect A.Jump = pops 0 pushes 0
  effect A.Less = pops 2 pushes 1
  effect A.Less2 = pops 2 pushes 1
  effect A.MBAsciiToChar = pops 1 pushes 1
  effect A.MBCharToAscii = pops 1 pushes 1
  effect A.MBStringExtract = pops 3 pushes 1
  effect A.MBStringLength = pops 1 pushes 1
  effect A.Modulo = pops 2 pushes 1
  effect A.Multiply = pops 2 pushes 1
  effect A.NewMethod = pops (3 + s.count) pushes 1
  effect A.NewObject = pops (2 + s.count) pushes 1
  effect A.NextFrame = pops 0 pushes 0
  effect A.Not = pops 1 pushes 1
  effect A.Or = pops 2 pushes 1
  effect A.Play = pops 0 pushes 0
  effect A.Pop = pops 1 pushes 0
  effect A.PrevFrame = pops 0 pushes 0
  effect A.Push = pops 0 pushes o.values
  effect A.PushDuplicate = pops 0 pushes 1
  effect A.RandomNumber = pops 1 pushes 1
  effect A.RemoveSprite = pops 1 pushes 0
  effect A.Return = pops 1 pushes 0
  effect A.SetMember = pops 3 pushes 0
  effect A.SetProperty = pops 3 pushes 0
  effect A.SetTarget = pops 0 pushes 0
  effect A.SetTarget2 = pops 1 pushes 0
  effect A.SetVariable = pops 2 pushes 0
  effect A.StackSwap = pops 2 pushes 2
  effect A.StartDrag = pops (cond s.constrained 7 3) pushes 0
  effect A.Stop = pops 0 pushes 0
  effect A.StopSounds = pops 0 pushes 0
  effect A.StoreRegister = pops 0 pushes 0
  effect A.StrictEquals = pops 2 pushes 1
  effect A.StringAdd = pops 2 pushes 1
  effect A.StringEquals = pops 2 pushes 1
  effect A.StringExtract = pops 3 pushes 1
  effect A.StringGreater = pops 2 pushes 1
  effect A.StringLength = pops 1 pushes 1
  effect A.StringLess = pops 2 pushes 1
  effect A.Subtract = pops 2 pushes 1
  effect A.TargetPath = pops 1 pushes 1
  effect A.Throw = pops 1 pushes 0
  effect A.ToInteger = pops 1 pushes 1
  effect A.ToNumber = pops 1 pushes 1
  effect A.ToString = pops 1 pushes 1
  effect A.ToggleQuality = pops 0 pushes 0
  effect A.Trace = pops 1 pushes 0
  effect A.Try = pops 0 pushes 0
  effect A.TypeOf = pops 1 pushes 1
  effect A.WaitForFrame = pops 0 pushes 0
  effect A.WaitForFrame2 = pops 1 pushes 0
  effect A.With = pops 1 pushes 0

  abbrev pub net : ActionName → ℤ
  net a = pos (effect a).pushed -ℤ pos (effect a).popped

-- a delta is SWF19's if it is what is pushed less what is popped, whatever the stack;
-- an undetermined one, if that depends on the stack
abbrev pub Follows : ActionName → Operands → Option ℤ → Type 0
Follows a o (some d) = (s : Stack) → net o s a ≡ d
Follows a o none = (s : Stack) × (t : Stack) × (net o s a ≡ net o t a → ⊥)

-- document 01's table and SWF19 differ here, and nowhere else
abbrev pub differences : List ActionName
differences = A.NewObject ∷ A.Enumerate ∷ A.Enumerate2 ∷ []

-- for some operands and some stack the delta is not SWF19's
pub record Differs (a : ActionName) : Type 0 where
  pub operands : Operands
  pub stack : Stack
  pub delta : ℤ
  pub known : delta_of a operands.values operands.name_is_empty ≡ some delta
  pub differs : net operands stack a ≡ delta → ⊥
