-- The words of `wanted` beside the grammar's classes: what its theorems say of them.
use Rattle.std.specs.Prelude.{List, [], ◌∷◌, ℕ, ◌+◌}
use Rattle.lexemes.specs.Operands.{Class, string, value, bool, only_true, only_false, u8, u16, identifier, target, count}
use Rattle.shapes.specs.declared.Shape.{Shape}
use Rattle.shapes.specs.declared.Shape.TheVariants as S
use Rattle.wanted.specs.declared.Wanted.{Wanted}
use Rattle.wanted.specs.declared.Wanted.TheVariants as W

-- that an operand of the class is called so
pub data Names : Wanted → Class → Type 0 where
  a_string : Names W.String string
  a_parameter : Names W.Parameter string
  a_value : Names W.Value value
  a_bool : Names W.Bool bool
  a_true : Names W.Bool only_true
  a_false : Names W.Bool only_false
  a_flag : Names W.Flag bool
  a_u8 : Names W.U8 u8
  a_register : Names W.Register u8
  a_u16 : Names W.U16 u16
  a_count : {k : ℕ} → Names W.Count (count k)
  a_label : Names W.Label identifier
  a_target : Names W.Target target

-- what an operand of the class says of those to come
abbrev pub said : Class → ℕ
said string = 0
said value = 0
said bool = 0
said only_true = 1
said only_false = 0
said u8 = 0
said u16 = 0
said identifier = 0
said target = 0
said (count k) = k

-- a function's count is its second operand, a GotoFrame2's first bool its first
abbrev pub given_by : List Class → ℕ
given_by [] = 0
given_by (c ∷ []) = said c
given_by (c ∷ d ∷ cs) = said c + said d

-- the shapes whose operands are as many as the classes say; the others may have more, or a Try one that is not there
abbrev pub Fixed : Shape → Type 0
Fixed S.Nothing = Unit {0}
Fixed S.Values = ⊥
Fixed S.Strings = ⊥
Fixed S.StringString = Unit {0}
Fixed S.BoolBoolU8 = Unit {0}
Fixed S.U16 = Unit {0}
Fixed S.BoolBoolMaybeU16 = Unit {0}
Fixed S.String = Unit {0}
Fixed S.Identifier = Unit {0}
Fixed S.U8 = Unit {0}
Fixed S.U16U8 = Unit {0}
Fixed S.Function = Unit {0}
Fixed S.Function2 = Unit {0}
Fixed S.Block = Unit {0}
Fixed S.Try = ⊥
