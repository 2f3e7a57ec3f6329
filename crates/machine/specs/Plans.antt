-- What an action takes, as the machine reads it: six plans for the fifteen shapes.
use Rattle.std.specs.Prelude.{List, [], ◌∷◌, ◌++◌, ℕ, replicate}
use Rattle.shapes.specs.declared.Shape.{Shape}
use Rattle.shapes.specs.declared.Shape.TheVariants as S
use Rattle.lexemes.specs.Operands.{Class, string, value, bool, u8, u16, identifier, pairs}

-- a function's parameters: names, or pairs of a register and a name behind a register count and nine flags
pub data Params : Type 0 where
  simple registers : Params

pub data Plan : Type 0 where
  plain : List Class → Plan
  listing : Class → Plan
  frame : Plan
  function : Params → Plan
  within trying : Plan

abbrev pub plan_of : Shape → Plan
plan_of S.Nothing = plain []
plan_of S.Values = listing value
plan_of S.Strings = listing string
plan_of S.StringString = plain (string ∷ string ∷ [])
plan_of S.BoolBoolU8 = plain (bool ∷ bool ∷ u8 ∷ [])
plan_of S.U16 = plain (u16 ∷ [])
plan_of S.BoolBoolMaybeU16 = frame
plan_of S.String = plain (string ∷ [])
plan_of S.Identifier = plain (identifier ∷ [])
plan_of S.U8 = plain (u8 ∷ [])
plan_of S.U16U8 = plain (u16 ∷ u8 ∷ [])
plan_of S.Function = function simple
plan_of S.Function2 = function registers
plan_of S.Block = within
plan_of S.Try = trying

-- what stands behind the count k
abbrev pub behind_count : Params → ℕ → List Class
behind_count simple k = replicate k string
behind_count registers k = u8 ∷ (replicate 9 bool ++ pairs k)
