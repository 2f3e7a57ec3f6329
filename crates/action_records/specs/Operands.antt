-- The fields of each action's record: SWF19's tables (docs/swf19-actions.md, column fields and E1 to E7), of the operands of a movie.
use Rattle.std.specs.Prelude.{Bool, true, false, cond, List, [], ◌∷◌, ◌++◌, map, ℕ, ◌/◌, ◌%◌, leb, length, drop}
use Rattle.std.specs.Float.{binary64}
use Rattle.std.specs.Float.Ieee.{to_bits}
use Rattle.shapes.specs.declared.Shape.{Shape}
use Rattle.shapes.specs.declared.Shape.TheVariants as S
use Rattle.lexemes.specs.Events.{Part, body, try, catch, finally}
use Rattle.movies.specs.Movie.{Value, string, number, integer, bool, register, constant, null, undefined, position, long, missing, ◌!◌, number_in, text_in, is_register}
use Rattle.action_records.specs.declared.Style.{Style}
use Rattle.action_records.specs.declared.Style.TheVariants as Y
use Rattle.action_records.specs.Fields.{UB, Field, UI8, UI16, UI32, STRING, bits, size, branch, uncodable, two's_complement}

infix 70 ◌in-bits◌
abbrev pub ◌in-bits◌ : ℕ → ℕ → UB
v in-bits n = record { width = n; value = v }

-- GetURL2's LoadVariables, LoadTarget and method: as players have them, or as SWF19 prints them (docs/DIFFERENCES.md)
abbrev pub url_bits : Style → ℕ → ℕ → ℕ → List UB
url_bits Y.AsPlayed v t m = v in-bits 1 ∷ t in-bits 1 ∷ 0 in-bits 4 ∷ m in-bits 2 ∷ []
url_bits Y.AsPrinted v t m = m in-bits 2 ∷ 0 in-bits 4 ∷ t in-bits 1 ∷ v in-bits 1 ∷ []

-- ---- Push: a type, then the value

-- a double's four high-order bytes come first
abbrev pub pushed_as : Value → List Field
pushed_as (string w) = UI8 0 ∷ STRING w ∷ []
pushed_as null = UI8 2 ∷ []
pushed_as undefined = UI8 3 ∷ []
pushed_as (register n) = UI8 4 ∷ UI8 n ∷ []
pushed_as (bool true) = UI8 5 ∷ UI8 1 ∷ []
pushed_as (bool false) = UI8 5 ∷ UI8 0 ∷ []
pushed_as (number x) = UI8 6 ∷ UI32 (to_bits binary64 x / 4294967296) ∷ UI32 (to_bits binary64 x % 4294967296) ∷ []
pushed_as (integer z) = UI8 7 ∷ UI32 (two's_complement 32 z) ∷ []
pushed_as (constant n) = cond (leb n 255) (UI8 8 ∷ UI8 n ∷ []) (UI8 9 ∷ UI16 n ∷ [])
pushed_as (position p) = uncodable ∷ []
pushed_as long = uncodable ∷ []
pushed_as missing = uncodable ∷ []

abbrev pub pushed : List Value → List Field
pushed [] = []
pushed (v ∷ vs) = pushed_as v ++ pushed vs

-- ---- functions, jumps and Try

abbrev pub text : Value → Field
text v = STRING (text_in v)

-- register and name of each parameter
abbrev pub parameters : List Value → List Field
parameters [] = []
parameters (r ∷ []) = []
parameters (r ∷ p ∷ vs) = UI8 (number_in r) ∷ text p ∷ parameters vs

abbrev pub flag : Value → UB
flag v = number_in v in-bits 1

-- DefineFunction up to its code size
abbrev pub before_size : List Value → List Field
before_size vs = text (vs ! 0) ∷ UI16 (length (drop 2 vs)) ∷ map text (drop 2 vs)

-- DefineFunction2 up to its code size: the nine flags, with seven reserved bits before the last
abbrev pub before_size2 : List Value → List Field
before_size2 vs =
    text (vs ! 0) ∷ UI16 (length (drop 12 vs) / 2) ∷ UI8 (number_in (vs ! 2))
    ∷ bits (flag (vs ! 3) ∷ flag (vs ! 4) ∷ flag (vs ! 5) ∷ flag (vs ! 6) ∷ flag (vs ! 7) ∷ flag (vs ! 8) ∷ flag (vs ! 9) ∷ flag (vs ! 10) ∷ [])
    ∷ bits (0 in-bits 7 ∷ flag (vs ! 11) ∷ [])
    ∷ parameters (drop 12 vs)

abbrev pub one : Bool → ℕ
one true = 1
one false = 0

-- the register or the name; without a target the empty name
abbrev pub catch_target : Value → Field
catch_target v = cond (is_register v) (UI8 (number_in v)) (text v)

-- ---- by shape; `has p` tells whether the action has that block

abbrev pub fields : Style → Shape → List Value → (Part → Bool) → List Field
fields y S.Nothing vs has = []
fields y S.Values vs has = pushed vs
fields y S.Strings vs has = UI16 (length vs) ∷ map text vs
fields y S.StringString vs has = text (vs ! 0) ∷ text (vs ! 1) ∷ []
fields y S.BoolBoolU8 vs has = bits (url_bits y (number_in (vs ! 0)) (number_in (vs ! 1)) (number_in (vs ! 2))) ∷ []
fields y S.U16 vs has = UI16 (number_in (vs ! 0)) ∷ []
fields y S.BoolBoolMaybeU16 vs has =
    cond (leb 1 (number_in (vs ! 0)))
    (bits (0 in-bits 6 ∷ 1 in-bits 1 ∷ flag (vs ! 1) ∷ []) ∷ UI16 (number_in (vs ! 2)) ∷ [])
    (bits (0 in-bits 6 ∷ 0 in-bits 1 ∷ flag (vs ! 1) ∷ []) ∷ [])
fields y S.String vs has = text (vs ! 0) ∷ []
fields y S.Identifier vs has = branch (number_in (vs ! 0)) ∷ []
fields y S.U8 vs has = UI8 (number_in (vs ! 0)) ∷ []
fields y S.U16U8 vs has = UI16 (number_in (vs ! 0)) ∷ UI8 (number_in (vs ! 1)) ∷ []
fields y S.Function vs has = before_size vs ++ (size body ∷ [])
fields y S.Function2 vs has = before_size2 vs ++ (size body ∷ [])
fields y S.Block vs has = size body ∷ []
fields y S.Try vs has =
    bits (0 in-bits 5 ∷ one (is_register (vs ! 0)) in-bits 1 ∷ one (has finally) in-bits 1 ∷ one (has catch) in-bits 1 ∷ [])
    ∷ size try ∷ size catch ∷ size finally ∷ catch_target (vs ! 0) ∷ []
