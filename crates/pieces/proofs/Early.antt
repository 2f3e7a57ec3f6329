-- The first pass of faults, told by where an action jumps to and by its record alone. Assumes nothing.
use mathlib.Core.Path.{◌≡◌, refl, ap, sym, ◌∙◌}
use mathlib.Core.Bool.{Bool, true, false, cond, ◌&&◌, ◌||◌}
use mathlib.Core.List.{List, [], ◌∷◌, map}
use mathlib.Core.Option.{Option, none, some}
use Prim.Native.Nat.{ℕ, zero, suc}
use native.Mathlib.Omega.{arith}
use lib.Dec.{eqb}
use borrow.Author.Tests.{ne_eqb}
use lib.ListN.{length, drop}
use Rattle.names.specs.declared.ActionName.{ActionName}
use Rattle.shapes.specs.declared.Shape.{Shape}
use Rattle.shapes.specs.declared.Shape.TheVariants as S
use Rattle.shapes.specs.Shapes.{shape_of}
use Rattle.values.specs.declared.PushValue.{PushValue}
use Rattle.values.specs.declared.PushValue.TheVariants as P
use Rattle.lexemes.specs.Lexemes.{Lexeme, raw}
use Rattle.lexemes.specs.Operands.{value_of}
use Rattle.lexemes.specs.Events.{Part, catch, finally}
use Rattle.grammar.specs.Grammar as G
use Rattle.grammar.specs.Reading.{Label}
use Rattle.movies.specs.Movie.{Value, bool, ◌!◌, number_in, is_register, has}
use Rattle.movies.specs.Meaning.{meant, meaning, target_or, normal, has_catch, is_jump, operands_of, blocks_in}
use Rattle.action_records.specs.declared.Style.{Style}
use Rattle.action_records.specs.Fields.{bits, all_bytes, all, is16, holds}
use Rattle.action_records.specs.Operands.{one, catch_target, ◌in-bits◌, fields}
use Rattle.action_records.specs.Bytes.{blank}
use Rattle.action_records.specs.Export.{is_missing, lacks_label, fields_at, is_codable, fault_at}
use Rattle.coding.specs.Heads.{head_fields, head_holds}
use Rattle.pieces.proofs.Forms.{nothing, values, strings, string_string, bool_bool_u8, u16, bool_bool_maybe_u16, string as ofString, u8, u16_u8, function, function2, with_block_lem, Form, steady, jump, bodied, try-only, try-finally, try-catch, try-all}
use Rattle.pieces.proofs.Trees.{aim_at, aim_of, len_fields}
use Rattle.pieces.proofs.Records.{Aims, found, lost, aims}
use Rattle.pieces.proofs.Bytes.{site_at}

-- ---- 10: only a jump can lack its label

meant-there : (v : Option PushValue) (w : List ℕ) → is_missing (meant v w) ≡ false
meant-there none w = refl
meant-there (some (P.String s)) w = refl
meant-there (some P.True) w = refl
meant-there (some P.False) w = refl
meant-there (some P.Null) w = refl
meant-there (some P.Undefined) w = refl
meant-there (some (P.Register n)) w = refl
meant-there (some (P.Constant n)) w = refl
meant-there (some (P.Integer z)) w = refl
meant-there (some (P.Float x)) w = refl
meant-there (some (P.Long s)) w = refl

either : (a b : Bool) → a ≡ false → b ≡ false → (a || b) ≡ false
either false b e f = f
either true b e f = e

-- no value of a list is missing
abbrev There : List Value → Type 0
There [] = Unit {0}
There (v ∷ vs) = (is_missing v ≡ false) × There vs

there : (os : List Lexeme) → There (map meaning os)
there [] = tt
there (t ∷ os) = (meant-there (value_of t) (raw t), there os)

lacks_none : (vs : List Value) → There vs → lacks_label vs ≡ false
lacks_none [] h = refl
lacks_none (v ∷ vs) (h, r) = either (is_missing v) (lacks_label vs) h (lacks_none vs r)

at : (k : ℕ) (vs : List Value) → There vs → is_missing (vs ! k) ≡ false
at k [] h = refl
at zero (v ∷ vs) (h, r) = h
at (suc k) (v ∷ vs) (h, r) = at k vs r

dropped : (k : ℕ) (vs : List Value) → There vs → There (drop k vs)
dropped zero vs h = h
dropped (suc k) [] h = tt
dropped (suc k) (v ∷ vs) (h, r) = dropped k vs r

normal-there : (s : Shape) (c : Bool) (vs : List Value) → There vs → There (normal s c vs)
normal-there S.Nothing c vs h = h
normal-there S.Values c vs h = h
normal-there S.Strings c vs h = h
normal-there S.StringString c vs h = h
normal-there S.BoolBoolU8 c vs h = h
normal-there S.U16 c vs h = h
normal-there S.BoolBoolMaybeU16 c vs h = by (eqb (number_in (vs ! 2)) 0)
  where
    by : (b : Bool) → There (cond b (bool false ∷ (vs ! 1) ∷ []) vs)
    by true = (refl, (at 1 vs h, tt))
    by false = h
normal-there S.String c vs h = h
normal-there S.Identifier c vs h = h
normal-there S.U8 c vs h = h
normal-there S.U16U8 c vs h = h
normal-there S.Function c vs h = (at 0 vs h, (refl, dropped 2 vs h))
normal-there S.Function2 c vs h = (at 0 vs h, (refl, dropped 2 vs h))
normal-there S.Block c vs h = h
normal-there S.Try true [] h = (refl, tt)
normal-there S.Try false [] h = tt
normal-there S.Try c (v ∷ vs) h = h

-- ---- 11: a record's fields hold as much as its head's

flags : (r f k rest : Bool) → (holds (bits (0 in-bits 5 ∷ one r in-bits 1 ∷ one f in-bits 1 ∷ one k in-bits 1 ∷ [])) && rest) ≡ rest
flags true true true rest = refl
flags true true false rest = refl
flags true false true rest = refl
flags true false false rest = refl
flags false true true rest = refl
flags false true false rest = refl
flags false false true rest = refl
flags false false false rest = refl

module _ (y : Style) where
  holds_target : (c : Bool) (vs : List Value) (h : Part → Bool)
      → all holds (fields y S.Try (target_or c vs) h) ≡ all holds (fields y S.Try vs (λ (p : Part). false))
  holds_target true [] h = flags false (h finally) (h catch) true
  holds_target false [] h = flags false (h finally) (h catch) true
  holds_target c (v ∷ vs) h =
      flags (is_register v) (h finally) (h catch) (holds (catch_target v) && true) ∙ sym (flags (is_register v) false false (holds (catch_target v) && true))

  holds-fields : (s : Shape) (l : List Label) (bs : G.Blocks) (os : List Lexeme)
      → all holds (fields y s (operands_of s l bs os) (has (blocks_in bs))) ≡ all holds (fields y s (normal s false (map meaning os)) (λ (p : Part). false))
  holds-fields S.Nothing l bs os = refl
  holds-fields S.Values l bs os = refl
  holds-fields S.Strings l bs os = refl
  holds-fields S.StringString l bs os = refl
  holds-fields S.BoolBoolU8 l bs os = refl
  holds-fields S.U16 l bs os = refl
  holds-fields S.BoolBoolMaybeU16 l bs os = refl
  holds-fields S.String l bs os = refl
  holds-fields S.Identifier l bs os = refl
  holds-fields S.U8 l bs os = refl
  holds-fields S.U16U8 l bs os = refl
  holds-fields S.Function l bs os = refl
  holds-fields S.Function2 l bs os = refl
  holds-fields S.Block l bs os = refl
  holds-fields S.Try l bs os =
      holds_target (has_catch bs) (map meaning os) (has (blocks_in bs)) ∙ sym (holds_target false (map meaning os) (λ (p : Part). false))

  pub codable-is : (l : List Label) (L : G.Items) (k : ℕ) (n : ActionName) (os : List Lexeme) (bs : G.Blocks) → is_codable y (site_at y l L k n os bs) ≡ head_holds y n os
  unfolding head_holds
  codable-is l L k n os bs =
      ap (λ (b : Bool). b && is16 (length (all_bytes blank (fields_at y (site_at y l L k n os bs))))) (holds-fields (shape_of n) l bs os)
      ∙ ap (λ (i : ℕ). all holds (head_fields y n os) && is16 i) (len_fields y (shape_of n) l bs os)

  -- ---- both

  -- a jump that leads nowhere lacks its label
  lacks_aim : {v : Value} → Aims v → (is_missing v || false) ≡ eqb (aim_at v) 0
  lacks_aim (found p) = sym (ne_eqb (suc p) 0 (λ e. omega (arith, e)))
  lacks_aim lost = refl

  lacks_is : (l : List Label) {s : Shape} {os : List Lexeme} {bs : G.Blocks} → Form s os bs → lacks_label (operands_of s l bs os) ≡ (is_jump s && eqb (aim_of s l os) 0)
  lacks_is l (jump t) = lacks_aim (aims (raw t) l)
  lacks_is l (steady os nothing) = lacks_none (normal S.Nothing false (map meaning os)) (normal-there S.Nothing false (map meaning os) (there os))
  lacks_is l (steady os values) = lacks_none (normal S.Values false (map meaning os)) (normal-there S.Values false (map meaning os) (there os))
  lacks_is l (steady os strings) = lacks_none (normal S.Strings false (map meaning os)) (normal-there S.Strings false (map meaning os) (there os))
  lacks_is l (steady os string_string) = lacks_none (normal S.StringString false (map meaning os)) (normal-there S.StringString false (map meaning os) (there os))
  lacks_is l (steady os bool_bool_u8) = lacks_none (normal S.BoolBoolU8 false (map meaning os)) (normal-there S.BoolBoolU8 false (map meaning os) (there os))
  lacks_is l (steady os u16) = lacks_none (normal S.U16 false (map meaning os)) (normal-there S.U16 false (map meaning os) (there os))
  lacks_is l (steady os bool_bool_maybe_u16) = lacks_none (normal S.BoolBoolMaybeU16 false (map meaning os)) (normal-there S.BoolBoolMaybeU16 false (map meaning os) (there os))
  lacks_is l (steady os ofString) = lacks_none (normal S.String false (map meaning os)) (normal-there S.String false (map meaning os) (there os))
  lacks_is l (steady os u8) = lacks_none (normal S.U8 false (map meaning os)) (normal-there S.U8 false (map meaning os) (there os))
  lacks_is l (steady os u16_u8) = lacks_none (normal S.U16U8 false (map meaning os)) (normal-there S.U16U8 false (map meaning os) (there os))
  lacks_is l (bodied os x function) = lacks_none (normal S.Function false (map meaning os)) (normal-there S.Function false (map meaning os) (there os))
  lacks_is l (bodied os x function2) = lacks_none (normal S.Function2 false (map meaning os)) (normal-there S.Function2 false (map meaning os) (there os))
  lacks_is l (bodied os x with_block_lem) = lacks_none (normal S.Block false (map meaning os)) (normal-there S.Block false (map meaning os) (there os))
  lacks_is l (try-only x) = refl
  lacks_is l (try-finally x z) = refl
  lacks_is l (try-catch os x u) = lacks_none (target_or true (map meaning os)) (normal-there S.Try true (map meaning os) (there os))
  lacks_is l (try-all os x u z) = lacks_none (target_or true (map meaning os)) (normal-there S.Try true (map meaning os) (there os))

  -- the fault of an action with that name and those operands, which jumps to `aim`
  abbrev pub early : ActionName → List Lexeme → ℕ → Option ℕ
  early n os aim = cond (is_jump (shape_of n) && eqb aim 0) (some 10) (cond (head_holds y n os) none (some 11))

  pub early_is : (l : List Label) (L : G.Items) (k : ℕ) (n : ActionName) (os : List Lexeme) (bs : G.Blocks) → Form (shape_of n) os bs
      → fault_at y (site_at y l L k n os bs) ≡ early n os (aim_of (shape_of n) l os)
  unfolding fault_at
  early_is l L k n os bs form =
      ap (λ (b : Bool). cond b (some 10) (cond (is_codable y (site_at y l L k n os bs)) none (some 11))) (lacks_is l form)
      ∙ ap (λ (b : Bool). cond (is_jump (shape_of n) && eqb (aim_of (shape_of n) l os) 0) (some 10) (cond b none (some 11))) (codable-is l L k n os bs)
