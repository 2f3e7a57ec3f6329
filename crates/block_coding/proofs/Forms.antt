-- The fields of an action with blocks, from those that are put. Assumes nothing.
use mathlib.Core.Path.{◌≡◌, refl, sym, ap, ◌∙◌}
use mathlib.Core.Bool.{Bool, true, false, cond}
use mathlib.Core.List.{List, [], ◌∷◌, ◌++◌, map}
use Prim.Native.Nat.{ℕ, ◌-◌, ◌/◌}
use native.Mathlib.Omega.{arith}
use lib.ListN.{length, drop, length-drop}
use lib.Seq.{drop-drop, get_or-drop}
use Rattle.shapes.specs.declared.Shape.TheVariants as S
use Rattle.lexemes.specs.Events.{Part, body, try, catch, finally}
use Rattle.movies.specs.Movie.{Value, ◌!◌, number_in, is_register}
use Rattle.action_records.specs.Fields.{Field, UI8, UI16, bits, size}
use Rattle.action_records.specs.Operands.{text, parameters, one, catch_target, ◌in-bits◌}
use Rattle.field_coding.specs.declared.Coder.{Coder}
use Rattle.field_coding.specs.Coding.{Puts, Codes}
use Rattle.field_coding.proofs.Putting.{also, coded}
use Rattle.list_coding.specs.Flags.{flag_fields}
use Rattle.block_coding.specs.Shapes.{plain_fields, before_parameters}

-- ---- what is 0 until all is laid out

module _ {c r : Coder} (a : Codes (UI16 0 ∷ []) c r) where
  pub no_size : (p : Part) → Codes (size p ∷ []) c r
  no_size p = record { puts = a.puts }

-- ---- functions

module _ (vs : List Value) (count : ℕ) (l : length vs ≡ count) where
  from : (n m : ℕ) → m ≡ count - n → m ≡ length (drop n vs)
  from n m e = omega (arith, e, l, length-drop n vs)

  pub function : (m : ℕ) → m ≡ count - 2 → text (vs ! 0) ∷ UI16 m ∷ (map text (drop 2 vs) ++ (size body ∷ [])) ≡ plain_fields S.Function vs
  function m e = ap (λ (n : ℕ). text (vs ! 0) ∷ UI16 n ∷ (map text (drop 2 vs) ++ (size body ∷ []))) (from 2 m e)

  pub before-parameters : (m r : ℕ) → m ≡ count - 12 → r ≡ number_in (vs ! 2) → text (vs ! 0) ∷ UI16 (m / 2) ∷ UI8 r ∷ flag_fields vs ≡ before_parameters vs
  before-parameters m r e f =
      ap (λ (n : ℕ). text (vs ! 0) ∷ UI16 (n / 2) ∷ UI8 r ∷ flag_fields vs) (from 12 m e)
      ∙ ap (λ (n : ℕ). text (vs ! 0) ∷ UI16 (length (drop 12 vs) / 2) ∷ UI8 n ∷ flag_fields vs) f

pub function_2 : (vs : List Value) → before_parameters vs ++ (parameters (drop 12 vs) ++ (size body ∷ [])) ≡ plain_fields S.Function2 vs
function_2 vs =
    ap (λ (ps : List Value). text (vs ! 0) ∷ UI16 (length ps / 2) ∷ UI8 (number_in (vs ! 2)) ∷ (flag_fields vs ++ (parameters ps ++ (size body ∷ [])))) (sym (drop-drop 10 2 vs))
    ∙ simp get_or-drop

-- ---- Try

abbrev try_fields : Bool → Field → List Field
try_fields b f =
    bits (0 in-bits 5 ∷ one b in-bits 1 ∷ 0 in-bits 1 ∷ 0 in-bits 1 ∷ []) ∷ size try ∷ size catch ∷ size finally ∷ f ∷ []

target : (vs : List Value) → try_fields (is_register (vs ! 0)) (catch_target (vs ! 0)) ≡ plain_fields S.Try vs
target [] = refl
target (v ∷ vs) = refl

flagged : (b : Bool) {c d : Coder} → Puts (cond b 4 0 ∷ []) true c d → Codes (bits (0 in-bits 5 ∷ one b in-bits 1 ∷ 0 in-bits 1 ∷ 0 in-bits 1 ∷ []) ∷ []) c d
flagged true a = record { puts = a }
flagged false a = record { puts = a }

module _ (vs : List Value) where
  told : (b : Bool) → is_register (vs ! 0) ≡ b → try_fields b (cond b (UI8 (number_in (vs ! 0))) (text (vs ! 0))) ≡ plain_fields S.Try vs
  told b h = ap (λ (t : Bool). try_fields t (cond t (UI8 (number_in (vs ! 0))) (text (vs ! 0)))) (sym h) ∙ target vs

  module _ {c d g r : Coder} where
    pub register_caught : is_register (vs ! 0) ≡ true → Puts (4 ∷ []) true c d → Codes (size try ∷ size catch ∷ size finally ∷ []) d g
        → Codes (UI8 (number_in (vs ! 0)) ∷ []) g r → Codes (plain_fields S.Try vs) c r
    register_caught h a s b = coded (told true h) (also (flagged true a) (also s b))

    pub name_caught : is_register (vs ! 0) ≡ false → Puts (0 ∷ []) true c d → Codes (size try ∷ size catch ∷ size finally ∷ []) d g
        → Codes (text (vs ! 0) ∷ []) g r → Codes (plain_fields S.Try vs) c r
    name_caught h a s b = coded (told false h) (also (flagged false a) (also s b))
