-- Flags of operands in bits.
use Rattle.std.specs.Prelude.{◌≡◌, ◌&&◌, List, [], ◌∷◌, ℕ, ◌+◌, ◌*◌, ltb}
use Rattle.movies.specs.Movie.{Value, ◌!◌, number_in}
use Rattle.action_records.specs.Fields.{Field, bits}
use Rattle.action_records.specs.Operands.{flag, ◌in-bits◌}
use Rattle.list_coding.specs.declared.Flags.{Flags}

-- four flags as a number, and whether each is 0 or 1
pub record Flagged (vs : List Value) (k : ℕ) (r : Flags) : Type 0 where
  pub value : r.value ≡ ((number_in (vs ! k) * 2 + number_in (vs ! (k + 1))) * 2 + number_in (vs ! (k + 2))) * 2 + number_in (vs ! (k + 3))
  pub holds : r.holds ≡ (ltb (number_in (vs ! k)) 2 && (ltb (number_in (vs ! (k + 1))) 2 && (ltb (number_in (vs ! (k + 2))) 2 && ltb (number_in (vs ! (k + 3))) 2)))

-- DefineFunction2's nine flags, with seven reserved bits before the last
abbrev pub flag_fields : List Value → List Field
flag_fields vs =
    bits (flag (vs ! 3) ∷ flag (vs ! 4) ∷ flag (vs ! 5) ∷ flag (vs ! 6) ∷ flag (vs ! 7) ∷ flag (vs ! 8) ∷ flag (vs ! 9) ∷ flag (vs ! 10) ∷ [])
    ∷ bits (0 in-bits 7 ∷ flag (vs ! 11) ∷ [])
    ∷ []

-- GotoFrame2's SceneBias flag and Play flag
abbrev pub frame_bits : ℕ → ℕ → Field
frame_bits bias play = bits (0 in-bits 6 ∷ bias in-bits 1 ∷ play in-bits 1 ∷ [])
