-- Escapes decoded byte by byte: whether a byte is protected by the backslash before it, and what each byte adds.
use Rattle.std.specs.Prelude.{Bool, true, false, cond, Option, None, Some, List, [], ◌∷◌, ℕ, eqb}
use Rattle.movies.specs.Strings.{meant}

abbrev pub protects_next : Bool → ℕ → Bool
protects_next true b = false
protects_next false b = eqb b 92

-- what a byte behind a backslash means, if it is one byte
abbrev pub told : ℕ → Option ℕ
told b =
    cond (eqb b 110) (Some 10)
    (cond (eqb b 114) (Some 13)
    (cond (eqb b 116) (Some 9)
    (cond (eqb b 92) (Some 92)
    (cond (eqb b 34) (Some 34)
    (cond (eqb b 39) (Some 39) None)))))

abbrev pub adds : Bool → ℕ → List ℕ
adds true b = meant b
adds false b = cond (eqb b 92) [] (b ∷ [])
