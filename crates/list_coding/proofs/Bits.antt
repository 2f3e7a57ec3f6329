-- Bit fields as a number, and when it is a byte. Assumes nothing.
use mathlib.Core.Path.{◌≡◌, ap, subst, ◌∙◌}
use mathlib.Core.Bool.{Bool, true, ◌&&◌, and-true, and_assoc}
use mathlib.Core.List.{List, [], ◌∷◌}
use Prim.Native.Nat.{ℕ, ◌+◌, ◌*◌, ◌^◌}
use native.Mathlib.Omega.{arith}
use lib.Dec.{ltb}
use Rattle.movies.specs.Movie.{Value, ◌!◌, number_in}
use Rattle.action_records.specs.Fields.{UB, bits, packed, all}
use Rattle.action_records.specs.Operands.{flag, ◌in-bits◌}
use Rattle.field_coding.specs.declared.Coder.{Coder}
use Rattle.field_coding.specs.Coding.{Puts, Codes}
use Rattle.field_coding.proofs.Putting.{also}
use Rattle.list_coding.specs.declared.Flags.{Flags}
use Rattle.list_coding.specs.Flags.{Flagged, flag_fields}

abbrev fit : List UB → Bool
fit bs = all (λ (b : UB). ltb b.value (2 ^ b.width)) bs

bit_fields : (bs : List UB) {n : ℕ} {ok : Bool} {c r : Coder} → n ≡ packed 0 bs → ok ≡ (fit bs && true) → Puts (n ∷ []) ok c r
    → Codes (bits bs ∷ []) c r
bit_fields bs {n} {ok} {c} {r} e f a =
    record { puts = subst (λ (m : ℕ). Puts (m ∷ []) (fit bs && true) c r) e (subst (λ (t : Bool). Puts (n ∷ []) t c r) f a) }

-- ---- DefineFunction2

module _ (vs : List Value) (a b : Flags) (f : Flagged vs 3 a) (g : Flagged vs 7 b) {ok : Bool} (e : ok ≡ (a.holds && b.holds)) where
  eight_fit : ok ≡ (fit (flag (vs ! 3) ∷ flag (vs ! 4) ∷ flag (vs ! 5) ∷ flag (vs ! 6) ∷ flag (vs ! 7) ∷ flag (vs ! 8) ∷ flag (vs ! 9) ∷ flag (vs ! 10) ∷ []) && true)
  eight_fit = e ∙ ap (λ (p : Bool). p && b.holds) f.holds ∙ ap (λ (p : Bool). (ltb (number_in (vs ! 3)) 2 && (ltb (number_in (vs ! 4)) 2 && (ltb (number_in (vs ! 5)) 2 && ltb (number_in (vs ! 6)) 2))) && p) g.holds ∙ simp (and-true, and_assoc)

  module _ {n : ℕ} (l : n ≡ number_in (vs ! 11)) where
    pub nine : {c d r : Coder} → Puts ((a.value * 16 + b.value) ∷ []) ok c d → Puts (n ∷ []) (ltb n 2) d r → Codes (flag_fields vs) c r
    nine p q =
        also
        (bit_fields (flag (vs ! 3) ∷ flag (vs ! 4) ∷ flag (vs ! 5) ∷ flag (vs ! 6) ∷ flag (vs ! 7) ∷ flag (vs ! 8) ∷ flag (vs ! 9) ∷ flag (vs ! 10) ∷ []) (omega (arith, f.value, g.value)) eight_fit p)
        (bit_fields (0 in-bits 7 ∷ flag (vs ! 11) ∷ []) (omega (arith, l)) (ap (λ (m : ℕ). ltb m 2) l ∙ simp and-true) q)
