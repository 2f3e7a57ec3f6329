-- What is put in one go after another is put together. Assumes nothing.
use mathlib.Core.Path.{◌≡◌, refl, sym, ap, subst, ◌∙◌}
use mathlib.Core.Bool.{Bool, true, false, ◌&&◌, and-true, and_assoc}
use mathlib.Core.List.{List, [], ◌∷◌, ◌++◌, append_assoc}
use Prim.Native.Nat.{ℕ, suc, ◌+◌}
use native.Mathlib.Omega.{arith}
use lib.ListN.{length, set, length-append}
use lib.Seq.{sets}
use Rattle.action_records.specs.Fields.{Field, bytes_of, all_bytes, all, holds}
use Rattle.action_records.specs.Bytes.{blank}
use Rattle.field_coding.specs.declared.Coder.{Coder}
use Rattle.field_coding.specs.Coding.{Puts, Codes}

pub joined : (u l v : List ℕ) (i j : ℕ) → j ≡ i + length u → sets (sets l i u) j v ≡ sets l i (u ++ v)
joined [] l v i j e = let z : j ≡ i = omega arith in ap (λ k. sets l k v) z
joined (x ∷ u) l v i j e = joined u (set l i x) v (suc i) j (omega arith)

pub first_true : (a b : Bool) → (a && b) ≡ true → a ≡ true
first_true true b e = refl
first_true false b e = e

pub nothing : {c : Coder} → Puts [] true c c
nothing {c} = record { end = omega arith; holds = sym (and-true c.holds); bytes = λ _. refl; long = refl; same = refl }

-- a test told in another way
pub tested : {bs : List ℕ} {p q : Bool} {c r : Coder} → p ≡ q → Puts bs p c r → Puts bs q c r
tested {bs} {p} {q} {c} {r} e a = subst (λ (t : Bool). Puts bs t c r) e a

pub then : {bs cs : List ℕ} {p q : Bool} {c d r : Coder} → Puts bs p c d → Puts cs q d r → Puts (bs ++ cs) (p && q) c r
then {bs} {cs} {p} {q} {c} {d} {r} a b =
    record {
      end = omega (arith, a.end, b.end, length-append bs cs);
      holds = b.holds ∙ ap (λ (t : Bool). t && q) a.holds ∙ and_assoc c.holds p q;
      bytes = λ h.
          b.bytes h
          ∙ ap (λ (l : List ℕ). sets l d.end cs) (a.bytes (first_true d.holds q (sym b.holds ∙ h)))
          ∙ joined bs c.out.now cs c.end d.end a.end;
      long = b.long ∙ a.long;
      same = b.same ∙ a.same;
    }

-- ---- fields

bytes-append : (fs gs : List Field) → all_bytes blank fs ++ all_bytes blank gs ≡ all_bytes blank (fs ++ gs)
bytes-append [] gs = refl
bytes-append (f ∷ fs) gs = append_assoc (bytes_of blank f) (all_bytes blank fs) (all_bytes blank gs) ∙ ap (λ (l : List ℕ). bytes_of blank f ++ l) (bytes-append fs gs)

holds-append : (fs gs : List Field) → (all holds fs && all holds gs) ≡ all holds (fs ++ gs)
holds-append [] gs = refl
holds-append (f ∷ fs) gs = and_assoc (holds f) (all holds fs) (all holds gs) ∙ ap (λ (t : Bool). holds f && t) (holds-append fs gs)

pub also : {fs gs : List Field} {c d r : Coder} → Codes fs c d → Codes gs d r → Codes (fs ++ gs) c r
also {fs} {gs} {c} {d} {r} a b =
    record { puts = subst (λ (l : List ℕ). Puts l (all holds (fs ++ gs)) c r) (bytes-append fs gs) (tested (holds-append fs gs) (then a.puts b.puts)) }

-- no field
pub none : {c : Coder} → Codes [] c c
none = record { puts = nothing }

pub coded : {fs gs : List Field} {c r : Coder} → fs ≡ gs → Codes fs c r → Codes gs c r
coded {c = c} {r} e a = subst (λ (l : List Field). Codes l c r) e a
