-- Escapes decoded byte by byte. Assumes nothing.
use mathlib.Core.Path.{◌≡◌, refl, sym, ap, subst, ◌∙◌}
use mathlib.Core.Bool.{Bool, true, false, cond, not, ◌&&◌, and_assoc}
use Rattle.std.specs.Prelude.{Option, None, Some}
use mathlib.Core.List.{List, [], ◌∷◌, ◌++◌, append-nil}
use Prim.Native.Nat.{ℕ, ◌+◌, ◌*◌, ◌≤◌, ◌<◌}
use native.Mathlib.Numerals.{add-one}
use native.Mathlib.Omega.{arith}
use lib.Dec.{eqb}
use lib.ListN.{length, drop, get_or, drop_of_length-le}
use lib.Seq.{drop-cons}
use Rattle.movies.specs.Strings.{meant, decoded, escaped}
use Rattle.action_records.specs.Fields.{STRING}
use Rattle.field_coding.specs.declared.Coder.{Coder}
use Rattle.field_coding.specs.Coding.{Puts, Codes, Spells, no_zero}
use Rattle.field_coding.specs.Escapes.{protects_next, told, adds}
use Rattle.field_coding.proofs.Putting.{nothing, tested, then}

no_zero_append : (u v : List ℕ) → (no_zero u && no_zero v) ≡ no_zero (u ++ v)
no_zero_append [] v = refl
no_zero_append (b ∷ u) v = and_assoc (not (eqb b 0)) (no_zero u) (no_zero v) ∙ ap (λ (t : Bool). not (eqb b 0) && t) (no_zero_append u v)

pub none : {c : Coder} → Spells [] c c
none = record { puts = nothing }

pub also : {u v : List ℕ} {c d r : Coder} → Spells u c d → Spells v d r → Spells (u ++ v) c r
also {u} {v} a b = record { puts = tested (no_zero_append u v) (then a.puts b.puts) }

pub spelt : {u v : List ℕ} {c r : Coder} → u ≡ v → Spells u c r → Spells v c r
spelt {c = c} {r} e a = subst (λ (w : List ℕ). Spells w c r) e a

-- ---- one byte

-- what is put of b behind a backslash, by what it means
abbrev meant_by : ℕ → Option ℕ → List ℕ
meant_by b None = 92 ∷ b ∷ []
meant_by b (Some m) = m ∷ []

meant-told : (b : ℕ) → meant b ≡ meant_by b (told b)
meant-told b = by (eqb b 110) (eqb b 114) (eqb b 116) (eqb b 92) (eqb b 34) (eqb b 39)
  where
    by : (n r t s q a : Bool)
        → cond n (10 ∷ []) (cond r (13 ∷ []) (cond t (9 ∷ []) (cond s (92 ∷ []) (cond q (34 ∷ []) (cond a (39 ∷ []) (92 ∷ b ∷ []))))))
        ≡ meant_by b (cond n (Some 10) (cond r (Some 13) (cond t (Some 9) (cond s (Some 92) (cond q (Some 34) (cond a (Some 39) None))))))
    by true r t s q a = refl
    by false true t s q a = refl
    by false false true s q a = refl
    by false false false true q a = refl
    by false false false false true a = refl
    by false false false false false true = refl
    by false false false false false false = refl

adds-few : (h : Bool) (b : ℕ) → length (adds h b) ≤ 2
adds-few true b = subst (λ (l : List ℕ). length l ≤ 2) (sym (meant-told b)) (by (told b))
  where
    by : (t : Option ℕ) → length (meant_by b t) ≤ 2
    by None = omega arith
    by (Some m) = omega arith
adds-few false b = by (eqb b 92)
  where
    by : (t : Bool) → length (cond t [] (b ∷ [])) ≤ 2
    by true = omega arith
    by false = omega arith

-- ---- byte after byte

-- the rest of a text, behind a backslash or not
abbrev pub rest : Bool → List ℕ → List ℕ
rest false w = decoded w
rest true w = escaped w

rest_cons : (h : Bool) (b : ℕ) (w : List ℕ) → adds h b ++ rest (protects_next h b) w ≡ rest h (b ∷ w)
rest_cons true b w = refl
rest_cons false b w = by (eqb b 92)
  where
    by : (t : Bool) → cond t [] (b ∷ []) ++ rest t w ≡ cond t (escaped w) (b ∷ decoded w)
    by true = refl
    by false = refl

-- i bytes of w are put, from c on
pub record Going (w : List ℕ) (c d : Coder) (h : Bool) (i : ℕ) : Type 0 where
  pub inside : i ≤ length w
  pub near : d.end ≤ c.end + 2 * i
  pub finish : (r : Coder) → Spells (rest h (drop i w)) d r → Spells (decoded w) c r

pub begin : {w : List ℕ} {c : Coder} → Going w c c false 0
begin = record { inside = omega arith; near = omega arith; finish = λ r s. s }

module _ {w : List ℕ} {c d : Coder} {h : Bool} {i : ℕ} (g : Going w c d h i) where
  pub turn : {e : Coder} {h' : Bool} → i < length w → Spells (adds h (get_or w i 0)) d e → h' ≡ protects_next h (get_or w i 0) → Going w c e h' (i + 1)
  turn {e} {h'} l s p =
      record {
        inside = omega arith;
        near = omega (arith, s.puts.end, adds-few h (get_or w i 0), g.near);
        finish = λ r q. g.finish r (spelt (ap (λ (k : Bool). adds h (get_or w i 0) ++ rest k (drop (i + 1) w)) p ∙ rest_cons h (get_or w i 0) (drop (i + 1) w) ∙ ap (rest h) (rw (add-one i, drop-cons w i 0))) (also s q));
      }

-- ---- a string's field

pub closed : {w : List ℕ} {c d r : Coder} → Spells w c d → Puts (0 ∷ []) true d r → Codes (STRING w ∷ []) c r
closed {w} {c} {d} {r} a b =
    record { puts = subst (λ (l : List ℕ). Puts l (no_zero w && true) c r) (sym (append-nil (w ++ 0 ∷ []))) (then a.puts b) }
