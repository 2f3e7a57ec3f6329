-- A label is named where level and name are equal. Assumes nothing.
use mathlib.Core.Path.{◌≡◌, refl, ap, sym, ◌∙◌}
use mathlib.Core.Bool.{Bool, true, false, ◌&&◌}
use mathlib.Core.List.{List, [], ◌∷◌}
use Prim.Native.Nat.{ℕ}
use native.Mathlib.Omega.{arith}
use lib.Dec.{eqb}
use borrow.Author.Tests.{eqb-true, ne_eqb, eq-eqb}
use lib.ListN.{get_or}
use Rattle.tokens.specs.Tokens.{token_of, raw_text}
use Rattle.entries.specs.declared.Label.{Label}
use Rattle.entries.specs.Entries.{label_of}
use Rattle.lexemes.specs.Lexemes.{same_name}
use Rattle.label_names.specs.Names.{name_of, is_named}

both : (a b : Bool) → (a && b) ≡ true → (a ≡ true) × (b ≡ true)
both true b e = (refl, e)
both false b e = let z : ◌≡◌ {A = ℕ} 0 1 = cc in absurd (omega arith)

-- ---- names

name_equal : (x y : List ℕ) → same_name x y ≡ true → x ≡ y
name_equal [] [] e = refl
name_equal [] (b ∷ y) e = let z : ◌≡◌ {A = ℕ} 0 1 = cc in absurd (omega arith)
name_equal (a ∷ x) [] e = let z : ◌≡◌ {A = ℕ} 0 1 = cc in absurd (omega arith)
name_equal (a ∷ x) (b ∷ y) e =
    let h = both (eqb a b) (same_name x y) e in
    λ i. eqb-true a b h.0 i ∷ name_equal x y h.1 i

name_refl : (x : List ℕ) → same_name x x ≡ true
name_refl [] = refl
name_refl (a ∷ x) = simp (eq-eqb a a refl, name_refl x)

module _ (text s : List ℕ) where
  pub same-token : (w v : ℕ) → (label_of w).token ≡ (label_of v).token → name_of text s w ≡ name_of text s v
  same-token w v t = ap (λ (k : ℕ). raw_text text (token_of (get_or s k 0))) t

  -- ---- a label, a level and a name

  module _ (level : ℕ) (name : List ℕ) (v : ℕ) where
    pub not_named : {l : Label} → l ≡ label_of v → (level ≡ l.level → ⊥) → false ≡ is_named text s level name v
    not_named k d = simp (ne_eqb _ _ (λ e. d (e ∙ sym (ap (λ (q : Label). q.level) k))))

    pub named : level ≡ (label_of v).level → is_named text s level name v ≡ same_name name (name_of text s v)
    named e = simp (eq-eqb _ _ e)

    pub compared : {l : Label} → l ≡ label_of v → level ≡ l.level → {x : List ℕ} {r : Bool} → x ≡ name_of text s v → r ≡ same_name name x → r ≡ is_named text s level name v
    compared k e f g = g ∙ ap (same_name name) f ∙ sym (named (e ∙ ap (λ (q : Label). q.level) k))

    pub named_equal : is_named text s level name v ≡ true → (level ≡ (label_of v).level) × (name ≡ name_of text s v)
    named_equal e =
        let h = both (eqb level (label_of v).level) (same_name name (name_of text s v)) e in
        (eqb-true _ _ h.0, name_equal _ _ h.1)

    pub equal_named : level ≡ (label_of v).level → name ≡ name_of text s v → is_named text s level name v ≡ true
    equal_named e f = simp (eq-eqb _ _ e, f, name_refl)
