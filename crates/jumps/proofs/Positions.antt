-- The names and positions of a level's labels do not hang on the level's number. Assumes nothing.
use mathlib.Core.Path.{◌≡◌, refl, sym, ap, ◌∙◌}
use mathlib.Core.Bool.{Bool, true, false, cond}
use mathlib.Core.List.{List, [], ◌∷◌, map}
use Prim.Native.Nat.{ℕ, suc}
use Rattle.lexemes.specs.Lexemes.{raw, same_name}
use Rattle.grammar.specs.Grammar.{Items, done, label, action}
use Rattle.grammar.specs.Reading.{Label, place, own_labels}
use Rattle.movies.specs.Movie.{Value, position}
use Rattle.movies.specs.Meaning.{position_of}

module _ (ℓ : ℕ) where
  abbrev in_level : Label → Label
  in_level l = record { level = ℓ; name = l.name; position = l.position }

  place_in_lem : (l : Label) (ks : List Label) → map in_level (place l ks) ≡ place (in_level l) (map in_level ks)
  place_in_lem l [] = refl
  place_in_lem l (k ∷ ks) = by (same_name (raw l.name) (raw k.name)) (place_in_lem l ks)
    where
      again : Label
      again = record { level = k.level; name = k.name; position = l.position }

      by : (b : Bool) → map in_level (place l ks) ≡ place (in_level l) (map in_level ks)
          → map in_level (cond b (again ∷ ks) (k ∷ place l ks)) ≡ cond b (in_level again ∷ map in_level ks) (in_level k ∷ place (in_level l) (map in_level ks))
      by true e = refl
      by false e = ap (λ (q : List Label). in_level k ∷ q) e

  own_in : (m p : ℕ) (ks : List Label) (x : Items) → map in_level (own_labels m p ks x) ≡ own_labels ℓ p (map in_level ks) x
  own_in m p ks done = refl
  own_in m p ks (label t x) =
      let l : Label = record { level = m; name = t; position = p } in
      own_in m p (place l ks) x ∙ ap (λ (q : List Label). own_labels ℓ p q x) (place_in_lem l ks)
  own_in m p ks (action n os bs x) = own_in m (suc p) ks x

  position_in : (w : List ℕ) (ks : List Label) → position_of w (map in_level ks) ≡ position_of w ks
  position_in w [] = refl
  position_in w (k ∷ ks) = ap (λ (v : Value). cond (same_name w (raw k.name)) (position k.position) v) (position_in w ks)

  pub same_positions : (m : ℕ) (w : List ℕ) (x : Items) → position_of w (own_labels m 0 [] x) ≡ position_of w (own_labels ℓ 0 [] x)
  same_positions m w x = sym (position_in w (own_labels m 0 [] x)) ∙ ap (position_of w) (own_in m 0 [] x)
