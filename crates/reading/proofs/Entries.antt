-- How many operands each action has, and how many entries there are. Assumes nothing.
use mathlib.Core.Path.{◌≡◌, refl, ap, ◌∙◌}
use mathlib.Core.Bool.{Bool, cond}
use mathlib.Core.List.{List, [], ◌∷◌, ◌++◌, map}
use Prim.Native.Nat.{ℕ, zero, suc, ◌+◌, ◌<◌}
use native.Mathlib.Omega.{arith}
use borrow.Author.Tests.{eq-eqb, ne_eqb}
use lib.ListN.{length}
use Rattle.lexemes.specs.Lexemes.{Lexeme}
use Rattle.grammar.specs.Reading.{Acted, operands_from}
use Rattle.grammar.specs.Reading as R
use Rattle.grammar.specs.Nets.{Net}
use Rattle.reading.specs.Tables.{under, action_entries, level_entries}

-- ---- actions

-- how many operands the action at a place has
abbrev pub given : List Acted → ℕ → ℕ
given [] k = 0
given (l ∷ ls) zero = length l.operands
given (l ∷ ls) (suc k) = given ls k

abbrev of : ℕ → Lexeme → R.Operand
of a t = record { action = a; token = t }

-- an action's own operands count, those of others do not
module _ (a : ℕ) (os : List R.Operand) where
  own : (ts : List Lexeme) → under a (map (of a) ts ++ os) ≡ length ts + under a os
  own [] = omega arith
  own (t ∷ ts) =
      let r = under a (map (of a) ts ++ os) in
      ap (λ (q : Bool). cond q (suc r) r) (eq-eqb a a refl) ∙ omega (arith, own ts)

  others : (b : ℕ) → (b ≡ a → ⊥) → (ts : List Lexeme) → under a (map (of b) ts ++ os) ≡ under a os
  others b h [] = refl
  others b h (t ∷ ts) =
      let r = under a (map (of b) ts ++ os) in
      ap (λ (q : Bool). cond q (suc r) r) (ne_eqb b a h) ∙ others b h ts

none_before : (ls : List Acted) (a b : ℕ) → a < b → under a (operands_from b ls) ≡ 0
none_before [] a b h = refl
none_before (l ∷ ls) a b h =
    others a (operands_from (suc b) ls) b (λ q. omega arith) l.operands ∙ none_before ls a (suc b) (omega arith)

pub under-given : (ls : List Acted) (b k : ℕ) → under (b + k) (operands_from b ls) ≡ given ls k
under-given [] b k = refl
under-given (l ∷ ls) b zero =
    let e : b + 0 ≡ b = omega arith in
    ap (λ a. under a (operands_from b (l ∷ ls))) e
    ∙ own b (operands_from (suc b) ls) l.operands
    ∙ omega (arith, none_before ls b (suc b) (omega arith))
under-given (l ∷ ls) b (suc k) =
    let e : b + suc k ≡ suc b + k = omega arith in
    others (b + suc k) (operands_from (suc b) ls) b (λ q. omega arith) l.operands
    ∙ ap (λ a. under a (operands_from (suc b) ls)) e
    ∙ under-given ls (suc b) k

abbrev bare : Acted → R.Action
bare l = record { name = l.name; level = l.level }

module _ (os : List R.Operand) where
  pub entry_count : (xs : List R.Action) (a first : ℕ) → length (action_entries a first xs os) ≡ length xs
  entry_count [] a first = refl
  entry_count (x ∷ xs) a first = ap suc (entry_count xs (suc a) (first + under a os))

-- ---- levels

pub level-count : (ls : List R.Level) (ns : List Net) → length ns ≡ length ls → length (level_entries ls ns) ≡ length ls
level-count [] ns h = refl
level-count (l ∷ ls) [] h = absurd (omega arith)
level-count (l ∷ ls) (n ∷ ns) h = ap suc (level-count ls ns (omega arith))
