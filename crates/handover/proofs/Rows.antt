-- Row 8. Assumes nothing.
use mathlib.Core.Path.{◌≡◌, refl}
use mathlib.Core.List.{List, [], ◌∷◌}
use Prim.Native.Nat.{ℕ, zero, suc, ◌≤◌, ◌<◌}
use native.Mathlib.Nat.{not-suc-le-zero}
use native.Mathlib.Omega.{arith}
use lib.ListN.{get_or}
use Rattle.std.specs.Prelude.{Some, None}
use Rattle.handover.specs.Scratch.{ShortAt, Lowest, ShortOf}

-- a table more changes nothing for those before it
module _ (a b c d e f g h : ℕ) where
  placed : (j : ℕ) → j < 3 → get_or (a ∷ b ∷ c ∷ []) j 0 ≡ get_or (a ∷ b ∷ c ∷ d ∷ []) j 0
  placed zero l = refl
  placed (suc zero) l = refl
  placed (suc (suc zero)) l = refl
  placed (suc (suc (suc j))) l = absurd (omega arith)

  pub wider : (k : ℕ) → k < 3 → Lowest (a ∷ b ∷ c ∷ []) (e ∷ f ∷ g ∷ []) k → Lowest (a ∷ b ∷ c ∷ d ∷ []) (e ∷ f ∷ g ∷ h ∷ []) k
  wider k l w =
      record {
        short = omega (arith, w.short, placed k l, entries k l);
        lowest = λ j i s. w.lowest j i (omega (arith, s, placed j (omega arith), entries j (omega arith)));
      }
    where
      entries : (j : ℕ) → j < 3 → get_or (e ∷ f ∷ g ∷ []) j 0 ≡ get_or (e ∷ f ∷ g ∷ h ∷ []) j 0
      entries zero l = refl
      entries (suc zero) l = refl
      entries (suc (suc zero)) l = refl
      entries (suc (suc (suc j))) l = absurd (omega arith)

-- `short_table`, row by row
module _ (a b c e f g : ℕ) where
  abbrev ps : List ℕ
  ps = a ∷ b ∷ c ∷ []

  abbrev es : List ℕ
  es = e ∷ f ∷ g ∷ []

  pub short₀ : a < e → ShortOf ps es (Some 0)
  short₀ i = (omega arith, record { short = i; lowest = λ j g. absurd (not-suc-le-zero g) })

  module _ (i : e ≤ a) where
    pub short₁ : b < f → ShortOf ps es (Some 1)
    short₁ j = (omega arith, record { short = j; lowest = before })
      where
        before : (n : ℕ) → n < 1 → ¬ ShortAt ps es n
        before zero l s = omega (arith, i, s)
        before (suc n) l s = absurd (omega arith)

    module _ (j : f ≤ b) where
      pub short₂ : c < g → ShortOf ps es (Some 2)
      short₂ k = (omega arith, record { short = k; lowest = before })
        where
          before : (n : ℕ) → n < 2 → ¬ ShortAt ps es n
          before zero l s = omega (arith, i, s)
          before (suc zero) l s = omega (arith, j, s)
          before (suc (suc n)) l s = absurd (omega arith)

      pub none-short : g ≤ c → ShortOf ps es None
      none-short k zero s = omega (arith, i, s)
      none-short k (suc zero) s = omega (arith, j, s)
      none-short k (suc (suc zero)) s = omega (arith, k, s)
      none-short k (suc (suc (suc n))) s = omega (arith, s)
