-- The raw text of a token lies within the text, and where. Assumes nothing.
use mathlib.Core.Path.{◌≡◌, ap, sym, subst}
use mathlib.Core.Bool.{Bool, true, false, cond, ◌&&◌}
use mathlib.Core.List.{List}
use Prim.Native.Nat.{ℕ, ◌+◌, ◌≤◌}
use native.Mathlib.Omega.{arith}
use lib.Dec.{T, leb, leb→le}
use lib.ListN.{length}
use Rattle.tokens.specs.declared.Span.{Span}
use Rattle.tokens.specs.declared.Token.{Token}
use Rattle.tokens.specs.Tokens.{span, within, part, raw_bounds, raw_text}

record Inside (n : ℕ) (s : Span) : Type 0 where
  ordered : s.start ≤ s.end
  ends : s.end ≤ n

within-inside : (n : ℕ) (s : Span) → Inside n (within n s)
unfolding within
within-inside n s = by (leb s.start s.end) (leb s.end n) (leb→le _ _) (leb→le _ _)
  where
    by : (x y : Bool) → (T x → s.start ≤ s.end) → (T y → s.end ≤ n) → Inside n (cond (x && y) s (span 0 0))
    by true true f g = record { ordered = f tt; ends = g tt }
    by true false f g = omega arith
    by false y f g = omega arith

module _ (n : ℕ) (s b : Span) (e : b ≡ within n s) where
  inside : Inside n b
  inside = subst (Inside n) (sym e) (within-inside n s)

  pub raw-ordered : b.start ≤ b.end
  raw-ordered = inside.ordered

  pub raw-ends : b.end ≤ n
  raw-ends = inside.ends

module _ (text : List ℕ) (t : Token) (b : Span) (e : b ≡ within (length text) t.raw) where
  pub raw-bytes : part text b ≡ raw_text text t
  raw-bytes = ap (λ (s : Span). part text s) e

  -- in a text at p: its block, and the place in it
  pub raw-place : (p : ℕ × ℕ) → ◌≡◌ {A = ℕ × ℕ} (p.0, b.start + p.1) (p.0, (raw_bounds (length text) t).start + p.1)
  raw-place p = ap (λ (s : Span). (p.0, s.start + p.1)) e
