-- Scratch that is large enough, and how many entries a reading has. Assumes nothing.
use mathlib.Core.Path.{◌≡◌, refl, ap, ◌∙◌}
use mathlib.Core.List.{List, [], ◌++◌, append-nil}
use Prim.Native.Nat.{ℕ, zero, suc, ◌+◌, ◌≤◌, ◌<◌}
use native.Mathlib.Omega.{arith}
use lib.ListN.{length, drop, replicate, length-replicate}
use Rattle.grammar.proofs.Theorems.{halves}
use Rattle.lexemes.specs.Lexemes.{numbered}
use Rattle.handover.specs.declared.Counts.{Counts}
use Rattle.as2_pcode.proofs.Handed.{from-text, read}
use Rattle.as2_pcode.proofs.Kept.{numbered-length}
use Rattle.lexer.proofs.Theorems as lexer
use Rattle.held.proofs.Fills.{Fills, actions_fill, levels_fill, labels_fill}
use Rattle.exporting.specs.Passes.{Held, Roomy}

pub roomy : {actions levels labels : List ℕ} (k i p : ℕ) → length actions ≤ k → length labels < i → i < 4294967296 → length actions + length levels ≤ p
    → Roomy actions levels labels (replicate k 0) (replicate i 0) (replicate p 0)
roomy k i p a b c d =
    record {
      for_aims = omega (arith, length-replicate {A = ℕ} k 0);
      for_index = omega (arith, length-replicate {A = ℕ} i 0);
      few = omega (arith, length-replicate {A = ℕ} i 0);
      for_place = omega (arith, length-replicate {A = ℕ} p 0);
    }

abbrev empty : List ℕ
empty = []

nothing : (n : ℕ) → drop n empty ≡ empty
nothing zero = refl
nothing (suc n) = refl

exact_long : {ws y : List ℕ} {n : ℕ} → Fills ws n empty y → length y ≡ n
exact_long {ws} {y} {n} f = ap length (f.is ∙ ap (λ (l : List ℕ). ws ++ l) (nothing (length ws)) ∙ append-nil ws) ∙ f.many

-- as few as a text of 65,536 bytes can have
module _ {text s actions operands levels labels : List ℕ} (h : Held text s actions operands levels labels) where
  few-lexemes : length (numbered 0 text h.accepts.tokens) ≤ 65536
  few-lexemes =
      omega (arith, numbered-length text h.accepts.tokens 0, lexer.few text h.accepts.tokens (from-text h.accepts).made, (from-text h.accepts).small)

  pub few-actions : length actions ≤ 32769
  few-actions = omega (arith, exact_long (actions_fill h.accepts), ap (λ (k : Counts). k.actions) h.accepts.counts, (halves (read h.accepts)).0, few-lexemes)

  pub few-labels : length labels ≤ 32769
  few-labels = omega (arith, exact_long (labels_fill h.accepts), ap (λ (k : Counts). k.labels) h.accepts.counts, (halves (read h.accepts)).3, few-lexemes)

  pub few-levels : length levels ≤ 65538
  few-levels = omega (arith, exact_long (levels_fill h.accepts), ap (λ (k : Counts). k.levels) h.accepts.counts, (halves (read h.accepts)).2, few-lexemes)
