-- Rows 1 and 2, whatever tables are lent. Assumes nothing.
use mathlib.Core.Path.{◌≡◌}
use mathlib.Core.List.{List}
use Prim.Native.Nat.{ℕ, ◌≤◌, ◌<◌}
use lib.ListN.{length}
use borrow.Author.Tests.{lt-ltb, le-ltb}
use Rattle.answers.specs.Answers.{refused}
use Rattle.lexer.specs.Lexing.{lex_text}
use Rattle.utf8.specs.Utf8.{valid_up_to}
use Rattle.grammar.specs.Refusals.{Answers, rows₁₋₅}

module _ (text : List ℕ) (room : ℕ) (places : List ℕ) where
  pub row1 : 65536 < length text → Answers room places text (refused 1 0)
  unfolding lex_text
  row1 h = rows₁₋₅ {n = 1} {p = 0} (simp (lt-ltb 65536 (length text) h))

  pub row2 : length text ≤ 65536 → (v : ℕ) → v ≡ valid_up_to text → v < length text → Answers room places text (refused 2 v)
  unfolding lex_text
  row2 h v e g = rows₁₋₅ {n = 2} {p = v} (simp (le-ltb 65536 (length text) h, ← e, lt-ltb v (length text) g))
