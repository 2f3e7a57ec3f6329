-- What is left to compare decides.
use mathlib.Core.Path.{◌≡◌}
use Rattle.words.specs.Words.{same_word}
use Rattle.words.proofs.Words.{same_from}
use Rattle.words.proofs.same_word.Given as goal

abbrev pub invariant-loop-i : goal.invariant-loop-i
invariant-loop-i l = same_word l.w l.n ≡ same_from l.w l.n l.i
