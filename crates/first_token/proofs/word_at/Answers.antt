-- `first_token::word_at` meets its contract. Assumes nothing.
use native.Mathlib.Omega.{arith}
use lib.ListN.{length-take}
use Rattle.scanner.specs.Bytes.{is_word_byte}
use Rattle.scanner.proofs.Runs.{run_fits}
use Rattle.first_token.proofs.word_at.Goals as goal

pub slice_bounds-word_kind-end : goal.slice_bounds-word_kind-end
slice_bounds-word_kind-end c = simp length-take (omega (arith, c.word_end-e.ensures, run_fits is_word_byte c.args.s.now 1 c.requires))
