-- `list_coding::put_texts` meets its contract. Assumes nothing.
use mathlib.Core.List.{[], ◌∷◌}
use Rattle.movies.specs.Movie.{Value}
use Rattle.action_records.specs.Operands as R
use Rattle.list_coding.specs.Operands.{values}
use Rattle.list_coding.proofs.Turns.{Taken, each}
use Rattle.list_coding.proofs.put_texts.Given as goal

abbrev pub invariant-loop-k : goal.invariant-loop-k
invariant-loop-k l = Taken (each (λ (v : Value). R.text v ∷ [])) (values l.o) l.from l.initial.w l.w l.k
