-- `lookups::target_of` meets its contract. The invariant: what is left to search decides. Assumes nothing.
use Rattle.lookups.proofs.Targets as laws
use Rattle.lookups.proofs.target_of.Given as goal

abbrev pub invariant-loop-word : goal.invariant-loop-word
invariant-loop-word l = laws.Left l.text l.tokens l.level l.name l.labels l.word-index
