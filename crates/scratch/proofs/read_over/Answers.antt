-- `scratch::read_over` meets its contract. Assumes nothing.
use mathlib.Core.Path.{refl}
use Prim.Native.Nat.{ℕ}
use native.Mathlib.Omega.{arith}
use lib.ListN.{length-replicate}
use Rattle.handover.specs.Reading.{Reads}
use Rattle.std.proofs.lemmas.Result.{err_from_is_err_and}
use Rattle.scratch.proofs.Scratch as laws
use Rattle.scratch.proofs.read_over.Goals as goal

pub shared_whole_as_front-words : goal.shared_whole_as_front-words
shared_whole_as_front-words g c =
    let p = laws.parsed _ _ _ _ _ c.in_ok-parsed.ensures in
    (omega (arith, p.1.0, c.parse_text.auto.s, length-replicate {A = ℕ} g.row.N 0), omega (arith, c.requires.text_in_bounds))

pub slice_bounds-words-end : goal.slice_bounds-words-end
slice_bounds-words-end g c = laws.words_long _ _ _ _ _ c.in_ok-parsed.ensures

pub shared_whole_as_front-events : goal.shared_whole_as_front-events
shared_whole_as_front-events g c =
    let p = laws.parsed _ _ _ _ _ c.in_ok-parsed.ensures in
    (omega (arith, p.1.1, c.parse_text.auto.log, length-replicate {A = ℕ} g.row.N 0), omega (arith, c.requires.text_in_bounds))

pub slice_bounds-events-end : goal.slice_bounds-events-end
slice_bounds-events-end g c = laws.events-long _ _ _ _ _ c.in_ok-parsed.ensures

pub read_log-requires : goal.read_log-requires
read_log-requires g c = (laws.parsed _ _ _ _ _ c.in_ok-parsed.ensures).0

pub returns-in_err-parsed-clause-reads : goal.returns-in_err-parsed-clause-reads
unfolding Reads
returns-in_err-parsed-clause-reads g c =
    let p = err_from_is_err_and c.from_residual.result c.from_residual.ensures.1 in rw (p.1, p.2) (laws.refused _ _ _ _ _ c.in_err-parsed.ensures _, refl)
