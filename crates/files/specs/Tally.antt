-- What became of the files, counted, and what a program tells of them.
use Rattle.std.specs.Prelude.{ℕ, zero, suc, ◌+◌, ◌%◌}
use Rattle.files.specs.declared.Outcome.{Outcome}
use Rattle.files.specs.declared.Outcome.TheVariants as O
use Rattle.files.specs.declared.Status.{Status}
use Rattle.files.specs.declared.Status.TheVariants as S
use Rattle.files.specs.declared.Tally.{Tally}

-- a sum in eight bytes
abbrev pub plus : ℕ → ℕ → ℕ
plus m n = (m + n) % 18446744073709551616

abbrev pub tally : (refused failed warnings : ℕ) → Tally
tally r f w = record { refused = r; failed = f; warnings = w }

-- a file more
abbrev pub added : Outcome → Tally → Tally
added (O.Read n) t = tally t.refused t.failed (plus t.warnings n)
added O.Refused t = tally (plus t.refused 1) t.failed t.warnings
added O.Failed t = tally t.refused (plus t.failed 1) t.warnings

-- a file that could not be read counts before one that was refused, and that before warnings
abbrev pub status_by : (failed refused warnings : ℕ) → Status
status_by (suc f) r w = S.Failed
status_by zero (suc r) w = S.Refused
status_by zero zero (suc w) = S.Warned
status_by zero zero zero = S.Read

abbrev pub status_of : Tally → Status
status_of t = status_by t.failed t.refused t.warnings
