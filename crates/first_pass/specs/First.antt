-- The first of some actions with a fault. No public contract cites it.
use Rattle.std.specs.Prelude.{Result, Ok, Err, ℕ, zero, suc}
use Rattle.answers.specs.declared.Refusal.{Refusal}

-- the first refusal of two
abbrev pub or_next : Result (Unit {0}) Refusal → Result (Unit {0}) Refusal → Result (Unit {0}) Refusal
or_next (Ok u) next = next
or_next (Err r) next = Err r

-- of n actions from a on
abbrev pub first_from : (ℕ → Result (Unit {0}) Refusal) → ℕ → ℕ → Result (Unit {0}) Refusal
first_from f a zero = Ok tt
first_from f a (suc n) = or_next (f a) (first_from f (suc a) n)
