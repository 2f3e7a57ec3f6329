-- The machine with a limit on open blocks: it also counts the blocks that may still open.
use Rattle.std.proofs.Math.Option.{Option, some, none}
use Rattle.std.specs.Prelude.{List, [], ◌∷◌, ◌++◌, ℕ, zero, suc, length}
use Rattle.lexemes.specs.Lexemes.{Lexeme}
use Rattle.lexemes.specs.Events.{Event, acted, named, given, opened, closed}
use Rattle.machine.specs.Machine.{Symbol, Output, silent, out, Move, stop, go, move, Answer, accepted, refused, may_end, puts, finish}

-- read with what was emitted; or a fault or a block too deep, with so many tokens left
pub data Verdict (S : Type 0) : Type 0 where
  read : S → Verdict S
  fault too_deep : ℕ → Verdict S

abbrev pub verdict : {S : Type 0} → Answer S → Verdict S
verdict (accepted s) = read s
verdict (refused n) = fault n

-- the blocks that may still open after a move, if it may be made
abbrev pub room_after : Output → ℕ → Option ℕ
room_after silent d = some d
room_after (out (acted n)) d = some d
room_after (out (named t)) d = some d
room_after (out (given t)) d = some d
room_after (out (opened p)) zero = none
room_after (out (opened p)) (suc d) = some d
room_after (out closed) d = some (suc d)

module _ {S : Type 0} (emit : Event → S → S) where
  abbrev pub within-room : Option ℕ → (ℕ → Verdict S) → ℕ → Verdict S
  within-room none k n = too_deep n
  within-room (some d) k n = k d

  abbrev pub limited-proceed : Move → ℕ → S → (List Symbol → ℕ → S → Verdict S) → ℕ → Verdict S
  limited-proceed stop d s k n = fault n
  limited-proceed (go α o) d s k n = within-room (room_after o d) (λ d'. k α d' (puts emit o s)) n

  -- `d` blocks may still open
  abbrev pub limited : List Symbol → ℕ → S → List Lexeme → Verdict S
  limited σ d s [] = verdict (finish emit (may_end σ) s)
  limited [] d s (t ∷ ts) = fault (suc (length ts))
  limited (a ∷ σ) d s (t ∷ ts) = limited-proceed (move a t) d s (λ α d' s'. limited (α ++ σ) d' s' ts) (suc (length ts))
