-- How many events of a kind a log has.
use Rattle.std.specs.Prelude.{◌≡◌, cond, List, [], ◌∷◌, ℕ, suc, ◌+◌, eqb}
use Rattle.events.specs.Log.{kind_of}
use Rattle.counting.specs.declared.Count.{Count}

abbrev pub one_if : ℕ → ℕ → ℕ
one_if k w = cond (eqb (kind_of w) k) 1 0

abbrev pub count_of : ℕ → List ℕ → ℕ
count_of k [] = 0
count_of k (w ∷ l) = one_if k w + count_of k l

pub record Counted (log : List ℕ) (c : Count) : Type 0 where
  pub actions : c.actions ≡ count_of 0 log
  pub labels : c.labels ≡ count_of 1 log
  pub operands : c.operands ≡ count_of 2 log
  pub levels : c.levels ≡ suc (count_of 3 log)
