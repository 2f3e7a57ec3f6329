-- What is coded so far, and what a function adds to it.
use Rattle.std.specs.Prelude.{◌≡◌, Bool, true, not, ◌&&◌, List, ℕ, ◌+◌, ◌≤◌, ◌<◌, eqb, length}
use Rattle.std.proofs.lemmas.List.Edits.{sets}
use Rattle.action_records.specs.Fields.{Field, all_bytes, all, holds}
use Rattle.action_records.specs.Bytes.{blank}
use Rattle.field_coding.specs.declared.Coder.{Coder}

-- the bytes bs added to c: their length always; whether all holds goes on; and where all holds, the output, which stays the same slice, has them
pub record Puts (bs : List ℕ) (ok : Bool) (c r : Coder) : Type 0 where
  pub end : r.end ≡ c.end + length bs
  pub holds : r.holds ≡ (c.holds && ok)
  pub bytes : r.holds ≡ true → r.out.now ≡ sets c.out.now c.end bs
  pub long : length r.out.now ≡ length c.out.now
  pub same : r.out.ghost_name ≡ c.out.ghost_name

-- those fields added to c
pub record Codes (fs : List Field) (c r : Coder) : Type 0 where
  pub puts : Puts (all_bytes blank fs) (all holds fs) c r

-- no zero byte, which would end a string
abbrev pub no_zero : List ℕ → Bool
no_zero w = all (λ (b : ℕ). not (eqb b 0)) w

-- bytes of a string
pub record Spells (w : List ℕ) (c r : Coder) : Type 0 where
  pub puts : Puts w (no_zero w) c r

-- the number of bytes so far stays in range with n bytes more
abbrev pub Room : ℕ → Coder → Type 0
Room n c = c.end + n < 18446744073709551616

-- at most n bytes more
abbrev pub Adds : ℕ → Coder → Coder → Type 0
Adds n c r = r.end ≤ c.end + n
