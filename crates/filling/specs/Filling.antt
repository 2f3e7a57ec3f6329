-- Sizes and offsets stored into an output that may be shorter than the bytes: past its end nothing is stored. No public contract
-- cites it.
use Rattle.std.specs.Prelude.{Bool, cond, List, ℕ, zero, suc, ◌+◌, ◌-◌, ◌/◌, ◌%◌, min, ℤ, get_or}
use Rattle.std.proofs.Math.IntN.{sub_ℕ}
use Rattle.entries.specs.declared.Block.{Block}
use Rattle.entries.specs.declared.Block.TheVariants as B
use Rattle.action_records.specs.Fields.{two's_complement, is_signed16}
use Rattle.filling.specs.Pieces.{with16, with_flag, nobody}

-- a body's size, in the record of r bytes at the output's front
abbrev pub filled : Block → ℕ → ℕ → List ℕ → List ℕ
filled B.Top r n out = out
filled (B.Body a) r n out = with16 (r - 2) n out
filled (B.Try a) r n out = with16 4 n out
filled (B.Catch a) r n out = with16 6 n (with_flag 1 out)
filled (B.Finally a) r n out = with16 8 n (with_flag 2 out)

-- an action, where a field does not hold what it should
abbrev pub unless : Bool → ℕ → ℕ
unless holds a = cond holds nobody a

-- ---- the places of a level's n own actions and, behind them, of its end: byte and number in one word

abbrev pub byte_at : List ℕ → ℕ → ℕ
byte_at place k = get_or place k 0 / 1048576

abbrev pub action_at : List ℕ → ℕ → ℕ
action_at place k = get_or place k 0 % 1048576

-- from the end of the jump at position k to position p
abbrev pub offset_at : List ℕ → (n k p : ℕ) → ℤ
offset_at place n k p = sub_ℕ (byte_at place (min p n)) (byte_at place (suc k))

-- the offset of the jump at position k
abbrev pub aimed : List ℕ → (n k aim : ℕ) → List ℕ → List ℕ
aimed place n k zero out = out
aimed place n k (suc p) out = with16 (byte_at place k + 3) (two's_complement 16 (offset_at place n k p)) out

abbrev pub far_at : List ℕ → (n k aim : ℕ) → ℕ
far_at place n k zero = nobody
far_at place n k (suc p) = unless (is_signed16 (offset_at place n k p)) (action_at place k)

-- where the action at position k jumps to
abbrev pub aim_at : (aims place : List ℕ) → ℕ → ℕ
aim_at aims place k = get_or aims (action_at place k) 0

-- the offsets of the first k
abbrev pub aimed_to : (aims place : List ℕ) → (n k : ℕ) → List ℕ → List ℕ
aimed_to aims place n zero out = out
aimed_to aims place n (suc k) out = aimed place n k (aim_at aims place k) (aimed_to aims place n k out)

abbrev pub far_to : (aims place : List ℕ) → (n k : ℕ) → ℕ
far_to aims place n zero = nobody
far_to aims place n (suc k) = min (far_to aims place n k) (far_at place n k (aim_at aims place k))
