-- The table word of each entry, of a level two, and back. Callers see the structs alone.
use Rattle.std.specs.Prelude.{Bool, cond, List, [], ◌∷◌, ◌++◌, ℕ, zero, suc, ◌+◌, ◌-◌, ◌*◌, ◌/◌, ◌%◌, eqb, ltb, pos, negsuc, length, get_or}
use Rattle.std.proofs.Math.IntN.{sub_ℕ}
use Rattle.actions.specs.Numbers.{action_at, number_of}
use Rattle.entries.specs.declared.Action.{Action}
use Rattle.entries.specs.declared.Operand.{Operand}
use Rattle.entries.specs.declared.Block.{Block}
use Rattle.entries.specs.declared.Block.TheVariants as B
use Rattle.entries.specs.declared.Net.{Net}
use Rattle.entries.specs.declared.Net.TheVariants as N
use Rattle.entries.specs.declared.Level.{Level}
use Rattle.entries.specs.declared.Label.{Label}

abbrev pub action_word : Action → ℕ
action_word a = number_of a.name * 2251799813685248 + a.level * 17179869184 + a.first * 131072 + a.count

abbrev pub action_of : ℕ → Action
action_of w =
    record {
      name = action_at (w / 2251799813685248);
      level = w / 17179869184 % 131072;
      first = w / 131072 % 131072;
      count = w % 131072;
    }

abbrev pub unclosed_bit : Bool → ℕ
unclosed_bit b = cond b 1048576 0

abbrev pub operand_word : Operand → ℕ
operand_word o = o.action * 1099511627776 + unclosed_bit o.unclosed + o.token

abbrev pub operand_of : ℕ → Operand
operand_of w = record { action = w / 1099511627776 % 1048576; token = w % 1048576; unclosed = eqb (w / 1048576 % 2) 1 }

abbrev pub block_number : Block → ℕ
block_number B.Top = 0
block_number (B.Body a) = a * 4 + 1
block_number (B.Try a) = a * 4 + 2
block_number (B.Catch a) = a * 4 + 3
block_number (B.Finally a) = a * 4 + 4

abbrev pub part_of : ℕ → ℕ → Block
part_of zero a = B.Body a
part_of (suc zero) a = B.Try a
part_of (suc (suc zero)) a = B.Catch a
part_of (suc (suc (suc n))) a = B.Finally a

unfoldable pub block_of : ℕ → Block
block_of zero = B.Top
block_of (suc n) = part_of (n % 4) (n / 4)

-- a height lies from -196,608 to 65,536
abbrev pub net_number : Net → ℕ
net_number (N.Height (pos n)) = 196608 + n
net_number (N.Height (negsuc n)) = 196607 - n
net_number (N.Undetermined a) = 524288 + a

unfoldable pub net_of : ℕ → Net
net_of n = cond (ltb n 524288) (N.Height (sub_ℕ n 196608)) (N.Undetermined (n - 524288))

-- the action that owns a block; of the top level, which has none, 0
abbrev pub owner_of : Block → ℕ
owner_of B.Top = 0
owner_of (B.Body a) = a
owner_of (B.Try a) = a
owner_of (B.Catch a) = a
owner_of (B.Finally a) = a

-- a level's first word, and its two words
abbrev pub level_word : Level → ℕ
level_word l = block_number l.block * 1099511627776 + l.actions * 1048576 + net_number l.net

abbrev pub level_words : Level → List ℕ
level_words l = level_word l ∷ l.unclosed ∷ []

-- level after level
abbrev pub levels_words : List Level → List ℕ
levels_words [] = []
levels_words (l ∷ ls) = level_words l ++ levels_words ls

abbrev pub level_of : ℕ → ℕ → Level
level_of w v =
    record {
      block = block_of (w / 1099511627776 % 1048576);
      actions = w / 1048576 % 1048576;
      net = net_of (w % 1048576);
      unclosed = v % 1048576;
    }

-- level k stands in words 2k and 2k + 1 of its table
unfoldable pub level_at : List ℕ → ℕ → Level
level_at table k = level_of (get_or table (2 * k) 0) (get_or table (2 * k + 1) 0)

-- the places of a level table; a last word alone is none
abbrev pub level_places : List ℕ → ℕ
level_places table = length table / 2

-- past them the level of two words 0
unfoldable pub level_in : List ℕ → ℕ → Level
level_in table k = cond (ltb k (level_places table)) (level_at table k) (level_of 0 0)

abbrev pub label_word : Label → ℕ
label_word l = l.level * 1099511627776 + l.position * 1048576 + l.token

abbrev pub label_of : ℕ → Label
label_of w = record { level = w / 1099511627776; token = w % 1048576; position = w / 1048576 % 1048576 }
