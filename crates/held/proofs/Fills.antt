-- What an accepted reading puts into each table: how many words, and that they have a place. Assumes nothing.
use mathlib.Core.Path.{◌≡◌, sym, ap, ◌∙◌}
use mathlib.Core.List.{List, map}
use Prim.Native.Nat.{ℕ, ◌*◌, ◌≤◌}
use native.Mathlib.Omega.{arith}
use lib.ListN.{length, drop, get_or, length-map, length-append}
use Rattle.answers.specs.Answers.{accepted}
use Rattle.tokens.specs.Tokens.{word_of}
use Rattle.grammar.specs.Reading as G
use Rattle.grammar.specs.Refusals.{entries, Answers, fits}
use Rattle.entries.specs.Entries.{action_word}
use Rattle.reading.specs.Tables.{front, action_entries, level_entries, action_words, operand_entry_word, operand_words, level_words}
use Rattle.reading.proofs.Entries.{entry_count, level-count}
use Rattle.reading.proofs.LevelSets.{words-length}
use Rattle.handover.specs.declared.Counts.{Counts}
use Rattle.handover.specs.Reading.{Tables, filled, Accepts}
use Rattle.as2_pcode.proofs.Handed.{from-text, nets-long}

not_short : {room : ℕ} {ps text : List ℕ} {Q : G.Reading} → Answers room ps text (accepted Q) → (k : ℕ) → get_or (entries Q) k 0 ≤ get_or ps k 0
not_short (fits e w f) k = omega (arith, f k)

-- the n words ws are put at the front of the table x, which then is y
pub record Fills {A : Type 0} (ws : List A) (n : ℕ) (x y : List A) : Type 0 where
  pub many : length ws ≡ n
  pub is : y ≡ front ws x

pub inside : {A : Type 0} {ws x y : List A} {n : ℕ} → Fills ws n x y → n ≤ length y
inside {ws = ws} {x = x} f = omega (arith, ap length f.is, length-append ws (drop (length ws) x), f.many)

module _ {L : Type 0} {entry : G.Label → L} {room : ℕ} {ps text : List ℕ} {x y : Tables L} {c : Counts} (a : Accepts entry room ps text x y c) where
  pub tokens_fill : Fills (map word_of a.tokens) c.tokens x.tokens y.tokens
  tokens_fill =
      record {
        many = length-map a.tokens word_of ∙ sym (ap (λ (k : Counts). k.tokens) a.counts);
        is = ap (λ (t : Tables L). t.tokens) a.tables;
      }

  pub actions_fill : Fills (action_words a.reading) c.actions x.actions y.actions
  actions_fill =
      record {
        many =
            length-map (action_entries 0 0 a.reading.actions a.reading.operands) action_word ∙ entry_count a.reading.operands a.reading.actions 0 0
            ∙ sym (ap (λ (k : Counts). k.actions) a.counts);
        is = ap (λ (t : Tables L). t.actions) a.tables;
      }

  pub operands_fill : Fills (operand_words a.reading) c.operands x.operands y.operands
  operands_fill =
      record {
        many = length-map a.reading.operands operand_entry_word ∙ sym (ap (λ (k : Counts). k.operands) a.counts);
        is = ap (λ (t : Tables L). t.operands) a.tables;
      }

  pub levels_fill : Fills (level_words a.reading a.nets) (2 * c.levels) x.levels y.levels
  levels_fill =
      record {
        many =
            words-length (level_entries a.reading.levels a.nets)
            ∙ ap (λ (k : ℕ). 2 * k) (level-count a.reading.levels a.nets (nets-long a) ∙ sym (ap (λ (k : Counts). k.levels) a.counts));
        is = ap (λ (t : Tables L). t.levels) a.tables;
      }

  pub labels_fill : Fills (map entry a.reading.labels) c.labels x.labels y.labels
  labels_fill =
      record {
        many = length-map a.reading.labels entry ∙ sym (ap (λ (k : Counts). k.labels) a.counts);
        is = ap (λ (t : Tables L). t.labels) a.tables;
      }

  pub tokens_fit : c.tokens ≤ room
  tokens_fit = omega (arith, ap (λ (k : Counts). k.tokens) a.counts, (from-text a).fit)

  pub actions_fit : c.actions ≤ get_or ps 0 0
  actions_fit = omega (arith, ap (λ (k : Counts). k.actions) a.counts, not_short a.answer 0)

  pub operands_fit : c.operands ≤ get_or ps 1 0
  operands_fit = omega (arith, ap (λ (k : Counts). k.operands) a.counts, not_short a.answer 1)

  pub levels_fit : c.levels ≤ get_or ps 2 0
  levels_fit = omega (arith, ap (λ (k : Counts). k.levels) a.counts, not_short a.answer 2)

  pub labels_fit : c.labels ≤ get_or ps 3 0
  labels_fit = omega (arith, ap (λ (k : Counts). k.labels) a.counts, not_short a.answer 3)

-- the same reading, handed out into other tables
abbrev pub refilled : {L L' : Type 0} {entry : G.Label → L} {entry' : G.Label → L'} {room : ℕ} {ps text : List ℕ} {x y : Tables L} {x' y' : Tables L'} {c : Counts}
    (a : Accepts entry room ps text x y c) → y' ≡ filled entry' a.tokens a.reading a.nets x' → Accepts entry' room ps text x' y' c
refilled a e =
    record { tokens = a.tokens; reading = a.reading; nets = a.nets; lexed = a.lexed; answer = a.answer; net = a.net; tables = e; counts = a.counts }
