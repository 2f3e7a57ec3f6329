-- The example: a text is read if the net of its top level is determined, and else refused by 9, after all of reading's refusals.
use Rattle.std.specs.Prelude.{◌≡◌, Bool, true, false, List, ◌⊎◌, ℕ, pos, length, get_or, Ok, Err}
use Rattle.answers.specs.Answers.{refusal}
use Rattle.answers.specs.declared.Refusal.TheVariants as F
use Rattle.grammar.specs.Nets.{Net, height}
use Rattle.grammar.specs.Refusals.{Answers}
use Rattle.entries.specs.declared.Net as E
use Rattle.entries.specs.declared.Net.TheVariants as N
use Rattle.reading.specs.Tables.{net_entry, label_entry_word}
use Rattle.handover.specs.declared.Counts.{Counts}
use Rattle.handover.specs.Reading.{Reading, Tables, places, Accepts}

abbrev pub is_undetermined : E.Net → Bool
is_undetermined (N.Height h) = false
is_undetermined (N.Undetermined a) = true

-- the first net is the top level's
abbrev pub top_net : List Net → E.Net
top_net ns = net_entry (get_or ns 0 (height (pos 0)))

-- reading would accept the text, whose top level's net is undetermined
pub record Undetermined (text : List ℕ) (x : Tables ℕ) : Type 0 where
  pub tables : Tables ℕ
  pub counts : Counts
  pub accepts : Accepts label_entry_word (length x.tokens) (places x) text x tables counts
  pub net : is_undetermined (top_net accepts.nets) ≡ true

-- the answer r to a text with the tables x lent, which are then y
unfoldable pub ReadsDetermined : List ℕ → Tables ℕ → Tables ℕ → Reading → Type 0
ReadsDetermined text x y (Ok c) =
    (a : Accepts label_entry_word (length x.tokens) (places x) text x y c) × (is_undetermined (top_net a.nets) ≡ false)
ReadsDetermined text x y (Err f) =
    (Answers (length x.tokens) (places x) text (refusal f) ⊎ ((f ≡ F.Undetermined) × Undetermined text x)) × (y ≡ x)
