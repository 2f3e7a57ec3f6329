-- What export answers of a text's tree: document 02, §2.
use Rattle.std.specs.Prelude.{Bool, true, false, cond, ◌&&◌, ◌||◌, List, [], ◌∷◌, ℕ, leb, length}
use Rattle.std.proofs.Math.Option.{Option, none, some}
use Rattle.answers.specs.Answers.{Answer, accepted, refused}
use Rattle.grammar.specs.Grammar.{Items}
use Rattle.movies.specs.Movie.{Value, string, number, integer, bool, register, constant, null, undefined, position, long, missing, Movie}
use Rattle.movies.specs.Meaning.{meaning_of}
use Rattle.movies.specs.Sites.{Site, sites, first_fault}
use Rattle.action_records.specs.Fields.{Field, all_bytes, all, is16, holds, holds_laid}
use Rattle.action_records.specs.declared.Style.{Style}
use Rattle.action_records.specs.Bytes.{blank, fields_of, layout, movie_bytes}

-- ---- 10: a jump's label is not in its level

abbrev pub is_missing : Value → Bool
is_missing (string w) = false
is_missing (number x) = false
is_missing (integer z) = false
is_missing (bool b) = false
is_missing (register n) = false
is_missing (constant n) = false
is_missing null = false
is_missing undefined = false
is_missing (position p) = false
is_missing long = false
is_missing missing = true

abbrev pub lacks_label : List Value → Bool
lacks_label [] = false
lacks_label (v ∷ vs) = is_missing v || lacks_label vs

-- last 12, with the length needed
abbrev pub in_room : ℕ → List ℕ → Answer (List ℕ)
in_room room bs = cond (leb (length bs) room) (accepted bs) (refused 12 (length bs))

module _ (y : Style) where
  abbrev pub fields_at : Site → List Field
  fields_at s = fields_of y s.act s.blocks

  -- 11: an operand cannot be coded, or the length
  abbrev pub is_codable : Site → Bool
  is_codable s = all holds (fields_at s) && is16 (length (all_bytes blank (fields_at s)))

  unfoldable pub fault_at : Site → Option ℕ
  fault_at s = cond (lacks_label s.act.operands) (some 10) (cond (is_codable s) none (some 11))

  -- a body's length and a jump's offset are tested only where no action has another fault
  unfoldable pub late_fault_at : Site → Option ℕ
  late_fault_at s = cond (all (holds_laid (layout y s)) (fields_at s)) none (some 11)

  -- 10 and 11 of a movie; else `rest`
  abbrev pub codable : {A : Type 0} → Movie → Answer A → Answer A
  codable m rest = first_fault fault_at 0 (sites m) (first_fault late_fault_at 0 (sites m) rest)

  unfoldable pub exported : ℕ → Items → Answer (List ℕ)
  exported room x = codable (meaning_of x) (in_room room (movie_bytes y (meaning_of x)))
