-- What a public call answers, in the terms of documents 01 and 02: what it accepts, or the number and the place of its refusal.
use Rattle.std.specs.Prelude.{ℕ}
use Rattle.answers.specs.declared.Refusal.{Refusal}
use Rattle.answers.specs.declared.Refusal.TheVariants as R

pub data Answer (A : Type 0) : Type 0 where
  accepted : A → Answer A
  refused : ℕ → ℕ → Answer A

-- document 01's column 'No.', and document 02's answers
abbrev pub number_of : Refusal → ℕ
number_of R.TooLong = 1
number_of (R.NotUtf8 p) = 2
number_of (R.LoneQuote p) = 3
number_of (R.CutCharacter p) = 4
number_of (R.TokenTableShort p) = 5
number_of (R.NotGrammatical p) = 6
number_of R.NoValue = 6
number_of (R.TooDeep p) = 7
number_of (R.TableShort p) = 8
number_of R.Undetermined = 9
number_of (R.NoLabel p) = 10
number_of (R.Uncodable p) = 11
number_of (R.OutputShort p) = 12
number_of (R.BadRecord p) = 13
number_of (R.BadTarget p) = 14
number_of (R.Unprintable p) = 15
number_of R.TwoHeights = 16
number_of (R.BadEnd p) = 17
number_of R.TooManyEnds = 18
number_of (R.NewerAction p) = 19
number_of (R.NewerValue p) = 20
number_of (R.NoPool p) = 21
number_of (R.PastPool p) = 22
number_of R.BadPack = 23
number_of R.NotInPack = 24
number_of (R.BadText p) = 25

-- document 01's column 'Place', and document 02's places; 0 where it names none
abbrev pub place_of : Refusal → ℕ
place_of R.TooLong = 0
place_of (R.NotUtf8 p) = p
place_of (R.LoneQuote p) = p
place_of (R.CutCharacter p) = p
place_of (R.TokenTableShort p) = p
place_of (R.NotGrammatical p) = p
place_of R.NoValue = 0
place_of (R.TooDeep p) = p
place_of (R.TableShort p) = p
place_of R.Undetermined = 0
place_of (R.NoLabel p) = p
place_of (R.Uncodable p) = p
place_of (R.OutputShort p) = p
place_of (R.BadRecord p) = p
place_of (R.BadTarget p) = p
place_of (R.Unprintable p) = p
place_of R.TwoHeights = 0
place_of (R.BadEnd p) = p
place_of R.TooManyEnds = 0
place_of (R.NewerAction p) = p
place_of (R.NewerValue p) = p
place_of (R.NoPool p) = p
place_of (R.PastPool p) = p
place_of R.BadPack = 0
place_of R.NotInPack = 0
place_of (R.BadText p) = p

abbrev pub refusal : {A : Type 0} → Refusal → Answer A
refusal r = refused (number_of r) (place_of r)
