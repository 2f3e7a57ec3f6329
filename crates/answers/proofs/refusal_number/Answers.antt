-- `answers::refusal_number` meets its contract: the number of each case. Assumes nothing.
use borrow.Author.Rules.{rules}
use mathlib.Core.Path.{ap, sym}
use Rattle.answers.specs.Answers.{number_of}
use Rattle.answers.proofs.refusal_number.Goals as goal

pub returns-in-TooLong : goal.returns-in-TooLong
returns-in-TooLong c =
    ap number_of (sym c.in-TooLong.is)

pub returns-in-NotUtf8 : goal.returns-in-NotUtf8
returns-in-NotUtf8 c =
    ap number_of (sym c.in-NotUtf8.is)

pub returns-in-LoneQuote : goal.returns-in-LoneQuote
returns-in-LoneQuote c =
    ap number_of (sym c.in-LoneQuote.is)

pub returns-in-CutCharacter : goal.returns-in-CutCharacter
returns-in-CutCharacter c =
    ap number_of (sym c.in-CutCharacter.is)

pub returns-in-TokenTableShort : goal.returns-in-TokenTableShort
returns-in-TokenTableShort c =
    ap number_of (sym c.in-TokenTableShort.is)

pub returns-in-NotGrammatical : goal.returns-in-NotGrammatical
returns-in-NotGrammatical c =
    ap number_of (sym c.in-NotGrammatical.is)

pub returns-in-NoValue : goal.returns-in-NoValue
returns-in-NoValue c =
    ap number_of (sym c.in-NoValue.is)

pub returns-in-TooDeep : goal.returns-in-TooDeep
returns-in-TooDeep c =
    ap number_of (sym c.in-TooDeep.is)

pub returns-in-TableShort : goal.returns-in-TableShort
returns-in-TableShort c =
    ap number_of (sym c.in-TableShort.is)

pub returns-in-Undetermined : goal.returns-in-Undetermined
returns-in-Undetermined c =
    ap number_of (sym c.in-Undetermined.is)

pub returns-in-NoLabel : goal.returns-in-NoLabel
returns-in-NoLabel c =
    ap number_of (sym c.in-NoLabel.is)

pub returns-in-Uncodable : goal.returns-in-Uncodable
returns-in-Uncodable c =
    ap number_of (sym c.in-Uncodable.is)

pub returns-in-OutputShort : goal.returns-in-OutputShort
returns-in-OutputShort c =
    ap number_of (sym c.in-OutputShort.is)

pub returns-in-BadRecord : goal.returns-in-BadRecord
returns-in-BadRecord c =
    ap number_of (sym c.in-BadRecord.is)

pub returns-in-BadTarget : goal.returns-in-BadTarget
returns-in-BadTarget c =
    ap number_of (sym c.in-BadTarget.is)

pub returns-in-Unprintable : goal.returns-in-Unprintable
returns-in-Unprintable c =
    ap number_of (sym c.in-Unprintable.is)

pub returns-in-TwoHeights : goal.returns-in-TwoHeights
returns-in-TwoHeights c =
    ap number_of (sym c.in-TwoHeights.is)

pub returns-in-BadEnd : goal.returns-in-BadEnd
returns-in-BadEnd c =
    ap number_of (sym c.in-BadEnd.is)

pub returns-in-TooManyEnds : goal.returns-in-TooManyEnds
returns-in-TooManyEnds c =
    ap number_of (sym c.in-TooManyEnds.is)

pub returns-in-NewerAction : goal.returns-in-NewerAction
returns-in-NewerAction c =
    ap number_of (sym c.in-NewerAction.is)

pub returns-in-NewerValue : goal.returns-in-NewerValue
returns-in-NewerValue c =
    ap number_of (sym c.in-NewerValue.is)

pub returns-in-NoPool : goal.returns-in-NoPool
returns-in-NoPool c =
    ap number_of (sym c.in-NoPool.is)

pub returns-in-PastPool : goal.returns-in-PastPool
returns-in-PastPool c =
    ap number_of (sym c.in-PastPool.is)

pub returns-in-BadPack : goal.returns-in-BadPack
returns-in-BadPack c =
    ap number_of (sym c.in-BadPack.is)

pub returns-in-NotInPack : goal.returns-in-NotInPack
returns-in-NotInPack c =
    ap number_of (sym c.in-NotInPack.is)

pub returns-in-BadText : goal.returns-in-BadText
returns-in-BadText c =
    ap number_of (sym c.in-BadText.is)
