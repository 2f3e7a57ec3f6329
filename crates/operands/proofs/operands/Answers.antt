-- `operands::operands` meets its contract. Assumes nothing.
use Rattle.operands.proofs.Forms.{read-nothing, read-values, read_strings, read-string-string, read-bool-bool-u8, read-u16, read-frame, read-string, read-identifier, read-u8, read-u16-u8, read-function, read-function_2}
use Rattle.operands.proofs.operands.Goals as goal

pub returns-in-Nothing : goal.returns-in-Nothing
returns-in-Nothing c = search (read-nothing, c.in-Nothing.is)

pub returns-in-Values : goal.returns-in-Values
returns-in-Values c = search read-values

pub returns-in-Strings : goal.returns-in-Strings
returns-in-Strings c = search read_strings

pub returns-in-StringString : goal.returns-in-StringString
returns-in-StringString c = search read-string-string

pub returns-in-BoolBoolU8 : goal.returns-in-BoolBoolU8
returns-in-BoolBoolU8 c = search read-bool-bool-u8

pub returns-in-U16 : goal.returns-in-U16
returns-in-U16 c = search read-u16

pub returns-in-BoolBoolMaybeU16 : goal.returns-in-BoolBoolMaybeU16
returns-in-BoolBoolMaybeU16 c = search read-frame

pub returns-in-String : goal.returns-in-String
returns-in-String c = search read-string

pub returns-in-Identifier : goal.returns-in-Identifier
returns-in-Identifier c = search read-identifier

pub returns-in-U8 : goal.returns-in-U8
returns-in-U8 c = search read-u8

pub returns-in-U16U8 : goal.returns-in-U16U8
returns-in-U16U8 c = search read-u16-u8

pub returns-in-Function : goal.returns-in-Function
returns-in-Function c = search read-function

pub returns-in-Function2 : goal.returns-in-Function2
returns-in-Function2 c = search read-function_2
