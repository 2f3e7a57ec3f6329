-- A movie: the actions of each level with what their operands are worth. Texts and bytes of one movie mean the same (document 02, §12).
use Rattle.std.specs.Prelude.{Bool, true, false, ◌||◌, List, [], ℕ, ℤ, pos, negsuc, Float, eqb, get_or}
use Rattle.names.specs.declared.ActionName.{ActionName}
use Rattle.lexemes.specs.Events.{Part, body, try, catch, finally}

-- an operand: a string's bytes, escapes decoded; a number by its value and sign, all not-a-numbers being one; a jump's target as
-- the number of actions before it in its level
pub data Value : Type 0 where
  string : List ℕ → Value
  number : Float → Value
  integer : ℤ → Value
  bool : Bool → Value
  register constant : ℕ → Value
  null undefined : Value
  position : ℕ → Value
  -- of a text alone: a Long number, a label that is not in its level
  long missing : Value

mutual
  -- the actions of a level, each with what is said of it, and its blocks
  pub data Level (A : Type 0) : Type 0 where
    done : Level A
    action : A → Blocks A → Level A → Level A

  pub data Blocks (A : Type 0) : Type 0 where
    no_blocks : Blocks A
    block : Part → Level A → Blocks A → Blocks A

-- operands as a text writes them, the count of a function among them: the names that follow, or the pairs. A GotoFrame2 with bias 0 has
-- no bias. A catch has its target, the empty name if none is written; a Try without a catch block has none
pub record Act : Type 0 where
  pub name : ActionName
  pub operands : List Value

abbrev pub Movie : Type 0
Movie = Level Act

-- ---- operands by their place and what they hold

infixl 90 ◌!◌
abbrev pub ◌!◌ : List Value → ℕ → Value
vs ! k = get_or vs k null

abbrev pub whole : ℕ → Value
whole n = integer (pos n)

abbrev pub number_in : Value → ℕ
number_in (string w) = 0
number_in (number x) = 0
number_in (integer (pos n)) = n
number_in (integer (negsuc n)) = 0
number_in (bool true) = 1
number_in (bool false) = 0
number_in (register n) = n
number_in (constant n) = n
number_in null = 0
number_in undefined = 0
number_in (position p) = p
number_in long = 0
number_in missing = 0

abbrev pub text_in : Value → List ℕ
text_in (string w) = w
text_in (number x) = []
text_in (integer z) = []
text_in (bool b) = []
text_in (register n) = []
text_in (constant n) = []
text_in null = []
text_in undefined = []
text_in (position p) = []
text_in long = []
text_in missing = []

abbrev pub is_register : Value → Bool
is_register (string w) = false
is_register (number x) = false
is_register (integer z) = false
is_register (bool b) = false
is_register (register n) = true
is_register (constant n) = false
is_register null = false
is_register undefined = false
is_register (position p) = false
is_register long = false
is_register missing = false

-- ---- blocks

abbrev pub part_number : Part → ℕ
part_number body = 0
part_number try = 1
part_number catch = 2
part_number finally = 3

abbrev pub is_part : Part → Part → Bool
is_part p q = eqb (part_number p) (part_number q)

abbrev pub has : {A : Type 0} → Blocks A → Part → Bool
has no_blocks p = false
has (block q x bs) p = is_part p q || has bs p
