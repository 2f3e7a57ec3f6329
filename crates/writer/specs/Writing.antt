-- What the writer of bodies is given and what it writes, of whatever tree of records its tables hold. No public contract cites it.
use Rattle.std.specs.Prelude.{◌≡◌, Bool, true, List, ◌++◌, ◌⊎◌, ℕ, suc, ◌+◌, ◌≤◌, ◌<◌, min, length, get_or}
use Rattle.std.proofs.lemmas.List.Edits.{sets}
use Rattle.entries.specs.Entries.{action_of, level_in}
use Rattle.classes.specs.Lexemes.{Sound}
use Rattle.lexemes.specs.Events.{Part, body, try, catch, finally}
use Rattle.reading.specs.Tables.{part_of}
use Rattle.movies.specs.Movie.{Blocks, no_blocks, block}
use Rattle.movies.specs.Counts.{own_actions, all_actions, actions_inside, levels_of, levels_in}
use Rattle.action_records.specs.declared.Style.{Style}
use Rattle.action_records.specs.Fields.{is16}
use Rattle.coding.specs.Heads.{operands_at, head_of, head_holds}
use Rattle.level_trees.specs.Held.{HoldsLevel, HoldsBlocks}
use Rattle.writer.specs.declared.At.{At}
use Rattle.writer.specs.declared.Plan.{Plan}
use Rattle.filling.specs.Pieces.{Piece, Tree, size, size_in, with_blocks, bytes_from, bytes_in, late, big_in}
use Rattle.filling.specs.Filling.{filled, unless}

-- the tables: a text, its tokens, actions, operands and levels, and where each action jumps to
pub record Tables : Type 0 where
  pub text : List ℕ
  pub tokens : List ℕ
  pub actions : List ℕ
  pub operands : List ℕ
  pub levels : List ℕ
  pub aims : List ℕ

abbrev pub tables : List ℕ → List ℕ → List ℕ → List ℕ → List ℕ → List ℕ → Tables
tables text s actions operands levels aims =
    record { text = text; tokens = s; actions = actions; operands = operands; levels = levels; aims = aims }

-- those of what is written
abbrev pub tables_of : Plan → Tables
tables_of p =
    record {
      text = p.source.text.now;
      tokens = p.source.tokens.now;
      actions = p.source.actions.now;
      operands = p.source.operands.now;
      levels = p.source.levels.now;
      aims = p.aims.now;
    }

-- the record of action a, by its entry
unfoldable pub head_at : (text s actions operands : List ℕ) → Style → ℕ → List ℕ
head_at text s actions operands y a =
    head_of y (action_of (get_or actions a 0)).name
    (operands_at text s operands (action_of (get_or actions a 0)).first (action_of (get_or actions a 0)).count)

-- whether it can be coded
unfoldable pub coded_at : (text s actions operands : List ℕ) → Style → ℕ → Bool
coded_at text s actions operands y a =
    head_holds y (action_of (get_or actions a 0)).name
    (operands_at text s operands (action_of (get_or actions a 0)).first (action_of (get_or actions a 0)).count)

abbrev pub head_in : Tables → Style → ℕ → List ℕ
head_in T y a = head_at T.text T.tokens T.actions T.operands y a

abbrev pub coded_in : Tables → Style → ℕ → Bool
coded_in T y a = coded_at T.text T.tokens T.actions T.operands y a

-- a record of r bytes has room for the size of each of its blocks
abbrev pub Fits : Part → ℕ → Type 0
Fits body r = 2 ≤ r
Fits try r = 10 ≤ r
Fits catch r = 10 ≤ r
Fits finally r = 10 ≤ r

abbrev pub FitAll : Blocks Piece → ℕ → Type 0
FitAll no_blocks r = Unit {0}
FitAll (block p x bs) r = Fits p r × FitAll bs r

-- what the tables tell of an action
pub record Told (T : Tables) (y : Style) (a : ℕ) (h : Piece) (bs : Blocks Piece) : Type 0 where
  pub head : h.head ≡ head_in T y a
  pub coded : coded_at T.text T.tokens T.actions T.operands y a ≡ true
  pub aim : h.aim ≡ get_or T.aims a 0
  -- a jump's record has room for its offset
  pub jump : (h.aim ≡ 0) ⊎ (5 ≤ length h.head)
  pub fits : FitAll bs (length h.head)

-- ---- a level

pub record AskedLevel (T : Tables) (y : Style) (l : Tree) (n a m : ℕ) (place : List ℕ) : Type 0 where
  pub sound : Sound T.text T.tokens
  pub holds : HoldsLevel T.levels (Told T y) l a m
  pub count : n ≡ own_actions l
  pub room : suc (all_actions l + levels_of l) ≤ length place
  -- numbers of actions and levels stay below 2^20, bytes below 2^40
  pub few : a + all_actions l < 1048576
  pub levels : m + levels_of l < 1048576
  pub low : size l < 1099511627776

pub record WroteLevel (l : Tree) (a m : ℕ) (out out' : List ℕ) (r : At) : Type 0 where
  pub action : r.action ≡ a + all_actions l
  pub level : r.level ≡ m + levels_of l
  pub byte : r.byte ≡ size l
  pub late : r.late ≡ late a l
  pub bytes : out' ≡ sets out 0 (bytes_from l 0 l)

abbrev pub LevelGiven : Tables → Style → ℕ → ℕ → ℕ → List ℕ → Type 0
LevelGiven T y n a m place = (l : Tree) × AskedLevel T y l n a m place

abbrev pub LevelWritten : Tables → Style → ℕ → ℕ → ℕ → (place out out' : List ℕ) → At → Type 0
LevelWritten T y n a m place out out' r = (l : Tree) → AskedLevel T y l n a m place → WroteLevel l a m out out' r

-- ---- an action with its bodies; its own offset is left 0

pub record AskedAction (T : Tables) (y : Style) (h : Piece) (bs : Blocks Piece) (a m : ℕ) (place : List ℕ) : Type 0 where
  pub sound : Sound T.text T.tokens
  pub told : Told T y a h bs
  pub holds : HoldsBlocks T.levels (Told T y) a bs (suc a) m
  pub room : actions_inside bs + levels_in bs ≤ length place
  pub few : suc a + actions_inside bs < 1048576
  pub levels : m + levels_in bs < 1048576
  pub low : length h.head + size_in bs < 1099511627776

pub record WroteAction (h : Piece) (bs : Blocks Piece) (a m : ℕ) (out out' : List ℕ) (r : At) : Type 0 where
  pub action : r.action ≡ suc a + actions_inside bs
  pub level : r.level ≡ m + levels_in bs
  pub byte : r.byte ≡ length h.head + size_in bs
  pub late : r.late ≡ big_in a (suc a) bs
  pub bytes : out' ≡ sets out 0 (with_blocks bs h.head ++ bytes_in bs)

abbrev pub ActionGiven : Tables → Style → ℕ → ℕ → List ℕ → Type 0
ActionGiven T y a m place = (h : Piece) × ((bs : Blocks Piece) × AskedAction T y h bs a m place)

abbrev pub ActionWritten : Tables → Style → ℕ → ℕ → (place out out' : List ℕ) → At → Type 0
ActionWritten T y a m place out out' r =
    (h : Piece) (bs : Blocks Piece) → AskedAction T y h bs a m place → WroteAction h bs a m out out' r

-- ---- the level that is the next block of action a, whose record has r bytes

pub record AskedBlock (T : Tables) (y : Style) (p : Part) (x : Tree) (a r : ℕ) (at : At) (place : List ℕ) : Type 0 where
  pub sound : Sound T.text T.tokens
  pub block : (level_in T.levels at.level).block ≡ part_of p a
  pub count : (level_in T.levels at.level).actions ≡ own_actions x
  pub holds : HoldsLevel T.levels (Told T y) x at.action (suc at.level)
  pub fits : Fits p r
  pub room : suc (all_actions x + levels_of x) ≤ length place
  pub few : at.action + all_actions x < 1048576
  pub levels : suc at.level + levels_of x < 1048576
  pub low : at.byte + size x < 1099511627776

pub record WroteBlock (p : Part) (x : Tree) (a r : ℕ) (at : At) (out out' : List ℕ) (w : At) : Type 0 where
  pub action : w.action ≡ at.action + all_actions x
  pub level : w.level ≡ suc at.level + levels_of x
  pub byte : w.byte ≡ at.byte + size x
  pub late : w.late ≡ min at.late (min (unless (is16 (size x)) a) (late at.action x))
  pub bytes : out' ≡ filled (part_of p a) r (size x) (sets out at.byte (bytes_from x 0 x))

abbrev pub BlockGiven : Tables → Style → (a r : ℕ) → At → List ℕ → Type 0
BlockGiven T y a r at place = (p : Part) × ((x : Tree) × AskedBlock T y p x a r at place)

abbrev pub BlockWritten : Tables → Style → (a r : ℕ) → At → (place out out' : List ℕ) → At → Type 0
BlockWritten T y a r at place out out' w =
    (p : Part) (x : Tree) → AskedBlock T y p x a r at place → WroteBlock p x a r at out out' w
