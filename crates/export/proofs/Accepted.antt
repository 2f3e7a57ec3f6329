-- Where export accepts: the one tree of the text, and its movie's bytes. Assumes nothing.
use mathlib.Core.Path.{◌≡◌, refl, ◌∙◌}
use mathlib.Core.Bool.{Bool, true, false, cond}
use mathlib.Core.List.{List, [], ◌∷◌}
use mathlib.Core.Option.{Option, none, some}
use Prim.Native.Nat.{ℕ, suc}
use lib.Dec.{leb}
use lib.ListN.{length}
use Rattle.answers.specs.Answers.{Answer, accepted, refused}
use Rattle.tokens.specs.declared.Token.{Token}
use Rattle.lexer.specs.Lexing.{lex_text}
use Rattle.lexemes.specs.Lexemes.{numbered}
use Rattle.grammar.specs.Grammar.{Items}
use Rattle.grammar.specs.Reading.{Has}
use Rattle.grammar.proofs.Texts.{unlike, same-accepted}
use Rattle.handover.specs.Reading.{Tables}
use Rattle.movies.specs.Meaning.{meaning_of}
use Rattle.movies.specs.Sites.{Site, sites, or_fault, first_fault}
use Rattle.action_records.specs.declared.Style.{Style}
use Rattle.action_records.specs.Bytes.{movie_bytes}
use Rattle.action_records.specs.Export.{fault_at, late_fault_at, in_room, exported}
use Rattle.export.specs.Asked.{Asked, unread}
use Rattle.export.specs.Asked as A

-- ---- no fault was found, and there was room

no_fault : {A : Type 0} (t : Option ℕ) (a : ℕ) (rest : Answer A) (b : A) → or_fault t a rest ≡ accepted b → rest ≡ accepted b
no_fault none a rest b e = e
no_fault (some n) a rest b e = unlike e refl

no_faults : {A : Type 0} (f : Site → Option ℕ) (a : ℕ) (ss : List Site) (rest : Answer A) (b : A) → first_fault f a ss rest ≡ accepted b → rest ≡ accepted b
no_faults f a [] rest b e = e
no_faults f a (s ∷ ss) rest b e = no_faults f (suc a) ss rest b (no_fault (f s) a (first_fault f (suc a) ss rest) b e)

in_room_lem : (room : ℕ) (bs b : List ℕ) → in_room room bs ≡ accepted b → b ≡ bs
in_room_lem room bs b e = by (leb (length bs) room) e
  where
    by : (t : Bool) → cond t (accepted bs) (refused 12 (length bs)) ≡ accepted b → b ≡ bs
    by true q = same-accepted q refl
    by false q = unlike q refl

pub bytes_of : (y : Style) (room : ℕ) (x : Items) (b : List ℕ) → exported y room x ≡ accepted b → b ≡ movie_bytes y (meaning_of x)
unfolding exported
bytes_of y room x b e =
    let m = meaning_of x in
    let rest = in_room room (movie_bytes y m) in
    in_room_lem room (movie_bytes y m) b (no_faults (late_fault_at y) 0 (sites m) rest b (no_faults (fault_at y) 0 (sites m) (first_fault (late_fault_at y) 0 (sites m) rest) b e))

-- ---- the tree

pub record Tree {A : Type 0} (f : Items → Answer A) (room : ℕ) (text : List ℕ) (b : A) : Type 0 where
  pub tokens : List Token
  pub lexed : lex_text text room ≡ accepted tokens
  pub has : Has f (numbered 0 text tokens) (accepted b)

pub tree_of : {A L : Type 0} (f : Items → Answer A) (x : Tables L) (text : List ℕ) (b : A) {a : Answer A} → Asked f x text a → a ≡ accepted b → Tree f (length x.tokens) text b
tree_of f x text b (unread q) e = unlike e refl
tree_of f x text b (A.read {ts = ts} l q h) e = record { tokens = ts; lexed = l; has = record { tree = h.tree; fits = h.fits; told = h.told ∙ e } }
