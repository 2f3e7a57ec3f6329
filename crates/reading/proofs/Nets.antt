-- The net of a tree's level, moved action by action. Assumes nothing.
use mathlib.Core.Path.{◌≡◌, refl}
use mathlib.Core.Option.{Option, none, some}
use Prim.Native.Nat.{ℕ, suc, ◌+◌}
use lib.IntN.{ℤ}
use lib.ListN.{length}
use Rattle.entries.specs.declared.Net.{Net}
use Rattle.entries.specs.declared.Net.TheVariants as N
use Rattle.pcode.specs.Deltas.{delta_of}
use Rattle.lexemes.specs.Lexemes.{Lexeme}
use Rattle.grammar.specs.Grammar.{Items, done, label, action, Blocks}
use Rattle.grammar.specs.Reading.{Acted, actions_inside}
use Rattle.grammar.specs.Nets.{name_is_empty, moved, net_from}
use Rattle.nets.specs.Nets.{moved_by}
use Rattle.reading.specs.Tables.{net_entry}

-- what an action of a tree does
abbrev pub delta_in : Acted → Option ℤ
delta_in l = delta_of l.name (length l.operands) (name_is_empty l.operands)

-- ---- a level's own actions, from a net on

abbrev pub run_from : ℕ → Net → Items → Net
run_from a (N.Height h) x = net_entry (net_from a h x)
run_from a (N.Undetermined b) x = N.Undetermined b

pub run-done : (a : ℕ) (t : Net) → run_from a t done ≡ t
run-done a (N.Height h) = refl
run-done a (N.Undetermined b) = refl

pub run-label : (a : ℕ) (t : Net) (n : Lexeme) (x : Items) → run_from a t (label n x) ≡ run_from a t x
run-label a (N.Height h) n x = refl
run-label a (N.Undetermined b) n x = refl

run_moved : (o : Option ℤ) (a b : ℕ) (h : ℤ) (x : Items) → net_entry (moved o a h (λ g. net_from b g x)) ≡ run_from b (moved_by o a (N.Height h)) x
run_moved none a b h x = refl
run_moved (some z) a b h x = refl

pub run-action : (a : ℕ) (t : Net) (l : Acted) (bs : Blocks) (x : Items)
    → run_from a t (action l.name l.operands bs x) ≡ run_from (suc a + actions_inside bs) (moved_by (delta_in l) a t) x
run-action a (N.Height h) l bs x = run_moved (delta_in l) a (suc a + actions_inside bs) h x
run-action a (N.Undetermined b) l bs x = refl
