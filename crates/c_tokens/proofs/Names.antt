-- The name of a number is the spelling of its action, or empty; a word is put in front where it has room. Assumes nothing.
use mathlib.Core.Path.{◌≡◌, refl, ap, sym}
use mathlib.Core.Bool.{Bool, true, ◌&&◌, and-eq-true_iff}
use mathlib.Core.List.{List, [], ◌++◌}
use Prim.Native.Nat.{ℕ, ◌≤◌, ◌<◌}
use lib.Dec.{leb}
use lib.ListN.{length, take, drop, get_or, get_or-eq_default}
use lib.Seq.{take-length}
use borrow.Author.Tests.{leb-true, lt-ltb, le-ltb}
use Rattle.laws.proofs.Tabulate.{agree}
use Rattle.actions.specs.Numbers.{action_at}
use Rattle.actions.proofs.Numbers.{number-action}
use Rattle.words.specs.Spellings.{bytes, spellings, spelling_of}
use Rattle.c_tokens.specs.Places.{name_of, word_after}

pub no_name : (n : ℕ) → 100 ≤ n → [] ≡ name_of n
unfolding spellings
no_name n h = sym (get_or-eq_default spellings [] h)

pub named : (n : ℕ) → n < 100 → spelling_of (action_at n) ≡ name_of n
unfolding spelling_of
named n h = ap (λ (k : ℕ). get_or spellings k []) (number-action n h)

-- as one test: some letters, and at most 15
abbrev fits : ℕ → Bool
fits n = leb 1 (length (name_of n)) && leb (length (name_of n)) 15

-- so who asks for the names of 0, 1, 2, .. until one is empty has all 100
pub name-length : (n : ℕ) → n < 100 → (1 ≤ length (name_of n)) × (length (name_of n) ≤ 15)
unfolding bytes spellings
name-length n h =
    let e = (and-eq-true_iff (leb 1 (length (name_of n))) (leb (length (name_of n)) 15)).0 (agree fits (λ k. true) 100 n refl h) in
    (leb-true 1 (length (name_of n)) e.0, leb-true (length (name_of n)) 15 e.1)

pub kept : (w old : List ℕ) → length old < length w → old ≡ word_after w old
kept w old h = simp (lt-ltb (length old) (length w) h)

pub put : (w old : List ℕ) → length w ≤ length old → take (length w) w ++ drop (length w) old ≡ word_after w old
put w old h = simp (le-ltb (length old) (length w) h, take-length w)
