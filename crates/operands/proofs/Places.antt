-- The list of tokens from a place on, and one move of the machine there. Assumes nothing.
use mathlib.Core.Path.{◌≡◌, refl, sym, ap, ◌∙◌}
use mathlib.Core.Bool.{false}
use mathlib.Core.List.{List, [], ◌∷◌, ◌++◌}
use Prim.Native.Nat.{ℕ, zero, suc, ◌+◌, ◌-◌, ◌≤◌, ◌<◌}
use native.Mathlib.Numerals.{add-one}
use native.Mathlib.Omega.{arith}
use lib.ListN.{length, get_or, drop, length-drop, drop_of_length-le}
use Rattle.machine.specs.Machine.{Nesting, top, inner, State, Symbol, level, Output, stop, go, move, may_end, puts}
use Rattle.machine.specs.Depth.{fault, limited-proceed, within-room, room_after}
use Rattle.classes.specs.Lexemes.{lexeme_of, lexemes_from, lexemes}
use Rattle.operands.specs.Log.{Log, emit}
use Rattle.operands.specs.Contract.{judge}

-- ---- the list from a place on

from_cons : (text : List ℕ) (i : ℕ) (s : List ℕ) (at : ℕ) → at < length s →
    drop at (lexemes_from i text s) ≡ lexeme_of text (i + at) (get_or s at 0) ∷ drop (suc at) (lexemes_from i text s)
from_cons text i [] at h = absurd (omega arith)
from_cons text i (w ∷ s) zero h = let e : i ≡ i + 0 = omega arith in ap (λ (j : ℕ). lexeme_of text j w ∷ lexemes_from (suc i) text s) e
from_cons text i (w ∷ s) (suc at) h =
    let e : suc i + at ≡ i + suc at = omega arith in
    from_cons text (suc i) s at (omega arith) ∙ ap (λ (j : ℕ). lexeme_of text j (get_or s at 0) ∷ drop (suc at) (lexemes_from (suc i) text s)) e

from-length : (text : List ℕ) (i : ℕ) (s : List ℕ) → length (lexemes_from i text s) ≡ length s
from-length text i [] = refl
from-length text i (w ∷ s) = ap suc (from-length text (suc i) s)

pub lexemes-length : (text s : List ℕ) → length (lexemes text s) ≡ length s
unfolding lexemes
lexemes-length text s = from-length text 0 s

pub lexemes-cons : (text s : List ℕ) (at : ℕ) → at < length s → drop at (lexemes text s) ≡ lexeme_of text at (get_or s at 0) ∷ drop (at + 1) (lexemes text s)
unfolding lexemes
lexemes-cons text s at h =
    let e : 0 + at ≡ at = omega arith in
    from_cons text 0 s at h
    ∙ ap (λ (j : ℕ). lexeme_of text j (get_or s at 0) ∷ drop (suc at) (lexemes_from 0 text s)) e
    ∙ ap (λ (n : ℕ). lexeme_of text at (get_or s at 0) ∷ drop n (lexemes_from 0 text s)) (sym (add-one at))

pub lexemes-end : (text s : List ℕ) (at : ℕ) → length s ≤ at → drop at (lexemes text s) ≡ []
lexemes-end text s at h = drop_of_length-le (lexemes text s) {i = at} (omega (arith, lexemes-length text s))

lexemes-left : (text s : List ℕ) (at : ℕ) → at < length s → suc (length (drop (at + 1) (lexemes text s))) ≡ length s - at
lexemes-left text s at h = omega (arith, length-drop (at + 1) (lexemes text s), lexemes-length text s)

-- ---- one move

module _ (text s : List ℕ) (at : ℕ) where
  pub at-move : (a : Symbol) (σ : List Symbol) (d : ℕ) (L : Log) → at < length s →
      judge text s (a ∷ σ) d L at ≡
      limited-proceed emit (move a (lexeme_of text at (get_or s at 0))) d L (λ α d' L'. judge text s (α ++ σ) d' L' (at + 1)) (length s - at)
  unfolding judge
  at-move a σ d L h = rw (lexemes-cons text s at h, lexemes-left text s at h)

  pub at-step : (a : Symbol) (α σ : List Symbol) (o : Output) (d : ℕ) (L : Log) → at < length s → move a (lexeme_of text at (get_or s at 0)) ≡ go α o →
      judge text s (a ∷ σ) d L at ≡ within-room emit (room_after o d) (λ d'. judge text s (α ++ σ) d' (puts emit o L) (at + 1)) (length s - at)
  at-step a α σ o d L h m = at-move a σ d L h ∙ rw m

  pub at-stop : (a : Symbol) (σ : List Symbol) (d : ℕ) (L : Log) → at < length s → move a (lexeme_of text at (get_or s at 0)) ≡ stop →
      judge text s (a ∷ σ) d L at ≡ fault (length s - at)
  at-stop a σ d L h m = at-move a σ d L h ∙ rw m

  -- a symbol at which the text may not end
  pub at-end : (a : Symbol) (σ : List Symbol) (d : ℕ) (L : Log) → length s ≤ at → may_end (a ∷ σ) ≡ false → judge text s (a ∷ σ) d L at ≡ fault (length s - at)
  unfolding judge
  at-end a σ d L h e =
      let z : 0 ≡ length s - at = omega arith in
      rw (lexemes-end text s at h) (rw e (ap (λ (n : ℕ). fault n) z))

  -- where the text ends, a level's state makes no difference
  pub past_same : (e : Nesting) (p q : State) (σ : List Symbol) (d : ℕ) (L : Log) → length s ≤ at → judge text s (level e p ∷ σ) d L at ≡ judge text s (level e q ∷ σ) d L at
  unfolding judge
  past_same inner p q σ d L h = rw (lexemes-end text s at h)
  past_same top p q [] d L h = rw (lexemes-end text s at h)
  past_same top p q (a ∷ σ) d L h = rw (lexemes-end text s at h)
