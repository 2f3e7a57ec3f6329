-- Refusals 1 to 5 in their order. Assumes nothing.
use mathlib.Core.Path.{◌≡◌, refl, ap, ◌∙◌}
use mathlib.Core.Bool.{true, false}
use mathlib.Core.List.{List, ◌++◌, map}
use Prim.Native.Nat.{ℕ, ◌≤◌, ◌<◌}
use native.Mathlib.Omega.{arith}
use lib.Dec.{ltb}
use lib.ListN.{length, take, drop}
use borrow.Author.Tests.{lt-ltb, le-ltb}
use Rattle.std.specs.Prelude.{Result, Ok, Err}
use Rattle.answers.specs.Answers.{Answer, accepted, refused, refusal}
use Rattle.answers.specs.declared.Refusal.{Refusal}
use Rattle.answers.specs.declared.Refusal.TheVariants as R
use Rattle.tokens.specs.declared.Token.{Token}
use Rattle.tokens.specs.Tokens.{word_of}
use Rattle.utf8.specs.Utf8.{valid_up_to}
use Rattle.lexer.specs.Lexing.{Handed, Lexes, counted, fitting, lex_from, lex_text}
use Rattle.lexer.specs.Scratch.{LexesUtf8, Stored, words_of}

refuses : (q : Answer (List Token)) (x : List ℕ) (r : Refusal) → refusal r ≡ counted q → Handed (fitting (length x) q) x x (Err r)
refuses (accepted l) x r e = let z : ◌≡◌ {A = ℕ} 0 1 = cc in absurd (omega arith)
refuses (refused m k) x r e = record { answered = e; table = refl }

too_many : (q : Answer (List Token)) (x : List ℕ) (n : ℕ) → accepted n ≡ counted q → length x < n
    → Handed (fitting (length x) q) x x (Err (R.TokenTableShort n))
too_many (accepted l) x n e h =
    let m : n ≡ length l = cc in
    let t : ltb (length x) (length l) ≡ true = lt-ltb (length x) (length l) (omega arith) in
    record { answered = simp t (ap (λ (k : ℕ). refused 5 k) m); table = simp t }
too_many (refused m k) x n e h = let z : ◌≡◌ {A = ℕ} 0 1 = cc in absurd (omega arith)

all : (q : Answer (List Token)) (x y z : List ℕ) (n : ℕ) → accepted n ≡ counted q → take n z ≡ words_of q → n ≤ length x
    → y ≡ take n z ++ drop n x → Handed (fitting (length x) q) x y (Ok n)
all (accepted l) x y z n e w h f =
    let m : n ≡ length l = cc in
    let t : ltb (length x) (length l) ≡ false = le-ltb (length x) (length l) (omega arith) in
    record {
      answered = simp t (ap (λ (k : ℕ). accepted k) m);
      table = simp t (f ∙ ap (λ (u : List ℕ). u ++ drop n x) w ∙ ap (λ (k : ℕ). map word_of l ++ drop k x) m);
    }
all (refused m k) x y z n e w h f = let z : ◌≡◌ {A = ℕ} 0 1 = cc in absurd (omega arith)

-- rows 3 to 5, from what stands in the scratch table z
module _ (s x z : List ℕ) where
  pub row34 : (r : Refusal) → Stored s z (Err r) → LexesUtf8 s x x (Err r)
  row34 r h = refuses (lex_from s 0 0) x r h.answered

  pub row5 : (n : ℕ) → Stored s z (Ok n) → length x < n → LexesUtf8 s x x (Err (R.TokenTableShort n))
  row5 n h g = too_many (lex_from s 0 0) x n h.answered g

  pub accept : (n : ℕ) → Stored s z (Ok n) → n ≤ length x → (y : List ℕ) → y ≡ take n z ++ drop n x → LexesUtf8 s x y (Ok n)
  accept n h g y e = all (lex_from s 0 0) x y z n h.answered h.words g e

module _ (s x : List ℕ) where
  pub row1 : 65536 < length s → Lexes s x x (Err R.TooLong)
  unfolding lex_text
  row1 h = let t = lt-ltb 65536 (length s) h in record { answered = simp t; table = simp t }

  module _ (short : length s ≤ 65536) (v : ℕ) (ev : v ≡ valid_up_to s) where
    pub row2 : v < length s → Lexes s x x (Err (R.NotUtf8 v))
    unfolding lex_text
    row2 h =
        let a = le-ltb 65536 (length s) short in
        let b = lt-ltb v (length s) h in
        record { answered = simp (a, ← ev, b); table = simp (a, ← ev, b) }

    pub rows345 : length s ≤ v → (y : List ℕ) (r : Result ℕ Refusal) → LexesUtf8 s x y r → Lexes s x y r
    unfolding lex_text
    rows345 valid y r h = simp (le-ltb 65536 (length s) short, ← ev, le-ltb v (length s) valid) h
