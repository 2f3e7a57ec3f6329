-- How the tokens of a text go on by one step. Assumes nothing.
use mathlib.Core.Path.{◌≡◌, refl, ap, sym, ◌∙◌}
use mathlib.Core.List.{List, [], ◌∷◌, ◌++◌, append_assoc, append-nil, map}
use Prim.Native.Nat.{ℕ, zero, suc, ◌+◌, ◌-◌, ◌≤◌, ◌<◌}
use native.Mathlib.Nat.{add-zero, add-suc, suc-add}
use native.Mathlib.Numerals.{add-one}
use native.Mathlib.Omega.{arith}
use lib.ListN.{length, take, drop, set, drop_of_length-le, length-map, length-set}
use Rattle.std.specs.Prelude.{Ok, Err}
use lib.Seq.{drop-cons, drop-drop, take-suc-set, length-take-le}
use Rattle.answers.specs.Answers.{Answer, accepted, refused}
use Rattle.answers.specs.declared.Refusal.TheVariants as R
use Rattle.tokens.specs.declared.TokenKind.{TokenKind}
use Rattle.tokens.specs.declared.Token.{Token}
use Rattle.tokens.specs.Tokens.{span, token_in, word_of}
use Rattle.first_token.specs.First.{first}
use Rattle.first_token.specs.declared.Found.{Found}
use Rattle.first_token.specs.declared.Found.TheVariants as F
use Rattle.lexer.specs.Lexing.{before, counted, lex_from, then}
use Rattle.lexer.specs.Scratch.{Stored, words_of}

-- the bytes that end a token are passed over
lex_skip : (s : List ℕ) (k i : ℕ) → lex_from s k i ≡ lex_from (drop k s) 0 (i + k)
unfolding lex_from
lex_skip [] zero i = refl
lex_skip [] (suc k) i = refl
lex_skip (b ∷ s) zero i = rw add-zero
lex_skip (b ∷ s) (suc k) i = lex_skip s k (suc i) ∙ rw (add-suc, suc-add)

module _ (s : List ℕ) (i : ℕ) where
  lex_here : i < length s → lex_from (drop i s) 0 i ≡ then (first (drop i s)) i (λ n. lex_from (drop (i + 1) s) n (i + 1))
  unfolding lex_from
  lex_here h = rw (add-one i, drop-cons s i 0)

  pub lex_end : length s ≤ i → lex_from (drop i s) 0 i ≡ accepted []
  unfolding lex_from
  lex_end h = rw (drop_of_length-le s)

  module _ (h : i < length s) where
    then-here : {f : Found} → f ≡ first (drop i s) → lex_from (drop i s) 0 i ≡ then f i (λ n. lex_from (drop (i + 1) s) n (i + 1))
    then-here e = lex_here h ∙ ap (λ (q : Found). then q i (λ n. lex_from (drop (i + 1) s) n (i + 1))) (sym e)

    pub blank : F.Blank ≡ first (drop i s) → lex_from (drop i s) 0 i ≡ lex_from (drop (i + 1) s) 0 (i + 1)
    blank e = then-here e

    pub lone : F.LoneQuote ≡ first (drop i s) → lex_from (drop i s) 0 i ≡ refused 3 i
    lone e = then-here e

    pub cut : F.CutCharacter ≡ first (drop i s) → lex_from (drop i s) 0 i ≡ refused 4 i
    cut e = then-here e

    pub next : (k : TokenKind) (n : ℕ) → F.Token k n ≡ first (drop i s) → 0 < n
        → lex_from (drop i s) 0 i ≡ before (token_in k (span i (i + n))) (lex_from (drop (i + n) s) 0 (i + n))
    next k n e p =
        let g : i + 1 + (n - 1) ≡ i + n = omega arith in
        let rest : lex_from (drop (i + 1) s) (n - 1) (i + 1) ≡ lex_from (drop (i + n) s) 0 (i + n) =
        lex_skip (drop (i + 1) s) (n - 1) (i + 1) ∙ simp (drop-drop, g) in
        then-here e ∙ ap (λ (x : Answer (List Token)). before (token_in k (span i (i + n))) x) rest

-- ---- the loop, with n words written that stand for the tokens l so far

-- tokens before the others
abbrev ahead : List Token → Answer (List Token) → Answer (List Token)
ahead l (accepted m) = accepted (l ++ m)
ahead l (refused n p) = refused n p

ahead_before : (l : List Token) (t : Token) (x : Answer (List Token)) → ahead l (before t x) ≡ ahead (l ++ (t ∷ [])) x
ahead_before l t (accepted m) = ap (λ (k : List Token). accepted k) (sym (append_assoc l (t ∷ []) m))
ahead_before l t (refused n p) = refl

ahead-nil : (x : Answer (List Token)) → x ≡ ahead [] x
ahead-nil (accepted m) = refl
ahead-nil (refused n p) = refl

words_more : (l : List Token) (t : Token) → map word_of (l ++ (t ∷ [])) ≡ map word_of l ++ (word_of t ∷ [])
words_more [] t = refl
words_more (u ∷ l) t = ap (λ (k : List ℕ). word_of u ∷ k) (words_more l t)

pub record Passed (s x₀ x : List ℕ) (at n : ℕ) : Type 0 where
  pub within : at ≤ length s
  pub few : n ≤ at
  pub same : length x ≡ length x₀
  pub tokens : List Token
  pub words : take n x ≡ map word_of tokens
  pub far : lex_from s 0 0 ≡ ahead tokens (lex_from (drop at s) 0 at)

pub begin : (s x : List ℕ) → Passed s x x 0 0
begin s x =
    record {
      within = omega arith;
      few = omega arith;
      same = refl;
      tokens = [];
      words = refl;
      far = ahead-nil (lex_from s 0 0);
    }

module _ (s x₀ x : List ℕ) (i n : ℕ) (so : Passed s x₀ x i n) (room : length s ≤ length x₀) where
  -- from the state so far to the whole
  on : {y : Answer (List Token)} → lex_from (drop i s) 0 i ≡ y → lex_from s 0 0 ≡ ahead so.tokens y
  on e = so.far ∙ ap (λ (y : Answer (List Token)). ahead so.tokens y) e

  pub done : length s ≤ i → Stored s x (Ok n)
  done h =
      let far : lex_from s 0 0 ≡ accepted so.tokens = on (lex_end s i h) ∙ ap (λ (l : List Token). accepted l) (append-nil so.tokens) in
      let m : length (take n x) ≡ n = length-take-le n x (omega (arith, so.within, so.few, so.same)) in
      let k : n ≡ length so.tokens = sym m ∙ ap length so.words ∙ length-map so.tokens word_of in
      record {
        answered = ap (λ (j : ℕ). accepted j) k ∙ ap counted (sym far);
        words = so.words ∙ ap words_of (sym far);
        few = omega (arith, so.within, so.few);
      }

  module _ (h : i < length s) where
    pub stop_lone : F.LoneQuote ≡ first (drop i s) → Stored s x (Err (R.LoneQuote i))
    stop_lone e =
        let far : lex_from s 0 0 ≡ refused 3 i = on (lone s i h e) in
        record { answered = ap counted (sym far); words = ap words_of (sym far); few = omega arith }

    pub stop-cut : F.CutCharacter ≡ first (drop i s) → Stored s x (Err (R.CutCharacter i))
    stop-cut e =
        let far : lex_from s 0 0 ≡ refused 4 i = on (cut s i h e) in
        record { answered = ap counted (sym far); words = ap words_of (sym far); few = omega arith }

    pub pass : F.Blank ≡ first (drop i s) → Passed s x₀ x (i + 1) n
    pass e =
        record {
          within = omega arith;
          few = omega (arith, so.few);
          same = so.same;
          tokens = so.tokens;
          words = so.words;
          far = on (blank s i h e);
        }

    pub store : (k : TokenKind) (m w : ℕ) → F.Token k m ≡ first (drop i s) → 0 < m → m ≤ length s - i → w ≡ word_of (token_in k (span i (i + m)))
        → Passed s x₀ (set x n w) (i + m) (n + 1)
    store k m w e p q ew =
        let t = token_in k (span i (i + m)) in
        record {
          within = omega arith;
          few = omega (arith, so.few);
          same = simp length-set so.same;
          tokens = so.tokens ++ (t ∷ []);
          words =
              ap (λ (j : ℕ). take j (set x n w)) (add-one n) ∙ take-suc-set x n w (omega (arith, so.few, so.same))
              ∙ ap (λ (l : List ℕ). l ++ (w ∷ [])) so.words
              ∙ ap (λ (v : ℕ). map word_of so.tokens ++ (v ∷ [])) ew
              ∙ sym (words_more so.tokens t);
          far = on (next s i h k m e p) ∙ ahead_before so.tokens t (lex_from (drop (i + m) s) 0 (i + m));
        }
