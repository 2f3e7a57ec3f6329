-- Of every text's tokens: spans are not empty, ascend, do not meet inside, and only spaces and tabs stand outside them;
-- there are at most as many tokens as bytes. Assumes nothing.
use mathlib.Core.Path.{◌≡◌, refl, ap, sym, ◌∙◌, subst}
use mathlib.Core.Bool.{Bool, true, false}
use mathlib.Core.Logic.{◌⊎◌, ⊎_elim}
use mathlib.Core.List.{List, [], ◌∷◌}
use Prim.Native.Nat.{ℕ, zero, suc, ◌+◌, ◌≤◌, ◌<◌}
use native.Mathlib.Nat.{eq-or-lt_of_le, add-zero}
use native.Mathlib.Omega.{arith}
use lib.Dec.{ltb}
use lib.ListN.{length, drop, get_or, length-drop}
use lib.Seq.{get_or-drop}
use borrow.Author.Tests.{ltb-true, ltb-false}
use Rattle.answers.specs.Answers.{Answer, accepted, refused}
use Rattle.tokens.specs.declared.TokenKind.{TokenKind}
use Rattle.tokens.specs.declared.Token.{Token}
use Rattle.tokens.specs.Tokens.{span, token_in}
use Rattle.first_token.specs.First.{first}
use Rattle.first_token.specs.Fitting.{Fitting}
use Rattle.first_token.specs.declared.Found.{Found}
use Rattle.first_token.specs.declared.Found.TheVariants as F
use Rattle.first_token.proofs.Blanks.{blank-byte}
use Rattle.first_token.proofs.Firsts.{first_fits}
use Rattle.lexer.specs.Lexing.{before, lex_from}
use Rattle.lexer.specs.Spans.{Blanks, Spans}
use Rattle.lexer.proofs.Steps.{blank, cut, lex_end, lone, next}

module _ (s : List ℕ) where
  more-blank : (i e : ℕ) → (get_or s i 0 ≡ 32) ⊎ (get_or s i 0 ≡ 9) → Blanks s (i + 1) e → Blanks s i e
  more-blank i e o l j a b =
      ⊎_elim (λ (z : i ≡ j). subst (λ (k : ℕ). (get_or s k 0 ≡ 32) ⊎ (get_or s k 0 ≡ 9)) z o) (λ z. l j (omega arith) b) (eq-or-lt_of_le a)

  after-blank : (i : ℕ) (ts : List Token) → (get_or s i 0 ≡ 32) ⊎ (get_or s i 0 ≡ 9) → Spans s (i + 1) ts → Spans s i ts
  after-blank i [] o l = more-blank i (length s) o l
  after-blank i (t ∷ ts) o l = (
    record {
      after = omega (arith, l.0.after);
      some = l.0.some;
      inside = l.0.inside;
      outside = more-blank i t.span.start o l.0.outside;
    },
    l.1,
  )

  ended : (i : ℕ) (ts : List Token) → length s ≤ i → lex_from (drop i s) 0 i ≡ accepted ts → Spans s i ts
  ended i [] h e = λ j a b. absurd (omega arith)
  ended i (t ∷ ts) h e =
      let g : accepted [] ≡ accepted (t ∷ ts) = sym (lex_end s i h) ∙ e in
      let z : ◌≡◌ {A = ℕ} 0 1 = cc in
      absurd (omega arith)

  -- a token before the others
  taken : (i m : ℕ) (k : TokenKind) (q : Answer (List Token)) (ts : List Token) → i + m ≤ length s → 0 < m
      → ((us : List Token) → q ≡ accepted us → Spans s (i + m) us) → before (token_in k (span i (i + m))) q ≡ accepted ts → Spans s i ts
  taken i m k (refused r p) ts h g rest e = let z : ◌≡◌ {A = ℕ} 0 1 = cc in absurd (omega arith)
  taken i m k (accepted us) ts h g rest e =
      let f : token_in k (span i (i + m)) ∷ us ≡ ts = cc in
      subst (λ (l : List Token). Spans s i l) f (
        record { after = omega arith; some = omega arith; inside = h; outside = λ j a b. absurd (omega arith) },
        rest us refl,
      )

  -- what the bytes from i on begin with, where the claim holds with n bytes fewer
  module _
      (n i : ℕ)
      (ts : List Token)
      (h : length s ≤ i + suc n)
      (e : lex_from (drop i s) 0 i ≡ accepted ts)
      (rest : (k : ℕ) (us : List Token) → length s ≤ k + n → lex_from (drop k s) 0 k ≡ accepted us → Spans s k us)
    where
      no_refusal : {r p : ℕ} → lex_from (drop i s) 0 i ≡ refused r p → ⊥
      no_refusal {r} {p} q = let w : refused r p ≡ accepted ts = sym q ∙ e in let z : ◌≡◌ {A = ℕ} 0 1 = cc in omega arith

      begins : i < length s → (f : Found) → f ≡ first (drop i s) → Fitting (length (drop i s)) f → Spans s i ts
      begins g F.Blank q l =
          let d : get_or (drop i s) 0 0 ≡ get_or s i 0 = get_or-drop i s 0 0 ∙ ap (λ (k : ℕ). get_or s k 0) (add-zero i) in
          after-blank i ts (subst (λ (b : ℕ). (b ≡ 32) ⊎ (b ≡ 9)) d (blank-byte (drop i s) q))
          (rest (i + 1) ts (omega arith) (sym (blank s i g q) ∙ e))
      begins g (F.Token k m) q l =
          taken i m k (lex_from (drop (i + m) s) 0 (i + m)) ts (omega (arith, l, length-drop i s)) l.0
          (λ us w. rest (i + m) us (omega (arith, l)) w)
          (sym (next s i g k m q l.0) ∙ e)
      begins g F.LoneQuote q l = absurd (no_refusal (lone s i g q))
      begins g F.CutCharacter q l = absurd (no_refusal (cut s i g q))

      here : (t : Bool) → ltb i (length s) ≡ t → Spans s i ts
      here true b =
          let g = ltb-true i (length s) b in
          begins g (first (drop i s)) refl (first_fits (drop i s) (omega (arith, length-drop i s)))
      here false b = ended i ts (ltb-false i (length s) b) e

  spans_from : (n i : ℕ) (ts : List Token) → length s ≤ i + n → lex_from (drop i s) 0 i ≡ accepted ts → Spans s i ts
  spans_from zero i ts h e = ended i ts (omega arith) e
  spans_from (suc n) i ts h e = here n i ts h e (λ k us g w. spans_from n k us g w) (ltb i (length s)) refl

  few-from : (i : ℕ) (ts : List Token) → i ≤ length s → Spans s i ts → i + length ts ≤ length s
  few-from i [] h l = omega arith
  few-from i (t ∷ ts) h l = omega (arith, few-from t.span.end ts l.0.inside l.1, l.0.after, l.0.some)

  pub spans : (ts : List Token) → lex_from s 0 0 ≡ accepted ts → Spans s 0 ts
  spans ts e = spans_from (length s) 0 ts (omega arith) e

  pub few : (ts : List Token) → lex_from s 0 0 ≡ accepted ts → length ts ≤ length s
  few ts e = omega (arith, few-from 0 ts (omega arith) (spans ts e))
