-- Of every text's tokens: each comes back from its word, and its raw text lies inside the text. Assumes nothing.
use mathlib.Core.Path.{◌≡◌, refl, sym, ◌∙◌, subst}
use mathlib.Core.Bool.{Bool, true, false, cond}
use mathlib.Core.List.{List, [], ◌∷◌}
use Prim.Native.Nat.{ℕ, zero, suc, ◌+◌, ◌-◌, ◌≤◌, ◌<◌}
use native.Mathlib.Omega.{arith}
use lib.Dec.{ltb}
use lib.ListN.{length, drop, length-drop}
use borrow.Author.Tests.{le-leb, ltb-true, ltb-false}
use Rattle.answers.specs.Answers.{Answer, accepted, refused}
use Rattle.tokens.specs.Kinds.{is_kind}
use Rattle.tokens.specs.declared.TokenKind.{TokenKind}
use Rattle.tokens.specs.declared.TokenKind.TheVariants as K
use Rattle.tokens.specs.declared.Token.{Token}
use Rattle.tokens.specs.Tokens.{is_within, raw_in, span, token_in}
use Rattle.tokens.proofs.Words.{InRange}
use Rattle.first_token.specs.First.{first}
use Rattle.first_token.specs.Fitting.{Fitting}
use Rattle.first_token.specs.declared.Found.{Found}
use Rattle.first_token.specs.declared.Found.TheVariants as F
use Rattle.first_token.proofs.Firsts.{first_fits}
use Rattle.first_token.proofs.Kept.{Kept, KeptFound, first_kept}
use Rattle.lexer.specs.Lexing.{before, lex_from}
use Rattle.lexer.proofs.Steps.{blank, cut, lex_end, lone, next}

-- a token of a text of n bytes: its word gives it back, and its raw text lies inside the text
pub record Whole (n : ℕ) (t : Token) : Type 0 where
  pub made : t ≡ token_in t.kind t.span
  pub range : InRange t.kind
  pub ends : t.span.end ≤ n
  pub starts : t.span.start ≤ t.span.end
  pub within : is_within n t.raw ≡ true

abbrev pub AllWhole : ℕ → List Token → Type 0
AllWhole n [] = Unit {0}
AllWhole n (t ∷ ts) = Whole n t × AllWhole n ts

raw-within : (n i e : ℕ) (k : TokenKind) → i ≤ e → e ≤ n → (is_kind k (K.String true) ≡ true → i + 2 ≤ e) → is_within n (raw_in k (span i e)) ≡ true
raw-within n i e k h g f = by (is_kind k (K.String true)) f
  where
    by : (t : Bool) → (t ≡ true → i + 2 ≤ e) → is_within n (cond t (span (i + 1) (e - 1)) (span i e)) ≡ true
    by true f = let l = f refl in simp (le-leb (i + 1) (e - 1) (omega arith), le-leb (e - 1) n (omega arith))
    by false f = simp (le-leb i e h, le-leb e n g)

whole : (n i m : ℕ) (k : TokenKind) → i + m ≤ n → Kept k m → Whole n (token_in k (span i (i + m)))
whole n i m k h g =
    record {
      made = refl;
      range = g.0;
      ends = h;
      starts = omega arith;
      within = raw-within n i (i + m) k (omega arith) h (λ e. omega (arith, g.1 e));
    }

module _ (s : List ℕ) where
  ended : (i : ℕ) (ts : List Token) → length s ≤ i → lex_from (drop i s) 0 i ≡ accepted ts → AllWhole (length s) ts
  ended i [] h e = tt
  ended i (t ∷ ts) h e =
      let g : accepted [] ≡ accepted (t ∷ ts) = sym (lex_end s i h) ∙ e in
      let z : ◌≡◌ {A = ℕ} 0 1 = cc in
      absurd (omega arith)

  -- a token before the others
  taken : (t : Token) (q : Answer (List Token)) (ts : List Token) → Whole (length s) t
      → ((us : List Token) → q ≡ accepted us → AllWhole (length s) us) → before t q ≡ accepted ts → AllWhole (length s) ts
  taken t (refused r p) ts h rest e = let z : ◌≡◌ {A = ℕ} 0 1 = cc in absurd (omega arith)
  taken t (accepted us) ts h rest e =
      let f : t ∷ us ≡ ts = cc in
      subst (λ (l : List Token). AllWhole (length s) l) f (h, rest us refl)

  -- what the bytes from i on begin with, where the claim holds with n bytes fewer
  module _
      (n i : ℕ)
      (ts : List Token)
      (h : length s ≤ i + suc n)
      (e : lex_from (drop i s) 0 i ≡ accepted ts)
      (rest : (k : ℕ) (us : List Token) → length s ≤ k + n → lex_from (drop k s) 0 k ≡ accepted us → AllWhole (length s) us)
    where
      no_refusal : {r p : ℕ} → lex_from (drop i s) 0 i ≡ refused r p → ⊥
      no_refusal {r} {p} q = let w : refused r p ≡ accepted ts = sym q ∙ e in let z : ◌≡◌ {A = ℕ} 0 1 = cc in omega arith

      begins : i < length s → (f : Found) → f ≡ first (drop i s) → Fitting (length (drop i s)) f → KeptFound f → AllWhole (length s) ts
      begins g F.Blank q l c = rest (i + 1) ts (omega arith) (sym (blank s i g q) ∙ e)
      begins g (F.Token k m) q l c =
          taken (token_in k (span i (i + m))) (lex_from (drop (i + m) s) 0 (i + m)) ts
          (whole (length s) i m k (omega (arith, l, length-drop i s)) c)
          (λ us w. rest (i + m) us (omega (arith, l)) w)
          (sym (next s i g k m q l.0) ∙ e)
      begins g F.LoneQuote q l c = absurd (no_refusal (lone s i g q))
      begins g F.CutCharacter q l c = absurd (no_refusal (cut s i g q))

      here : (t : Bool) → ltb i (length s) ≡ t → AllWhole (length s) ts
      here true b =
          let g = ltb-true i (length s) b in
          begins g (first (drop i s)) refl (first_fits (drop i s) (omega (arith, length-drop i s))) (first_kept (drop i s))
      here false b = ended i ts (ltb-false i (length s) b) e

  whole_from : (n i : ℕ) (ts : List Token) → length s ≤ i + n → lex_from (drop i s) 0 i ≡ accepted ts → AllWhole (length s) ts
  whole_from zero i ts h e = ended i ts (omega arith) e
  whole_from (suc n) i ts h e = here n i ts h e (λ k us g w. whole_from n k us g w) (ltb i (length s)) refl

  pub all_whole : (ts : List Token) → lex_from s 0 0 ≡ accepted ts → AllWhole (length s) ts
  all_whole ts e = whole_from (length s) 0 ts (omega arith) e
