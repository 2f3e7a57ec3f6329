-- A token comes back from its table word. Assumes nothing.
use mathlib.Core.Path.{◌≡◌, refl, ap, sym, ◌∙◌}
use mathlib.Core.Bool.{Bool, true, false, cond}
use Prim.Native.Nat.{ℕ, ◌+◌, ◌-◌, ◌/◌, ◌%◌, ◌<◌, ◌≤◌}
use native.Mathlib.Omega.{arith}
use lib.Dec.{eqb, ltb}
use lib.ListN.{get_or-eq_default}
use borrow.Author.Tests.{ltb-true, ltb-false, ne_eqb}
use Rattle.laws.proofs.Tabulate.{agree}
use Rattle.actions.proofs.Numbers.{action-number}
use Rattle.tokens.specs.declared.TokenKind.{TokenKind}
use Rattle.tokens.specs.declared.TokenKind.TheVariants as K
use Rattle.tokens.specs.declared.Span.{Span}
use Rattle.tokens.specs.Kinds.{◌carrying◌, code_of, is_kind, kinds, kind_in, kind_number, kind_of}
use Rattle.tokens.specs.Tokens.{span, token_in, token_of, word_of}

-- what a kind carries is within its type: a u8 or a u16
abbrev pub InRange : TokenKind → Type 0
InRange k = (code_of k).carried < cond (is_kind k (K.Register 0)) 256 65536

code_back : (k : TokenKind) → InRange k → kind_in (code_of k) ≡ k
code_back K.Newline h = refl
code_back (K.String true) h = refl
code_back (K.String false) h = refl
code_back K.Float h = refl
code_back K.Integer h = refl
code_back (K.Register n) h = ap K.Register (omega arith)
code_back (K.Constant n) h = refl
code_back (K.ActionName a) h = ap K.ActionName (action-number a)
code_back K.Identifier h = refl
code_back K.Colon h = refl
code_back K.Comma h = refl
code_back K.OpenBrace h = refl
code_back K.CloseBrace h = refl
code_back K.True h = refl
code_back K.False h = refl
code_back K.Null h = refl
code_back K.Undefined h = refl
code_back K.Catch h = refl
code_back K.Finally h = refl
code_back K.Unknown h = refl

carried_below : (k : TokenKind) → InRange k → (code_of k).carried < 65536
carried_below k h = by (is_kind k (K.Register 0)) h
  where
    by : (t : Bool) → (code_of k).carried < cond t 256 65536 → (code_of k).carried < 65536
    by true h = omega arith
    by false h = h

pub kind_back : (k : TokenKind) → InRange k → kind_of (kind_number k) ≡ k
unfolding kind_of
kind_back k h =
    let l = carried_below k h in
    let p : kind_number k / 65536 ≡ (code_of k).place = omega arith in
    let c : kind_number k % 65536 ≡ (code_of k).carried = omega arith in
    simp (p, c) (code_back k h)

-- every token of a kind and a span within 65,536 bytes
pub round_trip : (k : TokenKind) (s : Span) → InRange k → s.start ≤ 65536 → s.end ≤ 65536 → token_of (word_of (token_in k s)) ≡ token_in k s
unfolding token_of
round_trip k s h a e =
    let w = word_of (token_in k s) in
    let n : w / 1099511627776 ≡ kind_number k = omega arith in
    let f : w / 1048576 % 1048576 ≡ s.start = omega arith in
    let t : w % 1048576 ≡ s.end = omega arith in
    simp (n, f, t, kind_back k h)

-- a string's number is told by its place
pub is-string : (n : ℕ) → is_kind (kind_of n) (K.String true) ≡ eqb (n / 65536) 1
unfolding kind_of
is-string n = by (ltb (n / 65536) 18) refl
  where
    by : (t : Bool) → ltb (n / 65536) 18 ≡ t → is_kind (kind_in (n / 65536 carrying n % 65536)) (K.String true) ≡ eqb (n / 65536) 1
    by true e =
        agree (λ p. is_kind (kind_in (p carrying n % 65536)) (K.String true)) (λ p. eqb p 1) 18 (n / 65536) refl (ltb-true _ _ e)
    by false e =
        let h = ltb-false (n / 65536) 18 e in
        ap (λ k. is_kind k (K.String true)) (get_or-eq_default (kinds (n % 65536)) K.Unknown h) ∙ sym (ne_eqb (n / 65536) 1 (λ q. omega arith))

-- the token of a word, from its kind and its raw bounds
pub token-is : (w : ℕ) (k : TokenKind) (r : Span) → k ≡ kind_of (w / 1099511627776)
    → r ≡ cond (eqb (w / 1099511627776 / 65536) 1) (span (w / 1048576 % 1048576 + 1) (w % 1048576 - 1)) (span (w / 1048576 % 1048576) (w % 1048576))
    → record { kind = k; span = span (w / 1048576 % 1048576) (w % 1048576); raw = r } ≡ token_of w
unfolding token_of
token-is w k r e f = simp (e, f, is-string)
