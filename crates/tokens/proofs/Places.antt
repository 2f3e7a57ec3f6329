-- The place of a kind, told of a table word. Assumes nothing.
use mathlib.Core.Path.{◌≡◌, refl, ap, sym, ◌∙◌}
use mathlib.Core.Bool.{Bool, true, false, cond}
use Prim.Native.Nat.{ℕ, ◌/◌, ◌%◌, ◌≤◌, ◌<◌}
use native.Mathlib.Omega.{arith}
use lib.Dec.{ltb}
use lib.ListN.{get_or-eq_default}
use borrow.Author.Tests.{ltb-true, ltb-false, lt-ltb, le-ltb}
use Rattle.laws.proofs.Tabulate.{agree}
use Rattle.tokens.specs.declared.TokenKind.TheVariants as K
use Rattle.tokens.specs.Kinds.{code_of, kind_in, kind_of, kinds, ◌carrying◌}
use Rattle.tokens.specs.Tokens.{token_of}

place_in_lem : (p c : ℕ) → (code_of (kind_in (p carrying c))).place ≡ cond (ltb p 18) p 18
place_in_lem p c = by (ltb p 18) refl
  where
    by : (t : Bool) → ltb p 18 ≡ t → (code_of (kind_in (p carrying c))).place ≡ cond t p 18
    by true e = agree (λ q. (code_of (kind_in (q carrying c))).place) (λ q. q) 18 p refl (ltb-true p 18 e)
    by false e = ap (λ k. (code_of k).place) (get_or-eq_default (kinds c) K.Unknown (ltb-false p 18 e))

module _ (w : ℕ) where
  word_place : (code_of (token_of w).kind).place ≡ cond (ltb (w / 72057594037927936) 18) (w / 72057594037927936) 18
  unfolding token_of kind_of
  word_place =
      let e : w / 1099511627776 / 65536 ≡ w / 72057594037927936 = omega arith in
      place_in_lem (w / 1099511627776 / 65536) (w / 1099511627776 % 65536) ∙ ap (λ (p : ℕ). cond (ltb p 18) p 18) e

  pub known : w / 72057594037927936 < 18 → w / 72057594037927936 ≡ (code_of (token_of w).kind).place
  known h = sym (word_place ∙ rw (lt-ltb (w / 72057594037927936) 18 h))

  pub unknown : 18 ≤ w / 72057594037927936 → 18 ≡ (code_of (token_of w).kind).place
  unknown h = sym (word_place ∙ rw (le-ltb (w / 72057594037927936) 18 h))
