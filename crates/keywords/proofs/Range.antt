-- A word is no string, and what its kind carries is within its type. Assumes nothing.
use mathlib.Core.Path.{◌≡◌, refl}
use mathlib.Core.Bool.{Bool, true, false, cond}
use mathlib.Core.List.{List}
use Prim.Native.Nat.{ℕ, zero, suc, ◌≤◌}
use native.Mathlib.Omega.{arith}
use lib.Dec.{ltb}
use lib.ListN.{get_or}
use Rattle.std.specs.Prelude.{Option, Some, None}
use Rattle.names.specs.declared.ActionName.{ActionName}
use Rattle.actions.specs.Numbers.{action_at}
use Rattle.actions.proofs.Numbers.{number_below}
use Rattle.tokens.specs.Kinds.{is_kind}
use Rattle.tokens.specs.declared.TokenKind.{TokenKind}
use Rattle.tokens.specs.declared.TokenKind.TheVariants as K
use Rattle.tokens.proofs.Words.{InRange}
use Rattle.words.specs.Spellings.{bytes, spellings}
use Rattle.words.specs.Words.{index_in}
use Rattle.keywords.specs.Keywords.{constant_or, keyword_kinds, keyword_words, named, number_after, register_or, word_kind}
use Rattle.keywords.proofs.Prefixes.{small}

-- no string, and what it carries is within its type
abbrev pub Plain : TokenKind → Type 0
Plain k = InRange k × (is_kind k (K.String true) ≡ false)

constant-plain : (x : Option ℕ) (k : TokenKind) → ((n : ℕ) → x ≡ Some n → n ≤ 65535) → Plain k → Plain (constant_or x k)
constant-plain (Some n) k f h = (omega (arith, f n refl), refl)
constant-plain None k f h = h

register-plain : (x : Option ℕ) (k : TokenKind) → ((n : ℕ) → x ≡ Some n → n ≤ 255) → Plain k → Plain (register_or x k)
register-plain (Some n) k f h = (omega (arith, f n refl), refl)
register-plain None k f h = h

action-plain : (a : ActionName) → Plain (K.ActionName a)
action-plain a = (omega (arith, number_below a), refl)

keyword_plain : (j : ℕ) → Plain (get_or keyword_kinds j K.Identifier)
keyword_plain zero = (omega arith, refl)
keyword_plain (suc zero) = (omega arith, refl)
keyword_plain (suc (suc zero)) = (omega arith, refl)
keyword_plain (suc (suc (suc zero))) = (omega arith, refl)
keyword_plain (suc (suc (suc (suc zero)))) = (omega arith, refl)
keyword_plain (suc (suc (suc (suc (suc zero))))) = (omega arith, refl)
keyword_plain (suc (suc (suc (suc (suc (suc j)))))) = (omega arith, refl)

named-plain : (w : List ℕ) → Plain (named w)
unfolding named
named-plain w = by (ltb (index_in w spellings) 100)
  where
    by : (t : Bool) → Plain (cond t (K.ActionName (action_at (index_in w spellings))) (get_or keyword_kinds (index_in w keyword_words) K.Identifier))
    by true = action-plain (action_at (index_in w spellings))
    by false = keyword_plain (index_in w keyword_words)

pub word_plain : (w : List ℕ) → Plain (word_kind w)
unfolding word_kind
word_plain w =
    constant-plain (number_after (bytes "constant") 65535 w) _ (small (bytes "constant") 65535 w)
    (register-plain (number_after (bytes "register") 255 w) _ (small (bytes "register") 255 w) (named-plain w))
