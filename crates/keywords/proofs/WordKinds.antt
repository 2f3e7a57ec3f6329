-- A word's kind by what was looked up. Assumes nothing.
use mathlib.Core.Path.{◌≡◌, ◌∙◌, refl}
use mathlib.Core.List.{List}
use mathlib.Core.Bool.{false}
use Prim.Native.Nat.{ℕ, ◌<◌}
use lib.Dec.{ltb}
use lib.ListN.{get_or, get_or-eq_default}
use borrow.Author.Tests.{lt-ltb, le-ltb}
use Rattle.std.specs.Prelude.{Option, Some, None}
use Rattle.laws.proofs.Tabulate.{agree}
use Rattle.actions.specs.Numbers.{action_at}
use Rattle.tokens.specs.declared.TokenKind.{TokenKind}
use Rattle.tokens.specs.declared.TokenKind.TheVariants as K
use Rattle.words.specs.Spellings.{bytes, spellings}
use Rattle.words.specs.Words.{index_in, find_in}
use Rattle.words.proofs.Words.{in-found, in-missing}
use Rattle.keywords.specs.Keywords.{keyword_kinds, keyword_words, named, number_after, word_kind}

module _ (w : List ℕ) where
  pub action : {i : ℕ} → Some i ≡ find_in w spellings → K.ActionName (action_at i) ≡ named w
  unfolding named spellings
  action {i} e = let f = in-found w spellings e in simp (← f.0, lt-ltb i 100 f.1)

  pub keyword_below : {j : ℕ} → Some j ≡ find_in w keyword_words → j < 6
  unfolding keyword_words
  keyword_below e = (in-found w keyword_words e).1

  module _ (n : None ≡ find_in w spellings) where
    no_action : ltb (index_in w spellings) 100 ≡ false
    unfolding spellings
    no_action = le-ltb (index_in w spellings) 100 (in-missing w spellings n)

    pub keyword : {j : ℕ} → Some j ≡ find_in w keyword_words → get_or keyword_kinds j K.Newline ≡ named w
    unfolding named keyword_words
    keyword {j} e =
        let f = in-found w keyword_words e in
        agree (λ k. get_or keyword_kinds k K.Newline) (λ k. get_or keyword_kinds k K.Identifier) 6 j refl f.1
        ∙ simp (no_action, ← f.0)

    pub identifier : None ≡ find_in w keyword_words → K.Identifier ≡ named w
    unfolding named keyword_words
    identifier e = simp (no_action, get_or-eq_default keyword_kinds K.Identifier (in-missing w keyword_words e))

module _ (w : List ℕ) (x : Option ℕ) (ex : x ≡ number_after (bytes "constant") 65535 w) where
  pub constant : (n : ℕ) → x ≡ Some n → K.Constant n ≡ word_kind w
  unfolding word_kind
  constant n e = simp (← ex, e)

  module _ (nx : x ≡ None) (y : Option ℕ) (ey : y ≡ number_after (bytes "register") 255 w) where
    pub register : (n : ℕ) → y ≡ Some n → K.Register n ≡ word_kind w
    unfolding word_kind
    register n e = simp (← ex, nx, ← ey, e)

    pub name : (k : TokenKind) → y ≡ None → k ≡ named w → k ≡ word_kind w
    unfolding word_kind
    name k e f = f ∙ simp (← ex, nx, ← ey, e)
