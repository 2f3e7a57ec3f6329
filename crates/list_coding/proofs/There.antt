-- The operand at a place of an action, by the words of its tables. Assumes nothing.
use mathlib.Core.Path.{◌≡◌, refl, sym, ap, subst, ◌∙◌}
use mathlib.Core.Bool.{Bool, true, false, cond}
use mathlib.Core.List.{List, map}
use Prim.Native.Nat.{ℕ, zero, suc, ◌+◌, ◌≤◌, ◌<◌}
use native.Mathlib.Omega.{arith}
use lib.Dec.{ltb}
use lib.ListN.{length, get_or, get_or-eq_default}
use borrow.Author.Tests.{ltb-true, ltb-false, lt-ltb, le-ltb, le-leb}
use Rattle.tokens.specs.declared.Token.{Token}
use Rattle.tokens.specs.Kinds.{kind_of}
use Rattle.tokens.specs.Tokens.{token_of, is_within}
use Rattle.values.specs.Values.{push_value}
use Rattle.classes.specs.Lexemes.{Sound}
use Rattle.entries.specs.declared.Action.{Action}
use Rattle.entries.specs.declared.Operand.{Operand}
use Rattle.entries.specs.Entries.{operand_of}
use Rattle.movies.specs.Movie.{null, ◌!◌}
use Rattle.movies.specs.Meaning.{meaning}
use Rattle.operand_coding.specs.Operands.{meaning_in, Held}
use Rattle.list_coding.specs.declared.operands.Operands.{Operands}
use Rattle.list_coding.specs.Operands.{operand_at, operands_at, word_at, values_of, values}

-- ---- the token of a word

module _ (s operands : List ℕ) (a : Action) (k : ℕ) where
  pub token-there : k < a.count → {o : Operand} → o ≡ operand_of (get_or operands (a.first + k) 0) → {t : Token} → t ≡ token_of (get_or s o.token 0)
      → t ≡ token_of (word_at s operands a k)
  unfolding word_at
  token-there h e f = f ∙ ap (λ (o : Operand). token_of (get_or s o.token 0)) e ∙ rw (lt-ltb k a.count h)

  pub no_token : a.count ≤ k → {t : Token} → t ≡ token_of 0 → t ≡ token_of (word_at s operands a k)
  unfolding word_at
  no_token h e = e ∙ rw (le-ltb k a.count h)

-- ---- its meaning

module _ (text s operands : List ℕ) where
  inside : (i n k : ℕ) → k < n → get_or (map meaning (operands_at text s operands i n)) k null ≡ meaning (operand_at text s operands (i + k))
  inside i zero k h = absurd (omega arith)
  inside i (suc n) zero h = ap (λ j. meaning (operand_at text s operands j)) (omega arith)
  inside i (suc n) (suc k) h = inside (suc i) n k (omega arith) ∙ ap (λ j. meaning (operand_at text s operands j)) (omega arith)

  many : (i n : ℕ) → length (map meaning (operands_at text s operands i n)) ≡ n
  many i zero = refl
  many i (suc n) = ap suc (many (suc i) n)

  pub count-is : (a : Action) → length (values_of text s operands a) ≡ a.count
  unfolding values_of
  count-is a = many a.first a.count

  means_nothing : meaning_in text (token_of 0) ≡ null
  unfolding token_of kind_of push_value
  means_nothing = refl

  nothing-within : is_within (length text) (token_of 0).raw ≡ true
  unfolding token_of kind_of
  nothing-within = le-leb 0 (length text) (omega arith)

  module _ (f : Sound text s) where
    word_within : (i : ℕ) → is_within (length text) (token_of (get_or s i 0)).raw ≡ true
    word_within i = by (ltb i (length s)) refl
      where
        by : (b : Bool) → ltb i (length s) ≡ b → is_within (length text) (token_of (get_or s i 0)).raw ≡ true
        by true e = f.within i (ltb-true i (length s) e)
        by false e = ap (λ w. is_within (length text) (token_of w).raw) (get_or-eq_default s 0 (ltb-false i (length s) e)) ∙ nothing-within

    module _ (a : Action) (k : ℕ) where
      word_held : is_within (length text) (token_of (word_at s operands a k)).raw ≡ true
      unfolding word_at
      word_held = by (ltb k a.count)
        where
          by : (b : Bool) → is_within (length text) (token_of (cond b (get_or s (operand_of (get_or operands (a.first + k) 0)).token 0) 0)).raw ≡ true
          by true = word_within (operand_of (get_or operands (a.first + k) 0)).token
          by false = nothing-within

      word_means : meaning_in text (token_of (word_at s operands a k)) ≡ values_of text s operands a ! k
      unfolding word_at values_of
      word_means = by (ltb k a.count) refl
        where
          by : (b : Bool) → ltb k a.count ≡ b
              → meaning_in text (token_of (cond b (get_or s (operand_of (get_or operands (a.first + k) 0)).token 0) 0)) ≡ get_or (map meaning (operands_at text s operands a.first a.count)) k null
          by true e = sym (inside a.first a.count k (ltb-true k a.count e))
          by false e = means_nothing ∙ sym (get_or-eq_default (map meaning (operands_at text s operands a.first a.count)) null (omega (arith, many a.first a.count, ltb-false k a.count e)))

      module _ {t : Token} (e : t ≡ token_of (word_at s operands a k)) where
        pub held : Held text t
        held = subst (Held text) (sym e) (record { bytes = f.bytes; within = word_held })

        pub means : meaning_in text t ≡ values_of text s operands a ! k
        means = ap (meaning_in text) e ∙ word_means

-- ---- by the struct of the tables

pub count_of : (o : Operands) → length (values o) ≡ o.action.count
count_of o = count-is o.text.now o.tokens.now o.operands.now o.action

module _ (o : Operands) (k : ℕ) {t : Token} (e : t ≡ token_of (word_at o.tokens.now o.operands.now o.action k)) where
  pub held_at : Held o.text.now t
  held_at = held o.text.now o.tokens.now o.operands.now o.sound o.action k e

  pub means_at : meaning_in o.text.now t ≡ values o ! k
  means_at = means o.text.now o.tokens.now o.operands.now o.sound o.action k e
