-- What is in a tree, as words in the order of the text, and what holds of every token in it.
use Rattle.std.specs.Prelude.{List, [], ◌∷◌, ◌++◌, ℕ, suc, ◌+◌, length}
use Rattle.lexemes.specs.Lexemes.{Lexeme, place_of}
use Rattle.grammar.specs.Grammar.{Items, done, label, action, Blocks, no_blocks, block}
use Rattle.grammar.specs.Reading.{opened_of, opened_in}
use Rattle.entries.specs.Entries.{label_word}
use Rattle.events.specs.Log.{Holdable}

-- the word of a label, written at that position
abbrev pub label_with : ℕ → ℕ → ℕ → ℕ
label_with ℓ t p = label_word (record { level = ℓ; token = t; position = p })

abbrev mutual
  -- labels of level ℓ and of its blocks, of which the next is level m
  pub named_of : ℕ → ℕ → ℕ → Items → List ℕ
  named_of ℓ m p done = []
  named_of ℓ m p (label t x) = label_with ℓ (place_of t) p ∷ named_of ℓ m p x
  named_of ℓ m p (action n os bs x) = named_in m bs ++ named_of ℓ (m + length (opened_in 0 0 bs)) (suc p) x

  pub named_in : ℕ → Blocks → List ℕ
  named_in m no_blocks = []
  named_in m (block p x bs) = named_of m (suc m) 0 x ++ named_in (suc m + length (opened_of 0 x)) bs

-- ---- every token in a tree

abbrev pub All : (Lexeme → Type 0) → List Lexeme → Type 0
All P [] = Unit {0}
All P (t ∷ l) = P t × All P l

abbrev mutual
  pub AllOf : (Lexeme → Type 0) → Items → Type 0
  AllOf P done = Unit {0}
  AllOf P (label t x) = P t × AllOf P x
  AllOf P (action n os bs x) = All P os × (AllIn P bs × AllOf P x)

  pub AllIn : (Lexeme → Type 0) → Blocks → Type 0
  AllIn P no_blocks = Unit {0}
  AllIn P (block p x bs) = AllOf P x × AllIn P bs

-- a token that an event can hold
abbrev pub IsLow : Lexeme → Type 0
IsLow t = Holdable (place_of t)
