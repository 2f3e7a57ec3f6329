-- An enum whose variants hold nothing: its values listed in order, and each found at its variant's place. Assumes nothing.
use mathlib.Core.Path.{◌≡◌, refl, ◌∙◌}
use mathlib.Core.Logic.{inl, inr}
use mathlib.Core.List.{List, [], ◌∷◌}
use denote.Enum.Declared.{Choice, Record, declared, intoss, rowss, tag_of}
use denote.Enum.Enum.{tag}
use denote.Struct.Field.{Field}
use lib.ListN.{get_or}

-- no variant has a field
abbrev pub Bare : List (List Field) → Type 0
Bare [] = Unit {0}
Bare ([] ∷ Fss) = Bare Fss
Bare ((F ∷ Fs) ∷ Fss) = ⊥

module _ {D : Type 0} where
  -- what a function makes of each variant, in order
  abbrev pub listed : (Fss : List (List Field)) → (Choice Fss → D) → List D
  listed [] f = []
  listed ([] ∷ Fss) f = f (inl tt) ∷ listed Fss (λ c. f (inr c))
  listed ((F ∷ Fs) ∷ Fss) f = []

  at : (Fss : List (List Field)) (f : Choice Fss → D) (d : D) (c : Choice Fss) → Bare Fss
      → get_or (listed Fss f) (tag (rowss Fss) (intoss Fss c)) d ≡ f c
  at [] f d c b = absurd c
  at ([] ∷ Fss) f d (inl tt) b = refl
  at ([] ∷ Fss) f d (inr c) b = at Fss (λ x. f (inr x)) d c b
  at ((F ∷ Fs) ∷ Fss) f d c b = absurd b

pub found : (N : Record) (d a : N.D) → Bare N.parts → get_or (listed N.parts N.make) (tag_of (declared N) a) d ≡ a
found N d a b = at N.parts N.make d (N.as_values a) b ∙ N.eta a
