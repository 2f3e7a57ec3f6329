-- The arm of a match on a kind that names other kinds. Assumes nothing.
use mathlib.Core.Path.{◌≡◌, refl, sym, subst, ◌∙◌}
use mathlib.Core.Logic.{inl, inr}
use mathlib.Core.Bool.{Bool, true, false, ◌||◌}
use mathlib.Core.List.{List, [], ◌∷◌}
use Prim.Native.Nat.{ℕ}
use denote.Enum.Declared.{tag_of}
use lib.Dec.{T, eqb, eqb_refl}
use mir.Val.{has_key}
use types.Run.{OneOf}
use borrow.Author.Tests.{eqb-true}
use Rattle.tokens.specs.contracts.TokenKind.{the_type}
use Rattle.tokens.specs.declared.TokenKind.{TokenKind}
use Rattle.tokens.specs.declared.TokenKind.TheVariants as K
use Rattle.tokens.specs.Kinds.{code_of, is_kind}

or_left : (a b : Bool) → T a → T (a || b)
or_left true b h = tt
or_left false b h = absurd h

or_right : (a b : Bool) → T b → T (a || b)
or_right true b h = tt
or_right false b h = h

-- a key of an arm is found among its keys
pub key_there : (ks : List ℕ) (x : ℕ) → OneOf ks x → T (has_key ks x)
key_there [] x h = absurd h
key_there (k ∷ []) x h = subst (λ (y : ℕ). T (has_key (k ∷ []) y)) (sym h) (or_left (eqb k k) _ (eqb_refl k))
key_there (k ∷ j ∷ ks) x (inl h) = subst (λ (y : ℕ). T (has_key (k ∷ j ∷ ks) y)) (sym h) (or_left (eqb k k) _ (eqb_refl k))
key_there (k ∷ j ∷ ks) x (inr h) = or_right (eqb k x) _ (key_there (j ∷ ks) x h)

tag_place : (k : TokenKind) → tag_of the_type k ≡ (code_of k).place
tag_place K.Newline = refl
tag_place (K.String c) = refl
tag_place K.Float = refl
tag_place K.Integer = refl
tag_place (K.Register n) = refl
tag_place (K.Constant n) = refl
tag_place (K.ActionName a) = refl
tag_place K.Identifier = refl
tag_place K.Colon = refl
tag_place K.Comma = refl
tag_place K.OpenBrace = refl
tag_place K.CloseBrace = refl
tag_place K.True = refl
tag_place K.False = refl
tag_place K.Null = refl
tag_place K.Undefined = refl
tag_place K.Catch = refl
tag_place K.Finally = refl
tag_place K.Unknown = refl

-- a kind that is not among an arm's is not the kind matched on
pub other_kind : (ks : List ℕ) (k l : TokenKind) → OneOf ks (tag_of the_type k) → has_key ks (code_of l).place ≡ false → false ≡ is_kind k l
other_kind ks k l h e = by (is_kind k l) refl
  where
    by : (t : Bool) → is_kind k l ≡ t → false ≡ t
    by false p = refl
    by true p =
        absurd
        (subst T e
        (subst (λ (x : ℕ). T (has_key ks x)) (tag_place k ∙ eqb-true (code_of k).place (code_of l).place p) (key_there ks (tag_of the_type k) h)))
