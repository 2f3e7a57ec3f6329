-- The tokens that lexing hands over, got back from their words: as the grammar numbers them. Assumes nothing.
use mathlib.Core.Path.{◌≡◌, refl, sym, ap, ◌∙◌}
use mathlib.Core.Bool.{true}
use mathlib.Core.List.{List, [], ◌∷◌, ◌++◌, map, append_assoc}
use Prim.Native.Nat.{ℕ, zero, suc, ◌≤◌, ◌<◌}
use native.Mathlib.Omega.{arith}
use lib.ListN.{length, get_or, length-append, length-map}
use lib.Seq.{get_or-append_seam}
use Rattle.tokens.specs.declared.Token.{Token}
use Rattle.tokens.specs.Tokens.{is_within, raw_text, token_of, word_of}
use Rattle.tokens.proofs.Words.{round_trip}
use Rattle.lexer.proofs.Sound.{Whole, AllWhole}
use Rattle.lexemes.specs.Lexemes.{lexeme, numbered}
use Rattle.classes.specs.Lexemes.{lexeme_of, lexemes, lexemes_from, Sound}
use Rattle.reading.specs.Trees.{All}
use Rattle.reading.specs.Told.{Of}

module _ (n : ℕ) (small : n ≤ 65536) where
  token_back : (t : Token) → Whole n t → token_of (word_of t) ≡ t
  token_back t h =
      round_trip t.kind t.span h.range (omega (arith, h.starts, h.ends)) (omega (arith, h.ends)) ∙ sym h.made

  words-within : (ts : List Token) → AllWhole n ts → (i : ℕ) → i < length (map word_of ts) → is_within n (token_of (get_or (map word_of ts) i 0)).raw ≡ true
  words-within [] h i g = absurd (omega arith)
  words-within (t ∷ ts) h zero g = ap (λ (u : Token). is_within n u.raw) (token_back t h.0) ∙ h.0.within
  words-within (t ∷ ts) h (suc i) g = words-within ts h.1 i (omega arith)

pub tokens_back : (ts : List Token) (n : ℕ) → n ≤ 65536 → AllWhole n ts → map token_of (map word_of ts) ≡ ts
tokens_back [] n small h = refl
tokens_back (t ∷ ts) n small h = λ i. token_back n small t h.0 i ∷ tokens_back ts n small h.1 i

module _ (text : List ℕ) where
  module _ (small : length text ≤ 65536) where
    numbered-from : (i : ℕ) (ts : List Token) → AllWhole (length text) ts → lexemes_from i text (map word_of ts) ≡ numbered i text ts
    numbered-from i [] h = refl
    numbered-from i (t ∷ ts) h =
        λ j. let u = token_back (length text) small t h.0 j in lexeme i u.kind (raw_text text u) ∷ numbered-from (suc i) ts h.1 j

  pub lexemes-numbered : (ts : List Token) → length text ≤ 65536 → AllWhole (length text) ts → lexemes text (map word_of ts) ≡ numbered 0 text ts
  unfolding lexemes
  lexemes-numbered ts small h = numbered-from small 0 ts h

  pub words-sound : (ts : List Token) → length text ≤ 65536 → length ts ≤ 65536 → AllWhole (length text) ts → Sound text (map word_of ts)
  words-sound ts small few h =
      record { bytes = small; short = omega (arith, length-map ts word_of); within = words-within (length text) small ts h }

module _ (text s : List ℕ) where
  -- those of r, behind p
  of-from : (i : ℕ) (p r : List ℕ) → length p ≡ i → p ++ r ≡ s → All (Of text s) (lexemes_from i text r)
  of-from i p [] n e = tt
  of-from i p (w ∷ r) n e =
      let at : w ≡ get_or s i 0 = sym (get_or-append_seam p w r 0) ∙ ap (λ (l : List ℕ). get_or l (length p) 0) e ∙ ap (λ (k : ℕ). get_or s k 0) n in
      let far : i < length s = omega (arith, ap length e, length-append p (w ∷ r), n) in (
        (far, ap (lexeme_of text i) at),
        of-from (suc i) (p ++ (w ∷ [])) r (length-append p (w ∷ []) ∙ omega (arith, n)) (append_assoc p (w ∷ []) r ∙ e),
      )

  pub all_of : All (Of text s) (lexemes text s)
  unfolding lexemes
  all_of = of-from 0 [] s refl refl
