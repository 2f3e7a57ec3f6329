-- All tokens of a text, and refusals 1 to 5.
use Rattle.std.specs.Prelude.{◌≡◌, cond, List, [], ◌∷◌, ◌++◌, map, ℕ, zero, suc, ◌+◌, ◌-◌, ltb, length, drop, Result, Ok, Err}
use Rattle.answers.specs.Answers.{Answer, accepted, refused, refusal}
use Rattle.answers.specs.declared.Refusal.{Refusal}
use Rattle.tokens.specs.declared.Token.{Token}
use Rattle.tokens.specs.Tokens.{span, token_in, word_of}
use Rattle.utf8.specs.Utf8.{valid_up_to}
use Rattle.first_token.specs.First.{first}
use Rattle.first_token.specs.declared.Found.{Found}
use Rattle.first_token.specs.declared.Found.TheVariants as F

-- one token before the others
abbrev pub before : Token → Answer (List Token) → Answer (List Token)
before t (accepted l) = accepted (t ∷ l)
before t (refused n p) = refused n p

-- what stands at byte i, and then `rest`, given how many further bytes this takes
abbrev pub then : Found → ℕ → (ℕ → Answer (List Token)) → Answer (List Token)
then F.Blank i rest = rest 0
then (F.Token k n) i rest = before (token_in k (span i (i + n))) (rest (n - 1))
then F.LoneQuote i rest = refused 3 i
then F.CutCharacter i rest = refused 4 i

-- the tokens of what is left of a text from byte i on, where the first k bytes end a token already begun
unfoldable pub lex_from : List ℕ → ℕ → ℕ → Answer (List Token)
lex_from [] k i = accepted []
lex_from (b ∷ s) zero i = then (first (b ∷ s)) i (λ n. lex_from s n (suc i))
lex_from (b ∷ s) (suc k) i = lex_from s k (suc i)

-- row 5: a table with fewer places than tokens
abbrev pub fitting : ℕ → Answer (List Token) → Answer (List Token)
fitting room (accepted l) = cond (ltb room (length l)) (refused 5 (length l)) (accepted l)
fitting room (refused n p) = refused n p

-- rows 1 to 5, top down, for a table with that many places
unfoldable pub lex_text : List ℕ → ℕ → Answer (List Token)
lex_text s room =
    cond (ltb 65536 (length s)) (refused 1 0)
    (cond (ltb (valid_up_to s) (length s)) (refused 2 (valid_up_to s)) (fitting room (lex_from s 0 0)))

abbrev pub counted : Answer (List Token) → Answer ℕ
counted (accepted l) = accepted (length l)
counted (refused n p) = refused n p

-- the table afterwards: acceptance changes only the entries it fills, a refusal none
abbrev pub table_after : Answer (List Token) → List ℕ → List ℕ
table_after (accepted l) x = map word_of l ++ drop (length l) x
table_after (refused n p) x = x

abbrev pub answer : Result ℕ Refusal → Answer ℕ
answer (Ok n) = accepted n
answer (Err r) = refusal r

-- the answer r and the table y after lexing with the table x, where q is what is right
pub record Handed (q : Answer (List Token)) (x y : List ℕ) (r : Result ℕ Refusal) : Type 0 where
  pub answered : answer r ≡ counted q
  pub table : y ≡ table_after q x

abbrev pub Lexes : List ℕ → List ℕ → List ℕ → Result ℕ Refusal → Type 0
Lexes s x y r = Handed (lex_text s (length x)) x y r
