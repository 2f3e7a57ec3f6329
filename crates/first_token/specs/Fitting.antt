-- That the first token ends within its text. Only inner functions of `lexer` cite it.
use Rattle.std.specs.Prelude.{ℕ, ◌≤◌, ◌<◌}
use Rattle.first_token.specs.declared.Found.{Found}
use Rattle.first_token.specs.declared.Found.TheVariants as F

-- a token is not empty and ends within the n bytes that are left
abbrev pub Fitting : ℕ → Found → Type 0
Fitting n F.Blank = Unit {0}
Fitting n (F.Token k e) = (0 < e) × (e ≤ n)
Fitting n F.LoneQuote = Unit {0}
Fitting n F.CutCharacter = Unit {0}
