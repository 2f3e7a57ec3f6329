-- `c_tokens::tell_place` meets its contract. Assumes nothing.
use borrow.Author.Rules.{rules}
use mathlib.Core.Path.{ap, ◌∙◌}
use mathlib.Core.List.{[], ◌∷◌}
use Prim.Native.Nat.{ℕ}
use lib.Seq.{sets}
use Rattle.places.specs.Places.{column_at}
use Rattle.c_tokens.proofs.tell_place.Goals as goal

pub returns : goal.returns
returns c =
    let a = c.args in
    let line = c.line_at-line in
    ap (λ (n : ℕ). sets a.out.now 0 (line.result ∷ n ∷ [])) c.column_at-column.ensures
    ∙ ap (λ (n : ℕ). sets a.out.now 0 (n ∷ column_at a.text.now a.at ∷ [])) line.ensures
