-- `c_tokens::tell_token` meets its contract. Assumes nothing.
use borrow.Author.Rules.{rules}
use mathlib.Core.Path.{ap}
use mathlib.Core.List.{[], ◌∷◌}
use Prim.Native.Nat.{ℕ}
use lib.Seq.{sets}
use Rattle.c_tokens.proofs.tell_token.Goals as goal

pub returns : goal.returns
returns c =
    let a = c.args in
    let t = a.token in
    ap (λ (k : ℕ). sets a.out.now 0 (k ∷ t.span.start ∷ t.span.end ∷ t.raw.start ∷ t.raw.end ∷ [])) c.kind_number.ensures.0
