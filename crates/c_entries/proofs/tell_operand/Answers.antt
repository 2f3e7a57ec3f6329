-- `c_entries::tell_operand` meets its contract. Assumes nothing.
use mathlib.Core.Path.{◌≡◌, refl, ap, ◌∙◌}
use mathlib.Core.Bool.{Bool, true, false}
use mathlib.Core.List.{[], ◌∷◌}
use Prim.Native.Nat.{ℕ}
use lib.Seq.{sets}
use mir.Val.{bool_byte}
use Rattle.c_entries.specs.Entries.{one_if}
use Rattle.c_entries.proofs.tell_operand.Goals as goal

byte_is : (b : Bool) → bool_byte b ≡ one_if b
byte_is true = refl
byte_is false = refl

pub returns : goal.returns
returns c =
    let a = c.args in
    ap (λ (n : ℕ). sets a.out.now 0 (a.operand.action ∷ a.operand.token ∷ n ∷ [])) (c.from.ensures ∙ byte_is a.operand.unclosed)
