-- `c_tokens::put_word` meets its contract. Assumes nothing.
use borrow.Author.Rules.{rules}
use mathlib.Core.Path.{◌≡◌, refl, sym, ap, ◌∙◌}
use mathlib.Core.List.{List, ◌++◌}
use Prim.Native.Nat.{ℕ}
use lib.ListN.{length, take, drop}
use lib.Seq.{take-length}
use native.Mathlib.Omega.{arith}
use Rattle.c_tokens.proofs.Names.{kept, put}
use Rattle.c_tokens.proofs.put_word.Goals as goal

pub returns-then-name-word : goal.returns-then-name-word
returns-then-name-word c =
    let a = c.args in
    record { value = refl; name_after = kept a.word.now a.name.now (omega arith) }

pub returns : goal.returns
returns c =
    let w = c.args.word.now in
    let old = c.args.name.now in
    let whole : c.copy_from_slice.new.self ≡ take (length w) w = c.copy_from_slice.ensures.after ∙ sym (take-length w) in
    record { value = refl; name_after = ap (λ (l : List ℕ). l ++ drop (length w) old) whole ∙ put w old (omega arith) }
