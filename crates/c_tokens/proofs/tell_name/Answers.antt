-- `c_tokens::tell_name` lends the letters of all names, and meets its contract. Assumes nothing.
use borrow.Author.Rules.{rules}
use mathlib.Core.Path.{refl, ap, ◌∙◌}
use mathlib.Core.List.{List, flatten}
use Prim.Native.Nat.{ℕ}
use lib.ListN.{length}
use Rattle.words.specs.Spellings.{all_letters, bytes, spellings}
use Rattle.c_tokens.specs.Places.{word_after}
use Rattle.c_tokens.proofs.tell_name.Goals as goal

pub name_of-requires : goal.name_of-requires
unfolding all_letters bytes spellings flatten
name_of-requires c = refl

pub returns : goal.returns
returns c =
    let p = c.put_word.ensures in
    let n = c in
    let a = n.args in
    let e = n.name_of.ensures in
    record { value = p.value ∙ ap length e; name_after = p.name_after ∙ ap (λ (w : List ℕ). word_after w a.name.now) e }
