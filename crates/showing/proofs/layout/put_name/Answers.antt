-- `LETTERS` are the letters of all names.
use mathlib.Core.List.{flatten}
use Rattle.std.proofs.Common.{refl}
use Rattle.words.specs.Spellings.{all_letters, bytes, spellings}
use Rattle.showing.proofs.layout.put_name.Goals as goal

pub spelling-requires : goal.spelling-requires
unfolding all_letters bytes spellings flatten
spelling-requires c = refl
