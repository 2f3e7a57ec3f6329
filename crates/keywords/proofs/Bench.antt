-- Words and their kinds: a claim of the definition alone, by computation. Assumes nothing.
use mathlib.Core.Path.{◌≡◌, refl}
use mathlib.Core.List.{List, [], ◌∷◌, map}
use Rattle.names.specs.declared.ActionName.TheVariants as A
use Rattle.tokens.specs.declared.TokenKind.TheVariants as K
use Rattle.words.specs.Spellings.{bytes, spellings}
use Rattle.words.specs.Words.{index_in, lower, same_word}
use Rattle.scanner.specs.Bytes.{run_of}
use Rattle.numbers.specs.Integers.{is_natural, natural, up_to, value_from, with_byte}
use Rattle.keywords.specs.Keywords.{◌means◌, Keyword, keyword_words, named, number_after, word_kind}

abbrev words : List Keyword
words =
    "constant65535" means K.Constant 65535
    ∷ "constant65536" means K.Identifier
    ∷ "Constant007" means K.Constant 7
    ∷ "constant" means K.Identifier
    ∷ "constant1a" means K.Identifier
    ∷ "register255" means K.Register 255
    ∷ "register256" means K.Identifier
    ∷ "REGISTER0" means K.Register 0
    ∷ "push" means K.ActionName A.Push
    ∷ "PushDuplicate" means K.ActionName A.PushDuplicate
    ∷ "waitforframe2" means K.ActionName A.WaitForFrame2
    ∷ "Undefined" means K.Undefined
    ∷ "nan" means K.Identifier
    ∷ "$a_1" means K.Identifier
    ∷ []

bench : map (λ (x : Keyword). word_kind (bytes x.spelling)) words ≡ map (λ (x : Keyword). x.kind) words
unfolding bytes index_in is_natural keyword_words lower named natural number_after run_of same_word spellings up_to value_from with_byte word_kind
bench = refl
