-- `values::word_value` meets its contract. Assumes nothing.
use mathlib.Core.Path.{ap, ◌∙◌}
use Rattle.answers.specs.Answers.{accepted}
use Rattle.words.specs.Spellings.{bytes}
use Rattle.values.specs.declared.PushValue.TheVariants as P
use Rattle.values.proofs.Values as laws
use Rattle.values.proofs.word_value.Goals as goal

pub returns-then-same_word : goal.returns-then-same_word
unfolding bytes
returns-then-same_word c =
    ap (λ x. accepted (P.Float x)) c.infinity.ensures
    ∙ laws.is_infinity c.args.s.now _ c.same_word.ensures c.if-same_word.true

pub returns-then-same_word-2 : goal.returns-then-same_word-2
unfolding bytes
returns-then-same_word-2 c =
    let i = c in
    ap (λ x. accepted (P.Float x)) c.not_a_number.ensures
    ∙ laws.is_nan i.args.s.now _ i.same_word.ensures i.if-same_word.false _
    c.same_word-2.ensures c.if-same_word-2.true

pub returns : goal.returns
unfolding bytes
returns c =
    let i = c in
    laws.other_word i.args.s.now _ i.same_word.ensures i.if-same_word.false _
    c.same_word-2.ensures c.if-same_word-2.false
