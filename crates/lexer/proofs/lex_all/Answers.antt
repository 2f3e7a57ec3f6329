-- `lexer::lex_all` meets its contract: the words so far, and the tokens of what is left. Assumes nothing.
use native.Mathlib.Omega.{arith}
use Rattle.lexer.proofs.Steps as laws
use Rattle.lexer.proofs.lex_all.Goals as goal

pub loop-at-init : goal.loop-at-init
loop-at-init c = laws.begin c.args.text.now c.args.words.now

pub loop-at-preserved-in-Blank : goal.loop-at-preserved-in-Blank
loop-at-preserved-in-Blank c =
    let l = c.loop-at in
    laws.pass c.args.text.now c.args.words.now l.words l.at l.n l.invariant c.requires.1 c.loop-at-test.true
    c.in-Blank.ensures.0

pub loop-at-preserved : goal.loop-at-preserved
loop-at-preserved c =
    let l = c.loop-at in
    let t = c.in-Token in
    laws.store c.args.text.now c.args.words.now l.words l.at l.n l.invariant c.requires.1 c.loop-at-test.true
    t.kind t.len c.word_of.result t.ensures.0 t.ensures.1.0 t.ensures.1.1 c.word_of.ensures

pub returns-in-LoneQuote : goal.returns-in-LoneQuote
returns-in-LoneQuote c =
    let l = c.loop-at in
    laws.stop_lone c.args.text.now c.args.words.now l.words l.at l.n l.invariant c.requires.1 c.loop-at-test.true
    c.in-LoneQuote.ensures.0

pub returns-in-CutCharacter : goal.returns-in-CutCharacter
returns-in-CutCharacter c =
    let l = c.loop-at in
    laws.stop-cut c.args.text.now c.args.words.now l.words l.at l.n l.invariant c.requires.1 c.loop-at-test.true
    c.in-CutCharacter.ensures.0

pub returns : goal.returns
returns c =
    let l = c.loop-at in
    laws.done c.args.text.now c.args.words.now l.words l.at l.n l.invariant c.requires.1 (omega arith)
