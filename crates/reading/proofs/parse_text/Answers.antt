-- `reading::parse_text` meets its contract. Assumes nothing.
use mathlib.Core.Path.{◌≡◌, ◌∙◌}
use native.Mathlib.Omega.{arith}
use lib.ListN.{length, take, drop, length-append}
use lib.Seq.{length-take-le}
use Rattle.operands.proofs.Runs.{met}
use Rattle.reading.specs.Told.{Parses}
use Rattle.reading.proofs.Parse as laws
use Rattle.reading.proofs.parse_text.Goals as goal

pub returns-in_err-tokens : goal.returns-in_err-tokens
unfolding Parses
returns-in_err-tokens c = rw (met c.from_residual.ensures.1) (laws.row34 _ _ c.requires.text_len_bound c.requires.text_len_bound_2 _ _ c.in_err-tokens.ensures)

pub returns-then-room-tokens : goal.returns-then-room-tokens
unfolding Parses
returns-then-room-tokens c = laws.row5 _ _ c.requires.text_len_bound c.requires.text_len_bound_2 _ _ c.in_ok-tokens.ensures c.if-room-tokens.true

pub parse-requires-clause-sound : goal.parse-requires-clause-sound
parse-requires-clause-sound c = laws.sound _ _ c.requires.text_len_bound c.requires.text_len_bound_2 _ _ c.in_ok-tokens.ensures c.if-room-tokens.false

pub returns-in-Ok : goal.returns-in-Ok
unfolding Parses
returns-in-Ok c =
    let n = c.in_ok-tokens.tokens in
    let z = c.lex_into.new.words in
    let l = c.args.log.now in
    let e = c.parse.new.events in
    let few = c.in_ok-tokens.ensures.few in
    let long : length e ≡ n = c.parse.auto.events ∙ length-take-le n l (omega (arith, few, c.requires)) in
    laws.row_none _ _ c.requires.text_len_bound c.requires.text_len_bound_2 z n c.in_ok-tokens.ensures c.if-room-tokens.false (take n l) e (drop n l) _ long
    (omega (arith, few, c.requires, c.lex_into.auto.words)) (omega (arith, length-append e (drop n l), long)) c.in-Ok.ensures

pub returns-in-Err-Bad : goal.returns-in-Err-Bad
unfolding Parses
returns-in-Err-Bad c = laws.row6 _ _ c.requires.text_len_bound c.requires.text_len_bound_2 _ _ c.in_ok-tokens.ensures c.if-room-tokens.false _ _ _ (rw c.in-Err-Bad.field-0-is at c.in-Err-Bad.ensures)

pub returns-in-Err-Deep : goal.returns-in-Err-Deep
unfolding Parses
returns-in-Err-Deep c = laws.row7 _ _ c.requires.text_len_bound c.requires.text_len_bound_2 _ _ c.in_ok-tokens.ensures c.if-room-tokens.false _ _ _ (rw c.in-Err-Deep.field-0-is at c.in-Err-Deep.ensures)
