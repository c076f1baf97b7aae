-- The three sections one after the other, up to the first event that is wrong.
use native.Mathlib.Omega.{arith}
use mathlib.Core.Path.{◌∙◌}
use Rattle.std.proofs.lemmas.Result.{err_from_is_err_and}
use Rattle.derivation.proofs.Pad.{is_good}
use Rattle.format.proofs.Ends.{past_count_lem}
use Rattle.watch.proofs.Bytes.{tail_events}
use Rattle.watch.proofs.PartLaws.{tells_first, tells_then}
use Rattle.paper.specs.Kinds.{word_width, shown_width}
use Rattle.watch.proofs.events.tail.Goals as goal

pub returns-in_err-shown : goal.returns-in_err-shown
returns-in_err-shown c =
    let p = err_from_is_err_and c.from_residual.result c.from_residual.ensures.1 in
    rw (p.1, p.2, tail_events c.args.st c.args.at c.args.reply.now) (tells_first _ c.in_err-shown.ensures)

pub run_counted-requires-2 : goal.run_counted-requires-2
run_counted-requires-2 c = (is_good c.in_ok-shown.ensures.lines, omega (arith, c.behind_shown-second.ensures.1, c.requires.1))

pub returns-in_err-kept : goal.returns-in_err-kept
returns-in_err-kept c =
    let p = err_from_is_err_and c.from_residual-in_err-kept.result c.from_residual-in_err-kept.ensures.1 in
    let e = c.behind_shown-second.ensures.0 ∙ past_count_lem shown_width c.args.reply.now c.args.at (omega (arith, c.requires.1)) in
    rw (p.1, p.2, tail_events c.args.st c.args.at c.args.reply.now, ← e) (tells_then _ c.in_ok-shown.ensures (tells_first _ c.in_err-kept.ensures))

pub run_counted-requires-3 : goal.run_counted-requires-3
run_counted-requires-3 c = (is_good c.in_ok-kept.ensures.lines, omega (arith, c.behind-third.ensures.1, c.behind_shown-second.ensures.1, c.requires.1))

pub returns : goal.returns
returns c =
    let e = c.behind_shown-second.ensures.0 ∙ past_count_lem shown_width c.args.reply.now c.args.at (omega (arith, c.requires.1)) in
    let b = c.behind-third.ensures.0 ∙ past_count_lem word_width c.args.reply.now c.behind_shown-second.result (omega (arith, c.behind_shown-second.ensures.1, c.requires.1)) in
    rw (tail_events c.args.st c.args.at c.args.reply.now, ← e, ← b) (tells_then _ c.in_ok-shown.ensures (tells_then _ c.in_ok-kept.ensures c.run_counted-3.ensures))
