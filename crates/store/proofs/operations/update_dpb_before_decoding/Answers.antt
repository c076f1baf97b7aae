-- Each of the three ways is one of the definition's.
use borrow.Author.Rules.{rules}
use mathlib.Core.Path.{◌≡◌}
use mathlib.Core.Bool.{true, false}
use native.Mathlib.Omega.{arith}
use Rattle.paper.specs.Output.{cleared}
use Rattle.store.specs.Places.{front}
use Rattle.store.proofs.Ends.{empty_room, clear_room, holds_then, empties_still, then_clear, then_empty, then_remove}
use Rattle.store.proofs.operations.update_dpb_before_decoding.Goals as goal

pub returns-then-not-starts : goal.returns-then-not-starts
returns-then-not-starts c =
    let s : c.args.starts ≡ false = search rules in
    rw (then_remove (front c.args.s.places c.args.s.len) c.args.l c.args.starts c.args.no_prior s) c.make_room.ensures

pub clear-requires : goal.clear-requires
clear-requires c = clear_room c.start.ensures (omega arith) (omega arith)

pub empty_out-requires : goal.empty_out-requires
empty_out-requires c = empty_room c.none.ensures c.requires

pub returns-then-no_prior : goal.returns-then-no_prior
returns-then-no_prior c =
    let s : c.args.starts ≡ true = search rules in
    holds_then cleared c.start.ensures (then_clear (front c.args.s.places c.args.s.len) c.args.l c.args.starts c.args.no_prior s c.if-no_prior.true) c.clear.ensures

pub returns-else-no_prior : goal.returns-else-no_prior
returns-else-no_prior c =
    let s : c.args.starts ≡ true = search rules in
    rw (then_empty (front c.args.s.places c.args.s.len) c.args.l c.args.starts c.args.no_prior s c.if-no_prior.false)
    (empties_still c.args.s.places c.args.s.len c.none.result c.none.ensures c.empty_out.ensures)
