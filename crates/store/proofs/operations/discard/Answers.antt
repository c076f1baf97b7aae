-- A current picture is dropped first, then the store is cleared.
use mathlib.Core.Path.{ap, ◌∙◌}
use native.Mathlib.Omega.{arith}
use Rattle.paper.specs.Output.{cleared}
use Rattle.paper.specs.Calls.{discarded}
use Rattle.store.specs.Places.{front}
use Rattle.store.proofs.Ends.{clear_room, holds_then, drops_one, discard_idle, discard_is}
use Rattle.store.proofs.operations.discard.Goals as goal

pub clear-requires : goal.clear-requires
clear-requires c = clear_room c.start.ensures (omega arith) (omega arith)

pub clear-requires-in-Some : goal.clear-requires-in-Some
clear-requires-in-Some c = clear_room c.drop_current.ensures (drops_one c.in-Some.c) (omega arith)

pub returns-in-None : goal.returns-in-None
returns-in-None c =
    let ps = front c.args.s.places c.args.s.len in
    holds_then cleared c.start.ensures (ap (discarded ps) c.in-None.is ∙ discard_idle ps) c.clear.ensures

pub returns-in-Some : goal.returns-in-Some
returns-in-Some c =
    let ps = front c.args.s.places c.args.s.len in
    holds_then cleared c.drop_current.ensures (ap (discarded ps) c.in-Some.is ∙ discard_is ps c.in-Some.c) c.clear-in-Some.ensures
