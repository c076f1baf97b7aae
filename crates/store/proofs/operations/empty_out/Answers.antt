-- Those that wait are handed out, and the others leave.
use Rattle.store.specs.declared.bumping.Rule.TheVariants.{All}
use Rattle.store.proofs.Rounds.{moved_room}
use Rattle.store.proofs.Ends.{moved_good, empties}
use Rattle.store.proofs.operations.empty_out.Goals as goal

pub release_all-requires : goal.release_all-requires
release_all-requires c =
    let a = c.args in
    let m = c.bump_as_needed.ensures in
    (moved_good m, (moved_room All a.s.places a.s.len a.x m c.requires.0 c.requires.1 c.requires.2).0)

pub returns : goal.returns
returns c =
    let a = c.args in
    empties a.s.places a.s.len a.x c.bump_as_needed.ensures c.release_all.ensures
