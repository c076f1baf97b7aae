-- The store is emptied, and nothing had gone before.
use Rattle.store.proofs.Ends.{empty_room, empties_still}
use Rattle.store.proofs.operations.drain.Goals as goal

pub empty_out-requires : goal.empty_out-requires
empty_out-requires c = empty_room c.none.ensures c.requires

pub returns : goal.returns
returns c =
    let s = c.args.s in
    empties_still s.places s.len c.none.result c.none.ensures c.empty_out.ensures
