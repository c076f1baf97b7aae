-- What the emptying hands out stands behind what was handed out before.
use Rattle.store.proofs.Ends.{rest_room, after_room, drains}
use Rattle.store.proofs.operations.finish_and_drain.Goals as goal

pub empty_out-requires : goal.empty_out-requires
empty_out-requires c =
    let a = c.args in
    rest_room a.l a.s.places a.s.len a.c c.finish_picture-m.ensures

pub after-requires : goal.after-requires
after-requires c =
    let a = c.args in
    after_room a.l a.s.places a.s.len a.c c.finish_picture-m.ensures c.empty_out.ensures

pub returns : goal.returns
returns c =
    let a = c.args in
    drains a.l a.s.places a.s.len a.c c.finish_picture-m.ensures c.empty_out.ensures c.after.ensures
