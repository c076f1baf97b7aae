-- `begun`: the marks and the sets are the paper's, and so are the room that is made for the picture, the reply, the run
-- of the sets and the words beside the store.
use Prim.Native.Nat.{◌+◌}
use mathlib.Core.Bool.{cond}
use mathlib.Core.Path.{ap, ◌∙◌}
use lib.Dec.{eqb}
use Rattle.paper.specs.declared.Serial.{Serial}
use Rattle.store.specs.Places.{stored_in}
use Rattle.store.proofs.Ends.{tail_good}
use Rattle.session.specs.View.{memory, front_in}
use Rattle.session.specs.Starts.{current_from, told_from}
use Rattle.session.proofs.Begins.{few_members, tells, begun_does}
use Rattle.session.proofs.begin.begun.Goals as goal

pub put_begun-len-requires : goal.put_begun-len-requires
put_begun-len-requires c =
    (few_members c.derive_and_mark_rps-d.ensures.sets, (tail_good c.update_dpb_before_decoding-m.ensures.tail, c.requires.1))

pub returns : goal.returns
unfolding front_in
returns c =
    let t =
    tells c.args.front.now c.derive_and_mark_rps-d.result.first c.derive_and_mark_rps-d.result.second (stored_in c.derive_and_mark_rps-d.result.store) c.args.store.now c.args.t c.derive_and_mark_rps-d.result.sizes c.requires.0.placed.passed.limits c.is_ended.ensures
    (c.told_of.ensures ∙ ap (λ (k : Serial). told_from k.0 c.args.t) c.next_serial-next.ensures) c.update_dpb_before_decoding-m.ensures c.put_begun-len.ensures
    in
    begun_does (memory c.args.front.now c.args.sets.now c.args.store.now) c.args.msg.now c.args.h c.args.t c.args.wishes.now c.requires.0 c.derive_and_mark_rps-d.result c.derive_and_mark_rps-d.ensures t
    c.put_members.new.sets c.put_members.ensures.long c.put_members.ensures.members c.put_members.ensures.behind c.put_begun.ensures.front c.put_begun.ensures.words
    (c.current_of.ensures ∙ ap (λ (k : Serial). current_from k.0 c.args.h c.args.t) c.next_serial-next.ensures) c.refs_of.ensures
    (c.next_after.ensures ∙ ap (λ (k : Serial). cond (eqb k.0 4294967295) 0 (k.0 + 1)) c.next_serial-next.ensures)
