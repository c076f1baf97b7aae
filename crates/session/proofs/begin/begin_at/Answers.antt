-- `begin_at`: the wishes that were read are the paper's. A POC of theirs outside i32 gives 6; else `begun` has what it
-- asks for.
use mathlib.Core.Path.{ap}
use Rattle.std.proofs.lemmas.Result.{err_from_is_err_and}
use Rattle.session.specs.Parts.{all_inside}
use Rattle.session.proofs.Begins.{outside, few_of, wishes_outside, wished}
use Rattle.session.proofs.Saying.{rejects}
use Rattle.paper.specs.State.{Session}
use Rattle.session.specs.View.{memory, session_in}
use Rattle.session.proofs.begin.begin_at.Goals as goal

pub wishes-requires : goal.wishes-requires
wishes-requires c = (c.requires.0.passed.fields, few_of c.requires.0)

pub returns-in_err-wishes : goal.returns-in_err-wishes
returns-in_err-wishes c =
    let session : Session =
    session_in (memory c.args.front.now c.args.sets.now c.args.store.now)
    in
    let p = err_from_is_err_and c.from_residual.result c.from_residual.ensures.1 in
    rw (p.1, p.2)
    (rejects (outside (session) c.args.msg.now c.requires.0.passed (wishes_outside (session) c.args.msg.now c.args.h c.args.t c.requires.0 c.wishes.ensures (ap all_inside c.in_err-wishes.was))))

pub begun-requires : goal.begun-requires
begun-requires c =
    let session : Session =
    session_in (memory c.args.front.now c.args.sets.now c.args.store.now)
    in
    (wished (session) c.args.msg.now c.args.h c.args.t c.requires.0 c.wishes.ensures (ap all_inside c.in_ok-wishes.was), c.requires.1)
