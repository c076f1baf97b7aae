-- With no current picture the number is 4; with one the call is `lists_at`.
use mathlib.Core.Path.{sym, ap, ◌∙◌}
use Rattle.paper.specs.Records.{slice_of}
use Rattle.derivation.specs.Lists.{refs_in}
use Rattle.session.specs.View.{memory, session_in, front_in}
use Rattle.session.proofs.Slicing.{gives_now, gives_idle}
use Rattle.session.proofs.lists.lists.Goals as goal
use Rattle.std.proofs.Common.{None, Some}

pub returns-in-None : goal.returns-in-None
unfolding front_in
returns-in-None c =
    λ t.
    let s = session_in (memory c.args.front.now c.args.sets.now t) in
    gives_now s (slice_of c.args.msg.now) c.args.reply.now _ None (sym c.now_in.ensures ∙ c.in-None.is) (gives_idle s c.args.reply.now)

pub returns-in-Some : goal.returns-in-Some
unfolding front_in
returns-in-Some c =
    λ t.
    let s = session_in (memory c.args.front.now c.args.sets.now t) in
    gives_now s (slice_of c.args.msg.now) c.args.reply.now _ (Some c.in-Some.c) (sym c.now_in.ensures ∙ c.in-Some.is) (c.lists_at.ensures s (ap (refs_in c.args.sets.now) (sym c.refs_in-refs.ensures)))
