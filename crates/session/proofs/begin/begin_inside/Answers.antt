-- `begin_inside`: the flags and the POC are the paper's. A POC outside i32 gives 6; else `begin_at` has what it asks
-- for.
use mathlib.Core.Path.{◌∙◌, ap}
use Rattle.std.proofs.lemmas.Result.{err_from_is_err_and}
use Rattle.paper.specs.State.{Session, modulus}
use Rattle.derivation.specs.Answers.{poc_answer}
use Rattle.session.proofs.Begins.{outside, Counted, no_poc, placed}
use Rattle.session.proofs.Saying.{rejects}
use Rattle.session.specs.Starts.{flags_from, prev_from}
use Rattle.session.specs.View.{memory, session_in, front_in}
use Rattle.session.proofs.begin.begin_inside.Goals as goal

pub begin_at-requires : goal.begin_at-requires
unfolding front_in
begin_at-requires c =
    let session : Session =
    session_in (memory c.args.front.now c.args.sets.now c.args.store.now)
    in
    let counted : Counted (session) c.args.h c.flags_of-flags.result c.derive_poc.result =
    record {
      flags = c.flags_of-flags.ensures ∙ (λ i. flags_from (c.is_first.ensures i) (c.is_ended.ensures i) c.args.h);
      poc = c.derive_poc.ensures.answer ∙ (λ i. poc_answer (modulus (c.requires.0.limits i)) ((c.prev_for.ensures ∙ ap (prev_from c.flags_of-flags.result.over) c.prev_in-q.ensures) i) c.args.h.lsb);
    }
    in
    (placed c.requires.0 (counted) _ c.in_ok-derived.was, c.requires.1)

pub returns-in_err-derived : goal.returns-in_err-derived
unfolding front_in
returns-in_err-derived c =
    let session : Session =
    session_in (memory c.args.front.now c.args.sets.now c.args.store.now)
    in
    let counted : Counted (session) c.args.h c.flags_of-flags.result c.derive_poc.result =
    record {
      flags = c.flags_of-flags.ensures ∙ (λ i. flags_from (c.is_first.ensures i) (c.is_ended.ensures i) c.args.h);
      poc = c.derive_poc.ensures.answer ∙ (λ i. poc_answer (modulus (c.requires.0.limits i)) ((c.prev_for.ensures ∙ ap (prev_from c.flags_of-flags.result.over) c.prev_in-q.ensures) i) c.args.h.lsb);
    }
    in
    let p = err_from_is_err_and c.from_residual.result c.from_residual.ensures.1 in
    rw (p.1, p.2) (rejects (outside (session) c.args.msg.now c.requires.0 (no_poc c.requires.0 (counted) _ c.in_err-derived.was)))
