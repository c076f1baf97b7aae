-- `lists_at`: the number is the paper's; a record that is refused gives it, and one that is accepted writes the two
-- lists.
use mathlib.Core.Path.{sym}
use Rattle.std.proofs.lemmas.Result.{err_from_is_err_and}
use Rattle.paper.specs.Records.{slice_of}
use Rattle.derivation.specs.Lists.{refs_in}
use Rattle.session.proofs.Slicing.{gives_no, gives_lists}
use Rattle.session.proofs.lists.lists_at.Goals as goal

pub listed-requires : goal.listed-requires
listed-requires c =
    (c.requires.0, c.slice_fields-h.ensures, sym (c.in_ok-judged.ensures c.args.c.serial), c.requires.1)

pub returns : goal.returns
returns c =
    λ s e. gives_lists s (refs_in c.args.sets.now c.args.refs) e c.args.c (slice_of c.args.msg.now) c.args.reply.now _ (sym (c.in_ok-judged.ensures c.args.c.serial)) c.listed.ensures

pub returns-in_err-judged : goal.returns-in_err-judged
returns-in_err-judged c =
    λ s e.
    let p = err_from_is_err_and c.from_residual.result c.from_residual.ensures.1 in
    rw (p.1, p.2) (gives_no s (refs_in c.args.sets.now c.args.refs) e c.args.c (slice_of c.args.msg.now) c.args.reply.now c.args.reply.now c.in_err-judged.field-0.0 (c.in_err-judged.ensures c.args.c.serial))
