-- All are named where there is no stranger.
use mathlib.Core.Path.{◌∙◌, sym, ap}
use lib.ListN.{drop}
use Rattle.paper.specs.Ledger.{read_serials}
use Rattle.watch.specs.Book.{view}
use Rattle.watch.proofs.ReplyLaws.{is_nothing, something, no_stranger}
use Rattle.watch.proofs.parts.names_known.Goals as goal

pub returns-in-Nothing : goal.returns-in-Nothing
returns-in-Nothing c =
    ap is_nothing (sym c.in-Nothing.is ∙ c.stranger.ensures) ∙ no_stranger (read_serials c.args.n (drop c.args.at c.args.reply.now)) (view c.args.l)

pub returns-in_default : goal.returns-in_default
returns-in_default c =
    sym (something c.stranger.result c.in_default.not-Nothing) ∙ ap is_nothing c.stranger.ensures ∙ no_stranger (read_serials c.args.n (drop c.args.at c.args.reply.now)) (view c.args.l)
