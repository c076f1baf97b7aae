-- The tail tells nothing, or something.
use lib.ListN.{drop}
use Rattle.paper.specs.Kinds.{rest_place}
use Rattle.paper.specs.Ledger.{read_tail}
use mathlib.Core.Path.{◌∙◌, sym}
use Rattle.watch.proofs.Ways.{ends_14, ends_0}
use Rattle.watch.proofs.parts.ended.Goals as goal

pub returns : goal.returns
returns c = ends_0 c.args.b (read_tail c.args.b.reading (drop rest_place c.args.reply.now)) c.requires (sym c.is_quiet.ensures ∙ c.if-not-is_quiet.false)

pub returns-then-not-is_quiet : goal.returns-then-not-is_quiet
returns-then-not-is_quiet c = ends_14 c.args.b (read_tail c.args.b.reading (drop rest_place c.args.reply.now)) (sym c.is_quiet.ensures ∙ c.if-not-is_quiet.true)
