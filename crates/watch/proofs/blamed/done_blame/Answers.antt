-- Each way of the match is what the definition names for that part.
use Prim.Native.Nat.{◌-◌}
use mathlib.Core.Path.{◌∙◌, ap}
use lib.ListN.{drop}
use Rattle.derivation.proofs.Pad.{is_good, is_view}
use Rattle.paper.specs.Kinds.{reply_offset, rest_place}
use Rattle.paper.specs.Records.{kind_of}
use Rattle.paper.specs.Ledger.{read_tail}
use Rattle.paper.specs.Blame.{moved_blame}
use Rattle.watch.specs.Judging.{page_of}
use Rattle.watch.specs.Parts.{number_of}
use Rattle.watch.specs.declared.demand.Part.TheVariants.{NoCurrent, ThrownByCall, StoresTooMany}
use Rattle.watch.proofs.Numbers.{same_number}
use Rattle.watch.proofs.Blames.{done_moved}
use Rattle.watch.proofs.blamed.done_blame.Goals as goal

pub moved_blame-requires : goal.moved_blame-requires
moved_blame-requires c = is_good c.movable_lines.ensures

pub returns-in_default : goal.returns-in_default
returns-in_default c =
    let l = is_view c.movable_lines.ensures in
    c.moved_blame.ensures
    ∙ ap (moved_blame (read_tail c.args.b.reading (drop rest_place c.args.reply.now))) l
    ∙ done_moved (number_of c.args.part) (kind_of c.args.reply.now - reply_offset) (page_of c.args.b) (read_tail c.args.b.reading (drop rest_place c.args.reply.now)) (λ e. c.in_default.not-NoCurrent (same_number c.args.part NoCurrent e)) (λ e. c.in_default.not-ThrownByCall (same_number c.args.part ThrownByCall e)) (λ e. c.in_default.not-StoresTooMany (same_number c.args.part StoresTooMany e))
