-- The first stranger of both lists.
use Rattle.derivation.proofs.Pad.{is_view}
use borrow.Author.Tests.{ne_eqb}
use Rattle.watch.specs.Parts.{number_of}
use Rattle.watch.specs.declared.demand.Part.TheVariants.{NamesNotHeld}
use Rattle.watch.proofs.Numbers.{same_number}
use Rattle.watch.proofs.blamed.listed_blame.Goals as goal

pub returns-in-NamesNotHeld : goal.returns-in-NamesNotHeld
returns-in-NamesNotHeld c = rw c.in-NamesNotHeld.is (rw (is_view c.joined.ensures, c.byte.ensures, c.byte-2.ensures) at c.stranger.ensures)

pub returns-in_default : goal.returns-in_default
returns-in_default c = rw (ne_eqb (number_of c.args.part) 12 (λ e. c.in_default.not-NamesNotHeld (same_number c.args.part NamesNotHeld e)))
