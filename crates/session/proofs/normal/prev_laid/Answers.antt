-- Three words are compared with those that what is read is written as.
use mathlib.Core.Path.{◌≡◌, sym, ap, ◌∙◌}
use mir.Syntax.{w32}
use mir.Val.{SFits, of_z}
use mir.ValLaws.{to_z-of_z}
use Rattle.paper.specs.Words.{table}
use Rattle.store.proofs.Deciding.{words_told, told_as}
use Rattle.session.specs.FrontPlaces.{PREV}
use Rattle.session.specs.Laid.{prev_words, words_from}
use borrow.Author.Rules.{rules}
use Rattle.session.proofs.normal.prev_laid.Goals as goal
use Rattle.std.proofs.Common.{None}
use Rattle.paper.specs.Poc.{tid0}

pub returns-in-None : goal.returns-in-None
unfolding table
returns-in-None c =
    let e = sym c.in-None.is ∙ c.prev_in.ensures in
    told_as (ap prev_words e) (words_told (words_from c.args.h.now PREV 3) (prev_words None))

pub returns-in-Some : goal.returns-in-Some
unfolding table
returns-in-Some c =
    let e = sym c.in-Some.is ∙ c.prev_in.ensures in
    let m : SFits w32 c.in-Some.p.msb = search rules in
    let b : c.bits.result ≡ of_z w32 c.in-Some.p.msb = c.bits.ensures ∙ ap (of_z w32) (to_z-of_z w32 c.in-Some.p.msb m) in
    rw b (told_as (ap prev_words e) (words_told (words_from c.args.h.now PREV 3) (prev_words (tid0 c.in-Some.p.lsb c.in-Some.p.msb))))
