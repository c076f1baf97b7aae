-- Eight words are compared with those that a picture is written as.
use mathlib.Core.Path.{◌≡◌, ap, ◌∙◌}
use mir.Syntax.{w32}
use mir.Val.{SFits, of_z}
use mir.ValLaws.{to_z-of_z}
use Rattle.paper.specs.Words.{table}
use Rattle.store.proofs.Deciding.{words_told}
use Rattle.session.specs.FrontPlaces.{CURRENT}
use Rattle.session.specs.Laid.{words_from, current_words}
use borrow.Author.Rules.{rules}
use Rattle.session.proofs.normal.current_is.Goals as goal

pub returns : goal.returns
unfolding table
returns c =
    let p : SFits w32 c.args.c.poc = search (rules, c.well_formed) in
    let m : SFits w32 c.args.c.msb = search (rules, c.well_formed) in
    let ep : c.bits.result ≡ of_z w32 c.args.c.poc = c.bits.ensures ∙ ap (of_z w32) (to_z-of_z w32 c.args.c.poc p) in
    let em : c.bits-2.result ≡ of_z w32 c.args.c.msb = c.bits-2.ensures ∙ ap (of_z w32) (to_z-of_z w32 c.args.c.msb m) in
    rw (ep, em, c.flag_word.ensures, c.flag_word-2.ensures) (words_told (words_from c.args.h.now CURRENT 8) (current_words c.args.flag c.args.c))
