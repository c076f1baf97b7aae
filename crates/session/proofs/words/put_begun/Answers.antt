-- Each part of the picture and each size is written where it is read.
use native.Mathlib.Omega.{arith}
use borrow.Author.Rules.{rules}
use mathlib.Core.Path.{◌≡◌, ap, ◌∙◌}
use mir.ValLaws.{to_z-of_z}
use mir.Val.{SFits, of_z}
use mir.Syntax.{w32}
use Rattle.session.proofs.Fronts.{front_begun, words_begun}
use Rattle.session.proofs.words.put_begun.Goals as goal

pub returns : goal.returns
returns c =
    let p : SFits w32 c.args.c.poc = search (rules, c.well_formed) in
    let m : SFits w32 c.args.c.msb = search (rules, c.well_formed.1.0) in
    let ep : c.bits.result ≡ of_z w32 c.args.c.poc = c.bits.ensures ∙ ap (of_z w32) (to_z-of_z w32 c.args.c.poc p) in
    let em : c.bits-2.result ≡ of_z w32 c.args.c.msb = c.bits-2.ensures ∙ ap (of_z w32) (to_z-of_z w32 c.args.c.msb m) in rw (ep, em, c.flag_word.ensures, c.flag_word-2.ensures) (record { front = front_begun c.args.h.now (omega arith) c.args.c c.args.x c.args.next p (search rules) m (search rules) (search rules) (search rules); words = λ f e. words_begun c.args.h.now f e c.args.c c.args.x c.args.next })
