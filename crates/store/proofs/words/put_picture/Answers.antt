-- Six words; a POC that an i32 holds is read back from its two's complement.
use mathlib.Core.Path.{◌≡◌, ap, ◌∙◌}
use native.Mathlib.Omega.{arith}
use mir.ValLaws.{to_z-of_z}
use mir.Val.{SFits, of_z}
use mir.Syntax.{w32}
use Rattle.store.proofs.StoreWords.{puts_words, own_words, picture_spells}
use Rattle.store.specs.StoreWords.{mark_word, flag_word}
use borrow.Author.Rules.{rules}
use Rattle.store.proofs.words.put_picture.Goals as goal

pub returns : goal.returns
returns c =
    let f : SFits w32 c.args.p.poc = search rules in
    let b : c.bits.result ≡ of_z w32 c.args.p.poc = c.bits.ensures ∙ ap (of_z w32) (to_z-of_z w32 c.args.p.poc f) in
    let h = puts_words c.args.store.now c.args.i c.args.p.serial.0 c.args.p.surface.0 (of_z w32 c.args.p.poc) (mark_word c.args.p.mark) (flag_word c.args.p.waiting) c.args.p.count (omega arith) c.requires (λ all. picture_spells c.args.p f) in
    rw (b, c.mark_word.ensures, c.flag_word.ensures) (rw (own_words c.args.p f) at h)
