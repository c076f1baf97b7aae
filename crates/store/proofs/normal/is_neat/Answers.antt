-- The three words that what they say may be written by another are those that the picture at the place is written as.
use mathlib.Core.Path.{ap, ◌∙◌}
use mir.Syntax.{w32}
use mir.Val.{SFits, of_z}
use mir.ValLaws.{to_z-of_z}
use Rattle.paper.specs.declared.Picture.{Picture}
use Rattle.store.specs.StoreWords.{mark_word, flag_word}
use Rattle.store.proofs.Deciding.{neat_told}
use borrow.Author.Rules.{rules}
use Rattle.store.proofs.normal.is_neat.Goals as goal

pub returns : goal.returns
returns c =
    let f : SFits w32 c.picture_at-p.result.poc = search (rules, c.picture_at-p.type_inv) in
    neat_told c.args.store.now c.args.i
    (c.bits-of_poc.ensures ∙ ap (of_z w32) (to_z-of_z w32 c.picture_at-p.result.poc f ∙ ap (λ (q : Picture). q.poc) c.picture_at-p.ensures))
    (c.mark_word-of_mark.ensures ∙ ap (λ (q : Picture). mark_word q.mark) c.picture_at-p.ensures)
    (c.flag_word-of_flag.ensures ∙ ap (λ (q : Picture). flag_word q.waiting) c.picture_at-p.ensures)
