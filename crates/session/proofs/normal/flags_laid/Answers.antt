-- Three words are compared with those that the flags are written as.
use mathlib.Core.Path.{refl, ap, ◌∙◌}
use mathlib.Core.List.{[], ◌∷◌}
use Rattle.paper.specs.Words.{table}
use Rattle.store.specs.StoreWords.{flag_word}
use Rattle.store.proofs.Deciding.{cons, words_told, told_as}
use Rattle.session.specs.FrontPlaces.{CONFIGURED}
use Rattle.session.specs.Laid.{words_from}
use Rattle.session.proofs.normal.flags_laid.Goals as goal

pub returns : goal.returns
unfolding table
returns c =
    let e1 = c.flag_word.ensures ∙ ap flag_word c.is_configured.ensures in
    let e2 = c.flag_word-2.ensures ∙ ap flag_word c.is_first.ensures in
    let e3 = c.flag_word-3.ensures ∙ ap flag_word c.is_ended.ensures in
    told_as (cons e1 (cons e2 (cons e3 refl)))
    (words_told (words_from c.args.h.now CONFIGURED 3) (c.flag_word.result ∷ c.flag_word-2.result ∷ c.flag_word-3.result ∷ []))
