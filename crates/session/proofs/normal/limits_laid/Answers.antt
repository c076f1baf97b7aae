-- Five words are compared with those that the limits are written as.
use mathlib.Core.Path.{ap}
use Rattle.paper.specs.Words.{table}
use Rattle.store.proofs.Deciding.{words_told, told_as}
use Rattle.session.specs.FrontPlaces.{K}
use Rattle.session.specs.Laid.{limits_words, words_from}
use Rattle.session.proofs.normal.limits_laid.Goals as goal

pub returns : goal.returns
unfolding table
returns c =
    told_as (ap limits_words c.limits_in-l.ensures) (words_told (words_from c.args.h.now K 5) (limits_words c.limits_in-l.result))
