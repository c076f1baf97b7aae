-- Words that are all 0 are a store in normal form, and an empty store is written over them.
use mathlib.Core.Path.{ap, ◌∙◌}
use Rattle.paper.specs.Words.{table}
use Rattle.store.specs.Places.{front}
use Rattle.store.specs.declared.Store.{Store}
use Rattle.store.proofs.Tidy.{zero_normal}
use Rattle.store.proofs.words.forget_all.Goals as goal

pub returns : goal.returns
unfolding table
returns c =
    let s = c.start.ensures in
    let e = c.empty.ensures in record { pics = c.save.ensures.pics ∙ s.pics ∙ ap (λ (x : Store). front x.places x.len) e; normal = c.save.ensures.normal (zero_normal 97) }
