-- Every word but that of the start is 0.
use mathlib.Core.Path.{refl}
use Rattle.session.specs.View.{front_in}
use Rattle.session.specs.Laid.{front_words}
use Rattle.session.proofs.words.put_fresh.Goals as goal

pub returns : goal.returns
unfolding front_in front_words
returns c = record { front = refl; words = refl }
