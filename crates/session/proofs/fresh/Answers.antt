-- The words beside the store are those of a session that has heard nothing, and an empty store holds nothing.
use mathlib.Core.Path.{refl}
use Rattle.derivation.specs.Lists.{refs_in}
use Rattle.session.proofs.fresh.Goals as goal

pub returns : goal.returns
unfolding refs_in
returns c = record { session = rw (c.put_fresh.ensures.front, c.forget_all.ensures.pics); normal = record { front = rw c.put_fresh.ensures.front c.put_fresh.ensures.words; store = c.forget_all.ensures.normal }; blank = refl }
