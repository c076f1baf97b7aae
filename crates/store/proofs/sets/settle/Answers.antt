-- The four steps, one after the other, are those of the definition.

use Rattle.store.proofs.sets.settle.Goals as goal

pub returns : goal.returns
returns c =
    let f = c.find_members-f.ensures in
    let p = rw f at c.mark_where-ps.ensures in
    let g = rw (p, f) at c.find_members-found.ensures in
    record { places = rw (g, p) at c.mark_where-qs.ensures; found = g }
