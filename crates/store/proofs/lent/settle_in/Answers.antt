-- The four steps, one after the other, are those of the definition.
use Rattle.store.proofs.lent.settle_in.Goals as goal

pub returns : goal.returns
returns c =
    let f = c.find_members_in.ensures in
    let p = rw f at c.mark_where_in.ensures in
    let g = rw (p, f) at c.find_members_in-2.ensures in
    record { places = rw (g, p) at c.mark_where_in-2.ensures; found = g }
