-- What the walk has seen of the first i places is what the definitions find in them.
use native.Mathlib.Omega.{arith}
use Rattle.store.proofs.Scans.{scan_none, scan_more, scan_few}
use Rattle.store.proofs.bumping.find_lowest_poc_for_bumping.Goals as goal

pub loop-i-init : goal.loop-i-init
loop-i-init c = rw c.nothing_seen-c.ensures (scan_none c.args.places c.args.latency)

pub seen-c-requires : goal.seen-c-requires
seen-c-requires c = omega (arith, scan_few c.loop-i.invariant)

pub loop-i-preserved : goal.loop-i-preserved
loop-i-preserved c = rw c.seen-c.ensures (scan_more c.loop-i.invariant)
