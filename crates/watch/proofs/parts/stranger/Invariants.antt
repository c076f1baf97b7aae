use mathlib.Core.Path.{◌≡◌}
use Rattle.watch.specs.Book.{view}
use lib.ListN.{drop}
use Prim.Native.Nat.{◌+◌, ◌-◌, ◌*◌}
use Rattle.paper.specs.Ledger.{read_serials}
use Rattle.paper.specs.Blame.{strangers}
use Rattle.watch.proofs.parts.stranger.Given as goal

abbrev pub invariant-loop-i : goal.invariant-loop-i
invariant-loop-i l = strangers (read_serials (l.fn.n - l.i) (drop (l.fn.at + 4 * l.i) l.fn.reply)) (view l.fn.l) ≡ strangers (read_serials l.fn.n (drop l.fn.at l.fn.reply)) (view l.fn.l)
