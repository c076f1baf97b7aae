use Rattle.paper.specs.Kinds.{shown_width}
use mathlib.Core.Path.{◌≡◌}
use Rattle.watch.specs.Book.{view}
use Prim.Native.Nat.{◌+◌, ◌-◌, ◌*◌, ◌≤◌}
use lib.ListN.{drop}
use Rattle.paper.specs.Ledger.{upon_all}
use Rattle.paper.specs.Watch.{tail_part}
use Rattle.paper.specs.Blame.{tail_blame}
use Rattle.watch.specs.Events.{events_of}
use Rattle.watch.specs.Book.{Good}
use Rattle.watch.proofs.events.run.Given as goal

abbrev pub invariant-loop : goal.invariant-loop
invariant-loop l =
    (l.counter ≤ l.n)
    × ((l.place ≤ l.at + shown_width * l.counter)
    × (Good l.lines
    × ((tail_part (events_of l.st l.p (l.n - l.counter) (drop l.place l.reply)) (view l.lines) ≡ tail_part (events_of l.st l.p l.n (drop l.at l.reply)) (view l.initial.lines))
    × ((upon_all (events_of l.st l.p (l.n - l.counter) (drop l.place l.reply)) (view l.lines) ≡ upon_all (events_of l.st l.p l.n (drop l.at l.reply)) (view l.initial.lines))
    × (tail_blame (events_of l.st l.p (l.n - l.counter) (drop l.place l.reply)) (view l.lines) ≡ tail_blame (events_of l.st l.p l.n (drop l.at l.reply)) (view l.initial.lines))))))
