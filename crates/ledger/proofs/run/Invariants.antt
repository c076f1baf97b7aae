-- Some turns led here from a new book, the sources are those of the two files, and the run goes on.
use Prim.Native.Nat.{◌≤◌}
use mathlib.Core.Path.{◌≡◌}
use mathlib.Core.Bool.{true}
use lib.ListN.{length}
use Rattle.stream.proofs.Running.{Reached}
use Rattle.ledger.specs.Turns.{Starts, Turning, standing}
use Rattle.ledger.proofs.run.Given as goal

abbrev pub invariant-loop : goal.invariant-loop
invariant-loop g l = record {
  held : l.s.records.held ≤ length l.records;
  also : l.s.replies.held ≤ length l.replies;
  long : length l.records ≡ length l.initial.records;
  wide : length l.replies ≡ length l.initial.replies;
  from : l.records_source.fd ≡ l.s.records.fd;
  with : l.replies_source.fd ≡ l.s.replies.fd;
  on : l.s.more ≡ true;
  reached : Reached (Starts l.records_fd l.replies_fd) Turning (standing l.s l.records l.replies);
}
