-- Demand 3, proved: the ledger told from a session's exchanges is a function of the session and in order, and the rest
-- follows for any exchanges.
use mathlib.Core.Path.{sym, ap, ◌∙◌}
use Rattle.paper.specs.Reading.{opening}
use Rattle.paper.specs.State.{fresh}
use Rattle.paper.specs.Step.{answered_of}
use Rattle.paper.specs.Ledger.{Ledger}
use Rattle.paper.specs.Statement.{exchanges, ledger_of, Demand}
use Rattle.paper.proofs.LedgerTold.{demand3}
use Rattle.paper.proofs.Between.{in_order_kept}
use Rattle.paper.proofs.Again.{exchanges_again}
use Rattle.paper.proofs.Rooms.{any_room}

pub demand : Demand
demand cs h =
    let rs = answered_of cs in
    record {
      kept = in_order_kept (exchanges opening fresh rs) (exchanges_again opening fresh rs) (ap (λ (L : Ledger). L.ok) (demand3 rs h));
      true_to = demand3 rs h ∙ ap ledger_of (sym (any_room fresh cs));
    }
