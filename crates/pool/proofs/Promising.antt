-- All that is promised of a pool that some calls reached, but that a surface is never given while it is held: what is
-- free in it is told from what was heard, since the pool's own picture agrees with what was heard.
use Prim.Native.Nat.{ℕ, ◌+◌}
use mathlib.Core.Path.{◌≡◌, sym, ap, ◌∙◌}
use mathlib.Core.List.{List}
use mathlib.Core.Bool.{not, ◌&&◌}
use native.Mathlib.Omega.{arith}
use lib.Dec.{ltb, eqb}
use borrow.Author.Tests.{eq-eqb, ne_eqb, eqb-true, eqb-false}
use Rattle.paper.specs.Reading.{opening}
use Rattle.paper.specs.Ledger.{Ledger, lines_of, blank, told}
use Rattle.paper.specs.Accounts.{count}
use Rattle.paper.proofs.Bools.{split}
use Rattle.pool.specs.Pool.{Pool}
use Rattle.pool.specs.History.{Heard, exchanges_in, shown_all, returns_in}
use Rattle.pool.specs.Statement.{lies_on, FreeAs, NeverWhileHeld, Promises}
use Rattle.pool.proofs.Reached.{Reached}
use Rattle.pool.proofs.Answers.{lowest, eighteen, nineteen, call_left}
use Rattle.pool.proofs.Seven.{seven}

-- none is pending exactly if as many were returned as were handed out
none_pending : (pending back out : ℕ) → pending + back ≡ out → eqb pending 0 ≡ eqb out back
none_pending pending back out h =
    split (eqb pending 0)
    (λ e. e ∙ sym (eq-eqb out back (omega (arith, eqb-true pending 0 e))))
    (λ e. e ∙ sym (ne_eqb out back (λ z. eqb-false pending 0 e (omega (arith, z)))))

module _ (n : ℕ) (p : Pool) (hs : List Heard) (k : Reached n p hs) where
  free_as : FreeAs n p hs
  free_as =
      record {
        free = λ x.
            let held : p.held x ≡ lies_on x (lines_of (told blank (exchanges_in opening hs))) = k.agrees.held x ∙ ap (λ (L : Ledger). lies_on x (lines_of L)) (sym k.true_to) in
            let back = none_pending (p.pending x) (count x (returns_in hs)) (count x (shown_all (exchanges_in opening hs))) (k.pends.sum x) in
            λ i. ltb x (k.surfaces i) && (not (held i) && back i);
      }

  pub promised : NeverWhileHeld hs → Promises n p hs
  promised never =
      record {
        kept = k.kept;
        true_to = k.true_to;
        surfaces = k.surfaces;
        agrees = k.agrees;
        pends = k.pends;
        free = free_as;
        lowest = λ r room. lowest p r room;
        eighteen = λ r room. eighteen p r room k.few;
        refusals = λ c _. record { left = call_left p c; seven = seven p k.agrees k.few c };
        nineteen = λ x. nineteen p x;
        never_while_held = never;
      }
