-- Each reply is one to its record.
use Prim.Native.Nat.{ℕ, ◌+◌}
use mathlib.Core.Path.{◌≡◌, refl, sym, ap}
use mathlib.Core.List.{List}
use mathlib.Core.Bool.{true}
use native.Mathlib.Omega.{arith}
use lib.Dec.{eqb}
use borrow.Author.Tests.{eq-eqb, ne_eqb}
use Rattle.paper.specs.Kinds.{reply_to}
use Rattle.paper.specs.Records.{kind_of}
use Rattle.paper.specs.State.{Session}
use Rattle.paper.specs.Step.{Decided, decide_of}
use Rattle.paper.specs.Ledger.{heard}
use Rattle.paper.proofs.Ways.{by_ways}

record Heard (r : List ℕ) (d : Decided) : Type 0 where
  is : heard r d.reply ≡ true

same_kind : (r : List ℕ) (k : ℕ) → kind_of r ≡ k → eqb k (kind_of r) ≡ true
same_kind r k e = eq-eqb k (kind_of r) (sym e)

pub hears : (s : Session) (r : List ℕ) → heard r (decide_of s r).reply ≡ true
unfolding heard
hears s r =
    (by_ways s r (Heard r)
    (record {
      malformed = record { is = refl };
      no = λ kind n k g b l h. record { is = rw (ne_eqb n 13 (λ e. omega arith)) (eq-eqb (reply_to kind) (reply_to (kind_of r)) (ap (λ (m : ℕ). 256 + m) (sym k))) };
      configure = λ k a b. record { is = same_kind r 1 k };
      begin = λ k z. record { is = same_kind r 2 k };
      lists = λ k c e z. record { is = same_kind r 3 k };
      finish = λ k c e z. record { is = same_kind r 4 k };
      drain = λ k a. record { is = same_kind r 5 k };
      discard = λ k. record { is = same_kind r 6 k };
      end = λ k. record { is = same_kind r 7 k };
      abandon = λ k c e. record { is = same_kind r 8 k };
    })).is
