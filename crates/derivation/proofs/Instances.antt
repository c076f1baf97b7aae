-- The paper's two lists are the one list that the code builds, since they differ in candidates and last place alone; a
-- list and a run leave no choice.
use mathlib.Core.Path.{◌≡◌, refl, sym, ap, ◌∙◌}
use mathlib.Core.List.{List}
use Prim.Native.Nat.{ℕ, ◌<◌, ◌≤◌}
use native.Mathlib.Omega.{arith}
use lib.Dec.{leb}
use Rattle.derivation.specs.declared.ref_lists.RefList.{RefList}
use Rattle.derivation.proofs.Pad.{one_array}
use Rattle.derivation.proofs.Runs.{table_get, placed_is, can_fill_lem}
use mathlib.Core.Bool.{Bool, true, false}
use lib.ListN.{length, get_or}
use lib.Seq.{ext_get_or}
use borrow.Author.Tests.{leb-true, leb-false}
use Rattle.paper.proofs.Bools.{split}
use Rattle.paper.specs.declared.Serial.{Serial}
use Rattle.paper.specs.State as State
use Rattle.paper.specs.Records.{Slice}
use Rattle.paper.specs.RefLists.{list0, list1, last_is_own, candidates0, candidates1}
use Rattle.derivation.specs.Lists.{blank_serial, serial_at, serials_in, list_of, with_last, built_of, candidates_of, Ready, HoldsList}

module _ (x : State.Refs) (c : Serial) (f : Slice) where
  pub list0_is : f.ask0.uses ≡ true → list0 x c f ≡ list_of x c f.own false (last_is_own f (candidates0 x f.own c)) f.ask0.active f.ask0.modify f.ask0.entries
  unfolding list0 list_of candidates_of
  list0_is e = rw e

  pub list1_is : f.ask1.uses ≡ true → list1 x c f ≡ list_of x c f.own true false f.ask1.active f.ask1.modify f.ask1.entries
  unfolding list1 list_of candidates_of
  list1_is e = rw e

-- the candidates of each list
pub candidates_0 : (x : State.Refs) (own : Bool) (c : Serial) → candidates_of x own false c ≡ candidates0 x own c
unfolding candidates_of
candidates_0 x own c = refl

pub candidates_1 : (x : State.Refs) (own : Bool) (c : Serial) → candidates_of x own true c ≡ candidates1 x own c
unfolding candidates_of
candidates_1 x own c = refl

-- what is built from a list that is ready is the paper's list
pub built_is : {x : State.Refs} {c : Serial} {own second : Bool} (last : Bool) {active : ℕ} {modify : Bool} {es : List ℕ} → Ready x c own second active modify es
    → built_of x c own second last active modify es ≡ list_of x c own second last active modify es
unfolding built_of list_of
built_is {x} {c} {own} {second} last {active} {modify} {es} h =
    let cs = candidates_of x own second c in
    let enough : modify ≡ true → active ≤ length es = λ t. omega (arith, h.bytes t) in
    let f = can_fill_lem (length cs) active modify (length es) (record { some = h.some; least = h.least; most = h.most; enough = enough }) in
    rw f (ap (with_last last active c) (placed_is cs c modify es (length cs) active refl h.some h.bytes h.below))

-- a run of sixteen words is told by its first members and the words behind them
pub one_run : (n : ℕ) (us vs : List ℕ) → length us ≡ 16 → length vs ≡ 16 → serials_in us n ≡ serials_in vs n → ((i : ℕ) → n ≤ i → get_or us i 0 ≡ get_or vs i 0) → us ≡ vs
one_run n us vs lu lv e behind =
    ext_get_or 0 us vs (lu ∙ sym lv)
    (λ i l.
    split (leb n i)
    (λ q. behind i (leb-true n i q))
    (λ q.
    let lt : i < n = leb-false n i q in
    ap (λ (s : Serial). s.0) (sym (table_get (serial_at us) n i blank_serial lt) ∙ ap (λ (xs : List Serial). get_or xs i blank_serial) e ∙ table_get (serial_at vs) n i blank_serial lt)))

-- a list in an array leaves no choice
pub one_list : (l r : RefList) (xs : List Serial) → HoldsList l xs → HoldsList r xs → l ≡ r
one_list l r xs h k = let e = one_array h k in λ i. record { items = e.0 i; len = e.1 i }
