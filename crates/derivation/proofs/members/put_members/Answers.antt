-- `derivation::members::put_members`: the members walked over stand in their words, the words behind them are as they
-- were, and behind 16 there is no member in either.
use mathlib.Core.Path.{◌≡◌, sym, ap, ◌∙◌}
use mathlib.Core.List.{List}
use Prim.Native.Nat.{ℕ, ◌<◌, ◌≤◌}
use native.Mathlib.Omega.{arith}
use borrow.Author.Tests.{leb-true, leb-false}
use lib.Dec.{leb}
use lib.ListN.{length, get_or-eq_default}
use Rattle.std.proofs.Common.{rules}
use Rattle.paper.proofs.Bools.{split}
use Rattle.paper.specs.Numbers.{a_serial}
use Rattle.paper.specs.declared.Serial.{Serial}
use Rattle.derivation.specs.Lists.{blank_serial, serial_at, member_at}
use Rattle.derivation.proofs.Runs.{table_same}
use Rattle.derivation.proofs.members.put_members.Goals as goal

-- of sixteen words and sixteen serials those at 16 and behind are blank
sixteen : (sets : List ℕ) (xs : List Serial) (j : ℕ) → length sets ≡ 16 → length xs ≡ 16 → (j < 16 → serial_at sets j ≡ member_at xs j) → serial_at sets j ≡ member_at xs j
sixteen sets xs j l m f =
    split (leb 16 j)
    (λ e.
    let b : 16 ≤ j = leb-true 16 j e in
    ap a_serial (get_or-eq_default sets 0 (omega (arith, l, b))) ∙ sym (get_or-eq_default xs blank_serial (omega (arith, m, b))))
    (λ e. f (leb-false 16 j e))

pub returns-clause-members : goal.returns-clause-members
returns-clause-members c =
    let h = c.loop-i.invariant in
    let long : length c.args.xs ≡ 16 = search rules in
    table_same (serial_at c.loop-i.sets) (member_at c.args.xs) c.args.n
    (λ j l. sixteen c.loop-i.sets c.args.xs j h.long long (λ b. h.written j (omega arith)))
