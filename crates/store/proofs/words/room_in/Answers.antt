-- The lesser of the capacity and 16 is compared with how many are stored.
use Prim.Native.Nat.{min}
use mathlib.Core.Path.{◌≡◌}
use mathlib.Core.Bool.{true, false}
use native.Mathlib.Omega.{arith}
use lib.Dec.{leb}
use lib.ListN.{length}
use borrow.Author.Tests.{le-leb, lt-leb}
use Rattle.store.specs.StoreWords.{stored}
use Rattle.store.proofs.StoreWords.{used_length}
use Rattle.store.proofs.words.room_in.Goals as goal

pub returns-then-most-used_places : goal.returns-then-most-used_places
returns-then-most-used_places c =
    let t = c.args.store.now in
    let e : leb (min c.args.l.capacity 16) (length (stored t)) ≡ true = le-leb _ _ (omega (arith, used_length t)) in record { answer = rw e; number = rw e }

pub returns : goal.returns
returns c =
    let t = c.args.store.now in
    let e : leb (min c.args.l.capacity 16) (length (stored t)) ≡ false = lt-leb _ _ (omega (arith, used_length t)) in record { answer = rw e; number = rw e }
