-- What was handed out then is copied behind what was handed out before.
use Prim.Native.Nat.{◌+◌, ◌-◌, ◌≤◌}
use mathlib.Core.Path.{◌≡◌, refl}
use native.Mathlib.Omega.{arith}
use lib.ListN.{length, take, length-take}
use Rattle.derivation.proofs.Pad.{is_long}
use Rattle.std.proofs.lemmas.Slice.{put_mid-paste}
use Rattle.store.proofs.Gone.{joined}
use Rattle.store.proofs.operations.after.Goals as goal

pub returns : goal.returns
returns c =
    let x = c.args.x in
    let y = c.args.y in
    let n : y.shown ≤ length y.handed = omega (arith, is_long c.requires.1.tail.handed, c.requires.1.tail.handed.room) in
    let part : y.shown ≡ x.shown + y.shown - x.shown = omega arith in
    let whole : y.shown ≡ length (take y.shown y.handed) = omega (arith, length-take y.shown y.handed) in
    let put = put_mid-paste x.shown (x.shown + y.shown - x.shown) x.handed c.copy_from_slice.new.self (take y.shown y.handed) y.shown c.copy_from_slice.ensures.after part whole in
    record {
      places = refl;
      len = refl;
      tail = record {
        handed = rw put (joined y.handed y.shown c.requires.0.tail.handed c.requires.2 n);
        thrown = c.requires.1.tail.thrown;
        released = c.requires.1.tail.released;
      };
    }
