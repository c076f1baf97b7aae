-- The word behind the places is no picture's.
use native.Mathlib.Omega.{arith}
use Prim.Native.Nat.{◌≤◌}
use lib.ListN.{length}
use Rattle.store.proofs.StoreWords.{used_is}
use Rattle.store.proofs.Tidy.{used_normal}
use Rattle.store.proofs.words.set_used.Goals as goal

pub returns : goal.returns
returns c =
    let room : 97 ≤ length c.args.store.now = omega arith in record { pics = used_is c.args.store.now c.args.n room c.requires; normal = used_normal c.args.store.now c.args.n room c.requires }
