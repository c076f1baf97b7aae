-- The short-term wishes stand first, neg before pos, and the long-term ones behind them leave them so.
use Prim.Native.Nat.{◌^◌, min}
use mir.Facts.{to_z-of_z}
use Rattle.std.proofs.lemmas.Result.{err_from_is_err_and}
use Rattle.session.proofs.Wishing.{lacks_wishes, holds_wishes}
use Rattle.session.proofs.records.wishes.Goals as goal

pub returns-in_err-want_shorts : goal.returns-in_err-want_shorts
returns-in_err-want_shorts c =
    let e = err_from_is_err_and c.from_residual.result c.from_residual.ensures.1 in
    rw e.1 (lacks_wishes (2 ^ (min c.args.k 16)) c.args.poc c.args.msg.now c.requires.0 (to_z-of_z c.ranges.poc) (rw c.in_err-want_shorts.was at c.want_shorts.ensures))

pub returns : goal.returns
returns c =
    holds_wishes (2 ^ (min c.args.k 16)) c.args.poc c.args.msg.now c.requires.0 (to_z-of_z c.ranges.poc) (rw c.in_ok-want_shorts.was at c.want_shorts.ensures) c.want_longs.ensures
