-- `begin_ranges`: the ranges are those of the fields and those of the entries, and fields in range have at most 16
-- entries behind them.
use Prim.Native.Nat.{◌+◌, ◌^◌, ◌≤◌, min}
use native.Mathlib.Omega.{arith}
use Rattle.session.proofs.Entries.{begin_out, begin_few, begin_on}
use Rattle.session.proofs.records.begin_ranges.Goals as goal

pub returns-then-not-field_ranges : goal.returns-then-not-field_ranges
returns-then-not-field_ranges c =
    begin_out (2 ^ (min c.args.k 16)) c.args.msg.now c.requires c.field_ranges.ensures c.if-not-field_ranges.true

pub longs_all-longs-requires : goal.longs_all-longs-requires
longs_all-longs-requires c =
    let few_behind : c.args.h.neg + c.args.h.pos + c.args.h.lt ≤ 16 =
    begin_few (2 ^ (min c.args.k 16)) c.args.msg.now c.requires c.field_ranges.ensures c.if-not-field_ranges.false
    in
    let few = few_behind in (omega (arith, few), omega (arith, few))

pub shorts_all-requires : goal.shorts_all-requires
shorts_all-requires c =
    let few_behind : c.args.h.neg + c.args.h.pos + c.args.h.lt ≤ 16 =
    begin_few (2 ^ (min c.args.k 16)) c.args.msg.now c.requires c.field_ranges.ensures c.if-not-field_ranges.false
    in
    let few = few_behind in (omega (arith, few), omega (arith, few))

pub shorts_all-requires-2 : goal.shorts_all-requires-2
shorts_all-requires-2 c =
    let few_behind : c.args.h.neg + c.args.h.pos + c.args.h.lt ≤ 16 =
    begin_few (2 ^ (min c.args.k 16)) c.args.msg.now c.requires c.field_ranges.ensures c.if-not-field_ranges.false
    in
    let few = few_behind in (omega (arith, few), omega (arith, few))

pub returns : goal.returns
returns c =
    begin_on (2 ^ (min c.args.k 16)) c.args.msg.now c.requires c.field_ranges.ensures c.if-not-field_ranges.false c.longs_all-longs.ensures c.shorts_all.ensures c.shorts_all-2.ensures
