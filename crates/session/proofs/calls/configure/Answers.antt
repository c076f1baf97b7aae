-- Limits out of range give 2 and a current picture before a full store 9; else the store drains under the old limits
-- and the new ones are taken.
use mathlib.Core.Path.{◌≡◌, sym, ap, ◌∙◌}
use mathlib.Core.List.{[]}
use mathlib.Core.Bool.{true}
use Rattle.paper.specs.Records.{limits_of}
use Rattle.paper.specs.Ranges.{configure_ranges}
use Rattle.paper.specs.State.{taken16}
use Rattle.session.proofs.Ways.{ranges_are}
use Rattle.session.proofs.Saying.{room_now, configure_2, configure_9, configure_does, idles}
use borrow.Author.Rules.{rules}
-- the limits of the record are in range
use Rattle.session.proofs.calls.configure.Goals as goal

pub returns-then-not-configure_ranges : goal.returns-then-not-configure_ranges
returns-then-not-configure_ranges c =
    λ xs. configure_2 c.args.front.now xs c.args.store.now (limits_of c.args.msg.now) (ranges_are c.limits_of-l.ensures c.configure_ranges.ensures c.if-not-configure_ranges.true)

pub returns-then-is_stuck : goal.returns-then-is_stuck
returns-then-is_stuck c =
    let fine : configure_ranges (limits_of c.args.msg.now) ≡ true =
    ranges_are c.limits_of-l.ensures c.configure_ranges.ensures c.if-not-configure_ranges.false
    in
    λ xs. configure_9 c.before.before.args.front.now xs c.before.before.args.store.now (limits_of c.before.before.args.msg.now) (fine) (sym (c.is_stuck.ensures xs) ∙ c.if-is_stuck.true)

pub drain_as-len-requires : goal.drain_as-len-requires
drain_as-len-requires c =
    (room_now c.before.before.args.front.now [] c.before.before.args.store.now (sym (c.is_stuck.ensures []) ∙ c.if-is_stuck.false), search rules)

pub returns : goal.returns
returns c =
    let fine : configure_ranges (limits_of c.args.msg.now) ≡ true =
    ranges_are c.limits_of-l.ensures c.configure_ranges.ensures c.if-not-configure_ranges.false
    in
    λ xs.
    configure_does c.before.before.args.front.now xs c.before.before.args.store.now (limits_of c.before.before.args.msg.now) c.put_idle.new.h (fine) (sym (c.is_stuck.ensures xs) ∙ c.if-is_stuck.false) c.drain_as-len.ensures (idles (c.put_idle.ensures.front, c.put_idle.ensures.words))
    c.put_limits.ensures.front c.put_limits.ensures.words (c.taken_limits.ensures ∙ ap taken16 c.limits_of-l.ensures)
