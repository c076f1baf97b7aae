-- A current picture before a full store is refused with 9; else the store drains and its tail is the reply.
use mathlib.Core.Path.{sym, ◌∙◌}
use mathlib.Core.List.{[]}
use Rattle.session.proofs.Saying.{room_now, drain_9, drain_does}
use borrow.Author.Rules.{rules}
use Rattle.session.proofs.calls.drain.Goals as goal

pub returns-then-is_stuck : goal.returns-then-is_stuck
returns-then-is_stuck c =
    λ xs. drain_9 c.before.before.args.front.now xs c.before.before.args.store.now (sym (c.is_stuck.ensures xs) ∙ c.if-is_stuck.true)

pub drain_as-requires : goal.drain_as-requires
drain_as-requires c =
    (room_now c.before.before.args.front.now [] c.before.before.args.store.now (sym (c.is_stuck.ensures []) ∙ c.if-is_stuck.false), search rules)

pub returns : goal.returns
returns c =
    λ xs. drain_does c.before.before.args.front.now xs c.before.before.args.store.now (sym (c.is_stuck.ensures xs) ∙ c.if-is_stuck.false) c.drain_as.ensures
