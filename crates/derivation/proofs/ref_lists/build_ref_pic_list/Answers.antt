-- `derivation::ref_lists::build_ref_pic_list`: no place where the candidates cannot fill the list; else the places, and
-- the last of them where that is asked.
use mathlib.Core.Path.{◌≡◌, ◌∙◌}
use mathlib.Core.Bool.{true, false}
use lib.ListN.{length}
use Rattle.std.proofs.Common.{rules}
use Rattle.derivation.specs.Lists.{can_fill}
use Rattle.derivation.proofs.Runs.{fills, built_none, built_some, none_held, holds_last}
use Rattle.derivation.proofs.ref_lists.build_ref_pic_list.Goals as goal

pub returns-then-not-can_fill : goal.returns-then-not-can_fill
returns-then-not-can_fill c =
    let g = c.args in
    let none : can_fill c.candidate_count-n.result c.args.active c.args.modify (length c.args.entries.now) ≡ false = search rules in
    none_held c.no_list.result _ c.no_list.ensures
    (built_none g.c g.second g.last g.active g.modify g.entries.now c.candidate_count-n.ensures none)

pub returns-then-last : goal.returns-then-last
returns-then-last c =
    let g = c.args in
    let p = c.places-l in
    let fill : can_fill c.candidate_count-n.result c.args.active c.args.modify (length c.args.entries.now) ≡ true = search rules in
    rw (built_some g.c g.second g.last g.active g.modify g.entries.now c.candidate_count-n.ensures fill, c.if-last.true)
    (rw c.from-active.ensures (holds_last p.result _ g.active g.c (rw c.from-active.ensures at p.ensures.holds) (p.ensures.len ∙ c.from-active.ensures) (fills c.candidate_count-n.result g.active g.modify (length g.entries.now) fill).least))

pub returns-else-last : goal.returns-else-last
returns-else-last c =
    let g = c.args in
    let fill : can_fill c.candidate_count-n.result c.args.active c.args.modify (length c.args.entries.now) ≡ true = search rules in
    rw (built_some g.c g.second g.last g.active g.modify g.entries.now c.candidate_count-n.ensures fill, c.if-last.false)
    (rw c.from-active.ensures at c.places-l.ensures.holds)
