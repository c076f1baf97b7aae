-- `listed`: an accepted record has what its lists are built from, and they are written as they stand.
use mathlib.Core.Path.{◌≡◌}
use native.Mathlib.Omega.{arith}
use Rattle.paper.specs.Records.{slice_of, entries0, entries1}
use Rattle.paper.specs.RefLists.{list0, list1}
use Rattle.derivation.specs.Lists.{refs_in, HoldsList}
use Rattle.session.proofs.Slicing.{laid, count_0, count_1, entries_0, entries_1, ready_0, ready_1, held_0, held_1, listable, says_listed}
use Rattle.session.proofs.lists.listed.Goals as goal

pub slice_bounds-entries0-end : goal.slice_bounds-entries0-end
slice_bounds-entries0-end c =
    let k : c.entry_count-a.result ≡ entries0 c.args.msg.now =
    count_0 c.args.msg.now c.requires.1.ask0 c.entry_count-a.ensures
    in
    let m : c.entry_count.result ≡ entries1 c.args.msg.now =
    count_1 c.args.msg.now c.requires.1.ask1 c.entry_count.ensures
    in
    let l = laid c.args.msg.now c.requires.0 in omega arith

pub slice_bounds-asked_list-end : goal.slice_bounds-asked_list-end
slice_bounds-asked_list-end c =
    let k : c.entry_count-a.result ≡ entries0 c.args.msg.now =
    count_0 c.args.msg.now c.requires.1.ask0 c.entry_count-a.ensures
    in
    let m : c.entry_count.result ≡ entries1 c.args.msg.now =
    count_1 c.args.msg.now c.requires.1.ask1 c.entry_count.ensures
    in
    let l = laid c.args.msg.now c.requires.0 in omega arith

pub put_lists-requires : goal.put_lists-requires
put_lists-requires c =
    (listable c.asked_list-x.result _ c.asked_list-x.ensures, listable c.asked_list-y.result _ c.asked_list-y.ensures, c.requires.3)

pub returns : goal.returns
returns c =
    let k : c.entry_count-a.result ≡ entries0 c.args.msg.now =
    count_0 c.args.msg.now c.requires.1.ask0 c.entry_count-a.ensures
    in
    let m : c.entry_count.result ≡ entries1 c.args.msg.now =
    count_1 c.args.msg.now c.requires.1.ask1 c.entry_count.ensures
    in
    let es = entries_0 c.args.msg.now c.requires.0 k in
    let us = entries_1 c.args.msg.now c.requires.0 k m in
    let x : HoldsList c.asked_list-x.result (list0 (refs_in c.args.sets.now c.args.refs) c.args.c (slice_of c.args.msg.now)) =
    held_0 (refs_in c.args.sets.now c.args.refs) c.args.c (slice_of c.args.msg.now) c.asked_list-x.result c.requires.1.own c.requires.1.ask0 es
    c.candidate_count-n.ensures c.ends_with_own-last.ensures (λ u. ready_0 c.args.msg.now c.requires.2 c.requires.1.own c.requires.1.ask0 u es) c.asked_list-x.ensures
    in
    let y : HoldsList c.asked_list-y.result (list1 (refs_in c.args.sets.now c.args.refs) c.args.c (slice_of c.args.msg.now)) =
    held_1 (refs_in c.args.sets.now c.args.refs) c.args.c (slice_of c.args.msg.now) c.asked_list-y.result c.requires.1.own c.requires.1.ask1 us
    (λ u. ready_1 c.args.msg.now c.requires.2 c.requires.1.own c.requires.1.ask1 u us) c.asked_list-y.ensures
    in
    says_listed x y c.put_lists.ensures
