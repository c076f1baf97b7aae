-- `bad_entries`: the two parts of the record are the entry bytes of the two lists.
use Prim.Native.Nat.{ℕ}
use mathlib.Core.Path.{◌≡◌, ap, ap₂, ◌∙◌}
use mathlib.Core.List.{List}
use mathlib.Core.Bool.{Bool, ◌||◌}
use native.Mathlib.Omega.{arith}
use lib.Dec.{leb}
use Rattle.paper.specs.Words.{any_b}
use Rattle.paper.specs.Records.{entries0, entries1}
use Rattle.session.proofs.Slicing.{laid, count_0, count_1, entries_0, entries_1}
use Rattle.session.proofs.lists.bad_entries.Goals as goal

pub slice_bounds-bad_entry-end : goal.slice_bounds-bad_entry-end
slice_bounds-bad_entry-end c =
    let first_count : c.entry_count-a.result ≡ entries0 c.args.msg.now =
    count_0 c.args.msg.now c.requires.1.ask0 c.entry_count-a.ensures
    in
    let second_count : c.entry_count.result ≡ entries1 c.args.msg.now =
    count_1 c.args.msg.now c.requires.1.ask1 c.entry_count.ensures
    in
    let k = first_count in let m = second_count in let l = laid c.args.msg.now c.requires.0 in omega arith

pub slice_bounds-bad_entry-end-2 : goal.slice_bounds-bad_entry-end-2
slice_bounds-bad_entry-end-2 c =
    let first_count : c.entry_count-a.result ≡ entries0 c.args.msg.now =
    count_0 c.args.msg.now c.requires.1.ask0 c.entry_count-a.ensures
    in
    let second_count : c.entry_count.result ≡ entries1 c.args.msg.now =
    count_1 c.args.msg.now c.requires.1.ask1 c.entry_count.ensures
    in
    let k = first_count in let m = second_count in let l = laid c.args.msg.now c.requires.0 in omega arith

pub returns : goal.returns
returns c =
    let first_count : c.entry_count-a.result ≡ entries0 c.args.msg.now =
    count_0 c.args.msg.now c.requires.1.ask0 c.entry_count-a.ensures
    in
    let second_count : c.entry_count.result ≡ entries1 c.args.msg.now =
    count_1 c.args.msg.now c.requires.1.ask1 c.entry_count.ensures
    in
    let m = first_count in
    let n = second_count in
    let bad : List ℕ → Bool = any_b (λ (e : ℕ). leb c.args.n e) in
    ap₂ (λ (p q : Bool). p || q) (c.bad_entry.ensures ∙ ap bad (entries_0 c.args.msg.now c.requires.0 m)) (c.bad_entry-2.ensures ∙ ap bad (entries_1 c.args.msg.now c.requires.0 m n))
