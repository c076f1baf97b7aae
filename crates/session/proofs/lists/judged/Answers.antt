-- `judged`: each way out is the first test that fails.
use mathlib.Core.Path.{sym, ◌∙◌}
use Rattle.paper.specs.Records.{slice_of}
use Rattle.derivation.specs.Lists.{refs_in}
use Rattle.session.proofs.Slicing.{Judging, fails_5, fails_10, fails_11, fails_12, passes}
use Rattle.session.proofs.lists.judged.Goals as goal

pub returns-then-not-lists_ranges : goal.returns-then-not-lists_ranges
returns-then-not-lists_ranges c =
    let f = slice_of c.args.msg.now in
    fails_5 (refs_in c.args.sets.now c.args.refs) f (sym (c.lists_ranges.ensures f c.requires.1) ∙ c.if-not-lists_ranges.true)

pub returns-then-x-n : goal.returns-then-x-n
returns-then-x-n c =
    let seen : Judging (refs_in c.args.sets.now c.args.refs) (slice_of c.args.msg.now) c.args.h c.candidate_count-n.result =
    record {
      ok = sym (c.lists_ranges.ensures (slice_of c.args.msg.now) c.requires.1) ∙ c.if-not-lists_ranges.false;
      reads = c.requires.1;
      count = rw (← c.requires.1.own) c.candidate_count-n.ensures;
    }
    in
    fails_10 (seen) c.if-x-n.true

pub returns-then-too_many : goal.returns-then-too_many
returns-then-too_many c =
    let seen : Judging (refs_in c.args.sets.now c.args.refs) (slice_of c.args.msg.now) c.args.h c.candidate_count-n.result =
    record {
      ok = sym (c.lists_ranges.ensures (slice_of c.args.msg.now) c.requires.1) ∙ c.if-not-lists_ranges.false;
      reads = c.requires.1;
      count = rw (← c.requires.1.own) c.candidate_count-n.ensures;
    }
    in
    fails_11 (seen) c.if-x-n.false c.too_many.ensures c.too_many-2.ensures c.if-too_many.true

pub returns-then-bad_entries : goal.returns-then-bad_entries
returns-then-bad_entries c =
    let seen : Judging (refs_in c.args.sets.now c.args.refs) (slice_of c.args.msg.now) c.args.h c.candidate_count-n.result =
    record {
      ok = sym (c.lists_ranges.ensures (slice_of c.args.msg.now) c.requires.1) ∙ c.if-not-lists_ranges.false;
      reads = c.requires.1;
      count = rw (← c.requires.1.own) c.candidate_count-n.ensures;
    }
    in
    fails_12 (seen) c.if-x-n.false c.too_many.ensures c.too_many-2.ensures c.if-too_many.false c.bad_entries.ensures c.if-bad_entries.true

pub returns : goal.returns
returns c =
    let seen : Judging (refs_in c.args.sets.now c.args.refs) (slice_of c.args.msg.now) c.args.h c.candidate_count-n.result =
    record {
      ok = sym (c.lists_ranges.ensures (slice_of c.args.msg.now) c.requires.1) ∙ c.if-not-lists_ranges.false;
      reads = c.requires.1;
      count = rw (← c.requires.1.own) c.candidate_count-n.ensures;
    }
    in
    passes (seen) c.if-x-n.false c.too_many.ensures c.too_many-2.ensures c.if-too_many.false c.bad_entries.ensures c.if-bad_entries.false
