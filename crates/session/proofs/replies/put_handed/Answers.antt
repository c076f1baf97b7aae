-- The count, and then each turn writes one picture of twelve bytes behind those before it.
use mathlib.Core.Path.{refl}
use Rattle.paper.specs.Kinds.{shown_width}
use Rattle.paper.specs.Replies.{shown_bytes}
use Rattle.store.specs.Tails.{no_shown}
use Rattle.session.proofs.Bytes.{written_none, written_more, length_shown}
use Rattle.session.proofs.replies.put_handed.Goals as goal

pub loop-p-init : goal.loop-p-init
loop-p-init c = written_none shown_bytes shown_width length_shown c.args.xs.now c.put_u8-end.new.d c.put_u8-end.result

pub loop-p-preserved : goal.loop-p-preserved
loop-p-preserved c = written_more shown_bytes shown_width length_shown _ no_shown c.loop-p.invariant c.loop-p-test.true refl c.put_shown-end.ensures c.put_shown-end.auto.d
