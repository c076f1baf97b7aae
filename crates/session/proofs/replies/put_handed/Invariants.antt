use Rattle.paper.specs.Kinds.{shown_width}
use Rattle.paper.specs.Replies.{shown_bytes}
use Rattle.session.proofs.Bytes.{Written}
use Rattle.session.proofs.replies.put_handed.Given as goal

abbrev pub invariant-loop-p : goal.invariant-loop-p
invariant-loop-p l = Written shown_bytes shown_width l.xs l.initial.d l.initial.end l.p-index l.end l.d
