-- The reply goes into the part of the buffer that is free.
use Rattle.replay.proofs.Answering.{added}
use Rattle.replay.proofs.MemoryMachine.answer.Goals as goal

pub returns : goal.returns
returns c =
    added c.args.made c.args.replies.now c.requires.1 c.step.auto.reply c.step.ensures
