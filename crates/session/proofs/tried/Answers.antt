-- By the kind that was read; where there is none the record is malformed.
use mathlib.Core.Path.{refl}
use Rattle.format.specs.declared.kinds.Kind.TheVariants.{Configure, Lists, Finish, Drain, Discard, End, Abandon}
use Rattle.session.proofs.Steps.{lists_do, goes_not, goes, goes_begin}
use Rattle.std.proofs.Common.{rules}
use Rattle.session.proofs.tried.Goals as goal

pub returns-in-Some-Configure : goal.returns-in-Some-Configure
returns-in-Some-Configure c = goes c.args.surface c.args.msg.now c.requires.0 Configure refl (search rules) (c.configure.ensures _)

pub returns-in-Some-Begin : goal.returns-in-Some-Begin
returns-in-Some-Begin c =
    goes_begin c.args.surface c.args.msg.now c.requires.0 (search rules) (search rules) c.begin.ensures

pub returns-in-Some-Lists : goal.returns-in-Some-Lists
returns-in-Some-Lists c = goes c.args.surface c.args.msg.now c.requires.0 Lists refl (search rules) (lists_do _ _ _ (c.lists.ensures _))

pub returns-in-Some-Finish : goal.returns-in-Some-Finish
returns-in-Some-Finish c = goes c.args.surface c.args.msg.now c.requires.0 Finish refl (search rules) (c.finish.ensures _)

pub returns-in-Some-Drain : goal.returns-in-Some-Drain
returns-in-Some-Drain c = goes c.args.surface c.args.msg.now c.requires.0 Drain refl (search rules) (c.drain.ensures _)

pub returns-in-Some-Discard : goal.returns-in-Some-Discard
returns-in-Some-Discard c = goes c.args.surface c.args.msg.now c.requires.0 Discard refl (search rules) (c.discard.ensures _)

pub returns-in-Some-End : goal.returns-in-Some-End
returns-in-Some-End c = goes c.args.surface c.args.msg.now c.requires.0 End refl (search rules) (c.end.ensures _ _)

pub returns-in-Some-Abandon : goal.returns-in-Some-Abandon
returns-in-Some-Abandon c = goes c.args.surface c.args.msg.now c.requires.0 Abandon refl (search rules) (c.abandon.ensures _ _)

pub returns-in-None : goal.returns-in-None
returns-in-None c = goes_not c.args.surface c.args.msg.now c.requires.0 c.in-None.is
