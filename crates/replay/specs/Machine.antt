-- The session as a machine that answers records: "reads records from standard input and writes the replies".
use Rattle.paper.specs.Numbers.{reply_limit}
use Rattle.paper.specs.State.{Session}
use Rattle.paper.specs.Step.{step_of}
use Rattle.session.specs.View.{memory, session_in}
use Rattle.filter.specs.Machine.{Machine}
use Rattle.replay.specs.declared.Memory.{Memory}

-- each record gets its reply, with room enough
abbrev pub sessions : Machine Session
sessions = record { out = λ s r. (step_of s r reply_limit).bytes; next = λ s r. (step_of s r reply_limit).next }

-- the session that the program's memory is
abbrev pub session_of : Memory → Session
session_of m = session_in (memory m.front m.sets m.store)
