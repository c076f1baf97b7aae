-- Three counted runs, one behind the other.
use Prim.Native.Nat.{◌+◌, ◌*◌}
use mathlib.Core.Path.{◌≡◌}
use mathlib.Core.List.{◌∷◌, ◌++◌}
use native.Mathlib.Omega.{arith}
use lib.ListN.{length, take}
use Rattle.paper.specs.Words.{flat}
use Rattle.paper.specs.Numbers.{serial_nos, surface_nos}
use Rattle.paper.specs.Kinds.{shown_width}
use Rattle.paper.specs.Replies.{shown_bytes, words, tail_bytes}
use Rattle.paper.specs.declared.Serial.{Serial}
use Rattle.paper.specs.declared.Surface.{Surface}
use Rattle.derivation.specs.Pad.{used}
use Rattle.wire.proofs.Flat.{length_flat}
use Rattle.session.proofs.Bytes.{run, run_on, length_words, length_shown}
use Rattle.session.proofs.replies.put_tail.Goals as goal

pub returns : goal.returns
unfolding tail_bytes used
returns c =
    let hs = take c.args.m.shown c.args.m.handed in
    let ts = take c.args.m.dropped c.args.m.thrown in
    let rs = take c.args.m.freed c.args.m.released in
    let X = length hs ∷ flat shown_bytes hs in
    let Y = length ts ∷ words (serial_nos ts) in
    let Z = length rs ∷ words (surface_nos rs) in
    let x : length X ≡ 1 + shown_width * length hs = omega (arith, length_flat shown_bytes shown_width length_shown hs) in
    let y : length Y ≡ 1 + 4 * length ts = omega (arith, length_words (λ (n : Serial). n.0) ts) in
    let z : length Z ≡ 1 + 4 * length rs = omega (arith, length_words (λ (n : Surface). n.0) rs) in
    let e1 = run c.args.d.now c.args.at X x c.put_handed-a.ensures in
    let e2 = run_on c.args.d.now c.args.at X Y e1 (run c.put_handed-a.new.d c.put_handed-a.result Y y c.put_counted-b.ensures) in
    run_on c.args.d.now c.args.at (X ++ Y) Z e2 (run c.put_counted-b.new.d c.put_counted-b.result Z z c.put_counted.ensures)
