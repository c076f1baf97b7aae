-- Three runs of four bytes, one behind the other.
use borrow.Author.Rules.{rules}
use mathlib.Core.Path.{◌≡◌, ap, ◌∙◌}
use mathlib.Core.List.{◌++◌}
use mir.Val.{of_z, to_z}
use mir.Syntax.{w32}
use Rattle.paper.specs.Numbers.{bytes32, signed32}
use Rattle.session.proofs.Bytes.{run_on}
use Rattle.session.proofs.replies.put_shown.Goals as goal

pub returns : goal.returns
unfolding bytes32
returns c =
    let X = bytes32 c.args.p.serial.0 in
    let Y = bytes32 c.args.p.surface.0 in
    let z : to_z w32 (of_z w32 c.args.p.poc) ≡ c.args.p.poc = search (rules, c.well_formed) in
    let b : c.bits.result ≡ of_z w32 c.args.p.poc = c.bits.ensures ∙ ap (of_z w32) z in
    let e3 = rw b at c.put_u32.ensures in
    run_on c.args.d.now c.args.at (X ++ Y) (signed32 c.args.p.poc) (run_on c.args.d.now c.args.at X Y c.put_u32-a.ensures c.put_u32-b.ensures) e3
