-- Three runs, one behind the other.
use borrow.Author.Rules.{rules}
use mathlib.Core.Path.{◌≡◌, ap, ◌∙◌}
use mathlib.Core.List.{[], ◌∷◌, ◌++◌}
use mir.Val.{of_z, to_z}
use mir.Syntax.{w32}
use Rattle.paper.specs.Numbers.{bytes32, signed32}
use Rattle.session.proofs.Bytes.{run_on}
use Rattle.session.proofs.replies.put_told.Goals as goal

pub returns : goal.returns
unfolding bytes32
returns c =
    let X = signed32 c.args.t.poc in
    let z : to_z w32 (of_z w32 c.args.t.poc) ≡ c.args.t.poc = search (rules, c.well_formed) in
    let b : c.bits.result ≡ of_z w32 c.args.t.poc = c.bits.ensures ∙ ap (of_z w32) z in
    let e1 = rw b at c.put_u32-a.ensures in
    run_on c.args.d.now c.args.at (X ++ (c.args.t.flags ∷ [])) (bytes32 c.args.t.serial.0) (run_on c.args.d.now c.args.at X (c.args.t.flags ∷ []) e1 c.put_u8-b.ensures) c.put_u32.ensures
