-- Each way out, in the order of the definition.
use mathlib.Core.Path.{◌≡◌, ◌∙◌, ap}
use Rattle.watch.specs.Parts.{number_of}
use Rattle.watch.specs.declared.demand.Part.TheVariants.{BegunWhileCurrent, NotNextSerial, BegunOnHeld, ThrownByBegin}
use Rattle.watch.proofs.Numbers.{same_number}
use Rattle.watch.proofs.Blames.{begins_3, begins_4, begins_5, begins_tail, begins_19, begins_12}
use Rattle.watch.proofs.blamed.started_blame.Goals as goal

pub returns-in-BegunWhileCurrent : goal.returns-in-BegunWhileCurrent
returns-in-BegunWhileCurrent c = c.of_line.ensures ∙ begins_3 (number_of c.args.part) c.args.b c.args.msg.now c.args.reply.now (ap number_of c.in-BegunWhileCurrent.is)

pub returns-in-NotNextSerial : goal.returns-in-NotNextSerial
returns-in-NotNextSerial c =
    begins_4 (number_of c.args.part) c.args.b c.args.msg.now c.args.reply.now c.line_begun-e.result c.line_begun-e.ensures (ap number_of c.in-NotNextSerial.is)

pub returns-in-BegunOnHeld : goal.returns-in-BegunOnHeld
returns-in-BegunOnHeld c =
    c.found.ensures ∙ begins_5 (number_of c.args.part) c.args.b c.args.msg.now c.args.reply.now c.line_begun-e.result c.line_begun-e.ensures (ap number_of c.in-BegunOnHeld.is)

pub returns-in-Err : goal.returns-in-Err
returns-in-Err c =
    let x : number_of c.args.part ≡ 3 → ⊥ = λ e. c.in_default.not-BegunWhileCurrent (same_number c.args.part BegunWhileCurrent e) in
    let y : number_of c.args.part ≡ 4 → ⊥ = λ e. c.in_default.not-NotNextSerial (same_number c.args.part NotNextSerial e) in
    let z : number_of c.args.part ≡ 5 → ⊥ = λ e. c.in_default.not-BegunOnHeld (same_number c.args.part BegunOnHeld e) in
    begins_tail (number_of c.args.part) c.args.b c.args.msg.now c.args.reply.now c.members-n.result c.members-n.ensures.0 x y z c.in-Err.x (rw c.in-Err.is at c.tail.ensures)

pub returns-in-ThrownByBegin : goal.returns-in-ThrownByBegin
returns-in-ThrownByBegin c =
    c.first_thrown.ensures
    ∙ begins_19 (number_of c.args.part) c.args.b c.args.msg.now c.args.reply.now c.members-n.result c.members-n.ensures.0 c.in-Ok.left (rw c.in-Ok.is at c.tail.ensures) (ap number_of c.in-ThrownByBegin.is)

pub returns-in_default-part : goal.returns-in_default-part
returns-in_default-part c =
    let x : number_of c.args.part ≡ 3 → ⊥ = λ e. c.in_default.not-BegunWhileCurrent (same_number c.args.part BegunWhileCurrent e) in
    let y : number_of c.args.part ≡ 4 → ⊥ = λ e. c.in_default.not-NotNextSerial (same_number c.args.part NotNextSerial e) in
    let z : number_of c.args.part ≡ 5 → ⊥ = λ e. c.in_default.not-BegunOnHeld (same_number c.args.part BegunOnHeld e) in
    let u : number_of c.args.part ≡ 19 → ⊥ = λ e. c.in_default-part.not-ThrownByBegin (same_number c.args.part ThrownByBegin e) in
    c.stranger.ensures ∙ begins_12 (number_of c.args.part) c.args.b c.args.msg.now c.args.reply.now c.members-n.result c.members-n.ensures.0 x y z c.in-Ok.left (rw c.in-Ok.is at c.tail.ensures) u
