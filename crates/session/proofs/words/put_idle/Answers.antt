-- What is read after the writes is that no picture is current, and the previous Tid0 picture that was given.
use native.Mathlib.Omega.{arith}
use borrow.Author.Rules.{rules}
use mathlib.Core.Path.{◌≡◌, ap, ◌∙◌}
use mir.ValLaws.{to_z-of_z}
use mir.Val.{SFits, of_z}
use mir.Syntax.{w32}
use Rattle.session.proofs.Fronts.{front_none, front_tid0, words_none, words_tid0}
use Rattle.session.proofs.words.put_idle.Goals as goal

pub returns-in-None : goal.returns-in-None
returns-in-None c = rw c.in-None.is (record { front = front_none c.args.h.now (omega arith); words = λ f e. words_none c.args.h.now f e })

pub returns-in-Some : goal.returns-in-Some
returns-in-Some c =
    let m : SFits w32 c.in-Some.p.msb = search rules in
    let b : c.bits.result ≡ of_z w32 c.in-Some.p.msb = c.bits.ensures ∙ ap (of_z w32) (to_z-of_z w32 c.in-Some.p.msb m) in rw (c.in-Some.is, b)
    (record { front = front_tid0 c.args.h.now (omega arith) c.in-Some.p.lsb c.in-Some.p.msb (search rules) m; words = λ f e. words_tid0 c.args.h.now f e c.in-Some.p.lsb c.in-Some.p.msb })
