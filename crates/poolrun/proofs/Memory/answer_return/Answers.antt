-- The head alone is the answer.
use Rattle.std.proofs.Common.{ℕ, subst}
use Rattle.session.specs.View.{memory}
use Rattle.pool.specs.Numbered.{number_in}
use Rattle.pool.specs.Said.{GivesBack}
use Rattle.poolrun.proofs.Answering.{returned, returns_surface}
use Rattle.poolrun.proofs.Memory.answer_return.Goals as goal

pub returns : goal.returns
returns c =
    let a = c.args in
    let s = a.self.now in
    let g = c.give_back-answer in
    let of-call = subst (λ (x : ℕ). GivesBack s.pool x (number_in g.result) g.new.pool) c.u32_at-surface.ensures g.ensures in
    returned a.made a.out.now c.requires.1 (returns_surface a.call.now c.requires.0) of-call (rw c.number-number.ensures at c.put_head.ensures) (memory s.front s.sets s.store)
