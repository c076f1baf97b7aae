-- What is made stays within the buffer.
use Prim.Native.Nat.{ℕ, ◌≤◌}
use mathlib.Core.Path.{◌≡◌, sym, ap, ◌∙◌}
use mathlib.Core.List.{List}
use native.Mathlib.Omega.{arith}
use lib.ListN.{length}
use Rattle.paper.specs.Step.{step_of}
use Rattle.session.specs.declared.Answer.{Answer}
use Rattle.session.specs.Said.{Permitted}
use Rattle.session.specs.View.{Memory, session_in}
use Rattle.filter.proofs.Fitting.{over_longest}

-- a reply ends within the room that was lent
pub reply_fits : {m m' : Memory} {r before : List ℕ} {a : Answer} {after : List ℕ} → Permitted m r before a m' after → length after ≡ length before → a.len ≤ length before
reply_fits {m} {m'} {r} {before} {a} {after} p e =
    let b = (step_of (session_in m) r (length before)).bytes in
    let h : length b ≤ length before = over_longest b before (sym (ap length p.bytes) ∙ e) in
    let k : a.len ≡ length b = ap (λ (x : Answer). x.len) p.answer in
    omega arith
