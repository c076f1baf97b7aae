-- One reply put behind those that are there: any room from 512 bytes on gives the same reply, and it ends within the
-- room.
use Prim.Native.Nat.{ℕ, ◌+◌, ◌-◌, ◌≤◌}
use mathlib.Core.Path.{◌≡◌, ap, ◌∙◌}
use mathlib.Core.List.{List, ◌++◌}
use native.Mathlib.Omega.{arith}
use lib.ListN.{length, take, drop, length-drop}
use lib.Seq.{length-take-le}
use borrow.Author.Tests.{le-ltb}
use Rattle.wire.specs.Bytes.{over}
use Rattle.paper.specs.State as P
use Rattle.paper.specs.Step.{Result, step_of}
use Rattle.session.specs.declared.Answer.{Answer}
use Rattle.session.specs.Said.{Permitted}
use Rattle.session.specs.View.{Memory, session_in}
use Rattle.stream.proofs.Laying.{laid_part}
use Rattle.filter.specs.Answers.{Added}
use Rattle.replay.specs.Machine.{sessions}
use Rattle.replay.proofs.Fitting.{reply_fits}

-- any room from 512 bytes on gives the same
same_room : (v : P.Session) (r : List ℕ) (room : ℕ) → 512 ≤ room → step_of v r room ≡ step_of v r 512
unfolding step_of
same_room v r room h = rw (le-ltb room 512 h)

module _ {m m' : Memory} {r part : List ℕ} {a : Answer} (made : ℕ) (before : List ℕ) (h : made + 512 ≤ length before)
    (same : length part ≡ length (take (length before - made) (drop made before))) (p : Permitted m r (take (length before - made) (drop made before)) a m' part) where
  mid : List ℕ
  mid = take (length before - made) (drop made before)

  room : length mid ≡ length before - made
  unfolding mid
  room = length-take-le (length before - made) (drop made before) (simp length-drop (omega arith))

  said : List ℕ
  said = (step_of (session_in m) r 512).bytes

  same_step : step_of (session_in m) r (length mid) ≡ step_of (session_in m) r 512
  same_step = let k = room in same_room (session_in m) r (length mid) (omega arith)

  bytes_are : (step_of (session_in m) r (length mid)).bytes ≡ said
  unfolding said
  bytes_are = ap (λ (x : Result). x.bytes) same_step

  len_is : a.len ≡ length said
  unfolding said mid
  len_is = ap (λ (x : Answer). x.len) p.answer ∙ ap length bytes_are

  pub added : Added sessions (session_in m) r made before a.len (session_in m') (take made before ++ (part ++ drop (length before - made) (drop made before)))
  unfolding said mid
  added =
      let k = reply_fits p same in
      let q = room in
      record {
        fits = omega arith;
        long = len_is;
        bytes = laid_part made (length before - made) said before (omega (arith, len_is)) (p.bytes ∙ ap (λ (x : List ℕ). over x mid) bytes_are);
        next = p.next ∙ ap (λ (x : Result). x.next) same_step;
      }
