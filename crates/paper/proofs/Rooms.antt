-- Calls with any reply buffer: one under 512 bytes changes nothing and writes nothing, the others are as with 512.
use Prim.Native.Nat.{ℕ, ◌<◌}
use mathlib.Core.Path.{◌≡◌, refl, ap, ◌∙◌}
use mathlib.Core.List.{List, [], ◌∷◌}
use mathlib.Core.Bool.{true, false}
use lib.Dec.{ltb}
use borrow.Author.Tests.{lt-ltb}
use Rattle.paper.specs.Numbers.{reply_limit}
use Rattle.paper.specs.State.{Session}
use Rattle.paper.specs.Step.{Result, step_of, session_after, Call, after_calls, answered_of}
use Rattle.paper.proofs.Bools.{split}

small_room : (s : Session) (r : List ℕ) (room : ℕ) → ltb room reply_limit ≡ true → step_of s r room ≡ record { number = 14; bytes = []; next = s }
unfolding step_of
small_room s r room e = rw e

pub large_room : (s : Session) (r : List ℕ) (room : ℕ) → ltb room reply_limit ≡ false → step_of s r room ≡ step_of s r reply_limit
unfolding step_of
large_room s r room e = rw e

-- "under a reply buffer that is too small nothing is written"
pub nothing_written : (s : Session) (r : List ℕ) (room : ℕ) → room < 512 → step_of s r room ≡ record { number = 14; bytes = []; next = s }
nothing_written s r room h = small_room s r room (lt-ltb room 512 h)

pub any_room : (s : Session) (cs : List Call) → after_calls s cs ≡ session_after s (answered_of cs)
unfolding after_calls answered_of session_after
any_room s [] = refl
any_room s (c ∷ cs) =
    split (ltb c.room reply_limit)
    (λ e. rw e (ap (λ (x : Result). after_calls x.next cs) (small_room s c.said c.room e) ∙ any_room s cs))
    (λ e. rw e (ap (λ (x : Result). after_calls x.next cs) (large_room s c.said c.room e) ∙ any_room (step_of s c.said reply_limit).next cs))
