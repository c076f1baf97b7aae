-- What holds of a pool of n surfaces that some calls reached, hs being the calls and their answers: it holds of a made
-- pool, and no call breaks it (Reaching).
use Prim.Native.Nat.{ℕ, ◌≤◌}
use mathlib.Core.Path.{◌≡◌}
use mathlib.Core.List.{List}
use mathlib.Core.Bool.{true}
use Rattle.paper.specs.Words.{all_b}
use Rattle.paper.specs.Reading.{opening}
use Rattle.paper.specs.Ledger.{blank, told}
use Rattle.paper.specs.Statement.{Kept, ledger_of}
use Rattle.paper.proofs.Sound.{Sound}
use Rattle.pool.specs.Pool.{Pool, no_surface, can_make, made}
use Rattle.pool.specs.History.{Call, Heard, BytesIn, heard_from, after_all, carried_all, exchanges_in}
use Rattle.pool.specs.Statement.{Agrees, Pends}

pub record Reached (n : ℕ) (p : Pool) (hs : List Heard) : Type 0 where
  pub kept : Kept (exchanges_in opening hs)
  pub true_to : told blank (exchanges_in opening hs) ≡ ledger_of p.session
  pub surfaces : p.surfaces ≡ n
  pub agrees : Agrees p
  pub pends : Pends p hs
  pub few : p.surfaces ≤ no_surface
  pub sound : Sound p.session
  pub reading : carried_all opening hs ≡ p.reading

-- after any calls from a made pool
abbrev pub AlwaysReached : Type 0
AlwaysReached = (n : ℕ) → can_make n ≡ true → (cs : List Call) → all_b BytesIn cs ≡ true → Reached n (after_all (made n) cs) (heard_from (made n) cs)
