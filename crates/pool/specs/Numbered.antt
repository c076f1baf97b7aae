-- The refusals of the pool, with the number for each: "18, given exactly if no surface is free"; "19, a return for a
-- surface with none pending or not in the pool"; "20, a pool asked for with 0 or more than 64 surfaces".
use Rattle.std.specs.Prelude.{ℕ, Result, Ok, Err}
use Rattle.pool.specs.declared.Refusal.{Refusal}
use Rattle.pool.specs.declared.Refusal.TheVariants.{NoneFree, NonePending, BadCount}

abbrev pub number_of : Refusal → ℕ
number_of NoneFree = 18
number_of NonePending = 19
number_of BadCount = 20

-- the number that a host is told: 0 where the call was accepted
abbrev pub number_in : Result (Unit {0}) Refusal → ℕ
number_in (Ok u) = 0
number_in (Err r) = number_of r
