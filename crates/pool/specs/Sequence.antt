-- A run of calls of the code from a pool that `make` made: what each call was lent, answered and left.
use Rattle.std.specs.Prelude.{ℕ, ◌≡◌, List, [], ◌∷◌, length, take}
use Rattle.pool.specs.declared.Given as Code
use Rattle.pool.specs.Pool.{no_surface, made, number_at}
use Rattle.pool.specs.History.{Call, Lends, Returns, Heard, after_all, heard_from}
use Rattle.pool.specs.Memory.{PoolMemory, pool_in}
use Rattle.pool.specs.Said.{Permitted, GivesBack}

-- a record that `step` was lent, with the buffer before and after, or a surface that `give_back` was told
pub data Called : Type 0 where
  Stepped : List ℕ → List ℕ → Code.Given → List ℕ → Called
  Gave : ℕ → ℕ → Called

abbrev pub Did : PoolMemory → Called → PoolMemory → Type 0
Did m (Stepped r before a after) m' = Permitted m r before a m' after
Did m (Gave x number) m' = GivesBack m.words x number m'.words × (m'.memory ≡ m.memory)

pub record One : Type 0 where
  pub called : Called
  pub left : PoolMemory

-- from memory m these calls, each on the memory that the one before it left, end in m'
abbrev pub Run : PoolMemory → List One → PoolMemory → Type 0
Run m [] m' = m ≡ m'
Run m (x ∷ xs) m' = Did m x.called x.left × Run x.left xs m'

-- the definitions' call, and what somebody hears of it: the number, as many bytes of the buffer as the call says, and
-- the surface
abbrev pub call_of : Called → Call
call_of (Stepped r before a after) = Lends r (length before)
call_of (Gave x number) = Returns x

abbrev pub heard_of : Called → Heard
heard_of (Stepped r before a after) =
    record {
      call = Lends r (length before);
      answer = record { number = a.number; bytes = take a.len after; surface = number_at a.surface };
    }
heard_of (Gave x number) =
    record {
      call = Returns x;
      answer = record { number = number; bytes = []; surface = no_surface };
    }

abbrev pub calls_of : List One → List Call
calls_of [] = []
calls_of (x ∷ xs) = call_of x.called ∷ calls_of xs

abbrev pub heard_in : List One → List Heard
heard_in [] = []
heard_in (x ∷ xs) = heard_of x.called ∷ heard_in xs

-- THE CODE'S OWN BYTES: what is heard of its calls is what the definitions say of a pool of n surfaces, and the memory
-- is the pool that they leave
pub record Follows (n : ℕ) (xs : List One) (m : PoolMemory) : Type 0 where
  pub heard : heard_in xs ≡ heard_from (made n) (calls_of xs)
  pub pool : pool_in m ≡ after_all (made n) (calls_of xs)
