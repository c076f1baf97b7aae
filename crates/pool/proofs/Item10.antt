-- Item 10 as it is asked for: all that is promised holds of a pool after any calls from a made one, and of the code's
-- own bytes.
use Prim.Native.Nat.{ℕ}
use mathlib.Core.Path.{◌≡◌}
use mathlib.Core.List.{List}
use mathlib.Core.Bool.{true}
use Rattle.paper.specs.Words.{all_b}
use Rattle.pool.specs.Pool.{can_make, made}
use Rattle.pool.specs.History.{BytesIn, heard_from, after_all}
use Rattle.pool.specs.Statement.{Promises, Item10}
use Rattle.pool.specs.Memory.{PoolMemory, pool_in}
use Rattle.pool.specs.Sequence.{One, Run, calls_of, heard_in, Follows}
use Rattle.pool.proofs.Reaching.{reached}
use Rattle.pool.proofs.Promising.{promised}
use Rattle.pool.proofs.GivenAgain.{never_while_held}
use Rattle.pool.proofs.Following.{follows, code_promises}

pub item_10 : Item10
item_10 n can cs bytes = promised n (after_all (made n) cs) (heard_from (made n) cs) (reached n can cs bytes) (never_while_held reached n can cs bytes)

-- of the code: what is heard of its calls is what the definitions say
pub code_follows : (n : ℕ) → can_make n ≡ true → (m : PoolMemory) → pool_in m ≡ made n → (xs : List One) (m' : PoolMemory) → Run m xs m' → all_b BytesIn (calls_of xs) ≡ true → Follows n xs m'
code_follows n can m start xs m' run bytes = follows reached n can m start xs m' run bytes

-- and keeps all promises
pub code_keeps : (n : ℕ) → can_make n ≡ true → (m : PoolMemory) → pool_in m ≡ made n → (xs : List One) (m' : PoolMemory) → Run m xs m' → all_b BytesIn (calls_of xs) ≡ true → Promises n (pool_in m') (heard_in xs)
code_keeps n can m start xs m' run bytes = code_promises reached n can m start xs m' run bytes item_10
