-- An answer that is true exactly where something holds.
use Rattle.std.specs.Prelude.{◌≡◌, Bool, true}

pub record Decides (r : Bool) (P : Type 0) : Type 0 where
  pub only : r ≡ true → P
  pub always : P → r ≡ true
