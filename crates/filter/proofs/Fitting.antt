-- What is laid over a buffer that keeps its length is no longer than the buffer: its own bytes are there, and behind
-- them the rest of the buffer's.
use Prim.Native.Nat.{ℕ, ◌+◌, ◌-◌, ◌≤◌}
use mathlib.Core.Path.{◌≡◌, sym, ap, ◌∙◌}
use mathlib.Core.List.{List}
use native.Mathlib.Omega.{arith}
use lib.ListN.{length, drop, length-drop, length-append}
use Rattle.wire.specs.Bytes.{over}

pub over_longest : (p l : List ℕ) → length (over p l) ≡ length l → length p ≤ length l
unfolding over
over_longest p l e =
    let k : length p + (length l - length p) ≡ length l = sym (length-append p (drop (length p) l) ∙ ap (λ (n : ℕ). length p + n) (length-drop (length p) l)) ∙ e in
    omega arith
