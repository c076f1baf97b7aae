-- The array has seventeen places, so no more are used.
use native.Mathlib.Omega.{arith}
use mathlib.Core.Path.{◌≡◌, ◌∙◌, sym, ap}
use Prim.Native.Nat.{ℕ, min}
use lib.ListN.{length, take}
use Rattle.std.proofs.Common.{rules}
use Rattle.std.proofs.lemmas.List.{take_min}
use Rattle.derivation.specs.Pad.{used}
use Rattle.watch.proofs.Walks.{used_length}
use Rattle.watch.proofs.Lines.in_use.Goals as goal

pub returns-clause-lines : goal.returns-clause-lines
unfolding used
returns-clause-lines c =
    let l = c.args.self.now in
    let n : length l.items ≡ 17 = search rules in
    ap (λ (k : ℕ). take k l.items) (c.min.ensures ∙ ap (min l.len) (sym n)) ∙ take_min l.len l.items

pub returns-clause-few : goal.returns-clause-few
returns-clause-few c =
    let l = c.args.self.now in
    let n : length l.items ≡ 17 = search rules in
    omega (arith, n, used_length l.len l.items)
