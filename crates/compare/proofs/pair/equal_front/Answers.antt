-- The first pair of pieces that differ, or behind all pairs, is that which the first place lies in.
use Prim.Native.Nat.{ℕ, ◌*◌, ◌/◌}
use mathlib.Core.Path.{◌≡◌, ap, ◌∙◌}
use native.Mathlib.Omega.{arith}
use native.Mathlib.Nat.{div-mul-le_self}
use lib.ListN.{length}
use borrow.Author.Rules.{rules}
use borrow.Author.Tests.{tests}
use Rattle.std.specs.List.{zip, position}
use Rattle.std.specs.Simd.{first_chunks}
use Rattle.std.proofs.lemmas.Iterator.{YieldsList-from_slice, YieldsList-from_zip}
use Rattle.std.proofs.lemmas.Iterator.Search.{position_from_yields_List}
use Rattle.compare.specs.Lines.{first_place}
use Rattle.compare.proofs.Places.{unlike, pieces_at, place_within}
use Rattle.compare.proofs.pair.equal_front.Goals as goal

-- the equal pieces, counted in bytes
pieces : (c : goal.After-unwrap_or-pieces) → c.unwrap_or-pieces.result * 8 ≡ first_place c.args.a.now c.args.b.now / 8 * 8
pieces c =
    let xs = first_chunks 8 (length c.args.a.now / 8) c.args.a.now in
    let ys = first_chunks 8 (length c.args.b.now / 8) c.args.b.now in
    let e : c.position.result ≡ position unlike (zip xs ys) =
    position_from_yields_List unlike c.position.new.self _ c.position.result c.position.ensures.ran (YieldsList-from_zip (YieldsList-from_slice xs cc) (YieldsList-from_slice ys cc)) (λ x b q k. search (rules, tests)) in
    ap (λ (k : ℕ). k * 8) (c.unwrap_or-pieces.ensures ∙ search (rules, pieces_at 8 (omega arith) c.args.a.now c.args.b.now c.position.result e))

pub overflow_mul-result : goal.overflow_mul-result
overflow_mul-result c =
    let w = place_within c.args.a.now c.args.b.now in
    let d = div-mul-le_self (first_place c.args.a.now c.args.b.now) 8 in
    let p = pieces c in
    omega arith

pub returns-clause-pieces : goal.returns-clause-pieces
returns-clause-pieces c = pieces c

pub returns-clause-within : goal.returns-clause-within
returns-clause-within c =
    let w = place_within c.args.a.now c.args.b.now in
    let d = div-mul-le_self (first_place c.args.a.now c.args.b.now) 8 in
    let p = pieces c in
    (omega arith, omega arith)
