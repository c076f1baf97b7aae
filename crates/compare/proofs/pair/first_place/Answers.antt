-- The equal bytes in front are left out; behind them, the first pair of bytes that differ is taken, or behind all.
use Prim.Native.Nat.{◌+◌, ◌-◌, ◌*◌, ◌/◌, min}
use mathlib.Core.Path.{◌≡◌}
use native.Mathlib.Omega.{arith}
use lib.ListN.{length, drop, take, length-drop, length-take}
use borrow.Author.Rules.{rules}
use borrow.Author.Tests.{tests}
use Rattle.std.specs.List.{zip, position}
use Rattle.std.proofs.lemmas.Iterator.{YieldsList-from_slice, YieldsList-from_zip}
use Rattle.std.proofs.lemmas.Iterator.Search.{position_from_yields_List}
use Rattle.compare.specs.Lines.{first_place}
use Rattle.compare.proofs.Places.{unequal, place_at, place_on, place_within, place_cut, all_behind}
use Rattle.compare.proofs.pair.first_place.Goals as goal

-- what is stepped over and what is left, taken together
place : (c : goal.After-unwrap_or-left) → c.equal_front-near.result + c.unwrap_or-left.result ≡ first_place c.args.a.now c.args.b.now
place c =
    let a = take c.min-both.result c.args.a.now in
    let b = take c.min-both.result c.args.b.now in
    let near = c.equal_front-near.result in
    let w = place_within c.args.a.now c.args.b.now in
    let cut = place_cut c.min-both.result c.args.a.now c.args.b.now (omega arith) in
    let h : near ≡ first_place a b / 8 * 8 = cc in
    let n = place_on near a b (omega arith) in
    let x = drop near a in
    let y = drop near b in
    let na = all_behind near a in
    let nb = all_behind near b in
    let e : c.position.result ≡ position unequal (zip x y) =
    position_from_yields_List unequal c.position.new.self _ c.position.result c.position.ensures.ran (YieldsList-from_zip (YieldsList-from_slice x cc) (YieldsList-from_slice y cc)) (λ x b q k. search (rules, tests)) in
    let l : c.min-both.result - near ≡ min (length x) (length y) = simp (length-drop, length-take) (omega arith) in
    let t = place_at x y c.position.result e in
    let k : c.unwrap_or-left.result ≡ first_place x y = cc in
    omega arith

pub overflow_add-result : goal.overflow_add-result
overflow_add-result c = let w = place_within c.args.a.now c.args.b.now in let p = place c in omega arith

pub returns : goal.returns
returns c = place c
