-- Case by case: equal replies have no line, and each of the three lines is put part by part.
use Prim.Native.Nat.{ℕ}
use mathlib.Core.Path.{◌≡◌, sym, ap, subst, ◌∙◌}
use mathlib.Core.List.{List}
use mathlib.Core.Bool.{Bool, ◌&&◌}
use native.Mathlib.Omega.{arith}
use lib.Dec.{eqb}
use lib.ListN.{length}
use Rattle.stream.specs.Text.{decimal}
use Rattle.stream.proofs.Spelling.{◌then◌, retold, roomier, blank}
use Rattle.compare.specs.Lines.{same, first_place}
use Rattle.compare.proofs.Places.{same_place, pair_same, pair_second, pair_first, pair_differ}
use Rattle.compare.proofs.pair.put_line.Goals as goal

-- the test of the code is that of the definition
tested : {p : ℕ} {t : Bool} (a b : List ℕ) → p ≡ first_place a b → (eqb p (length a) && eqb p (length b)) ≡ t → same a b ≡ t
tested {t = t} a b e h = sym (same_place a b) ∙ subst (λ (k : ℕ). (eqb k (length a) && eqb k (length b)) ≡ t) e h

pub returns-then-p-a : goal.returns-then-p-a
returns-then-p-a c =
    retold (sym (pair_same c.args.number c.args.a.now c.args.b.now (tested c.args.a.now c.args.b.now c.first_place-p.ensures c.if-p-a.true))) (blank c.args.out.now c.args.at 49)

pub returns-then-a-eq0 : goal.returns-then-a-eq0
returns-then-a-eq0 c =
    let d = tested c.args.a.now c.args.b.now c.first_place-p.ensures c.if-p-a.false in
    roomier (omega arith) (retold (sym (pair_second c.args.number c.args.a.now c.args.b.now d c.if-a-eq0.true)) (c.put_u64-e.ensures then c.put.ensures))

pub returns-then-b-eq0 : goal.returns-then-b-eq0
returns-then-b-eq0 c =
    let d = tested c.args.a.now c.args.b.now c.first_place-p.ensures c.if-p-a.false in
    roomier (omega arith) (retold (sym (pair_first c.args.number c.args.a.now c.args.b.now d c.if-b-eq0.true)) (c.put_u64-e.ensures then c.put-then-b-eq0.ensures))

pub returns : goal.returns
returns c =
    let d = tested c.args.a.now c.args.b.now c.first_place-p.ensures c.if-p-a.false in
    retold (sym (pair_differ c.args.number c.args.a.now c.args.b.now d c.if-a-eq0.false c.if-b-eq0.false))
    (c.put_u64-e.ensures then c.put-f.ensures then retold (ap decimal c.first_place-p.ensures) c.put_u64-g.ensures then c.put-2.ensures)
