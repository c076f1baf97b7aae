-- What the contracts come to: the result of `hear` is determined whole, and a book in normal form has every line of its
-- ledger.
use Prim.Native.Nat.{ℕ, min}
use mathlib.Core.Path.{◌≡◌, refl, sym, ap, subst, subst₂, ◌∙◌}
use mathlib.Core.List.{List}
use native.Mathlib.Omega.{arith}
use Rattle.derivation.specs.Pad.{used}
use Rattle.derivation.proofs.Pad.{is_view}
use Rattle.paper.specs.declared.Reading.{Reading}
use Rattle.paper.specs.Ledger.{Ledger}
use Rattle.std.specs.Prelude.{Option, None, Some, Result, Ok, Err}
use Rattle.paper.specs.declared.Line.{Line}
use Rattle.watch.specs.declared.Tally.{Tally}
use Rattle.watch.specs.declared.Book.{Book}
use Rattle.watch.specs.declared.demand.Part.{Part}
use Rattle.watch.proofs.Numbers.{positive, same_number}
use Rattle.watch.specs.Book.{view, clamped, current_in, HoldsBook}
use Rattle.watch.specs.Hears.{Hears}

one_current : (x y : Option Line) → current_in x ≡ current_in y → x ≡ y
one_current None None e = refl
one_current None (Some f) e = absurd (let z : ◌≡◌ {A = ℕ} 0 1 = cc in omega arith)
one_current (Some f) None e = absurd (let z : ◌≡◌ {A = ℕ} 0 1 = cc in omega arith)
one_current (Some f) (Some g) e = let z : f ≡ g = cc in ap Some z

-- the same of equals
pub also : {b : Book} {st st' : Reading} {L L' : Ledger} {t t' : Tally} → st ≡ st' → L ≡ L' → t ≡ t' → HoldsBook b st L t → HoldsBook b st' L' t'
also {b} {st} {st'} {L} {L'} {t} {t'} p q r h = subst (λ (x : Reading). HoldsBook b x L' t') p (subst₂ (HoldsBook b st) q r h)

-- a book in normal form is determined by its ledger, its tally and its reading
pub one_book : {b c : Book} {st : Reading} {L : Ledger} {t : Tally} → HoldsBook b st L t → HoldsBook c st L t → b ≡ c
one_book {b} {c} h g =
    let p = h.held.places ∙ sym g.held.places in
    let n = h.held.long ∙ sym g.held.long in
    let s = one_current b.current c.current (h.current ∙ sym g.current) in
    let m = h.begun ∙ sym g.begun in
    let t = h.tally ∙ sym g.tally in
    let r = h.reading ∙ sym g.reading in
    λ i. record { held = record { items = p i; len = n i }; current = s i; begun = m i; tally = t i; reading = r i }

-- Any two results that the contract of `hear` permits are equal
pub determined : {b : Book} {r a : List ℕ} {h k : Result Book Part} → Hears b r a h → Hears b r a k → h ≡ k
determined {h = Ok m} {k = Ok n} x y = ap Ok (one_book (x.kept (sym x.part)) (y.kept (sym y.part)))
determined {h = Ok m} {k = Err q} x y = absurd (positive q (y.part ∙ sym x.part))
determined {h = Err p} {k = Ok n} x y = absurd (positive p (x.part ∙ sym y.part))
determined {h = Err p} {k = Err q} x y = ap Err (same_number p q (x.part ∙ sym y.part))

-- a book in normal form holds at most 16 lines, so nothing is cut off
pub whole_view : {b : Book} {st : Reading} {L : Ledger} {t : Tally} → HoldsBook b st L t → view (clamped b.held) ≡ L.held
whole_view {b} h = let e : min b.held.len 16 ≡ b.held.len = omega (arith, h.few) in ap (λ (n : ℕ). used n b.held.items) e ∙ is_view h.held
