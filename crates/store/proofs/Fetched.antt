-- What a whole operation works on is what the words hold, and where every place is used, one place less. Assumes
-- nothing.
use Prim.Native.Nat.{ℕ, zero, suc, ◌+◌, ◌≤◌, ◌<◌, min}
use mathlib.Core.Path.{◌≡◌, refl, sym, ap, ◌∙◌}
use mathlib.Core.Bool.{Bool, true, false}
use mathlib.Core.List.{List, [], ◌∷◌, ◌++◌, map}
use native.Mathlib.Omega.{arith}
use lib.Dec.{leb}
use lib.ListN.{take}
use lib.Seq.{take_all, take-append_seam}
use borrow.Author.Tests.{leb-true, leb-false}
use Rattle.paper.proofs.Bools.{split}
use Rattle.paper.proofs.Fits.{table_length}
use Rattle.paper.specs.Sets.{unmarked_if}
use Rattle.paper.specs.declared.Picture.{Picture}
use Rattle.store.specs.Walks.{change_by, unmark_if}
use Rattle.store.specs.Places.{place_at, front, roomy}
use Rattle.store.specs.declared.pictures.Change.TheVariants as Change
use Rattle.paper.specs.Output as Output
use Rattle.store.specs.StoreWords.{stored, NormalForm}
use Rattle.store.specs.Tails.{HoldsMoved}
use Rattle.store.specs.Bumps.{Leaves}
use Rattle.store.specs.declared.Moved.{Moved}
use Rattle.store.proofs.StoreWords.{table_more}

-- what a call left is what the words hold then
pub leaves : {m : Output.Moved} {x : Moved} {t t' : List ℕ} → HoldsMoved x m → (stored t' ≡ front x.places x.len) × (NormalForm t → NormalForm t') → Leaves m t t' x
leaves h e = record { pics = e.0 ∙ h.pics; tail = h.tail; normal = e.1 }

-- read as it is
same_map : (ps : List Picture) → map (change_by Change.Nothing) ps ≡ ps
same_map [] = refl
same_map (p ∷ ps) = ap (λ (l : List Picture). p ∷ l) (same_map ps)

pub as_it_is : {qs ps : List Picture} → qs ≡ map (change_by Change.Nothing) ps → qs ≡ ps
as_it_is {qs} {ps} e = e ∙ same_map ps

-- read for a begin: unmarked, if a picture starts over
pub unmarked_read : (over : Bool) (qs ps : List Picture) → qs ≡ map (change_by (unmark_if over)) ps → qs ≡ unmarked_if over ps
unmarked_read true qs ps e = e
unmarked_read false qs ps e = as_it_is e

-- ---- room for one more

take_map : {A B : Type 0} (f : A → B) (n : ℕ) (l : List A) → take n (map f l) ≡ map f (take n l)
take_map f zero l = refl
take_map f (suc n) [] = refl
take_map f (suc n) (x ∷ l) = ap (λ (m : List _). f x ∷ m) (take_map f n l)

front_roomy : (ps : List Picture) (n : ℕ) → n ≤ 16 → front ps (min n 15) ≡ roomy (front ps n)
front_roomy ps n le =
    split (leb n 15)
    (λ e.
    let x : n ≤ 15 = leb-true n 15 e in
    let m : min n 15 ≡ n = omega arith in
    ap (front ps) m ∙ sym (take_all 15 (front ps n) (omega (arith, table_length (place_at ps) n))))
    (λ e.
    let x : 15 < n = leb-false n 15 e in
    let m : min n 15 ≡ 15 = omega arith in
    let k : n ≡ 15 + 1 = omega arith in
    ap (front ps) m ∙ sym (ap (λ (i : ℕ). take 15 (front ps i)) k ∙ ap (take 15) (table_more (place_at ps) 15)
    ∙ ap (λ (i : ℕ). take i (front ps 15 ++ (place_at ps 15 ∷ []))) (sym (table_length (place_at ps) 15)) ∙ take-append_seam (front ps 15) (place_at ps 15 ∷ [])))

pub roomy_read : (g : Picture → Picture) (ps qs : List Picture) (n : ℕ) → n ≤ 16 → front ps n ≡ map g qs → front ps (min n 15) ≡ map g (roomy qs)
roomy_read g ps qs n le e = front_roomy ps n le ∙ ap (take 15) e ∙ take_map g 15 qs
