-- The forms by reference and those by value answer alike: their contracts say one definition, here of a lent run that
-- is the stored pictures of a store.
use Prim.Native.Nat.{ℕ, ◌^◌, min}
use mathlib.Core.Path.{◌≡◌, sym, ap, ◌∙◌}
use mathlib.Core.Bool.{Bool}
use mathlib.Core.List.{List}
use lib.IntN.{ℤ}
use lib.ListN.{take}
use Rattle.paper.specs.Sets.{marked}
use Rattle.paper.specs.declared.Mark.{Mark}
use Rattle.paper.specs.declared.Picture.{Picture}
use Rattle.paper.specs.declared.Serial.{Serial}
use Rattle.paper.specs.declared.Wish.{Wish}
use Rattle.store.specs.Walks.{any_at, low_at, short_at, passing, found_of, blank}
use Rattle.store.specs.Places.{stored_in}
use Rattle.store.specs.Runs.{filled, changed, member_for, members_at, marking, Settles}
use Rattle.store.specs.declared.Store.{Store}
use Rattle.store.specs.declared.pictures.Sought.{Sought}
use Rattle.store.specs.declared.sets.Settled.{Settled}
use Rattle.std.proofs.Common.{Option}

module _ (s : Store) (ps : List Picture) (lent : ps ≡ stored_in s) (a b : Option Picture) where
  alike : (f : Picture → Bool) → a ≡ found_of f (stored_in s) → b ≡ found_of f ps → a ≡ b
  alike f x y = x ∙ sym (y ∙ ap (found_of f) lent)

  -- `find_ref_by_poc` and `find_ref_by_poc_in`
  pub ref_by_poc_alike : (poc : ℤ) → a ≡ found_of (any_at poc) (stored_in s) → b ≡ found_of (any_at poc) ps → a ≡ b
  ref_by_poc_alike poc = alike (any_at poc)

  -- `find_ref_by_poc_masked` and `find_ref_by_poc_masked_in`
  pub ref_by_poc_masked_alike : (k : ℕ) (low : ℤ) → a ≡ found_of (low_at (2 ^ (min k 16)) low) (stored_in s) → b ≡ found_of (low_at (2 ^ (min k 16)) low) ps → a ≡ b
  ref_by_poc_masked_alike k low = alike (low_at (2 ^ (min k 16)) low)

  -- `find_short_term_ref_by_poc` and `find_short_term_ref_by_poc_in`
  pub short_term_ref_by_poc_alike : (poc : ℤ) → a ≡ found_of (short_at poc) (stored_in s) → b ≡ found_of (short_at poc) ps → a ≡ b
  short_term_ref_by_poc_alike poc = alike (short_at poc)

-- `find_first` and `first_in`, of the first n places
pub first_alike : (t : Sought) (ps : List Picture) (n : ℕ) (a b : Option Picture) → a ≡ found_of (passing t) (take n ps) → b ≡ found_of (passing t) (take n ps) → a ≡ b
first_alike t ps n a b x y = x ∙ sym y

-- `find_members` and `find_members_in`
pub members_alike : (long : Bool) (k m from n : ℕ) (ps : List Picture) (ws : List Wish) (found a b : List Serial)
    → a ≡ filled (member_for long k (take m ps) ws) from n found → b ≡ filled (member_for long k (take m ps) ws) from n found → a ≡ b
members_alike long k m from n ps ws found a b x y = x ∙ sym y

-- `mark_where` and `mark_where_in`
pub marks_alike : (inside : Bool) (mark : Mark) (m from n : ℕ) (xs : List Serial) (ps a b : List Picture)
    → a ≡ changed blank (marking inside mark (members_at xs from n)) m ps → b ≡ changed blank (marking inside mark (members_at xs from n)) m ps → a ≡ b
marks_alike inside mark m from n xs ps a b x y = x ∙ sym y

-- `with_mark` and `set_mark`
pub mark_alike : (m : Mark) (p a b : Picture) → a ≡ marked m p → b ≡ marked m p → a ≡ b
mark_alike m p a b x y = x ∙ sym y

-- `settle` and `settle_in`
pub settle_alike : {k : ℕ} {ws : List Wish} {shorts longs m : ℕ} {ps : List Picture} {a b : Settled} → Settles k ws shorts longs m ps a → Settles k ws shorts longs m ps b → a ≡ b
settle_alike x y = λ i. record { places = (x.places ∙ sym y.places) i; found = (x.found ∙ sym y.found) i }
