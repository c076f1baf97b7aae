-- A walk that looks for something: none of those passed is it, and the first that is ends the walk. Assumes nothing.
use Prim.Native.Nat.{ℕ, zero, suc, ◌+◌, ◌-◌, ◌≤◌, ◌<◌, min}
use mathlib.Core.Path.{◌≡◌, refl, sym, ap, ◌∙◌}
use mathlib.Core.Bool.{Bool, true, false, ◌||◌, or_assoc, or-false}
use mathlib.Core.List.{List, [], ◌∷◌, ◌++◌}
use native.Mathlib.Omega.{arith}
use native.Mathlib.Numerals.{add-one}
use lib.Dec.{eqb}
use lib.ListN.{length, take, drop, length-drop}
use lib.Seq.{take-suc, get_or-drop}
use borrow.Author.Tests.{eqb-true, eqb-false, ne_eqb}
use Rattle.paper.proofs.Bools.{split, or_left, or_right}
use Rattle.paper.specs.Words.{table, any_b}
use Rattle.paper.specs.Sets.{first_of, is_in}
use Rattle.paper.specs.declared.Serial.{Serial}
use Rattle.derivation.specs.Lists.{blank_serial, member_at}
use Rattle.derivation.proofs.Runs.{table_is}
use Rattle.store.specs.Runs.{members_at}
use Rattle.paper.specs.declared.Picture.{Picture}
use Rattle.paper.proofs.Places.{at_cons, at_end}
use Rattle.store.specs.Walks.{blank, found_of, member_of}
use Rattle.store.specs.declared.Store.{Store}
use Rattle.store.specs.Places.{place_at, front, stored_in}
use Rattle.store.proofs.StoreWords.{table_more}
use Rattle.std.proofs.Common.{None, Some}
use Rattle.std.specs.List.{list_any}

pub any_append : {A : Type 0} (f : A → Bool) (a b : List A) → any_b f (a ++ b) ≡ (any_b f a || any_b f b)
unfolding any_b
any_append f [] b = refl
any_append f (x ∷ a) b = rw (any_append f a b) (sym (or_assoc (f x) (any_b f a) (any_b f b)))

module _ {A : Type 0} (f : A → Bool) (g : ℕ → A) where
  pub any_none : any_b f (table g 0) ≡ false
  unfolding table any_b
  any_none = refl

  last : (x : A) → any_b f (x ∷ []) ≡ f x
  unfolding any_b
  last x = or-false (f x)

  -- one place more
  pub any_more : (i : ℕ) → any_b f (table g (i + 1)) ≡ (any_b f (table g i) || f (g i))
  any_more i = ap (any_b f) (table_more g i) ∙ any_append f (table g i) (g i ∷ []) ∙ rw (last (g i))

  pub any_miss : (i : ℕ) → any_b f (table g i) ≡ false → f (g i) ≡ false → any_b f (table g (i + 1)) ≡ false
  any_miss i h e = any_more i ∙ rw (h, e)

  pub any_hit : (i n : ℕ) → i < n → f (g i) ≡ true → any_b f (table g n) ≡ true
  any_hit i zero lt e = absurd (omega arith)
  any_hit i (suc n) lt e =
      let m : any_b f (table g (suc n)) ≡ (any_b f (table g n) || f (g n)) = rw (← add-one n) (any_more n) in
      m
      ∙ split (eqb i n)
      (λ q. let x : i ≡ n = eqb-true i n q in or_right (any_b f (table g n)) (f (g n)) (ap (λ (k : ℕ). f (g k)) (sym x) ∙ e))
      (λ q. let d = eqb-false i n q in or_left (any_b f (table g n)) (f (g n)) (any_hit i n (omega arith) e))

same_turned : (a b : ℕ) → eqb a b ≡ eqb b a
same_turned a b =
    split (eqb a b) (λ e. let x : a ≡ b = eqb-true a b e in rw x) (λ e. let x = eqb-false a b e in e ∙ sym (ne_eqb b a (λ h. x (sym h))))

-- a part of a run, as its members; and whether a serial is in it
pub members_run : (xs : List Serial) (from n : ℕ) → from + n ≤ length xs → take (from + n - from) (drop from xs) ≡ members_at xs from n
members_run xs from n le =
    let e : from + n - from ≡ n = omega arith in
    ap (λ (k : ℕ). take k (drop from xs)) e
    ∙ sym (table_is blank_serial (λ (i : ℕ). member_at xs (from + i)) (drop from xs) n (omega (arith, length-drop from xs)) (λ i l. sym (get_or-drop from xs i blank_serial)))

pub serial_in : (x : Serial) (xs : List Serial) → list_any (λ (y : Serial). eqb y.0 x.0) xs ≡ is_in x xs
unfolding any_b
serial_in x [] = refl
serial_in x (y ∷ xs) = rw (serial_in x xs, same_turned y.0 x.0)

-- ---- the first that is found

module _ (f : Picture → Bool) where
  -- what a search gives a set is what the paper's search gives
  pub member_first : (ps : List Picture) → member_of (found_of f ps) ≡ first_of f ps
  unfolding found_of first_of
  member_first [] = refl
  member_first (p ∷ ps) = split (f p) (λ e. rw e) (λ e. rw e (member_first ps))

  -- the search from a place on: it ends here, goes on behind, or is at the end
  module _ (ps : List Picture) (i : ℕ) where
    pub found_here : i < length ps → f (place_at ps i) ≡ true → found_of f (drop i ps) ≡ Some (place_at ps i)
    unfolding found_of
    found_here lt e = ap (found_of f) (at_cons ps i blank lt) ∙ rw e

    pub found_later : i < length ps → f (place_at ps i) ≡ false → found_of f (drop (i + 1) ps) ≡ found_of f (drop i ps)
    unfolding found_of
    found_later lt e = sym (ap (found_of f) (at_cons ps i blank lt) ∙ rw e)

    pub found_end : length ps ≤ i → found_of f (drop i ps) ≡ None
    unfolding found_of
    found_end le = ap (found_of f) (at_end ps i le)

-- the first n places, as a part of the array
pub take_front : (ps : List Picture) (n : ℕ) → n ≤ length ps → take n ps ≡ front ps n
unfolding table
take_front ps zero le = refl
take_front ps (suc n) le = take-suc ps n blank le ∙ ap (λ (l : List Picture). l ++ (place_at ps n ∷ [])) (take_front ps n (omega arith))

pub stored_take : (s : Store) → length s.places ≡ 16 → take (min s.len 16) s.places ≡ stored_in s
stored_take s e = take_front s.places (min s.len 16) (omega arith)
