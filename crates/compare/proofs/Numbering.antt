-- The lines of two files are those of each number, in order, and no other list of lines is that: the replies of one
-- number give the lines of that number, all later lines have a higher one, and of two lists in order that have the same
-- lines of each number the first lines are equal, and so on.
use Prim.Native.Nat.{ℕ, zero, suc, ◌+◌, ◌≤◌, ◌<◌}
use mathlib.Core.Path.{◌≡◌, refl, sym, ap, ap₂, ◌∙◌}
use mathlib.Core.Option.{Option, none, some}
use mathlib.Core.List.{List, [], ◌∷◌, ◌++◌, map, append-nil}
use mathlib.Core.Bool.{Bool, true}
use native.Mathlib.Omega.{arith}
use lib.Dec.{ltb, leb, eqb}
use lib.ListN.{length, drop, get_elem?}
use borrow.Author.Tests.{ltb-true, leb-true, lt-ltb, le-leb, eq-eqb, ne_eqb}
use Rattle.paper.specs.Words.{keep, all_b}
use Rattle.paper.proofs.Bools.{both, left, right, split, all_mono}
use Rattle.format.proofs.Cutting.{all_append}
use Rattle.compare.specs.Lines.{same, Line, lines_from, compared, replies_of}
use Rattle.compare.specs.Facts.{number_of, line_at, of_number, rises, AreLinesOf}

-- ---- lines from a number on

abbrev at_least : ℕ → Line → Bool
at_least k l = leb k (number_of l)

abbrev from : ℕ → List Line → Bool
from k = all_b (at_least k)

from_less : (k m : ℕ) (ls : List Line) → k ≤ m → from m ls ≡ true → from k ls ≡ true
from_less k m ls h = all_mono (at_least m) (at_least k) (λ l e. let j = leb-true m (number_of l) e in le-leb k (number_of l) (omega arith)) ls

-- none of a lower number is among them
none_below : (k n : ℕ) (ls : List Line) → n < k → from k ls ≡ true → of_number n ls ≡ []
unfolding keep all_b
none_below k n [] h f = refl
none_below k n (l ∷ ls) h f =
    let j = leb-true k (number_of l) (left (at_least k l) (from k ls) f) in
    rw (ne_eqb (number_of l) n (omega arith)) (none_below k n ls h (right (at_least k l) (from k ls) f))

of_append : (n : ℕ) (xs ys : List Line) → of_number n (xs ++ ys) ≡ of_number n xs ++ of_number n ys
unfolding keep
of_append n [] ys = refl
of_append n (x ∷ xs) ys = split (eqb (number_of x) n) (λ e. rw (e, of_append n xs ys)) (λ e. rw (e, of_append n xs ys))

-- in front of lines of a higher number
rise_first : (n : ℕ) (ls : List Line) → from (n + 1) ls ≡ true → rises (map number_of ls) ≡ true → rises (n ∷ map number_of ls) ≡ true
unfolding rises all_b
rise_first n [] f r = refl
rise_first n (l ∷ ls) f r =
    let j = leb-true (n + 1) (number_of l) (left (at_least (n + 1) l) (from (n + 1) ls) f) in
    both (lt-ltb n (number_of l) (omega arith)) r

rise_rest : (n : ℕ) (ns : List ℕ) → rises (n ∷ ns) ≡ true → rises ns ≡ true
unfolding rises
rise_rest n [] r = refl
rise_rest n (m ∷ ms) r = right (ltb n m) (rises (m ∷ ms)) r

rise_from : (n : ℕ) (ls : List Line) → rises (n ∷ map number_of ls) ≡ true → from (n + 1) ls ≡ true
unfolding rises all_b
rise_from n [] r = refl
rise_from n (l ∷ ls) r =
    let m = number_of l in
    let j = ltb-true n m (left (ltb n m) (rises (m ∷ map number_of ls)) r) in
    let q : rises (m ∷ map number_of ls) ≡ true = right (ltb n m) (rises (m ∷ map number_of ls)) r in
    both (le-leb (n + 1) m (omega arith)) (from_less (n + 1) (m + 1) ls (omega arith) (rise_from m ls q))

-- ---- the lines of one number

-- all of them have it, and there is at most one
line_has : (k : ℕ) (x y : Option (List ℕ)) → from k (line_at k x y) ≡ true
unfolding all_b
line_has k none none = refl
line_has k (some a) none = both (le-leb k k (omega arith)) refl
line_has k none (some b) = both (le-leb k k (omega arith)) refl
line_has k (some a) (some b) = split (same a b) (λ e. rw e) (λ e. rw e (both (le-leb k k (omega arith)) refl))

line_kept : (k n : ℕ) (x y : Option (List ℕ)) → k ≡ n → of_number n (line_at k x y) ≡ line_at n x y
unfolding keep
line_kept k n none none e = refl
line_kept k n (some a) none e = rw (eq-eqb k n e, e)
line_kept k n none (some b) e = rw (eq-eqb k n e, e)
line_kept k n (some a) (some b) e = split (same a b) (λ s. rw s) (λ s. rw (s, eq-eqb k n e, e))

line_other : (k n : ℕ) (x y : Option (List ℕ)) → (k ≡ n → ⊥) → of_number n (line_at k x y) ≡ []
unfolding keep
line_other k n none none e = refl
line_other k n (some a) none e = rw (ne_eqb k n e)
line_other k n none (some b) e = rw (ne_eqb k n e)
line_other k n (some a) (some b) e = split (same a b) (λ s. rw s) (λ s. rw (s, ne_eqb k n e))

line_rises : (k : ℕ) (x y : Option (List ℕ)) (ls : List Line) → from (k + 1) ls ≡ true → rises (map number_of ls) ≡ true → rises (map number_of (line_at k x y ++ ls)) ≡ true
line_rises k none none ls f r = r
line_rises k (some a) none ls f r = rise_first k ls f r
line_rises k none (some b) ls f r = rise_first k ls f r
line_rises k (some a) (some b) ls f r = split (same a b) (λ s. rw s r) (λ s. rw s (rise_first k ls f r))

-- ---- the lines of two files

abbrev Replies : Type 0
Replies = List (List ℕ)

-- those of the first number, and behind them those of the replies behind
step : (k : ℕ) (xs ys : Replies) → lines_from k xs ys ≡ line_at k (get_elem? xs 0) (get_elem? ys 0) ++ lines_from (k + 1) (drop 1 xs) (drop 1 ys)
unfolding lines_from
step k [] [] = refl
step k (a ∷ xs) [] = refl
step k [] (b ∷ ys) = refl
step k (a ∷ xs) (b ∷ ys) = refl

next : (xs : Replies) (i : ℕ) → get_elem? (drop 1 xs) i ≡ get_elem? xs (suc i)
next [] i = refl
next (a ∷ xs) i = refl

module _ (k : ℕ) (xs ys : Replies) where
  abbrev here : List Line
  here = line_at k (get_elem? xs 0) (get_elem? ys 0)

  abbrev behind : List Line
  behind = lines_from (k + 1) (drop 1 xs) (drop 1 ys)

  from_step : from (k + 1) behind ≡ true → from k (lines_from k xs ys) ≡ true
  from_step f =
      ap (from k) (step k xs ys) ∙ all_append (at_least k) here behind (line_has k (get_elem? xs 0) (get_elem? ys 0)) (from_less k (k + 1) behind (omega arith) f)

  rises_step : from (k + 1) behind ≡ true → rises (map number_of behind) ≡ true → rises (map number_of (lines_from k xs ys)) ≡ true
  rises_step f r = ap (λ (ls : List Line). rises (map number_of ls)) (step k xs ys) ∙ line_rises k (get_elem? xs 0) (get_elem? ys 0) behind f r

lines_from_lem : (k : ℕ) (xs ys : Replies) → from k (lines_from k xs ys) ≡ true
unfolding lines_from all_b
lines_from_lem k [] [] = refl
lines_from_lem k (a ∷ xs) [] = from_step k (a ∷ xs) [] (lines_from_lem (k + 1) xs [])
lines_from_lem k [] (b ∷ ys) = from_step k [] (b ∷ ys) (lines_from_lem (k + 1) [] ys)
lines_from_lem k (a ∷ xs) (b ∷ ys) = from_step k (a ∷ xs) (b ∷ ys) (lines_from_lem (k + 1) xs ys)

lines_rise : (k : ℕ) (xs ys : Replies) → rises (map number_of (lines_from k xs ys)) ≡ true
unfolding lines_from rises
lines_rise k [] [] = refl
lines_rise k (a ∷ xs) [] = rises_step k (a ∷ xs) [] (lines_from_lem (k + 1) xs []) (lines_rise (k + 1) xs [])
lines_rise k [] (b ∷ ys) = rises_step k [] (b ∷ ys) (lines_from_lem (k + 1) [] ys) (lines_rise (k + 1) [] ys)
lines_rise k (a ∷ xs) (b ∷ ys) = rises_step k (a ∷ xs) (b ∷ ys) (lines_from_lem (k + 1) xs ys) (lines_rise (k + 1) xs ys)

lines_each : (i k n : ℕ) (xs ys : Replies) → k + i ≡ n → of_number n (lines_from k xs ys) ≡ line_at n (get_elem? xs i) (get_elem? ys i)
lines_each zero k n xs ys e =
    ap (of_number n) (step k xs ys)
    ∙ of_append n (here k xs ys) (behind k xs ys)
    ∙ ap₂ (λ (l m : List Line). l ++ m)
    (line_kept k n (get_elem? xs 0) (get_elem? ys 0) (omega arith))
    (none_below (k + 1) n (behind k xs ys) (omega arith) (lines_from_lem (k + 1) (drop 1 xs) (drop 1 ys)))
    ∙ append-nil (line_at n (get_elem? xs 0) (get_elem? ys 0))
lines_each (suc i) k n xs ys e =
    ap (of_number n) (step k xs ys)
    ∙ of_append n (here k xs ys) (behind k xs ys)
    ∙ ap₂ (λ (l m : List Line). l ++ m)
    (line_other k n (get_elem? xs 0) (get_elem? ys 0) (λ f. absurd (omega arith)))
    (lines_each i (k + 1) n (drop 1 xs) (drop 1 ys) (omega arith) ∙ ap₂ (line_at n) (next xs i) (next ys i))

-- A LINE FOR EVERY NUMBER AT WHICH THE FILES DIFFER, AND NO OTHER; IN ORDER, EACH NUMBER AT MOST ONCE
pub lines_of : (first second : List ℕ) → AreLinesOf first second (compared first second)
lines_of first second =
    record {
      each = λ n. lines_each n 0 n (replies_of first) (replies_of second) (omega arith);
      in_order = lines_rise 0 (replies_of first) (replies_of second);
    }

-- ---- no other lines

-- a line in front is among those of its number
of_first : (x : Line) (xs : List Line) → of_number (number_of x) (x ∷ xs) ≡ x ∷ of_number (number_of x) xs
unfolding keep
of_first x xs = rw (eq-eqb (number_of x) (number_of x) refl)

-- so none is in front of lines of higher numbers that has the same lines of each number
no_lower : (x : Line) (xs ys : List Line) → from (number_of x + 1) ys ≡ true → of_number (number_of x) (x ∷ xs) ≡ of_number (number_of x) ys → ⊥
no_lower x xs ys f e =
    let a : length (x ∷ of_number (number_of x) xs) ≡ 0 = ap length (sym (of_first x xs) ∙ e ∙ none_below (number_of x + 1) (number_of x) ys (omega arith) f) in
    omega arith

heads : {x y : Line} {xs ys : List Line} → x ∷ xs ≡ y ∷ ys → x ≡ y
heads e = cc

tails : {x y : Line} {xs ys : List Line} → x ∷ xs ≡ y ∷ ys → xs ≡ ys
tails e = cc

-- behind one and the same line
same_behind : (x : Line) (xs ys : List Line) (n : ℕ) → of_number n (x ∷ xs) ≡ of_number n (x ∷ ys) → of_number n xs ≡ of_number n ys
unfolding keep
same_behind x xs ys n e = split (eqb (number_of x) n) (λ h. tails (rw h at e)) (λ h. rw h at e)

whole_from : (x : Line) (xs : List Line) → rises (map number_of (x ∷ xs)) ≡ true → (n : ℕ) → n < number_of x → from (n + 1) (x ∷ xs) ≡ true
unfolding all_b
whole_from x xs r n h = both (le-leb (n + 1) (number_of x) (omega arith)) (from_less (n + 1) (number_of x + 1) xs (omega arith) (rise_from (number_of x) xs r))

one_list : (xs ys : List Line) → rises (map number_of xs) ≡ true → rises (map number_of ys) ≡ true → ((n : ℕ) → of_number n xs ≡ of_number n ys) → xs ≡ ys
unfolding keep all_b
one_list [] [] r q e = refl
one_list [] (y ∷ ys) r q e = absurd (no_lower y ys [] refl (sym (e (number_of y))))
one_list (x ∷ xs) [] r q e = absurd (no_lower x xs [] refl (e (number_of x)))
one_list (x ∷ xs) (y ∷ ys) r q e =
    let n = number_of x in
    let m = number_of y in
    let f : n < m → ⊥ = λ h. no_lower x xs (y ∷ ys) (whole_from y ys q n h) (e n) in
    let g : m < n → ⊥ = λ h. no_lower y ys (x ∷ xs) (whole_from x xs r m h) (sym (e m)) in
    let k : n ≡ m = omega arith in
    let h : x ≡ y = heads (sym (of_first x xs) ∙ e n ∙ ap (λ (i : ℕ). of_number i (y ∷ ys)) k ∙ of_first y ys) in
    let t = one_list xs ys (rise_rest n (map number_of xs) r) (rise_rest m (map number_of ys) q)
    (λ i. same_behind x xs ys i (e i ∙ ap (λ (l : Line). of_number i (l ∷ ys)) (sym h))) in
    ap₂ (λ (l : Line) (ls : List Line). l ∷ ls) h t

-- THESE FACTS LEAVE ONE LIST OF LINES
pub only_lines : (first second : List ℕ) (lines : List Line) → AreLinesOf first second lines → lines ≡ compared first second
only_lines first second lines k =
    let c = lines_of first second in
    one_list lines (compared first second) k.in_order c.in_order (λ n. k.each n ∙ sym (c.each n))
