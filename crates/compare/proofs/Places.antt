-- The first place at which two replies differ, byte by byte and piece by piece, and the line that it calls for.
use Prim.Native.Nat.{ℕ, zero, suc, ◌+◌, ◌-◌, ◌*◌, ◌/◌, ◌<◌, ◌≤◌, min}
use mathlib.Core.Path.{◌≡◌, refl, sym, ap, ap₂, ◌∙◌}
use mathlib.Core.List.{List, [], ◌∷◌, ◌++◌, append-nil}
use mathlib.Core.Bool.{Bool, true, false, not, ◌&&◌}
use native.Mathlib.Omega.{arith}
use native.Mathlib.Nat.{div-eq_of_lt, add-div_left, div-mul-le_self, lt-div-mul-add}
use lib.Dec.{eqb, ltb}
use lib.ListN.{length, take, drop, length-drop}
use lib.Seq.{take_all}
use borrow.Author.Tests.{ltb-false, eqb-true, eqb-false, eq-eqb, ne_eqb}
use Rattle.std.proofs.Common.{Option}
use Rattle.std.specs.Cmp.Lexicographic.{pointwise}
use Rattle.std.specs.List.{zip, position, position_or_len}
use Rattle.std.specs.Simd.{first_chunks}
use Rattle.std.specs.Option.{unwrap_or}
use Rattle.std.proofs.lemmas.List.Sums.{prefix_len-le-length}
use Rattle.paper.specs.Words.{flat}
use Rattle.paper.proofs.Bools.{split, not_both}
use Rattle.stream.specs.Text.{ascii, decimal}
use Rattle.compare.specs.Lines.{last_of, same, first_place, lines_from, line_text}
use Rattle.compare.specs.Pairs.{pair_text}

-- ---- byte by byte

abbrev pub unequal : ℕ × ℕ → Bool
unequal p = not (eqb p.0 p.1)

-- the first pair of bytes that differ, or behind all pairs
place_len : (a b : List ℕ) → (position_or_len unequal (zip a b) ≡ first_place a b) × (length (zip a b) ≡ min (length a) (length b))
unfolding first_place
place_len [] b = (refl, omega arith)
place_len (x ∷ xs) [] = (refl, omega arith)
place_len (x ∷ xs) (y ∷ ys) =
    let k = place_len xs ys in
    split (eqb x y)
    (λ e. rw e (omega arith, omega arith))
    (λ e. rw e (refl, omega arith))

-- what is found in a list, or behind all of it
found : {X : Type 0} (p : X → Bool) (l : List X) (n : ℕ) (r : Option ℕ) → length l ≡ n → r ≡ position p l → unwrap_or r n ≡ position_or_len p l
found p l n r h e =
    split (ltb (position_or_len p l) (length l))
    (λ t. rw (e, t))
    (λ t. rw (e, t) (let k = ltb-false (position_or_len p l) (length l) t in let m = prefix_len-le-length (λ x. not (p x)) l in omega arith))

pub place_at : (a b : List ℕ) (r : Option ℕ) → r ≡ position unequal (zip a b) → unwrap_or r (min (length a) (length b)) ≡ first_place a b
place_at a b r e = let k = place_len a b in found unequal (zip a b) (min (length a) (length b)) r k.1 e ∙ k.0

pub place_within : (a b : List ℕ) → first_place a b ≤ min (length a) (length b)
place_within a b = let k = place_len a b in let m = prefix_len-le-length (λ p. not (unequal p)) (zip a b) in omega arith

-- ---- piece by piece

abbrev pub unlike : List ℕ × List ℕ → Bool
unlike p = not (pointwise eqb p.0 p.1)

-- what is equal in front may be left out
pub place_on : (n : ℕ) (a b : List ℕ) → n ≤ first_place a b → first_place a b ≡ n + first_place (drop n a) (drop n b)
unfolding first_place
place_on zero a b h = omega arith
place_on (suc n) [] b h = absurd (omega arith)
place_on (suc n) (x ∷ xs) [] h = absurd (omega arith)
place_on (suc n) (x ∷ xs) (y ∷ ys) h =
    split (eqb x y)
    (λ e. rw e (let k = place_on n xs ys (omega (arith, rw e at h)) in omega arith))
    (λ e. absurd (omega (arith, rw e at h)))

-- and so may what stands behind the place
pub place_cut : (n : ℕ) (a b : List ℕ) → first_place a b ≤ n → first_place (take n a) (take n b) ≡ first_place a b
unfolding first_place
place_cut zero a b h = omega arith
place_cut (suc n) [] b h = refl
place_cut (suc n) (x ∷ xs) [] h = refl
place_cut (suc n) (x ∷ xs) (y ∷ ys) h =
    split (eqb x y)
    (λ e. rw e (let k = place_cut n xs ys (omega (arith, rw e at h)) in omega arith))
    (λ e. rw e refl)

-- all that stands behind the first n bytes
pub all_behind : (n : ℕ) (l : List ℕ) → take (length l - n) (drop n l) ≡ drop n l
all_behind n l = let k = length-drop n l in take_all (length l - n) (drop n l) (omega arith)

-- the first n bytes are equal just where the first place that differs is not among them
piece : (n : ℕ) (a b : List ℕ) → n ≤ length a → n ≤ length b → (pointwise eqb (take n a) (take n b) ≡ true → n ≤ first_place a b) × (pointwise eqb (take n a) (take n b) ≡ false → first_place a b < n)
unfolding first_place
piece zero a b h k = (λ t. omega arith, λ t. not_both true refl t)
piece (suc n) [] b h k = absurd (omega arith)
piece (suc n) (x ∷ xs) [] h k = absurd (omega arith)
piece (suc n) (x ∷ xs) (y ∷ ys) h k =
    let i = piece n xs ys (omega arith) (omega arith) in
    split (eqb x y)
    (λ e. rw e (λ t. let z = i.0 t in omega arith, λ t. let z = i.1 t in omega arith))
    (λ e. rw e (λ t. not_both false t refl, λ t. omega arith))

-- where a and b have k and m whole pieces of n bytes: the first pair of pieces that differ, or behind all pairs
pieces_len : (n : ℕ) → 0 < n → (k m : ℕ) (a b : List ℕ) → k * n ≤ length a → length a < k * n + n → m * n ≤ length b → length b < m * n + n → (position_or_len unlike (zip (first_chunks n k a) (first_chunks n m b)) ≡ first_place a b / n) × (length (zip (first_chunks n k a) (first_chunks n m b)) ≡ min k m)
pieces_len n h zero m a b p q r s = let w = place_within a b in (sym (div-eq_of_lt (omega arith)), omega arith)
pieces_len n h (suc k) zero a b p q r s = let w = place_within a b in (sym (div-eq_of_lt (omega arith)), omega arith)
pieces_len n h (suc k) (suc m) a b p q r s =
    let w = piece n a b (omega arith) (omega arith) in
    let la = length-drop n a in
    let lb = length-drop n b in
    let i = pieces_len n h k m (drop n a) (drop n b) (omega arith) (omega arith) (omega arith) (omega arith) in
    split (pointwise eqb (take n a) (take n b))
    (λ e. rw e (let f = place_on n a b (w.0 e) in (ap (λ (j : ℕ). 1 + j) i.0 ∙ omega (arith, add-div_left (first_place (drop n a) (drop n b)) h, ap (λ (j : ℕ). j / n) f), omega arith)))
    (λ e. rw e (sym (div-eq_of_lt (w.1 e)), omega arith))

pub pieces_at : (n : ℕ) → 0 < n → (a b : List ℕ) (r : Option ℕ) → r ≡ position unlike (zip (first_chunks n (length a / n) a) (first_chunks n (length b / n) b)) → unwrap_or r (min (length a / n) (length b / n)) ≡ first_place a b / n
pieces_at n h a b r e =
    let k = pieces_len n h (length a / n) (length b / n) a b (div-mul-le_self (length a) n) (lt-div-mul-add h) (div-mul-le_self (length b) n) (lt-div-mul-add h) in
    found unlike (zip (first_chunks n (length a / n) a) (first_chunks n (length b / n) b)) (min (length a / n) (length b / n)) r k.1 e ∙ k.0

-- ---- equal replies

eqb_step : (n m : ℕ) → eqb (n + 1) (suc m) ≡ eqb n m
eqb_step n m =
    split (eqb n m)
    (λ e. let q = eqb-true n m e in eq-eqb (n + 1) (suc m) (omega arith) ∙ sym e)
    (λ e. let q = eqb-false n m e in ne_eqb (n + 1) (suc m) (λ z. q (omega arith)) ∙ sym e)

-- replies are equal just where the first place that differs is behind both
pub same_place : (a b : List ℕ) → (eqb (first_place a b) (length a) && eqb (first_place a b) (length b)) ≡ same a b
unfolding same first_place
same_place [] [] = refl
same_place [] (y ∷ ys) = ne_eqb 0 (length (y ∷ ys)) (λ e. omega arith)
same_place (x ∷ xs) [] = rw (ne_eqb 0 (length (x ∷ xs)) (λ e. omega arith))
same_place (x ∷ xs) (y ∷ ys) =
    split (eqb x y)
    (λ e. rw e (ap₂ (λ (p q : Bool). p && q) (eqb_step (first_place xs ys) (length xs)) (eqb_step (first_place xs ys) (length ys)) ∙ same_place xs ys))
    (λ e. rw (e, ne_eqb 0 (length (x ∷ xs)) (λ q. omega arith)))

-- ---- the line of a pair

pub pair_same : (n : ℕ) (a b : List ℕ) → same a b ≡ true → pair_text n a b ≡ []
unfolding same last_of lines_from flat line_text
pair_same n [] [] e = refl
pair_same n [] (y ∷ ys) e = not_both false e refl
pair_same n (x ∷ xs) [] e = not_both false e refl
pair_same n (x ∷ xs) (y ∷ ys) e = rw e

pub pair_second : (n : ℕ) (a b : List ℕ) → same a b ≡ false → length a ≡ 0 → pair_text n a b ≡ decimal n ++ ascii " only second\n"
unfolding same last_of lines_from flat line_text
pair_second n [] [] e z = not_both true refl e
pair_second n [] (y ∷ ys) e z = append-nil _
pair_second n (x ∷ xs) b e z = absurd (omega arith)

pub pair_first : (n : ℕ) (a b : List ℕ) → same a b ≡ false → length b ≡ 0 → pair_text n a b ≡ decimal n ++ ascii " only first\n"
unfolding same last_of lines_from flat line_text
pair_first n [] [] e z = not_both true refl e
pair_first n (x ∷ xs) [] e z = append-nil _
pair_first n a (y ∷ ys) e z = absurd (omega arith)

pub pair_differ : (n : ℕ) (a b : List ℕ) → same a b ≡ false → (length a ≡ 0 → ⊥) → (length b ≡ 0 → ⊥) → pair_text n a b ≡ decimal n ++ ascii " differ " ++ decimal (first_place a b) ++ ascii "\n"
unfolding same last_of lines_from flat line_text
pair_differ n [] b e h k = absurd (h refl)
pair_differ n (x ∷ xs) [] e h k = absurd (k refl)
pair_differ n (x ∷ xs) (y ∷ ys) e h k = rw e (append-nil _)
