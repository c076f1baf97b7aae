-- Texts one behind the other, and the digits of numbers.
use Prim.Native.Nat.{ℕ, zero, suc, ◌+◌, ◌-◌, ◌/◌, ◌%◌, ◌^◌, ◌≤◌, ◌<◌}
use mathlib.Core.Path.{◌≡◌, refl, sym, ap, subst, ◌∙◌}
use mathlib.Core.List.{List, [], ◌∷◌, ◌++◌, append_assoc}
use mathlib.Core.Bool.{Bool, true, false, cond}
use native.Mathlib.Numerals.{add-one}
use native.Mathlib.Omega.{arith}
use borrow.Author.Tests.{lt-ltb, le-ltb}
use lib.Dec.{ltb}
use lib.IntN.{ℤ, pos, negsuc}
use lib.Signed.{lt_z}
use lib.ListN.{length, take, drop, set, length-append}
use lib.Seq.{sets, sets-eq, drop-drop}
use Rattle.std.proofs.lemmas.List.{drop-set}
use borrow.Rule.Slice.PartMut.{put_mid}
use Rattle.std.specs.Prelude.{unsigned_abs}
use Rattle.wire.proofs.Laws.{runs, sets_over}
use Rattle.wire.specs.Bytes.{over}
use Rattle.stream.specs.Text.{ascii, digits, decimal, integer, Wrote}

-- a second text right behind the first
infixl 30 ◌then◌
pub ◌then◌ : {d d1 d2 xs ys : List ℕ} {at r1 r2 m n : ℕ} → Wrote d at xs m r1 d1 → Wrote d1 r1 ys n r2 d2 → Wrote d at (xs ++ ys) (m + n) r2 d2
◌then◌ {d} {d1} {d2} {xs} {ys} {at} {r1} {r2} {m} {n} v w =
    let e : length (xs ++ ys) ≡ length xs + length ys = length-append xs ys in
    let p = v.place in
    let q = w.place in
    let x = v.fits in
    let y = w.fits in
    record { place = omega (arith, p, q, e); fits = omega (arith, x, y); bytes = runs d xs ys at r1 v.bytes w.bytes (sym p) }

-- the same text, said otherwise, and with more room
pub retold : {d d1 xs ys : List ℕ} {at r m : ℕ} → xs ≡ ys → Wrote d at xs m r d1 → Wrote d at ys m r d1
retold {d} {d1} {at = at} {r} {m} e w = subst (λ (t : List ℕ). Wrote d at t m r d1) e w

pub roomier : {d d1 xs : List ℕ} {at r m n : ℕ} → m ≤ n → Wrote d at xs m r d1 → Wrote d at xs n r d1
roomier h w = let x = w.fits in record { place = w.place; fits = omega (arith, x, h); bytes = w.bytes }

-- no text
pub blank : (d : List ℕ) (at m : ℕ) → Wrote d at [] m at d
blank d at m = record { place = omega arith; fits = omega arith; bytes = refl }

pub nothing : {b : Bool} (d : List ℕ) (at : ℕ) (word : List ℕ) → b ≡ false → Wrote d at (cond b word []) (length word) at d
nothing {b} d at word e = subst (λ (t : Bool). Wrote d at (cond t word []) (length word) at d) (sym e) (blank d at (length word))

-- a text at the start of a buffer that has room
pub from_start : {t d d1 : List ℕ} {m r : ℕ} → m ≤ length d → Wrote d 0 t m r d1 → (r ≡ length t) × (r ≤ m) × (d1 ≡ over t d)
from_start {t} {d} h w =
    let p = w.place in
    let x = w.fits in
    (omega (arith, p), omega (arith, x), w.bytes ∙ sets_over t d (omega (arith, p, x, h)))

-- a word that is copied to its place
pub stored : (d : List ℕ) (at : ℕ) (word copy : List ℕ) → at + length word ≤ length d → copy ≡ word → put_mid at (at + length word - at) d copy ≡ sets d at word
stored d at word copy h e =
    let k : at + length word - at ≡ length word = omega arith in
    rw (k, e)
    (sym
    (sets-eq word d at h
    ∙ append_assoc (take at d) word (drop (at + length word) d)
    ∙ ap (λ (l : List ℕ). take at d ++ (word ++ l)) (sym (drop-drop (length word) at d))))

-- ---- digits

-- the last digit of a number, in front of those that stand already
next_digit_at : (j n : ℕ) (d : List ℕ) → 10 ≤ n → j < length d → digits j (n / 10) ++ drop j (set d j (48 + n % 10)) ≡ digits (suc j) n ++ drop (suc j) d
unfolding digits
next_digit_at j n d h k =
    simp (le-ltb n 10 h) (rw (drop-set d j (48 + n % 10) k, add-one) (sym (append_assoc (digits j (n / 10)) ((48 + n % 10) ∷ []) (drop (suc j) d))))

pub next_digit : (i n : ℕ) (d : List ℕ) → 10 ≤ n → 1 ≤ i → i ≤ length d → digits (i - 1) (n / 10) ++ drop (i - 1) (set d (i - 1) (48 + n % 10)) ≡ digits i n ++ drop i d
next_digit zero n d h k m = absurd (omega arith)
next_digit (suc j) n d h k m = let e : suc j - 1 ≡ j = omega arith in rw e (next_digit_at j n d h (omega arith))

-- and its first
pub first_digit : (i n : ℕ) (d : List ℕ) → n < 10 → 1 ≤ i → i ≤ length d → drop (i - 1) (set d (i - 1) (48 + n)) ≡ digits i n ++ drop i d
unfolding digits
first_digit zero n d h k m = absurd (omega arith)
first_digit (suc j) n d h k m =
    let e : suc j - 1 ≡ j = omega arith in
    rw e (simp (lt-ltb n 10 h) (rw (drop-set d j (48 + n) (omega arith), add-one) refl))

-- a number of at least two digits
pub places : (i n : ℕ) → n < 10 ^ i → 10 ≤ n → 2 ≤ i
places zero n h k = absurd (omega arith)
places (suc zero) n h k = absurd (omega arith)
places (suc (suc i)) n h k = omega arith

-- has one place less without its last digit
pub one_place_less : (i n : ℕ) → n < 10 ^ i → 10 ≤ n → n / 10 < 10 ^ (i - 1)
one_place_less zero n h k = absurd (omega arith)
one_place_less (suc i) n h k = let e : suc i - 1 ≡ i = omega arith in rw e (omega arith)

-- a number below 10 ^ k has at most k digits
either : (b : Bool) (x y : List ℕ) (k : ℕ) → length x ≤ k → length y ≤ k → length (cond b x y) ≤ k
either true x y k h g = h
either false x y k h g = g

few_digits : (f k n : ℕ) → n < 10 ^ suc k → length (digits f n) ≤ suc k
unfolding digits
few_digits zero k n h = omega arith
few_digits (suc f) zero n h = let e = lt-ltb n 10 (omega arith) in simp e (omega arith)
few_digits (suc f) (suc k) n h =
    let e = length-append (digits f (n / 10)) ((48 + n % 10) ∷ []) in
    let i = few_digits f k (n / 10) (omega arith) in
    either (ltb n 10) _ _ (suc (suc k)) (omega arith) (omega (arith, e, i))

pub ten_digits : (n : ℕ) → n < 4294967296 → length (decimal n) ≤ 10
unfolding decimal
ten_digits n h = few_digits 20 9 n (omega arith)

pub twenty_digits : (n : ℕ) → n < 18446744073709551616 → length (decimal n) ≤ 20
unfolding decimal
twenty_digits n h = few_digits 20 19 n (omega arith)

-- ---- integers

-- a sign, or nothing, and the digits of how far a number is from 0
pub signed_text : (z : ℤ) → cond (lt_z z (pos 0)) (ascii "-") [] ++ decimal (unsigned_abs z) ≡ integer z
unfolding integer
signed_text (pos n) = rw (le-ltb n 0 (omega arith)) refl
signed_text (negsuc n) = rw add-one refl
