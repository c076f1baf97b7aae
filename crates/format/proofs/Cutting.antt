-- FieldRanges leave one way to cut a file: each says how long the first is, and what is behind it is cut the same way.
use Prim.Native.Nat.{ℕ, zero, suc, ◌+◌, ◌*◌, ◌≤◌, ◌<◌}
use mathlib.Core.Path.{◌≡◌, refl, sym, ap, ap₂, ◌∙◌}
use mathlib.Core.List.{List, [], ◌∷◌, ◌++◌, append_assoc, append-nil}
use mathlib.Core.Bool.{Bool, true}
use native.Mathlib.Omega.{arith}
use lib.Dec.{eqb, ltb}
use lib.ListN.{length, get_or, take, drop, length-drop, length-append, take-append-drop, get_or-append}
use lib.Seq.{take_at, take-add, drop_at, length-take-le}
use borrow.Author.Tests.{eqb-true, eqb-false, eq-eqb, ne_eqb, le-leb, lt-ltb}
use Rattle.paper.specs.Words.{all_b}
use Rattle.paper.specs.Records.{length_of}
use Rattle.paper.proofs.Bools.{split, both, left, right}
use Rattle.format.specs.Cut.{size_of, joined, is_whole, Parts, behind, parts_in, parts, cut}
use Rattle.format.proofs.Fitting.{size_fits, size_whole}

-- a whole one in front is the first
size_first : (r x : List ℕ) → is_whole r ≡ true → size_of (r ++ x) ≡ length r
size_first r x w =
    let e : length r ≡ 4 + length_of r = eqb-true (length r) (4 + length_of r) w in
    let a : get_or (r ++ x) 0 0 ≡ get_or r 0 0 = get_or-append r x 0 0 (omega arith) in
    let b : get_or (r ++ x) 1 0 ≡ get_or r 1 0 = get_or-append r x 0 1 (omega arith) in
    let q : length_of (r ++ x) ≡ length_of r = ap₂ (λ (n m : ℕ). n + 256 * m) a b in
    let n = length-append r x in
    rw (le-leb 4 (length (r ++ x)) (omega arith), le-leb (4 + length_of (r ++ x)) (length (r ++ x)) (omega arith)) (q' q e)
  where
    q' : length_of (r ++ x) ≡ length_of r → length r ≡ 4 + length_of r → 4 + length_of (r ++ x) ≡ length r
    q' q e = omega arith

-- nothing is whole in front
pub parts_none : (n : ℕ) (l : List ℕ) → size_of l ≡ 0 → parts_in n l ≡ record { whole = []; rest = l }
unfolding parts_in
parts_none zero l z = refl
parts_none (suc n) l z = rw (eq-eqb (size_of l) 0 z)

-- more turns than bytes change nothing
enough : (n m : ℕ) (l : List ℕ) → length l ≤ n → length l ≤ m → parts_in n l ≡ parts_in m l
unfolding parts_in
enough zero m l h k = let f = size_fits l in sym (parts_none m l (omega arith))
enough (suc n) zero l h k = let f = size_fits l in parts_none (suc n) l (omega arith)
enough (suc n) (suc m) l h k =
    split (eqb (size_of l) 0)
    (λ e. rw e)
    (λ e.
    let z = eqb-false (size_of l) 0 e in
    let d = length-drop (size_of l) l in
    rw e (ap (behind (take (size_of l) l ∷ [])) (enough n m (drop (size_of l) l) (omega arith) (omega arith))))

cut_first : (n : ℕ) (r x : List ℕ) → is_whole r ≡ true → parts_in (suc n) (r ++ x) ≡ behind (r ∷ []) (parts_in n x)
unfolding parts_in
cut_first n r x w =
    let s = size_first r x w in
    let e : length r ≡ 4 + length_of r = eqb-true (length r) (4 + length_of r) w in
    rw (s, ne_eqb (length r) 0 (omega arith), take_at r x (length r) refl, drop_at r x (length r) refl)

front_in : (n : ℕ) (said : List (List ℕ)) (x : List ℕ) → all_b is_whole said ≡ true → length (joined said ++ x) ≤ n → parts_in n (joined said ++ x) ≡ behind said (parts x)
unfolding joined all_b
front_in n [] x w h = enough n (length x) x h (omega arith)
front_in zero (r ∷ rs) x w h =
    let e : length r ≡ 4 + length_of r = eqb-true (length r) (4 + length_of r) (left (is_whole r) (all_b is_whole rs) w) in
    let a = length-append (r ++ joined rs) x in
    let b = length-append r (joined rs) in
    absurd (omega arith)
front_in (suc n) (r ∷ rs) x w h =
    let v = left (is_whole r) (all_b is_whole rs) w in
    let e : length r ≡ 4 + length_of r = eqb-true (length r) (4 + length_of r) v in
    let a = length-append (r ++ joined rs) x in
    let b = length-append r (joined rs) in
    let c = length-append (joined rs) x in
    ap (parts_in (suc n)) (append_assoc r (joined rs) x)
    ∙ cut_first n r (joined rs ++ x) v
    ∙ ap (behind (r ∷ [])) (front_in n rs x (right (is_whole r) (all_b is_whole rs) w) (omega arith))

-- whole ones in front are cut off one by one
pub front_cut : (said : List (List ℕ)) (x : List ℕ) → all_b is_whole said ≡ true → parts (joined said ++ x) ≡ behind said (parts x)
front_cut said x w = front_in (length (joined said ++ x)) said x w (omega arith)

-- where no whole one begins, none is cut off
pub none_cut : (said : List (List ℕ)) (x : List ℕ) → all_b is_whole said ≡ true → size_of (joined said ++ x) ≡ 0 → length said ≡ 0
none_cut said x w z =
    let l = joined said ++ x in
    let a : length (cut l) ≡ 0 = ap (λ (p : Parts). length p.whole) (parts_none (length l) l z) in
    let b : length (cut l) ≡ length (said ++ cut x) = ap (λ (p : Parts). length p.whole) (front_cut said x w) in
    let c = length-append said (cut x) in
    omega arith

-- where some bytes are cut off, at least one is
pub some_cut : {n : ℕ} (said : List (List ℕ)) (l : List ℕ) → take n l ≡ joined said → n ≤ length l → (n ≡ 0 → ⊥) → 0 < length said
unfolding joined
some_cut {n} [] l e h z = let k = ap length e in let m = length-take-le n l h in absurd (z (omega arith))
some_cut (r ∷ rs) l e h z = omega arith

-- and where at least one is, a whole one begins there
pub front_whole : (n : ℕ) (said : List (List ℕ)) (l : List ℕ) → all_b is_whole said ≡ true → take n l ≡ joined said → 0 < length said → 0 < size_of l
front_whole n said l w e h =
    split (eqb (size_of l) 0)
    (λ y.
    let q : l ≡ joined said ++ drop n l = sym (take-append-drop n l) ∙ ap (λ (x : List ℕ). x ++ drop n l) e in
    let m = none_cut said (drop n l) w (sym (ap size_of q) ∙ eqb-true (size_of l) 0 y) in
    absurd (omega arith))
    (λ y. let z = eqb-false (size_of l) 0 y in omega arith)

-- HEADS LEAVE ONE WAY TO CUT: whole ones, and behind them a rest in which none begins
pub one_cut : {file : List ℕ} (said : List (List ℕ)) (rest : List ℕ) → joined said ++ rest ≡ file → all_b is_whole said ≡ true → size_of rest ≡ 0 → parts file ≡ record { whole = said; rest = rest }
one_cut said rest e w z =
    ap parts (sym e) ∙ front_cut said rest w ∙ ap (behind said) (parts_none (length rest) rest z) ∙ λ i. record { whole = append-nil said i; rest = rest }

-- and each file is cut so
pub record IsCut (file : List ℕ) (p : Parts) : Type 0 where
  pub joins : joined p.whole ++ p.rest ≡ file
  pub whole : all_b is_whole p.whole ≡ true
  pub none : size_of p.rest ≡ 0

cuts_in : (n : ℕ) (l : List ℕ) → length l ≤ n → IsCut l (parts_in n l)
unfolding parts_in joined all_b
cuts_in zero l h = let f = size_fits l in record { joins = refl; whole = refl; none = omega arith }
cuts_in (suc n) l h =
    split (eqb (size_of l) 0)
    (λ e. rw e (record { joins = refl; whole = refl; none = eqb-true (size_of l) 0 e }))
    (λ e.
    let z = eqb-false (size_of l) 0 e in
    let d = length-drop (size_of l) l in
    let k = cuts_in n (drop (size_of l) l) (omega arith) in
    let r = take (size_of l) l in
    let p = parts_in n (drop (size_of l) l) in
    rw e
    (record {
      joins = append_assoc r (joined p.whole) p.rest ∙ ap (λ (x : List ℕ). r ++ x) k.joins ∙ take-append-drop (size_of l) l;
      whole = both (size_whole l (size_of l) (omega arith) refl) k.whole;
      none = k.none;
    }))

pub is_cut : (file : List ℕ) → IsCut file (parts file)
is_cut file = cuts_in (length file) file (omega arith)

-- one that is whole is cut off, whatever stands behind it
pub cut_some : (x more : List ℕ) → 0 < size_of x → 0 < length (cut (x ++ more))
unfolding joined all_b
cut_some x more h =
    let n = size_of x in
    let r = take n x in
    let e : x ++ more ≡ joined (r ∷ []) ++ (drop n x ++ more) =
    ap (λ (l : List ℕ). l ++ more) (sym (take-append-drop n x)) ∙ append_assoc r (drop n x) more ∙ ap (λ (l : List ℕ). l ++ (drop n x ++ more)) (sym (append-nil r)) in
    let q : cut (x ++ more) ≡ r ∷ cut (drop n x ++ more) = ap cut e ∙ ap (λ (p : Parts). p.whole) (front_cut (r ∷ []) (drop n x ++ more) (both (size_whole x n h refl) refl)) in
    let m = ap length q in
    omega arith

-- ---- runs of whole ones

pub joined_append : (rs qs : List (List ℕ)) → joined (rs ++ qs) ≡ joined rs ++ joined qs
unfolding joined
joined_append [] qs = refl
joined_append (r ∷ rs) qs = ap (λ (x : List ℕ). r ++ x) (joined_append rs qs) ∙ sym (append_assoc r (joined rs) (joined qs))

-- all that was read so far, and behind it what a turn read, is those taken so far, those that the turn took, and what
-- waits now
pub joined_on : {all : List ℕ} (rs qs : List (List ℕ)) (waited more rest : List ℕ) → all ≡ joined rs ++ waited → waited ++ more ≡ joined qs ++ rest → all ++ more ≡ joined (rs ++ qs) ++ rest
joined_on rs qs waited more rest a e =
    ap (λ (l : List ℕ). l ++ more) a
    ∙ append_assoc (joined rs) waited more
    ∙ ap (λ (l : List ℕ). joined rs ++ l) e
    ∙ sym (append_assoc (joined rs) (joined qs) rest)
    ∙ ap (λ (l : List ℕ). l ++ rest) (sym (joined_append rs qs))

module _ {A : Type 0} (f : A → Bool) where
  pub all_append : (xs ys : List A) → all_b f xs ≡ true → all_b f ys ≡ true → all_b f (xs ++ ys) ≡ true
  unfolding all_b
  all_append [] ys a b = b
  all_append (x ∷ xs) ys a b = both (left (f x) (all_b f xs) a) (all_append xs ys (right (f x) (all_b f xs) a) b)

  pub all_parts : (xs ys : List A) → all_b f (xs ++ ys) ≡ true → (all_b f xs ≡ true) × (all_b f ys ≡ true)
  unfolding all_b
  all_parts [] ys a = (refl, a)
  all_parts (x ∷ xs) ys a = let k = all_parts xs ys (right (f x) (all_b f (xs ++ ys)) a) in (both (left (f x) (all_b f (xs ++ ys)) a) k.0, k.1)

-- whole ones of no bytes are none
pub none_whole : {n : ℕ} (rs : List (List ℕ)) (l : List ℕ) → all_b is_whole rs ≡ true → take n l ≡ joined rs → n ≡ 0 → rs ≡ []
unfolding joined all_b
none_whole [] l w e z = refl
none_whole (r ∷ rs) l w e z =
    let a : length r ≡ 4 + length_of r = eqb-true (length r) (4 + length_of r) (left (is_whole r) (all_b is_whole rs) w) in
    let b : 0 ≡ length r + length (joined rs) = ap length (sym (ap (λ (m : ℕ). take m l) z) ∙ e) ∙ length-append r (joined rs) in
    absurd (omega arith)

-- ---- one more

pub joined_more : (rs : List (List ℕ)) (r : List ℕ) → joined (rs ++ (r ∷ [])) ≡ joined rs ++ r
unfolding joined
joined_more rs r = joined_append rs (r ∷ []) ∙ ap (λ (x : List ℕ). joined rs ++ x) (append-nil r)

-- the first `taken` bytes are these, and behind them stands one of n bytes
module _ (rs : List (List ℕ)) (l : List ℕ) (taken n : ℕ) where
  pub taken_more : take taken l ≡ joined rs → take (taken + n) l ≡ joined (rs ++ (take n (drop taken l) ∷ []))
  taken_more e = take-add taken n l ∙ ap (λ (x : List ℕ). x ++ take n (drop taken l)) e ∙ sym (joined_more rs (take n (drop taken l)))

  pub whole_more : 0 < n → n ≡ size_of (drop taken l) → all_b is_whole rs ≡ true → all_b is_whole (rs ++ (take n (drop taken l) ∷ [])) ≡ true
  unfolding all_b
  whole_more h e w = all_append is_whole rs (take n (drop taken l) ∷ []) w (both (size_whole (drop taken l) n h e) refl)

-- what holds of each byte holds of each byte of each
pub all_joined : (f : ℕ → Bool) (rs : List (List ℕ)) → all_b f (joined rs) ≡ true → all_b (all_b f) rs ≡ true
unfolding joined all_b
all_joined f [] a = refl
all_joined f (r ∷ rs) a = let k = all_parts f r (joined rs) a in both k.0 (all_joined f rs k.1)

-- Bytes are lent as `&[u8]`, and of a slice of u8 the kit knows that each element is below 256 (`shared-slice-known`,
-- `slice-known`): so they are a list of bytes
pub lent_bytes : (r : List ℕ) → ((k : ℕ) → get_or r k 0 < 256) → all_b (λ (b : ℕ). ltb b 256) r ≡ true
unfolding all_b
lent_bytes [] h = refl
lent_bytes (b ∷ r) h = both (lt-ltb b 256 (h 0)) (lent_bytes r (λ k. h (suc k)))
