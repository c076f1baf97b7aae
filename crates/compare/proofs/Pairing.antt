-- Replies are taken off the front of two files, and the lines of those taken so far are numbered on: the heads leave
-- one way to cut a file.
use Prim.Native.Nat.{ℕ, ◌+◌, ◌≤◌, ◌<◌, max}
use mathlib.Core.Path.{◌≡◌, refl, sym, ap, subst, ◌∙◌}
use mathlib.Core.List.{List, [], ◌∷◌, ◌++◌, append-nil, append_assoc}
use mathlib.Core.Bool.{Bool, true, false, ◌&&◌}
use native.Mathlib.Omega.{arith}
use lib.Dec.{eqb}
use lib.ListN.{length, take, drop, length-drop, take-append-drop}
use lib.Seq.{take_all, drop-length, drop-drop, length-take-le}
use borrow.Author.Tests.{eqb-true, eqb-false}
use Rattle.paper.specs.Words.{all_b, flat}
use Rattle.paper.proofs.Bools.{split, both, not_both}
use Rattle.wire.proofs.Flat.{flat_append}
use Rattle.format.specs.Cut.{size_of, joined, Parts, parts_in, parts}
use Rattle.format.proofs.Fitting.{size_fits, size_whole}
use Rattle.format.proofs.Cutting.{parts_none, front_cut}
use Rattle.compare.specs.Lines.{last_of, replies_of, Line, differ, lines_from, line_text}
use Rattle.compare.specs.Lines.Line.{OnlyFirst, OnlySecond}
use Rattle.compare.specs.Pairs.{reply_size, ready, lines_text, Cuts}

-- ---- one reply

last_some : (l : List ℕ) → 0 < length l → last_of l ≡ l ∷ []
unfolding last_of
last_some [] h = absurd (omega arith)
last_some (b ∷ bs) h = refl

-- a whole one is the first, whatever stands behind it
whole_off : (l more : List ℕ) → 0 < size_of l → replies_of (l ++ more) ≡ take (size_of l) l ∷ replies_of (drop (size_of l) l ++ more)
unfolding joined all_b
whole_off l more h =
    let n = size_of l in
    let r = take n l in
    let x = drop n l ++ more in
    let e : l ++ more ≡ joined (r ∷ []) ++ x =
    ap (λ (k : List ℕ). k ++ more) (sym (take-append-drop n l)) ∙ append_assoc r (drop n l) more ∙ ap (λ (k : List ℕ). k ++ x) (sym (append-nil r)) in
    ap (λ (p : Parts). p.whole ++ last_of p.rest) (ap parts e ∙ front_cut (r ∷ []) x (both (size_whole l n h refl) refl))

-- where none is whole and nothing comes behind, all that is left is the last
rest_off : (l : List ℕ) → size_of l ≡ 0 → replies_of l ≡ last_of l
rest_off l z = ap (λ (p : Parts). p.whole ++ last_of p.rest) (parts_none (length l) l z)

pub none_off : replies_of [] ≡ []
unfolding parts_in last_of
none_off = refl

-- ONE REPLY IS TAKEN OFF THE FRONT, or nothing where the file has ended and nothing is left
pub one_off : (e : Bool) (l : List ℕ) → ready e (reply_size e l) ≡ true → Cuts e l (last_of (take (reply_size e l) l)) (drop (reply_size e l) l)
one_off e l r more c =
    split (eqb (size_of l) 0)
    (λ z. by_end e (eqb-true (size_of l) 0 z) z r c)
    (λ z.
    let n = eqb-false (size_of l) 0 z in
    let h : 0 < size_of l = omega arith in
    let f = size_fits l in
    rw z (whole_off l more h ∙ ap (λ (k : List (List ℕ)). k ++ replies_of (drop (size_of l) l ++ more)) (sym (last_some (take (size_of l) l) (let k = length-take-le (size_of l) l f in omega arith)))))
  where
    by_end : (e : Bool) → size_of l ≡ 0 → eqb (size_of l) 0 ≡ true → ready e (reply_size e l) ≡ true → (e ≡ true → more ≡ [])
        → replies_of (l ++ more) ≡ last_of (take (reply_size e l) l) ++ replies_of (drop (reply_size e l) l ++ more)
    by_end true z y r c =
        rw (y, c refl, append-nil l, take_all (length l) l (omega arith), drop-length l) (rest_off l z ∙ sym (append-nil (last_of l)) ∙ ap (λ (k : List (List ℕ)). last_of l ++ k) (sym none_off))
    by_end false z y r c =
        let q : reply_size false l ≡ 0 = rw y z in
        not_both false (subst (λ (n : ℕ). ready false n ≡ true) q r) refl

-- ---- some replies, and some behind them

-- taken from a file, and then more from what was left
pub cuts_on : {e : Bool} (file rest left : List ℕ) (rs qs : List (List ℕ)) → Cuts e file rs rest → Cuts e rest qs left → Cuts e file (rs ++ qs) left
cuts_on file rest left rs qs a b more c =
    a more c ∙ ap (λ (k : List (List ℕ)). rs ++ k) (b more c) ∙ sym (append_assoc rs qs (replies_of (left ++ more)))

-- lines behind lines: a file that gave fewer replies gives no more
pub lines_append : (n : ℕ) (rs ss qs ts : List (List ℕ)) → (length rs < length ss → qs ≡ []) → (length ss < length rs → ts ≡ []) → lines_from n (rs ++ qs) (ss ++ ts) ≡ lines_from n rs ss ++ lines_from (n + max (length rs) (length ss)) qs ts
unfolding lines_from
lines_append n [] [] qs ts h k =
    let m : n ≡ n + max 0 0 = omega arith in
    ap (λ (x : ℕ). lines_from x qs ts) m
lines_append n (r ∷ rs) [] qs ts h k =
    let z : ts ≡ [] = k (omega arith) in
    let m : n + 1 + max (length rs) 0 ≡ n + max (length (r ∷ rs)) 0 = omega arith in
    rw z (ap (λ (l : List Line). OnlyFirst n ∷ l) (lines_append (n + 1) rs [] qs [] (λ q. absurd (omega arith)) (λ _. refl) ∙ ap (λ (x : ℕ). lines_from (n + 1) rs [] ++ lines_from x qs []) m))
lines_append n [] (s ∷ ss) qs ts h k =
    let z : qs ≡ [] = h (omega arith) in
    let m : n + 1 + max 0 (length ss) ≡ n + max 0 (length (s ∷ ss)) = omega arith in
    rw z (ap (λ (l : List Line). OnlySecond n ∷ l) (lines_append (n + 1) [] ss [] ts (λ _. refl) (λ q. absurd (omega arith)) ∙ ap (λ (x : ℕ). lines_from (n + 1) [] ss ++ lines_from x [] ts) m))
lines_append n (r ∷ rs) (s ∷ ss) qs ts h k =
    let m : n + 1 + max (length rs) (length ss) ≡ n + max (length (r ∷ rs)) (length (s ∷ ss)) = omega arith in
    ap (λ (l : List Line). differ n r s ++ l) (lines_append (n + 1) rs ss qs ts (λ q. h (omega arith)) (λ q. k (omega arith)) ∙ ap (λ (x : ℕ). lines_from (n + 1) rs ss ++ lines_from x qs ts) m)
    ∙ sym (append_assoc (differ n r s) (lines_from (n + 1) rs ss) (lines_from (n + max (length (r ∷ rs)) (length (s ∷ ss))) qs ts))

pub text_append : (n : ℕ) (rs ss qs ts : List (List ℕ)) → (length rs < length ss → qs ≡ []) → (length ss < length rs → ts ≡ []) → lines_text n (rs ++ qs) (ss ++ ts) ≡ lines_text n rs ss ++ lines_text (n + max (length rs) (length ss)) qs ts
text_append n rs ss qs ts h k = ap (flat line_text) (lines_append n rs ss qs ts h k) ∙ flat_append line_text (lines_from n rs ss) (lines_from (n + max (length rs) (length ss)) qs ts)

-- from number 0 on, the number is how many there are
pub from_none : (rs ss qs ts : List (List ℕ)) → (length rs < length ss → qs ≡ []) → (length ss < length rs → ts ≡ []) → lines_text 0 (rs ++ qs) (ss ++ ts) ≡ lines_text 0 rs ss ++ lines_text (max (length rs) (length ss)) qs ts
from_none rs ss qs ts h k =
    let z : 0 + max (length rs) (length ss) ≡ max (length rs) (length ss) = omega arith in
    text_append 0 rs ss qs ts h k ∙ ap (λ (n : ℕ). lines_text 0 rs ss ++ lines_text n qs ts) z

-- ---- one reply of a file, from a place on

pub none_of : {A : Type 0} (l : List A) → length l ≡ 0 → l ≡ []
none_of [] e = refl
none_of (x ∷ xs) e = absurd (omega arith)

reply_fits : (e : Bool) (l : List ℕ) → reply_size e l ≤ length l
reply_fits e l = split (eqb (size_of l) 0 && e) (λ t. rw t (omega arith)) (λ t. rw t (size_fits l))

-- where the file has ended and there is no reply nothing is left
pub reply_none : (e : Bool) (l : List ℕ) → e ≡ true → reply_size e l ≡ 0 → length l ≡ 0
reply_none e l t z =
    split (eqb (size_of l) 0)
    (λ y. rw (y, t) at z)
    (λ y. absurd (eqb-false (size_of l) 0 y (rw y at z)))

module _ {n : ℕ} (e : Bool) (file : List ℕ) (i : ℕ) (h : i ≤ length file) (q : n ≡ reply_size e (drop i file)) where
  abbrev taken : List (List ℕ)
  taken = last_of (take n (drop i file))

  pub off_fits : i + n ≤ length file
  off_fits = let k = reply_fits e (drop i file) in let d = length-drop i file in omega arith

  long : length (take n (drop i file)) ≡ n
  long = let k = off_fits in let d = length-drop i file in length-take-le n (drop i file) (omega arith)

  pub off_one : 0 < n → length taken ≡ 1
  off_one k = ap length (last_some (take n (drop i file)) (let l = long in omega arith))

  pub off_none : n ≡ 0 → taken ≡ []
  unfolding last_of
  off_none z = ap last_of (none_of (take n (drop i file)) (long ∙ z))

  module _ (r : ready e n ≡ true) where
    pub off_end : n ≡ 0 → (e ≡ true) × (i + n ≡ length file)
    off_end z =
        let t : e ≡ true = subst (λ (k : ℕ). ready e k ≡ true) z r in
        let l = reply_none e (drop i file) t (sym q ∙ z) in
        let d = length-drop i file in
        (t, omega arith)

    pub off_cuts : Cuts e (drop i file) taken (drop (i + n) file)
    off_cuts = subst (λ (l : List ℕ). Cuts e (drop i file) taken l) (drop-drop n i file) (subst (λ (k : ℕ). Cuts e (drop i file) (last_of (take k (drop i file))) (drop k (drop i file))) (sym q) (one_off e (drop i file) (subst (λ (k : ℕ). ready e k ≡ true) q r)))
