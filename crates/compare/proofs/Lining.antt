-- One pair more behind those of a block: a reply of each file, or none of one that has ended, and the line that they
-- call for.
use Prim.Native.Nat.{ℕ, ◌+◌, ◌≤◌, ◌<◌, max}
use mathlib.Core.Path.{◌≡◌, refl, sym, ap, ap₂, subst, ◌∙◌}
use mathlib.Core.List.{List, [], ◌++◌}
use mathlib.Core.Bool.{Bool, true, false, ◌&&◌}
use native.Mathlib.Omega.{arith}
use lib.Dec.{ltb}
use lib.ListN.{length, take, drop, length-append}
use borrow.Author.Tests.{le-ltb, ltb-true, ltb-false}
use Rattle.paper.specs.Words.{flat}
use Rattle.paper.proofs.Bools.{split, left, right, not_both}
use Rattle.stream.specs.Laid.{Puts}
use Rattle.stream.specs.Text.{Wrote}
use Rattle.stream.proofs.Laying.{put_none, put_wrote}
use Rattle.compare.specs.Lines.{last_of, lines_from}
use Rattle.compare.specs.Pairs.{reply_size, ready, some_left, most, goes_with, goes, taken_at, lines_text, pair_text, Paired}
use Rattle.compare.proofs.Pairing.{cuts_on, text_append, off_fits, off_one, off_none, off_end, off_cuts}

pub nothing_yet : (n : ℕ) (first : List ℕ) (e : Bool) (second : List ℕ) (f : Bool) (output : List ℕ) → Paired n first e second f output (taken_at n 0 0 0) output
unfolding lines_from flat
nothing_yet n first e second f output =
    record {
      firsts = [];
      seconds = [];
      cut_first = λ more c. refl;
      cut_second = λ more c. refl;
      lines = put_none output;
      number = omega arith;
      fewer_firsts = λ h. absurd (omega arith);
      fewer_seconds = λ h. absurd (omega arith);
      none = λ _. (refl, refl);
      some = λ _ _. (refl, refl);
      any = λ h. absurd (omega arith);
    }

-- ---- how many replies there are

pub goes_at : {n m : ℕ} {b : Bool} (next : ℕ) (e : Bool) (x : List ℕ) (f : Bool) (y : List ℕ) → n ≡ reply_size e x → m ≡ reply_size f y → goes_with next e n f m ≡ b → goes next e x f y ≡ b
goes_at next e x f y p q t = sym (ap₂ (λ (k l : ℕ). goes_with next e k f l) p q) ∙ t

-- one of two sizes is not 0
some_size : (n m : ℕ) → some_left n m ≡ true → n ≡ 0 → m ≡ 0 → ⊥
some_size n m h z w = not_both (some_left n m) h (rw (le-ltb 0 n (omega arith), le-ltb 0 m (omega arith)))

pub not_nothing : (n m : ℕ) → (n ≡ 0 → m ≡ 0 → ⊥) → 0 < n + m
not_nothing n m h =
    split (ltb 0 (n + m))
    (λ u. ltb-true 0 (n + m) u)
    (λ u. let z = ltb-false 0 (n + m) u in absurd (h (omega arith) (omega arith)))

-- what is known where a pair is compared
module _ (next : ℕ) (e : Bool) (n : ℕ) (f : Bool) (m : ℕ) (t : goes_with next e n f m ≡ true) where
  all_ready : (ready e n && ready f m && some_left n m) ≡ true
  all_ready = left (ready e n && ready f m && some_left n m) (ltb next most) t

  both_ready : (ready e n && ready f m) ≡ true
  both_ready = left (ready e n && ready f m) (some_left n m) all_ready

  ready_first : ready e n ≡ true
  ready_first = left (ready e n) (ready f m) both_ready

  ready_second : ready f m ≡ true
  ready_second = right (ready e n) (ready f m) both_ready

  some_taken : n ≡ 0 → m ≡ 0 → ⊥
  some_taken = some_size n m (right (ready e n && ready f m) (some_left n m) all_ready)

  pub goes_number : next < most
  goes_number = ltb-true next most (right (ready e n && ready f m && some_left n m) (ltb next most) t)

  pub goes_more : 0 < n + m
  goes_more = not_nothing n m some_taken

-- x and y so far, and of each side one more just where its size is not 0, which it is where that side is behind
counted : (n m x y p q : ℕ) → (n ≡ 0 → m ≡ 0 → ⊥) → (n ≡ 0 → p ≡ 0) → (0 < n → p ≡ 1) → (m ≡ 0 → q ≡ 0) → (0 < m → q ≡ 1) → (0 < n → y ≤ x) → (0 < m → x ≤ y)
    → max (x + p) (y + q) ≡ max x y + 1
counted n m x y p q s a b c d f g =
    split (ltb 0 n)
    (λ u.
    let hn = ltb-true 0 n u in
    let ep = b hn in
    let k = f hn in
    split (ltb 0 m)
    (λ v. let hm = ltb-true 0 m v in let eq = d hm in let l = g hm in omega arith)
    (λ v. let zm = ltb-false 0 m v in let eq = c (omega arith) in omega arith))
    (λ u.
    let zn = ltb-false 0 n u in
    let ep = a (omega arith) in
    split (ltb 0 m)
    (λ v. let hm = ltb-true 0 m v in let eq = d hm in let l = g hm in omega arith)
    (λ v. let zm = ltb-false 0 m v in absurd (s (omega arith) (omega arith))))

-- ---- one pair more

module _ {number next n m made made' : ℕ} {before output after : List ℕ} (e f : Bool) (first second : List ℕ) (i j : ℕ) (hi : i ≤ length first) (hj : j ≤ length second)
    (qn : n ≡ reply_size e (drop i first)) (qm : m ≡ reply_size f (drop j second)) (t : goes_with next e n f m ≡ true) (room : made + 49 ≤ length output)
    (g : Paired number first e second f before (taken_at next i j made) output)
    (w : Wrote output made (pair_text next (take n (drop i first)) (take m (drop j second))) 49 made' after) where
  abbrev a : List (List ℕ)
  a = last_of (take n (drop i first))

  abbrev b : List (List ℕ)
  b = last_of (take m (drop j second))

  ready_n : ready e n ≡ true
  ready_n = ready_first next e n f m t

  ready_m : ready f m ≡ true
  ready_m = ready_second next e n f m t

  not_none : n ≡ 0 → m ≡ 0 → ⊥
  not_none = some_taken next e n f m t

  -- a file that has given fewer gives no more
  none_n : length g.firsts < length g.seconds → n ≡ 0
  none_n h = let k = (g.fewer_firsts h).1 in let l = off_fits e first i hi qn in omega arith

  none_m : length g.seconds < length g.firsts → m ≡ 0
  none_m h = let k = (g.fewer_seconds h).1 in let l = off_fits f second j hj qm in omega arith

  not_behind : 0 < n → length g.seconds ≤ length g.firsts
  not_behind h =
      split (ltb (length g.firsts) (length g.seconds))
      (λ u. let z = none_n (ltb-true (length g.firsts) (length g.seconds) u) in absurd (omega arith))
      (λ u. ltb-false (length g.firsts) (length g.seconds) u)

  not_ahead : 0 < m → length g.firsts ≤ length g.seconds
  not_ahead h =
      split (ltb (length g.seconds) (length g.firsts))
      (λ u. let z = none_m (ltb-true (length g.seconds) (length g.firsts) u) in absurd (omega arith))
      (λ u. ltb-false (length g.seconds) (length g.firsts) u)

  none_a : n ≡ 0 → length a ≡ 0
  none_a z = ap length (off_none e first i hi qn z)

  none_b : m ≡ 0 → length b ≡ 0
  none_b z = ap length (off_none f second j hj qm z)

  most_a : length a ≤ 1
  most_a =
      split (ltb 0 n)
      (λ u. let k = off_one e first i hi qn (ltb-true 0 n u) in omega arith)
      (λ u. let z = ltb-false 0 n u in let k = none_a (omega arith) in omega arith)

  most_b : length b ≤ 1
  most_b =
      split (ltb 0 m)
      (λ u. let k = off_one f second j hj qm (ltb-true 0 m u) in omega arith)
      (λ u. let z = ltb-false 0 m u in let k = none_b (omega arith) in omega arith)

  number_on : next + 1 ≡ number + max (length (g.firsts ++ a)) (length (g.seconds ++ b))
  number_on =
      let x = length-append g.firsts a in
      let y = length-append g.seconds b in
      let k = counted n m (length g.firsts) (length g.seconds) (length a) (length b) not_none none_a (off_one e first i hi qn) none_b (off_one f second j hj qm) not_behind not_ahead in
      let l = g.number in
      rw (x, y) (omega arith)

  one_more : 0 < length (g.firsts ++ a) + length (g.seconds ++ b)
  one_more = let k = number_on in let l = g.number in omega arith

  fewer_n : length (g.firsts ++ a) < length (g.seconds ++ b) → (e ≡ true) × (i + n ≡ length first)
  fewer_n h =
      split (ltb 0 n)
      (λ u.
      let hn = ltb-true 0 n u in
      let k = off_one e first i hi qn hn in
      let l = not_behind hn in
      let c = most_b in
      let x = length-append g.firsts a in
      let y = length-append g.seconds b in
      absurd (omega arith))
      (λ u. let z = ltb-false 0 n u in off_end e first i hi qn ready_n (omega arith))

  fewer_m : length (g.seconds ++ b) < length (g.firsts ++ a) → (f ≡ true) × (j + m ≡ length second)
  fewer_m h =
      split (ltb 0 m)
      (λ u.
      let hm = ltb-true 0 m u in
      let k = off_one f second j hj qm hm in
      let l = not_ahead hm in
      let c = most_a in
      let x = length-append g.firsts a in
      let y = length-append g.seconds b in
      absurd (omega arith))
      (λ u. let z = ltb-false 0 m u in off_end f second j hj qm ready_m (omega arith))

  text_on : lines_text number g.firsts g.seconds ++ pair_text next (take n (drop i first)) (take m (drop j second)) ≡ lines_text number (g.firsts ++ a) (g.seconds ++ b)
  text_on =
      ap (λ (k : ℕ). lines_text number g.firsts g.seconds ++ lines_text k a b) g.number
      ∙ sym (text_append number g.firsts g.seconds a b (λ h. off_none e first i hi qn (none_n h)) (λ h. off_none f second j hj qm (none_m h)))

  -- a pair waits here, so one waited at the start
  waited : goes number e first f second ≡ false → ⊥
  waited h =
      let z = g.none h in
      let k = g.some z.0 z.1 in
      let l : next ≡ number = g.number ∙ (let p = ap length k.0 in let q = ap length k.1 in omega arith) in
      let u = goes_at next e (drop i first) f (drop j second) qn qm t in
      let v : goes number e (drop 0 first) f (drop 0 second) ≡ true = subst (λ (x : ℕ). goes number e (drop x first) f (drop 0 second) ≡ true) z.0 (subst (λ (x : ℕ). goes number e (drop i first) f (drop x second) ≡ true) z.1 (subst (λ (x : ℕ). goes x e (drop i first) f (drop j second) ≡ true) l u)) in
      not_both (goes number e first f second) v h

  pub one_pair : Paired number first e second f before (taken_at (next + 1) (i + n) (j + m) made') after
  one_pair =
      record {
        firsts = g.firsts ++ a;
        seconds = g.seconds ++ b;
        cut_first = cuts_on first (drop i first) (drop (i + n) first) g.firsts a g.cut_first (off_cuts e first i hi qn ready_n);
        cut_second = cuts_on second (drop j second) (drop (j + m) second) g.seconds b g.cut_second (off_cuts f second j hj qm ready_m);
        lines = subst (λ (l : List ℕ). Puts made' l before after) text_on (put_wrote (lines_text number g.firsts g.seconds) _ g.lines room w);
        number = number_on;
        fewer_firsts = fewer_n;
        fewer_seconds = fewer_m;
        none = λ h. absurd (waited h);
        some = λ x y. absurd (not_none (omega arith) (omega arith));
        any = λ _. one_more;
      }
