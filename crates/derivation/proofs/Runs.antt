-- The three sets are one run: Before, After and LtCurr together are its front, and the two orders of candidates differ
-- by which of the first two parts a place falls into.
use mathlib.Core.Path.{◌≡◌, refl, sym, ap, ap₂, ◌∙◌, subst}
use mathlib.Core.Bool.{Bool, true, false, cond, not, ◌&&◌, ◌||◌, true≢false}
use mathlib.Core.List.{List, [], ◌∷◌, ◌++◌, map, map-append, append_assoc, append-nil}
use Prim.Native.Nat.{ℕ, zero, suc, ◌+◌, ◌-◌, ◌%◌, ◌<◌, ◌≤◌, min}
use native.Mathlib.Nat.{le_of_suc-le-suc, not-suc-le-zero, mod-lt}
use native.Mathlib.Omega.{arith}
use native.Mathlib.Numerals.{add-one}
use lib.Dec.{ltb, leb}
use borrow.Author.Tests.{ltb-true, ltb-false, leb-true, leb-false, lt-ltb, le-leb}
use lib.ListN.{length, get_or, take, drop, set, length-append, length-take, length-drop, length-map, take-append-drop, get_or-append, get_or-eq_default, get_or-map}
use lib.Seq.{take-add, take_at, drop_at, take-suc, take-length, get_or-take, get_or_at, get_or-append-add}
use mir.Val.{bool_byte}
use Rattle.std.specs.List.{list_any}
use Rattle.paper.specs.declared.Serial.{Serial}
use Rattle.paper.specs.Words.{table, any_b}
use Rattle.paper.specs.Numbers.{missing, a_serial}
use Rattle.paper.specs.State as State
use Rattle.paper.specs.RefLists.{own_of, candidates0, candidates1, placed}
use Rattle.paper.proofs.Bools.{split, both, left, right, or_left, or_right}
use Rattle.paper.proofs.Fits.{table_length}
use Rattle.derivation.specs.declared.ref_lists.Refs.{Refs}
use Rattle.derivation.specs.declared.ref_lists.RefList.{RefList}
use Rattle.derivation.specs.Pad.{Padded}
use Rattle.derivation.specs.Lists.{refs_in, blank_serial, serial_at, serials_in, HoldsList, no_list, candidates_of, swapped_at, place_in, ask_of, with_last, can_fill, place_of, built_of, CandidateCount}
use Rattle.derivation.proofs.Pad.{is_push, is_set}

-- ---- how long each set is
module _ (xs : List ℕ) (r : Refs) (h : length xs ≡ 16) where
  pub before_length : length (refs_in xs r).before ≡ min r.before 16
  unfolding refs_in
  before_length = simp (length-map, length-take, h)

  pub after_length : length (refs_in xs r).after ≡ min r.after (16 - r.before)
  unfolding refs_in
  after_length = simp (length-map, length-take, length-drop, h)

  pub long_length : length (refs_in xs r).lt_curr ≡ min r.long (16 - (r.before + r.after))
  unfolding refs_in
  long_length = simp (length-map, length-take, length-drop, h)

  pub members_length : length (refs_in xs r).before + length (refs_in xs r).after + length (refs_in xs r).lt_curr ≡ min (r.before + r.after + r.long) 16
  members_length = rw (before_length, after_length, long_length) (omega arith)

own_length : (own : Bool) (c : Serial) → length (own_of own c) ≡ cond own 1 0
own_length true c = refl
own_length false c = refl

-- the flag as a number
pub own_byte : (own : Bool) → (bool_byte own ≡ cond own 1 0) × (bool_byte own ≤ 1)
own_byte true = (refl, omega arith)
own_byte false = (refl, omega arith)

module _ (x : State.Refs) (own : Bool) (c : Serial) where
  pub length_0 : length (candidates0 x own c) ≡ length x.before + length x.after + length x.lt_curr + cond own 1 0
  length_0 = simp length-append (omega (arith, own_length own c))

  pub length_1 : length (candidates1 x own c) ≡ length x.before + length x.after + length x.lt_curr + cond own 1 0
  length_1 = simp length-append (omega (arith, own_length own c))

-- ---- what stands at a place
module _ {A : Type 0} where
  -- within a list the default does not matter
  pub any_default : (l : List A) (i : ℕ) (d e : A) → i < length l → get_or l i d ≡ get_or l i e
  any_default [] i d e h = absurd (not-suc-le-zero h)
  any_default (x ∷ l) zero d e h = refl
  any_default (x ∷ l) (suc i) d e h = any_default l i d e (le_of_suc-le-suc h)

  past : (a b : List A) (i : ℕ) (d : A) → length a ≤ i → get_or (a ++ b) i d ≡ get_or b (i - length a) d
  past a b i d h = ap (λ (k : ℕ). get_or (a ++ b) k d) (split (length a) i h) ∙ get_or-append-add a b (i - length a) d
    where
      split : (n i : ℕ) → n ≤ i → i ≡ n + (i - n)
      split n i h = omega arith

  -- the first two of three parts change places
  pub swap_get : (a b r : List A) (i : ℕ) (d : A) → get_or (b ++ (a ++ r)) (swapped_at (length b) (length a) i) d ≡ get_or (a ++ (b ++ r)) i d
  unfolding swapped_at
  swap_get a b r i d = first (ltb i (length a)) refl
    where
      second : (t : Bool) → ltb i (length a + length b) ≡ t → length a ≤ i → get_or (b ++ (a ++ r)) (cond t (i - length a) i) d ≡ get_or (a ++ (b ++ r)) i d
      second true e h =
          let k : i - length a < length b = omega (arith, ltb-true i (length a + length b) e) in
          get_or-append b (a ++ r) d (i - length a) k ∙ sym (past a (b ++ r) i d h ∙ get_or-append b r d (i - length a) k)
      second false e h =
          let k : length a + length b ≤ i = ltb-false i (length a + length b) e in
          let kb : length b ≤ i = omega arith in
          let ka : length a ≤ i - length b = omega arith in
          let kc : length b ≤ i - length a = omega arith in
          let s : i - length b - length a ≡ i - length a - length b = omega arith in
          past b (a ++ r) i d kb ∙ past a r (i - length b) d ka ∙ ap (λ (n : ℕ). get_or r n d) s ∙ sym (past a (b ++ r) i d h ∙ past b r (i - length a) d kc)

      first : (t : Bool) → ltb i (length a) ≡ t → get_or (b ++ (a ++ r)) (cond t (length b + i) (cond (ltb i (length a + length b)) (i - length a) i)) d ≡ get_or (a ++ (b ++ r)) i d
      first true e =
          let k : i < length a = ltb-true i (length a) e in
          get_or-append-add b (a ++ r) i d ∙ get_or-append a r d i k ∙ sym (get_or-append a (b ++ r) d i k)
      first false e = second (ltb i (length a + length b)) refl (ltb-false i (length a) e)

-- behind the candidates stands the current picture, whether or not it is one of them
own_get : (l : List Serial) (own : Bool) (c : Serial) (i : ℕ) → get_or (l ++ own_of own c) i c ≡ get_or l i c
own_get l false c i = ap (λ (x : List Serial). get_or x i c) (append-nil l)
own_get [] true c zero = refl
own_get [] true c (suc i) = refl
own_get (x ∷ l) true c zero = refl
own_get (x ∷ l) true c (suc i) = own_get l true c i

module _ (xs : List ℕ) (r : Refs) (own : Bool) (c : Serial) where
  abbrev front : List ℕ
  front = take (r.before + r.after + r.long) xs

  -- the candidates of list 0 are the front of the run
  run_is : candidates_of (refs_in xs r) own false c ≡ map a_serial front ++ own_of own c
  unfolding candidates_of refs_in
  run_is =
      rw (take-add (r.before + r.after) r.long xs, take-add r.before r.after xs)
      (simp (map-append, append_assoc))

  run_get : (i : ℕ) → get_or (candidates_of (refs_in xs r) own false c) i c ≡ get_or (map a_serial front) i c
  run_get i = rw run_is (own_get (map a_serial front) own c i)

  run_inside : (i : ℕ) → i < length xs → i < r.before + r.after + r.long → serial_at xs i ≡ get_or (candidates_of (refs_in xs r) own false c) i c
  run_inside i h k =
      let n : i < length (map a_serial front) = simp (length-map, length-take) (omega arith) in
      sym (run_get i ∙ any_default (map a_serial front) i c (a_serial 0) n ∙ get_or-map a_serial front i 0 ∙ ap a_serial (get_or-take (r.before + r.after + r.long) xs i 0 k))

  run_past : (i : ℕ) → min (r.before + r.after + r.long) (length xs) ≤ i → c ≡ get_or (candidates_of (refs_in xs r) own false c) i c
  run_past i h =
      let k : length (map a_serial front) ≤ i = simp (length-map, length-take) h in
      sym (run_get i ∙ get_or-eq_default (map a_serial front) c k)

-- the candidate of either list at i is that of list 0 where the run has it
either_get : (x : State.Refs) (own : Bool) (c : Serial) (second : Bool) (b a i : ℕ) → length x.before ≡ b → length x.after ≡ a
    → get_or (candidates_of x own false c) (place_in b a second i) c ≡ get_or (candidates_of x own second c) i c
unfolding candidates_of
either_get x own c true b a i e f = rw (← e, ← f) (simp append_assoc (swap_get x.after x.before (x.lt_curr ++ own_of own c) i c))
either_get x own c false b a i e f = refl

module _ (xs : List ℕ) (r : Refs) (own second : Bool) (c : Serial) (i at : ℕ) (h : length xs ≡ 16) (e : at ≡ place_in (min r.before 16) (min r.after (16 - r.before)) second i) where
  there : get_or (candidates_of (refs_in xs r) own false c) at c ≡ get_or (candidates_of (refs_in xs r) own second c) i c
  there = rw e (either_get (refs_in xs r) own c second (min r.before 16) (min r.after (16 - r.before)) i (before_length xs r h) (after_length xs r h))

  pub stands_inside : at < min (r.before + r.after + r.long) 16 → serial_at xs at ≡ get_or (candidates_of (refs_in xs r) own second c) i c
  stands_inside lt = run_inside xs r own c at (omega arith) (omega arith) ∙ there

  pub stands_past : min (r.before + r.after + r.long) 16 ≤ at → c ≡ get_or (candidates_of (refs_in xs r) own second c) i c
  stands_past le = run_past xs r own c at (rw h le) ∙ there

-- ---- places: a table of candidates, at a remainder or at an entry byte
pub table_same : {A : Type 0} (f g : ℕ → A) (n : ℕ) → ((i : ℕ) → i < n → f i ≡ g i) → table f n ≡ table g n
unfolding table
table_same f g zero h = refl
table_same f g (suc n) h = ap₂ (λ (a : List _) (b : _). a ++ (b ∷ [])) (table_same f g n (λ i l. h i (omega arith))) (h n (omega arith))

pub table_get : {A : Type 0} (f : ℕ → A) (n i : ℕ) (d : A) → i < n → get_or (table f n) i d ≡ f i
unfolding table
table_get f zero i d lt = absurd (omega arith)
table_get f (suc n) i d lt =
    let l = table_length f n in
    split (leb n i)
    (λ e.
    let le : n ≤ i = leb-true n i e in
    let x : i ≡ n = omega arith in
    rw x (get_or_at (table f n) (f n) [] d n l))
    (λ e.
    let x : i < n = leb-false n i e in
    get_or-append (table f n) (f n ∷ []) d i (omega arith) ∙ table_get f n i d x)

-- the first elements of a list, one by one; and each through g
pub table_is : {A : Type 0} (d : A) (f : ℕ → A) (xs : List A) (n : ℕ) → n ≤ length xs → ((i : ℕ) → i < n → f i ≡ get_or xs i d) → table f n ≡ take n xs
unfolding table
table_is d f xs zero le h = refl
table_is d f xs (suc n) le h = rw (table_is d f xs n (omega arith) (λ i l. h i (omega arith)), h n (omega arith)) (sym (take-suc xs n d (omega arith)))

pub table_front : {A B : Type 0} (g : A → B) (d : A) (l : List A) (n : ℕ) → n ≤ length l → table (λ (j : ℕ). g (get_or l j d)) n ≡ map g (take n l)
unfolding table
table_front g d l zero h = refl
table_front g d l (suc n) h =
    let k : n ≤ length l = omega arith in
    rw (table_front g d l n k, take-suc l n d h, map-append g (take n l) (get_or l n d ∷ []))

map_entries : (cs : List Serial) (d e : Serial) (es : List ℕ) → any_b (λ (i : ℕ). leb (length cs) i) es ≡ false
    → map (λ (i : ℕ). get_or cs i d) es ≡ map (λ (i : ℕ). get_or cs i e) es
unfolding any_b
map_entries cs d e [] h = refl
map_entries cs d e (x ∷ es) h = go (leb (length cs) x) refl h (map_entries cs d e es)
  where
    go : (t : Bool) → leb (length cs) x ≡ t → (t || any_b (λ (i : ℕ). leb (length cs) i) es) ≡ false
        → (any_b (λ (i : ℕ). leb (length cs) i) es ≡ false → map (λ (i : ℕ). get_or cs i d) es ≡ map (λ (i : ℕ). get_or cs i e) es)
        → map (λ (i : ℕ). get_or cs i d) (x ∷ es) ≡ map (λ (i : ℕ). get_or cs i e) (x ∷ es)
    go true q w rest = absurd (true≢false w)
    go false q w rest = ap₂ (λ (y : Serial) (ys : List Serial). y ∷ ys) (any_default cs x d e (leb-false (length cs) x q)) (rest w)

pub placed_is : (cs : List Serial) (c : Serial) (modify : Bool) (es : List ℕ) (n active : ℕ) → n ≡ length cs → 0 < n
    → (modify ≡ true → length es ≡ active) → (modify ≡ true → any_b (λ (i : ℕ). leb (length cs) i) es ≡ false)
    → table (place_of cs c modify es n) active ≡ placed cs (ask_of active modify es)
placed_is cs c false es n active e h bytes below =
    table_same (place_of cs c false es n) (λ (j : ℕ). get_or cs (j % length cs) missing) active
    (λ j l. let k : j % n < length cs = subst (λ (m : ℕ). j % n < m) e (mod-lt j h) in any_default cs (j % n) c missing k ∙ ap (λ (m : ℕ). get_or cs (j % m) missing) e)
placed_is cs c true es n active e h bytes below =
    rw (← bytes refl)
    (table_front (λ (i : ℕ). get_or cs i c) 0 es (length es) (omega arith)
    ∙ ap (map (λ (i : ℕ). get_or cs i c)) (take-length es)
    ∙ map_entries cs c missing es (below refl))

-- ---- an entry that is too large: the paper's test of a list is std's
pub any_is : {A : Type 0} (f : A → Bool) (xs : List A) → list_any f xs ≡ any_b f xs
unfolding any_b
any_is f [] = refl
any_is f (x ∷ xs) = ap (λ (b : Bool). f x || b) (any_is f xs)

-- ---- the counted candidates are those of either list
pub count_is : {x : State.Refs} {own : Bool} {n : ℕ} (second : Bool) (c : Serial) → CandidateCount x own n → n ≡ length (candidates_of x own second c)
unfolding candidates_of
count_is true c h = h.other c
count_is false c h = h.first c

-- ---- a list that can be filled, and one that cannot
pub record Fills (n active : ℕ) (modify : Bool) (bytes : ℕ) : Type 0 where
  pub some : 0 < n
  pub least : 1 ≤ active
  pub most : active ≤ 16
  pub enough : modify ≡ true → active ≤ bytes

module _ (n active : ℕ) (modify : Bool) (bytes : ℕ) where
  pub fills : can_fill n active modify bytes ≡ true → Fills n active modify bytes
  fills e =
      let a = left (ltb 0 n && leb 1 active && leb active 16) _ e in
      let b = left (ltb 0 n && leb 1 active) _ a in
      record {
        some = ltb-true 0 n (left (ltb 0 n) _ b);
        least = leb-true 1 active (right (ltb 0 n) _ b);
        most = leb-true active 16 (right (ltb 0 n && leb 1 active) _ a);
        enough = λ t. leb-true active bytes (rw t at (right (ltb 0 n && leb 1 active && leb active 16) _ e));
      }

  pub can_fill_lem : Fills n active modify bytes → can_fill n active modify bytes ≡ true
  can_fill_lem h =
      both (both (both (lt-ltb 0 n h.some) (le-leb 1 active h.least)) (le-leb active 16 h.most))
      (split modify (λ t. or_right (not modify) _ (le-leb active bytes (h.enough t))) (λ t. or_left (not modify) _ (rw t)))

module _ {x : State.Refs} {own : Bool} {n : ℕ} (c : Serial) (second last : Bool) (active : ℕ) (modify : Bool) (es : List ℕ) (k : CandidateCount x own n) where
  pub built_none : can_fill n active modify (length es) ≡ false → built_of x c own second last active modify es ≡ []
  unfolding built_of
  built_none e = rw (← count_is second c k, e)

  pub built_some : can_fill n active modify (length es) ≡ true
      → built_of x c own second last active modify es ≡ with_last last active c (table (place_of (candidates_of x own second c) c modify es n) active)
  unfolding built_of
  built_some e = rw (← count_is second c k, e)

-- ---- a list that is filled place by place
pub none_held : (l : RefList) (xs : List Serial) → l ≡ no_list → xs ≡ [] → HoldsList l xs
none_held l xs e g = rw (e, g) (record { places = refl; long = refl; room = omega arith })

pub holds_none : (f : ℕ → Serial) → HoldsList no_list (table f 0)
unfolding table
holds_none f = none_held no_list (table f 0) refl refl

pub holds_more : (f : ℕ → Serial) {items : List Serial} (j : ℕ) (s : Serial) → Padded 16 blank_serial items j (table f j) → j < 16 → s ≡ f j → Padded 16 blank_serial (set items j s) (j + 1) (table f (j + 1))
unfolding table
holds_more f {items} j s h k e =
    let q : table f j ++ (s ∷ []) ≡ table f (j + 1) = rw (add-one j, e) in
    subst (Padded 16 blank_serial (set items j s) (j + 1)) q (is_push h s k)

-- the last place is written
pub holds_last : (l : RefList) (xs : List Serial) (n : ℕ) (s : Serial) → HoldsList l xs → l.len ≡ n → 1 ≤ n → Padded 16 blank_serial (set l.items (n - 1) s) l.len (set xs (n - 1) s)
holds_last l xs n s h e least = is_set h (n - 1) s (omega arith)

-- ---- a run that begins with three lists, with their lengths as its counts
module _ {A B : Type 0} (f : A → B) where
  take_map : (n : ℕ) (l : List A) → map f (take n l) ≡ take n (map f l)
  take_map zero l = refl
  take_map (suc n) [] = refl
  take_map (suc n) (x ∷ l) = ap (λ (m : List B). f x ∷ m) (take_map n l)

  drop_map : (n : ℕ) (l : List A) → map f (drop n l) ≡ drop n (map f l)
  drop_map zero l = refl
  drop_map (suc n) [] = refl
  drop_map (suc n) (x ∷ l) = drop_map n l

parts_are : (ys b a l rest : List Serial) (m n k : ℕ) → ys ≡ b ++ (a ++ (l ++ rest)) → m ≡ length b → n ≡ length a → k ≡ length l
    → ◌≡◌ {A = State.Refs} (record { before = take m ys; after = take n (drop m ys); lt_curr = take k (drop (m + n) ys) }) (record { before = b; after = a; lt_curr = l })
parts_are ys b a l rest m n k e eb ea el =
    let s : b ++ (a ++ (l ++ rest)) ≡ (b ++ a) ++ (l ++ rest) = simp append_assoc in
    rw (e, eb, ea, el, take_at b (a ++ (l ++ rest)) (length b) refl, drop_at b (a ++ (l ++ rest)) (length b) refl, take_at a (l ++ rest) (length a) refl)
    (rw (s, drop_at (b ++ a) (l ++ rest) (length b + length a) (length-append b a), take_at l rest (length l) refl))

pub refs_are : (xs : List ℕ) (r : Refs) (b a l : List Serial) → r.before + r.after + r.long ≤ length xs → serials_in xs (r.before + r.after + r.long) ≡ b ++ (a ++ l)
    → r.before ≡ length b → r.after ≡ length a → r.long ≡ length l → refs_in xs r ≡ record { before = b; after = a; lt_curr = l }
unfolding refs_in
refs_are xs r b a l h e eb ea el =
    let n = r.before + r.after + r.long in
    let rest = map a_serial (drop n xs) in
    let w : map a_serial xs ≡ b ++ (a ++ (l ++ rest)) =
    ap (map a_serial) (sym (take-append-drop n xs)) ∙ map-append a_serial (take n xs) (drop n xs) ∙ ap (λ (m : List Serial). m ++ rest) (sym (table_front a_serial 0 xs n h) ∙ e) ∙ simp append_assoc
    in
    rw (take_map a_serial r.before xs, take_map a_serial r.after (drop r.before xs), drop_map a_serial r.before xs, take_map a_serial r.long (drop (r.before + r.after) xs), drop_map a_serial (r.before + r.after) xs)
    (parts_are (map a_serial xs) b a l rest r.before r.after r.long w eb ea el)
