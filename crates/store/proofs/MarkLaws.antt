-- Step 4: what each entry finds at its own place is what the paper's searches find, so the places that are left have
-- the paper's marks and the two runs hold the five sets; to be in one of two lists is to be in either, whatever their
-- order. Assumes nothing.
use Prim.Native.Nat.{ℕ, ◌+◌, ◌-◌, ◌^◌, ◌≤◌, ◌<◌, min}
use mathlib.Core.Path.{◌≡◌, refl, sym, ap, ap₂, ◌∙◌}
use mathlib.Core.Bool.{Bool, true, false, cond, not, ◌||◌}
use mathlib.Core.List.{List, [], ◌∷◌, ◌++◌, append_assoc, map, map-append}
use native.Mathlib.Omega.{arith}
use lib.ListN.{length, take, length-append, replicate, length-replicate}
use Rattle.derivation.specs.Pad.{Padded, used}
use Rattle.derivation.specs.Lists.{blank_serial, member_at}
use Rattle.derivation.proofs.Pad.{is_view, is_good}
use Rattle.paper.specs.Words.{table, any_b, keep}
use Rattle.paper.specs.Numbers.{same_serial}
use Rattle.paper.specs.Sets.{Wishes, marks_of, sets_of, is_in, in_order, mark_all, mark_only, marked, long_set, short_set, long_marked, used_by, unused_by, first_of, long_match, short_match}
use Rattle.paper.specs.declared.Serial.{Serial}
use Rattle.paper.specs.declared.Picture.{Picture}
use Rattle.paper.specs.declared.Wish.{Wish}
use Rattle.paper.specs.declared.Mark.TheVariants.{Unmarked, LongTerm}
use Rattle.paper.proofs.Bools.{split}
use Rattle.store.specs.Walks.{blank, any_at, low_at, passing, sought_for}
use Rattle.store.specs.Places.{front}
use Rattle.store.specs.Runs.{wish_at, wishes_at, wishes_in, wishes_within, member_for, members_at, marking, long_found, long_places, all_found, all_places, used_at, unused_at, HoldsRuns, GoodRuns, used_in, rest_in, HoldsSets, Settles, Derives}
use Rattle.store.specs.declared.Sizes.{Sizes}
use Rattle.store.specs.declared.sets.Runs.{Runs}
use Rattle.store.specs.declared.sets.Settled.{Settled}
use Rattle.store.proofs.SearchLaws.{first_long}
use Rattle.store.proofs.StoreWords.{table_same, table_map, table_join}
use Rattle.store.proofs.Walks.{any_append, member_first, take_front}
use Rattle.store.proofs.Filling.{filled_length, filled_off, filled_at, changed_length, front_changed, picked_is}

-- ---- what an entry finds, by the paper's searches

abbrev long_ask : ℕ → List Picture → Wish → Serial
long_ask M ps w = first_of (long_match M w) ps

abbrev short_ask : List Picture → Wish → Serial
short_ask ps w = first_of (short_match w) ps

module _ (k : ℕ) (ps : List Picture) (wishes : List Wish) (i : ℕ) where
  abbrev w : Wish
  w = wish_at wishes i

  long_member : member_for true k ps wishes i ≡ long_ask (2 ^ (min k 16)) ps w
  long_member =
      member_first (passing (sought_for true k w)) ps ∙ ap (λ (f : Picture → Bool). first_of f ps) (go w.whole) ∙ sym (first_long (2 ^ (min k 16)) w ps)
    where
      go : (b : Bool) → passing (sought_for true k (record { poc = w.poc; used = w.used; whole = b })) ≡ cond b (any_at w.poc) (low_at (2 ^ (min k 16)) w.poc)
      go true = refl
      go false = refl

  short_member : member_for false k ps wishes i ≡ short_ask ps w
  short_member = member_first (passing (sought_for false k w)) ps

-- ---- members, in any order

-- those of which p holds, and the others, are all
parts : {A B : Type 0} (f : B → Bool) (q : A → B) (p : A → Bool) (xs : List A) → (any_b f (map q (keep p xs)) || any_b f (map q (keep (λ (x : A). not (p x)) xs))) ≡ any_b f (map q xs)
unfolding any_b keep
parts f q p [] = refl
parts f q p (x ∷ xs) =
    let h = parts f q p xs in
    split (p x)
    (λ e. rw e (left (f (q x)) (any_b f (map q (keep p xs))) (any_b f (map q (keep (λ (y : _). not (p y)) xs))) (any_b f (map q xs)) h))
    (λ e. rw e (right (f (q x)) (any_b f (map q (keep p xs))) (any_b f (map q (keep (λ (y : _). not (p y)) xs))) (any_b f (map q xs)) h))
  where
    left : (a b c d : Bool) → (b || c) ≡ d → ((a || b) || c) ≡ (a || d)
    left true b c d e = refl
    left false b c d e = e

    right : (a b c d : Bool) → (b || c) ≡ d → (b || (a || c)) ≡ (a || d)
    right true true c d e = refl
    right true false c d e = refl
    right false b c d e = e

-- the five sets in the reply's order, against the entries in theirs: neg, pos and lt ones, the used ones and the others
-- together
any_order : (b a f g l m : Bool) → ((((b || a) || (f || g)) || l) || m) ≡ (((b || f) || (a || g)) || (l || m))
any_order true a f g l m = refl
any_order false true true g l m = refl
any_order false true false g l m = refl
any_order false false true g l m = refl
any_order false false false true l m = refl
any_order false false false false l m = refl

-- counts that sixteen places have room for are themselves
pub within_room : (ws : List Wish) (a b c : ℕ) → a + b + c ≤ 16 → wishes_within ws a b c ≡ wishes_in ws a b c
within_room ws a b c room =
    let n : min a 16 ≡ a = omega arith in
    let p : min b (16 - min a 16) ≡ b = omega arith in
    let q : min c (16 - min a 16 - min b (16 - min a 16)) ≡ c = omega arith in
    λ i. wishes_in ws (n i) (p i) (q i)

-- ---- step 4 on places

module _ (k : ℕ) (wishes : List Wish) (a b c n : ℕ) (ps : List Picture) (whole : length ps ≡ 16) (few : n ≤ 16) (room : a + b + c ≤ 16) where
  abbrev M : ℕ
  M = 2 ^ (min k 16)

  abbrev qs : List Picture
  qs = front ps n

  abbrev ws : Wishes
  ws = wishes_in wishes a b c

  abbrev lf : List Serial
  lf = long_found k wishes (a + b) c n ps

  abbrev lp : List Picture
  lp = long_places k wishes (a + b) c n ps

  abbrev af : List Serial
  af = all_found k wishes (a + b) c n ps

  abbrev ls : List Picture
  ls = long_marked M qs ws

  -- what entries find, place after place
  asked : (q : Wish → Serial) (from m : ℕ) (f : ℕ → Serial) → ((i : ℕ) → i < m → f i ≡ q (wish_at wishes (from + i))) → table f m ≡ map q (wishes_at wishes from m)
  asked q from m f h = table_same f (λ (i : ℕ). q (wish_at wishes (from + i))) m h ∙ sym (table_map q (λ (i : ℕ). wish_at wishes (from + i)) m)

  -- the long-term ones
  long_at : (i : ℕ) → i < c → member_at lf (a + b + i) ≡ long_ask M qs (wish_at wishes (a + b + i))
  long_at i lt =
      filled_at (member_for true k (take n ps) wishes) (a + b) (replicate 16 blank_serial) blank_serial c i lt (omega (arith, length-replicate 16 blank_serial))
      ∙ ap (λ (l : List Picture). member_for true k l wishes (a + b + i)) (take_front ps n (omega arith))
      ∙ long_member k qs wishes (a + b + i)

  long_members : members_at lf (a + b) c ≡ long_set M qs ws.lt
  unfolding long_set
  long_members = asked (long_ask M qs) (a + b) c (λ (i : ℕ). member_at lf (a + b + i)) long_at

  in_long : (x : Serial) → is_in x (long_set M qs ws.lt) ≡ is_in x (long_set M qs (keep used_by ws.lt) ++ long_set M qs (keep unused_by ws.lt))
  unfolding long_set
  in_long x =
      let q = long_ask M qs in
      sym (any_append (same_serial x) (map q (keep used_by ws.lt)) (map q (keep unused_by ws.lt)) ∙ parts (same_serial x) q used_by ws.lt)

  long_marks : front lp n ≡ ls
  unfolding mark_all
  long_marks =
      front_changed (marking true LongTerm (members_at lf (a + b) c)) ps n (omega arith)
      ∙ ap (λ (ns : List Serial). map (marking true LongTerm ns) qs) long_members
      ∙ ap (λ (g : Picture → Picture). map g qs) (λ i p. cond (in_long p.serial i) (marked LongTerm p) p)

  long_whole : length lp ≡ 16
  long_whole = changed_length blank (marking true LongTerm (members_at lf (a + b) c)) ps n ∙ whole

  -- the short-term ones, among the pictures that are left; the long-term ones stay
  short_at : (j : ℕ) → j < a + b → member_at af j ≡ short_ask ls (wish_at wishes j)
  short_at j lt =
      let f = member_for false k (take n lp) wishes in
      let z : 0 + j ≡ j = omega arith in
      let long = filled_length (member_for true k (take n ps) wishes) (a + b) (replicate 16 blank_serial) c in
      let h : member_at af j ≡ f j = rw z at (filled_at f 0 lf blank_serial (a + b) j lt (omega (arith, long, length-replicate 16 blank_serial))) in
      h ∙ ap (λ (l : List Picture). member_for false k l wishes j) (take_front lp n (omega (arith, long_whole)) ∙ long_marks) ∙ short_member k ls wishes j

  far_at : (i : ℕ) → i < c → member_at af (a + b + i) ≡ long_ask M qs (wish_at wishes (a + b + i))
  far_at i lt = filled_off (member_for false k (take n lp) wishes) 0 lf blank_serial (a + b) (a + b + i) (λ j l e. omega arith) ∙ long_at i lt

  all_members : members_at af 0 (a + b + c) ≡ (map (short_ask ls) ws.neg ++ map (short_ask ls) ws.pos) ++ map (long_ask M qs) ws.lt
  all_members =
      let o : (i : ℕ) → 0 + i ≡ i = λ i. omega arith in
      let x = asked (short_ask ls) 0 a (member_at af) (λ i l. ap (member_at af) (sym (o i)) ∙ short_at (0 + i) (omega arith)) in
      let y = asked (short_ask ls) a b (λ (i : ℕ). member_at af (a + i)) (λ i l. short_at (a + i) (omega arith)) in
      let z = asked (long_ask M qs) (a + b) c (λ (i : ℕ). member_at af (a + b + i)) far_at in
      table_same (λ (i : ℕ). member_at af (0 + i)) (member_at af) (a + b + c) (λ i l. ap (member_at af) (o i))
      ∙ table_join (member_at af) (a + b) c ∙ ap₂ (λ (u v : List Serial). u ++ v) (table_join (member_at af) a b ∙ ap₂ (λ (u v : List Serial). u ++ v) x y) z

  in_all : (x : Serial) → is_in x (in_order (sets_of M qs ws)) ≡ is_in x (members_at af 0 (a + b + c))
  unfolding sets_of short_set long_set
  in_all x =
      let f = same_serial x in
      let s = short_ask ls in
      let q = long_ask M qs in
      let u : List Wish → List Wish = keep used_by in
      let v : List Wish → List Wish = keep unused_by in
      let is : (l : List Serial) → Bool = any_b f in
      let all : (((is (map s ws.neg) || is (map s ws.pos)) || is (map q ws.lt))) ≡ is (members_at af 0 (a + b + c)) = sym (ap is all_members ∙ simp any_append) in
      let order = any_order (is (map s (u ws.neg))) (is (map s (u ws.pos))) (is (map s (v ws.neg))) (is (map s (v ws.pos))) (is (map q (u ws.lt))) (is (map q (v ws.lt))) in
      simp (map-append, any_append) (order ∙ rw (parts f s used_by ws.neg, parts f s used_by ws.pos, parts f q used_by ws.lt) all)

  all_marks : front (all_places k wishes (a + b) c n ps) n ≡ marks_of M qs ws
  unfolding marks_of mark_only
  all_marks =
      front_changed (marking false Unmarked (members_at af 0 (a + b + c))) lp n (omega (arith, long_whole))
      ∙ ap (map (marking false Unmarked (members_at af 0 (a + b + c)))) long_marks
      ∙ ap (λ (g : Picture → Picture). map g ls) (λ i p. cond (sym (in_all p.serial) i) p (marked Unmarked p))

  -- the used ones, and the others, of entries that find what q says
  chosen : (q : Wish → Serial) (from m : ℕ) → ((i : ℕ) → i < m → member_at af (from + i) ≡ q (wish_at wishes (from + i)))
      → (used_at af wishes from m ≡ map q (keep used_by (wishes_at wishes from m))) × (unused_at af wishes from m ≡ map q (keep unused_by (wishes_at wishes from m)))
  chosen q from m h =
      let b : ℕ → Bool = λ i. (wish_at wishes (from + i)).used in
      let f : ℕ → Serial = λ i. member_at af (from + i) in
      let w : ℕ → Wish = λ i. wish_at wishes (from + i) in
      (picked_is b f used_by q w m (λ i l. refl) h, picked_is (λ (i : ℕ). not (b i)) f unused_by q w m (λ i l. refl) h)

  -- the five sets, by what the entries found
  sets_found : sets_of M qs ws
      ≡ record {
        before = used_at af wishes 0 a;
        after = used_at af wishes a b;
        foll = unused_at af wishes 0 a ++ unused_at af wishes a b;
        lt_curr = used_at af wishes (a + b) c;
        lt_foll = unused_at af wishes (a + b) c;
      }
  unfolding sets_of short_set long_set
  sets_found =
      let x = chosen (short_ask ls) 0 a (λ i l. short_at (0 + i) (omega arith)) in
      let y = chosen (short_ask ls) a b (λ i l. short_at (a + i) (omega arith)) in
      let z = chosen (long_ask M qs) (a + b) c far_at in
      let f = map-append (short_ask ls) (keep unused_by ws.neg) (keep unused_by ws.pos) ∙ ap₂ (λ (u v : List Serial). u ++ v) (sym x.1) (sym y.1) in
      λ i. record { before = sym x.0 i; after = sym y.0 i; foll = f i; lt_curr = sym z.0 i; lt_foll = sym z.1 i }

-- ---- the sets in two runs

pub runs_good : {x : Runs} {us vs : List Serial} → HoldsRuns x us vs → GoodRuns x
runs_good h = record { first = is_good h.first; second = is_good h.second }

-- what joins two runs that held nothing
pub runs_first : {x r : Runs} (us vs : List Serial) → HoldsRuns x [] [] → HoldsRuns r (used_in x ++ us) (rest_in x ++ vs) → HoldsRuns r us vs
runs_first us vs g h = record { first = rw (is_view g.first) at h.first; second = rw (is_view g.second) at h.second }

-- the sizes of the sets: the first set ends at x, the second at y, the third at z
abbrev sizes_of : Runs → Runs → Runs → Sizes
sizes_of x y z = record { before = x.used.len; after = y.used.len - x.used.len; long = z.used.len - y.used.len; foll = y.rest.len; lt_foll = z.rest.len - y.rest.len }

-- a part behind what a run held
behind : (l m : List Serial) {us vs : List Serial} {i j : ℕ} → Padded 16 blank_serial us i l → Padded 16 blank_serial vs j (used i us ++ m) → Padded 16 blank_serial vs j (l ++ m)
behind l m f g = rw (is_view f) at g

-- three parts, one behind the other
record Behind (rs : List Serial) (i j k : ℕ) (l m r : List Serial) : Type 0 where
  holds : Padded 16 blank_serial rs k (l ++ (m ++ r))
  one : i ≡ length l
  two : j ≡ length l + length m
  three : k ≡ length l + length m + length r

three_parts : (l m r : List Serial) {us vs rs : List Serial} {i j k : ℕ} → Padded 16 blank_serial us i l → Padded 16 blank_serial vs j (used i us ++ m) → Padded 16 blank_serial rs k (used j vs ++ r)
    → Behind rs i j k l m r
three_parts l m r f g h =
    let p = behind l m f g in
    let q = behind (l ++ m) r p h in
    let x = length-append l m in
    let y = length-append (l ++ m) r in
    record { holds = rw (append_assoc l m r) at q; one = f.long; two = p.long ∙ x; three = q.long ∙ omega (arith, x, y) }

module _ (b a l f g h : List Serial) {x y z : Runs} (p : HoldsRuns x b f) (q : HoldsRuns y (used_in x ++ a) (rest_in x ++ g)) (r : HoldsRuns z (used_in y ++ l) (rest_in y ++ h)) where
  runs_sets : z.used.len + z.rest.len ≤ 16 → HoldsSets z.used.items z.rest.items (sizes_of x y z) (record { before = b; after = a; foll = f ++ g; lt_curr = l; lt_foll = h })
  runs_sets few =
      let u = three_parts b a l p.first q.first r.first in
      let v = three_parts f g h p.second q.second r.second in
      let m : x.used.len + (y.used.len - x.used.len) + (z.used.len - y.used.len) ≡ z.used.len = omega arith in
      let n : y.rest.len + (z.rest.len - y.rest.len) ≡ z.rest.len = omega arith in
      let o = length-append f g in
      record {
        first = rw m u.holds;
        second = rw (n, append_assoc f g h) v.holds;
        before = u.one;
        after = omega arith;
        long = omega arith;
        foll = omega arith;
        lt_foll = omega arith;
        few = omega arith;
      }

-- ---- the whole step

module _ (k : ℕ) (wishes : List Wish) (a b c n : ℕ) (ps : List Picture) (whole : length ps ≡ 16) (few : n ≤ 16) (room : a + b + c ≤ 16) {t : Settled} (s : Settles k wishes (a + b) c n ps t) where
  pub derives : {x y z : Runs} → HoldsRuns x (used_at t.found wishes 0 a) (unused_at t.found wishes 0 a) → HoldsRuns y (used_in x ++ used_at t.found wishes a b) (rest_in x ++ unused_at t.found wishes a b)
      → HoldsRuns z (used_in y ++ used_at t.found wishes (a + b) c) (rest_in y ++ unused_at t.found wishes (a + b) c) → z.used.len + z.rest.len ≤ 16
      → Derives (2 ^ (min k 16)) (front ps n) (wishes_in wishes a b c) (record { store = record { places = t.places; len = n }; first = z.used.items; second = z.rest.items; sizes = sizes_of x y z })
  derives {x} {y} {z} p q r le =
      let fs = t.found in
      let h = runs_sets (used_at fs wishes 0 a) (used_at fs wishes a b) (used_at fs wishes (a + b) c) (unused_at fs wishes 0 a) (unused_at fs wishes a b) (unused_at fs wishes (a + b) c) p q r le in
      record {
        pics = ap (λ (l : List Picture). front l n) s.places ∙ all_marks k wishes a b c n ps whole few room;
        few = few;
        sets = rw (sets_found k wishes a b c n ps whole few room) (rw s.found at h);
      }
