-- The bytes of a reply: runs of entries one after the other, the head that is written last, and the room of a tail and
-- of the sets.
use Prim.Native.Nat.{ℕ, zero, suc, ◌+◌, ◌*◌, ◌-◌, ◌≤◌, ◌<◌}
use mathlib.Core.Path.{◌≡◌, refl, sym, ap, ◌∙◌}
use mathlib.Core.Bool.{false}
use mathlib.Core.List.{List, [], ◌∷◌, ◌++◌, map, map-append, append-nil}
use native.Mathlib.Omega.{arith}
use lib.Dec.{eqb}
use lib.ListN.{length, get_or, take, drop, length-append, length-map, length-drop}
use lib.Seq.{sets, take-suc, take_all}
use Rattle.std.proofs.lemmas.List.{take_more, length-take-le, get_or-drop}
use Rattle.paper.specs.Words.{flat, table}
use Rattle.paper.specs.declared.Serial.{Serial}
use Rattle.paper.specs.declared.Surface.{Surface}
use Rattle.paper.specs.declared.Shown.{Shown}
use Rattle.paper.specs.Numbers.{bytes16, bytes32, serial_nos, surface_nos}
use Rattle.paper.specs.Kinds.{lists_kind, reply_to, shown_width}
use Rattle.paper.specs.Replies.{shown_bytes, words, tail_bytes, framed, bytes_of}
use Rattle.paper.specs.Replies.Reply.{Listed}
use Rattle.paper.proofs.Fits.{table_length}
use Rattle.derivation.specs.declared.ref_lists.RefList.{RefList}
use Rattle.wire.proofs.Laws.{runs, head_last, sets_over}
use Rattle.wire.proofs.Flat.{flat_append, length_flat}
use Rattle.derivation.specs.Pad.{Padded, used}
use Rattle.derivation.specs.Lists.{blank_serial}
use Rattle.session.specs.declared.Refusal.{Refusal}
use Rattle.session.specs.declared.Refusal.TheVariants.{Unconfigured, BadLimits, Busy, NoCurrent, OutOfRange, Outside, SurfaceHeld, SerialsSpent, StoreFull, NoCandidate, TooMany, BadEntry, Malformed, NoRoom}
use Rattle.store.specs.declared.Sizes.{Sizes}
use Rattle.store.specs.declared.Moved.{Moved}
use Rattle.session.specs.declared.replies.Told.{Told}
use Rattle.session.specs.Numbered.{number_of}
use Rattle.session.specs.Said.{Says, Refuses}
use Rattle.store.specs.Tails.{tail_in, GoodTail}
use Rattle.session.specs.Written.{FewMembers, Listable, told_bytes, numbers_from, member_bytes, list_in}
use Rattle.store.proofs.StoreWords.{table_map, table_same}

-- a refusal's number is not that of acceptance
pub refusal_number : (r : Refusal) → eqb (number_of r) 0 ≡ false
refusal_number Unconfigured = refl
refusal_number BadLimits = refl
refusal_number Busy = refl
refusal_number NoCurrent = refl
refusal_number OutOfRange = refl
refusal_number Outside = refl
refusal_number SurfaceHeld = refl
refusal_number SerialsSpent = refl
refusal_number StoreFull = refl
refusal_number NoCandidate = refl
refusal_number TooMany = refl
refusal_number BadEntry = refl
refusal_number Malformed = refl
refusal_number NoRoom = refl

pub length_bytes32 : (n : ℕ) → length (bytes32 n) ≡ 4
unfolding bytes32
length_bytes32 n = refl

pub length_shown : (p : Shown) → length (shown_bytes p) ≡ shown_width
unfolding bytes32
length_shown p = refl

pub length_told : (t : Told) → length (told_bytes t) ≡ 9
unfolding bytes32
length_told t = refl

-- a writer's run: r is the place behind it, d' what it leaves
abbrev pub Run : List ℕ → ℕ → List ℕ → ℕ → List ℕ → Type 0
Run d at xs r d' = (r ≡ at + length xs) × (d' ≡ sets d at xs)

-- a run whose length is known as n, and a run behind another
pub run : {r n : ℕ} {d' : List ℕ} (d : List ℕ) (at : ℕ) (xs : List ℕ) → length xs ≡ n → (r ≡ at + n) × (d' ≡ sets d at xs) → Run d at xs r d'
run d at xs e w = (w.0 ∙ ap (λ (k : ℕ). at + k) (sym e), w.1)

pub run_on : {r1 r2 : ℕ} {d1 d2 : List ℕ} (d : List ℕ) (at : ℕ) (xs ys : List ℕ) → Run d at xs r1 d1 → Run d1 r1 ys r2 d2 → Run d at (xs ++ ys) r2 d2
run_on d at xs ys v w = (simp length-append (omega arith), runs d xs ys at _ v.1 w.1 (sym v.0))

-- entries of k bytes each, one after the other, of the first i of a list: what a loop that writes them has laid from a
-- place on, and where it ends
pub record Written {A : Type 0} (f : A → List ℕ) (k : ℕ) (xs : List A) (before : List ℕ) (at i end : ℕ) (after : List ℕ) : Type 0 where
  pub long : length after ≡ length before
  pub ends : end ≡ at + k * i
  pub bytes : after ≡ sets before at (flat f (take i xs))

module _ {A : Type 0} (f : A → List ℕ) (k : ℕ) (each : (x : A) → length (f x) ≡ k) where
  pub written_none : (xs : List A) (d : List ℕ) (at : ℕ) → Written f k xs d at 0 at d
  unfolding flat
  written_none xs d at = record { long = refl; ends = omega arith; bytes = refl }

  pub written_more : {xs : List A} {d d1 d2 : List ℕ} {at i end end' : ℕ} (x y : A) → Written f k xs d at i end d1 → i < length xs → x ≡ get_or xs i y → (end' ≡ end + k) × (d2 ≡ sets d1 end (f x)) → length d2 ≡ length d1
      → Written f k xs d at (i + 1) end' d2
  unfolding flat
  written_more {xs} {d} {at = at} {i = i} x y w lt is e l =
      let more : take (i + 1) xs ≡ take i xs ++ (x ∷ []) = take_more xs i y lt ∙ ap (λ (z : A). take i xs ++ (z ∷ [])) (sym is) in
      let long : length (flat f (take i xs)) ≡ k * i = length_flat f k each (take i xs) ∙ ap (λ (n : ℕ). k * n) (length-take-le i xs (omega arith)) in
      record {
        long = l ∙ w.long;
        ends = let a = w.ends in let b = e.0 in omega arith;
        bytes = runs d (flat f (take i xs)) (f x) at _ w.bytes e.1 (sym (w.ends ∙ ap (λ (n : ℕ). at + n) (sym long)))
            ∙ ap (sets d at) (sym (ap (flat f) more ∙ flat_append f (take i xs) (x ∷ []) ∙ ap (λ (l : List ℕ). flat f (take i xs) ++ l) (append-nil (f x))));
      }

  -- all of them
  pub written_all : {xs : List A} {d d1 : List ℕ} {at i end : ℕ} → Written f k xs d at i end d1 → i ≡ length xs → (end ≡ at + k * length xs) × (d1 ≡ sets d at (flat f xs))
  written_all {xs} {d} {at = at} {i = i} w e = (w.ends ∙ ap (λ (n : ℕ). at + k * n) e, w.bytes ∙ ap (λ (l : List A). sets d at (flat f l)) (ap (λ (n : ℕ). take n xs) e ∙ take_all (length xs) xs (omega arith)))

-- the numbers of a list's elements
pub words_of : {A : Type 0} (f : A → ℕ) (xs : List A) → words (map f xs) ≡ flat (λ (x : A). bytes32 (f x)) xs
unfolding words flat
words_of f [] = refl
words_of f (x ∷ xs) = ap (λ (l : List ℕ). bytes32 (f x) ++ l) (words_of f xs)

-- the length of a table's entries of k bytes each
pub length_entries : {A : Type 0} (f : A → List ℕ) (g : ℕ → A) (k : ℕ) → ((x : A) → length (f x) ≡ k) → (n : ℕ) → length (flat f (table g n)) ≡ k * n
length_entries f g k e n = length_flat f k e (table g n) ∙ ap (λ (m : ℕ). k * m) (table_length g n)

-- u32 entries: the numbers of a table's elements
pub words_table : {A : Type 0} (f : A → ℕ) (g : ℕ → A) (n : ℕ) → words (map f (table g n)) ≡ flat bytes32 (table (λ (i : ℕ). f (g i)) n)
unfolding words
words_table f g n = ap (flat bytes32) (table_map f g n)

pub words_join : {A : Type 0} (f : A → ℕ) (xs ys : List A) → words (map f (xs ++ ys)) ≡ words (map f xs) ++ words (map f ys)
unfolding words
words_join f xs ys = ap words (map-append f xs ys) ∙ flat_append bytes32 (map f xs) (map f ys)

pub length_words : {A : Type 0} (f : A → ℕ) (xs : List A) → length (words (map f xs)) ≡ 4 * length xs
unfolding words
length_words f xs = length_flat bytes32 4 length_bytes32 (map f xs) ∙ ap (λ (j : ℕ). 4 * j) (length-map xs f)

-- numbers of a run, from a place on
pub length_numbers : (xs : List Serial) (from n : ℕ) → length (words (numbers_from xs from n)) ≡ 4 * n
unfolding words
length_numbers xs from n = length_entries bytes32 (λ (i : ℕ). (get_or xs (from + i) blank_serial).0) 4 length_bytes32 n

-- the first elements of a list, as a table, and their numbers
pub take_table : {A : Type 0} (d : A) (xs : List A) (n : ℕ) → n ≤ length xs → take n xs ≡ table (λ (i : ℕ). get_or xs i d) n
unfolding table
take_table d xs zero h = refl
take_table d xs (suc n) h = take-suc xs n d (omega arith) ∙ ap (λ (l : List _). l ++ (get_or xs n d ∷ [])) (take_table d xs n (omega arith))

-- and those of serials: those that stand in a run from its start, and from a place on
abbrev num : Serial → ℕ
num x = x.0

part_table : (xs : List Serial) (from n : ℕ) → from + n ≤ length xs → take n (drop from xs) ≡ table (λ (i : ℕ). get_or xs (from + i) blank_serial) n
part_table xs from n h =
    take_table blank_serial (drop from xs) n (omega (arith, length-drop from xs))
    ∙ table_same (λ (i : ℕ). get_or (drop from xs) i blank_serial) (λ (i : ℕ). get_or xs (from + i) blank_serial) n (λ i l. get_or-drop from xs i blank_serial)

part_numbers : (xs : List Serial) (from n : ℕ) → from + n ≤ length xs → words (map num (take n (drop from xs))) ≡ words (numbers_from xs from n)
unfolding words
part_numbers xs from n h = ap (λ (l : List Serial). words (map num l)) (part_table xs from n h) ∙ words_table num (λ (i : ℕ). get_or xs (from + i) blank_serial) n

module _ {r : ℕ} {d' : List ℕ} (d : List ℕ) (at : ℕ) (xs : List Serial) where
  pub run_part : (from n : ℕ) → from + n ≤ length xs → (r ≡ at + 4 * length (take (from + n - from) (drop from xs))) × (d' ≡ sets d at (words (map num (take (from + n - from) (drop from xs)))))
      → Run d at (words (numbers_from xs from n)) r d'
  run_part from n h e =
      let k : from + n - from ≡ n = omega arith in
      let l : length (take n (drop from xs)) ≡ n = length-take-le n (drop from xs) (omega (arith, length-drop from xs)) in
      let w = rw (k, l, part_numbers xs from n h) at e in
      run d at (words (numbers_from xs from n)) (length_numbers xs from n) w

  pub run_first : (n : ℕ) → n ≤ length xs → (r ≡ at + 4 * length (take n xs)) × (d' ≡ sets d at (words (map num (take n xs)))) → Run d at (words (numbers_from xs 0 n)) r d'
  run_first n h e = run_part 0 n (omega arith) (let k : 0 + n - 0 ≡ n = omega arith in rw k e)

-- an array that holds its own elements: how many, and the lengths of their entries
module _ {A : Type 0} {n m : ℕ} {d : A} {a : List A} (h : Padded n d a m (used m a)) where
  pub held_long : length (take m a) ≡ m
  unfolding used
  held_long = sym h.long

  pub held_entries : (f : A → List ℕ) (k : ℕ) → ((x : A) → length (f x) ≡ k) → length (flat f (take m a)) ≡ k * m
  held_entries f k e = length_flat f k e (take m a) ∙ ap (λ (j : ℕ). k * j) held_long

  pub held_words : (f : A → ℕ) → length (words (map f (take m a))) ≡ 4 * m
  unfolding words
  held_words f = length_flat bytes32 4 length_bytes32 (map f (take m a)) ∙ ap (λ (j : ℕ). 4 * j) (length-map (take m a) f ∙ held_long)

-- a body from 6 on, then the head
pub framed_last : {n r : ℕ} {d1 d2 : List ℕ} (d b : List ℕ) (kind : ℕ) → Run d 6 b n d1 → n ≤ length d → Run d1 0 (bytes16 (n - 4) ++ bytes16 kind ++ bytes16 0) r d2
    → Says (framed kind 0 b) d n d2
framed_last {n = n} {d1 = d1} d b kind v h w =
    let k : n - 4 ≡ 2 + length b = omega arith in
    let l : n ≡ length (framed kind 0 b) = omega arith in
    record {
      long = l;
      bytes = head_last d (bytes16 (2 + length b) ++ bytes16 kind ++ bytes16 0) b 6 refl v.1 (w.1 ∙ ap (λ (x : ℕ). sets d1 0 (bytes16 x ++ bytes16 kind ++ bytes16 0)) k)
          ∙ sets_over (framed kind 0 b) d (omega arith);
    }

-- six bytes say no
pub refused_says : {n r : ℕ} {d' : List ℕ} (kind m : ℕ) (d : List ℕ) → n ≡ m → Run d 0 (bytes16 2 ++ bytes16 kind ++ bytes16 n) r d' → 6 ≤ length d
    → Refuses kind m d (record { number = n; len = r }) d'
refused_says kind m d e w h =
    record { answer = rw (e, w.0); bytes = rw e at (w.1 ∙ sets_over (bytes16 2 ++ bytes16 kind ++ bytes16 _) d h) }

-- a tail by its runs, and its room
module _ (x : Moved) (g : GoodTail x) where
  pub tail_is : tail_bytes (tail_in x) ≡ (x.shown ∷ flat shown_bytes (take x.shown x.handed))
      ++ (x.dropped ∷ words (serial_nos (take x.dropped x.thrown)))
      ++ (x.freed ∷ words (surface_nos (take x.freed x.released)))
  unfolding tail_bytes used
  tail_is = rw (sym g.handed.long, sym g.thrown.long, sym g.released.long)

  pub tail_room : length (tail_bytes (tail_in x)) ≤ 331
  tail_room =
      let e = ap length tail_is in
      let h = g.handed.room in
      let t = g.thrown.room in
      let r = g.released.room in
      omega (arith, simp length-append at e, held_entries g.handed shown_bytes shown_width length_shown, held_words g.thrown (λ (s : Serial). s.0), held_words g.released (λ (s : Surface). s.0))

-- the room of the members of the sets
pub members_room : (x : Sizes) (us vs : List Serial) → FewMembers x → length (member_bytes x us vs) ≤ 64
members_room x us vs f =
    let n = x.before + x.after in
    let a = length_numbers us 0 n in
    let b = length_numbers vs 0 x.foll in
    let p = length_numbers us n x.long in
    let q = length_numbers vs x.foll x.lt_foll in
    simp length-append (omega arith)

-- the serials of two lists, one behind the other
pub listed : (x y : RefList) → Listable x → Listable y
    → bytes_of (Listed (list_in x) (list_in y)) ≡ framed (reply_to lists_kind) 0 ((x.len ∷ y.len ∷ words (serial_nos (take x.len x.items))) ++ words (serial_nos (take y.len y.items)))
unfolding bytes_of used
listed x y h k = rw (held_long h.holds, held_long k.holds, words_join num (take x.len x.items) (take y.len y.items))
