-- Lists records: the entry bytes are parts of the record, each way out of the order of refusals is one law, and what is
-- accepted is ready to be listed.
use Prim.Native.Nat.{ℕ, zero, suc, ◌+◌, ◌-◌, ◌≤◌, ◌<◌, max}
use mathlib.Core.Path.{◌≡◌, refl, sym, ap, ap₂, ◌∙◌, subst}
use mathlib.Core.List.{List, [], ◌∷◌}
use mathlib.Core.Bool.{Bool, true, false, cond, not, ◌&&◌, ◌||◌}
use native.Mathlib.Omega.{arith}
use lib.Dec.{eqb, ltb, leb}
use lib.ListN.{length, take, drop, length-drop, length-append}
use lib.Seq.{take-suc, get_or-drop}
use borrow.Author.Tests.{eqb-true, eqb-false, lt-ltb, leb-true}
use Rattle.paper.specs.declared.Serial.{Serial}
use Rattle.paper.specs.declared.Current.{Current}
use Rattle.paper.specs.Words.{◌gives◌, first, any_b, table}
use Rattle.paper.specs.Numbers.{u8, bit}
use Rattle.paper.specs.Kinds.{lists_kind, reply_to}
use Rattle.paper.specs.Records.{ListAsk, Slice, length_of, entries0, entries1, slice_of, body_ok, well_formed}
use Rattle.paper.specs.State.{Session, Refs, on_now}
use Rattle.paper.specs.Ranges.{active_ok, lists_ranges}
use Rattle.paper.specs.RefLists.{candidates0, candidates1, list0, list1, no_candidate, too_many, bad_entry}
use Rattle.paper.specs.Replies.{bytes_of}
use Rattle.paper.specs.Replies.Reply.{Listed}
use Rattle.paper.specs.Step.{refused, lists_refusal, lists_at, lists_of}
use Rattle.paper.proofs.Bools.{left, right, split}
use Rattle.paper.proofs.Ways.{first_none, yes_of}
use Rattle.paper.proofs.Fits.{table_length}
use Rattle.derivation.specs.declared.ref_lists.RefList.{RefList}
use Rattle.derivation.specs.Lists.{candidates_of, list_of, built_of, CandidateCount, Ready, HoldsList}
use Rattle.derivation.proofs.Pad.{is_view, is_good}
use Rattle.derivation.proofs.Instances.{list0_is, list1_is, built_is, candidates_0, candidates_1}
use Rattle.session.specs.declared.Refusal.{Refusal}
use Rattle.session.specs.declared.Refusal.TheVariants.{NoCurrent}
use Rattle.format.specs.declared.records.Ask.{Ask}
use Rattle.format.specs.declared.records.SliceFields.{SliceFields}
use Rattle.session.specs.Numbered.{number_of}
use Rattle.session.specs.Said.{accepts, Says, Gives, WellFormed}
use Rattle.session.proofs.Bytes.{refusal_number}
use Rattle.format.specs.Reads.{AsksAs, ReadsAs}
use Rattle.session.specs.Slices.{lists_number}
use Rattle.session.specs.Written.{list_in, Listable}
use Rattle.std.proofs.Common.{Option, Result, Ok, Err}

-- ---- the entry bytes

-- the bytes from a on, one by one, are a part of the record
part_is : (r : List ℕ) (a n : ℕ) → a + n ≤ length r → take n (drop a r) ≡ table (λ (i : ℕ). u8 r (a + i)) n
unfolding table
part_is r a zero h = refl
part_is r a (suc n) h =
    let k : n < length (drop a r) = simp length-drop (omega arith) in
    rw (take-suc (drop a r) n 0 k, part_is r a n (omega arith), get_or-drop a r n 0)

-- a well-formed lists record is its head, four bytes and its entry bytes
pub record Laid (r : List ℕ) : Type 0 where
  pub whole : length r ≡ 8 + entries0 r + entries1 r
  pub short : length r ≤ 516

pub laid : (r : List ℕ) → WellFormed 3 r → Laid r
unfolding well_formed
laid r w =
    let a : (leb 4 (length r) && eqb (length r) (4 + length_of r) && leb (length_of r) 512) ≡ true = left _ (body_ok r) w.formed in
    let b : body_ok r ≡ true = right (leb 4 (length r) && eqb (length r) (4 + length_of r) && leb (length_of r) 512) _ w.formed in
    let d : eqb (length_of r) (4 + entries0 r + entries1 r) ≡ true = rw w.kind at b in
    let e : length r ≡ 4 + length_of r = eqb-true (length r) (4 + length_of r) (right (leb 4 (length r)) _ (left (leb 4 (length r) && eqb (length r) (4 + length_of r)) _ a)) in
    let g : length_of r ≡ 4 + entries0 r + entries1 r = eqb-true (length_of r) (4 + entries0 r + entries1 r) d in
    let h : length_of r ≤ 512 = leb-true (length_of r) 512 (right (leb 4 (length r) && eqb (length r) (4 + length_of r)) _ a) in
    record { whole = omega arith; short = omega arith }

-- the counts of what was read are the record's
module _ {m : ℕ} {a : Ask} (r : List ℕ) where
  pub count_0 : AsksAs a (slice_of r).ask0 → m ≡ cond a.modify a.active 0 → m ≡ entries0 r
  unfolding slice_of
  count_0 p e = e ∙ (λ i. cond (p.modify i) (p.active i) 0)

  pub count_1 : AsksAs a (slice_of r).ask1 → m ≡ cond a.modify a.active 0 → m ≡ entries1 r
  unfolding slice_of
  count_1 p e = e ∙ (λ i. cond (p.modify i) (p.active i) 0)

module _ {m : ℕ} (r : List ℕ) (w : WellFormed 3 r) (e : m ≡ entries0 r) where
  pub entries_0 : take (8 + m - 8) (drop 8 r) ≡ (slice_of r).ask0.entries
  unfolding slice_of
  entries_0 =
      let l = laid r w in
      let k : 8 + m - 8 ≡ entries0 r = omega arith in
      ap (λ (n : ℕ). take n (drop 8 r)) k ∙ part_is r 8 (entries0 r) (omega arith)

  pub entries_1 : {n : ℕ} → n ≡ entries1 r → take (8 + m + n - (8 + m)) (drop (8 + m) r) ≡ (slice_of r).ask1.entries
  unfolding slice_of
  entries_1 {n} g =
      let l = laid r w in
      let k : 8 + m + n - (8 + m) ≡ entries1 r = omega arith in
      ap₂ (λ (j i : ℕ). take j (drop (8 + i) r)) k e ∙ part_is r (8 + entries0 r) (entries1 r) (omega arith)

-- with its modify bit a list has an entry byte for each place
when_modified : (g : ℕ → ℕ) (b : Bool) (n : ℕ) → b ≡ true → length (table g (cond b n 0)) ≡ n
when_modified g b n e = table_length g (cond b n 0) ∙ rw e

bytes_0 : (r : List ℕ) → (slice_of r).ask0.modify ≡ true → length (slice_of r).ask0.entries ≡ (slice_of r).ask0.active
unfolding slice_of
bytes_0 r e = when_modified (λ (i : ℕ). u8 r (8 + i)) (bit 0 (u8 r 5)) (u8 r 6) e

bytes_1 : (r : List ℕ) → (slice_of r).ask1.modify ≡ true → length (slice_of r).ask1.entries ≡ (slice_of r).ask1.active
unfolding slice_of
bytes_1 r e = when_modified (λ (i : ℕ). u8 r (8 + entries0 r + i)) (bit 1 (u8 r 5)) (u8 r 7) e

-- a slice that uses list 1 uses list 0
uses_both : (r : List ℕ) → (slice_of r).ask1.uses ≡ true → (slice_of r).ask0.uses ≡ true
unfolding slice_of
uses_both r e = lt-ltb (u8 r 4) 2 (omega (arith, eqb-true (u8 r 4) 0 e))

-- ---- the order of refusals, as it is tested

abbrev pub none_of : Ask → ℕ → Bool
none_of a n = a.uses && eqb n 0

abbrev pub many_of : Ask → ℕ → Bool
many_of a n = a.uses && ltb 16 (max a.active n)

abbrev pub bad_of : Slice → ℕ → Bool
bad_of f n = any_b (λ (e : ℕ). leb n e) f.ask0.entries || any_b (λ (e : ℕ). leb n e) f.ask1.entries

many_is : (a : Ask) (y : ListAsk) (cs : List Serial) (n : ℕ) → AsksAs a y → n ≡ length cs → too_many y cs ≡ many_of a n
unfolding too_many
many_is a y cs n p e = rw (p.uses, p.active, e)

none_is : (x : Refs) (c : Serial) (f : Slice) (a : Ask) (n : ℕ) → AsksAs a f.ask0 → n ≡ length (candidates0 x f.own c) → no_candidate x c f ≡ none_of a n
unfolding no_candidate
none_is x c f a n p e = rw (p.uses, e)

bad_is : (y : ListAsk) (cs : List Serial) (n : ℕ) → n ≡ length cs → bad_entry y cs ≡ any_b (λ (e : ℕ). leb n e) y.entries
unfolding bad_entry
bad_is y cs n e = ap (λ (m : ℕ). any_b (λ (e : ℕ). leb m e) y.entries) (sym e)

-- two tests of one number are one test
cond_or : (a b : Bool) (n m : ℕ) → cond a n (cond b n m) ≡ cond (a || b) n m
cond_or true b n m = refl
cond_or false b n m = refl

in_order : (r s t u v w : Bool) → r ≡ true
    → first (not r gives 5 ∷ s gives 10 ∷ t gives 11 ∷ u gives 11 ∷ v gives 12 ∷ w gives 12 ∷ []) ≡ first (s gives 10 ∷ (t || u) gives 11 ∷ (v || w) gives 12 ∷ [])
unfolding first
in_order r s t u v w e = rw (e, cond_or t u 11 (cond v 12 (cond w 12 0)), cond_or v w 12 0)

pub fails_5 : (x : Refs) (f : Slice) → lists_ranges f ≡ false → (c : Serial) → 5 ≡ lists_number x c f
unfolding lists_number first
fails_5 x f e c = rw e

-- what is read and counted of a record whose fields are within their ranges
pub record Judging (x : Refs) (f : Slice) (h : SliceFields) (n : ℕ) : Type 0 where
  pub ok : lists_ranges f ≡ true
  pub reads : ReadsAs h f
  pub count : CandidateCount x f.own n

module _ {x : Refs} {f : Slice} {h : SliceFields} {n : ℕ} (g : Judging x f h n) where
  abbrev a : Ask
  a = h.ask0

  abbrev b : Ask
  b = h.ask1

  tests_are : (c : Serial) → lists_number x c f ≡ first (none_of a n gives 10 ∷ (many_of a n || many_of b n) gives 11 ∷ bad_of f n gives 12 ∷ [])
  unfolding lists_number
  tests_are c =
      let cs = candidates0 x f.own c in
      let ds = candidates1 x f.own c in
      let k = g.count.first c in
      let j = g.count.other c in
      rw (none_is x c f a n g.reads.ask0 k, many_is a f.ask0 cs n g.reads.ask0 k, many_is b f.ask1 ds n g.reads.ask1 j, bad_is f.ask0 cs n k, bad_is f.ask1 ds n j)
      (in_order (lists_ranges f) (none_of a n) (many_of a n) (many_of b n) (any_b (λ (e : ℕ). leb n e) f.ask0.entries) (any_b (λ (e : ℕ). leb n e) f.ask1.entries) g.ok)

  pub fails_10 : none_of a n ≡ true → (c : Serial) → 10 ≡ lists_number x c f
  unfolding first
  fails_10 e c = rw (tests_are c, e)

  module _ {t u : Bool} (some : none_of a n ≡ false) (et : t ≡ many_of a n) (eu : u ≡ many_of b n) where
    pub fails_11 : (t || u) ≡ true → (c : Serial) → 11 ≡ lists_number x c f
    unfolding first
    fails_11 e c = rw (tests_are c, some, ← et, ← eu, e)

    module _ {v : Bool} (few : (t || u) ≡ false) (ev : v ≡ bad_of f n) where
      pub fails_12 : v ≡ true → (c : Serial) → 12 ≡ lists_number x c f
      unfolding first
      fails_12 e c = rw (tests_are c, some, ← et, ← eu, few, ← ev, e)

      pub passes : v ≡ false → (c : Serial) → 0 ≡ lists_number x c f
      unfolding first
      passes e c = rw (tests_are c, some, ← et, ← eu, few, ← ev, e)

-- ---- what accepted lists have passed

record Passed (x : Refs) (c : Serial) (f : Slice) : Type 0 where
  pub ok_0 : active_ok f.ask0 ≡ true
  pub ok_1 : active_ok f.ask1 ≡ true
  pub some : no_candidate x c f ≡ false
  pub good_0 : bad_entry f.ask0 (candidates0 x f.own c) ≡ false
  pub good_1 : bad_entry f.ask1 (candidates1 x f.own c) ≡ false

passed : (x : Refs) (c : Serial) (f : Slice) → lists_number x c f ≡ 0 → Passed x c f
unfolding lists_number lists_ranges
passed x c f z =
    let t1 = first_none (not (lists_ranges f)) 5 _ (λ e. omega arith) z in
    let t2 = first_none (no_candidate x c f) 10 _ (λ e. omega arith) t1.1 in
    let t3 = first_none (too_many f.ask0 (candidates0 x f.own c)) 11 _ (λ e. omega arith) t2.1 in
    let t4 = first_none (too_many f.ask1 (candidates1 x f.own c)) 11 _ (λ e. omega arith) t3.1 in
    let t5 = first_none (bad_entry f.ask0 (candidates0 x f.own c)) 12 _ (λ e. omega arith) t4.1 in
    let t6 = first_none (bad_entry f.ask1 (candidates1 x f.own c)) 12 [] (λ e. omega arith) t5.1 in
    let r : (leb f.slice_type 2 && ltb f.flags 8 && active_ok f.ask0 && active_ok f.ask1) ≡ true = yes_of _ t1.0 in
    record {
      ok_0 = right (leb f.slice_type 2 && ltb f.flags 8) _ (left (leb f.slice_type 2 && ltb f.flags 8 && active_ok f.ask0) _ r);
      ok_1 = right (leb f.slice_type 2 && ltb f.flags 8 && active_ok f.ask0) _ r;
      some = t2.0;
      good_0 = t5.0;
      good_1 = t6.0;
    }

-- where a slice uses list 0 there is a candidate, and both lists have as many
some_0 : (x : Refs) (c : Serial) (f : Slice) → no_candidate x c f ≡ false → f.ask0.uses ≡ true → 0 < length (candidates0 x f.own c)
unfolding no_candidate
some_0 x c f s u =
    let e : eqb (length (candidates0 x f.own c)) 0 ≡ false = rw u at s in
    let n = eqb-false (length (candidates0 x f.own c)) 0 e in
    omega arith

as_many : (x : Refs) (c : Serial) (own : Bool) → length (candidates0 x own c) ≡ length (candidates1 x own c)
as_many x c own = simp length-append (omega arith)

-- a list that is used, with its tests passed, is ready to be built
ready_of : (x : Refs) (c : Serial) (own second : Bool) (cs : List Serial) (a : Ask) (y : ListAsk) (es : List ℕ) → candidates_of x own second c ≡ cs → AsksAs a y → y.uses ≡ true → es ≡ y.entries
    → (y.modify ≡ true → length y.entries ≡ y.active) → 0 < length cs → active_ok y ≡ true → bad_entry y cs ≡ false → Ready x c own second a.active a.modify es
unfolding bad_entry
ready_of x c own second cs a y es d p u e bytes some ok good =
    let k : (leb 1 y.active && leb y.active 16) ≡ true = rw u at ok in
    let l : 1 ≤ y.active = leb-true 1 y.active (left (leb 1 y.active) _ k) in
    let m : y.active ≤ 16 = leb-true y.active 16 (right (leb 1 y.active) _ k) in
    rw (p.active, p.modify, e) (record { some = rw d some; least = l; most = m; bytes = bytes; below = λ t. rw d good })

module _ {x : Refs} {c : Serial} {a : Ask} {own : Bool} {es : List ℕ} (r : List ℕ) (z : lists_number x c (slice_of r) ≡ 0) (o : own ≡ (slice_of r).own) where
  pub ready_0 : AsksAs a (slice_of r).ask0 → a.uses ≡ true → es ≡ (slice_of r).ask0.entries → Ready x c own false a.active a.modify es
  ready_0 p u e =
      let g = passed x c (slice_of r) z in
      let v : (slice_of r).ask0.uses ≡ true = sym p.uses ∙ u in
      rw o (ready_of x c (slice_of r).own false (candidates0 x (slice_of r).own c) a (slice_of r).ask0 es (candidates_0 x (slice_of r).own c) p v e (bytes_0 r) (some_0 x c (slice_of r) g.some v) g.ok_0 g.good_0)

  pub ready_1 : AsksAs a (slice_of r).ask1 → a.uses ≡ true → es ≡ (slice_of r).ask1.entries → Ready x c own true a.active a.modify es
  ready_1 p u e =
      let g = passed x c (slice_of r) z in
      let v : (slice_of r).ask1.uses ≡ true = sym p.uses ∙ u in
      let n : 0 < length (candidates1 x (slice_of r).own c) = rw (← as_many x c (slice_of r).own) (some_0 x c (slice_of r) g.some (uses_both r v)) in
      rw o (ready_of x c (slice_of r).own true (candidates1 x (slice_of r).own c) a (slice_of r).ask1 es (candidates_1 x (slice_of r).own c) p v e (bytes_1 r) n g.ok_1 g.good_1)

-- ---- the two lists

empty_0 : (x : Refs) (c : Serial) (f : Slice) → f.ask0.uses ≡ false → list0 x c f ≡ []
unfolding list0
empty_0 x c f v = rw v

empty_1 : (x : Refs) (c : Serial) (f : Slice) → f.ask1.uses ≡ false → list1 x c f ≡ []
unfolding list1
empty_1 x c f v = rw v

module _ (x : Refs) (c : Serial) (f : Slice) (l : RefList) {a : Ask} {own : Bool} {es : List ℕ} (o : own ≡ f.own) where
  pub held_0 : {n : ℕ} {last : Bool} → AsksAs a f.ask0 → es ≡ f.ask0.entries → CandidateCount x own n → last ≡ (own && not a.modify && ltb a.active n)
      → (a.uses ≡ true → Ready x c own false a.active a.modify es) → HoldsList l (cond a.uses (built_of x c own false last a.active a.modify es) []) → HoldsList l (list0 x c f)
  held_0 {last = last} p e k j q h =
      split a.uses
      (λ u.
      let v : f.ask0.uses ≡ true = sym p.uses ∙ u in
      let i : list0 x c f ≡ list_of x c own false last a.active a.modify es = rw (j, k.first c, o, p.active, p.modify, e) (list0_is x c f v) in
      rw (i, ← built_is last (q u)) (subst (λ (b : Bool). HoldsList l (cond b (built_of x c own false last a.active a.modify es) [])) u h))
      (λ u. rw (empty_0 x c f (sym p.uses ∙ u)) (subst (λ (b : Bool). HoldsList l (cond b (built_of x c own false last a.active a.modify es) [])) u h))

  pub held_1 : AsksAs a f.ask1 → es ≡ f.ask1.entries → (a.uses ≡ true → Ready x c own true a.active a.modify es) → HoldsList l (cond a.uses (built_of x c own true false a.active a.modify es) []) → HoldsList l (list1 x c f)
  held_1 p e q h =
      split a.uses
      (λ u.
      let v : f.ask1.uses ≡ true = sym p.uses ∙ u in
      let i : list1 x c f ≡ list_of x c own true false a.active a.modify es = rw (o, p.active, p.modify, e) (list1_is x c f v) in
      rw (i, ← built_is false (q u)) (subst (λ (b : Bool). HoldsList l (cond b (built_of x c own true false a.active a.modify es) [])) u h))
      (λ u. rw (empty_1 x c f (sym p.uses ∙ u)) (subst (λ (b : Bool). HoldsList l (cond b (built_of x c own true false a.active a.modify es) [])) u h))

pub listable : (l : RefList) (xs : List Serial) → HoldsList l xs → Listable l
listable l xs h = record { holds = is_good h }

-- ---- the answer

pub says_listed : {len : ℕ} {before after : List ℕ} {x y : RefList} {us vs : List Serial} → HoldsList x us → HoldsList y vs → Says (bytes_of (Listed (list_in x) (list_in y))) before len after → Says (bytes_of (Listed us vs)) before len after
says_listed p q h = rw (← is_view p, ← is_view q) h

same_order : (s : Session) (x : Refs) (c : Current) (f : Slice) → s.refs ≡ x → lists_refusal s c f ≡ lists_number x c.serial f
unfolding lists_refusal lists_number
same_order s x c f e = ap (λ (y : Refs). lists_number y c.serial f) e

module _ (s : Session) (x : Refs) (r : s.refs ≡ x) (c : Current) (f : Slice) (before after : List ℕ) where
  pub gives_no : (why : Refusal) → number_of why ≡ lists_number x c.serial f → Gives (reply_to lists_kind) s (lists_at s f c) before (Err why) before
  gives_no why j =
      let i : lists_refusal s c f ≡ number_of why = same_order s x c f r ∙ sym j in
      record { ok = tt; err = record { decided = rw (i, refusal_number why); bytes = refl } }

  pub gives_lists : {len : ℕ} → lists_number x c.serial f ≡ 0 → Says (bytes_of (Listed (list0 x c.serial f) (list1 x c.serial f))) before len after → Gives (reply_to lists_kind) s (lists_at s f c) before (Ok len) after
  gives_lists j h =
      let i : lists_refusal s c f ≡ 0 = same_order s x c f r ∙ j in
      record { ok = rw (i, r) (record { answer = ap accepts h.long; bytes = h.bytes }); err = tt }

now_is : (s : Session) (f : Slice) (w : Option Current) → s.current ≡ w → lists_of s f ≡ on_now w (refused s (reply_to lists_kind) 4) (lists_at s f)
unfolding lists_of
now_is s f w e = ap (λ (v : Option Current). on_now v (refused s (reply_to lists_kind) 4) (lists_at s f)) e

pub gives_now : {given : Result ℕ Refusal} (s : Session) (f : Slice) (before after : List ℕ) (w : Option Current) → s.current ≡ w
    → Gives (reply_to lists_kind) s (on_now w (refused s (reply_to lists_kind) 4) (lists_at s f)) before given after → Gives (reply_to lists_kind) s (lists_of s f) before given after
gives_now s f before after w e h = rw (now_is s f w e) h

pub gives_idle : (s : Session) (before : List ℕ) → Gives (reply_to lists_kind) s (refused s (reply_to lists_kind) 4) before (Err NoCurrent) before
gives_idle s before = record { ok = tt; err = record { decided = refl; bytes = refl } }
