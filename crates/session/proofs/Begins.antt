-- A begin, stage by stage: what the code has read and computed is what the paper's steps say. Assumes nothing.
use Prim.Native.Nat.{ℕ, ◌+◌, ◌≤◌, ◌^◌, min}
use mathlib.Core.Path.{◌≡◌, refl, sym, ap, ◌∙◌, subst}
use mathlib.Core.List.{List, [], ◌∷◌, ◌++◌, map-append, append_assoc}
use mathlib.Core.Bool.{Bool, true, false, cond, not, ◌&&◌}
use native.Mathlib.Omega.{arith}
use lib.ListN.{length, length-map, length-append}
use lib.Dec.{eqb}
use lib.IntN.{ℤ}
use lib.Signed.{mag}
use borrow.Author.Tests.{ltb-true}
use mir.Syntax.{w32}
use mir.Val.{to_z, of_z}
use mir.Facts.{to_z-of_z}
use Rattle.paper.specs.declared.Picture.{Picture}
use Rattle.paper.specs.declared.Wish.{Wish}
use Rattle.paper.specs.declared.Serial.{Serial}
use Rattle.paper.specs.declared.Limits.{Limits}
use Rattle.paper.specs.declared.Current.{Current}
use Rattle.paper.specs.Words.{table}
use Rattle.paper.specs.Numbers.{serial_nos, a_serial, flag_at}
use Rattle.paper.specs.Kinds.{begin_kind, reply_to}
use Rattle.paper.specs.Flags.{valid_prev}
use Rattle.paper.specs.State.{Session, modulus, all_refs}
use Rattle.paper.specs.Records.{Fields, fields_of}
use Rattle.paper.specs.declared.Surface.{Surface}
use Rattle.paper.specs.Ranges.{begin_ranges}
use Rattle.paper.specs.Poc.{in32, msb_of, poc_of}
use Rattle.paper.specs.Sets.{Sets, Wishes, wishes_of, wishes_in32, in_order, refs_of, sets_of, marks_of, unmarked_if}
use Rattle.paper.specs.Output.{Moved, before_decoding}
use Rattle.paper.specs.Begin.{no_rasl_pics, output_flag, no_prior_pics, starts_over, prev_for, msb, poc, wishes, within, unmarked_store, sets, marked_store, room_made, begun_current, begun_session}
use Rattle.paper.specs.Replies.{words, tail_bytes, flags_byte, begun_bytes, framed, bytes_of}
use Rattle.paper.specs.Step.{refused, begin_of, begun_of}
use Rattle.paper.proofs.Bools.{left, right}
use Rattle.paper.proofs.Ways.{begun}
use Rattle.paper.proofs.Fits.{few_entries, table_length}
use Rattle.wire.specs.Bytes.{over}
use Rattle.derivation.specs.declared.poc.Poc.{Poc}
use Rattle.std.proofs.Common.{Result, Ok, Err}
use Rattle.derivation.specs.declared.Outside.{Outside}
use Rattle.derivation.specs.declared.ref_lists.Refs.{Refs}
use Rattle.derivation.specs.Answers.{poc_answer}
use Rattle.derivation.specs.Pad.{Padded, used}
use Rattle.derivation.specs.Lists.{blank_serial, serials_in, member_at, members_of, refs_in}
use Rattle.derivation.proofs.Pad.{is_view, is_long}
use Rattle.derivation.proofs.Numbered.{poc_val, poc_out}
use Rattle.derivation.proofs.Runs.{refs_are}
use Rattle.store.specs.declared.Sizes.{Sizes}
use Rattle.store.specs.declared.Derived.{Derived}
use Rattle.store.specs.declared.Moved as Store
use Rattle.format.specs.declared.records.BeginFields.{BeginFields}
use Rattle.session.specs.declared.begin.Flags.{Flags}
use Rattle.session.specs.declared.begin.Start.{Start}
use Rattle.session.specs.declared.replies.Told.{Told}
use Rattle.store.specs.StoreWords.{word, flag_of, stored}
use Rattle.store.specs.Places.{front, stored_in}
use Rattle.store.specs.Tails.{tail_in}
use Rattle.store.specs.Bumps.{Leaves}
use Rattle.store.specs.Runs.{wishes_in, wishes_within, HoldsSets, Derives}
use Rattle.session.specs.FrontPlaces.{ENDED, NEXT}
use Rattle.session.specs.Laid.{sizes_of, front_of, front_words}
use Rattle.session.specs.Laid as Laid
use Rattle.session.specs.View.{Memory, memory, session_in, session_of, Front, front_in, limits_at, begun_front}
use Rattle.session.specs.Said.{accepts, Says, Answers, Tries}
use Rattle.session.specs.Target.{fields_with}
use Rattle.format.specs.Reads.{begin_fields}
use Rattle.session.specs.Parts.{all_inside, HoldsWishes}
use Rattle.session.specs.Written.{FewMembers, numbers_from, member_bytes, begun_part, told_bytes}
use Rattle.session.specs.Starts.{flags_from, prev_from, current_from, told_from, refs_from, Passed, Placed, Wished, Tells}
use Rattle.store.proofs.StoreWords.{table_same, table_map, table_join}
use Rattle.store.proofs.MarkLaws.{within_room}
use Rattle.session.proofs.Bytes.{take_table, words_join}
use Rattle.session.proofs.Entries.{entries_are}
use Rattle.session.proofs.Ways.{begin_6, begin_0}
use Rattle.session.proofs.Wishing.{apart}
use Rattle.session.proofs.Saying.{gives_as, tail_held}
use Rattle.std.proofs.Common.{Option, Some, Ok}
use Rattle.paper.specs.declared.Tid0.{Tid0}

-- ---- number 6 and acceptance, behind the other tests

module _ (s : Session) (r : List ℕ) {l : Limits} {h : BeginFields} (p : Passed s r l h) where
  abbrev f : Fields
  f = fields_with h.surface r

  pub outside : within s f ≡ false → begin_of s f ≡ refused s (reply_to begin_kind) 6
  unfolding fields_with
  outside e = begin_6 s f (rw p.configured) p.idle (rw p.ranges) p.roomy p.free e

  pub inside : within s f ≡ true → begin_of s f ≡ begun s f
  unfolding fields_with
  inside e = begin_0 s f (rw p.configured) p.idle (rw p.ranges) p.roomy p.free e

-- ---- steps 1 and 2

module _ (s : Session) (x : Surface) (r : List ℕ) where
  abbrev flags_now : Flags
  flags_now = flags_from s.at_start s.ended (begin_fields r)

  abbrev prev_now : Option Tid0
  prev_now = prev_from flags_now.over s.prev

  starts_is : starts_over s (fields_with x r) ≡ flags_now.over
  unfolding no_rasl_pics fields_with fields_of
  starts_is = refl

  prev_is : prev_for s (fields_with x r) ≡ prev_now
  prev_is = ap (λ (b : Bool). prev_from b s.prev) starts_is

  msb_is : msb_of (modulus s.limits) prev_now (begin_fields r).lsb ≡ msb s (fields_with x r)
  unfolding msb fields_with fields_of
  msb_is = ap (λ (q : Option Tid0). msb_of (modulus s.limits) q (begin_fields r).lsb) (sym prev_is)

  poc_is : poc_of (modulus s.limits) prev_now (begin_fields r).lsb ≡ poc s (fields_with x r)
  unfolding poc fields_with fields_of
  poc_is = ap (λ (q : Option Tid0). poc_of (modulus s.limits) q (begin_fields r).lsb) (sym prev_is)

  poc_outside : (in32 (msb s (fields_with x r)) && in32 (poc s (fields_with x r))) ≡ false → within s (fields_with x r) ≡ false
  unfolding within
  poc_outside e = ap (λ (b : Bool). b && wishes_in32 (wishes s (fields_with x r))) e

-- ---- step 3

module _ (x : Surface) (r : List ℕ) where
  few_fields : (M : ℕ) → begin_ranges M (fields_with x r) ≡ true → (begin_fields r).neg + (begin_fields r).pos + (begin_fields r).lt ≤ 16
  few_fields M e = omega (arith, entries_are x r, few_entries M (fields_with x r) e)

pub few_of : {s : Session} {r : List ℕ} {l : Limits} {h : BeginFields} {t : Start} → Placed s r l h t → h.neg + h.pos + h.lt ≤ 16
few_of {s} {r} {h = h} p = subst (λ (x : BeginFields). x.neg + x.pos + x.lt ≤ 16) (sym p.passed.fields) (few_fields h.surface r (modulus s.limits) p.passed.ranges)

-- ---- the reply: the members of the sets in the paper's order

pub few_members : {us vs : List Serial} {x : Sizes} {y : Sets} → HoldsSets us vs x y → FewMembers x
few_members h = record { all = h.few }

abbrev num : Serial → ℕ
num n = n.0

-- the members that an array holds
members_held : {xs : List Serial} {n : ℕ} {l : List Serial} → Padded 16 blank_serial xs n l → members_of xs n ≡ l
unfolding used
members_held {xs} {n} h = sym (take_table blank_serial xs n (omega (arith, is_long h, h.room))) ∙ is_view h

-- the numbers of a run that begins with two lists
run_parts : (xs : List Serial) (n m : ℕ) (a b : List Serial) → Padded 16 blank_serial xs (n + m) (a ++ b) → n ≡ length a → (numbers_from xs 0 n ≡ serial_nos a) × (numbers_from xs n m ≡ serial_nos b)
run_parts xs n m a b h l =
    let g : ℕ → ℕ = λ i. (member_at xs i).0 in
    let w : table g n ++ numbers_from xs n m ≡ serial_nos a ++ serial_nos b =
    sym (table_join g n m) ∙ sym (table_map num (member_at xs) (n + m)) ∙ ap serial_nos (members_held h) ∙ map-append num a b
    in
    let k = apart w (table_length g n ∙ l ∙ sym (length-map a num)) in
    let z : (i : ℕ) → 0 + i ≡ i = λ i. omega arith in
    (table_same (λ (i : ℕ). g (0 + i)) g n (λ i h. ap g (z i)) ∙ k.0, k.1)

members_are : {us vs : List Serial} {x : Sizes} {y : Sets} → HoldsSets us vs x y → member_bytes x us vs ≡ words (serial_nos (in_order y))
members_are {us} {vs} {x} {y} h =
    let n : x.before + x.after ≡ length (y.before ++ y.after) = omega (arith, length-append y.before y.after, h.before, h.after) in
    let u = run_parts us (x.before + x.after) x.long (y.before ++ y.after) y.lt_curr (rw (append_assoc y.before y.after y.lt_curr) h.first) n in
    let v = run_parts vs x.foll x.lt_foll y.foll y.lt_foll h.second h.foll in
    rw (u.0, u.1, v.0, v.1)
    (sym (words_join num (y.before ++ y.after ++ y.foll ++ y.lt_curr) y.lt_foll
    ∙ ap (λ (z : List ℕ). z ++ words (serial_nos y.lt_foll)) (words_join num (y.before ++ y.after ++ y.foll) y.lt_curr
    ∙ ap (λ (z : List ℕ). z ++ words (serial_nos y.lt_curr)) (words_join num (y.before ++ y.after) y.foll))))

-- the run that the members were written to
refs_held : {us vs : List Serial} {x : Sizes} {y : Sets} (xs : List ℕ) → length xs ≡ 16 → HoldsSets us vs x y → serials_in xs (x.before + x.after + x.long) ≡ members_of us (x.before + x.after + x.long)
    → refs_in xs (refs_from x) ≡ refs_of y
refs_held {us} {vs} {x} {y} xs l h e =
    refs_are xs (refs_from x) y.before y.after y.lt_curr (omega (arith, h.few)) (e ∙ members_held h.first) h.before h.after h.long

-- ---- what the stages of the code are in the paper's words

record FlagsAre (s : Session) (f : Fields) (t : Start) : Type 0 where
  rasl : t.flags.rasl ≡ no_rasl_pics s f
  output : t.flags.output ≡ output_flag s f
  valid : t.flags.valid ≡ valid_prev f.nal f.tid
  prior : t.flags.prior ≡ no_prior_pics s f
  over : t.flags.over ≡ starts_over s f

flags_are : (s : Session) (r : List ℕ) {l : Limits} (h : BeginFields) (t : Start) → Placed s r l h t → FlagsAre s (fields_with h.surface r) t
unfolding no_rasl_pics output_flag no_prior_pics fields_with fields_of
flags_are s r h t p =
    let e : t.flags ≡ flags_from s.at_start s.ended (begin_fields r) = p.flags ∙ ap (flags_from s.at_start s.ended) p.passed.fields in
    record {
      rasl = ap (λ (x : Flags). x.rasl) e;
      output = ap (λ (x : Flags). x.output) e;
      valid = ap (λ (x : Flags). x.valid) e;
      prior = ap (λ (x : Flags). x.prior) e;
      over = ap (λ (x : Flags). x.over) e;
    }

module _ (s : Session) (r : List ℕ) {l : Limits} (h : BeginFields) (t : Start) (ws : List Wish) (q : Wished s r l h t ws) where
  abbrev M : ℕ
  M = modulus s.limits

  abbrev g : Fields
  g = fields_with h.surface r

  abbrev asked : Wishes
  asked = wishes_in ws h.neg h.pos h.lt

  abbrev old : List Picture
  old = unmarked_if t.flags.over s.store

  same_flags : FlagsAre s g t
  same_flags = flags_are s r h t q.placed

  marks_are : marks_of M old asked ≡ marked_store s g
  unfolding marked_store
  marks_are = ap (λ (b : Bool). marks_of M (unmarked_if b s.store) asked) same_flags.over ∙ ap (marks_of M (unmarked_store s g)) q.wishes

  sets_are : sets_of M old asked ≡ sets s g
  sets_are = ap (λ (b : Bool). sets_of M (unmarked_if b s.store) asked) same_flags.over ∙ ap (sets_of M (unmarked_store s g)) q.wishes

  room_is : (qs : List Picture) → qs ≡ marks_of M old asked → before_decoding (t.flags.over && not s.ended) t.flags.prior s.limits qs ≡ room_made s g
  unfolding room_made
  room_is qs e =
      ap (λ (x : List Picture). before_decoding (t.flags.over && not s.ended) t.flags.prior s.limits x) (e ∙ marks_are)
      ∙ ap (λ (b : Bool). before_decoding (b && not s.ended) t.flags.prior s.limits (marked_store s g)) same_flags.over
      ∙ ap (λ (b : Bool). before_decoding (starts_over s g && not s.ended) b s.limits (marked_store s g)) same_flags.prior

  current_is : current_from s.next h t ≡ begun_current s g
  unfolding begun_current fields_with fields_of
  current_is =
      let k = q.placed in
      ap (λ (x : BeginFields). current_from s.next x t) k.passed.fields
      ∙ (λ i. record { serial = a_serial s.next; surface = h.surface; poc = k.poc i; lsb = (begin_fields r).lsb; msb = k.msb i; output = same_flags.output i; valid = same_flags.valid i })

  told_is : told_bytes (told_from s.next t) ≡ told_bytes (record { poc = poc s g; flags = flags_byte (begun_of s g); serial = a_serial s.next })
  told_is =
      let k = same_flags in
      λ i. told_bytes (record { poc = q.placed.poc i; flags = flag_at 0 (k.rasl i) + flag_at 1 (k.output i) + flag_at 2 (k.valid i) + flag_at 3 (k.prior i); serial = a_serial s.next })

  begun_bytes_lem : {us vs : List Serial} (x : Sizes) → HoldsSets us vs x (sets s g) → begun_part (told_from s.next t) x us vs ≡ begun_bytes (begun_of s g)
  unfolding begun_bytes
  begun_bytes_lem x k = λ i. told_is i ++ (k.before i ∷ k.after i ∷ k.foll i ∷ k.long i ∷ k.lt_foll i ∷ []) ++ members_are k i

  next_is : cond (eqb s.next 4294967295) 0 (s.next + 1) ≡ s.next + 1
  next_is = ap (λ (y : Bool). cond y 0 (s.next + 1)) q.placed.passed.roomy

-- ---- step 5 and the reply

pub tells : (h : List ℕ) (us vs : List Serial) (ps : List Picture) (p : List ℕ) (t : Start) (x : Sizes) {l : Limits} {b : Bool} {y : Told} {p' : List ℕ} {c : Store.Moved} {before : List ℕ} {len : ℕ} {after : List ℕ}
    → l ≡ limits_at h → b ≡ flag_of (word h ENDED) → y ≡ told_from (word h NEXT) t → Leaves (before_decoding (t.flags.over && not b) t.flags.prior l ps) p p' c
    → Says (framed (reply_to begin_kind) 0 (begun_part y x us vs ++ tail_bytes (tail_in c))) before len after → Tells h us vs ps p t x before len p' after
tells h us vs ps p t x {l} {b} {y} {p'} {c} {before} {len} {after} el eb ey k w =
    let m : before_decoding (t.flags.over && not b) t.flags.prior l ps ≡ before_decoding (t.flags.over && not (flag_of (word h ENDED))) t.flags.prior (limits_at h) ps =
    λ i. before_decoding (t.flags.over && not (eb i)) t.flags.prior (el i) ps
    in
    let e : tail_in c ≡ (before_decoding (t.flags.over && not (flag_of (word h ENDED))) t.flags.prior (limits_at h) ps).tail = tail_held k.tail ∙ ap (λ (z : Moved). z.tail) m in
    record {
      pics = k.pics ∙ ap (λ (z : Moved). z.pics) m;
      normal = k.normal;
      says = subst (λ (z : List ℕ). Says (framed (reply_to begin_kind) 0 z) before len after) (λ i. begun_part (ey i) x us vs ++ tail_bytes (e i)) w;
    }

-- ---- a begin that nothing refuses, from what its parts did: the marks and the sets, then the room and the reply, then
-- the words beside the store

module _ (m : Memory) (r : List ℕ) {l : Limits} (h : BeginFields) (t : Start) (ws : List Wish) (q : Wished (session_in m) r l h t ws)
    (y : Derived) (d : Derives (modulus l) (unmarked_if t.flags.over (stored m.store)) (wishes_within ws h.neg h.pos h.lt) y)
    {before : List ℕ} {len : ℕ} {p' after : List ℕ} (w : Tells m.front y.first y.second (stored_in y.store) m.store t y.sizes before len p' after)
    (xs : List ℕ) (n : length xs ≡ 16) (is : serials_in xs (y.sizes.before + y.sizes.after + y.sizes.long) ≡ members_of y.first (y.sizes.before + y.sizes.after + y.sizes.long))
    (behind : (i : ℕ) → y.sizes.before + y.sizes.after + y.sizes.long ≤ i → word xs i ≡ word m.sets i) where
  abbrev x : Sizes
  x = y.sizes

  abbrev s : Session
  s = session_in m

  abbrev fs : Fields
  fs = fields_with h.surface r

  derived : Derives (modulus (limits_at m.front)) (unmarked_if t.flags.over (stored m.store)) (wishes_in ws h.neg h.pos h.lt) y
  unfolding front_in
  derived =
      subst (λ (z : Limits). Derives (modulus z) (unmarked_if t.flags.over (stored m.store)) (wishes_in ws h.neg h.pos h.lt) y) q.placed.passed.limits
      (subst (λ (z : Wishes). Derives (modulus l) (unmarked_if t.flags.over (stored m.store)) z y) (within_room ws h.neg h.pos h.lt q.few) d)

  -- the pictures that step 4 marked
  marked_is : stored_in y.store ≡ marks_of (modulus (limits_at m.front)) (unmarked_if t.flags.over (stored m.store)) (wishes_in ws h.neg h.pos h.lt)
  marked_is = let k : min y.store.len 16 ≡ y.store.len = omega (arith, d.few) in ap (front y.store.places) k ∙ derived.pics

  room_made_lem : before_decoding (t.flags.over && not (flag_of (word m.front ENDED))) t.flags.prior (limits_at m.front) (stored_in y.store) ≡ room_made s fs
  unfolding front_in
  room_made_lem = room_is s r h t ws q (stored_in y.store) marked_is

  sets_held : HoldsSets y.first y.second x (sets s fs)
  unfolding front_in
  sets_held = subst (HoldsSets y.first y.second x) (sets_are s r h t ws q) derived.sets

  body_is : begun_part (told_from (word m.front NEXT) t) x y.first y.second ++ tail_bytes (before_decoding (t.flags.over && not (flag_of (word m.front ENDED))) t.flags.prior (limits_at m.front) (stored_in y.store)).tail
      ≡ begun_bytes (begun_of s fs) ++ tail_bytes (room_made s fs).tail
  unfolding front_in
  body_is = λ i. begun_bytes_lem s r h t ws q x sets_held i ++ tail_bytes (room_made_lem i).tail

  answers_are : Answers (begun s fs) before (accepts len) after
  unfolding bytes_of
  answers_are =
      record {
        answer = ap accepts w.says.long ∙ (λ i. accepts (length (framed (reply_to begin_kind) 0 (body_is i))));
        bytes = w.says.bytes ∙ (λ i. over (framed (reply_to begin_kind) 0 (body_is i)) before);
      }

  next_session : session_of (begun_front (front_in m.front) (current_from (word m.front NEXT) h t) (refs_from x) (cond (eqb (word m.front NEXT) 4294967295) 0 (word m.front NEXT + 1))) xs p' ≡ begun_session s fs
  unfolding front_in
  next_session =
      λ i.
      record {
        configured = s.configured;
        limits = s.limits;
        store = (w.pics ∙ ap (λ (z : Moved). z.pics) room_made_lem) i;
        current = Some (current_is s r h t ws q i);
        refs = refs_held xs n sets_held is i;
        prev = s.prev;
        at_start = false;
        ended = false;
        next = next_is s r h t ws q i;
      }

  -- the sizes of the sets, and how many members they have
  sizes_are : refs_from x ≡ sizes_of (begun_session s fs).refs
  sizes_are = λ i. record { before = sets_held.before i; after = sets_held.after i; long = sets_held.long i }

  members_are_all : length (all_refs (begun_session s fs).refs) ≡ x.before + x.after + x.long
  members_are_all = let b = sets_held.before in let c = sets_held.after in let l = sets_held.long in simp length-append (omega arith)

  pub begun_does : {h' : List ℕ} {c : Current} {z : Refs} {k : ℕ} → front_in h' ≡ begun_front (front_in m.front) c z k
      → ((f : Front) → m.front ≡ front_words f → h' ≡ front_words (begun_front f c z k)) → c ≡ current_from (word m.front NEXT) h t → z ≡ refs_from x
      → k ≡ cond (eqb (word m.front NEXT) 4294967295) 0 (word m.front NEXT + 1) → Tries (reply_to begin_kind) m (begin_of s fs) before (Ok len) (memory h' xs p') after
  unfolding front_in
  begun_does e wh ec ey ek =
      let n = ap (λ (f : Front). session_of f xs p') (e ∙ (λ i. begun_front (front_in m.front) (ec i) (ey i) (ek i))) ∙ next_session in
      gives_as (inside s r q.placed.passed q.within)
      (record {
        answers = answers_are;
        next = n;
        left = λ z. absurd (z refl);
        normal = λ z.
            record {
              front = wh (front_of s) z.front
                  ∙ (λ i. front_words (begun_front (front_of s) ((ec ∙ current_is s r h t ws q) i) ((ey ∙ sizes_are) i) ((ek ∙ next_is s r h t ws q) i))) ∙ ap Laid.front_words_of (sym n);
              store = w.normal z.store;
            };
        sets = λ i le. behind i (omega (arith, members_are_all));
      })

-- ---- the stages' own facts

pub fits_back : (z : ℤ) → in32 z ≡ true → to_z w32 (of_z w32 z) ≡ z
fits_back z e = to_z-of_z {w = w32} (record { sfits = ltb-true (mag z) (2 ^ 31) e })

-- the wishes that were read are the paper's, or one is outside as the paper's is
module _ (s : Session) (r : List ℕ) {l : Limits} (h : BeginFields) (t : Start) (p : Placed s r l h t) {b : Result (Unit {0}) Outside} {ws : List Wish}
    (k : HoldsWishes (wishes_of (modulus l) (to_z w32 (of_z w32 t.poc)) (fields_with h.surface r)) h.neg h.pos h.lt b ws) where
  asked_is : HoldsWishes (wishes s (fields_with h.surface r)) h.neg h.pos h.lt b ws
  asked_is =
      let z : to_z w32 (of_z w32 t.poc) ≡ poc s (fields_with h.surface r) = fits_back t.poc (right (in32 t.msb) (in32 t.poc) p.inside) ∙ p.poc in
      subst (λ (w : Wishes). HoldsWishes w h.neg h.pos h.lt b ws) (λ i. wishes_of (modulus (p.passed.limits i)) (z i) (fields_with h.surface r)) k

  within_is : within s (fields_with h.surface r) ≡ all_inside b
  unfolding within
  within_is =
      let m : (in32 (msb s (fields_with h.surface r)) && in32 (poc s (fields_with h.surface r))) ≡ true = sym (λ i. in32 (p.msb i) && in32 (p.poc i)) ∙ p.inside in
      rw m (sym asked_is.inside)

  pub wishes_outside : all_inside b ≡ false → within s (fields_with h.surface r) ≡ false
  wishes_outside n = within_is ∙ n

  pub wished : all_inside b ≡ true → Wished s r l h t ws
  wished n = record { placed = p; within = within_is ∙ n; few = few_of p; wishes = asked_is.items n }

-- what steps 1 and 2 read and computed
pub record Counted (s : Session) (h : BeginFields) (k : Flags) (x : Result Poc Outside) : Type 0 where
  pub flags : k ≡ flags_from s.at_start s.ended h
  pub poc : x ≡ poc_answer (modulus s.limits) (prev_from k.over s.prev) h.lsb

-- the POC that was derived is the paper's, or outside as the paper's is
module _ {s : Session} {r : List ℕ} {l : Limits} {h : BeginFields} {k : Flags} {x : Result Poc Outside} (w : Passed s r l h) (o : Counted s h k x) where
  answer_is : x ≡ poc_answer (modulus s.limits) (prev_now s h.surface r) (begin_fields r).lsb
  answer_is =
      let f : k ≡ flags_now s h.surface r = o.flags ∙ ap (flags_from s.at_start s.ended) w.fields in
      o.poc ∙ (λ i. poc_answer (modulus s.limits) (prev_from (f i).over s.prev) (w.fields i).lsb)

  pub no_poc : (e : Outside) → x ≡ Err e → within s (fields_with h.surface r) ≡ false
  no_poc o e = poc_outside s h.surface r (sym (λ i. in32 (msb_is s h.surface r i) && in32 (poc_is s h.surface r i)) ∙ poc_out (modulus s.limits) (prev_now s h.surface r) (begin_fields r).lsb (sym answer_is ∙ e))

  placed_at : (y : Poc) → x ≡ Ok y → Placed s r l h (record { flags = k; msb = y.msb; poc = y.poc })
  placed_at y e =
      let v = poc_val (modulus s.limits) (prev_now s h.surface r) (begin_fields r).lsb y (sym answer_is ∙ e) in
      record {
        passed = w;
        flags = o.flags;
        msb = v.0 ∙ msb_is s h.surface r;
        poc = v.1 ∙ poc_is s h.surface r;
        inside = (λ i. in32 (v.0 i) && in32 (v.1 i)) ∙ v.2;
      }

  -- as the code passes them on
  pub placed : (p : Poc) → x ≡ Ok p → Placed s r l h (record { flags = k; msb = to_z w32 (of_z w32 p.msb); poc = to_z w32 (of_z w32 p.poc) })
  placed p e =
      let v = placed_at p e in
      subst (λ (y : ℤ). Placed s r l h (record { flags = k; msb = y; poc = to_z w32 (of_z w32 p.poc) })) (sym (fits_back p.msb (left (in32 p.msb) (in32 p.poc) v.inside)))
      (subst (λ (y : ℤ). Placed s r l h (record { flags = k; msb = p.msb; poc = y })) (sym (fits_back p.poc (right (in32 p.msb) (in32 p.poc) v.inside))) v)
