-- No reply is longer than 512 bytes and no store longer than 16, from any session of at most 16 stored pictures: a tail
-- holds what the store held.
use Prim.Native.Nat.{ℕ, zero, suc, ◌+◌, ◌-◌, ◌%◌, ◌≤◌, ◌<◌, zero-le, min}
use mathlib.Core.Path.{◌≡◌, refl, ap, ◌∙◌}
use mathlib.Core.List.{List, [], ◌∷◌, ◌++◌, map}
use mathlib.Core.Bool.{Bool, true, false, cond, not, ◌&&◌, ◌||◌}
use native.Mathlib.Omega.{arith}
use lib.Dec.{eqb, ltb, leb}
use lib.IntN.{ℤ}
use lib.ListN.{length, get_or, length-append, length-map, length-set}
use borrow.Author.Tests.{eqb-true, leb-true, leb-false}
use Rattle.paper.specs.declared.Serial.{Serial}
use Rattle.paper.specs.declared.Limits.{Limits}
use Rattle.paper.specs.declared.Picture.{Picture}
use Rattle.paper.specs.declared.Current.{Current}
use Rattle.paper.specs.Words.{keep, all_b, table}
use Rattle.paper.specs.Numbers.{u8, bit, bytes32, missing, serial_nos}
use Rattle.paper.specs.Kinds.{reply_to, malformed_reply}
use Rattle.paper.specs.Records.{Fields, ListAsk, Slice, entries0, entries1, fields_of, slice_of}
use Rattle.paper.specs.State.{Session, is_current, on_now, modulus}
use Rattle.paper.specs.Nal.{taken, irap, idr}
use Rattle.paper.specs.Ranges.{long_ok, entries_of, falling, rising, begin_ranges, active_ok, lists_ranges}
use Rattle.paper.specs.Sets.{Wishes, wishes_of, used_by, in_order, sets_of, short_set, long_set}
use Rattle.paper.specs.Output.{Tail, quiet, joined, still, and_then, cleared, emptied, due}
use Rattle.paper.specs.Begin.{wishes, unmarked_store, sets, marked_store, room_made, poc}
use Rattle.paper.specs.RefLists.{candidates0, candidates1, placed, last_is_own, list0, list1}
use Rattle.paper.specs.Calls.{raised, stored, full, finished, drained, drained_now, dropped, discarded}
use Rattle.paper.specs.Replies.{words, tail_bytes, begun_bytes, bytes_of}
use Rattle.paper.specs.Step.{Decided, refused, accepted, lists_refusal, decide_of}
use Rattle.paper.proofs.Bools.{left, right, split, not_both, by_case}
use Rattle.paper.proofs.Quiet.{few_wait, emptied_leaves}
use Rattle.paper.proofs.Sizes.{Shrinks, shrinks_then, shrinks_still, shrinks_while, shrinks_cleared, shrinks_emptied, shrinks_room, marked_length, tail_length, tail_fits, words_length}
use Rattle.paper.proofs.Ways.{first_none, yes_of, Accepted, begun, listed, by_ways}
use Rattle.std.proofs.Common.{Option, None, Some}

pub record Fits (d : Decided) : Type 0 where
  pub room : length d.next.store ≤ 16
  pub bytes : length (bytes_of d.reply) ≤ 512

pub finish_shrinks : (l : Limits) (ps : List Picture) (c : Current) → Shrinks (map raised ps ++ (stored c ∷ [])) (finished l ps c)
unfolding finished
finish_shrinks l ps c = shrinks_while (due false l) (map raised ps ++ (stored c ∷ []))

pub one_more : (ps : List Picture) (c : Current) → length (map raised ps ++ (stored c ∷ [])) ≡ length ps + 1
one_more ps c = length-append (map raised ps) (stored c ∷ []) ∙ ap (λ (n : ℕ). n + 1) (length-map ps raised)

-- the sets together have as many members as the record has entries
parts : {A : Type 0} (f : A → Bool) (xs : List A) → length (keep f xs) + length (keep (λ (x : A). not (f x)) xs) ≡ length xs
unfolding keep
parts f [] = refl
parts f (x ∷ xs) = let k = parts f xs in split (f x) (λ e. rw e (omega arith)) (λ e. rw e (omega arith))

sets_length : (M : ℕ) (ps : List Picture) (w : Wishes) → length (in_order (sets_of M ps w)) ≡ length w.neg + length w.pos + length w.lt
unfolding sets_of short_set long_set
sets_length M ps w = simp (length-append, length-map) (omega (arith, parts used_by w.neg, parts used_by w.pos, parts used_by w.lt))

wishes_length : (M : ℕ) (p : ℤ) (f : Fields) → length (wishes_of M p f).neg + length (wishes_of M p f).pos + length (wishes_of M p f).lt ≡ entries_of f
unfolding wishes_of
wishes_length M p f = simp length-map

seventh : (x g h i j : Bool) → (x && g && h && i && j) ≡ true → g ≡ true
seventh true true h i j e = refl
seventh true false h i j e = e
seventh false g h i j e = not_both false e refl

pub few_entries : (M : ℕ) (f : Fields) → begin_ranges M f ≡ true → entries_of f ≤ 16
unfolding begin_ranges
few_entries M f e =
    leb-true (entries_of f) 16
    (seventh
    (taken f.nal && leb f.tid 6 && (not (irap f.nal) || eqb f.tid 0) && ltb f.flags 4 && ltb f.lsb M && all_b (long_ok M) f.lt)
    (leb (entries_of f) 16) (falling (ℤ.pos 0) f.neg) (rising (ℤ.pos 0) f.pos) (not (idr f.nal) || (eqb f.lsb 0 && eqb (entries_of f) 0)) e)

pub few_members : (s : Session) (f : Fields) → Accepted s f → length (in_order (sets s f)) ≤ 16
few_members s f a =
    omega (arith, sets_length (modulus s.limits) (unmarked_store s f) (wishes s f), wishes_length (modulus s.limits) (poc s f) f, few_entries (modulus s.limits) f a.ranges)

-- lists
active_small : (a : ListAsk) → active_ok a ≡ true → a.active ≤ 16
active_small a = go a.uses
  where
    go : (u : Bool) → cond u (leb 1 a.active && leb a.active 16) (eqb a.active 0 && not a.modify) ≡ true → a.active ≤ 16
    go true e = leb-true a.active 16 (right (leb 1 a.active) _ e)
    go false e = let z : a.active ≡ 0 = eqb-true a.active 0 (left (eqb a.active 0) _ e) in omega arith

pub table_length : {A : Type 0} (f : ℕ → A) (n : ℕ) → length (table f n) ≡ n
unfolding table
table_length f zero = refl
table_length f (suc n) = omega (arith, length-append (table f n) (f n ∷ []), table_length f n)

chosen : (b : Bool) (n m : ℕ) → n ≤ m → cond b n 0 ≤ m
chosen true n m h = h
chosen false n m h = zero-le

-- a list is as long as its active count or its entries
module _ (cs : List Serial) (a : ListAsk) (h : a.active ≤ 16) (k : length a.entries ≤ 16) where
  placed_short : length (placed cs a) ≤ 16
  placed_short =
      by_case (λ (l : List Serial). length l ≤ 16) a.modify _ _ (λ _. omega (arith, length-map a.entries (λ (n : ℕ). get_or cs n missing)))
      (λ _. omega (arith, table_length (λ (j : ℕ). get_or cs (j % length cs) missing) a.active))

module _ (s : Session) (r : List ℕ) (c : Current) (z : lists_refusal s c (slice_of r) ≡ 0) where
  abbrev f : Slice
  f = slice_of r

  in_range : lists_ranges f ≡ true
  unfolding lists_refusal
  in_range = yes_of (lists_ranges f) (first_none (not (lists_ranges f)) 5 _ (λ k. omega arith) z).0

  small0 : f.ask0.active ≤ 16
  unfolding lists_ranges
  small0 = active_small f.ask0 (right (leb f.slice_type 2 && ltb f.flags 8) _ (left (leb f.slice_type 2 && ltb f.flags 8 && active_ok f.ask0) _ in_range))

  small1 : f.ask1.active ≤ 16
  unfolding lists_ranges
  small1 = active_small f.ask1 (right (leb f.slice_type 2 && ltb f.flags 8 && active_ok f.ask0) _ in_range)

  short0 : length f.ask0.entries ≤ 16
  unfolding slice_of
  short0 = omega (arith, table_length (λ (i : ℕ). u8 r (8 + i)) (entries0 r), chosen (bit 0 (u8 r 5)) (u8 r 6) 16 small0)

  short1 : length f.ask1.entries ≤ 16
  unfolding slice_of
  short1 = omega (arith, table_length (λ (i : ℕ). u8 r (8 + entries0 r + i)) (entries1 r), chosen (bit 1 (u8 r 5)) (u8 r 7) 16 small1)

  pub list0_short : length (list0 s.refs c.serial f) ≤ 16
  unfolding list0
  list0_short =
      let cs = candidates0 s.refs f.own c.serial in
      let k = placed_short cs f.ask0 small0 short0 in
      by_case (λ (l : List Serial). length l ≤ 16) f.ask0.uses _ _
      (λ _. by_case (λ (l : List Serial). length l ≤ 16) (last_is_own f cs) _ _ (λ _. omega (arith, length-set (placed cs f.ask0) (f.ask0.active - 1) c.serial)) (λ _. k))
      (λ _. zero-le)

  pub list1_short : length (list1 s.refs c.serial f) ≤ 16
  unfolding list1
  list1_short =
      by_case (λ (l : List Serial). length l ≤ 16) f.ask1.uses _ _ (λ _. placed_short (candidates1 s.refs f.own c.serial) f.ask1 small1 short1) (λ _. zero-le)

-- not full, and so with room for one more
pub spare : (s : Session) → full s ≡ false → length s.store < 16
spare s e = let h = leb-false (min s.limits.capacity 16) (length s.store) e in omega arith

module _ (s : Session) (r : List ℕ) (i : length s.store ≤ 16) where
  -- an accepted record with a tail
  tailed : (t : Session) (kind : ℕ) (x : Tail) → length t.store ≤ 16 → length (tail_bytes x) ≤ 400 → Fits (accepted t kind x)
  unfolding bytes_of
  tailed t kind x z h = record { room = z; bytes = omega (arith, h) }

  fit_no : (kind n : ℕ) → Fits (refused s kind n)
  unfolding bytes_of
  fit_no kind n = record { room = i; bytes = omega arith }

  finish_short : (c : Current) → full s ≡ false → (length (finished s.limits s.store c).pics ≤ 16) × (length (tail_bytes (finished s.limits s.store c).tail) ≤ 400)
  finish_short c e =
      let k = finish_shrinks s.limits s.store c in (
        omega (arith, k.frees, one_more s.store c, spare s e),
        omega (arith, tail_fits (map raised s.store ++ (stored c ∷ [])) (finished s.limits s.store c) k, one_more s.store c, spare s e),
      )

  -- drained: from at most 16 pictures, the current one among them
  drained_short : (is_current s.current && full s) ≡ false → length (tail_bytes (drained_now s).tail) ≤ 400
  unfolding drained
  drained_short e = go s.current e
    where
      go : (x : Option Current) → (is_current x && full s) ≡ false → length (tail_bytes (and_then (on_now x (still s.store) (finished s.limits s.store)) emptied).tail) ≤ 400
      go None f =
          omega (arith, tail_fits s.store (and_then (still s.store) emptied) (shrinks_then s.store (still s.store) emptied (shrinks_still s.store) (shrinks_emptied s.store)))
      go (Some c) f =
          let ps = map raised s.store ++ (stored c ∷ []) in
          let m = finished s.limits s.store c in
          omega (arith, tail_fits ps (and_then m emptied) (shrinks_then ps m emptied (finish_shrinks s.limits s.store c) (shrinks_emptied m.pics)), one_more s.store c, spare s f)

  drained_none : length (drained_now s).pics ≤ 16
  unfolding drained
  drained_none = let z = ap (λ (l : List Picture). length l) (emptied_leaves (on_now s.current (still s.store) (finished s.limits s.store)).pics) in omega arith

  dropped_short : (c : Current) → length (dropped c).thrown ≤ 1
  dropped_short c = by_case (λ (l : List Serial). length l ≤ 1) c.output (c.serial ∷ []) [] (λ _. omega arith) (λ _. omega arith)

  discarded_short : length (tail_bytes (discarded s.store s.current).tail) ≤ 400
  unfolding discarded
  discarded_short = go s.current
    where
      go : (x : Option Current) → length (tail_bytes (joined (on_now x quiet dropped) (cleared s.store).tail)) ≤ 400
      go None = omega (arith, tail_fits s.store (cleared s.store) (shrinks_cleared s.store))
      go (Some c) =
          let k = shrinks_cleared s.store in
          let t = (cleared s.store).tail in
          omega (arith, tail_length (joined (dropped c) t), k.shows, k.frees, few_wait s.store, length-append (dropped c).thrown t.thrown, dropped_short c)

  fit_begin : Accepted s (fields_of r) → Fits (begun s (fields_of r))
  unfolding bytes_of begun_bytes bytes32
  fit_begin z =
      let f = fields_of r in
      let k = shrinks_room s f in
      let ns = serial_nos (in_order (sets s f)) in
      record {
        room = omega (arith, k.frees, marked_length s f);
        bytes = omega (arith, length-append (words ns) (tail_bytes (room_made s f).tail), words_length ns, length-map (in_order (sets s f)) (λ (n : Serial). n.0), few_members s f z, tail_fits (marked_store s f) (room_made s f) k, marked_length s f);
      }

  fit_lists : (c : Current) → lists_refusal s c (slice_of r) ≡ 0 → Fits (listed s (slice_of r) c)
  unfolding bytes_of
  fit_lists c z =
      let l0 = list0 s.refs c.serial (slice_of r) in
      let l1 = list1 s.refs c.serial (slice_of r) in
      record {
        room = i;
        bytes = omega (arith, words_length (serial_nos (l0 ++ l1)), length-map (l0 ++ l1) (λ (n : Serial). n.0), length-append l0 l1, list0_short s r c z, list1_short s r c z);
      }

  pub fit_decide : Fits (decide_of s r)
  unfolding discarded
  fit_decide =
      by_ways s r Fits
      (record {
        malformed = fit_no malformed_reply 13;
        no = λ kind n k g b l h. fit_no (reply_to kind) n;
        configure = λ k a b. tailed _ 1 _ drained_none (drained_short b);
        begin = λ k z. fit_begin z;
        lists = λ k c e z. fit_lists c z;
        finish = λ k c e z. let f = finish_short c z in tailed _ 4 _ f.0 f.1;
        drain = λ k a. tailed _ 5 _ drained_none (drained_short a);
        discard = λ k. tailed _ 6 _ zero-le discarded_short;
        end = λ k. tailed _ 7 quiet i (omega (arith, tail_length quiet));
        abandon = λ k c e. tailed _ 8 (dropped c) i (omega (arith, tail_length (dropped c), dropped_short c));
      })
