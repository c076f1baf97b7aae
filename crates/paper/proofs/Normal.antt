-- Stored ≤ capacity ≤ 16 and k ≤ 16 in every session from fresh, and no count past 2,147,483,647: such a session is its
-- own normal form.
use Prim.Native.Nat.{ℕ, ◌+◌, ◌≤◌, min, zero-le}
use mathlib.Core.Path.{◌≡◌, refl}
use mathlib.Core.List.{List, [], ◌∷◌, ◌++◌, map}
use mathlib.Core.Bool.{Bool, true, false, not, ◌&&◌}
use native.Mathlib.Omega.{arith}
use native.Mathlib.Nat.{min-eq_left}
use lib.Dec.{ltb, leb}
use lib.ListN.{length, take}
use lib.Seq.{take_all}
use borrow.Author.Tests.{ltb-true, leb-true, leb-false}
use Rattle.paper.specs.declared.Limits.{Limits}
use Rattle.paper.specs.declared.Picture.{Picture}
use Rattle.paper.specs.declared.Current.{Current}
use Rattle.paper.specs.Records.{Fields, limits_of, fields_of}
use Rattle.paper.specs.State.{Session, fresh, on_now, count_limit, counted, normal}
use Rattle.paper.specs.Ranges.{configure_ranges}
use Rattle.paper.specs.Output.{due, still}
use Rattle.paper.specs.Begin.{starts_over, no_prior_pics, marked_store, room_made, begun_session}
use Rattle.paper.specs.Calls.{raised, stored, full, finished, drained, drained_now, discarded}
use Rattle.paper.specs.Step.{Decided, decide_of, step_of, session_after}
use Rattle.paper.proofs.Bools.{not_both, by_case}
use Rattle.paper.proofs.Every.{All, all_map, all_append}
use Rattle.paper.proofs.Lasts.{all_while, all_before, by_begin}
use Rattle.paper.proofs.Quiet.{emptied_leaves}
use Rattle.paper.proofs.Sizes.{shrinks_room, marked_length}
use Rattle.paper.proofs.Fits.{finish_shrinks, one_more}
use Rattle.paper.proofs.Ways.{by_ways}

abbrev pub Counts : Picture → Type 0
Counts p = p.count ≤ 2147483647

pub record Bounded (s : Session) : Type 0 where
  pub bits : s.limits.k ≤ 16
  pub most : s.limits.capacity ≤ 16
  pub room : length s.store ≤ s.limits.capacity
  pub counts : All Counts s.store

record Stays (d : Decided) : Type 0 where
  bounded : Bounded d.next

raised_counts : (p : Picture) → Counts p → Counts (raised p)
raised_counts p h = by_case (λ (n : ℕ). n ≤ 2147483647) (ltb p.count count_limit) (p.count + 1) count_limit (λ e. let z = ltb-true p.count 2147483647 e in omega arith) (λ _. omega arith)

finished_counts : (l : Limits) (ps : List Picture) (c : Current) → All Counts ps → All Counts (finished l ps c).pics
unfolding finished
finished_counts l ps c a =
    all_while Counts (λ p h. h) (due false l) (map raised ps ++ (stored c ∷ [])) (all_append Counts (map raised ps) (stored c ∷ []) (all_map Counts Counts raised raised_counts ps a) (zero-le, tt))

pub in_range : (l : Limits) → configure_ranges l ≡ true → l.k ≤ 16
unfolding configure_ranges
in_range l e = leb-true l.k 16 (second (leb 4 l.k) (leb l.k 16) _ _ _ _ e)
  where
    second : (a b c d e f : Bool) → (a && b && c && d && e && f) ≡ true → b ≡ true
    second true true c d e f h = refl
    second true false c d e f h = h
    second false b c d e f h = not_both false h refl

module _ (s : Session) (r : List ℕ) (i : Bounded s) where
  drained_empty : (drained_now s).pics ≡ []
  unfolding drained
  drained_empty = emptied_leaves (on_now s.current (still s.store) (finished s.limits s.store)).pics

  not_full : full s ≡ false → length s.store + 1 ≤ s.limits.capacity
  not_full e = let h = leb-false (min s.limits.capacity 16) (length s.store) e in omega (arith, i.most)

  stays_begun : (f : Fields) → Bounded (begun_session s f)
  unfolding room_made
  stays_begun f =
      record {
        bits = i.bits;
        most = i.most;
        room = omega (arith, (shrinks_room s f).frees, marked_length s f, i.room);
        counts =
            all_before Counts (λ p h. h) (starts_over s f && not s.ended) (no_prior_pics s f) s.limits (marked_store s f)
            (by_begin (All Counts) (λ g ps h a. all_map Counts Counts g (λ p o. rw (h p).1 o) ps a) s f i.counts);
      }

  pub stays : Bounded (decide_of s r).next
  unfolding discarded
  stays =
      (by_ways s r Stays
      (record {
        malformed = record { bounded = i };
        no = λ kind n k g b l h. record { bounded = i };
        configure = λ k a b. record { bounded = record { bits = omega (arith, in_range (limits_of r) a); most = omega arith; room = rw drained_empty zero-le; counts = rw drained_empty tt } };
        begin = λ k z. record { bounded = stays_begun (fields_of r) };
        lists = λ k c e z. record { bounded = i };
        finish = λ k c e z.
            record {
              bounded =
                  record {
                    bits = i.bits;
                    most = i.most;
                    room = omega (arith, (finish_shrinks s.limits s.store c).frees, one_more s.store c, not_full z);
                    counts = finished_counts s.limits s.store c i.counts;
                  };
            };
        drain = λ k a. record { bounded = record { bits = i.bits; most = i.most; room = rw drained_empty zero-le; counts = rw drained_empty tt } };
        discard = λ k. record { bounded = record { bits = i.bits; most = i.most; room = zero-le; counts = tt } };
        end = λ k. record { bounded = record { bits = i.bits; most = i.most; room = i.room; counts = i.counts } };
        abandon = λ k c e. record { bounded = record { bits = i.bits; most = i.most; room = i.room; counts = i.counts } };
      })).bounded

-- in every session from fresh
always_bounded : (s : Session) (rs : List (List ℕ)) → Bounded s → Bounded (session_after s rs)
unfolding session_after step_of
always_bounded s [] i = i
always_bounded s (r ∷ rs) i = always_bounded (decide_of s r).next rs (stays s r i)

pub bounded_after : (rs : List (List ℕ)) → Bounded (session_after fresh rs)
bounded_after rs = always_bounded fresh rs (record { bits = zero-le; most = zero-le; room = zero-le; counts = tt })

-- and such a session is its own normal form
own_counted : (ps : List Picture) → All Counts ps → map counted ps ≡ ps
own_counted [] a = refl
own_counted (p ∷ ps) a = rw (min-eq_left a.0, own_counted ps a.1)

pub own_normal : (s : Session) → Bounded s → normal s ≡ s
own_normal s i =
    let k : min s.limits.k 16 ≡ s.limits.k = min-eq_left i.bits in
    let c : min s.limits.capacity 16 ≡ s.limits.capacity = min-eq_left i.most in
    let t : take 16 s.store ≡ s.store = take_all 16 s.store (omega (arith, i.most, i.room)) in
    rw (k, c, t, own_counted s.store i.counts)

pub reached_normal : (rs : List (List ℕ)) → normal (session_after fresh rs) ≡ session_after fresh rs
reached_normal rs = own_normal (session_after fresh rs) (bounded_after rs)
