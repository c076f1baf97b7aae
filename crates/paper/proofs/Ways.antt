-- The ways out of a decision: what holds of each holds of what is decided. Every theorem over the eight kinds is one
-- record of these fields.
use Prim.Native.Nat.{ℕ, ◌+◌, ◌≤◌, ◌<◌}
use mathlib.Core.Path.{◌≡◌, refl, sym}
use mathlib.Core.List.{List, [], ◌∷◌}
use mathlib.Core.Bool.{Bool, true, false, not, ◌&&◌}
use native.Mathlib.Omega.{arith}
use lib.Dec.{eqb, leb}
use lib.ListN.{length}
use borrow.Author.Tests.{eqb-true, eqb-false, leb-true}
use Rattle.paper.specs.declared.Current.{Current}
use Rattle.paper.specs.Words.{Test, ◌gives◌, first, any_b}
use Rattle.paper.specs.Numbers.{missing}
use Rattle.paper.specs.Kinds.{configure_kind, begin_kind, lists_kind, finish_kind, drain_kind, discard_kind, end_kind, abandon_kind, reply_to, malformed_reply}
use Rattle.paper.specs.Records.{Fields, Slice, kind_of, length_of, limits_of, fields_of, slice_of, body_ok, well_formed}
use Rattle.paper.specs.State.{Session, is_current, on_now, modulus}
use Rattle.paper.specs.Ranges.{configure_ranges, begin_ranges}
use Rattle.paper.specs.Output.{quiet}
use Rattle.paper.specs.Begin.{within, room_made, begun_session}
use Rattle.paper.specs.Begin as W
use Rattle.paper.specs.RefLists.{list0, list1}
use Rattle.paper.specs.Calls.{full, finished, drained_now, dropped, discarded, finished_session, drained_session, configured_session, discarded_session, abandoned_session, ended_session}
use Rattle.paper.specs.Replies.{Reply}
use Rattle.paper.specs.Step.{Decided, refused, accepted, unless, configure_refusal, configure_of, held_by, begin_refusal, begun_of, begin_of, lists_refusal, lists_at, lists_of, finish_at, finish_of, drain_of, discard_of, end_of, abandon_of, by_kind, decide_of}
use Rattle.paper.proofs.Bools.{left, right, split, by_case}
use Rattle.paper.proofs.Every.{All}
use Rattle.std.proofs.Common.{Option, None, Some}

-- the first test of an order that gives 0 fails, and the others give 0
pub first_none : (b : Bool) (n : ℕ) (ts : List Test) → (n ≡ 0 → ⊥) → first (b gives n ∷ ts) ≡ 0 → (b ≡ false) × (first ts ≡ 0)
unfolding first
first_none true n ts h e = absurd (h e)
first_none false n ts h e = (refl, e)

-- an order of numbers below 13 gives one below 13
first_below : (ts : List Test) → All (λ (t : Test). t.number < 13) ts → first ts < 13
unfolding first
first_below [] a = omega arith
first_below (t ∷ ts) a = split t.holds (λ p. rw p a.0) (λ p. rw p (first_below ts a.1))

pub yes_of : (b : Bool) → not b ≡ false → b ≡ true
yes_of true e = refl
yes_of false e = sym e

-- what an accepted begin has passed
pub record Accepted (s : Session) (f : Fields) : Type 0 where
  pub configured : not s.configured ≡ false
  pub idle : is_current s.current ≡ false
  pub ranges : begin_ranges (modulus s.limits) f ≡ true
  pub roomy : eqb s.next missing.0 ≡ false
  pub free : any_b (held_by f.surface) s.store ≡ false
  pub within : within s f ≡ true

pub begin_tests : (s : Session) (f : Fields) → begin_refusal s f ≡ 0 → Accepted s f
unfolding begin_refusal
begin_tests s f z =
    let t1 = first_none (not s.configured) 1 _ (λ e. omega arith) z in
    let t2 = first_none (is_current s.current) 3 _ (λ e. omega arith) t1.1 in
    let t3 = first_none (not (begin_ranges (modulus s.limits) f)) 5 _ (λ e. omega arith) t2.1 in
    let t4 = first_none (eqb s.next missing.0) 8 _ (λ e. omega arith) t3.1 in
    let t5 = first_none (any_b (held_by f.surface) s.store) 7 _ (λ e. omega arith) t4.1 in
    let t6 = first_none (not (W.within s f)) 6 _ (λ e. omega arith) t5.1 in
    record { configured = t1.0; idle = t2.0; ranges = yes_of _ t3.0; roomy = t4.0; free = t5.0; within = yes_of _ t6.0 }

-- what is decided of an accepted begin and of accepted lists
abbrev pub begun : Session → Fields → Decided
begun s f = record { number = 0; reply = Reply.Started (begun_of s f) (room_made s f).tail; next = begun_session s f }

abbrev pub listed : Session → Slice → Current → Decided
listed s f c = record { number = 0; reply = Reply.Listed (list0 s.refs c.serial f) (list1 s.refs c.serial f); next = s }

pub record Ways (s : Session) (r : List ℕ) (Q : Decided → Type 0) : Type 0 where
  pub malformed : Q (refused s malformed_reply 13)
  pub no : (kind n : ℕ) → kind_of r ≡ kind → 0 < kind → kind ≤ abandon_kind → 0 < n → n < 13 → Q (refused s (reply_to kind) n)
  pub configure : kind_of r ≡ configure_kind → configure_ranges (limits_of r) ≡ true → (is_current s.current && full s) ≡ false → Q (accepted (configured_session s (limits_of r)) configure_kind (drained_now s).tail)
  pub begin : kind_of r ≡ begin_kind → Accepted s (fields_of r) → Q (begun s (fields_of r))
  pub lists : kind_of r ≡ lists_kind → (c : Current) → s.current ≡ Some c → lists_refusal s c (slice_of r) ≡ 0 → Q (listed s (slice_of r) c)
  pub finish : kind_of r ≡ finish_kind → (c : Current) → s.current ≡ Some c → full s ≡ false → Q (accepted (finished_session s c) finish_kind (finished s.limits s.store c).tail)
  pub drain : kind_of r ≡ drain_kind → (is_current s.current && full s) ≡ false → Q (accepted (drained_session s) drain_kind (drained_now s).tail)
  pub discard : kind_of r ≡ discard_kind → Q (accepted (discarded_session s) discard_kind (discarded s.store s.current).tail)
  pub end : kind_of r ≡ end_kind → Q (accepted (ended_session s) end_kind quiet)
  pub abandon : kind_of r ≡ abandon_kind → (c : Current) → s.current ≡ Some c → Q (accepted (abandoned_session s) abandon_kind (dropped c))

module _ (s : Session) (r : List ℕ) (Q : Decided → Type 0) (w : Ways s r Q) where
  or_no : (kind n : ℕ) (d : Decided) → kind_of r ≡ kind → 0 < kind → kind ≤ abandon_kind → n < 13 → (n ≡ 0 → Q d) → Q (unless s kind n d)
  or_no kind n d k g b h q = by_case Q (eqb n 0) d _ (λ e. q (eqb-true n 0 e)) (λ e. let z = eqb-false n 0 e in w.no kind n k g b (omega arith) h)

  way_configure : kind_of r ≡ configure_kind → Q (configure_of s (limits_of r))
  unfolding configure_of configure_refusal
  way_configure k =
      or_no 1 (first (not (configure_ranges (limits_of r)) gives 2 ∷ (is_current s.current && full s) gives 9 ∷ [])) _ k (omega arith) (omega arith) (first_below _ (omega arith, (omega arith, tt)))
      (λ z.
      let t1 = first_none (not (configure_ranges (limits_of r))) 2 _ (λ e. omega arith) z in
      let t2 = first_none (is_current s.current && full s) 9 [] (λ e. omega arith) t1.1 in
      w.configure k (yes_of _ t1.0) t2.0)

  begin_below : begin_refusal s (fields_of r) < 13
  unfolding begin_refusal
  begin_below = first_below _ (omega arith, (omega arith, (omega arith, (omega arith, (omega arith, (omega arith, tt))))))

  way_begin : kind_of r ≡ begin_kind → Q (begin_of s (fields_of r))
  unfolding begin_of
  way_begin k = or_no 2 (begin_refusal s (fields_of r)) _ k (omega arith) (omega arith) begin_below (λ z. w.begin k (begin_tests s (fields_of r) z))

  lists_below : (c : Current) → lists_refusal s c (slice_of r) < 13
  unfolding lists_refusal
  lists_below c = first_below _ (omega arith, (omega arith, (omega arith, (omega arith, (omega arith, (omega arith, tt))))))

  way_lists : kind_of r ≡ lists_kind → Q (lists_of s (slice_of r))
  unfolding lists_of
  way_lists k = go s.current refl
    where
      go : (x : Option Current) → s.current ≡ x → Q (on_now x (refused s (reply_to lists_kind) 4) (lists_at s (slice_of r)))
      go None e = w.no 3 4 k (omega arith) (omega arith) (omega arith) (omega arith)
      go (Some c) e = or_no 3 (lists_refusal s c (slice_of r)) _ k (omega arith) (omega arith) (lists_below c) (w.lists k c e)

  way_finish : kind_of r ≡ finish_kind → Q (finish_of s)
  unfolding finish_of
  way_finish k = go s.current refl
    where
      go : (x : Option Current) → s.current ≡ x → Q (on_now x (refused s (reply_to finish_kind) 4) (finish_at s))
      go None e = w.no 4 4 k (omega arith) (omega arith) (omega arith) (omega arith)
      go (Some c) e =
          or_no 4 (first (full s gives 9 ∷ [])) _ k (omega arith) (omega arith) (first_below (full s gives 9 ∷ []) (omega arith, tt))
          (λ z. w.finish k c e (first_none (full s) 9 [] (λ f. omega arith) z).0)

  way_drain : kind_of r ≡ drain_kind → Q (drain_of s)
  unfolding drain_of
  way_drain k =
      or_no 5 (first ((is_current s.current && full s) gives 9 ∷ [])) _ k (omega arith) (omega arith) (first_below ((is_current s.current && full s) gives 9 ∷ []) (omega arith, tt))
      (λ z. w.drain k (first_none (is_current s.current && full s) 9 [] (λ f. omega arith) z).0)

  way_abandon : kind_of r ≡ abandon_kind → Q (abandon_of s)
  unfolding abandon_of
  way_abandon k = go s.current refl
    where
      go : (x : Option Current) → s.current ≡ x → Q (on_now x (refused s (reply_to abandon_kind) 4) (λ (c : Current). accepted (abandoned_session s) abandon_kind (dropped c)))
      go None e = w.no 8 4 k (omega arith) (omega arith) (omega arith) (omega arith)
      go (Some c) e = w.abandon k c e

  -- a well-formed record of no kind from 1 to 7 is an abandon
  last_kind : well_formed r ≡ true → eqb (kind_of r) configure_kind ≡ false → eqb (kind_of r) begin_kind ≡ false → eqb (kind_of r) lists_kind ≡ false → eqb (kind_of r) finish_kind ≡ false → eqb (kind_of r) drain_kind ≡ false → eqb (kind_of r) discard_kind ≡ false → eqb (kind_of r) end_kind ≡ false → kind_of r ≡ abandon_kind
  unfolding well_formed
  last_kind h e1 e2 e3 e4 e5 e6 e7 =
      let b : body_ok r ≡ true = right (leb 4 (length r) && eqb (length r) (4 + length_of r) && leb (length_of r) 512) _ h in
      let c : (leb finish_kind (kind_of r) && leb (kind_of r) abandon_kind && eqb (length_of r) 0) ≡ true = rw (e1, e2, e3) at b in
      let d : (leb finish_kind (kind_of r) && leb (kind_of r) abandon_kind) ≡ true = left (leb finish_kind (kind_of r) && leb (kind_of r) abandon_kind) _ c in
      omega
      (arith, leb-true finish_kind (kind_of r) (left (leb finish_kind (kind_of r)) _ d), leb-true (kind_of r) abandon_kind (right (leb finish_kind (kind_of r)) _ d), eqb-false (kind_of r) finish_kind e4, eqb-false (kind_of r) drain_kind e5, eqb-false (kind_of r) discard_kind e6, eqb-false (kind_of r) end_kind e7)

  pub by_ways : Q (decide_of s r)
  unfolding decide_of by_kind discard_of end_of
  by_ways =
      by_case Q (well_formed r) _ _
      (λ h.
      by_case Q (eqb (kind_of r) configure_kind) _ _ (λ e. way_configure (eqb-true _ _ e)) (λ e1.
      by_case Q (eqb (kind_of r) begin_kind) _ _ (λ e. way_begin (eqb-true _ _ e)) (λ e2.
      by_case Q (eqb (kind_of r) lists_kind) _ _ (λ e. way_lists (eqb-true _ _ e)) (λ e3.
      by_case Q (eqb (kind_of r) finish_kind) _ _ (λ e. way_finish (eqb-true _ _ e)) (λ e4.
      by_case Q (eqb (kind_of r) drain_kind) _ _ (λ e. way_drain (eqb-true _ _ e)) (λ e5.
      by_case Q (eqb (kind_of r) discard_kind) _ _ (λ e. w.discard (eqb-true _ _ e)) (λ e6.
      by_case Q (eqb (kind_of r) end_kind) _ _ (λ e. w.end (eqb-true _ _ e)) (λ e7.
      way_abandon (last_kind h e1 e2 e3 e4 e5 e6 e7)))))))))
      (λ _. w.malformed)
