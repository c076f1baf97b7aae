-- Which way each call goes, from its tests: the paper's decision at each of the code's exits.
use Prim.Native.Nat.{ℕ}
use mathlib.Core.Path.{◌≡◌, refl, sym, ap, ◌∙◌}
use mathlib.Core.List.{List, [], ◌∷◌}
use mathlib.Core.Bool.{Bool, true, false, not, ◌&&◌}
use lib.Dec.{eqb}
use Rattle.paper.specs.declared.Current.{Current}
use Rattle.paper.specs.declared.Limits.{Limits}
use Rattle.paper.specs.Words.{Test, ◌gives◌, first, any_b}
use Rattle.paper.specs.Numbers.{missing}
use Rattle.paper.specs.Kinds.{configure_kind, begin_kind, finish_kind, drain_kind, discard_kind, end_kind, abandon_kind, reply_to}
use Rattle.paper.specs.Records.{Fields}
use Rattle.paper.specs.State.{Session, is_current, on_now, modulus}
use Rattle.paper.specs.Ranges.{configure_ranges, begin_ranges}
use Rattle.paper.specs.Output.{quiet}
use Rattle.paper.specs.Begin.{within}
use Rattle.paper.specs.Calls.{full, finished, drained_now, discarded, dropped, finished_session, drained_session, configured_session, discarded_session, abandoned_session, ended_session}
use Rattle.paper.specs.Step.{Decided, refused, accepted, unless, configure_refusal, configure_of, held_by, begin_refusal, begin_of, finish_at, finish_of, drain_of, discard_of, end_of, abandon_of}
use Rattle.paper.proofs.Ways.{begun}
use Rattle.std.proofs.Common.{Option, None, Some}

-- ---- an order of refusals, one test at a time

pub first_yes : (b : Bool) (n : ℕ) (ts : List Test) → b ≡ true → first (b gives n ∷ ts) ≡ n
unfolding first
first_yes b n ts e = rw e

pub first_no : (b : Bool) (n : ℕ) (ts : List Test) → b ≡ false → first (b gives n ∷ ts) ≡ first ts
unfolding first
first_no b n ts e = rw e

pub first_end : first [] ≡ 0
unfolding first
first_end = refl

module _ (v : Session) where
  -- refused with the first number that the order gives, or not refused
  numbered : (k n m : ℕ) (d : Decided) → n ≡ m → unless v k n d ≡ unless v k m d
  numbered k n m d e = ap (λ (x : ℕ). unless v k x d) e

  pub finish_full : (c : Current) → full v ≡ true → finish_at v c ≡ refused v (reply_to finish_kind) 9
  finish_full c e = numbered 4 _ 9 (accepted (finished_session v c) finish_kind (finished v.limits v.store c).tail) (first_yes (full v) 9 [] e)

  pub finish_room : (c : Current) → full v ≡ false → finish_at v c ≡ accepted (finished_session v c) finish_kind (finished v.limits v.store c).tail
  finish_room c e = numbered 4 _ 0 (accepted (finished_session v c) finish_kind (finished v.limits v.store c).tail) (first_no (full v) 9 [] e ∙ first_end)

  pub finish_idle : v.current ≡ None → finish_of v ≡ refused v (reply_to finish_kind) 4
  unfolding finish_of
  finish_idle e = ap (λ (x : Option Current). on_now x (refused v (reply_to finish_kind) 4) (finish_at v)) e

  pub finish_now : (c : Current) → v.current ≡ Some c → finish_of v ≡ finish_at v c
  unfolding finish_of
  finish_now c e = ap (λ (x : Option Current). on_now x (refused v (reply_to finish_kind) 4) (finish_at v)) e

  abbrev stuck : Bool
  stuck = is_current v.current && full v

  pub drain_stuck : stuck ≡ true → drain_of v ≡ refused v (reply_to drain_kind) 9
  unfolding drain_of
  drain_stuck e = numbered 5 _ 9 (accepted (drained_session v) drain_kind (drained_now v).tail) (first_yes stuck 9 [] e)

  pub drain_free : stuck ≡ false → drain_of v ≡ accepted (drained_session v) drain_kind (drained_now v).tail
  unfolding drain_of
  drain_free e = numbered 5 _ 0 (accepted (drained_session v) drain_kind (drained_now v).tail) (first_no stuck 9 [] e ∙ first_end)

  module _ (l : Limits) where
    abbrev configured : Decided
    configured = accepted (configured_session v l) configure_kind (drained_now v).tail

    pub configure_bad : configure_ranges l ≡ false → configure_of v l ≡ refused v (reply_to configure_kind) 2
    unfolding configure_of configure_refusal
    configure_bad e = numbered 1 _ 2 configured (first_yes (not (configure_ranges l)) 2 _ (rw e))

    pub configure_stuck : configure_ranges l ≡ true → stuck ≡ true → configure_of v l ≡ refused v (reply_to configure_kind) 9
    unfolding configure_of configure_refusal
    configure_stuck r e = numbered 1 _ 9 configured (first_no (not (configure_ranges l)) 2 _ (rw r) ∙ first_yes stuck 9 [] e)

    pub configure_free : configure_ranges l ≡ true → stuck ≡ false → configure_of v l ≡ configured
    unfolding configure_of configure_refusal
    configure_free r e = numbered 1 _ 0 configured (first_no (not (configure_ranges l)) 2 _ (rw r) ∙ first_no stuck 9 [] e ∙ first_end)

  pub discard_is : discard_of v ≡ accepted (discarded_session v) discard_kind (discarded v.store v.current).tail
  unfolding discard_of
  discard_is = refl

  pub end_is : end_of v ≡ accepted (ended_session v) end_kind quiet
  unfolding end_of
  end_is = refl

  abbrev abandoned : Current → Decided
  abandoned c = accepted (abandoned_session v) abandon_kind (dropped c)

  pub abandon_idle : v.current ≡ None → abandon_of v ≡ refused v (reply_to abandon_kind) 4
  unfolding abandon_of
  abandon_idle e = ap (λ (x : Option Current). on_now x (refused v (reply_to abandon_kind) 4) abandoned) e

  pub abandon_now : (c : Current) → v.current ≡ Some c → abandon_of v ≡ accepted (abandoned_session v) abandon_kind (dropped c)
  unfolding abandon_of
  abandon_now c e = ap (λ (x : Option Current). on_now x (refused v (reply_to abandon_kind) 4) abandoned) e

  -- begin: "1, 3, 5, 8, 7, 6", each behind the ones before it
  module _ (f : Fields) where
    abbrev no1 : Bool
    no1 = not v.configured

    abbrev no5 : Bool
    no5 = not (begin_ranges (modulus v.limits) f)

    abbrev no8 : Bool
    no8 = eqb v.next missing.0

    abbrev no7 : Bool
    no7 = any_b (held_by f.surface) v.store

    pub begin_1 : no1 ≡ true → begin_of v f ≡ refused v (reply_to begin_kind) 1
    unfolding begin_of begin_refusal
    begin_1 e = numbered 2 _ 1 (begun v f) (first_yes no1 1 _ e)

    module _ (p1 : no1 ≡ false) where
      pub begin_3 : is_current v.current ≡ true → begin_of v f ≡ refused v (reply_to begin_kind) 3
      unfolding begin_of begin_refusal
      begin_3 e = numbered 2 _ 3 (begun v f) (first_no no1 1 _ p1 ∙ first_yes (is_current v.current) 3 _ e)

      module _ (p3 : is_current v.current ≡ false) where
        pub begin_5 : no5 ≡ true → begin_of v f ≡ refused v (reply_to begin_kind) 5
        unfolding begin_of begin_refusal
        begin_5 e = numbered 2 _ 5 (begun v f) (first_no no1 1 _ p1 ∙ first_no (is_current v.current) 3 _ p3 ∙ first_yes no5 5 _ e)

        module _ (p5 : no5 ≡ false) where
          pub begin_8 : no8 ≡ true → begin_of v f ≡ refused v (reply_to begin_kind) 8
          unfolding begin_of begin_refusal
          begin_8 e = numbered 2 _ 8 (begun v f) (first_no no1 1 _ p1 ∙ first_no (is_current v.current) 3 _ p3 ∙ first_no no5 5 _ p5 ∙ first_yes no8 8 _ e)

          module _ (p8 : no8 ≡ false) where
            to7 : (ts : List Test) → first (no1 gives 1 ∷ is_current v.current gives 3 ∷ no5 gives 5 ∷ no8 gives 8 ∷ ts) ≡ first ts
            to7 ts = first_no no1 1 _ p1 ∙ first_no (is_current v.current) 3 _ p3 ∙ first_no no5 5 _ p5 ∙ first_no no8 8 _ p8

            pub begin_7 : no7 ≡ true → begin_of v f ≡ refused v (reply_to begin_kind) 7
            unfolding begin_of begin_refusal
            begin_7 e = numbered 2 _ 7 (begun v f) (to7 _ ∙ first_yes no7 7 _ e)

            module _ (p7 : no7 ≡ false) where
              pub begin_6 : within v f ≡ false → begin_of v f ≡ refused v (reply_to begin_kind) 6
              unfolding begin_of begin_refusal
              begin_6 e = numbered 2 _ 6 (begun v f) (to7 _ ∙ first_no no7 7 _ p7 ∙ first_yes (not (within v f)) 6 [] (rw e))

              pub begin_0 : within v f ≡ true → begin_of v f ≡ begun v f
              unfolding begin_of begin_refusal
              begin_0 e = numbered 2 _ 0 (begun v f) (to7 _ ∙ first_no no7 7 _ p7 ∙ first_no (not (within v f)) 6 [] (rw e) ∙ first_end)

-- what a test of the limits that were read says of those of the record
pub ranges_are : {l m : Limits} {b c : Bool} → l ≡ m → b ≡ configure_ranges l → b ≡ c → configure_ranges m ≡ c
ranges_are e p h = sym (ap configure_ranges e) ∙ sym p ∙ h
