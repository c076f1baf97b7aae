-- One call: number 14, number 13, or what the record's kind says, as the paper's `step_of` has them.
use Prim.Native.Nat.{ℕ, ◌≤◌, ◌<◌}
use mathlib.Core.Path.{◌≡◌, refl, sym, ap, ap₂, ◌∙◌, subst}
use mathlib.Core.List.{List}
use mathlib.Core.Bool.{Bool, true, false, cond, ◌&&◌}
use lib.Dec.{eqb}
use lib.ListN.{length}
use borrow.Author.Tests.{le-ltb}
use Rattle.wire.specs.Bytes.{over}
use Rattle.paper.specs.Kinds.{begin_kind, lists_kind, reply_to, malformed_reply}
use Rattle.paper.specs.Records.{Slice, kind_of, well_formed, limits_of, fields_of, slice_of}
use Rattle.paper.specs.State.{on_now, all_refs}
use Rattle.paper.specs.State as P
use Rattle.paper.specs.Replies.{bytes_of}
use Rattle.paper.specs.Step.{Decided, refused, configure_of, begin_of, lists_refusal, lists_at, lists_of, finish_of, drain_of, discard_of, end_of, abandon_of, by_kind, decide_of, step_of}
use Rattle.paper.proofs.Bools.{by_case}
use Rattle.paper.proofs.Rooms.{nothing_written}
use Rattle.session.specs.declared.Answer.{Answer}
use Rattle.session.specs.View.{Memory, session_in}
use Rattle.format.specs.declared.kinds.Kind.{Kind}
use Rattle.format.specs.declared.kinds.Kind.TheVariants.{Begin}
use Rattle.format.specs.Kind as K
use Rattle.format.specs.Kind.{KindIn}
use Rattle.session.specs.declared.Refusal.{Refusal}
use Rattle.session.specs.declared.Refusal.TheVariants.{Malformed}
use Rattle.session.specs.Numbered.{number_of}
use Rattle.session.specs.Said.{accepts, no_room, Does, Refuses, Rejects, Gives, Tries, reply_kind, refused_kind, WellFormed, Permitted}
use Rattle.session.proofs.Saying.{does_refuse, rejects, gives, tries_as}
use Rattle.std.proofs.lemmas.Result.{IfOk-at_ok, IfErr-at_err}
use Rattle.std.specs.Result.{OnErr}
use Rattle.paper.specs.declared.Surface.{Surface}
use Rattle.session.specs.Target.{is_begin, taken_as, fields_at}
use Rattle.session.proofs.Targets.{begin_formed, begin_kind_lem, FitSurface, taken_other, taken_begin, taken_fields}
use Rattle.std.proofs.Common.{Option, None, Some, Result, Ok, Err}
use Rattle.paper.specs.Step as S
use Rattle.paper.specs.declared.Current.{Current}

-- ---- the kind that was read

pub formed : {kind : Option Kind} (k : Kind) (r : List ℕ) → KindIn r kind → kind ≡ Some k → WellFormed (K.number_of k) r
formed k r read e = let p = subst (KindIn r) e read in record { formed = p.0; kind = sym p.1 }

malformed : {kind : Option Kind} (r : List ℕ) → KindIn r kind → kind ≡ None → well_formed r ≡ false
malformed r read e = subst (KindIn r) e read

-- ---- what is decided, by the kind

module _ (v : P.Session) (r : List ℕ) where
  decides_13 : well_formed r ≡ false → decide_of v r ≡ refused v malformed_reply 13
  unfolding decide_of
  decides_13 e = ap (λ (b : Bool). cond b (by_kind v r) (refused v malformed_reply 13)) e

  by_kind_lem : {k : ℕ} → WellFormed k r → decide_of v r ≡ by_kind v r
  unfolding decide_of
  by_kind_lem w = ap (λ (b : Bool). cond b (by_kind v r) (refused v malformed_reply 13)) w.formed

  -- the arm of kind n, with the record's kind in its place
  abbrev arm : ℕ → Decided
  arm n =
      cond (eqb n 1) (configure_of v (limits_of r))
      (cond (eqb n 2) (begin_of v (fields_of r))
      (cond (eqb n 3) (lists_of v (slice_of r))
      (cond (eqb n 4) (finish_of v)
      (cond (eqb n 5) (drain_of v)
      (cond (eqb n 6) (discard_of v)
      (cond (eqb n 7) (end_of v)
      (abandon_of v)))))))

  decides : (k : ℕ) → WellFormed k r → decide_of v r ≡ arm k
  unfolding by_kind
  decides k w = by_kind_lem w ∙ ap arm w.kind

-- a well-formed begin: by its fields, and with a surface that was chosen, by its fields with that one
pub begin_decides : (v : P.Session) (r : List ℕ) → is_begin r ≡ true → decide_of v r ≡ begin_of v (fields_of r)
begin_decides v r is = decides v r 2 (record { formed = begin_formed r is; kind = begin_kind_lem r is })

taken_decides : (v : P.Session) (x : Option Surface) (r : List ℕ) → FitSurface x → is_begin r ≡ true → decide_of v (taken_as x r) ≡ begin_of v (fields_at x r)
taken_decides v x r f is = begin_decides v (taken_as x r) (taken_begin x r ∙ is) ∙ ap (begin_of v) (taken_fields x r f is)

-- ---- lists change nothing

record Keeps (s : P.Session) (d : Decided) : Type 0 where
  is : s ≡ d.next

lists_keep : (s : P.Session) (f : Slice) → Keeps s (lists_of s f)
unfolding lists_of
lists_keep s f = go s.current
  where
    go : (x : Option Current) → Keeps s (on_now x (refused s (reply_to lists_kind) 4) (lists_at s f))
    go None = record { is = refl }
    go (Some c) = by_case (Keeps s) (eqb (lists_refusal s c f) 0) _ _ (λ _. record { is = refl }) (λ _. record { is = refl })

pub lists_do : (m : Memory) (f : Slice) {before : List ℕ} (given : Result ℕ Refusal) {after : List ℕ} → Gives (reply_to lists_kind) (session_in m) (lists_of (session_in m) f) before given after
    → Tries (reply_to lists_kind) m (lists_of (session_in m) f) before given m after
lists_do m f (Ok len) h = gives (record { answers = h.ok; next = (lists_keep (session_in m) f).is; left = λ _. refl; normal = λ n. n; sets = λ i le. refl })
lists_do m f (Err why) h = record { ok = tt; err = h.err; left = refl }

-- ---- the whole call

result_of : Decided → S.Result
result_of d = record { number = d.number; bytes = bytes_of d.reply; next = d.next }

abbrev answer_from : S.Result → Answer
answer_from x = record { number = x.number; len = length x.bytes }

step_is : (v : P.Session) (r : List ℕ) (room : ℕ) (d : Decided) → 512 ≤ room → decide_of v r ≡ d → step_of v r room ≡ result_of d
unfolding step_of result_of
step_is v r room d h e = rw (le-ltb room 512 h) (ap (λ (x : Decided). record { number = x.number; bytes = bytes_of x.reply; next = x.next }) e)

pub permitted : {m : Memory} {r before : List ℕ} {a : Answer} {m' : Memory} {after : List ℕ} (d : Decided) → 512 ≤ length before → decide_of (session_in m) r ≡ d → Does m d before a m' after → Permitted m r before a m' after
unfolding result_of
permitted {m} {r} {before} d room e h =
    let x = sym (step_is (session_in m) r (length before) d room e) in
    record {
      answer = h.answers.answer ∙ ap answer_from x;
      bytes = h.answers.bytes ∙ ap (λ (y : S.Result). over y.bytes before) x;
      next = h.next ∙ ap (λ (y : S.Result). y.next) x;
      left = λ n. h.left (λ z. n (ap (λ (y : Answer). y.number) h.answers.answer ∙ z));
      normal = h.normal;
      sets = λ i le. h.sets i (subst (λ (y : S.Result). length (all_refs y.next.refs) ≤ i) (sym x) le);
    }

-- whether a record is a begin, by its kind
begins : {k : ℕ} (r : List ℕ) → WellFormed k r → is_begin r ≡ eqb k begin_kind
begins r w = ap₂ (λ (b : Bool) (n : ℕ). b && eqb n begin_kind) w.formed w.kind

-- a record that is no begin is decided as it is
as_it_is : (v : P.Session) (x : Option Surface) (r : List ℕ) {d : Decided} → is_begin r ≡ false → decide_of v r ≡ d → decide_of v (taken_as x r) ≡ d
as_it_is v x r o e = ap (decide_of v) (taken_other x r o) ∙ e

module _ {m : Memory} {before : List ℕ} {given : Result ℕ Refusal} {m' : Memory} {after : List ℕ} {kind : Option Kind} (x : Option Surface) (r : List ℕ) (read : KindIn r kind) where
  -- what is tried of a record of the kind k that was read is what is tried of that which was read
  by_read : {k : Option Kind} {d : Decided} → kind ≡ k → decide_of (session_in m) (taken_as x r) ≡ d → Tries (refused_kind k) m d before given m' after → Tries (refused_kind kind) m (decide_of (session_in m) (taken_as x r)) before given m' after
  by_read {k} {d} f e h = tries_as e (subst (λ (y : Option Kind). Tries (refused_kind y) m d before given m' after) (sym f) h)

  -- a record of the kind that was read, which is no begin, and a begin
  pub goes : (k : Kind) → eqb (K.number_of k) begin_kind ≡ false → kind ≡ Some k → Tries (reply_kind k) m (arm (session_in m) r (K.number_of k)) before given m' after
      → Tries (refused_kind kind) m (decide_of (session_in m) (taken_as x r)) before given m' after
  goes k o f h = let w = formed k r read f in by_read f (as_it_is (session_in m) x r (begins r w ∙ o) (decides (session_in m) r (K.number_of k) w)) h

  pub goes_begin : FitSurface x → kind ≡ Some Begin → Tries (reply_to begin_kind) m (begin_of (session_in m) (fields_at x r)) before given m' after
      → Tries (refused_kind kind) m (decide_of (session_in m) (taken_as x r)) before given m' after
  goes_begin fits f h = by_read f (taken_decides (session_in m) x r fits (begins r (formed Begin r read f))) h

-- a malformed record
pub goes_not : {m : Memory} {before : List ℕ} {kind : Option Kind} (x : Option Surface) (r : List ℕ) → KindIn r kind → kind ≡ None
    → Tries (refused_kind kind) m (decide_of (session_in m) (taken_as x r)) before (Err Malformed) m before
goes_not {m} x r read f =
    let w = malformed r read f in
    let o : is_begin r ≡ false = ap (λ (b : Bool). b && eqb (kind_of r) begin_kind) w in
    by_read x r read f (as_it_is (session_in m) x r o (decides_13 (session_in m) r w)) (rejects refl)

-- what was tried, answered: an accepted record as it stands, and a refused one by the six bytes that are then written
module _ {m : Memory} {r before : List ℕ} {given : Result ℕ Refusal} {m' : Memory} {after : List ℕ} {kind : ℕ} (room : 512 ≤ length before) (h : Tries kind m (decide_of (session_in m) r) before given m' after) where
  pub answered_ok : {len : ℕ} → given ≡ Ok len → Permitted m r before (accepts len) m' after
  answered_ok {len} e = permitted (decide_of (session_in m) r) room refl (IfOk-at_ok (λ (n : ℕ). Does m (decide_of (session_in m) r) before (accepts n) m' after) e h.ok)

  pub answered_err : {why : Refusal} {k : ℕ} {a : Answer} {last : List ℕ} → given ≡ Err why → k ≡ kind → Refuses k (number_of why) after a last → Permitted m r before a m' last
  answered_err {why} {a = a} {last} e f w =
      let d : Rejects kind (session_in m) (decide_of (session_in m) r) before why after = IfErr-at_err (λ (x : Refusal). Rejects kind (session_in m) (decide_of (session_in m) r) before x after) e h.err in
      let l : m' ≡ m = subst (λ (x : Result ℕ Refusal). OnErr x (m' ≡ m)) e h.left in
      let b = subst (λ (x : List ℕ). Refuses kind (number_of why) x a last) d.bytes (subst (λ (x : ℕ). Refuses x (number_of why) after a last) f w) in
      subst (λ (x : Memory). Permitted m r before a x last) (sym l) (permitted (decide_of (session_in m) r) room refl (does_refuse d.decided b))

pub unanswered : {m : Memory} {r before : List ℕ} → length before < 512 → Permitted m r before no_room m before
unfolding over
unanswered {m} {r} {before} h =
    let x = sym (nothing_written (session_in m) r (length before) h) in
    record {
      answer = ap answer_from x;
      bytes = ap (λ (y : S.Result). over y.bytes before) x;
      next = ap (λ (y : S.Result). y.next) x;
      left = λ _. refl;
      normal = λ n. n;
      sets = λ i le. refl;
    }
