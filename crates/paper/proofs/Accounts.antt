-- The accounts of any exchanges whose ledger is in order, whoever wrote the replies.
use Prim.Native.Nat.{ℕ, ◌+◌, ◌≤◌, ◌<◌}
use mathlib.Core.Path.{◌≡◌, refl, ap, ◌∙◌}
use mathlib.Core.List.{List, [], ◌∷◌, ◌++◌, map, append-nil, map-append}
use mathlib.Core.Bool.{true, not}
use native.Mathlib.Omega.{arith}
use lib.Dec.{eqb}
use borrow.Author.Tests.{eqb-true}
use Rattle.paper.specs.declared.Shown.{Shown}
use Rattle.paper.specs.declared.Line.{Line}
use Rattle.paper.specs.Words.{keep, any_b}
use Rattle.paper.specs.Numbers.{u32, serial_nos, surface_nos}
use Rattle.paper.specs.Kinds.{end_kind, abandon_kind, surface_place}
use Rattle.paper.specs.Output.{Tail}
use Rattle.paper.specs.Replies.{Begun, Reply}
use Rattle.paper.specs.Ledger.{lines_of, Ledger, Event, Exchange, blank, lies, may_all, upon_all, events, none, landed, abandoned, unchanged, line_of, tell, heard, hear, told, reply_in}
use Rattle.paper.specs.Accounts.{count, serials, surfaces, wanting, begun_in, tail_in, begun_all, handed_all, thrown_all, released_all, Accounts}
use Rattle.paper.proofs.Bools.{left, right, split, by_case}
use Rattle.paper.proofs.Flow.{Sep, sep_first, sep_last, sep_once, hit, count_append, tail_wants, tail_surfaces, wants_append, surfaces_append}
use Rattle.paper.proofs.Tidy.{Tidy, is_none, tidy_blank, tidy_hear, ok_told}

abbrev handed_in : Reply → List ℕ
handed_in x = map (λ (p : Shown). p.serial.0) (tail_in x).handed

-- what goes in is what is left and what comes out
record Flow (L M : Ledger) (r : List ℕ) (x : Reply) : Type 0 where
  wants : (n : ℕ) → count n (serials (wanting (lines_of L))) + count n (serials (wanting (begun_in r x))) ≡ count n (serials (wanting (lines_of M))) + (count n (handed_in x) + count n (serial_nos (tail_in x).thrown))
  held : (y : ℕ) → count y (surfaces (lines_of L)) + count y (surfaces (begun_in r x)) ≡ count y (surfaces (lines_of M)) + count y (surface_nos (tail_in x).released)

module _ (L : Ledger) (r : List ℕ) (d : Sep (lines_of L)) where
  flow_unchanged : (kind : ℕ) (t : Tail) → (unchanged L t).ok ≡ true → Flow L (unchanged L t) r (Reply.Done kind t)
  unfolding begun_in tail_in wanting keep count upon_all may_all
  flow_unchanged kind t o =
      let e : events t ≡ [] = is_none (events t) (right L.ok _ o) in
      let m : may_all (events t) (lines_of L) ≡ true = ap (λ (xs : List Event). may_all xs (lines_of L)) e in
      let u : upon_all (events t) (lines_of L) ≡ lines_of L = ap (λ (xs : List Event). upon_all xs (lines_of L)) e in
      record {
        wants = λ n. let a = tail_wants t n (lines_of L) d m in let b = ap (λ (H : List Line). count n (serials (wanting H))) u in omega (arith, a, b);
        held = λ y. let a = tail_surfaces t y (lines_of L) d m in let b = ap (λ (H : List Line). count y (surfaces H)) u in omega (arith, a, b);
      }

  flow_abandoned : (kind : ℕ) (t : Tail) → (abandoned L t).ok ≡ true → Flow L (abandoned L t) r (Reply.Done kind t)
  unfolding begun_in tail_in wanting keep count
  flow_abandoned kind t o =
      let o1 = right (not (none L.current)) _ (right L.ok _ o) in
      let m : may_all (events t) L.current ≡ true = left (may_all (events t) L.current) _ o1 in
      let u : upon_all (events t) L.current ≡ [] = is_none _ (right (may_all (events t) L.current) _ o1) in
      let dc = sep_last L.held L.current d in
      record {
        wants =
            λ n.
            let a = tail_wants t n L.current dc m in
            let b = ap (λ (H : List Line). count n (serials (wanting H))) u in
            omega (arith, a, b, wants_append n L.held L.current, wants_append n L.held []);
        held =
            λ y.
            let a = tail_surfaces t y L.current dc m in
            let b = ap (λ (H : List Line). count y (surfaces H)) u in
            omega (arith, a, b, surfaces_append y L.held L.current, surfaces_append y L.held []);
      }

  flow_landed : (kind : ℕ) (t : Tail) → (landed kind L t).ok ≡ true → Flow L (landed kind L t) r (Reply.Done kind t)
  unfolding begun_in tail_in wanting keep count
  flow_landed kind t o =
      let m : may_all (events t) (lines_of L) ≡ true = left (may_all (events t) (lines_of L)) _ (right L.ok _ o) in
      record {
        wants = λ n. let a = tail_wants t n (lines_of L) d m in omega (arith, a, wants_append n (upon_all (events t) (lines_of L)) []);
        held = λ y. let a = tail_surfaces t y (lines_of L) d m in omega (arith, a, surfaces_append y (upon_all (events t) (lines_of L)) []);
      }

  flow_started : (b : Begun) (t : Tail) → (tell L r (Reply.Started b t)).ok ≡ true → Flow L (tell L r (Reply.Started b t)) r (Reply.Started b t)
  unfolding begun_in tail_in tell
  flow_started b t o =
      let o1 = right L.ok _ o in
      let e : L.current ≡ [] = is_none L.current (left (none L.current) _ o1) in
      let o2 = right (none L.current) _ o1 in
      let o3 = right (eqb b.serial.0 L.begun) _ o2 in
      let o4 = right (not (any_b (lies (u32 r surface_place)) L.held)) _ o3 in
      let m : may_all (events t) L.held ≡ true = left (may_all (events t) L.held) _ o4 in
      let dh = sep_first L.held L.current d in
      let l : lines_of L ≡ L.held = ap (λ (H : List Line). L.held ++ H) e ∙ append-nil L.held in
      record {
        wants =
            λ n.
            let a = tail_wants t n L.held dh m in
            let c = ap (λ (H : List Line). count n (serials (wanting H))) l in
            omega (arith, a, c, wants_append n (upon_all (events t) L.held) (line_of r b ∷ []));
        held =
            λ y.
            let a = tail_surfaces t y L.held dh m in
            let c = ap (λ (H : List Line). count y (surfaces H)) l in
            omega (arith, a, c, surfaces_append y (upon_all (events t) L.held) (line_of r b ∷ []));
      }

  flow : (x : Reply) → (tell L r x).ok ≡ true → Flow L (tell L r x) r x
  unfolding tell begun_in tail_in wanting keep count
  flow (Reply.Refused kind n) o = record { wants = λ k. omega arith; held = λ y. omega arith }
  flow (Reply.Done kind t) o =
      by_case (λ (M : Ledger). M.ok ≡ true → Flow L M r (Reply.Done kind t)) (eqb kind end_kind) _ _ (λ _. flow_unchanged kind t)
      (λ _. by_case (λ (M : Ledger). M.ok ≡ true → Flow L M r (Reply.Done kind t)) (eqb kind abandon_kind) _ _ (λ _. flow_abandoned kind t) (λ _. flow_landed kind t)) o
  flow (Reply.Started b t) o = flow_started b t o
  flow (Reply.Listed l0 l1) o = record { wants = λ k. omega arith; held = λ y. omega arith }

-- Serials count accepted begins
data Counted (n : ℕ) (L M : Ledger) (r : List ℕ) (x : Reply) : Type 0 where
  same : count n (serials (begun_in r x)) ≡ 0 → M.begun ≡ L.begun → Counted n L M r x
  more : count n (serials (begun_in r x)) ≡ hit n L.begun → M.begun ≡ L.begun + 1 → Counted n L M r x

counted : (n : ℕ) (L : Ledger) (r : List ℕ) (x : Reply) → (tell L r x).ok ≡ true → Counted n L (tell L r x) r x
unfolding tell begun_in count
counted n L r (Reply.Refused kind k) o = same refl refl
counted n L r (Reply.Done kind t) o =
    by_case (λ (M : Ledger). Counted n L M r (Reply.Done kind t)) (eqb kind end_kind) _ _ (λ _. same refl refl)
    (λ _. by_case (λ (M : Ledger). Counted n L M r (Reply.Done kind t)) (eqb kind abandon_kind) _ _ (λ _. same refl refl) (λ _. same refl refl))
counted n L r (Reply.Started b t) o =
    let e : b.serial.0 ≡ L.begun = eqb-true b.serial.0 L.begun (left (eqb b.serial.0 L.begun) _ (right (none L.current) _ (right L.ok _ o))) in
    more (let k = ap (hit n) e in omega (arith, k)) refl
counted n L r (Reply.Listed l0 l1) o = same refl refl

serials_append : (n : ℕ) (H K : List Line) → count n (serials (H ++ K)) ≡ count n (serials H) + count n (serials K)
serials_append n H K = ap (count n) (map-append (λ (e : Line). e.serial.0) H K) ∙ count_append n (serials H) (serials K)

-- from any ledger on
pub record From (L : Ledger) (xs : List Exchange) : Type 0 where
  pub wants : (n : ℕ) → count n (serials (wanting (lines_of L))) + count n (serials (wanting (begun_all xs)))
      ≡ count n (serials (wanting (lines_of (told L xs)))) + (count n (handed_all xs) + count n (thrown_all xs))
  pub held : (y : ℕ) → count y (surfaces (lines_of L)) + count y (surfaces (begun_all xs)) ≡ count y (surfaces (lines_of (told L xs))) + count y (released_all xs)
  pub once : (n : ℕ) → (count n (serials (begun_all xs)) ≤ 1) × (n < L.begun → count n (serials (begun_all xs)) ≡ 0)
  pub tidy : Tidy (told L xs)

from_none : (L : Ledger) → Tidy L → From L []
unfolding told begun_all handed_all thrown_all released_all count wanting keep
from_none L i = record { wants = λ n. omega arith; held = λ y. omega arith; once = λ n. (omega arith, λ h. omega arith); tidy = i }

module _ (L : Ledger) (x : Exchange) (xs : List Exchange) (i : Tidy L) (o : (hear L x.said (reply_in x)).ok ≡ true) where
  abbrev answer : Reply
  answer = reply_in x

  abbrev r : List ℕ
  r = x.said

  told_ok : (tell L r answer).ok ≡ true
  told_ok = right (heard r answer) _ o

  step_flow : Flow L (tell L r answer) r answer
  step_flow = flow L r i.apart answer told_ok

  from_more : From (hear L r answer) xs → From L (x ∷ xs)
  unfolding told begun_all handed_all thrown_all released_all
  from_more k =
      record {
        wants =
            λ n.
            omega (
              arith,
              step_flow.wants n,
              k.wants n,
              wants_append n (begun_in r answer) (begun_all xs),
              count_append n (handed_in answer) (handed_all xs),
              count_append n (serial_nos (tail_in answer).thrown) (thrown_all xs),
            );
        held =
            λ y.
            omega (arith, step_flow.held y, k.held y, surfaces_append y (begun_in r answer) (begun_all xs), count_append y (surface_nos (tail_in answer).released) (released_all xs));
        once = λ n. counts n (counted n L r answer told_ok);
        tidy = k.tidy;
      }
    where
      counts : (n : ℕ) → Counted n L (tell L r answer) r answer
          → (count n (serials (begun_in r answer ++ begun_all xs)) ≤ 1) × (n < L.begun → count n (serials (begun_in r answer ++ begun_all xs)) ≡ 0)
      counts n (same e f) = (omega (arith, serials_append n (begun_in r answer) (begun_all xs), (k.once n).0), λ h. let z = (k.once n).1 (omega arith) in omega (arith, serials_append n (begun_in r answer) (begun_all xs)))
      counts n (more e f) =
          split (eqb n L.begun)
          (λ p.
          let q : n ≡ L.begun = eqb-true n L.begun p in
          let e1 : count n (serials (begun_in r answer)) ≡ 1 = e ∙ rw p in
          let z = (k.once n).1 (omega arith) in
          (omega (arith, serials_append n (begun_in r answer) (begun_all xs)), λ h. absurd (omega arith)))
          (λ p.
          let e0 : count n (serials (begun_in r answer)) ≡ 0 = e ∙ rw p in
          (omega (arith, serials_append n (begun_in r answer) (begun_all xs), (k.once n).0), λ h. let z = (k.once n).1 (omega arith) in omega (arith, serials_append n (begun_in r answer) (begun_all xs))))

pub from_all : (L : Ledger) (xs : List Exchange) → Tidy L → (told L xs).ok ≡ true → From L xs
unfolding told
from_all L [] i o = from_none L i
from_all L (x ∷ xs) i o =
    let h = ok_told (hear L x.said (reply_in x)) xs o in
    from_more L x xs i h (from_all (hear L x.said (reply_in x)) xs (tidy_hear L x.said (reply_in x) i h) o)

-- The accounts of the exchanges, with the ledger that they tell
pub accounts : (xs : List Exchange) → (told blank xs).ok ≡ true → Accounts xs (told blank xs)
unfolding wanting keep count
accounts xs o =
    let f = from_all blank xs tidy_blank o in
    record {
      pictures = λ n. let a = f.wants n in omega (arith, a);
      once = λ n. (f.once n).0;
      memory = λ y. let a = f.held y in omega (arith, a);
      held_once = λ y. sep_once y (lines_of (told blank xs)) f.tidy.apart;
    }
