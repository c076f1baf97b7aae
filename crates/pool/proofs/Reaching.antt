-- After any calls from a made pool, what was heard tells the ledger of the session, in order, and the pool's picture of
-- it is true: a made pool is so, and each call leads on (Leading).
use Prim.Native.Nat.{ℕ}
use mathlib.Core.Path.{◌≡◌, refl, sym, ap, ◌∙◌, subst}
use mathlib.Core.List.{List, [], ◌∷◌, ◌++◌}
use mathlib.Core.Bool.{true}
use native.Mathlib.Omega.{arith}
use lib.Dec.{leb}
use borrow.Author.Tests.{leb-true}
use Rattle.paper.specs.declared.Reading.{Reading}
use Rattle.paper.specs.Words.{all_b}
use Rattle.paper.specs.Reading.{opening, further}
use Rattle.paper.specs.Watch.{pairs}
use Rattle.paper.specs.Ledger.{Ledger, Exchange, none, told}
use Rattle.paper.specs.Accounts.{count}
use Rattle.paper.specs.Statement.{ledger_of}
use Rattle.paper.proofs.Bools.{left, right, split}
use Rattle.paper.proofs.Flow.{count_append}
use Rattle.paper.proofs.Tidy.{tidy_blank}
use Rattle.paper.proofs.LedgerTold.{sound_fresh}
use Rattle.paper.proofs.Again.{again}
use Rattle.paper.proofs.Between.{told_append, in_order_kept}
use Rattle.session.specs.Target.{with_surface}
use Rattle.pool.specs.Pool.{Pool, can_make, made}
use Rattle.pool.specs.History.{Call, Lends, Returns, Answer, Heard, BytesIn, after, heard_from, after_all, exchange_in, carried_on, exchanges_in, carried_all, shown_all, returns_in}
use Rattle.pool.proofs.Reached.{AlwaysReached}
use Rattle.pool.proofs.Surfaces.{wanted, lies_lying, lying_below}
use Rattle.pool.proofs.Accepting.{lines_in, Fair}
use Rattle.pool.proofs.Leading.{Leads, stays, call}
use Rattle.pool.proofs.Parts.{shown_append}

-- ---- any calls

joins : (p q o : Pool) (xs zs : List Exchange) (ys ws : List ℕ) (st su : Reading) → Leads p xs ys st q → Leads q zs ws su o → Leads p (xs ++ zs) (ys ++ ws) su o
joins p q o xs zs ys ws st su a b =
    record {
      fair = b.fair;
      surfaces = b.surfaces ∙ a.surfaces;
      tells = told_append (ledger_of p.session) xs zs ∙ ap (λ (L : Ledger). told L zs) a.tells ∙ b.tells;
      carries = b.carries;
      sum = λ i.
          let c = ap (count i) (shown_append xs zs) in
          omega (arith, a.sum i, b.sum i, count_append i ys ws, count_append i (shown_all xs) (shown_all zs), c);
    }

pub calls : (p : Pool) → Fair p → (cs : List Call) → all_b BytesIn cs ≡ true
    → Leads p (exchanges_in p.reading (heard_from p cs)) (returns_in (heard_from p cs)) (carried_all p.reading (heard_from p cs)) (after_all p cs)
unfolding exchanges_in heard_from returns_in carried_all after_all all_b
calls p g [] b = stays p g
calls p g (c ∷ cs) b =
    let a = call p g c (left (BytesIn c) _ b) in
    let q = after p c in
    let hs = heard_from q cs in
    joins p q (after_all q cs) _ _ _ _ _ _ a
    (subst (λ (st : Reading). Leads q (exchanges_in st hs) (returns_in hs) (carried_all st hs) (after_all q cs)) (sym a.carries) (calls q a.fair cs (right (BytesIn c) _ b)))

-- ---- exchanges that were heard are made of their own records and replies

one_again : (st : Reading) (c : Call) (a : Answer) (rest : Reading → List Exchange) → ((su : Reading) → again su (rest su) ≡ rest su)
    → again st (exchange_in st c a ++ rest (carried_on st c a)) ≡ exchange_in st c a ++ rest (carried_on st c a)
unfolding pairs
one_again st (Lends r room) a rest h =
    let x : Exchange = record { said = with_surface a.surface r; answered = a.bytes; reading = st } in
    split (none a.bytes) (λ e. rw e (h st)) (λ e. rw e (ap (λ (xs : List Exchange). x ∷ xs) (h (further st a.bytes))))
one_again st (Returns y) a rest h = h st

heard_again : (st : Reading) (hs : List Heard) → again st (exchanges_in st hs) ≡ exchanges_in st hs
unfolding exchanges_in pairs
heard_again st [] = refl
heard_again st (h ∷ hs) = one_again st h.call h.answer (λ su. exchanges_in su hs) (λ su. heard_again su hs)

-- ---- from a made pool

made_fair : (n : ℕ) → can_make n ≡ true → Fair (made n)
unfolding count wanted
made_fair n h =
    record {
      sound = sound_fresh;
      tidy = tidy_blank;
      few = leb-true n 64 (right (leb 1 n) _ h);
      held = λ i. refl;
      own = λ i _. refl;
      one = λ i. omega arith;
    }

pub reached : AlwaysReached
reached n h cs b =
    let p = made n in
    let q = after_all p cs in
    let xs = exchanges_in opening (heard_from p cs) in
    let a = calls p (made_fair n h) cs b in
    let g = a.fair in
    record {
      kept = in_order_kept xs (heard_again opening (heard_from p cs)) (ap (λ (L : Ledger). L.ok) a.tells);
      true_to = a.tells;
      surfaces = a.surfaces;
      agrees =
          record {
            held = λ x. g.held x ∙ sym (lies_lying x (lines_in q));
            own = lying_below q.surfaces (lines_in q) g.own;
          };
      pends = record { sum = λ x. omega (arith, a.sum x); one = λ x. omega (arith, g.one x) };
      few = g.few;
      sound = g.sound;
      reading = a.carries;
    }
