-- What is heard of some calls and then of others is what is heard of the first and then of the others, from the pool
-- that the first leave: `heard_from` goes call by call. So every part of what is heard is heard of a part of the calls;
-- and what is told from it joins in the same way.
use Prim.Native.Nat.{ℕ}
use mathlib.Core.Path.{◌≡◌, refl, sym, ap, ap₂, ◌∙◌}
use mathlib.Core.List.{List, [], ◌∷◌, ◌++◌, map, append_assoc}
use native.Mathlib.Omega.{arith}
use Rattle.paper.specs.declared.Reading.{Reading}
use Rattle.paper.specs.Ledger.{Exchange, reply_in}
use Rattle.paper.specs.Numbers.{surface_nos}
use Rattle.paper.specs.Accounts.{tail_in}
use Rattle.pool.specs.Pool.{Pool}
use Rattle.pool.specs.Calls.{shown_on}
use Rattle.pool.specs.History.{Call, Heard, answer_to, after, heard_from, after_all, exchange_in, carried_on, exchanges_in, carried_all, shown_all, return_in, returns_in}

abbrev pub heard_one : Pool → Call → Heard
heard_one p c = record { call = c; answer = answer_to p c }

abbrev pub calls_in : List Heard → List Call
calls_in hs = map (λ (h : Heard). h.call) hs

pub not_empty : {A X : Type 0} {x : A} {xs : List A} → ◌≡◌ {A = List A} [] (x ∷ xs) → X
not_empty e = absurd (let z : ◌≡◌ {A = ℕ} 0 1 = cc in omega arith)

-- ---- calls, and calls behind them

pub after_append : (p : Pool) (cs ds : List Call) → after_all p (cs ++ ds) ≡ after_all (after_all p cs) ds
unfolding after_all
after_append p [] ds = refl
after_append p (c ∷ cs) ds = after_append (after p c) cs ds

pub heard_append : (p : Pool) (cs ds : List Call) → heard_from p (cs ++ ds) ≡ heard_from p cs ++ heard_from (after_all p cs) ds
unfolding heard_from after_all
heard_append p [] ds = refl
heard_append p (c ∷ cs) ds = ap (λ (hs : List Heard). heard_one p c ∷ hs) (heard_append (after p c) cs ds)

pub carried_append : (st : Reading) (xs ys : List Heard) → carried_all st (xs ++ ys) ≡ carried_all (carried_all st xs) ys
unfolding carried_all
carried_append st [] ys = refl
carried_append st (x ∷ xs) ys = carried_append (carried_on st x.call x.answer) xs ys

pub exchanges_append : (st : Reading) (xs ys : List Heard) → exchanges_in st (xs ++ ys) ≡ exchanges_in st xs ++ exchanges_in (carried_all st xs) ys
unfolding exchanges_in carried_all
exchanges_append st [] ys = refl
exchanges_append st (x ∷ xs) ys =
    let on = carried_on st x.call x.answer in
    let one = exchange_in st x.call x.answer in
    ap (λ (es : List Exchange). one ++ es) (exchanges_append on xs ys) ∙ sym (append_assoc one (exchanges_in on xs) (exchanges_in (carried_all on xs) ys))

pub returns_append : (xs ys : List Heard) → returns_in (xs ++ ys) ≡ returns_in xs ++ returns_in ys
unfolding returns_in
returns_append [] ys = refl
returns_append (x ∷ xs) ys =
    let one = return_in x.call x.answer in
    ap (λ (ns : List ℕ). one ++ ns) (returns_append xs ys) ∙ sym (append_assoc one (returns_in xs) (returns_in ys))

pub shown_append : (xs ys : List Exchange) → shown_all (xs ++ ys) ≡ shown_all xs ++ shown_all ys
unfolding shown_all
shown_append [] ys = refl
shown_append (x ∷ xs) ys =
    let one = surface_nos (shown_on (tail_in (reply_in x)).handed) in
    ap (λ (ns : List ℕ). one ++ ns) (shown_append xs ys) ∙ sym (append_assoc one (shown_all xs) (shown_all ys))

-- ---- what is heard in two parts: of which calls each is heard, and from which pool

calls_heard : (p : Pool) (cs : List Call) → calls_in (heard_from p cs) ≡ cs
unfolding heard_from
calls_heard p [] = refl
calls_heard p (c ∷ cs) = ap (λ (ds : List Call). c ∷ ds) (calls_heard (after p c) cs)

pub record Parted (p : Pool) (cs : List Call) (xs ys : List Heard) : Type 0 where
  pub front : xs ≡ heard_from p (calls_in xs)
  pub rest : ys ≡ heard_from (after_all p (calls_in xs)) (calls_in ys)
  pub calls : cs ≡ calls_in xs ++ calls_in ys

pub parted : (p : Pool) (cs : List Call) (xs ys : List Heard) → heard_from p cs ≡ xs ++ ys → Parted p cs xs ys
unfolding heard_from after_all
parted p cs [] ys e =
    let same : cs ≡ calls_in ys = sym (calls_heard p cs) ∙ ap calls_in e in
    record { front = refl; rest = sym e ∙ ap (heard_from p) same; calls = same }
parted p [] (x ∷ xs) ys e = not_empty e
parted p (c ∷ cs) (x ∷ xs) ys e =
    let one : heard_one p c ≡ x = cc in
    let more : heard_from (after p c) cs ≡ xs ++ ys = cc in
    let k : c ≡ x.call = ap (λ (h : Heard). h.call) one in
    let i = parted (after p c) cs xs ys more in
    record {
      front = ap₂ (λ (h : Heard) (hs : List Heard). h ∷ hs) (sym one ∙ ap (heard_one p) k) (i.front ∙ ap (λ (d : Call). heard_from (after p d) (calls_in xs)) k);
      rest = i.rest ∙ ap (λ (d : Call). heard_from (after_all (after p d) (calls_in xs)) (calls_in ys)) k;
      calls = ap₂ (λ (d : Call) (ds : List Call). d ∷ ds) k i.calls;
    }
