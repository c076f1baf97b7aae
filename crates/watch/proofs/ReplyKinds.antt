-- The kind that a reply is one to, and the number that it has in the reply.
use Prim.Native.Nat.{ℕ, ◌-◌, ◌<◌}
use mathlib.Core.Path.{◌≡◌, refl, sym, ap, ◌∙◌}
use mathlib.Core.Bool.{true, cond}
use native.Mathlib.Omega.{arith}
use lib.Dec.{eqb}
use borrow.Author.Tests.{ne_eqb}
use Rattle.std.specs.Prelude.{Option, None, Some}
use Rattle.std.specs.Option.{option_eq}
use Rattle.paper.specs.Kinds.{finish_kind, discard_kind, reply_offset, reply_to}
use Rattle.paper.proofs.Bools.{not_both}
use Rattle.format.specs.Kind.{number_of, is_reply, RepliesTo}
use Rattle.format.specs.declared.kinds.Kind.{Kind}
use Rattle.format.specs.declared.kinds.Kind.TheVariants.{Configure, Begin, Lists, Finish, Drain, Discard, End, Abandon}
use Rattle.format.specs.contracts.kinds.KindPartialEq.TheImpl.{eq-value}

numbered : ℕ → Kind
numbered n =
    cond (eqb n 1) Configure
    (cond (eqb n 2) Begin
    (cond (eqb n 3) Lists
    (cond (eqb n 4) Finish
    (cond (eqb n 5) Drain
    (cond (eqb n 6) Discard
    (cond (eqb n 7) End
    Abandon))))))

back : (k : Kind) → numbered (number_of k) ≡ k
unfolding numbered
back Configure = refl
back Begin = refl
back Lists = refl
back Finish = refl
back Drain = refl
back Discard = refl
back End = refl
back Abandon = refl

valid : (k : Kind) → is_reply (reply_to (number_of k)) ≡ true
valid Configure = refl
valid Begin = refl
valid Lists = refl
valid Finish = refl
valid Drain = refl
valid Discard = refl
valid End = refl
valid Abandon = refl

-- a reply of a kind's number is one to that kind
pub number_at : (q : Kind) (k : Option Kind) (n : ℕ) → RepliesTo n k → k ≡ Some q → n ≡ reply_to (number_of q)
number_at q k n e p = let h = rw p at e in sym h

pub kind_at : (q : Kind) (k : Option Kind) (n : ℕ) → RepliesTo n k → n ≡ reply_to (number_of q) → k ≡ Some q
kind_at q None n e m = absurd (not_both (is_reply n) (ap is_reply m ∙ valid q) e)
kind_at q (Some k) n e m =
    let s : number_of k ≡ number_of q = omega (arith, e, m) in
    ap Some (sym (back k) ∙ ap numbered s ∙ back q)

other : (q : Kind) (n : ℕ) → RepliesTo n None → n - reply_offset ≡ number_of q → 0 < number_of q → ⊥
other q n e m p = let s : n ≡ reply_to (number_of q) = omega arith in not_both (is_reply n) (ap is_reply s ∙ valid q) e

-- the two kinds that are asked for by `==`
pub finishes : (k : Option Kind) (n : ℕ) → RepliesTo n k → option_eq eq-value.it k (Some Finish) ≡ eqb (n - reply_offset) finish_kind
finishes None n e = sym (ne_eqb (n - reply_offset) finish_kind (λ m. other Finish n e m (omega arith)))
finishes (Some Configure) n e = ap (λ (m : ℕ). eqb (m - reply_offset) finish_kind) e
finishes (Some Begin) n e = ap (λ (m : ℕ). eqb (m - reply_offset) finish_kind) e
finishes (Some Lists) n e = ap (λ (m : ℕ). eqb (m - reply_offset) finish_kind) e
finishes (Some Finish) n e = ap (λ (m : ℕ). eqb (m - reply_offset) finish_kind) e
finishes (Some Drain) n e = ap (λ (m : ℕ). eqb (m - reply_offset) finish_kind) e
finishes (Some Discard) n e = ap (λ (m : ℕ). eqb (m - reply_offset) finish_kind) e
finishes (Some End) n e = ap (λ (m : ℕ). eqb (m - reply_offset) finish_kind) e
finishes (Some Abandon) n e = ap (λ (m : ℕ). eqb (m - reply_offset) finish_kind) e

pub discards : (k : Option Kind) (n : ℕ) → RepliesTo n k → option_eq eq-value.it k (Some Discard) ≡ eqb (n - reply_offset) discard_kind
discards None n e = sym (ne_eqb (n - reply_offset) discard_kind (λ m. other Discard n e m (omega arith)))
discards (Some Configure) n e = ap (λ (m : ℕ). eqb (m - reply_offset) discard_kind) e
discards (Some Begin) n e = ap (λ (m : ℕ). eqb (m - reply_offset) discard_kind) e
discards (Some Lists) n e = ap (λ (m : ℕ). eqb (m - reply_offset) discard_kind) e
discards (Some Finish) n e = ap (λ (m : ℕ). eqb (m - reply_offset) discard_kind) e
discards (Some Drain) n e = ap (λ (m : ℕ). eqb (m - reply_offset) discard_kind) e
discards (Some Discard) n e = ap (λ (m : ℕ). eqb (m - reply_offset) discard_kind) e
discards (Some End) n e = ap (λ (m : ℕ). eqb (m - reply_offset) discard_kind) e
discards (Some Abandon) n e = ap (λ (m : ℕ). eqb (m - reply_offset) discard_kind) e
