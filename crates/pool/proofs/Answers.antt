-- What a call of any pool answers: a begin is given the lowest free surface, 18 stands for none, 19 for a return with
-- none pending, and what is not answered 0 leaves the pool. Each way through the definitions says so itself; the
-- session's own numbers are below 15.
use Prim.Native.Nat.{ℕ, ◌≤◌, ◌<◌}
use mathlib.Core.Path.{◌≡◌, refl, ap, ◌∙◌, subst}
use mathlib.Core.List.{List, []}
use mathlib.Core.Bool.{Bool, true, false, cond}
use native.Mathlib.Omega.{arith}
use lib.Dec.{ltb, eqb}
use borrow.Author.Tests.{ltb-true, ltb-false, lt-ltb, le-ltb, eqb-false}
use Rattle.paper.specs.Numbers.{reply_limit}
use Rattle.paper.specs.Kinds.{begin_kind, reply_to}
use Rattle.paper.specs.Replies.{Reply, bytes_of}
use Rattle.paper.specs.Step.{Result, step_of}
use Rattle.paper.proofs.Bools.{both, split, by_case, not_both}
use Rattle.paper.proofs.Refusals.{known_number}
use Rattle.session.specs.Target.{is_begin, with_surface}
use Rattle.pool.specs.Pool.{Pool, no_surface, is_free, lowest_free}
use Rattle.pool.specs.Calls.{Given, declined, passed, begin_on, pool_step, Returned, is_pending, one_less, pool_return}
use Rattle.pool.specs.History.{Call, Lends, Returns, answer_to, after}
use Rattle.pool.specs.Statement.{Lowest, Eighteen, Nineteen}
use Rattle.pool.proofs.Lowest.{free_found, free_below, none_free, free_none}

-- ---- a record

-- what the session answered
record Passes (p : Pool) (x : ℕ) (g : Given) : Type 0 where
  given : g.number ≡ 0 → g.surface ≡ x
  refused : (g.number ≡ 0 → ⊥) → g.surface ≡ no_surface
  left : (g.number ≡ 0 → ⊥) → g.next ≡ p
  less : g.number < 15

passes : (p : Pool) (x : ℕ) (d : Result) → d.number < 15 → Passes p x (passed p x d)
passes p x d h =
    by_case (Passes p x) (eqb d.number 0) _ _
    (λ z. record { given = λ _. refl; refused = λ k. absurd (k refl); left = λ k. absurd (k refl); less = omega arith })
    (λ z. record { given = λ e. absurd (eqb-false d.number 0 z e); refused = λ _. refl; left = λ _. refl; less = h })

module _ (p : Pool) (r : List ℕ) (room : ℕ) where
  -- the ways of a record through the pool
  pub record Through (Q : Given → Type 0) : Type 0 where
    pub small : is_begin r ≡ true → room < reply_limit → Q (declined p 14 [])
    pub full : is_begin r ≡ true → reply_limit ≤ room → eqb (lowest_free p) no_surface ≡ true → Q (declined p 18 (bytes_of (Reply.Refused (reply_to begin_kind) 18)))
    pub begin : is_begin r ≡ true → reply_limit ≤ room → eqb (lowest_free p) no_surface ≡ false → Q (passed p (lowest_free p) (step_of p.session (with_surface (lowest_free p) r) room))
    pub other : is_begin r ≡ false → Q (passed p no_surface (step_of p.session r room))

  pub by_step : (Q : Given → Type 0) → Through Q → Q (pool_step p r room)
  unfolding pool_step begin_on
  by_step Q w =
      by_case Q (is_begin r) _ _
      (λ is.
      by_case Q (ltb room reply_limit) _ _ (λ e. w.small is (ltb-true room 512 e))
      (λ e. by_case Q (eqb (lowest_free p) no_surface) _ _ (λ k. w.full is (ltb-false room 512 e) k) (λ k. w.begin is (ltb-false room 512 e) k)))
      (λ e. w.other e)

  record Answered (g : Given) : Type 0 where
    given : is_begin r ≡ true → g.number ≡ 0 → (g.surface ≡ lowest_free p) × (is_free p (lowest_free p) ≡ true)
    other : is_begin r ≡ false → g.surface ≡ no_surface
    refused : (g.number ≡ 0 → ⊥) → g.surface ≡ no_surface
    left : (g.number ≡ 0 → ⊥) → g.next ≡ p
    eighteen : reply_limit ≤ room → is_begin r ≡ true → eqb (lowest_free p) no_surface ≡ true → g.number ≡ 18
    only : g.number ≡ 18 → (reply_limit ≤ room) × (is_begin r ≡ true) × (eqb (lowest_free p) no_surface ≡ true)

  answered : Answered (pool_step p r room)
  answered =
      by_step Answered
      (record {
        small = λ is l.
            record {
              given = λ _ z. absurd (omega (arith, z));
              other = λ _. refl;
              refused = λ _. refl;
              left = λ _. refl;
              eighteen = λ m _ _. absurd (omega (arith, l, m));
              only = λ z. absurd (omega (arith, z));
            };
        full = λ is m e.
            record { given = λ _ z. absurd (omega (arith, z)); other = λ _. refl; refused = λ _. refl; left = λ _. refl; eighteen = λ _ _ _. refl; only = λ _. (m, is, e) };
        begin = λ is m e.
            let w = with_surface (lowest_free p) r in
            let k = passes p (lowest_free p) (step_of p.session w room) (known_number p.session w room) in
            record {
              given = λ _ z. (k.given z, free_found p e);
              other = λ o. not_both (is_begin r) is o;
              refused = k.refused;
              left = k.left;
              eighteen = λ _ _ f. not_both (eqb (lowest_free p) no_surface) f e;
              only = λ z. absurd (omega (arith, k.less, z));
            };
        other = λ o.
            let k = passes p no_surface (step_of p.session r room) (known_number p.session r room) in
            record {
              given = λ is _. not_both (is_begin r) is o;
              other = λ _. no_surface_lem (step_of p.session r room);
              refused = k.refused;
              left = k.left;
              eighteen = λ _ is _. not_both (is_begin r) is o;
              only = λ z. absurd (omega (arith, k.less, z));
            };
      })
    where
      no_surface_lem : (d : Result) → (passed p no_surface d).surface ≡ no_surface
      no_surface_lem d = by_case (λ (g : Given). g.surface ≡ no_surface) (eqb d.number 0) _ (declined p d.number d.bytes) (λ _. refl) (λ _. refl)

  pub lowest : Lowest p r room
  lowest =
      let a = answered in
      record {
        given = λ is z. let k = a.given is z in ap (is_free p) k.0 ∙ k.1;
        lower = λ is z x h. free_below p x (subst (λ (y : ℕ). x < y) (a.given is z).0 h);
        other = a.other;
        refused = a.refused;
      }

  -- a pool has at most 64 surfaces
  pub eighteen : p.surfaces ≤ no_surface → Eighteen p r room
  eighteen few =
      let a = answered in
      record {
        given = λ m is f. a.eighteen m is (none_free p f);
        only = λ z. let k = a.only z in (k.0, k.1, free_none p few k.2);
      }

-- ---- a return

pub nineteen : (p : Pool) (x : ℕ) → Nineteen p x
unfolding pool_return
nineteen p x =
    record {
      none = λ z. number (split (ltb x p.surfaces) (λ e. rw (e, z)) (λ e. rw e));
      foreign = λ h. number (rw (le-ltb x p.surfaces h));
      else = λ l h. ap (λ (b : Bool). (cond b given none_given).number) (both (lt-ltb x p.surfaces l) (lt-ltb 0 (p.pending x) h));
    }
  where
    given : Returned
    given = record { number = 0; next = one_less p x }

    none_given : Returned
    none_given = record { number = 19; next = p }

    number : is_pending p x ≡ false → (cond (is_pending p x) given none_given).number ≡ 19
    number e = ap (λ (b : Bool). (cond b given none_given).number) e

-- ---- either

pub call_left : (p : Pool) (c : Call) → ((answer_to p c).number ≡ 0 → ⊥) → after p c ≡ p
unfolding answer_to after pool_return
call_left p (Lends r room) h = (answered p r room).left h
call_left p (Returns x) h = by_case (λ (a : Returned). (a.number ≡ 0 → ⊥) → a.next ≡ p) (is_pending p x) _ _ (λ _ k. absurd (k refl)) (λ _ _. refl) h
