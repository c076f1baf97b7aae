-- Number 7 never comes through a pool: of all the tests only begin's has that number, it asks whether a stored picture
-- lies on the begin's surface, and the surface that the pool gives is held by none.
use Prim.Native.Nat.{ℕ, ◌≤◌}
use mathlib.Core.Path.{◌≡◌, refl, sym, ap, ◌∙◌}
use mathlib.Core.List.{List, [], ◌∷◌, ◌++◌, map}
use mathlib.Core.Bool.{Bool, true, false, not, ◌&&◌, ◌||◌}
use native.Mathlib.Omega.{arith}
use lib.Dec.{ltb, eqb}
use borrow.Author.Tests.{ltb-true, not-true}
use Rattle.paper.specs.declared.Current.{Current}
use Rattle.paper.specs.Words.{Test, ◌gives◌, first, any_b}
use Rattle.paper.specs.Numbers.{u32, a_surface}
use Rattle.paper.specs.Kinds.{configure_kind, begin_kind, lists_kind, finish_kind, drain_kind, discard_kind, end_kind, abandon_kind, reply_to, surface_place}
use Rattle.paper.specs.Records.{kind_of, limits_of, fields_of, slice_of, well_formed}
use Rattle.paper.specs.State.{Session, is_current, on_now}
use Rattle.paper.specs.Calls.{full, abandoned_session, dropped}
use Rattle.paper.specs.Step.{Decided, Result, refused, accepted, unless, held_by, configure_refusal, configure_of, begin_refusal, begin_of, lists_refusal, lists_at, lists_of, finish_at, finish_of, drain_of, discard_of, end_of, abandon_of, by_kind, decide_of, step_of}
use Rattle.paper.specs.Ledger.{lies}
use Rattle.paper.specs.Statement.{line, ledger_of}
use Rattle.paper.proofs.Bools.{both, left, right, or_left, split, by_case, not_both, any_map}
use Rattle.paper.proofs.Every.{All}
use Rattle.session.specs.Target.{is_begin, with_surface}
use Rattle.pool.specs.Pool.{Pool, no_surface, is_free, lowest_free}
use Rattle.pool.specs.Calls.{Given, declined, passed, pool_step, Returned, is_pending, pool_return}
use Rattle.pool.specs.History.{Call, Lends, Returns, answer_to}
use Rattle.pool.specs.Statement.{Agrees}
use Rattle.session.proofs.Targets.{with_surface_lem}
use Rattle.pool.proofs.Lowest.{free_found}
use Rattle.pool.proofs.Answers.{by_step}
use Rattle.std.proofs.Common.{Option, None, Some}

-- ---- what is decided

record NotSeven (d : Decided) : Type 0 where
  not_seven : d.number ≡ 7 → ⊥

-- an order of tests none of which is 7 and holds
abbrev Else : Test → Type 0
Else t = t.number ≡ 7 → t.holds ≡ true → ⊥

first_else : (ts : List Test) → All Else ts → first ts ≡ 7 → ⊥
unfolding first
first_else [] a e = omega (arith, e)
first_else (t ∷ ts) a e =
    split t.holds (λ p. let k : t.number ≡ 7 = rw p at e in a.0 k p) (λ p. first_else ts a.1 (rw p at e))

or_seven : (s : Session) (kind n : ℕ) (d : Decided) → (n ≡ 7 → ⊥) → d.number ≡ 0 → NotSeven (unless s kind n d)
or_seven s kind n d h z =
    by_case NotSeven (eqb n 0) d (refused s (reply_to kind) n) (λ _. record { not_seven = λ e. omega (arith, e, z) }) (λ _. record { not_seven = h })

module _ (s : Session) (r : List ℕ) where
  seven_configure : NotSeven (configure_of s (limits_of r))
  unfolding configure_of configure_refusal
  seven_configure = or_seven s 1 _ _ (first_else _ (λ e _. omega (arith, e), (λ e _. omega (arith, e), tt))) refl

  seven_begin : any_b (held_by (fields_of r).surface) s.store ≡ false → NotSeven (begin_of s (fields_of r))
  unfolding begin_of begin_refusal
  seven_begin f =
      or_seven s 2 _ _
      (first_else _
      (λ e _. omega (arith, e), (λ e _. omega (arith, e), (λ e _. omega (arith, e), (λ e _. omega (arith, e), (λ _ h. not_both _ h f, (λ e _. omega (arith, e), tt))))))) refl

  seven_lists : NotSeven (lists_of s (slice_of r))
  unfolding lists_of lists_refusal
  seven_lists = go s.current
    where
      go : (x : Option Current) → NotSeven (on_now x (refused s (reply_to lists_kind) 4) (lists_at s (slice_of r)))
      go None = record { not_seven = λ e. omega (arith, e) }
      go (Some c) =
          or_seven s 3 _ _
          (first_else _
          (λ e _. omega (arith, e), (λ e _. omega (arith, e), (λ e _. omega (arith, e), (λ e _. omega (arith, e), (λ e _. omega (arith, e), (λ e _. omega (arith, e), tt))))))) refl

  seven_finish : NotSeven (finish_of s)
  unfolding finish_of
  seven_finish = go s.current
    where
      go : (x : Option Current) → NotSeven (on_now x (refused s (reply_to finish_kind) 4) (finish_at s))
      go None = record { not_seven = λ e. omega (arith, e) }
      go (Some c) = or_seven s 4 (first (full s gives 9 ∷ [])) _ (first_else (full s gives 9 ∷ []) (λ e _. omega (arith, e), tt)) refl

  seven_drain : NotSeven (drain_of s)
  unfolding drain_of
  seven_drain =
      or_seven s 5 (first ((is_current s.current && full s) gives 9 ∷ [])) _ (first_else ((is_current s.current && full s) gives 9 ∷ []) (λ e _. omega (arith, e), tt)) refl

  seven_abandon : NotSeven (abandon_of s)
  unfolding abandon_of
  seven_abandon = go s.current
    where
      go : (x : Option Current) → NotSeven (on_now x (refused s (reply_to abandon_kind) 4) (λ (c : Current). accepted (abandoned_session s) abandon_kind (dropped c)))
      go None = record { not_seven = λ e. omega (arith, e) }
      go (Some c) = record { not_seven = λ e. omega (arith, e) }

  decided : (is_begin r ≡ true → any_b (held_by (fields_of r).surface) s.store ≡ false) → NotSeven (decide_of s r)
  unfolding decide_of by_kind discard_of end_of
  decided f =
      by_case NotSeven (well_formed r) _ _
      (λ h.
      by_case NotSeven (eqb (kind_of r) configure_kind) _ _ (λ _. seven_configure) (λ _.
      by_case NotSeven (eqb (kind_of r) begin_kind) _ _ (λ e. seven_begin (f (both h e))) (λ _.
      by_case NotSeven (eqb (kind_of r) lists_kind) _ _ (λ _. seven_lists) (λ _.
      by_case NotSeven (eqb (kind_of r) finish_kind) _ _ (λ _. seven_finish) (λ _.
      by_case NotSeven (eqb (kind_of r) drain_kind) _ _ (λ _. seven_drain) (λ _.
      by_case NotSeven (eqb (kind_of r) discard_kind) _ _ (λ _. record { not_seven = λ e. omega (arith, e) }) (λ _.
      by_case NotSeven (eqb (kind_of r) end_kind) _ _ (λ _. record { not_seven = λ e. omega (arith, e) }) (λ _. seven_abandon))))))))
      (λ _. record { not_seven = λ e. omega (arith, e) })

  stepped : (is_begin r ≡ true → any_b (held_by (fields_of r).surface) s.store ≡ false) → (room : ℕ) → (step_of s r room).number ≡ 7 → ⊥
  unfolding step_of
  stepped f room =
      by_case (λ (x : Result). x.number ≡ 7 → ⊥) (ltb room 512) _ _ (λ _ e. omega (arith, e)) (λ _ e. (decided f).not_seven e)

-- ---- through the pool

-- on a surface that is not held no stored picture lies
any_first : {A : Type 0} (f : A → Bool) (xs ys : List A) → any_b f (xs ++ ys) ≡ false → any_b f xs ≡ false
unfolding any_b
any_first f [] ys e = refl
any_first f (x ∷ xs) ys e = split (f x) (λ p. not_both (f x || any_b f (xs ++ ys)) (or_left (f x) _ p) e) (λ p. rw p (any_first f xs ys (rw p at e)))

bare : (p : Pool) → Agrees p → (x : ℕ) → is_free p x ≡ true → any_b (held_by (a_surface x)) p.session.store ≡ false
bare p a x f =
    let h : p.held x ≡ false = not-true (p.held x) (left (not (p.held x)) _ (right (ltb x p.surfaces) _ f)) in
    let n : any_b (lies x) (map line p.session.store) ≡ false = any_first (lies x) (map line p.session.store) (ledger_of p.session).current (sym (a.held x) ∙ h) in
    sym (any_map (lies x) line p.session.store) ∙ n

named_surface : (r : List ℕ) → (fields_of r).surface ≡ a_surface (u32 r surface_place)
unfolding fields_of
named_surface r = refl

passed_else : (p : Pool) (x : ℕ) (d : Result) → (d.number ≡ 7 → ⊥) → (passed p x d).number ≡ 7 → ⊥
passed_else p x d h = by_case (λ (g : Given). g.number ≡ 7 → ⊥) (eqb d.number 0) _ (declined p d.number d.bytes) (λ _ e. omega (arith, e)) (λ _ e. h e)

lent_seven : (p : Pool) → Agrees p → p.surfaces ≤ no_surface → (r : List ℕ) (room : ℕ) → (pool_step p r room).number ≡ 7 → ⊥
lent_seven p a few r room =
    by_step p r room (λ (g : Given). g.number ≡ 7 → ⊥)
    (record {
      small = λ _ _ e. omega (arith, e);
      full = λ _ _ _ e. omega (arith, e);
      begin = λ is _ e.
          let x = lowest_free p in
          let q = with_surface x r in
          let f = free_found p e in
          let l = ltb-true x p.surfaces (left (ltb x p.surfaces) _ f) in
          let on = named_surface q ∙ ap a_surface (with_surface_lem x r is (omega (arith, l, few))) in
          passed_else p x (step_of p.session q room) (stepped p.session q (λ _. rw on (bare p a x f)) room);
      other = λ o. passed_else p 64 (step_of p.session r room) (stepped p.session r (λ is. not_both (is_begin r) is o) room);
    })

pub seven : (p : Pool) → Agrees p → p.surfaces ≤ no_surface → (c : Call) → (answer_to p c).number ≡ 7 → ⊥
unfolding answer_to pool_return
seven p a few (Lends r room) e = lent_seven p a few r room e
seven p a few (Returns x) e = by_case (λ (b : Returned). b.number ≡ 7 → ⊥) (is_pending p x) _ _ (λ _ k. omega (arith, k)) (λ _ k. omega (arith, k)) e
