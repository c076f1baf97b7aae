-- Item 3: one walk finds what two do, because after n places it has the lowest of those n, and a list has one lowest.
-- Assumes nothing.
use Prim.Native.Nat.{ℕ, zero, suc, ◌+◌, ◌<◌}
use mathlib.Core.Path.{◌≡◌, refl, sym, ap, subst, ◌∙◌}
use mathlib.Core.Bool.{Bool, true, false, cond}
use mathlib.Core.List.{List, [], ◌∷◌}
use native.Mathlib.Omega.{arith}
use lib.Dec.{eqb}
use lib.ListN.{length}
use lib.IntN.{ℤ, pos, negsuc}
use lib.Signed.{lt_z}
use borrow.Author.Tests.{eqb-true, eqb-false}
use Rattle.paper.specs.Words.{keep}
use Rattle.paper.specs.Poc.{eq_z}
use Rattle.paper.specs.Output.{is_it}
use Rattle.paper.specs.declared.Picture.{Picture}
use Rattle.paper.specs.declared.Mark.TheVariants.{Unmarked}
use Rattle.paper.proofs.Bools.{both, split, by_case, not_both}
use Rattle.paper.proofs.Whole.{lt_z_true, lt_z_false, lt_z_apart, eq_z_same}
use Rattle.store.specs.Places.{place_at}
use Rattle.store.specs.Tails.{waits}
use Rattle.store.specs.OneWalk.{lowest_at, lower_by, walk_from, one_walk, least_from, min_by_poc, position, placed, two_walks, has_its_poc, rust_walks}
use Rattle.store.specs.OneWalk.{Leads, NoneWaits, NoneBefore, PocsDiffer, Item3}
use Rattle.store.specs.declared.bumping.Lowest.{Lowest}
use Rattle.std.proofs.Common.{Option, None, Some}

-- ---- the order of POCs

not_below_itself : (a : ℤ) → lt_z a a ≡ false
not_below_itself a = split (lt_z a a) (λ e. absurd (omega (arith, lt_z_true a a e))) (λ e. e)

not_back : (a b : ℤ) → lt_z a b ≡ true → lt_z b a ≡ false
not_back a b h = split (lt_z b a) (λ e. absurd (omega (arith, lt_z_true a b h, lt_z_true b a e))) (λ e. e)

-- below b, and so below each c that is not
below_more : (a b c : ℤ) → lt_z a b ≡ true → lt_z c b ≡ false → lt_z a c ≡ true
below_more a b c h k =
    split (lt_z a c) (λ e. e) (λ e. absurd (omega (arith, lt_z_true a b h, lt_z_false c b k, lt_z_false a c e)))

-- ---- the lowest of the first n places of g

record LeadsIn (g : ℕ → Picture) (n i : ℕ) (z : ℤ) : Type 0 where
  stands : i < n
  waiting : (g i).waiting ≡ true
  poc : (g i).poc ≡ z
  lowest : (j : ℕ) → j < n → (g j).waiting ≡ true → lt_z (g j).poc z ≡ false
  first : (j : ℕ) → j < i → (g j).waiting ≡ true → lt_z z (g j).poc ≡ true

abbrev BestIn : (ℕ → Picture) → ℕ → Option Lowest → Type 0
BestIn g n None = (j : ℕ) → j < n → (g j).waiting ≡ false
BestIn g n (Some x) = LeadsIn g n x.at x.poc

-- what holds below n, and at n
one_more : (P : ℕ → Type 0) (n : ℕ) → ((j : ℕ) → j < n → P j) → P n → (j : ℕ) → j < suc n → P j
one_more P n h k j lt =
    split (eqb j n)
    (λ e. subst P (sym (eqb-true j n e)) k)
    (λ e. let d = eqb-false j n e in h j (omega arith))

module _ (g : ℕ → Picture) (n : ℕ) where
  -- the lowest stays, the picture at n being none that is lower
  stays : (i : ℕ) (z : ℤ) → LeadsIn g n i z → ((g n).waiting ≡ true → lt_z (g n).poc z ≡ false) → LeadsIn g (suc n) i z
  stays i z b h =
      record {
        stands = omega (arith, b.stands);
        waiting = b.waiting;
        poc = b.poc;
        lowest = one_more (λ (j : ℕ). (g j).waiting ≡ true → lt_z (g j).poc z ≡ false) n b.lowest h;
        first = b.first;
      }

  -- or it is the picture at n, which is lower than all in front of it
  leads_now : (g n).waiting ≡ true
      → ((j : ℕ) → j < n → (g j).waiting ≡ true → lt_z (g n).poc (g j).poc ≡ true)
      → LeadsIn g (suc n) n (g n).poc
  leads_now w h =
      record {
        stands = omega arith;
        waiting = w;
        poc = refl;
        lowest = one_more (λ (j : ℕ). (g j).waiting ≡ true → lt_z (g j).poc (g n).poc ≡ false) n
            (λ j lt v. not_back (g n).poc (g j).poc (h j lt v)) (λ v. not_below_itself (g n).poc);
        first = h;
      }

  -- a picture that does not wait, and one that does
  passed : (x : Option Lowest) → BestIn g n x → (g n).waiting ≡ false → BestIn g (suc n) x
  passed None b w = one_more (λ (j : ℕ). (g j).waiting ≡ false) n b w
  passed (Some x) b w = stays x.at x.poc b (λ v. not_both (g n).waiting v w)

  met : (x : Option Lowest) → BestIn g n x → (g n).waiting ≡ true → BestIn g (suc n) (lower_by x n (g n).poc)
  met None b w = leads_now w (λ j lt v. not_both (g j).waiting v (b j lt))
  met (Some x) b w =
      by_case (BestIn g (suc n)) (lt_z (g n).poc x.poc) (lowest_at n (g n).poc) (Some x)
      (λ e. leads_now w (λ j lt v. below_more (g n).poc x.poc (g j).poc e (b.lowest j lt v)))
      (λ e. stays x.at x.poc b (λ v. e))

  best_more : (x : Option Lowest) → BestIn g n x → BestIn g (suc n) (cond (g n).waiting (lower_by x n (g n).poc) x)
  best_more x b = by_case (BestIn g (suc n)) (g n).waiting (lower_by x n (g n).poc) x (met x b) (passed x b)

-- the walk goes on over ps, which stands in g from place n on
walk_best : (g : ℕ → Picture) (n : ℕ) (x : Option Lowest) (ps : List Picture)
    → ((j : ℕ) → g (n + j) ≡ place_at ps j) → BestIn g n x → BestIn g (n + length ps) (walk_from n x ps)
unfolding walk_from
walk_best g n x [] h b = let e : n ≡ n + 0 = omega arith in subst (λ (k : ℕ). BestIn g k x) e b
walk_best g n x (p ∷ ps) h b =
    let e : suc n + length ps ≡ n + suc (length ps) = omega arith in
    let here : g n ≡ p = ap g (omega arith) ∙ h 0 in
    let m : BestIn g (suc n) (cond p.waiting (lower_by x n p.poc) x) = rw here at (best_more g n x b) in
    subst (λ (k : ℕ). BestIn g k (walk_from n x (p ∷ ps))) e
    (walk_best g (suc n) (cond p.waiting (lower_by x n p.poc) x) ps (λ j. ap g (omega arith) ∙ h (suc j)) m)

-- ---- what one walk finds

abbrev Best : List Picture → Option Lowest → Type 0
Best ps None = NoneWaits ps
Best ps (Some x) = Leads ps x.at x.poc

one_walk_best : (ps : List Picture) → Best ps (one_walk ps)
one_walk_best ps =
    let e : 0 + length ps ≡ length ps = omega arith in
    let b = walk_best (place_at ps) 0 None ps (λ j. ap (place_at ps) (omega arith)) (λ j lt. absurd (omega arith)) in
    go (one_walk ps) (subst (λ (k : ℕ). BestIn (place_at ps) k (one_walk ps)) e b)
  where
    go : (x : Option Lowest) → BestIn (place_at ps) (length ps) x → Best ps x
    go None b = b
    go (Some x) b = record { stands = b.stands; waiting = b.waiting; poc = b.poc; lowest = b.lowest; first = b.first }

found : (ps : List Picture) (i : ℕ) (z : ℤ) → one_walk ps ≡ lowest_at i z → Leads ps i z
found ps i z e = subst (Best ps) e (one_walk_best ps)

nothing : (ps : List Picture) → one_walk ps ≡ None → NoneWaits ps
nothing ps e = subst (Best ps) e (one_walk_best ps)

-- of two that lead, neither stands in front of the other
not_in_front : (ps : List Picture) (i j : ℕ) (y z : ℤ) → Leads ps i y → Leads ps j z → i < j → ⊥
not_in_front ps i j y z a b lt =
    let h : lt_z z y ≡ true = rw a.poc at (b.first i lt a.waiting) in
    let k : lt_z z y ≡ false = rw b.poc at (a.lowest j b.stands b.waiting) in
    not_both (lt_z z y) h k

only : (ps : List Picture) (i : ℕ) (z : ℤ) → Leads ps i z → one_walk ps ≡ lowest_at i z
only ps i z a = go (one_walk ps) (one_walk_best ps)
  where
    go : (x : Option Lowest) → Best ps x → x ≡ lowest_at i z
    go None b = not_both (place_at ps i).waiting a.waiting (b i a.stands)
    go (Some x) b =
        let e : x.at ≡ i = omega (arith, not_in_front ps i x.at z x.poc a b, not_in_front ps x.at i x.poc z b a) in
        ap (λ (k : ℕ). lowest_at k x.poc) e ∙ ap (lowest_at i) (sym b.poc ∙ ap (λ (k : ℕ). (place_at ps k).poc) e ∙ a.poc)

none : (ps : List Picture) → NoneWaits ps → one_walk ps ≡ None
none ps h = go (one_walk ps) (one_walk_best ps)
  where
    go : (x : Option Lowest) → Best ps x → x ≡ None
    go None b = refl
    go (Some x) b = not_both (place_at ps x.at).waiting b.waiting (h x.at b.stands)

-- ---- the first place of which t holds

module _ (t : Picture → Bool) where
  position_is : (ps : List Picture) (i : ℕ) → i < length ps → t (place_at ps i) ≡ true
      → ((j : ℕ) → j < i → t (place_at ps j) ≡ false) → position t ps ≡ i
  unfolding position
  position_is [] i lt e h = absurd (omega arith)
  position_is (p ∷ ps) zero lt e h = rw e
  position_is (p ∷ ps) (suc i) lt e h =
      let m : t p ≡ false = h 0 (omega arith) in
      rw m (ap suc (position_is ps i (omega arith) e (λ j l. h (suc j) (omega arith))))

  position_before : (ps : List Picture) (j : ℕ) → j < position t ps → t (place_at ps j) ≡ false
  unfolding position
  position_before [] j lt = absurd (omega arith)
  position_before (p ∷ ps) zero lt = split (t p) (λ e. let l = rw e at lt in absurd (omega arith)) (λ e. e)
  position_before (p ∷ ps) (suc j) lt =
      split (t p)
      (λ e. let l = rw e at lt in absurd (omega arith))
      (λ e. let l : suc j < suc (position t ps) = rw e at lt in position_before ps j (omega arith))

-- ---- two walks

-- the first of them finds the POC that one walk finds
abbrev OnePoc : Option Lowest → Option Picture → Type 0
OnePoc None None = Unit {0}
OnePoc (Some x) (Some p) = x.poc ≡ p.poc
OnePoc None (Some p) = ⊥
OnePoc (Some x) None = ⊥

-- two that go the same way
both_ways : {A B : Type 0} (Q : A → B → Type 0) (b : Bool) (x y : A) (u v : B) → Q x u → Q y v → Q (cond b x y) (cond b u v)
both_ways Q true x y u v h k = h
both_ways Q false x y u v h k = k

-- the POC of the lowest so far, carried on over ps
poc_on : (i j : ℕ) (p : Picture) (ps : List Picture) → OnePoc (walk_from i (lowest_at j p.poc) ps) (Some (least_from p (keep waits ps)))
unfolding walk_from least_from keep
poc_on i j p [] = refl
poc_on i j p (q ∷ ps) =
    let k = poc_on (suc i) j p ps in
    both_ways (λ (x : Option Lowest) (l : List Picture). OnePoc (walk_from (suc i) x ps) (Some (least_from p l)))
    q.waiting (lower_by (lowest_at j p.poc) i q.poc) (lowest_at j p.poc) (q ∷ keep waits ps) (keep waits ps)
    (both_ways (λ (x : Option Lowest) (r : Picture). OnePoc (walk_from (suc i) x ps) (Some (least_from r (keep waits ps))))
    (lt_z q.poc p.poc) (lowest_at i q.poc) (lowest_at j p.poc) q p (poc_on (suc i) i q ps) k)
    k

one_poc : (i : ℕ) (ps : List Picture) → OnePoc (walk_from i None ps) (min_by_poc (keep waits ps))
unfolding walk_from keep
one_poc i [] = tt
one_poc i (q ∷ ps) =
    both_ways (λ (x : Option Lowest) (l : List Picture). OnePoc (walk_from (suc i) x ps) (min_by_poc l))
    q.waiting (lowest_at i q.poc) None (q ∷ keep waits ps) (keep waits ps) (poc_on (suc i) i q ps) (one_poc (suc i) ps)

module _ (ps : List Picture) (i : ℕ) (p : Picture) (a : Leads ps i p.poc) where
  -- each in front of it is passed over: it does not wait, or is higher
  not_it : (j : ℕ) → j < i → is_it p (place_at ps j) ≡ false
  not_it j lt =
      split (place_at ps j).waiting
      (λ w. rw (w, lt_z_apart p.poc (place_at ps j).poc (a.first j lt w)))
      (λ w. rw w)

  pub it_stands : position (is_it p) ps ≡ i
  it_stands = position_is (is_it p) ps i a.stands (both a.waiting (eq_z_same _ _ a.poc)) not_it

same : (ps : List Picture) → one_walk ps ≡ two_walks ps
same ps = go (one_walk ps) (min_by_poc (keep waits ps)) (one_walk_best ps) (one_poc 0 ps)
  where
    go : (x : Option Lowest) (f : Option Picture) → Best ps x → OnePoc x f → x ≡ placed is_it ps f
    go None None b e = refl
    go None (Some p) b e = absurd e
    go (Some x) None b e = absurd e
    go (Some x) (Some p) b e = rw (← it_stands ps x.at p (rw e at b), ← e)

-- ---- the Rust's second walk

rust_none : (ps : List Picture) → one_walk ps ≡ None → rust_walks ps ≡ None
rust_none ps e = go (min_by_poc (keep waits ps)) (rw e at (one_poc 0 ps))
  where
    go : (f : Option Picture) → OnePoc None f → placed has_its_poc ps f ≡ None
    go None o = refl
    go (Some p) o = absurd o

rust_same : (ps : List Picture) (i : ℕ) (z : ℤ) → one_walk ps ≡ lowest_at i z → NoneBefore ps i z → rust_walks ps ≡ lowest_at i z
rust_same ps i z e h = go (min_by_poc (keep waits ps)) (rw e at (one_poc 0 ps))
  where
    go : (f : Option Picture) → OnePoc (lowest_at i z) f → placed has_its_poc ps f ≡ lowest_at i z
    go None o = absurd o
    go (Some p) o =
        let a = found ps i z e in
        rw (← o) (ap (λ (k : ℕ). lowest_at k z) (position_is (λ (q : Picture). eq_z q.poc z) ps i a.stands (eq_z_same _ _ a.poc) h))

-- the place of what was found
abbrev place_of : Option Lowest → ℕ
place_of None = 0
place_of (Some x) = x.at

rust_only : (ps : List Picture) (i : ℕ) (z : ℤ) → one_walk ps ≡ lowest_at i z → rust_walks ps ≡ lowest_at i z → NoneBefore ps i z
rust_only ps i z e = go (min_by_poc (keep waits ps)) (rw e at (one_poc 0 ps))
  where
    go : (f : Option Picture) → OnePoc (lowest_at i z) f → placed has_its_poc ps f ≡ lowest_at i z → NoneBefore ps i z
    go None o r = absurd o
    go (Some p) o r =
        let k : position (has_its_poc p) ps ≡ i = ap place_of r in
        λ j lt. rw o (position_before (has_its_poc p) ps j (omega (arith, k)))

rust_domain : (ps : List Picture) → PocsDiffer ps → rust_walks ps ≡ one_walk ps
rust_domain ps d = go (one_walk ps) refl
  where
    go : (x : Option Lowest) → one_walk ps ≡ x → rust_walks ps ≡ x
    go None e = rust_none ps e
    go (Some x) e =
        let i = x.at in
        let z = x.poc in
        let a = found ps i z e in
        rust_same ps i z e
        (λ j lt.
        split (eq_z (place_at ps j).poc z)
        (λ q. absurd (omega (arith, lt, d j i (omega (arith, a.stands)) a.stands (ap (λ (y : ℤ). eq_z (place_at ps j).poc y) a.poc ∙ q))))
        (λ q. q))

pub item_3 : Item3
item_3 =
    record {
      same = same;
      found = found;
      only = only;
      nothing = nothing;
      none = none;
      rust_none = rust_none;
      rust_same = rust_same;
      rust_only = rust_only;
      rust_domain = rust_domain;
    }

-- ---- examples, by computing

-- a picture, by its serial, its POC, and whether it waits
abbrev picture : ℕ → ℤ → Bool → Picture
picture n z w = record { serial = record { 0 = n }; surface = record { 0 = n }; poc = z; mark = Unmarked; waiting = w; count = 0 }

-- what the three answer
record Answers (ps : List Picture) (x y : Option Lowest) : Type 0 where
  one : one_walk ps ≡ x
  two : two_walks ps ≡ x
  rust : rust_walks ps ≡ y

-- a tie: the earlier place
tie : Answers (picture 0 (pos 9) true ∷ (picture 1 (pos 4) true ∷ (picture 2 (pos 4) true ∷ []))) (lowest_at 1 (pos 4)) (lowest_at 1 (pos 4))
unfolding walk_from least_from position keep
tie = record { one = refl; two = refl; rust = refl }

-- an earlier picture of its POC that does not wait: the Rust finds that one's place (docs/DIFFERENCES.md, 1)
shadowed : Answers (picture 0 (pos 4) false ∷ (picture 1 (pos 4) true ∷ [])) (lowest_at 1 (pos 4)) (lowest_at 0 (pos 4))
unfolding walk_from least_from position keep
shadowed = record { one = refl; two = refl; rust = refl }

-- two that are equal in every field
twins : Answers (picture 0 (pos 4) true ∷ (picture 0 (pos 4) true ∷ [])) (lowest_at 0 (pos 4)) (lowest_at 0 (pos 4))
unfolding walk_from least_from position keep
twins = record { one = refl; two = refl; rust = refl }

-- none waits
none_waits : Answers (picture 0 (pos 4) false ∷ (picture 1 (pos 2) false ∷ [])) None None
unfolding walk_from least_from position keep
none_waits = record { one = refl; two = refl; rust = refl }

-- a POC below 0 is lower than one above it: -3 and 2
below_zero : Answers (picture 0 (pos 2) true ∷ (picture 1 (negsuc 2) true ∷ [])) (lowest_at 1 (negsuc 2)) (lowest_at 1 (negsuc 2))
unfolding walk_from least_from position keep
below_zero = record { one = refl; two = refl; rust = refl }
