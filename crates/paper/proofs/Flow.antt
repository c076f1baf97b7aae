-- What an event takes from the accounts.
use Rattle.paper.specs.declared.Serial.{Serial}
use Rattle.paper.specs.declared.Surface.{Surface}
use Rattle.paper.specs.declared.Shown.{Shown}
use Rattle.paper.specs.Words.{keep, all_b, any_b}
use Rattle.paper.specs.Numbers.{serial_nos, surface_nos}
use Rattle.paper.specs.Output.{Tail}
use Rattle.paper.specs.declared.Line.{Line}
use Rattle.paper.specs.Ledger.{Event, Hand, Throw, Free, waits_as, waits, lies, quiet_at, may, off, free, upon, may_all, upon_all, events}
use Rattle.paper.specs.Accounts.{count, serials, surfaces, wanting}
use Prim.Native.Nat.{ℕ, ◌+◌, ◌≤◌}
use mathlib.Core.Path.{◌≡◌, refl, sym, ap, ◌∙◌}
use mathlib.Core.List.{List, [], ◌∷◌, ◌++◌, map, append-nil, append_assoc, map-append, map-map}
use mathlib.Core.Bool.{Bool, true, false, cond, not, ◌&&◌, ◌||◌}
use native.Mathlib.Omega.{arith}
use lib.Dec.{eqb}
use borrow.Author.Tests.{eqb-true}
use Rattle.paper.proofs.Bools as B
use Rattle.paper.proofs.Bools.{both, left, right, split, not_both}
use Rattle.paper.proofs.Every.{All, all_keep, all_map, all_more, keep_all}
use Rattle.paper.proofs.Apart.{flip}
use Rattle.paper.proofs.Moves.{wanting_is}

pub record Off2 (e x : Line) : Type 0 where
  pub serial : eqb e.serial.0 x.serial.0 ≡ false
  pub surface : eqb e.surface.0 x.surface.0 ≡ false

-- lines of different serials and different surfaces
abbrev pub Sep : List Line → Type 0
Sep [] = Unit {0}
Sep (e ∷ H) = All (Off2 e) H × Sep H

sep_off : (n : ℕ) (H : List Line) → Sep H → Sep (map (off n) H)
sep_off n [] d = tt
sep_off n (e ∷ H) d = (all_map (Off2 e) (Off2 (off n e)) (off n) (λ x o. record { serial = o.serial; surface = o.surface }) H d.0, sep_off n H d.1)

sep_keep : (f : Line → Bool) (H : List Line) → Sep H → Sep (keep f H)
unfolding keep
sep_keep f [] d = tt
sep_keep f (e ∷ H) d = split (f e) (λ p. rw p (all_keep (Off2 e) f H d.0, sep_keep f H d.1)) (λ p. rw p (sep_keep f H d.1))

pub sep_upon : (x : Event) (H : List Line) → Sep H → Sep (upon x H)
unfolding upon free
sep_upon (Hand x) H d = sep_off x.serial.0 H d
sep_upon (Throw n) H d = sep_off n.0 H d
sep_upon (Free x) H d = sep_keep (λ (e : Line). not (lies x.0 e)) H d

-- 1 where n is m
abbrev pub hit : ℕ → ℕ → ℕ
hit n m = cond (eqb n m) 1 0

pub count_append : (n : ℕ) (xs ys : List ℕ) → count n (xs ++ ys) ≡ count n xs + count n ys
unfolding count
count_append n [] ys = omega arith
count_append n (x ∷ xs) ys = omega (arith, count_append n xs ys)

-- a line that is not n is not changed
off_other : (n : ℕ) (e : Line) → eqb n e.serial.0 ≡ false → off n e ≡ e
off_other n e h = wanting_is e (n_and e.wants (eqb n e.serial.0) h)
  where
    n_and : (w b : Bool) → b ≡ false → (w && not b) ≡ w
    n_and true b p = rw p
    n_and false b p = refl

offs_other : (n : ℕ) (H : List Line) → All (λ (e : Line). eqb n e.serial.0 ≡ false) H → map (off n) H ≡ H
offs_other n [] a = refl
offs_other n (e ∷ H) a = rw (off_other n e a.0, offs_other n H a.1)

any_at : {X : Type 0} (f : Line → Bool) (P : Line → Type 0) (H : List Line) → All P H → ((e : Line) → P e → f e ≡ true → X) → any_b f H ≡ true → X
unfolding any_b
any_at f P [] a k h = not_both false h refl
any_at f P (e ∷ H) a k h = split (f e) (λ p. k e a.0 p) (λ p. any_at f P H a.1 k (rw p at h))

abbrev W : ℕ → List Line → ℕ
W n H = count n (serials (wanting H))

pub wants_cons : (n : ℕ) (e : Line) (H : List Line) → W n (e ∷ H) ≡ cond e.wants (hit n e.serial.0) 0 + W n H
unfolding wanting keep count
wants_cons n e H = split e.wants (λ w. rw w) (λ w. rw w (omega arith))

off_now : (w b : Bool) → b ≡ true → (w && not b) ≡ false
off_now true b e = rw e
off_now false b e = refl

-- one that waits under m is taken off
count_off : (n m : ℕ) (H : List Line) → Sep H → any_b (waits m) H ≡ true → W n H ≡ W n (map (off m) H) + hit n m
unfolding any_b
count_off n m [] d h = not_both false h refl
count_off n m (e ∷ H) d h =
    split (waits m e)
    (λ p.
    let w : e.wants ≡ true = left e.wants _ p in
    let q : m ≡ e.serial.0 = eqb-true m e.serial.0 (right e.wants _ p) in
    let s : map (off m) H ≡ H = offs_other m H (all_more (Off2 e) _ (λ x o. rw q o.serial) H d.0) in
    let a : W n (e ∷ H) ≡ hit n e.serial.0 + W n H = wants_cons n e H ∙ rw w in
    let z : (e.wants && not (eqb m e.serial.0)) ≡ false = off_now e.wants (eqb m e.serial.0) (right e.wants _ p) in
    let b : W n (map (off m) (e ∷ H)) ≡ 0 + W n (map (off m) H) = wants_cons n (off m e) (map (off m) H) ∙ ap (λ (t : Bool). cond t (hit n e.serial.0) 0 + W n (map (off m) H)) z in
    let c : W n (map (off m) H) ≡ W n H = ap (W n) s in
    let k : hit n m ≡ hit n e.serial.0 = ap (hit n) q in
    omega (arith, a, b, c, k))
    (λ p.
    let rest : any_b (waits m) H ≡ true = rw p at h in
    let o : eqb m e.serial.0 ≡ false = any_at (waits m) (Off2 e) H d.0 (λ x u k. let q : m ≡ x.serial.0 = eqb-true m x.serial.0 (right x.wants _ k) in rw q (flip e.serial.0 x.serial.0 u.serial)) rest in
    let a = wants_cons n e H in
    let b : W n (map (off m) (e ∷ H)) ≡ cond e.wants (hit n e.serial.0) 0 + W n (map (off m) H) = ap (λ (x : Line). W n (x ∷ map (off m) H)) (off_other m e o) ∙ wants_cons n e (map (off m) H) in
    let c = count_off n m H d.1 rest in
    omega (arith, a, b, c))

-- what is released does not wait
count_free : (n x : ℕ) (H : List Line) → all_b (quiet_at x) H ≡ true → W n (free x H) ≡ W n H
unfolding free keep all_b
count_free n x [] q = refl
count_free n x (e ∷ H) q =
    let k : W n (free x H) ≡ W n H = count_free n x H (right (quiet_at x e) _ q) in
    split (lies x e)
    (λ p.
    let w : e.wants ≡ false = is_quiet e.wants (lies x e) p (left (quiet_at x e) _ q) in
    rw p (k ∙ sym (wants_cons n e H ∙ rw w (omega arith))))
    (λ p. rw p (wants_cons n e (keep (λ (y : Line). not (lies x y)) H) ∙ ap (λ (j : ℕ). cond e.wants (hit n e.serial.0) 0 + j) k ∙ sym (wants_cons n e H)))
  where
    is_quiet : (w b : Bool) → b ≡ true → (not w || not b) ≡ true → w ≡ false
    is_quiet true b p h = not_both (not b) h (rw p)
    is_quiet false b p h = refl

-- surfaces
abbrev S : ℕ → List Line → ℕ
S y H = count y (surfaces H)

surf_off : (y n : ℕ) (H : List Line) → S y (map (off n) H) ≡ S y H
surf_off y n H = ap (count y) (map-map (λ (e : Line). e.surface.0) (off n) H)

free_other : (x : ℕ) (H : List Line) → All (λ (e : Line). lies x e ≡ false) H → free x H ≡ H
unfolding free
free_other x H a = keep_all (λ (e : Line). not (lies x e)) H (all_more (λ (e : Line). lies x e ≡ false) _ (λ e h. rw h) H a)

free_gone : (x : ℕ) (e : Line) (H : List Line) → lies x e ≡ true → free x (e ∷ H) ≡ free x H
unfolding free keep
free_gone x e H p = rw p

free_kept : (x : ℕ) (e : Line) (H : List Line) → lies x e ≡ false → free x (e ∷ H) ≡ e ∷ free x H
unfolding free keep
free_kept x e H p = rw p

surf_cons : (y : ℕ) (e : Line) (H : List Line) → S y (e ∷ H) ≡ hit y e.surface.0 + S y H
unfolding count
surf_cons y e H = refl

surf_free : (y x : ℕ) (H : List Line) → Sep H → any_b (lies x) H ≡ true → S y H ≡ S y (free x H) + hit y x
unfolding any_b
surf_free y x [] d h = not_both false h refl
surf_free y x (e ∷ H) d h =
    split (lies x e)
    (λ p.
    let q : x ≡ e.surface.0 = eqb-true x e.surface.0 p in
    let a : S y (free x (e ∷ H)) ≡ S y H = ap (S y) (free_gone x e H p ∙ free_other x H (all_more (Off2 e) _ (λ z o. rw q o.surface) H d.0)) in
    let b : S y (e ∷ H) ≡ hit y e.surface.0 + S y H = surf_cons y e H in
    let k : hit y x ≡ hit y e.surface.0 = ap (hit y) q in
    omega (arith, a, b, k))
    (λ p.
    let rest : any_b (lies x) H ≡ true = rw p at h in
    let a : S y (free x (e ∷ H)) ≡ hit y e.surface.0 + S y (free x H) = ap (S y) (free_kept x e H p) ∙ surf_cons y e (free x H) in
    let b : S y (e ∷ H) ≡ hit y e.surface.0 + S y H = surf_cons y e H in
    let c = surf_free y x H d.1 rest in
    omega (arith, a, b, c))

-- the serials that events take off, and the surfaces that they free
taken_by : Event → List ℕ
taken_by (Hand x) = x.serial.0 ∷ []
taken_by (Throw n) = n.0 ∷ []
taken_by (Free x) = []

freed_by : Event → List ℕ
freed_by (Hand x) = []
freed_by (Throw n) = []
freed_by (Free x) = x.0 ∷ []

flow_one : (n : ℕ) (x : Event) (H : List Line) → Sep H → may x H ≡ true → W n H ≡ W n (upon x H) + count n (taken_by x)
unfolding may upon taken_by count
flow_one n (Hand x) H d m =
    let k = count_off n x.serial.0 H d (B.any_mono (waits_as x) (waits x.serial.0) (λ e h. both (left e.wants _ h) (left (eqb x.serial.0 e.serial.0) _ (right e.wants _ h))) H m) in
    omega (arith, k)
flow_one n (Throw y) H d m = let k = count_off n y.0 H d m in omega (arith, k)
flow_one n (Free x) H d m = let k = count_free n x.0 H (right (any_b (lies x.0) H) _ m) in omega (arith, k)

surf_one : (y : ℕ) (x : Event) (H : List Line) → Sep H → may x H ≡ true → S y H ≡ S y (upon x H) + count y (freed_by x)
unfolding may upon freed_by count
surf_one y (Hand x) H d m = let k = surf_off y x.serial.0 H in omega (arith, k)
surf_one y (Throw n) H d m = let k = surf_off y n.0 H in omega (arith, k)
surf_one y (Free x) H d m = let k = surf_free y x.0 H d (left (any_b (lies x.0) H) _ m) in omega (arith, k)

all_taken : List Event → List ℕ
all_taken [] = []
all_taken (x ∷ xs) = taken_by x ++ all_taken xs

all_freed : List Event → List ℕ
all_freed [] = []
all_freed (x ∷ xs) = freed_by x ++ all_freed xs

flow_all : (n : ℕ) (xs : List Event) (H : List Line) → Sep H → may_all xs H ≡ true → W n H ≡ W n (upon_all xs H) + count n (all_taken xs)
unfolding may_all upon_all all_taken count
flow_all n [] H d m = omega arith
flow_all n (x ∷ xs) H d m =
    let a = flow_one n x H d (left (may x H) _ m) in
    let b = flow_all n xs (upon x H) (sep_upon x H d) (right (may x H) _ m) in
    let c = count_append n (taken_by x) (all_taken xs) in
    omega (arith, a, b, c)

surf_all : (y : ℕ) (xs : List Event) (H : List Line) → Sep H → may_all xs H ≡ true → S y H ≡ S y (upon_all xs H) + count y (all_freed xs)
unfolding may_all upon_all all_freed count
surf_all y [] H d m = omega arith
surf_all y (x ∷ xs) H d m =
    let a = surf_one y x H d (left (may x H) _ m) in
    let b = surf_all y xs (upon x H) (sep_upon x H d) (right (may x H) _ m) in
    let c = count_append y (freed_by x) (all_freed xs) in
    omega (arith, a, b, c)

-- of a tail
all_taken_append : (xs ys : List Event) → all_taken (xs ++ ys) ≡ all_taken xs ++ all_taken ys
unfolding all_taken
all_taken_append [] ys = refl
all_taken_append (x ∷ xs) ys = rw (all_taken_append xs ys) (sym (append_assoc (taken_by x) (all_taken xs) (all_taken ys)))

all_freed_append : (xs ys : List Event) → all_freed (xs ++ ys) ≡ all_freed xs ++ all_freed ys
unfolding all_freed
all_freed_append [] ys = refl
all_freed_append (x ∷ xs) ys = rw (all_freed_append xs ys) (sym (append_assoc (freed_by x) (all_freed xs) (all_freed ys)))

hands_taken : (hs : List Shown) → (all_taken (map Hand hs) ≡ map (λ (x : Shown). x.serial.0) hs) × (all_freed (map Hand hs) ≡ [])
unfolding all_taken all_freed taken_by freed_by
hands_taken [] = (refl, refl)
hands_taken (x ∷ hs) = (rw (hands_taken hs).0, (hands_taken hs).1)

throws_taken : (ns : List Serial) → (all_taken (map Throw ns) ≡ serial_nos ns) × (all_freed (map Throw ns) ≡ [])
unfolding all_taken all_freed taken_by freed_by
throws_taken [] = (refl, refl)
throws_taken (x ∷ hs) = (rw (throws_taken hs).0, (throws_taken hs).1)

frees_freed : (xs : List Surface) → (all_taken (map Free xs) ≡ []) × (all_freed (map Free xs) ≡ surface_nos xs)
unfolding all_taken all_freed taken_by freed_by
frees_freed [] = (refl, refl)
frees_freed (x ∷ xs) = ((frees_freed xs).0, rw (frees_freed xs).1)

module _ (t : Tail) where
  tail_taken : all_taken (events t) ≡ map (λ (x : Shown). x.serial.0) t.handed ++ serial_nos t.thrown
  tail_taken =
      rw (all_taken_append (map Hand t.handed) (map Throw t.thrown ++ map Free t.released), all_taken_append (map Throw t.thrown) (map Free t.released), (hands_taken t.handed).0, (throws_taken t.thrown).0, (frees_freed t.released).0, append-nil (serial_nos t.thrown))

  tail_freed : all_freed (events t) ≡ surface_nos t.released
  tail_freed =
      rw (all_freed_append (map Hand t.handed) (map Throw t.thrown ++ map Free t.released), all_freed_append (map Throw t.thrown) (map Free t.released), (hands_taken t.handed).1, (throws_taken t.thrown).1, (frees_freed t.released).1)

  -- the lines before are the lines after and what the tail tells
  pub tail_wants : (n : ℕ) (H : List Line) → Sep H → may_all (events t) H ≡ true
      → count n (serials (wanting H)) ≡ count n (serials (wanting (upon_all (events t) H))) + (count n (map (λ (x : Shown). x.serial.0) t.handed) + count n (serial_nos t.thrown))
  tail_wants n H d m =
      let a = flow_all n (events t) H d m in
      let b : count n (all_taken (events t)) ≡ count n (map (λ (x : Shown). x.serial.0) t.handed) + count n (serial_nos t.thrown) = ap (count n) tail_taken ∙ count_append n (map (λ (x : Shown). x.serial.0) t.handed) (serial_nos t.thrown) in
      omega (arith, a, b)

  pub tail_surfaces : (y : ℕ) (H : List Line) → Sep H → may_all (events t) H ≡ true → count y (surfaces H) ≡ count y (surfaces (upon_all (events t) H)) + count y (surface_nos t.released)
  tail_surfaces y H d m =
      let a = surf_all y (events t) H d m in
      let b : count y (all_freed (events t)) ≡ count y (surface_nos t.released) = ap (count y) tail_freed in
      omega (arith, a, b)

-- lists of lines one after the other
pub wants_append : (n : ℕ) (H K : List Line) → count n (serials (wanting (H ++ K))) ≡ count n (serials (wanting H)) + count n (serials (wanting K))
unfolding wanting keep count
wants_append n [] K = omega arith
wants_append n (e ∷ H) K =
    let k = wants_append n H K in
    split e.wants (λ w. rw w (omega (arith, k))) (λ w. rw w k)

pub surfaces_append : (y : ℕ) (H K : List Line) → count y (surfaces (H ++ K)) ≡ count y (surfaces H) + count y (surfaces K)
surfaces_append y H K = ap (count y) (map-append (λ (e : Line). e.surface.0) H K) ∙ count_append y (surfaces H) (surfaces K)

-- at most one line lies on a surface
pub sep_once : (y : ℕ) (H : List Line) → Sep H → count y (surfaces H) ≤ 1
unfolding count
sep_once y [] d = omega arith
sep_once y (e ∷ H) d =
    split (eqb y e.surface.0)
    (λ p. let q : y ≡ e.surface.0 = eqb-true y e.surface.0 p in rw p (omega (arith, no_more y H (all_more (Off2 e) (λ (x : Line). eqb y x.surface.0 ≡ false) (λ x o. rw q o.surface) H d.0))))
    (λ p. rw p (omega (arith, sep_once y H d.1)))
  where
    no_more : (y : ℕ) (H : List Line) → All (λ (x : Line). eqb y x.surface.0 ≡ false) H → count y (surfaces H) ≡ 0
    no_more y [] a = refl
    no_more y (x ∷ H) a = rw a.0 (omega (arith, no_more y H a.1))

pub sep_first : (H K : List Line) → Sep (H ++ K) → Sep H
sep_first [] K d = tt
sep_first (e ∷ H) K d = (all_part (Off2 e) H K d.0, sep_first H K d.1)
  where
    all_part : (P : Line → Type 0) (H K : List Line) → All P (H ++ K) → All P H
    all_part P [] K a = tt
    all_part P (x ∷ H) K a = (a.0, all_part P H K a.1)

pub sep_last : (H K : List Line) → Sep (H ++ K) → Sep K
sep_last [] K d = d
sep_last (e ∷ H) K d = sep_last H K d.1
