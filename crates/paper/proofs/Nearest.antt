-- The POC is the only whole number of remainder l in the window of M around the previous POC, for every M = 2^k at
-- once: a multiple of M and a rest below M are told apart, and the three cases of the MSB are the three ways into the
-- window.
use mathlib.Core.Path.{◌≡◌, sym, ap, ◌∙◌}
use mathlib.Core.Bool.{Bool, true, false, cond, not, ◌&&◌}
use mathlib.Core.Logic.{◌⊎◌, inl, inr, ⊎_elim}
use Prim.Native.Nat.{ℕ, zero, suc, ◌+◌, ◌-◌, ◌*◌, ◌/◌, ◌%◌, ◌^◌, ◌<◌, ◌≤◌}
use native.Mathlib.Nat.{add-mul, suc-mul, mul-le-mul_right, mod-lt, div-add-mod', pow-suc, mul-mod_left, eq-or-lt_of_le}
use native.Mathlib.Omega.{arith}
use lib.Dec.{T, ltb, leb, ltb→lt, leb→le, nltb→le, nleb→lt}
use lib.Pow.{pow_pos}
use lib.IntN.{ℤ, pos, negsuc, neg_ℤ, nat_abs, suc_ℤ, pred_ℤ, ◌+ℤ◌, ◌-ℤ◌, ◌*ℤ◌, suc_ℤ-*ℤ, pred_ℤ-*ℤ}
use lib.Signed.{◌≤ℤ◌}
use mir.Facts.{and_yes, and_no}
use Rattle.paper.specs.Poc.{mod_z, msb_of, poc_of}
use Rattle.paper.specs.Nearest.{Nearest, Closest, TheOnly, nearest_to}
use Rattle.paper.proofs.Whole.{up, dn, up_add, up_sub, up_mul, dn_mul, up_pos, dn_pos, up_neg_is, dn_neg_is, abs_up, abs_dn, abs_least, ext, lt_of, le_of, to_lt, to_le, of_eq}
use Rattle.paper.specs.Poc.{tid0}

either : {X Y : Type 0} (t : Bool) → (T t → X) → (T (not t) → Y) → X ⊎ Y
either true f g = inl (f tt)
either false f g = inr (g tt)

lt_or_ge : (a b : ℕ) → (a < b) ⊎ (b ≤ a)
lt_or_ge a b = either (ltb a b) (ltb→lt a b) (nltb→le a b)

pub mod_below : (z : ℤ) (m : ℕ) → 0 < m → mod_z z m < m
mod_below (pos n) m p = mod-lt n p
mod_below (negsuc n) m p = omega arith

-- ---- the remainder, as a multiple and a rest
-- rounded down
abbrev pub quo : ℤ → ℕ → ℤ
quo (pos n) m = pos (n / m)
quo (negsuc n) m = negsuc (n / m)

pub mod_split : (v : ℤ) (m : ℕ) → 0 < m → v ≡ quo v m *ℤ pos m +ℤ pos (mod_z v m)
unfolding up dn
mod_split (pos n) m p = ap pos (sym (div-add-mod' n m))
mod_split (negsuc n) m p =
    let a = negsuc (n / m) *ℤ pos m in
    let r = m - suc (n % m) in
    let h : n % m < m = mod-lt n p in
    ext (negsuc n) (a +ℤ pos r)
    (omega (arith, up_add a (pos r), up_mul (negsuc (n / m)) m, dn_mul (negsuc (n / m)) m, suc-mul (n / m) m, div-add-mod' n m))

-- two numbers of one remainder that are less than m apart
module _ (m : ℕ) (x y : ℤ) (p : 0 < m) (e : mod_z x m ≡ mod_z y m) (h : up x + dn y < up y + dn x + m) (k : up y + dn x < up x + dn y + m) where
  -- no multiple of m lies between: A and B are the two quotients
  no_step : (A B C D : ℕ) → A + C < B + D → A * m + C * m + m ≤ B * m + D * m
  no_step A B C D l = omega (arith, mul-le-mul_right m l, suc-mul (A + C) m, add-mul A C m, add-mul B D m)

  -- what the quotients say of x and y
  apart : up x + dn y + (dn (quo x m) * m + up (quo y m) * m) ≡ up y + dn x + (up (quo x m) * m + dn (quo y m) * m)
  apart =
      let a = quo x m in
      let b = quo y m in
      let u = mod_z x m in
      let v = mod_z y m in
      omega (
        arith,
        of_eq x (a *ℤ pos m +ℤ pos u) (mod_split x m p),
        of_eq y (b *ℤ pos m +ℤ pos v) (mod_split y m p),
        up_add (a *ℤ pos m) (pos u),
        up_mul a m,
        dn_mul a m,
        up_pos u,
        dn_pos u,
        up_add (b *ℤ pos m) (pos v),
        up_mul b m,
        dn_mul b m,
        up_pos v,
        dn_pos v,
      )

  pub same : x ≡ y
  same =
      let A = up (quo x m) in
      let C = dn (quo y m) in
      let B = up (quo y m) in
      let D = dn (quo x m) in
      ⊎_elim
      (λ l. absurd (omega (arith, no_step A B C D l, apart)))
      (λ g. ⊎_elim
      (λ q. ext x y (omega (arith, ap (λ (n : ℕ). n * m) q, add-mul A C m, add-mul B D m, apart)))
      (λ l. absurd (omega (arith, no_step B A D C l, apart)))
      (eq-or-lt_of_le {n = B + D} {m = A + C} g))
      (lt_or_ge (A + C) (B + D))

-- ---- the remainder of a multiple and a rest is the rest
module _ (m : ℕ) (a b : ℤ) (u v : ℕ) (hu : u < m) (hv : v < m) (e : a *ℤ pos m +ℤ pos u ≡ b *ℤ pos m +ℤ pos v) where
  step : (A B C D : ℕ) → A + C < B + D → A * m + C * m + m ≤ B * m + D * m
  step A B C D l = omega (arith, mul-le-mul_right m l, suc-mul (A + C) m, add-mul A C m, add-mul B D m)

  sums : up a * m + dn b * m + u ≡ up b * m + dn a * m + v
  sums =
      omega (
        arith,
        of_eq (a *ℤ pos m +ℤ pos u) (b *ℤ pos m +ℤ pos v) e,
        up_add (a *ℤ pos m) (pos u),
        up_mul a m,
        dn_mul a m,
        up_pos u,
        dn_pos u,
        up_add (b *ℤ pos m) (pos v),
        up_mul b m,
        dn_mul b m,
        up_pos v,
        dn_pos v,
      )

  rest_is : u ≡ v
  rest_is =
      ⊎_elim
      (λ l. absurd (omega (arith, step (up a) (up b) (dn b) (dn a) l, sums)))
      (λ g. ⊎_elim
      (λ q. omega (arith, ap (λ (n : ℕ). n * m) q, add-mul (up a) (dn b) m, add-mul (up b) (dn a) m, sums))
      (λ l. absurd (omega (arith, step (up b) (up a) (dn a) (dn b) l, sums)))
      (eq-or-lt_of_le {n = up b + dn a} {m = up a + dn b} g))
      (lt_or_ge (up a + dn b) (up b + dn a))

pub mod_of : (a : ℤ) (m l : ℕ) → l < m → mod_z (a *ℤ pos m +ℤ pos l) m ≡ l
mod_of a m l h =
    let z = a *ℤ pos m +ℤ pos l in
    let p : 0 < m = omega arith in
    rest_is m (quo z m) a (mod_z z m) l (mod_below z m p) h (sym (mod_split z m p))

-- ---- the POC
split : {A : Type 0} (t : Bool) (x y : A) (P : A → Type 0) → (T t → P x) → (T (not t) → P y) → P (cond t x y)
split true x y P f g = f tt
split false x y P f g = g tt

-- an MSB z that is a multiple, and how far it is from Q
near : (M q l : ℕ) (Q z s : ℤ) → l < M → z ≡ s *ℤ pos M
    → up Q + dn z + q < up z + dn Q + l + M / 2
    → up z + dn Q + l ≤ up Q + dn z + q + M / 2
    → Nearest M (Q +ℤ pos q) l (z +ℤ pos l)
near M q l Q z s h e a b =
    let v = z +ℤ pos l in
    let p = Q +ℤ pos q in
    let H = M / 2 in
    record {
      rem = rw e (mod_of s M l h);
      above = to_lt _ _
          (omega (arith, up_sub v p, up_sub p v, up_add z (pos l), up_add Q (pos q), up_pos l, dn_pos l, up_pos q, dn_pos q, up_neg_is (pos H), dn_neg_is (pos H), up_pos H, dn_pos H));
      most = to_le _ _
          (omega (arith, up_sub v p, up_sub p v, up_add z (pos l), up_add Q (pos q), up_pos l, dn_pos l, up_pos q, dn_pos q, up_pos H, dn_pos H));
    }

module _ (M q l : ℕ) (Q t : ℤ) (is : Q ≡ t *ℤ pos M) (hq : q < M) (hl : l < M) (even : M % 2 ≡ 0) where
  -- each of the three answers
  rises : T (ltb l q && leb (M / 2) (q - l)) → Nearest M (Q +ℤ pos q) l ((Q +ℤ pos M) +ℤ pos l)
  rises w =
      let a = ltb→lt l q (and_yes (ltb l q) (leb (M / 2) (q - l)) w).0 in
      let b = leb→le (M / 2) (q - l) (and_yes (ltb l q) (leb (M / 2) (q - l)) w).1 in
      near M q l Q (Q +ℤ pos M) (suc_ℤ t) hl (rw is (sym (suc_ℤ-*ℤ t (pos M))))
      (omega (arith, up_add Q (pos M), up_pos M, dn_pos M))
      (omega (arith, up_add Q (pos M), up_pos M, dn_pos M))

  falls : T (ltb q l && ltb (M / 2) (l - q)) → Nearest M (Q +ℤ pos q) l ((Q -ℤ pos M) +ℤ pos l)
  falls w =
      let a = ltb→lt q l (and_yes (ltb q l) (ltb (M / 2) (l - q)) w).0 in
      let b = ltb→lt (M / 2) (l - q) (and_yes (ltb q l) (ltb (M / 2) (l - q)) w).1 in
      near M q l Q (Q -ℤ pos M) (pred_ℤ t) hl (rw is (sym (pred_ℤ-*ℤ t (pos M))))
      (omega (arith, up_sub Q (pos M), up_pos M, dn_pos M))
      (omega (arith, up_sub Q (pos M), up_pos M, dn_pos M))

  stays : T (not (ltb l q && leb (M / 2) (q - l))) → T (not (ltb q l && ltb (M / 2) (l - q))) → Nearest M (Q +ℤ pos q) l (Q +ℤ pos l)
  stays v w =
      let a : q < l + M / 2 = ⊎_elim (λ n. let h = nltb→le l q n in omega arith) (λ n. let h = nleb→lt (M / 2) (q - l) n in omega arith) (and_no (ltb l q) (leb (M / 2) (q - l)) v) in
      let b : l ≤ q + M / 2 = ⊎_elim (λ n. let h = nltb→le q l n in omega arith) (λ n. let h = nltb→le (M / 2) (l - q) n in omega arith) (and_no (ltb q l) (ltb (M / 2) (l - q)) w) in
      near M q l Q Q t hl is (omega arith) (omega arith)

  poc_near : Nearest M (Q +ℤ pos q) l (poc_of M (tid0 q Q) l)
  unfolding msb_of
  poc_near =
      split (ltb l q && leb (M / 2) (q - l)) (Q +ℤ pos M) (cond (ltb q l && ltb (M / 2) (l - q)) (Q -ℤ pos M) Q) (λ (z : ℤ). Nearest M (Q +ℤ pos q) l (z +ℤ pos l)) rises
      (λ v. split (ltb q l && ltb (M / 2) (l - q)) (Q -ℤ pos M) Q (λ (z : ℤ). Nearest M (Q +ℤ pos q) l (z +ℤ pos l)) falls (stays v))

-- no other number is
pub near_one : (M l : ℕ) (p x y : ℤ) → 0 < M → Nearest M p l x → Nearest M p l y → x ≡ y
near_one M l p x y h a b =
    let H = M / 2 in
    same M x y h (a.rem ∙ sym b.rem)
    (omega (arith, lt_of _ _ b.above, le_of _ _ a.most, up_sub x p, up_sub y p, up_neg_is (pos H), dn_neg_is (pos H), up_pos H, dn_pos H))
    (omega (arith, lt_of _ _ a.above, le_of _ _ b.most, up_sub x p, up_sub y p, up_neg_is (pos H), dn_neg_is (pos H), up_pos H, dn_pos H))

-- ---- the number as one sum
module _ (M l : ℕ) (p : ℤ) (h : l < M) (even : M % 2 ≡ 0) where
  abbrev u : ℤ
  u = p +ℤ pos (M / 2)

  abbrev d : ℕ
  d = mod_z (u -ℤ pos l) M

  -- a multiple of M and l
  sum_is : u -ℤ pos d ≡ quo (u -ℤ pos l) M *ℤ pos M +ℤ pos l
  sum_is =
      let t = quo (u -ℤ pos l) M *ℤ pos M in
      ext _ _
      (omega (arith, up_sub u (pos d), up_add t (pos l), of_eq (u -ℤ pos l) (t +ℤ pos d) (mod_split (u -ℤ pos l) M (omega arith)), up_sub u (pos l), up_add t (pos d), up_pos l, dn_pos l, up_pos d, dn_pos d))

  pub sum_near : Nearest M p l (nearest_to M p l)
  sum_near =
      let v = u -ℤ pos d in
      let H = M / 2 in
      let b : d < M = mod_below (u -ℤ pos l) M (omega arith) in
      record {
        rem = ap (λ (z : ℤ). mod_z z M) sum_is ∙ mod_of (quo (u -ℤ pos l) M) M l h;
        above = to_lt (neg_ℤ (pos H)) (v -ℤ p) (omega (arith, up_sub v p, up_sub u (pos d), up_add p (pos H), up_neg_is (pos H), dn_neg_is (pos H), up_pos H, dn_pos H, up_pos d, dn_pos d));
        most = to_le (v -ℤ p) (pos H) (omega (arith, up_sub v p, up_sub u (pos d), up_add p (pos H), up_pos H, dn_pos H, up_pos d, dn_pos d));
      }

-- ---- "the nearest to p, and upward on a tie"
-- a number w of the same remainder is v, lies M or more above it, or M or more below it
data Beside (M : ℕ) (v w : ℤ) : Type 0 where
  it : w ≡ v → Beside M v w
  over : up v + dn w + M ≤ up w + dn v → Beside M v w
  under : up w + dn v + M ≤ up v + dn w → Beside M v w

beside : (M : ℕ) (v w : ℤ) → 0 < M → mod_z w M ≡ mod_z v M → Beside M v w
beside M v w h e =
    ⊎_elim
    (λ a. ⊎_elim (λ b. it (same M w v h e a b)) (λ b. under (omega arith)) (lt_or_ge (up v + dn w) (up w + dn v + M)))
    (λ a. over (omega arith))
    (lt_or_ge (up w + dn v) (up v + dn w + M))

module _ (M l : ℕ) (p v : ℤ) (h : 0 < M) (n : Nearest M p l v) where
  abbrev H : ℕ
  H = M / 2

  -- where v lies, for `omega`
  low : up p + dn v < up v + dn p + H
  low = omega (arith, lt_of _ _ n.above, up_sub v p, up_neg_is (pos H), dn_neg_is (pos H), up_pos H, dn_pos H)

  high : up v + dn p ≤ up p + dn v + H
  high = omega (arith, le_of _ _ n.most, up_sub v p, up_pos H, dn_pos H)

  within : nat_abs (v -ℤ p) ≤ H
  within = abs_least (v -ℤ p) H (omega (arith, high, up_sub v p)) (omega (arith, low, up_sub v p))

  -- what lies M or more above is farther from p, and what lies M or more below is no nearer
  over_farther : (w : ℤ) → up v + dn w + M ≤ up w + dn v → nat_abs (v -ℤ p) < nat_abs (w -ℤ p)
  over_farther w a = omega (arith, low, within, up_sub w p, abs_up (w -ℤ p))

  under_far : (w : ℤ) → up w + dn v + M ≤ up v + dn w → nat_abs (v -ℤ p) ≤ nat_abs (w -ℤ p)
  under_far w a = omega (arith, high, within, up_sub w p, abs_dn (w -ℤ p))

  closest : Closest M p l v
  closest =
      record {
        nearest = λ w e. nearest w (beside M v w h (e ∙ sym n.rem));
        upward = λ w e d. upward w d (beside M v w h (e ∙ sym n.rem));
      }
    where
      nearest : (w : ℤ) → Beside M v w → nat_abs (v -ℤ p) ≤ nat_abs (w -ℤ p)
      nearest w (it e) = let d = ap (λ (z : ℤ). nat_abs (z -ℤ p)) e in omega (arith, d)
      nearest w (over a) = omega (arith, over_farther w a)
      nearest w (under a) = under_far w a

      upward : (w : ℤ) → nat_abs (w -ℤ p) ≡ nat_abs (v -ℤ p) → Beside M v w → w ≤ℤ v
      upward w d (it e) = to_le w v (omega (arith, of_eq w v e))
      upward w d (over a) = absurd (omega (arith, d, over_farther w a))
      upward w d (under a) = to_le w v (omega arith)

pub pow_even : (k : ℕ) → 0 < k → 2 ^ k % 2 ≡ 0
pow_even zero h = absurd (omega arith)
pow_even (suc k) h = ap (λ (x : ℕ). x % 2) (pow-suc 2 k) ∙ mul-mod_left (2 ^ k) 2

-- for every k at once
pub poc_rule : (k q l : ℕ) (Q t : ℤ) → 4 ≤ k → Q ≡ t *ℤ pos (2 ^ k) → q < 2 ^ k → l < 2 ^ k → TheOnly (2 ^ k) (Q +ℤ pos q) l (poc_of (2 ^ k) (tid0 q Q) l)
poc_rule k q l Q t hk e hq hl =
    let n = poc_near (2 ^ k) q l Q t e hq hl (pow_even k (omega arith)) in
    record {
      is = n;
      alone = λ w m. near_one (2 ^ k) l (Q +ℤ pos q) w (poc_of (2 ^ k) (tid0 q Q) l) (pow_pos k) m n;
      closest = closest (2 ^ k) l (Q +ℤ pos q) (poc_of (2 ^ k) (tid0 q Q) l) (pow_pos k) n;
    }
