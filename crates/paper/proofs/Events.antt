-- The events of a tail: grouped by kind they do what they do in the order in which they happened.
use Rattle.paper.specs.declared.Serial.{Serial}
use Rattle.paper.specs.declared.Shown.{Shown}
use Rattle.paper.specs.Words.{all_b, any_b}
use Rattle.paper.specs.Output.{Tail, joined}
use Rattle.paper.specs.declared.Line.{Line}
use Rattle.paper.specs.Ledger.{Event, Hand, Throw, Free, waits_as, waits, lies, quiet_at, may, off, free, upon, may_all, upon_all, events}
use Prim.Native.Nat.{ℕ}
use mathlib.Core.Path.{◌≡◌, refl, sym, ap, ◌∙◌}
use mathlib.Core.List.{List, [], ◌∷◌, ◌++◌, map, append_assoc, map-append}
use mathlib.Core.Bool.{Bool, true, false, not, ◌&&◌, ◌||◌}
use lib.Dec.{eqb}
use borrow.Author.Tests.{eqb-true, eqb-false, ne_eqb}
use Rattle.paper.proofs.Bools.{both, left, right, split, not_both, any_mono, all_mono, any_keep, any_map, all_map, any_gives, keep_map}

pub record Runs (es : List Event) (H K : List Line) : Type 0 where
  pub allowed : may_all es H ≡ true
  pub leads : upon_all es H ≡ K

pub upon_append : (xs ys : List Event) (H : List Line) → upon_all (xs ++ ys) H ≡ upon_all ys (upon_all xs H)
unfolding upon_all
upon_append [] ys H = refl
upon_append (x ∷ xs) ys H = upon_append xs ys (upon x H)

pub may_append : (xs ys : List Event) (H : List Line) → may_all (xs ++ ys) H ≡ (may_all xs H && may_all ys (upon_all xs H))
unfolding may_all upon_all
may_append [] ys H = refl
may_append (x ∷ xs) ys H = split (may x H) (λ p. rw p (may_append xs ys (upon x H))) (λ p. rw p)

pub runs_append : {xs ys : List Event} {H K L : List Line} → Runs xs H K → Runs ys K L → Runs (xs ++ ys) H L
runs_append {xs} {ys} {H} {K} {L} a b =
    record {
      allowed = may_append xs ys H ∙ both a.allowed (rw a.leads b.allowed);
      leads = upon_append xs ys H ∙ rw a.leads b.leads;
    }

pub runs_first : (xs ys : List Event) {H L : List Line} → Runs (xs ++ ys) H L → Runs xs H (upon_all xs H)
runs_first xs ys {H} {L} a = record { allowed = left (may_all xs H) _ (sym (may_append xs ys H) ∙ a.allowed); leads = refl }

pub runs_rest : (xs ys : List Event) {H L : List Line} → Runs (xs ++ ys) H L → Runs ys (upon_all xs H) L
runs_rest xs ys {H} {L} a =
    record { allowed = right (may_all xs H) _ (sym (may_append xs ys H) ∙ a.allowed); leads = sym (upon_append xs ys H) ∙ a.leads }

-- A test for a line that waits under the number n
record Off (n : ℕ) (P : Line → Bool) : Type 0 where
  named : (e : Line) → P e ≡ true → eqb n e.serial.0 ≡ true
  stays : (m : ℕ) (e : Line) → eqb m e.serial.0 ≡ false → P e ≡ true → P (off m e) ≡ true
  was : (m : ℕ) (e : Line) → P (off m e) ≡ true → P e ≡ true
  apart : (m : ℕ) (e : Line) → P (off m e) ≡ true → eqb m e.serial.0 ≡ false

shrink : (w b c : Bool) → ((w && b) && c) ≡ true → (w && c) ≡ true
shrink true true c h = h
shrink true false c h = not_both false h refl
shrink false b c h = h

grow : (w b c : Bool) → b ≡ true → (w && c) ≡ true → ((w && b) && c) ≡ true
grow w true c e h = rw (mathlib.Core.Bool.and-true) h
grow w false c e h = not_both false e refl

unwanted : (w b c : Bool) → ((w && not b) && c) ≡ true → b ≡ false
unwanted true true c h = sym h
unwanted true false c h = refl
unwanted false b c h = not_both false h refl

off_waits : (n : ℕ) → Off n (waits n)
off_waits n =
    record {
      named = λ e h. right e.wants _ h;
      stays = λ m e p h. grow e.wants (not (eqb m e.serial.0)) _ (rw p) h;
      was = λ m e h. shrink e.wants (not (eqb m e.serial.0)) _ h;
      apart = λ m e h. unwanted e.wants (eqb m e.serial.0) _ h;
    }

off_waits_as : (x : Shown) → Off x.serial.0 (waits_as x)
off_waits_as x =
    record {
      named = λ e h. left (eqb x.serial.0 e.serial.0) _ (right e.wants _ h);
      stays = λ m e p h. grow e.wants (not (eqb m e.serial.0)) _ (rw p) h;
      was = λ m e h. shrink e.wants (not (eqb m e.serial.0)) _ h;
      apart = λ m e h. unwanted e.wants (eqb m e.serial.0) _ h;
    }

-- y may come before x as well, and then x, with the same lines after both
record Swapped (x y : Event) (H : List Line) : Type 0 where
  sooner : may y H ≡ true
  later : may x (upon y H) ≡ true
  same : upon x (upon y H) ≡ upon y (upon x H)

two_offs : (w a b : Bool) → ((w && a) && b) ≡ ((w && b) && a)
two_offs true a b = mathlib.Core.Bool.and_comm a b
two_offs false a b = refl

offs_commute : (n m : ℕ) (H : List Line) → map (off n) (map (off m) H) ≡ map (off m) (map (off n) H)
offs_commute n m [] = refl
offs_commute n m (e ∷ H) = rw (two_offs e.wants (not (eqb m e.serial.0)) (not (eqb n e.serial.0)), offs_commute n m H)

module _ {n m : ℕ} {P Q : Line → Bool} (a : Off n P) (b : Off m Q) (H : List Line) (p : any_b P H ≡ true) (q : any_b Q (map (off n) H) ≡ true) where
  later_off : any_b P (map (off m) H) ≡ true
  later_off =
      any_map P (off m) H
      ∙ any_gives {X = any_b (λ (e : Line). P (off m e)) H ≡ true} (λ (e : Line). Q (off n e)) H
      (λ e h.
      let me : m ≡ e.serial.0 = eqb-true m e.serial.0 (b.named e (b.was n e h)) in
      let away : eqb n m ≡ false = rw me (b.apart n e h) in
      any_mono P (λ (e' : Line). P (off m e'))
      (λ e' h'.
      let ne : n ≡ e'.serial.0 = eqb-true n e'.serial.0 (a.named e' h') in
      a.stays m e' (rw (← ne) (flip n m away)) h')
      H p)
      (sym (any_map Q (off n) H) ∙ q)
    where
      flip : (n m : ℕ) → eqb n m ≡ false → eqb m n ≡ false
      flip n m e = ne_eqb m n (λ z. eqb-false n m e (sym z))

  sooner_off : any_b Q H ≡ true
  sooner_off = any_mono (λ (e : Line). Q (off n e)) Q (λ e h. b.was n e h) H (sym (any_map Q (off n) H) ∙ q)

quiet_off : (w b c : Bool) → (not w || c) ≡ true → (not (w && b) || c) ≡ true
quiet_off true true c h = h
quiet_off true false c h = refl
quiet_off false b c h = refl

module _ (m : ℕ) (Q : Line → Bool) (x : ℕ) (H : List Line) (p : (any_b (lies x) H && all_b (quiet_at x) H) ≡ true) (q : any_b Q (free x H) ≡ true) where
  later_free : (any_b (lies x) (map (off m) H) && all_b (quiet_at x) (map (off m) H)) ≡ true
  later_free =
      both (any_map (lies x) (off m) H ∙ left (any_b (lies x) H) _ p)
      (all_map (quiet_at x) (off m) H ∙ all_mono (quiet_at x) (λ (e : Line). quiet_at x (off m e)) (λ e h. quiet_off e.wants (not (eqb m e.serial.0)) _ h) H (right (any_b (lies x) H) _ p))

  sooner_free : any_b Q H ≡ true
  unfolding free
  sooner_free = any_keep Q (λ (e : Line). not (lies x e)) H q

free_off : (x m : ℕ) (H : List Line) → free x (map (off m) H) ≡ map (off m) (free x H)
unfolding free
free_off x m H = keep_map (λ (e : Line). not (lies x e)) (off m) (λ (e : Line). not (lies x e)) (λ e. refl) H

pub data IsOff : Event → Type 0 where
  hand : (x : Shown) → IsOff (Hand x)
  throw : (n : Serial) → IsOff (Throw n)

swap : (x : Event) {y : Event} → IsOff y → (H : List Line) → may x H ≡ true → may y (upon x H) ≡ true → Swapped x y H
unfolding may upon
swap (Hand z) (hand x) H p q = record { sooner = sooner_off (off_waits_as z) (off_waits_as x) H p q; later = later_off (off_waits_as z) (off_waits_as x) H p q; same = offs_commute z.serial.0 x.serial.0 H }
swap (Hand z) (throw n) H p q = record { sooner = sooner_off (off_waits_as z) (off_waits n.0) H p q; later = later_off (off_waits_as z) (off_waits n.0) H p q; same = offs_commute z.serial.0 n.0 H }
swap (Throw z) (hand x) H p q = record { sooner = sooner_off (off_waits z.0) (off_waits_as x) H p q; later = later_off (off_waits z.0) (off_waits_as x) H p q; same = offs_commute z.0 x.serial.0 H }
swap (Throw z) (throw n) H p q = record { sooner = sooner_off (off_waits z.0) (off_waits n.0) H p q; later = later_off (off_waits z.0) (off_waits n.0) H p q; same = offs_commute z.0 n.0 H }
swap (Free z) (hand x) H p q = record { sooner = sooner_free x.serial.0 (waits_as x) z.0 H p q; later = later_free x.serial.0 (waits_as x) z.0 H p q; same = free_off z.0 x.serial.0 H }
swap (Free z) (throw n) H p q = record { sooner = sooner_free n.0 (waits n.0) z.0 H p q; later = later_free n.0 (waits n.0) z.0 H p q; same = free_off z.0 n.0 H }

move : {y : Event} → IsOff y → (xs zs : List Event) (H L : List Line) → Runs (xs ++ (y ∷ zs)) H L → Runs (y ∷ (xs ++ zs)) H L
unfolding may_all upon_all
move i [] zs H L r = r
move {y} i (x ∷ xs) zs H L r =
    let p : may x H ≡ true = left (may x H) _ r.allowed in
    let k : Runs (y ∷ (xs ++ zs)) (upon x H) L = move i xs zs (upon x H) L (record { allowed = right (may x H) _ r.allowed; leads = r.leads }) in
    let w : Swapped x y H = swap x i H p (left (may y (upon x H)) _ k.allowed) in
    record {
      allowed = both w.sooner (both w.later (ap (λ (K : List Line). may_all (xs ++ zs) K) w.same ∙ right (may y (upon x H)) _ k.allowed));
      leads = ap (λ (K : List Line). upon_all (xs ++ zs) K) w.same ∙ k.leads;
    }

moves : {A : Type 0} (f : A → Event) → ((a : A) → IsOff (f a)) → (bs : List A) (xs zs : List Event) (H L : List Line) → Runs (xs ++ (map f bs ++ zs)) H L → Runs (map f bs ++ (xs ++ zs)) H L
unfolding may_all upon_all
moves f i [] xs zs H L r = r
moves f i (a ∷ bs) xs zs H L r =
    let k = move (i a) xs (map f bs ++ zs) H L r in
    let t = moves f i bs xs zs (upon (f a) H) L (record { allowed = right (may (f a) H) _ k.allowed; leads = k.leads }) in
    record { allowed = both (left (may (f a) H) _ k.allowed) t.allowed; leads = t.leads }

-- One tail after another is their join
pub runs_join : (a b : Tail) {H K L : List Line} → Runs (events a) H K → Runs (events b) K L → Runs (events (joined a b)) H L
runs_join a b {H} {K} {L} r q =
    let ha = map Hand a.handed in
    let ta = map Throw a.thrown in
    let ra = map Free a.released in
    let hb = map Hand b.handed in
    let tb = map Throw b.thrown in
    let rb = map Free b.released in
    let whole : Runs (ha ++ ((ta ++ ra) ++ (hb ++ (tb ++ rb)))) H L = rw (append_assoc ha (ta ++ ra) (hb ++ (tb ++ rb))) at (runs_append r q) in
    let one : Runs (hb ++ ((ta ++ ra) ++ (tb ++ rb))) (upon_all ha H) L = moves Hand hand b.handed (ta ++ ra) (tb ++ rb) (upon_all ha H) L (runs_rest ha ((ta ++ ra) ++ (hb ++ (tb ++ rb))) whole) in
    let two : Runs (ta ++ (ra ++ (tb ++ rb))) (upon_all hb (upon_all ha H)) L = rw (append_assoc ta ra (tb ++ rb)) at (runs_rest hb ((ta ++ ra) ++ (tb ++ rb)) one) in
    let three : Runs (tb ++ (ra ++ rb)) (upon_all ta (upon_all hb (upon_all ha H))) L = moves Throw throw b.thrown ra rb (upon_all ta (upon_all hb (upon_all ha H))) L (runs_rest ta (ra ++ (tb ++ rb)) two) in
    let hands : Runs (ha ++ hb) H (upon_all hb (upon_all ha H)) = runs_append (runs_first ha ((ta ++ ra) ++ (hb ++ (tb ++ rb))) whole) (runs_first hb ((ta ++ ra) ++ (tb ++ rb)) one) in
    let throws : Runs (ta ++ tb) (upon_all hb (upon_all ha H)) (upon_all tb (upon_all ta (upon_all hb (upon_all ha H)))) = runs_append (runs_first ta (ra ++ (tb ++ rb)) two) (runs_first tb (ra ++ rb) three) in
    let frees : Runs (ra ++ rb) (upon_all tb (upon_all ta (upon_all hb (upon_all ha H)))) L = runs_rest tb (ra ++ rb) three in
    rw (map-append Hand a.handed b.handed, map-append Throw a.thrown b.thrown, map-append Free a.released b.released) (runs_append hands (runs_append throws frees))
