-- Pictures that leave: those kept move up, place after place, and no place is written before it is read. What is taken
-- out of the pictures of a walk stands behind what stood there. Assumes nothing.
use Prim.Native.Nat.{ℕ, ◌+◌, ◌-◌, ◌≤◌, ◌<◌}
use mathlib.Core.Path.{◌≡◌, refl, sym, ap, ◌∙◌}
use mathlib.Core.Bool.{Bool, true, false}
use mathlib.Core.List.{List, [], ◌∷◌, ◌++◌, append-nil, append_assoc, map, map-append}
use native.Mathlib.Omega.{arith}
use lib.ListN.{length, set, length-set, take, drop, replicate, length-take, length-append}
use lib.Seq.{paste, drop-append-add}
use Rattle.std.proofs.lemmas.List.{drop-replicate}
use Rattle.std.proofs.lemmas.List.Edits.{paste_all}
use Rattle.derivation.specs.Pad.{Padded, used}
use Rattle.derivation.proofs.Pad.{is_push, is_view}
use Rattle.paper.specs.Words.{table, keep}
use Rattle.paper.specs.declared.Picture.{Picture}
use Rattle.store.specs.Places.{place_at, front}
use Rattle.store.specs.Tails.{unused}
use Rattle.store.proofs.Kept.{keep_take, keep_pass, put_other, put_more}

-- where all are kept
pub keep_everything : (ps : List Picture) → keep (unused true) ps ≡ ps
unfolding keep
keep_everything [] = refl
keep_everything (p ∷ ps) = rw (keep_everything ps)

-- ---- a filter in place

-- the first k of sixteen places hold those that f keeps of the first i of ps₀; the places from i on are as they were
pub record Kept (f : Picture → Bool) (ps₀ ps : List Picture) (k i : ℕ) : Type 0 where
  pub few : k ≤ i
  pub long : length ps ≡ 16
  pub pics : front ps k ≡ keep f (front ps₀ i)
  pub rest : (j : ℕ) → i ≤ j → place_at ps j ≡ place_at ps₀ j

pub kept_none : (f : Picture → Bool) (ps : List Picture) → length ps ≡ 16 → Kept f ps ps 0 0
unfolding table keep
kept_none f ps l = record { few = omega arith; long = l; pics = refl; rest = λ j le. refl }

module _ {f : Picture → Bool} {ps₀ ps : List Picture} {k i : ℕ} (h : Kept f ps₀ ps k i) where
  -- the picture at place i is that of before
  pub kept_is : place_at ps i ≡ place_at ps₀ i
  kept_is = h.rest i (omega arith)

  pub kept_take : f (place_at ps i) ≡ true → i < 16 → Kept f ps₀ (set ps k (place_at ps i)) (k + 1) (i + 1)
  kept_take e lt =
      let p = place_at ps i in
      let x = kept_is in
      let few = h.few in
      record {
        few = omega arith;
        long = length-set ps k p ∙ h.long;
        pics = put_more ps k p (omega (arith, h.long)) ∙ ap (λ (l : List Picture). l ++ (p ∷ [])) h.pics ∙ ap (λ (b : Picture). keep f (front ps₀ i) ++ (b ∷ [])) x ∙ sym (keep_take f (place_at ps₀) i (ap f (sym x) ∙ e));
        rest = λ j le. put_other ps k p j (λ e. omega arith) ∙ h.rest j (omega arith);
      }

  pub kept_pass : f (place_at ps i) ≡ false → Kept f ps₀ ps k (i + 1)
  kept_pass e =
      let few = h.few in
      record {
        few = omega arith;
        long = h.long;
        pics = h.pics ∙ sym (keep_pass f (place_at ps₀) i (ap f (sym kept_is) ∙ e));
        rest = λ j le. h.rest j (omega arith);
      }

-- ---- what is taken out of the pictures that f keeps, behind a list

-- of the first i pictures, behind a list that k places held
pub record Pushed {A : Type 0} (n : ℕ) (d : A) (f : Picture → Bool) (g : Picture → A) (ps : List Picture) (l : List A) (k : ℕ) (a : List A) (m i : ℕ) : Type 0 where
  pub few : m ≤ k + i
  pub holds : Padded n d a m (l ++ map g (keep f (front ps i)))

pub pushed_none : {A : Type 0} {n : ℕ} {d : A} (f : Picture → Bool) (g : Picture → A) (ps : List Picture) {l a : List A} {k : ℕ} → Padded n d a k l → Pushed n d f g ps l k a k 0
unfolding table keep
pushed_none f g ps {l} h = record { few = omega arith; holds = rw (append-nil l) h }

-- where there was none
pub pushed_first : {A : Type 0} {n : ℕ} {d : A} (f : Picture → Bool) (g : Picture → A) (ps : List Picture) {a : List A} {m : ℕ} → Padded n d a m [] → Pushed n d f g ps [] 0 a m 0
pushed_first f g ps h = record { few = omega (arith, h.long); holds = (pushed_none f g ps h).holds }

module _ {A : Type 0} {n : ℕ} {d : A} {f : Picture → Bool} {g : Picture → A} {ps : List Picture} {l : List A} {k : ℕ} {a : List A} {m i : ℕ} (h : Pushed n d f g ps l k a m i) where
  pub pushed_take : (x : A) → x ≡ g (place_at ps i) → m < n → f (place_at ps i) ≡ true → Pushed n d f g ps l k (set a m x) (m + 1) (i + 1)
  pushed_take x y lt e =
      let few = h.few in
      let was = map g (keep f (front ps i)) in
      let more = ap (map g) (keep_take f (place_at ps) i e) ∙ map-append g (keep f (front ps i)) (place_at ps i ∷ []) in
      let all : (l ++ was) ++ (x ∷ []) ≡ l ++ map g (keep f (front ps (i + 1))) =
      append_assoc l was (x ∷ []) ∙ ap (λ (b : A). l ++ (was ++ (b ∷ []))) y ∙ ap (λ (b : List A). l ++ b) (sym more) in
      record { few = omega arith; holds = rw all at (is_push h.holds x lt) }

  pub pushed_pass : f (place_at ps i) ≡ false → Pushed n d f g ps l k a m (i + 1)
  pushed_pass e =
      let few = h.few in
      record { few = omega arith; holds = rw (keep_pass f (place_at ps) i e) h.holds }

-- ---- the places of one array behind a list

-- a part of b, copied behind a list that k places hold
pub joined : {A : Type 0} {n : ℕ} {d : A} {a l : List A} {k : ℕ} (b : List A) (m : ℕ) → Padded n d a k l → k + m ≤ n → m ≤ length b
    → Padded n d (paste a k (take m b) m) (k + m) (l ++ used m b)
unfolding used
joined {A} {n} {d} {a} {l} {k} b m h room few =
    let long = h.long in
    let z : m ≡ length (take m b) = omega (arith, length-take m b) in
    let front : take k a ≡ l = is_view h in
    let rest : drop (k + m) a ≡ replicate (n - length (l ++ take m b)) d =
    ap (λ (x : List A). drop (k + m) x) h.places ∙ ap (λ (x : ℕ). drop (x + m) (l ++ replicate (n - length l) d)) long
    ∙ drop-append-add l (replicate (n - length l) d) m ∙ drop-replicate m (n - length l) d
    ∙ ap (λ (x : ℕ). replicate x d) (let y : n - length l - m ≡ n - length (l ++ take m b) = omega (arith, length-append l (take m b)) in y) in
    record {
      places =
          paste_all a k (take m b) m z ∙ ap (λ (x : List A). x ++ (take m b ++ drop (k + m) a)) front ∙ ap (λ (x : List A). l ++ (take m b ++ x)) rest
          ∙ sym (append_assoc l (take m b) (replicate (n - length (l ++ take m b)) d));
      long = omega (arith, length-append l (take m b));
      room = room;
    }
