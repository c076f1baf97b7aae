-- A byte has 256 values, so what the class of a type says is one computed test over all of them.
use mathlib.Core.Path.{◌≡◌, refl, sym, ap, ◌∙◌}
use mathlib.Core.Bool.{Bool, true, not, cond, ◌&&◌, ◌||◌, beq}
use Prim.Native.Nat.{ℕ, ◌<◌, ◌≤◌}
use lib.Dec.{T, eqb, leb}
use borrow.Author.Tests.{le-leb, eqb-true, eq-eqb}
use Rattle.paper.specs.Words.{any_b}
use Rattle.derivation.specs.Classes.{class_of, types_of}
use Rattle.derivation.specs.declared.nal.NalClass.{NalClass}
use Rattle.derivation.specs.declared.nal.NalClass.TheVariants.{Idr, Bla, Cra, Radl, Rasl, Other, Refused}
use Rattle.wire.proofs.Below.{every, bytes_agree}

-- a class as a number, and back
abbrev pub tag_of : NalClass → ℕ
tag_of Idr = 0
tag_of Bla = 1
tag_of Cra = 2
tag_of Radl = 3
tag_of Rasl = 4
tag_of Other = 5
tag_of Refused = 6

abbrev of_tag : ℕ → NalClass
of_tag n =
    cond (eqb n 0) Idr
    (cond (eqb n 1) Bla
    (cond (eqb n 2) Cra
    (cond (eqb n 3) Radl
    (cond (eqb n 4) Rasl
    (cond (eqb n 5) Other
    Refused)))))

back : (c : NalClass) → of_tag (tag_of c) ≡ c
back Idr = refl
back Bla = refl
back Cra = refl
back Radl = refl
back Rasl = refl
back Other = refl
back Refused = refl

same_tag : (c d : NalClass) → eqb (tag_of c) (tag_of d) ≡ true → c ≡ d
same_tag c d e = sym (back c) ∙ ap of_tag (eqb-true (tag_of c) (tag_of d) e) ∙ back d

-- every type from a to b has the class c
abbrev pub all_from : ℕ → ℕ → NalClass → Bool
all_from a b c = every (λ (n : ℕ). beq (not (leb a n && leb n b) || eqb (tag_of c) (tag_of (class_of n))) true) 256

pub class_of_lem : (a b : ℕ) (c : NalClass) → T (all_from a b c) → (t : ℕ) → t < 256 → a ≤ t → t ≤ b → c ≡ class_of t
class_of_lem a b c h t small lo hi =
    let e : (not (leb a t && leb t b) || eqb (tag_of c) (tag_of (class_of t))) ≡ true = bytes_agree (λ (n : ℕ). not (leb a n && leb n b) || eqb (tag_of c) (tag_of (class_of n))) (λ (n : ℕ). true) h t small in
    let f : eqb (tag_of c) (tag_of (class_of t)) ≡ true = rw (le-leb a t lo, le-leb t b hi) at e in
    same_tag c (class_of t) f

-- a test of a type that its class answers
pub by_class : (f : ℕ → Bool) (g : NalClass → Bool) → T (every (λ (n : ℕ). beq (g (class_of n)) (f n)) 256) → (t : ℕ) → t < 256 → {c : NalClass} → c ≡ class_of t → g c ≡ f t
by_class f g h t small e = ap g e ∙ bytes_agree (λ (n : ℕ). g (class_of n)) f h t small

-- the numbers of a class are those that have it
abbrev types_agree : NalClass → Bool
types_agree c = every (λ (n : ℕ). beq (any_b (eqb n) (types_of c)) (eqb (tag_of c) (tag_of (class_of n)))) 256

types_agree_lem : (c : NalClass) → T (types_agree c)
unfolding class_of types_of any_b
types_agree_lem Idr = tt
types_agree_lem Bla = tt
types_agree_lem Cra = tt
types_agree_lem Radl = tt
types_agree_lem Rasl = tt
types_agree_lem Other = tt
types_agree_lem Refused = tt

-- so a type is among the numbers of its class, and of no other
pub class_says : (t : ℕ) → t < 256 → {r : NalClass} → r ≡ class_of t
    → (r ≡ class_of t) × ((any_b (eqb t) (types_of r) ≡ true) × ((c : NalClass) → any_b (eqb t) (types_of c) ≡ true → c ≡ r))
class_says t small {r} e =
    let has : (c : NalClass) → any_b (eqb t) (types_of c) ≡ eqb (tag_of c) (tag_of (class_of t)) = λ c. bytes_agree (λ (n : ℕ). any_b (eqb n) (types_of c)) (λ (n : ℕ). eqb (tag_of c) (tag_of (class_of n))) (types_agree_lem c) t small in
    (e, (has r ∙ eq-eqb (tag_of r) (tag_of (class_of t)) (ap tag_of e), λ c h. same_tag c (class_of t) (sym (has c) ∙ h) ∙ sym e))
