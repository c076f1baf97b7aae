-- One thing after the other: what happened so far and the turns that are left are all the turns, and a turn that does
-- nothing is the last. Assumes nothing.
use mathlib.Core.Path.{◌≡◌, refl, sym, ap, ◌∙◌}
use mathlib.Core.List.{List, append-nil, append_assoc}
use Prim.Native.Nat.{ℕ, zero, suc, ◌+◌, ◌-◌, ◌≤◌, ◌<◌}
use native.Mathlib.Omega.{arith}
use Rattle.paper.specs.Output.{Moved, still, joined, and_then, turns}
use Rattle.paper.specs.declared.Serial.{Serial}
use Rattle.paper.specs.declared.Surface.{Surface}
use Rattle.paper.specs.declared.Shown.{Shown}
use Rattle.paper.specs.declared.Picture.{Picture}

pub moves : {ps ps' : List Picture} {h h' : List Shown} {t t' : List Serial} {r r' : List Surface} → ps ≡ ps' → h ≡ h' → t ≡ t' → r ≡ r'
    → ◌≡◌ {A = Moved} (record { pics = ps; tail = record { handed = h; thrown = t; released = r } }) (record { pics = ps'; tail = record { handed = h'; thrown = t'; released = r' } })
moves q p u o = λ i. record { pics = q i; tail = record { handed = p i; thrown = u i; released = o i } }

-- what happened, and then nothing
pub then_still : (m : Moved) → and_then m still ≡ m
then_still m = moves refl (append-nil m.tail.handed) (append-nil m.tail.thrown) (append-nil m.tail.released)

pub then_assoc : (m : Moved) (f g : List Picture → Moved) → and_then m (λ (ps : List Picture). and_then (f ps) g) ≡ and_then (and_then m f) g
then_assoc m f g =
    let a = f m.pics in
    let b = g a.pics in
    moves refl (sym (append_assoc m.tail.handed a.tail.handed b.tail.handed)) (sym (append_assoc m.tail.thrown a.tail.thrown b.tail.thrown))
    (sym (append_assoc m.tail.released a.tail.released b.tail.released))

pub then_same : (m : Moved) (f g : List Picture → Moved) → f m.pics ≡ g m.pics → and_then m f ≡ and_then m g
then_same m f g e = ap (λ (x : Moved). record { pics = x.pics; tail = joined m.tail x.tail }) e

-- ---- turns

then_none : (m : Moved) (f : List Picture → Moved) → and_then m (turns 0 f) ≡ m
unfolding turns
then_none m f = then_still m

then_turn : (m : Moved) (f : List Picture → Moved) (n : ℕ) → and_then m (turns (suc n) f) ≡ and_then (and_then m f) (turns n f)
unfolding turns
then_turn m f n = then_assoc m f (turns n f)

-- after a turn that does nothing, none does anything
stuck : (k : ℕ) (f : List Picture → Moved) (ps : List Picture) → f ps ≡ still ps → turns k f ps ≡ still ps
unfolding turns
stuck zero f ps e = refl
stuck (suc k) f ps e = rw (e, stuck k f ps e)

module _ (m : Moved) (f : List Picture → Moved) (n : ℕ) where
  pub turn_first : and_then m (turns (n - 0) f) ≡ and_then m (turns n f)
  turn_first = let k : n - 0 ≡ n = omega arith in rw k

  module _ (i : ℕ) (x : Moved) (e : and_then m (turns (n - i) f) ≡ x) where
    pub turn_more : (q : Moved) → q ≡ and_then m f → i < n → and_then q (turns (n - (i + 1)) f) ≡ x
    turn_more q h lt =
        let k : n - i ≡ suc (n - (i + 1)) = omega arith in
        ap (λ (r : Moved). and_then r (turns (n - (i + 1)) f)) h ∙ sym (then_turn m f (n - (i + 1))) ∙ ap (λ (j : ℕ). and_then m (turns j f)) (sym k) ∙ e

    pub turn_stuck : f m.pics ≡ still m.pics → m ≡ x
    turn_stuck s = sym (then_still m) ∙ then_same m still (turns (n - i) f) (sym (stuck (n - i) f m.pics s)) ∙ e

    pub turn_last : n ≤ i → m ≡ x
    turn_last le =
        let k : n - i ≡ 0 = omega arith in
        sym (then_none m f) ∙ ap (λ (j : ℕ). and_then m (turns j f)) (sym k) ∙ e
