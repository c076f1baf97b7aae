-- Pictures told apart by serial and by surface, and by serial alone.
use Prim.Native.Nat.{ℕ}
use mathlib.Core.Path.{◌≡◌, sym}
use mathlib.Core.Logic.{◌⊎◌, inl, inr}
use mathlib.Core.List.{List, [], ◌∷◌, ◌++◌, map}
use mathlib.Core.Bool.{Bool, true, false}
use lib.Dec.{eqb}
use borrow.Author.Tests.{eqb-true, eqb-false, eq-eqb, ne_eqb}
use Rattle.paper.specs.declared.Picture.{Picture}
use Rattle.paper.specs.Words.{keep}
use Rattle.paper.specs.BySerial.{other}
use Rattle.paper.proofs.Every.{All, Mem, all_keep, all_map, all_more, all_append, all_at}
use Rattle.paper.proofs.Bools.{split, not_both}

-- each two, the earlier first
abbrev pub Pairs : (Picture → Picture → Type 0) → List Picture → Type 0
Pairs R [] = Unit {0}
Pairs R (p ∷ ps) = All (R p) ps × Pairs R ps

pub pairs_keep : (R : Picture → Picture → Type 0) (f : Picture → Bool) (ps : List Picture) → Pairs R ps → Pairs R (keep f ps)
unfolding keep
pairs_keep R f [] d = tt
pairs_keep R f (p ∷ ps) d =
    split (f p) (λ e. rw e (all_keep (R p) f ps d.0, pairs_keep R f ps d.1)) (λ e. rw e (pairs_keep R f ps d.1))

pub pairs_map : (R : Picture → Picture → Type 0) (g : Picture → Picture) → ((p q : Picture) → R p q → R (g p) (g q)) → (ps : List Picture) → Pairs R ps → Pairs R (map g ps)
pairs_map R g h [] d = tt
pairs_map R g h (p ∷ ps) d = (all_map (R p) (R (g p)) g (λ q o. h p q o) ps d.0, pairs_map R g h ps d.1)

pub pairs_more : (R S : Picture → Picture → Type 0) → ((p q : Picture) → R p q → S p q) → (ps : List Picture) → Pairs R ps → Pairs S ps
pairs_more R S h [] d = tt
pairs_more R S h (p ∷ ps) d = (all_more (R p) (S p) (λ q o. h p q o) ps d.0, pairs_more R S h ps d.1)

pub record Other (p q : Picture) : Type 0 where
  pub serial : eqb p.serial.0 q.serial.0 ≡ false
  pub surface : eqb p.surface.0 q.surface.0 ≡ false

abbrev pub Distinct : List Picture → Type 0
Distinct ps = Pairs Other ps

-- by serial alone
abbrev pub OtherSerial : Picture → Picture → Type 0
OtherSerial p q = other p q ≡ true

abbrev pub Serials : List Picture → Type 0
Serials ps = Pairs OtherSerial ps

pub serials : (ps : List Picture) → Distinct ps → Serials ps
serials ps d = pairs_more Other OtherSerial (λ p q o. rw o.serial) ps d

pub flip : (n m : ℕ) → eqb n m ≡ false → eqb m n ≡ false
flip n m e = ne_eqb m n (λ z. eqb-false n m e (sym z))

pub serial_flip : (p q : Picture) → OtherSerial p q → OtherSerial q p
serial_flip p q o =
    split (eqb q.serial.0 p.serial.0) (λ e. not_both (other p q) o (rw (eq-eqb p.serial.0 q.serial.0 (sym (eqb-true q.serial.0 p.serial.0 e))))) (λ e. rw e)

pub other_flip : (p q : Picture) → Other p q → Other q p
other_flip p q o = record { serial = flip p.serial.0 q.serial.0 o.serial; surface = flip p.surface.0 q.surface.0 o.surface }

-- a change that leaves serials and surfaces
pub record Same (p q : Picture) : Type 0 where
  pub serial : q.serial.0 ≡ p.serial.0
  pub surface : q.surface.0 ≡ p.surface.0

pub distinct_map : (g : Picture → Picture) → ((p : Picture) → Same p (g p)) → (ps : List Picture) → Distinct ps → Distinct (map g ps)
distinct_map g h ps d =
    pairs_map Other g (λ p q o. record { serial = rw ((h p).serial, (h q).serial) o.serial; surface = rw ((h p).surface, (h q).surface) o.surface }) ps d

pub distinct_snoc : (ps : List Picture) (p : Picture) → Distinct ps → All (λ (q : Picture). Other q p) ps → Distinct (ps ++ (p ∷ []))
distinct_snoc [] p d a = (tt, tt)
distinct_snoc (q ∷ ps) p d a = (all_append (Other q) ps (p ∷ []) d.0 (a.0, tt), distinct_snoc ps p d.1 a.1)

-- each picture is that one, or another
abbrev pub Told : Picture → Picture → Type 0
Told p q = (q ≡ p) ⊎ Other p q

pub told_apart : (p : Picture) (ps : List Picture) → Distinct ps → Mem p ps → All (Told p) ps
told_apart p [] d m = absurd m
told_apart p (q ∷ ps) d (inl e) = (inl (sym e), all_more (Other q) (Told p) (λ x o. inr (rw e o)) ps d.0)
told_apart p (q ∷ ps) d (inr m) = (inr (other_flip q p (all_at (Other q) p ps d.0 m)), told_apart p ps d.1 m)
