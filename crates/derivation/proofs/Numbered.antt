-- What an answer tells of the exact MSB and POC: by the two cases of the test of them.
use mathlib.Core.Path.{◌≡◌, refl}
use mathlib.Core.Bool.{Bool, true, false, ◌&&◌}
use Prim.Native.Nat.{ℕ}
use Rattle.paper.specs.Poc.{msb_of, poc_of, in32}
use Rattle.derivation.specs.Answers.{poc_answer, inside}
use Rattle.derivation.specs.declared.Outside.{Outside}
use Rattle.derivation.specs.declared.poc.Poc.{Poc}
use Rattle.std.proofs.Common.{Option, Ok, Err}
use Rattle.paper.specs.declared.Tid0.{Tid0}

module _ (M : ℕ) (q : Option Tid0) (l : ℕ) where
  abbrev exact : Poc
  exact = record { msb = msb_of M q l; poc = poc_of M q l }

  pub poc_val : (p : Poc) → poc_answer M q l ≡ Ok p → (p.msb ≡ msb_of M q l) × (p.poc ≡ poc_of M q l) × ((in32 (msb_of M q l) && in32 (poc_of M q l)) ≡ true)
  poc_val p e = go (in32 (msb_of M q l) && in32 (poc_of M q l)) e
    where
      go : (b : Bool) → inside b exact ≡ Ok p → (p.msb ≡ msb_of M q l) × (p.poc ≡ poc_of M q l) × (b ≡ true)
      go true e = (cc, cc, refl)
      go false e = cc

  pub poc_out : {o : Outside} → poc_answer M q l ≡ Err o → (in32 (msb_of M q l) && in32 (poc_of M q l)) ≡ false
  poc_out {o} e = go (in32 (msb_of M q l) && in32 (poc_of M q l)) e
    where
      go : (b : Bool) → inside b exact ≡ Err o → b ≡ false
      go true e = cc
      go false e = refl
