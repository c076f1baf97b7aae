-- The class of a NAL type, by the paper's predicates, and what each class says.
use Rattle.std.specs.Prelude.{ℕ, zero, suc, ◌-◌, List, [], ◌∷◌, ◌++◌, Bool, true, false, cond, not}
use Rattle.paper.specs.Nal.{idr, bla, cra, radl, rasl, taken}
use Rattle.derivation.specs.declared.nal.NalClass.{NalClass}
use Rattle.derivation.specs.declared.nal.NalClass.TheVariants.{Idr, Bla, Cra, Radl, Rasl, Other, Refused}

unfoldable pub class_of : ℕ → NalClass
class_of t =
    cond (idr t) Idr
    (cond (bla t) Bla
    (cond (cra t) Cra
    (cond (radl t) Radl
    (cond (rasl t) Rasl
    (cond (taken t) Other
    Refused)))))

-- the numbers from a to b: so many from a on
abbrev pub counted_from : ℕ → ℕ → List ℕ
counted_from a zero = []
counted_from a (suc n) = a ∷ counted_from (suc a) n

abbrev pub from_to : ℕ → ℕ → List ℕ
from_to a b = counted_from a (suc b - a)

-- the paper's numbers of each class, and of `Refused` those numbers of a byte that are not taken
unfoldable pub types_of : NalClass → List ℕ
types_of Idr = 19 ∷ 20 ∷ []
types_of Bla = 16 ∷ 17 ∷ 18 ∷ []
types_of Cra = 21 ∷ []
types_of Radl = 6 ∷ 7 ∷ []
types_of Rasl = 8 ∷ 9 ∷ []
types_of Other = 0 ∷ 1 ∷ 2 ∷ 3 ∷ 4 ∷ 5 ∷ []
types_of Refused = from_to 10 15 ++ from_to 22 255

abbrev pub taken_in : NalClass → Bool
taken_in Idr = true
taken_in Bla = true
taken_in Cra = true
taken_in Radl = true
taken_in Rasl = true
taken_in Other = true
taken_in Refused = false

abbrev pub irap_in : NalClass → Bool
irap_in Idr = true
irap_in Bla = true
irap_in Cra = true
irap_in Radl = false
irap_in Rasl = false
irap_in Other = false
irap_in Refused = false

abbrev pub idr_in : NalClass → Bool
idr_in Idr = true
idr_in Bla = false
idr_in Cra = false
idr_in Radl = false
idr_in Rasl = false
idr_in Other = false
idr_in Refused = false

abbrev pub cra_in : NalClass → Bool
cra_in Idr = false
cra_in Bla = false
cra_in Cra = true
cra_in Radl = false
cra_in Rasl = false
cra_in Other = false
cra_in Refused = false

abbrev pub rasl_in : NalClass → Bool
rasl_in Idr = false
rasl_in Bla = false
rasl_in Cra = false
rasl_in Radl = false
rasl_in Rasl = true
rasl_in Other = false
rasl_in Refused = false

abbrev pub no_rasl_in : NalClass → Bool → Bool
no_rasl_in Idr at_start = true
no_rasl_in Bla at_start = true
no_rasl_in Cra at_start = at_start
no_rasl_in Radl at_start = false
no_rasl_in Rasl at_start = false
no_rasl_in Other at_start = false
no_rasl_in Refused at_start = false

abbrev pub prev_in : NalClass → Bool → Bool
prev_in Idr nonReference = not nonReference
prev_in Bla nonReference = not nonReference
prev_in Cra nonReference = not nonReference
prev_in Radl nonReference = false
prev_in Rasl nonReference = false
prev_in Other nonReference = not nonReference
prev_in Refused nonReference = not nonReference
