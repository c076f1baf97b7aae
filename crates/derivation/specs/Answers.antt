-- What the numbers of a picture are answered as, and the paper's number and values for each case of an answer.
use Rattle.std.specs.Prelude.{ℕ, Bool, cond, ◌&&◌, List, [], ◌∷◌, ℤ, pos, ◌+ℤ◌, Option, Result, Ok, Err}
use Rattle.paper.specs.declared.Tid0.{Tid0}
use Rattle.paper.specs.declared.Wish.{Wish}
use Rattle.paper.specs.Poc.{msb_of, poc_of, in32}
use Rattle.paper.specs.Sets.{wish_in32}
use Rattle.derivation.specs.declared.Outside.{Outside}
use Rattle.derivation.specs.declared.poc.Poc.{Poc}

-- an exact number is answered where the test holds, else that it lies outside
abbrev pub inside : {A : Type 0} → Bool → A → Result A Outside
inside b x = cond b (Ok x) (Err (record {}))

abbrev pub narrow_of : ℤ → Result ℤ Outside
narrow_of z = inside (in32 z) z

-- MSB z and lsb l
abbrev pub poc_at : ℤ → ℕ → Result Poc Outside
poc_at z l = inside (in32 z && in32 (z +ℤ pos l)) (record { msb = z; poc = z +ℤ pos l })

abbrev pub poc_answer : ℕ → Option Tid0 → ℕ → Result Poc Outside
poc_answer M q l =
    inside (in32 (msb_of M q l) && in32 (poc_of M q l)) (record { msb = msb_of M q l; poc = poc_of M q l })

abbrev pub wish_of : ℤ → Bool → Bool → Wish
wish_of z used whole = record { poc = z; used = used; whole = whole }

abbrev pub wanted_of : Wish → Result Wish Outside
wanted_of w = inside (wish_in32 w) w

-- ---- the number of each case: "6: the exact MSB, POC or a set's POC lies outside i32"; 0: not refused

abbrev pub number_of_narrow : Result ℤ Outside → ℕ
number_of_narrow (Ok z) = 0
number_of_narrow (Err e) = 6

abbrev pub number_of_poc : Result Poc Outside → ℕ
number_of_poc (Ok p) = 0
number_of_poc (Err e) = 6

abbrev pub number_of_wanted : Result Wish Outside → ℕ
number_of_wanted (Ok w) = 0
number_of_wanted (Err e) = 6

-- ---- the values of each case: the number itself; MSB and POC; what is asked for

abbrev pub values_of_narrow : Result ℤ Outside → List ℤ
values_of_narrow (Ok z) = z ∷ []
values_of_narrow (Err e) = []

abbrev pub values_of_poc : Result Poc Outside → List ℤ
values_of_poc (Ok p) = p.msb ∷ p.poc ∷ []
values_of_poc (Err e) = []

abbrev pub values_of_wanted : Result Wish Outside → List Wish
values_of_wanted (Ok w) = w ∷ []
values_of_wanted (Err e) = []
