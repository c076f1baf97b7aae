-- Begin, step 1: the flags of the picture (8.1.3, C.5.2.2).
use Rattle.std.specs.Prelude.{ℕ, Bool, not, ◌&&◌, ◌||◌, eqb}
use Rattle.paper.specs.Nal.{irap, bla, idr, cra, radl, rasl, sub_layer_non_reference}

-- "NoRaslOutputFlag: IDR, BLA, CRA first in the bitstream, or any type first after end of sequence"
abbrev pub no_rasl_output : ℕ → Bool → Bool → Bool
no_rasl_output nal at_start ended = idr nal || bla nal || (cra nal && at_start) || ended

-- "Output flag: 0 for RASL with this flag, else as given"
abbrev pub pic_output : ℕ → Bool → Bool → Bool
pic_output nal no_rasl_pics given = given && not (rasl nal && no_rasl_pics)

-- "No output of prior pictures: IRAP with NoRaslOutputFlag, not first in the bitstream, and CRA or flagged."
abbrev pub no_prior_output : ℕ → Bool → Bool → Bool → Bool
no_prior_output nal no_rasl_pics at_start flagged = irap nal && no_rasl_pics && not at_start && (cra nal || flagged)

-- "valid (temporal id 0, not RASL, RADL or sub-layer non-reference)" (8.3.1, prevTid0Pic)
abbrev pub valid_prev : ℕ → ℕ → Bool
valid_prev nal tid = eqb tid 0 && not (rasl nal) && not (radl nal) && not (sub_layer_non_reference nal)
