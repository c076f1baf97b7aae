-- NAL types, "Per Table 7-1".
use Rattle.std.specs.Prelude.{ℕ, ◌%◌, Bool, ◌&&◌, ◌||◌, leb, eqb}

-- "IRAP 16 to 21, BLA 16 to 18, IDR 19 and 20, CRA 21, RADL 6 and 7, RASL 8 and 9, sub-layer non-reference 0, 2, 4, 6,
-- 8"
abbrev pub irap : ℕ → Bool
irap t = leb 16 t && leb t 21

abbrev pub bla : ℕ → Bool
bla t = leb 16 t && leb t 18

abbrev pub idr : ℕ → Bool
idr t = eqb t 19 || eqb t 20

abbrev pub cra : ℕ → Bool
cra t = eqb t 21

abbrev pub radl : ℕ → Bool
radl t = eqb t 6 || eqb t 7

abbrev pub rasl : ℕ → Bool
rasl t = eqb t 8 || eqb t 9

abbrev pub sub_layer_non_reference : ℕ → Bool
sub_layer_non_reference t = leb t 8 && eqb (t % 2) 0

-- "Types 0 to 9 and 16 to 21 are taken."
abbrev pub taken : ℕ → Bool
taken t = leb t 9 || irap t
