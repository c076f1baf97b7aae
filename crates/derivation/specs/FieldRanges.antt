-- The ranges of a begin record's fields: all of "Ranges" but those of single entries.
use Rattle.std.specs.Prelude.{ℕ, Bool, not, ◌&&◌, ◌||◌, ltb, leb, eqb}
use Rattle.paper.specs.Nal.{taken, irap, idr}

unfoldable pub field_ranges : ℕ → ℕ → ℕ → ℕ → ℕ → ℕ → Bool
field_ranges M nal tid flags lsb n =
    taken nal && leb tid 6 && (not (irap nal) || eqb tid 0) && ltb flags 4 && ltb lsb M && leb n 16
    && (not (idr nal) || (eqb lsb 0 && eqb n 0))
