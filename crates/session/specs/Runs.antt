-- A run of short-term entries, each tested against the delta in front of it.
use Rattle.std.specs.Prelude.{◌≡◌, refl, List, [], ◌∷◌, Bool, true, ◌&&◌, ltb, ℤ, pos, negsuc}
use Rattle.std.specs.Int.Signed.{lt_z, le_z}
use Rattle.paper.specs.declared.ShortEntry.{ShortEntry}
use Rattle.paper.specs.Ranges.{falling, rising}

-- g tests a run behind a delta by t, entry by entry
pub record Runs (t : ℤ → ShortEntry → Bool) (g : ℤ → List ShortEntry → Bool) : Type 0 where
  pub none : (d : ℤ) → g d [] ≡ true
  pub more : (d : ℤ) (e : ShortEntry) (es : List ShortEntry) → g d (e ∷ es) ≡ (t d e && g e.delta es)

-- the tests of one entry, as the ranges have them of each in a run
abbrev pub falls_after : ℤ → ShortEntry → Bool
falls_after d e = le_z (negsuc 524287) e.delta && lt_z e.delta d && ltb e.used 2

abbrev pub rises_after : ℤ → ShortEntry → Bool
rises_after d e = le_z e.delta (pos 524288) && lt_z d e.delta && ltb e.used 2

pub falls : Runs falls_after falling
unfolding falling
falls = record { none = λ d. refl; more = λ d e es. refl }

pub rises : Runs rises_after rising
unfolding rising
rises = record { none = λ d. refl; more = λ d e es. refl }
