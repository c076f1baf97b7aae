-- What is written of the examples is what was worked out for them: by computing.
use mathlib.Core.Path.{◌≡◌, refl}
use mathlib.Core.List.{map}
use Rattle.stream.specs.Text.{ascii, digits, decimal}
use Rattle.paper.specs.Words.{flat}
use Rattle.format.specs.Cut.{parts_in}
use Rattle.compare.specs.Lines.{last_of, same, first_place, lines_from, line_text, compared_text}
use Rattle.compare.specs.Examples.{Example, examples}

pub as_worked_out : map (λ (x : Example). compared_text x.first x.second) examples ≡ map (λ (x : Example). ascii x.text) examples
unfolding parts_in last_of same first_place lines_from line_text flat decimal digits
as_worked_out = refl
