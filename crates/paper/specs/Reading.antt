-- What a reader of replies carries from one reply to the next: what a reply means may depend on the replies before it.
use Rattle.std.specs.Prelude.{ℕ, List, [], ◌∷◌}
use Rattle.paper.specs.declared.Reading.{Reading}
use Rattle.paper.specs.Kinds.{shown_width}

-- before the first reply
abbrev pub opening : Reading
opening = record {}

-- behind a reply of these bytes: so far none changes how those behind it are read
unfoldable pub further : Reading → List ℕ → Reading
further st a = st

-- behind some replies
unfoldable pub further_all : Reading → List (List ℕ) → Reading
further_all st [] = st
further_all st (a ∷ answers) = further_all (further st a) answers

-- how many bytes name a picture handed out
abbrev pub shown_width_in : Reading → ℕ
shown_width_in st = shown_width
