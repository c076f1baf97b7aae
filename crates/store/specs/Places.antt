-- A store by value: sixteen places of picture records, and how many of them are used.
use Rattle.std.specs.Prelude.{Result, Ok, Err, ℕ, zero, suc, min, Bool, cond, List, [], ◌∷◌, get_or, take}
use Rattle.paper.specs.Words.{table}
use Rattle.paper.specs.declared.Picture.{Picture}
use Rattle.store.specs.Walks.{blank}
use Rattle.store.specs.declared.Store.{Store}
use Rattle.store.specs.declared.Full.{Full}

-- the picture at place i
abbrev pub place_at : List Picture → ℕ → Picture
place_at ps i = get_or ps i blank

-- those at the first n places
abbrev pub front : List Picture → ℕ → List Picture
front ps n = table (place_at ps) n

-- all but the one at place i: those behind it move up
unfoldable pub without_at : {A : Type 0} → ℕ → List A → List A
without_at i [] = []
without_at zero (x ∷ xs) = xs
without_at (suc i) (x ∷ xs) = x ∷ without_at i xs

-- the stored pictures, in the order they came; a length over 16 counts as 16
abbrev pub stored_in : Store → List Picture
stored_in s = front s.places (min s.len 16)

-- those in front of whom one more has a place
abbrev pub roomy : List Picture → List Picture
roomy ps = take 15 ps

-- "9: the current picture must be stored and stored = capacity"; 0: there is room
abbrev pub room_of : Bool → Result (Unit {0}) Full
room_of full = cond full (Err (record {})) (Ok tt)

abbrev pub number_of_room : Result (Unit {0}) Full → ℕ
number_of_room (Ok x) = 0
number_of_room (Err x) = 9
