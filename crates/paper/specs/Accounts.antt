-- Demand 3 in plain accounts: what was begun, handed out, thrown away and released, counted over all exchanges.
use Rattle.std.specs.Prelude.{ℕ, ◌+◌, ◌≤◌, ◌≡◌, List, [], ◌∷◌, ◌++◌, map, cond, eqb}
use Rattle.paper.specs.Words.{keep}
use Rattle.paper.specs.Numbers.{serial_nos, surface_nos}
use Rattle.paper.specs.Output.{Tail}
use Rattle.paper.specs.declared.Shown.{Shown}
use Rattle.paper.specs.Replies.{Reply}
use Rattle.paper.specs.declared.Line.{Line}
use Rattle.paper.specs.Ledger.{Ledger, Exchange, reply_in, line_of}

-- how often n stands in a list
unfoldable pub count : ℕ → List ℕ → ℕ
count n [] = 0
count n (m ∷ ms) = cond (eqb n m) 1 0 + count n ms

abbrev pub serials : List Line → List ℕ
serials H = map (λ (e : Line). e.serial.0) H

abbrev pub surfaces : List Line → List ℕ
surfaces H = map (λ (e : Line). e.surface.0) H

-- the lines that want to be shown
unfoldable pub wanting : List Line → List Line
wanting H = keep (λ (e : Line). e.wants) H

-- of one exchange: the picture begun, if it was a begin that was accepted; what was handed out, thrown away, released
unfoldable pub begun_in : List ℕ → Reply → List Line
begun_in r (Reply.Refused kind n) = []
begun_in r (Reply.Done kind t) = []
begun_in r (Reply.Started b t) = line_of r b ∷ []
begun_in r (Reply.Listed l0 l1) = []

unfoldable pub tail_in : Reply → Tail
tail_in (Reply.Refused kind n) = record { handed = []; thrown = []; released = [] }
tail_in (Reply.Done kind t) = t
tail_in (Reply.Started b t) = t
tail_in (Reply.Listed l0 l1) = record { handed = []; thrown = []; released = [] }

-- of all exchanges
unfoldable pub begun_all : List Exchange → List Line
begun_all [] = []
begun_all (x ∷ xs) = begun_in x.said (reply_in x) ++ begun_all xs

unfoldable pub handed_all : List Exchange → List ℕ
handed_all [] = []
handed_all (x ∷ xs) = map (λ (p : Shown). p.serial.0) (tail_in (reply_in x)).handed ++ handed_all xs

unfoldable pub thrown_all : List Exchange → List ℕ
thrown_all [] = []
thrown_all (x ∷ xs) = serial_nos (tail_in (reply_in x)).thrown ++ thrown_all xs

unfoldable pub released_all : List Exchange → List ℕ
released_all [] = []
released_all (x ∷ xs) = surface_nos (tail_in (reply_in x)).released ++ released_all xs

-- Each picture begun with output flag 1 is current or waiting, handed out once, or thrown away, exactly one of these;
-- each surface was begun as often as it was released, and once more where it is held
pub record Accounts (xs : List Exchange) (L : Ledger) : Type 0 where
  pub pictures : (n : ℕ)
      → count n (serials (wanting (begun_all xs))) ≡ count n
      (serials (wanting (L.held ++ L.current))) + (count n (handed_all xs) + count n (thrown_all xs))
  pub once : (n : ℕ) → count n (serials (begun_all xs)) ≤ 1
  pub memory : (x : ℕ)
      → count x (surfaces (begun_all xs)) ≡ count x (surfaces (L.held ++ L.current)) + count x (released_all xs)
  pub held_once : (x : ℕ) → count x (surfaces (L.held ++ L.current)) ≤ 1
