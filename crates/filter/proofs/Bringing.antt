-- What a run reads are bytes: the input buffer is lent to each turn as `&mut [u8]`, and of a slice of u8 the kit knows
-- that each element is below 256 (`slice-known`).
use Prim.Native.Nat.{ℕ, ◌<◌}
use mathlib.Core.Path.{◌≡◌, refl, ap, ◌∙◌}
use mathlib.Core.List.{List, [], ◌∷◌}
use mathlib.Core.Bool.{Bool, true}
use lib.Dec.{ltb}
use lib.ListN.{get_or, take, drop, take-append-drop}
use Rattle.paper.specs.Words.{all_b}
use Rattle.paper.proofs.Every.{All}
use Rattle.format.proofs.Cutting.{all_append, all_parts, lent_bytes}
use Rattle.stream.specs.Turns.{through}
use Rattle.filter.specs.Turns.{Stand, read_in}

abbrev pub Lent : {S : Type 0} → Stand S → Type 0
Lent s = (k : ℕ) → get_or s.input k 0 < 256

pub brought_bytes : {S : Type 0} (turns : List (Stand S)) (s : Stand S) → All Lent turns → Lent s → all_b (λ (b : ℕ). ltb b 256) (through read_in turns s) ≡ true
unfolding through all_b
brought_bytes [] s g l = refl
brought_bytes (b ∷ earlier) s g l =
    let f : ℕ → Bool = λ (x : ℕ). ltb x 256 in
    let xs = s.input in
    let n = s.after.held in
    let m = b.after.held in
    let held = (all_parts f (take n xs) (drop n xs) (ap (all_b f) (take-append-drop n xs) ∙ lent_bytes xs l)).0 in
    let new = (all_parts f (take m (take n xs)) (drop m (take n xs)) (ap (all_b f) (take-append-drop m (take n xs)) ∙ held)).1 in
    all_append f (through read_in earlier b) (drop m (take n xs)) (brought_bytes earlier b g.1 g.0) new
