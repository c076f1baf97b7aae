-- Document 02, Item 3: the lowest waiting picture, its place and its POC, in one walk; and the same in two walks, the
-- Rust's way.
use Rattle.std.specs.Prelude.{ℕ, suc, ◌<◌, ◌≡◌, Bool, true, false, cond, List, [], ◌∷◌, length, ℤ}
use Rattle.std.specs.Int.Signed.{lt_z}
use Rattle.paper.specs.Words.{keep}
use Rattle.paper.specs.Poc.{eq_z}
use Rattle.paper.specs.Output.{is_it}
use Rattle.paper.specs.declared.Picture.{Picture}
use Rattle.store.specs.Places.{place_at}
use Rattle.store.specs.Tails.{waits}
use Rattle.store.specs.declared.bumping.Lowest.{Lowest}
use Rattle.std.specs.Prelude.{Option, None, Some}

-- ---- one walk

-- a place, and the POC there
abbrev pub lowest_at : ℕ → ℤ → Option Lowest
lowest_at i z = Some (record { at = i; poc = z })

-- the lowest so far, with one more at place i: the earlier one stays where they are equal
abbrev pub lower_by : Option Lowest → ℕ → ℤ → Option Lowest
lower_by None i z = lowest_at i z
lower_by (Some x) i z = cond (lt_z z x.poc) (lowest_at i z) (Some x)

-- from place i on, with what was found in front of it
unfoldable pub walk_from : ℕ → Option Lowest → List Picture → Option Lowest
walk_from i x [] = x
walk_from i x (p ∷ ps) = walk_from (suc i) (cond p.waiting (lower_by x i p.poc) x) ps

abbrev pub one_walk : List Picture → Option Lowest
one_walk ps = walk_from 0 None ps

-- ---- two walks

-- the first, `filter(needed_for_output).min_by_key(pic_order_cnt_val)`: of two with one key it answers the earlier
unfoldable pub least_from : Picture → List Picture → Picture
least_from p [] = p
least_from p (q ∷ qs) = least_from (cond (lt_z q.poc p.poc) q p) qs

abbrev pub min_by_poc : List Picture → Option Picture
min_by_poc [] = None
min_by_poc (p ∷ ps) = Some (least_from p ps)

-- the second, `position(..)`: the first place of which t holds
unfoldable pub position : (Picture → Bool) → List Picture → ℕ
position t [] = 0
position t (p ∷ ps) = cond (t p) 0 (suc (position t ps))

-- what the first finds, and its place by a test that knows it
abbrev pub placed : (Picture → Picture → Bool) → List Picture → Option Picture → Option Lowest
placed t ps None = None
placed t ps (Some p) = lowest_at (position (t p) ps) p.poc

-- the second walk as the rules have it: of those that wait
abbrev pub two_walks : List Picture → Option Lowest
two_walks ps = placed is_it ps (min_by_poc (keep waits ps))

-- and as the Rust has it: of all (docs/DIFFERENCES.md, 1)
abbrev pub has_its_poc : Picture → Picture → Bool
has_its_poc p q = eq_z q.poc p.poc

abbrev pub rust_walks : List Picture → Option Lowest
rust_walks ps = placed has_its_poc ps (min_by_poc (keep waits ps))

-- ---- Item 3

-- "the lowest waiting POC, earlier stored first on a tie": place i, and its POC z
pub record Leads (ps : List Picture) (i : ℕ) (z : ℤ) : Type 0 where
  pub stands : i < length ps
  pub waiting : (place_at ps i).waiting ≡ true
  pub poc : (place_at ps i).poc ≡ z
  pub lowest : (j : ℕ) → j < length ps → (place_at ps j).waiting ≡ true → lt_z (place_at ps j).poc z ≡ false
  pub first : (j : ℕ) → j < i → (place_at ps j).waiting ≡ true → lt_z z (place_at ps j).poc ≡ true

abbrev pub NoneWaits : List Picture → Type 0
NoneWaits ps = (j : ℕ) → j < length ps → (place_at ps j).waiting ≡ false

-- no picture in front of place i, waiting or not, has the POC z
abbrev pub NoneBefore : List Picture → ℕ → ℤ → Type 0
NoneBefore ps i z = (j : ℕ) → j < i → eq_z (place_at ps j).poc z ≡ false

-- "stored POCs pairwise different", of the compared domain
abbrev pub PocsDiffer : List Picture → Type 0
PocsDiffer ps =
    (i j : ℕ) → i < length ps → j < length ps → eq_z (place_at ps i).poc (place_at ps j).poc ≡ true → i ≡ j

pub record Item3 : Type 0 where
  -- "Find both in one walk. The answer stays the same on every store, ties included"
  pub same : (ps : List Picture) → one_walk ps ≡ two_walks ps
  -- what it finds, and that it finds no other
  pub found : (ps : List Picture) (i : ℕ) (z : ℤ) → one_walk ps ≡ lowest_at i z → Leads ps i z
  pub only : (ps : List Picture) (i : ℕ) (z : ℤ) → Leads ps i z → one_walk ps ≡ lowest_at i z
  -- nothing, exactly where none waits
  pub nothing : (ps : List Picture) → one_walk ps ≡ None → NoneWaits ps
  pub none : (ps : List Picture) → NoneWaits ps → one_walk ps ≡ None
  -- the Rust's own second walk finds the same exactly where no picture in front of it has its POC
  pub rust_none : (ps : List Picture) → one_walk ps ≡ None → rust_walks ps ≡ None
  pub rust_same : (ps : List Picture) (i : ℕ) (z : ℤ) → one_walk ps ≡ lowest_at i z → NoneBefore ps i z → rust_walks ps ≡ lowest_at i z
  pub rust_only : (ps : List Picture) (i : ℕ) (z : ℤ) → one_walk ps ≡ lowest_at i z → rust_walks ps ≡ lowest_at i z → NoneBefore ps i z
  pub rust_domain : (ps : List Picture) → PocsDiffer ps → rust_walks ps ≡ one_walk ps
