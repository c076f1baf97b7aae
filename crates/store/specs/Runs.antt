-- Wishes, what each finds, and the sets in two runs.
use Rattle.std.specs.Prelude.{ℕ, zero, suc, ◌+◌, ◌-◌, ◌≤◌, min, ◌≡◌, Bool, true, false, cond, not, List, [], ◌∷◌, ◌++◌, get_or, length, set, take, replicate, pos}
use Rattle.paper.specs.Words.{table}
use Rattle.paper.specs.Sets.{Wishes, Sets, is_in, marked, sets_of, marks_of}
use Rattle.paper.specs.declared.Wish.{Wish}
use Rattle.paper.specs.declared.Serial.{Serial}
use Rattle.paper.specs.declared.Mark.{Mark}
use Rattle.paper.specs.declared.Mark.TheVariants.{Unmarked, LongTerm}
use Rattle.paper.specs.declared.Picture.{Picture}
use Rattle.derivation.specs.Pad.{Padded, used}
use Rattle.derivation.specs.Lists.{blank_serial, member_at}
use Rattle.store.specs.Walks.{blank, passing, sought_for, found_of, member_of}
use Rattle.store.specs.Places.{front}
use Rattle.store.specs.declared.Sizes.{Sizes}
use Rattle.store.specs.declared.Derived.{Derived}
use Rattle.store.specs.declared.sets.Settled.{Settled}
use Rattle.store.specs.declared.sets.Runs.{Runs}

-- the wish at a place, and what stands where there is none
abbrev pub no_wish : Wish
no_wish = record { poc = pos 0; used = false; whole = false }

abbrev pub wish_at : List Wish → ℕ → Wish
wish_at ws i = get_or ws i no_wish

-- n wishes from a place on
abbrev pub wishes_at : List Wish → ℕ → ℕ → List Wish
wishes_at ws from n = table (λ (i : ℕ). wish_at ws (from + i)) n

-- neg, then pos, then lt
abbrev pub wishes_in : List Wish → ℕ → ℕ → ℕ → Wishes
wishes_in ws a b c = record { neg = wishes_at ws 0 a; pos = wishes_at ws a b; lt = wishes_at ws (a + b) c }

-- as `wishes_in`, from sixteen places: a count over those that are left counts as those
abbrev pub wishes_within : List Wish → ℕ → ℕ → ℕ → Wishes
wishes_within ws a b c = let n = min a 16 in let p = min b (16 - n) in wishes_in ws n p (min c (16 - n - p))

-- ---- a walk over places

-- n places from one on, each with what its number gives
unfoldable pub filled : {A : Type 0} → (ℕ → A) → ℕ → ℕ → List A → List A
filled f from zero xs = xs
filled f from (suc n) xs = set (filled f from n xs) (from + n) (f (from + n))

-- the first n places, each changed where it stands
unfoldable pub changed : {A : Type 0} → A → (A → A) → ℕ → List A → List A
changed d g zero xs = xs
changed d g (suc n) xs = set (changed d g n xs) n (g (get_or (changed d g n xs) n d))

-- ---- step 4 on places: what each entry finds, and the marks

-- what the entry at i finds among these pictures
abbrev pub member_for : Bool → ℕ → List Picture → List Wish → ℕ → Serial
member_for long k ps ws i = member_of (found_of (passing (sought_for long k (wish_at ws i))) ps)

-- n members from a place on
abbrev pub members_at : List Serial → ℕ → ℕ → List Serial
members_at xs from n = table (λ (i : ℕ). member_at xs (from + i)) n

-- the pictures of these serials, or all others, get a mark
abbrev pub marking : Bool → Mark → List Serial → Picture → Picture
marking true m ns p = cond (is_in p.serial ns) (marked m p) p
marking false m ns p = cond (is_in p.serial ns) p (marked m p)

module _ (k : ℕ) (ws : List Wish) (shorts longs n : ℕ) (ps : List Picture) where
  -- what the long-term entries find, and the marks that it gives
  abbrev pub long_found : List Serial
  long_found = filled (member_for true k (take n ps) ws) shorts longs (replicate 16 blank_serial)

  abbrev pub long_places : List Picture
  long_places = changed blank (marking true LongTerm (members_at long_found shorts longs)) n ps

  -- what all entries find, and the marks that are left
  abbrev pub all_found : List Serial
  all_found = filled (member_for false k (take n long_places) ws) 0 shorts long_found

  abbrev pub all_places : List Picture
  all_places = changed blank (marking false Unmarked (members_at all_found 0 (shorts + longs))) n long_places

  pub record Settles (r : Settled) : Type 0 where
    pub places : r.places ≡ all_places
    pub found : r.found ≡ all_found

-- ---- the sets in two runs

pub record HoldsRuns (x : Runs) (us vs : List Serial) : Type 0 where
  pub first : Padded 16 blank_serial x.used.items x.used.len us
  pub second : Padded 16 blank_serial x.rest.items x.rest.len vs

abbrev pub used_in : Runs → List Serial
used_in x = used x.used.len x.used.items

abbrev pub rest_in : Runs → List Serial
rest_in x = used x.rest.len x.rest.items

abbrev pub GoodRuns : Runs → Type 0
GoodRuns x = HoldsRuns x (used_in x) (rest_in x)

-- of n numbers those of which b holds, each with what it gives
unfoldable pub picked : {A : Type 0} → (ℕ → Bool) → (ℕ → A) → ℕ → List A
picked b f zero = []
picked b f (suc n) = picked b f n ++ cond (b n) (f n ∷ []) []

-- what the used ones, and the others, of n entries from a place on found
abbrev pub used_at : List Serial → List Wish → ℕ → ℕ → List Serial
used_at fs ws from n = picked (λ (i : ℕ). (wish_at ws (from + i)).used) (λ (i : ℕ). member_at fs (from + i)) n

abbrev pub unused_at : List Serial → List Wish → ℕ → ℕ → List Serial
unused_at fs ws from n = picked (λ (i : ℕ). not (wish_at ws (from + i)).used) (λ (i : ℕ). member_at fs (from + i)) n

-- the five sets, in two runs: StCurrBefore, StCurrAfter, LtCurr, and StFoll, LtFoll
pub record HoldsSets (us vs : List Serial) (x : Sizes) (s : Sets) : Type 0 where
  pub first : Padded 16 blank_serial us (x.before + x.after + x.long) (s.before ++ (s.after ++ s.lt_curr))
  pub second : Padded 16 blank_serial vs (x.foll + x.lt_foll) (s.foll ++ s.lt_foll)
  pub before : x.before ≡ length s.before
  pub after : x.after ≡ length s.after
  pub long : x.long ≡ length s.lt_curr
  pub foll : x.foll ≡ length s.foll
  pub lt_foll : x.lt_foll ≡ length s.lt_foll
  pub few : x.before + x.after + x.long + x.foll + x.lt_foll ≤ 16

-- the store with the marks of step 4, and the sets
pub record Derives (M : ℕ) (ps : List Picture) (w : Wishes) (r : Derived) : Type 0 where
  pub pics : front r.store.places r.store.len ≡ marks_of M ps w
  pub few : r.store.len ≤ 16
  pub sets : HoldsSets r.first r.second r.sizes (sets_of M ps w)
