-- A walk over the lines in their places, one line more at a time: what is built holds what stands before a place.
use mathlib.Core.Path.{◌≡◌, refl, sym, ◌∙◌}
use mathlib.Core.Bool.{Bool, true, false, cond, not}
use Rattle.std.specs.Prelude.{Option, None, Some, is_some, filter}
use Rattle.std.specs.List.{list_any, find}
use mathlib.Core.List.{List, [], ◌∷◌, ◌++◌, map, map-append, append-nil}
use Prim.Native.Nat.{ℕ, ◌+◌, ◌≤◌, ◌<◌, min}
use native.Mathlib.Omega.{arith}
use lib.ListN.{length, take, get_or, length-take}
use Rattle.derivation.specs.Pad.{used}
use Rattle.paper.proofs.Places.{take_more}
use Rattle.paper.specs.Words.{keep, any_b}
use Rattle.paper.specs.Ledger.{none}
use Rattle.paper.specs.declared.Blamed.{Blamed}
use Rattle.paper.specs.Blame.{first_line}
use Rattle.paper.specs.declared.Line.{Line}
use Rattle.watch.specs.Book.{current_in}

pub used_length : {A : Type 0} (m : ℕ) (a : List A) → length (used m a) ≡ min m (length a)
unfolding used
used_length m a = length-take m a

module _ {A : Type 0} (f : A → Bool) where
  pub keep_append : (a b : List A) → keep f (a ++ b) ≡ keep f a ++ keep f b
  unfolding keep
  keep_append [] b = refl
  keep_append (p ∷ a) b = go (f p) (keep_append a b)
    where
      go : (t : Bool) → keep f (a ++ b) ≡ keep f a ++ keep f b → cond t (p ∷ keep f (a ++ b)) (keep f (a ++ b)) ≡ cond t (p ∷ keep f a) (keep f a) ++ keep f b
      go true h = rw h
      go false h = h

  pub keep_short : (l : List A) → length (keep f l) ≤ length l
  unfolding keep
  keep_short [] = omega arith
  keep_short (p ∷ l) = go (f p) (keep_short l)
    where
      go : (t : Bool) → length (keep f l) ≤ length l → length (cond t (p ∷ keep f l) (keep f l)) ≤ length (p ∷ l)
      go true h = omega arith
      go false h = omega arith

  pub keep_more : (l : List A) (i : ℕ) (d : A) → i < length l → keep f (take (i + 1) l) ≡ keep f (take i l) ++ keep f (get_or l i d ∷ [])
  keep_more l i d lt = rw (take_more l i d lt, keep_append)

  pub keep_hit_more : (l : List A) (i : ℕ) (d : A) → i < length l → f (get_or l i d) ≡ true → keep f (take (i + 1) l) ≡ keep f (take i l) ++ (get_or l i d ∷ [])
  unfolding keep
  keep_hit_more l i d lt w = rw (keep_more l i d lt, w)

  pub keep_miss_more : (l : List A) (i : ℕ) (d : A) → i < length l → f (get_or l i d) ≡ false → keep f (take (i + 1) l) ≡ keep f (take i l)
  unfolding keep
  keep_miss_more l i d lt w = rw (keep_more l i d lt, w, append-nil)

pub map_more : {A B : Type 0} (f : A → B) (l : List A) (i : ℕ) (d : A) → i < length l → map f (take (i + 1) l) ≡ map f (take i l) ++ (f (get_or l i d) ∷ [])
map_more f l i d lt = rw (take_more l i d lt, map-append)

pub map_same : {A : Type 0} (l : List A) → map (λ (x : A). x) l ≡ l
map_same [] = refl
map_same (x ∷ l) = rw (map_same l)

-- all are kept
pub keep_all : {A : Type 0} (l : List A) → keep (λ (x : A). true) l ≡ l
unfolding keep
keep_all [] = refl
keep_all (x ∷ l) = rw (keep_all l)

-- a current picture is there, or it is not
pub idle : (c : Option Line) {r : Bool} → is_some c ≡ not r → none (current_in c) ≡ r
unfolding none
idle None {r = true} e = refl
idle None {r = false} e = sym e
idle (Some x) {r = true} e = sym e
idle (Some x) {r = false} e = refl

pub busy : (c : Option Line) {r : Bool} → r ≡ is_some c → none (current_in c) ≡ not r
busy c e = idle c (sym e ∙ sym (twice _))
  where
    twice : (r : Bool) → not (not r) ≡ r
    twice true = refl
    twice false = refl

-- the walks of std and those of the paper
pub any_is : {A : Type 0} (f : A → Bool) (l : List A) → list_any f l ≡ any_b f l
unfolding any_b
any_is f [] = refl
any_is f (x ∷ l) = rw (any_is f l)

pub first_found : (d : Blamed) (f : Line → Bool) (H : List Line) → first_line d (current_in (find f H)) ≡ first_line d (keep f H)
unfolding first_line keep
first_found d f [] = refl
first_found d f (e ∷ H) = go (f e) (first_found d f H)
  where
    go : (t : Bool) → first_line d (current_in (find f H)) ≡ first_line d (keep f H) → first_line d (current_in (cond t (Some e) (find f H))) ≡ first_line d (cond t (e ∷ keep f H) (keep f H))
    go true h = refl
    go false h = h

pub kept : {A : Type 0} (f : A → Bool) (l : List A) → filter f l ≡ keep f l
unfolding keep
kept f [] = refl
kept f (x ∷ l) = rw (kept f l)
