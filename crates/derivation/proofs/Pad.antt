-- Laws of a list in an array of fixed size, for every element type and size. Assumes nothing.
use mathlib.Core.Path.{◌≡◌, sym, ap, ◌∙◌}
use mathlib.Core.List.{List, [], ◌∷◌, ◌++◌, append_assoc}
use Prim.Native.Nat.{ℕ, suc, ◌+◌, ◌-◌, ◌<◌}
use native.Mathlib.Omega.{arith}
use lib.ListN.{length, take, set, replicate, length-append, length-set, length-replicate}
use lib.Seq.{take-append_seam, set-append_seam, set-append_left}
use Rattle.derivation.specs.Pad.{pad, Padded, used}

module _ {A : Type 0} (n : ℕ) (d : A) where
  take_pad : (l : List A) → take (length l) (pad n d l) ≡ l
  take_pad l = take-append_seam l (replicate (n - length l) d)

  set_pad : (l : List A) (i : ℕ) (a : A) → i < length l → set (pad n d l) i a ≡ pad n d (set l i a)
  set_pad l i a lt = rw (set-append_left l (replicate (n - length l) d) i a lt, length-set l i a)

  push_pad : (l : List A) (a : A) → length l < n → set (pad n d l) (length l) a ≡ pad n d (l ++ (a ∷ []))
  push_pad l a lt =
      let k : n - length l ≡ suc (n - length (l ++ (a ∷ []))) = simp length-append (omega arith) in
      rw (k, set-append_seam l d (replicate (n - length (l ++ (a ∷ []))) d) a, append_assoc)

-- ---- an array that holds a list: its used places are the list; one element more; a place written

module _ {A : Type 0} {n : ℕ} {d : A} {a : List A} {m : ℕ} {l : List A} (h : Padded n d a m l) where
  pub is_view : used m a ≡ l
  unfolding used
  is_view = rw (h.places, h.long) (take_pad n d l)

  pub is_good : Padded n d a m (used m a)
  is_good = rw is_view h

  -- all places
  pub is_long : length a ≡ n
  is_long =
      let e = length-append l (replicate (n - length l) d) in
      let f = length-replicate (n - length l) d in
      ap length h.places ∙ omega (arith, e, f, h.long, h.room)

  pub is_push : (x : A) → m < n → Padded n d (set a m x) (m + 1) (l ++ (x ∷ []))
  is_push x lt =
      record {
        places = rw (h.places, h.long) (push_pad n d l x (omega arith));
        long = simp length-append (omega arith);
        room = omega arith;
      }

  pub is_set : (i : ℕ) (x : A) → i < m → Padded n d (set a i x) m (set l i x)
  is_set i x lt =
      record {
        places = rw h.places (set_pad n d l i x (omega arith));
        long = simp length-set (omega arith);
        room = omega arith;
      }

-- an array and a length that hold one list are equal
pub one_array : {A : Type 0} {n : ℕ} {d : A} {a b : List A} {m k : ℕ} {l : List A} → Padded n d a m l → Padded n d b k l → (a ≡ b) × (m ≡ k)
one_array h g = (h.places ∙ sym g.places, h.long ∙ sym g.long)
