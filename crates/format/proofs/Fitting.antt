-- What is cut off lies within the bytes.
use Prim.Native.Nat.{ℕ, ◌+◌, ◌*◌, ◌-◌, ◌≤◌, ◌<◌}
use mathlib.Core.Path.{◌≡◌, refl, ap, ap₂, subst, ◌∙◌}
use mathlib.Core.List.{List}
use mathlib.Core.Bool.{Bool, true, false, cond}
use native.Mathlib.Omega.{arith}
use lib.Dec.{leb}
use lib.ListN.{length, get_or, take, drop, length-drop}
use lib.Seq.{length-take-le, take_all, get_or-take}
use borrow.Author.Tests.{leb-true, leb-false, eq-eqb}
use Rattle.paper.specs.Records.{length_of}
use Rattle.format.specs.Cut.{size_of, is_whole}

module _ (l : List ℕ) where
  by_body : (b : Bool) → leb (4 + length_of l) (length l) ≡ b → cond b (4 + length_of l) 0 ≤ length l
  by_body true e = leb-true (4 + length_of l) (length l) e
  by_body false e = omega arith

  by_head : (b : Bool) → cond b (cond (leb (4 + length_of l) (length l)) (4 + length_of l) 0) 0 ≤ length l
  by_head true = by_body (leb (4 + length_of l) (length l)) refl
  by_head false = omega arith

  -- a record that is whole ends within the bytes
  pub size_fits : size_of l ≤ length l
  size_fits = by_head (leb 4 (length l))

  whole_body : (b : Bool) → 0 < cond b (4 + length_of l) 0 → cond b (4 + length_of l) 0 ≡ 4 + length_of l
  whole_body true h = refl
  whole_body false h = omega arith

  whole_head : (b : Bool) → 0 < cond b (cond (leb (4 + length_of l) (length l)) (4 + length_of l) 0) 0 → cond b (cond (leb (4 + length_of l) (length l)) (4 + length_of l) 0) 0 ≡ 4 + length_of l
  whole_head true h = whole_body (leb (4 + length_of l) (length l)) h
  whole_head false h = omega arith

  -- what is cut off is head plus body
  pub size_whole : (n : ℕ) → 0 < n → n ≡ size_of l → is_whole (take n l) ≡ true
  size_whole n h e =
      let k : size_of l ≡ 4 + length_of l = whole_head (leb 4 (length l)) (subst (λ (x : ℕ). 0 < x) e h) in
      let f = size_fits in
      let d : length (take n l) ≡ n = length-take-le n l (omega arith) in
      let a : get_or (take n l) 0 0 ≡ get_or l 0 0 = get_or-take n l 0 0 h in
      let b : get_or (take n l) 1 0 ≡ get_or l 1 0 = get_or-take n l 1 0 (omega arith) in
      let q : length_of (take n l) ≡ length_of l = ap₂ (λ (x y : ℕ). x + 256 * y) a b in
      eq-eqb (length (take n l)) (4 + length_of (take n l)) (omega arith)

  short_body : (b : Bool) → leb (4 + length_of l) (length l) ≡ b → cond b (4 + length_of l) 0 ≡ 0 → length l < 4 + length_of l
  short_body true e h = absurd (omega arith)
  short_body false e h = leb-false (4 + length_of l) (length l) e

  short_head : (b : Bool) → leb 4 (length l) ≡ b → (4 ≤ length l → length_of l < 65536) → cond b (cond (leb (4 + length_of l) (length l)) (4 + length_of l) 0) 0 ≡ 0 → length l < 65539
  short_head true e u h =
      let v = u (leb-true 4 (length l) e) in
      let w = short_body (leb (4 + length_of l) (length l)) refl h in
      omega arith
  short_head false e u h = let v = leb-false 4 (length l) e in omega arith

  -- "u16 body length": what is not whole is shorter than the longest record
  pub size_short : (4 ≤ length l → length_of l < 65536) → size_of l ≡ 0 → length l < 65539
  size_short = short_head (leb 4 (length l)) refl

module _ (l : List ℕ) (taken : ℕ) {n : ℕ} (e : n ≡ size_of (take (length l - taken) (drop taken l))) where
  -- the part that runs to the end is all that is behind `taken`
  pub size_at : n ≡ size_of (drop taken l)
  size_at = e ∙ ap size_of (take_all (length l - taken) (drop taken l) (simp length-drop (omega arith)))

  pub size_end : taken ≤ length l → taken + n ≤ length l
  size_end h =
      let k : size_of (drop taken l) ≤ length l - taken = subst (λ (m : ℕ). size_of (drop taken l) ≤ m) (length-drop taken l) (size_fits (drop taken l)) in
      let q = size_at in
      omega arith

-- where none was taken though there was room for what one makes, none is whole
pub no_size : {taken made : ℕ} (l output : List ℕ) (room : ℕ) → taken ≡ 0 → made ≡ 0 → room ≤ length output → (made + room ≤ length output → size_of (drop taken l) ≡ 0) → size_of l ≡ 0
no_size l output room z m h all = subst (λ (n : ℕ). size_of (drop n l) ≡ 0) z (all (omega arith))

-- behind one that is not whole there is room in a buffer that holds the longest
module _ (held : ℕ) (l : List ℕ) (bytes : (k : ℕ) → get_or l k 0 < 256) (long : 65539 ≤ length l) (inside : held ≤ length l) where
  small : 4 ≤ length (take held l) → length_of (take held l) < 65536
  small h =
      let e = length-take-le held l inside in
      let a : get_or (take held l) 0 0 ≡ get_or l 0 0 = get_or-take held l 0 0 (omega arith) in
      let b : get_or (take held l) 1 0 ≡ get_or l 1 0 = get_or-take held l 1 0 (omega arith) in
      omega (arith, bytes 0, bytes 1)

  pub room_left : size_of (take held l) ≡ 0 → held < length l
  room_left z =
      let k = size_short (take held l) small z in
      let e = length-take-le held l inside in
      omega arith

-- what is within the first bytes is no further than these
pub within : {n : ℕ} (held : ℕ) (l : List ℕ) → held ≤ length l → n ≤ length (take held l) → n ≤ held
within held l h k = let e = length-take-le held l h in omega arith
