-- What waits in a buffer is kept: a read goes behind it, and what was taken is cut off in front.
use Prim.Native.Nat.{ℕ, ◌+◌, ◌-◌, ◌≤◌, min}
use mathlib.Core.Path.{◌≡◌, refl, sym, ap, ◌∙◌}
use mathlib.Core.List.{List, [], ◌++◌, append_assoc, append-nil}
use native.Mathlib.Omega.{arith}
use mathlib.Core.Bool.{true, false}
use borrow.Author.Tests.{le-ltb, ltb-false}
use lib.Dec.{ltb}
use lib.ListN.{length, take, drop, length-drop, length-take, take-append-drop, drop_of_length-le}
use lib.Seq.{paste, take_at, drop_at, take-add, take-take, take-paste, length-take-le}
use Rattle.stream.specs.Turns.{Read}
use Rattle.stream.specs.Turns.{Fed, brought, shifted}

-- bytes put behind the first `held` leave these
pub front : (held : ℕ) (before behind : List ℕ) → held ≤ length before → take held (take held before ++ behind) ≡ take held before
front held before behind h = take_at (take held before) behind held (length-take-le held before h)

-- the bytes up to `end`, where the buffer has so many
pub shifted_within : (l : List ℕ) (from end : ℕ) → end ≤ length l → shifted l from end ≡ paste l 0 (drop from l) (end - from)
shifted_within l from end h =
    let k : min end (length l) ≡ end = omega arith in
    ap (λ (n : ℕ). paste l 0 (drop from l) (n - from)) k

-- the first `taken` bytes are cut off, and the rest moved to the start
cut_off : {taken : ℕ} {after : List ℕ} (cut : List ℕ) (held : ℕ) (before : List ℕ) → held ≤ length before → taken ≤ held → take taken (take held before) ≡ cut
    → after ≡ paste before 0 (drop taken before) (held - taken) → take held before ≡ cut ++ take (held - taken) after
cut_off {taken} {after} cut held before h k c e =
    ap (λ (n : ℕ). take n before) two
    ∙ take-add taken (held - taken) before
    ∙ ap (λ (l : List ℕ). l ++ take (held - taken) (drop taken before)) (sym (take-take taken held before k) ∙ c)
    ∙ ap (λ (l : List ℕ). cut ++ l) (sym rest)
  where
    two : held ≡ taken + (held - taken)
    two = omega arith

    none : held - taken ≡ 0 + (held - taken)
    none = omega arith

    rest : take (held - taken) after ≡ take (held - taken) (drop taken before)
    rest = ap (take (held - taken)) e ∙ ap (λ (n : ℕ). take n (paste before 0 (drop taken before) (held - taken))) none ∙ take-paste before 0 (drop taken before) (held - taken) (omega arith) (simp length-drop (omega arith))

-- ---- what a turn read

-- it stands behind what waited
pub read_behind : (held holds : ℕ) (before after : List ℕ) → held ≤ holds → take held after ≡ take held before → take held before ++ brought held holds after ≡ take holds after
read_behind held holds before after h e =
    ap (λ (l : List ℕ). l ++ brought held holds after) (sym e ∙ sym (take-take held holds after h)) ∙ take-append-drop held (take holds after)

-- and behind all that was read so far
pub read_so_far : {all : List ℕ} (front : List ℕ) (held holds : ℕ) (before after : List ℕ) → held ≤ holds → take held after ≡ take held before → all ≡ front ++ take held before
    → all ++ brought held holds after ≡ front ++ take holds after
read_so_far front held holds before after h e a =
    ap (λ (l : List ℕ). l ++ brought held holds after) a
    ∙ append_assoc front (take held before) (brought held holds after)
    ∙ ap (λ (l : List ℕ). front ++ l) (read_behind held holds before after h e)

-- where no more waits than before, nothing was read
pub none_brought : (held holds : ℕ) (after : List ℕ) → holds ≤ held → brought held holds after ≡ []
none_brought held holds after h = let k = length-take holds after in drop_of_length-le (take holds after) {i = held} (omega arith)

-- so all that was read stays as it is
pub still_same : {all : List ℕ} (held holds : ℕ) (after : List ℕ) → holds ≤ held → all ++ brought held holds after ≡ all
still_same {all} held holds after h = ap (λ (l : List ℕ). all ++ l) (none_brought held holds after h) ∙ append-nil all

-- nor does what waits change, where nothing was taken
unmoved : (held holds : ℕ) (before after : List ℕ) → holds ≤ held → take held before ++ brought held holds after ≡ take holds after → take holds after ≡ take held before
unmoved held holds before after h e = sym e ∙ still_same held holds after h

-- so where no whole one waited none does then
pub none_then : (size : List ℕ → ℕ) (held holds : ℕ) (before after : List ℕ) → size (take held before) ≡ 0 → ltb held holds ≡ false → take held before ++ brought held holds after ≡ take holds after
    → size (take holds after) ≡ 0
none_then size held holds before after z n e = let k = ltb-false held holds n in ap size (unmoved held holds before after (omega arith) e) ∙ z

-- what was taken is cut off in front, and what waits behind it is moved to the start: no byte is lost
pub taken_off : {taken : ℕ} {after : List ℕ} (cut : List ℕ) (held : ℕ) (before : List ℕ) → held ≤ length before → taken ≤ held → take taken (take held before) ≡ cut → after ≡ shifted before taken held
    → take held before ++ brought held (held - taken) after ≡ cut ++ take (held - taken) after
taken_off {taken} {after} cut held before h k c e =
    still_same held (held - taken) after (omega arith) ∙ cut_off cut held before h k c (e ∙ shifted_within before taken held h)

-- so what waits then is what was behind that
pub left_over : {n : ℕ} {after : List ℕ} (held : ℕ) (before : List ℕ) → held ≤ length before → n ≤ length (take held before) → after ≡ shifted before n held
    → drop n (take held before) ≡ take (held - n) after
left_over {n} {after} held before h k e =
    let x = take held before in
    let l = length-take-le held before h in
    ap (drop n) (cut_off (take n x) held before h (omega arith) refl (e ∙ shifted_within before n held h)) ∙ drop_at (take n x) (take (held - n) after) n (length-take-le n x k)

-- a read that failed brought nothing, so no more waits
pub none_more : {held : ℕ} {before after : List ℕ} {r : Read} → Fed held before r after → r.failed ≡ true → ltb held r.held ≡ false
none_more {held} {r = r} f e = let k = f.failed e in le-ltb held r.held (omega arith)
