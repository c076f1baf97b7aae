-- What stands at a place of a reply: read from there on, or behind what was dropped.
use Prim.Native.Nat.{ℕ, zero, suc, ◌+◌, ◌-◌, ◌*◌, ◌<◌}
use mathlib.Core.Path.{◌≡◌, refl, sym, ap, ap₂, ◌∙◌}
use mathlib.Core.List.{List, [], ◌∷◌, ◌++◌, map, append-nil}
use native.Mathlib.Numerals.{add-one}
use native.Mathlib.Omega.{arith}
use lib.ListN.{get_or, drop}
use lib.Seq.{get_or-drop, drop-drop}
use mir.Val.{to_z}
use mir.Syntax.{w32}
use Rattle.wire.proofs.Flat.{flat_append}
use Rattle.paper.specs.declared.Reading.{Reading}
use Rattle.paper.specs.declared.Shown.{Shown}
use Rattle.paper.specs.Words.{flat}
use Rattle.paper.specs.Numbers.{u8, u16, u32, a_serial, a_surface, serial_nos, surface_nos}
use Rattle.paper.specs.Kinds.{shown_width}
use Rattle.paper.specs.Ledger.{read_words, read_serials, read_shown, read_released, read_tail}
use Rattle.stream.specs.Text.{ascii, decimal}
use Rattle.show.specs.Lists.{behind_comma, named, shown_text, shown_at, tail_text}

pub u8_drop : (n : ℕ) (l : List ℕ) (i k : ℕ) → n + i ≡ k → u8 (drop n l) i ≡ u8 l k
u8_drop n l i k e = get_or-drop n l i 0 ∙ ap (λ (m : ℕ). get_or l m 0) e

pub u16_drop : (n : ℕ) (l : List ℕ) (i k : ℕ) → n + i ≡ k → u16 (drop n l) i ≡ u16 l k
u16_drop n l i k e = ap₂ (λ (x y : ℕ). x + 256 * y) (u8_drop n l i k e) (u8_drop n l (i + 1) (k + 1) (omega arith))

pub u32_drop : (n : ℕ) (l : List ℕ) (i k : ℕ) → n + i ≡ k → u32 (drop n l) i ≡ u32 l k
u32_drop n l i k e = ap₂ (λ (x y : ℕ). x + 65536 * y) (u16_drop n l i k e) (u16_drop n l (i + 2) (k + 2) (omega arith))

abbrev shown_of : ℕ → ℕ → ℕ → Shown
shown_of a b c = record { serial = a_serial a; surface = a_surface b; poc = to_z w32 c }

shown_drop : (st : Reading) (n : ℕ) (l : List ℕ) (i k : ℕ) → n + i ≡ k → shown_at st (drop n l) i ≡ shown_at st l k
shown_drop st n l i k e =
    ap₂ (λ (a b : ℕ). shown_of a b (u32 (drop n l) (i + 8))) (u32_drop n l i k e) (u32_drop n l (i + 4) (k + 4) (omega arith))
    ∙ ap (λ (c : ℕ). shown_of (u32 l k) (u32 l (k + 4)) c) (u32_drop n l (i + 8) (k + 8) (omega arith))

-- one more at the end
words_more : (i : ℕ) (l : List ℕ) → read_words (suc i) l ≡ read_words i l ++ (u32 l (4 * i) ∷ [])
unfolding read_words
words_more zero l = refl
words_more (suc i) l =
    ap (λ (ws : List ℕ). u32 l 0 ∷ ws) (words_more i (drop 4 l) ∙ ap (λ (x : ℕ). read_words i (drop 4 l) ++ (x ∷ [])) (u32_drop 4 l (4 * i) (4 * suc i) (omega arith)))

shown_more : (st : Reading) (i : ℕ) (l : List ℕ) → read_shown st (suc i) l ≡ read_shown st i l ++ (shown_at st l (shown_width * i) ∷ [])
unfolding read_shown
shown_more st zero l = refl
shown_more st (suc i) l =
    ap (λ (ws : List Shown). shown_at st l 0 ∷ ws)
    (shown_more st i (drop 12 l) ∙ ap (λ (x : Shown). read_shown st i (drop 12 l) ++ (x ∷ [])) (shown_drop st 12 l (shown_width * i) (shown_width * suc i) (omega arith)))

flat_one : {A : Type 0} (f : A → List ℕ) (xs : List A) (x : A) → flat f (xs ++ (x ∷ [])) ≡ flat f xs ++ f x
unfolding flat
flat_one f xs x = flat_append f xs (x ∷ []) ∙ ap (λ (l : List ℕ). flat f xs ++ l) (append-nil (f x))

pub words_one : (f : ℕ → List ℕ) (l : List ℕ) (from i : ℕ) → flat f (read_words (i + 1) (drop from l)) ≡ flat f (read_words i (drop from l)) ++ f (u32 l (from + 4 * i))
words_one f l from i =
    ap (λ (k : ℕ). flat f (read_words k (drop from l))) (add-one i)
    ∙ ap (flat f) (words_more i (drop from l))
    ∙ flat_one f (read_words i (drop from l)) _
    ∙ ap (λ (x : ℕ). flat f (read_words i (drop from l)) ++ f x) (u32_drop from l (4 * i) (from + 4 * i) refl)

pub shown_one : (st : Reading) (f : Shown → List ℕ) (l : List ℕ) (from i : ℕ) → flat f (read_shown st (i + 1) (drop from l)) ≡ flat f (read_shown st i (drop from l)) ++ f (shown_at st l (from + shown_width * i))
shown_one st f l from i =
    ap (λ (k : ℕ). flat f (read_shown st k (drop from l))) (add-one i)
    ∙ ap (flat f) (shown_more st i (drop from l))
    ∙ flat_one f (read_shown st i (drop from l)) _
    ∙ ap (λ (x : Shown). flat f (read_shown st i (drop from l)) ++ f x) (shown_drop st from l (shown_width * i) (from + shown_width * i) refl)

-- a list that is empty, and one that is not: the first, and the rest
pub no_words : {n : ℕ} (name : List ℕ) (f : ℕ → List ℕ) (l : List ℕ) → n ≡ 0 → named name f (read_words n l) ≡ []
unfolding named read_words
no_words name f l e = ap (λ (k : ℕ). named name f (read_words k l)) e

pub no_shown : (st : Reading) {n : ℕ} (name : List ℕ) (f : Shown → List ℕ) (l : List ℕ) → n ≡ 0 → named name f (read_shown st n l) ≡ []
unfolding named read_shown
no_shown st name f l e = ap (λ (k : ℕ). named name f (read_shown st k l)) e

pub some_words : (name : List ℕ) (f : ℕ → List ℕ) (l : List ℕ) (from n : ℕ) → 0 < n → named name f (read_words n (drop from l)) ≡ name ++ f (u32 l from) ++ flat (behind_comma f) (read_words (n - 1) (drop (from + 4) l))
unfolding named read_words
some_words name f l from n h =
    let e : n ≡ suc (n - 1) = omega arith in
    ap (λ (k : ℕ). named name f (read_words k (drop from l))) e
    ∙ ap₂ (λ (x : ℕ) (r : List ℕ). name ++ f x ++ flat (behind_comma f) (read_words (n - 1) r)) (u32_drop from l 0 from (omega arith)) (drop-drop 4 from l)

pub some_shown : (st : Reading) (name : List ℕ) (f : Shown → List ℕ) (l : List ℕ) (from n : ℕ) → 0 < n → named name f (read_shown st n (drop from l)) ≡ name ++ f (shown_at st l from) ++ flat (behind_comma f) (read_shown st (n - 1) (drop (from + 12) l))
unfolding named read_shown
some_shown st name f l from n h =
    let e : n ≡ suc (n - 1) = omega arith in
    ap (λ (k : ℕ). named name f (read_shown st k (drop from l))) e
    ∙ ap₂ (λ (x : Shown) (r : List ℕ). name ++ f x ++ flat (behind_comma f) (read_shown st (n - 1) r)) (shown_drop st from l 0 from (omega arith)) (drop-drop 12 from l)

-- ---- tails

serials_back : (ws : List ℕ) → serial_nos (map a_serial ws) ≡ ws
serials_back [] = refl
serials_back (w ∷ ws) = ap (λ (l : List ℕ). w ∷ l) (serials_back ws)

surfaces_back : (ws : List ℕ) → surface_nos (map a_surface ws) ≡ ws
surfaces_back [] = refl
surfaces_back (w ∷ ws) = ap (λ (l : List ℕ). w ∷ l) (surfaces_back ws)

-- n serials behind `a` bytes and more
pub serials_at : (n : ℕ) {r : List ℕ} (l : List ℕ) (from : ℕ) → r ≡ drop from l → serial_nos (read_serials n r) ≡ read_words n (drop from l)
serials_at n {r} l from e = serials_back (read_words n r) ∙ ap (read_words n) e

released_at_lem : (l : List ℕ) (b n : ℕ) → n ≡ u8 l b → read_released (drop b l) ≡ read_words n (drop (b + 1) l)
unfolding read_released
released_at_lem l b n e = ap₂ read_words (u8_drop b l 0 b (omega arith) ∙ sym e) (drop-drop 1 b l)

past : (l : List ℕ) (b m : ℕ) → drop m (drop 1 (drop b l)) ≡ drop (b + 1 + m) l
past l b m = ap (drop m) (drop-drop 1 b l) ∙ drop-drop m (b + 1) l

module _ (st : Reading) (l : List ℕ) (from h t r : ℕ) (eh : h ≡ u8 l from) (et : t ≡ u8 l (from + 1 + shown_width * h)) (er : r ≡ u8 l (from + 1 + shown_width * h + 1 + 4 * t)) where
  count : u8 (drop from l) 0 ≡ h
  count = u8_drop from l 0 from (omega arith) ∙ sym eh

  behind : drop (shown_width * u8 (drop from l) 0) (drop 1 (drop from l)) ≡ drop (from + 1 + shown_width * h) l
  behind = ap (λ (n : ℕ). drop (shown_width * n) (drop 1 (drop from l))) count ∙ past l from (shown_width * h)

  thrown_count : u8 (drop (shown_width * u8 (drop from l) 0) (drop 1 (drop from l))) 0 ≡ t
  thrown_count = ap (λ (x : List ℕ). u8 x 0) behind ∙ u8_drop (from + 1 + shown_width * h) l 0 (from + 1 + shown_width * h) (omega arith) ∙ sym et

  far : drop (4 * u8 (drop (shown_width * u8 (drop from l) 0) (drop 1 (drop from l))) 0) (drop 1 (drop (shown_width * u8 (drop from l) 0) (drop 1 (drop from l)))) ≡ drop (from + 1 + shown_width * h + 1 + 4 * t) l
  far = ap₂ (λ (n : ℕ) (x : List ℕ). drop (4 * n) (drop 1 x)) thrown_count behind ∙ past l (from + 1 + shown_width * h) (4 * t)

  handed_at : (read_tail st (drop from l)).handed ≡ read_shown st h (drop (from + 1) l)
  unfolding read_tail
  handed_at = ap₂ (read_shown st) count (drop-drop 1 from l)

  thrown_at_lem : serial_nos (read_tail st (drop from l)).thrown ≡ read_words t (drop (from + 1 + shown_width * h + 1) l)
  unfolding read_tail
  thrown_at_lem = serials_back _ ∙ ap read_released behind ∙ released_at_lem l (from + 1 + shown_width * h) t et

  released_is : surface_nos (read_tail st (drop from l)).released ≡ read_words r (drop (from + 1 + shown_width * h + 1 + 4 * t + 1) l)
  unfolding read_tail
  released_is = surfaces_back _ ∙ ap read_released far ∙ released_at_lem l (from + 1 + shown_width * h + 1 + 4 * t) r er

  -- the three parts of a tail, each at its place
  pub tail_at : tail_text (read_tail st (drop from l)) ≡ named (ascii " handed=") shown_text (read_shown st h (drop (from + 1) l)) ++ named (ascii " thrown=") decimal (read_words t (drop (from + 1 + shown_width * h + 1) l)) ++ named (ascii " released=") decimal (read_words r (drop (from + 1 + shown_width * h + 1 + 4 * t + 1) l))
  unfolding tail_text
  tail_at =
      ap₂ (λ (x : List Shown) (y : List ℕ). named (ascii " handed=") shown_text x ++ named (ascii " thrown=") decimal y ++ named (ascii " released=") decimal (surface_nos (read_tail st (drop from l)).released)) handed_at thrown_at_lem
      ∙ ap (λ (z : List ℕ). named (ascii " handed=") shown_text (read_shown st h (drop (from + 1) l)) ++ named (ascii " thrown=") decimal (read_words t (drop (from + 1 + shown_width * h + 1) l)) ++ named (ascii " released=") decimal z) released_is

-- and with the place of the second count by itself
pub tail_behind : (st : Reading) (l : List ℕ) (from h b t r : ℕ) → b ≡ from + 1 + shown_width * h → h ≡ u8 l from → t ≡ u8 l b → r ≡ u8 l (b + 1 + 4 * t)
    → tail_text (read_tail st (drop from l)) ≡ named (ascii " handed=") shown_text (read_shown st h (drop (from + 1) l)) ++ named (ascii " thrown=") decimal (read_words t (drop (b + 1) l)) ++ named (ascii " released=") decimal (read_words r (drop (b + 1 + 4 * t + 1) l))
tail_behind st l from h b t r e eh et er = rw e (tail_at st l from h t r eh (rw e at et) (rw e at er))
