-- A session laid out in memory is read back, for each number stands in a word of its own that is wide enough for it.
-- Assumes nothing.
use Prim.Native.Nat.{ℕ, zero, suc, ◌+◌, ◌*◌, ◌-◌, ◌≤◌, ◌<◌, min}
use mathlib.Core.Path.{◌≡◌, refl, ap, ◌∙◌}
use mathlib.Core.Bool.{false}
use mathlib.Core.List.{List, [], ◌∷◌, ◌++◌, append_assoc}
use native.Mathlib.Omega.{arith}
use native.Mathlib.Nat.{mod-eq_of_lt}
use lib.ListN.{length, get_or, replicate, length-append, length-map, length-replicate, get_or-append, get_or-map}
use lib.Seq.{take-length, get_or-append-add}
use lib.IntN.{pos}
use mir.Syntax.{w32}
use mir.Val.{SFits}
use mir.ValLaws.{to_z-of_z}
use Rattle.paper.specs.Words.{table, flat}
use Rattle.paper.specs.Numbers.{a_serial, a_surface, serial_nos}
use Rattle.paper.specs.State.{all_refs}
use Rattle.paper.specs.State as P
use Rattle.paper.specs.declared.Serial.{Serial}
use Rattle.paper.specs.declared.Mark.TheVariants.{Unmarked}
use Rattle.paper.specs.declared.Picture.{Picture}
use Rattle.paper.specs.declared.Limits.{Limits}
use Rattle.derivation.specs.Lists.{refs_in}
use Rattle.derivation.proofs.Runs.{refs_are, table_is}
use Rattle.wire.proofs.Flat.{length_flat}
use Rattle.store.specs.StoreWords.{word, picture_at, picture_words, stored}
use Rattle.store.proofs.StoreWords.{flag_back, own_words}
use Rattle.session.specs.View.{Front, front_in, limits_at, prev_at, now_at, refs_at, session_of, session_in}
use Rattle.embed.specs.Layout.{filled, store_words_of, sets_of, memory_of, LimitsFit, PrevFits, NowFits, PocsFit, Fitting}
use Rattle.session.specs.Laid.{limits_words, prev_words, now_words, size_words, front_words, sizes_of, front_of, front_words_of}
use Rattle.std.proofs.Common.{Option, None, Some}
use Rattle.paper.specs.declared.Tid0.{Tid0}
use Rattle.paper.specs.declared.Current.{Current}

-- ---- lists by their elements

-- rows of k words
module _ {A : Type 0} (g : A → List ℕ) (k : ℕ) (wide : (x : A) → length (g x) ≡ k) (d : A) where
  row_word : (xs : List A) (i j : ℕ) → i < length xs → j < k → get_or (flat g xs) (k * i + j) 0 ≡ get_or (g (get_or xs i d)) j 0
  unfolding flat
  row_word [] i j li lj = absurd (omega arith)
  row_word (x ∷ xs) zero j li lj =
      let e : k * 0 + j ≡ j = omega arith in
      rw e (get_or-append (g x) (flat g xs) 0 j (omega (arith, wide x)))
  row_word (x ∷ xs) (suc i) j li lj =
      let e : k * suc i + j ≡ length (g x) + (k * i + j) = omega (arith, wide x) in
      rw e (get_or-append-add (g x) (flat g xs) (k * i + j) 0 ∙ row_word xs i j (omega arith) lj)

filled_length : (n : ℕ) (xs : List ℕ) → length xs ≤ n → length (filled n xs) ≡ n
filled_length n xs le = simp (length-append, length-replicate) (omega arith)

-- ---- the store

blank : Picture
blank = record { serial = a_serial 0; surface = a_surface 0; poc = pos 0; mark = Unmarked; waiting = false; count = 0 }

poc_fits : (ps : List Picture) (i : ℕ) → PocsFit ps → i < length ps → SFits w32 (get_or ps i blank).poc
poc_fits [] i h lt = absurd (omega arith)
poc_fits (p ∷ ps) zero h lt = h.0
poc_fits (p ∷ ps) (suc i) h lt = poc_fits ps i h.1 (omega arith)

module _ (ps : List Picture) (room : length ps ≤ 16) (fits : PocsFit ps) where
  rows_length : length (flat picture_words ps) ≡ 6 * length ps
  rows_length = length_flat picture_words 6 (λ p. refl) ps

  store_word : (i j : ℕ) → i < length ps → j < 6 → word (store_words_of ps) (6 * i + j) ≡ word (picture_words (get_or ps i blank)) j
  store_word i j li lj =
      let n = rows_length in
      let l : 6 * i + j < length (flat picture_words ps) = omega arith in
      let f : length (filled 96 (flat picture_words ps)) ≡ 96 = filled_length 96 (flat picture_words ps) (omega arith) in
      get_or-append (filled 96 (flat picture_words ps)) (length ps ∷ []) 0 (6 * i + j) (omega arith)
      ∙ get_or-append (flat picture_words ps) (replicate (96 - length (flat picture_words ps)) 0) 0 (6 * i + j) l
      ∙ row_word picture_words 6 (λ p. refl) blank ps i j li lj

  count_back : word (store_words_of ps) 96 ≡ length ps
  count_back =
      let n = rows_length in
      let f : 96 ≡ length (filled 96 (flat picture_words ps)) + 0 = omega (arith, filled_length 96 (flat picture_words ps) (omega arith)) in
      ap (word (store_words_of ps)) f ∙ get_or-append-add (filled 96 (flat picture_words ps)) (length ps ∷ []) 0 0

  picture_back : (i : ℕ) → i < length ps → picture_at (store_words_of ps) i ≡ get_or ps i blank
  unfolding picture_at
  picture_back i li =
      let z : 6 * i ≡ 6 * i + 0 = omega arith in
      let w0 : word (store_words_of ps) (6 * i) ≡ (get_or ps i blank).serial.0 = ap (word (store_words_of ps)) z ∙ store_word i 0 li (omega arith) in
      rw (w0, store_word i 1 li (omega arith), store_word i 2 li (omega arith), store_word i 3 li (omega arith), store_word i 4 li (omega arith), store_word i 5 li (omega arith))
      (own_words (get_or ps i blank) (poc_fits ps i fits li))

  pub stored_back : stored (store_words_of ps) ≡ ps
  stored_back =
      let n : min (word (store_words_of ps) 96) 16 ≡ length ps = omega (arith, count_back) in
      ap (table (picture_at (store_words_of ps))) n ∙ table_is blank (picture_at (store_words_of ps)) ps (length ps) (omega arith) picture_back ∙ take-length ps

-- ---- the sets

members_count : (x : P.Refs) → length x.before + length x.after + length x.lt_curr ≡ length (all_refs x)
members_count x = simp length-append

serials_back : (n : ℕ) (xs : List Serial) → table (λ (i : ℕ). a_serial (get_or (filled n (serial_nos xs)) i 0)) (length xs) ≡ xs
serials_back n xs =
    table_is (a_serial 0) (λ (i : ℕ). a_serial (get_or (filled n (serial_nos xs)) i 0)) xs (length xs) (omega arith)
    (λ i l. ap a_serial (get_or-append (serial_nos xs) (replicate (n - length (serial_nos xs)) 0) 0 i (omega (arith, length-map xs (λ (x : Serial). x.0))) ∙ get_or-map (λ (x : Serial). x.0) xs i (a_serial 0)))
    ∙ take-length xs

pub sets_back : (x : P.Refs) → length (all_refs x) ≤ 16 → refs_in (sets_of x) (sizes_of x) ≡ x
sets_back x le =
    let n = members_count x in
    let m : length (sets_of x) ≡ 16 = filled_length 16 (serial_nos (all_refs x)) (omega (arith, length-map (all_refs x) (λ (y : Serial). y.0))) in
    refs_are (sets_of x) (sizes_of x) x.before x.after x.lt_curr (omega arith) (ap (table (λ (i : ℕ). a_serial (get_or (sets_of x) i 0))) n ∙ serials_back 16 (all_refs x) ∙ append_assoc x.before x.after x.lt_curr) refl refl refl

-- ---- the words beside them, each part where it stands: what comes before it does not matter

prev_back : (q : Option Tid0) → PrevFits q → prev_at (replicate 9 0 ++ prev_words q) ≡ q
prev_back None f = refl
prev_back (Some p) f = rw (mod-eq_of_lt f.0, to_z-of_z w32 p.msb f.1)

now_back : (n : Option Current) → NowFits n → now_at (replicate 12 0 ++ now_words n) ≡ n
now_back None f = refl
now_back (Some c) f = rw (to_z-of_z w32 c.poc f.poc, mod-eq_of_lt f.lsb, to_z-of_z w32 c.msb f.msb, flag_back c.output, flag_back c.valid)

sizes_back : (x : P.Refs) → length (all_refs x) ≤ 16 → refs_at (replicate 20 0 ++ size_words (sizes_of x)) ≡ sizes_of x
sizes_back x le =
    let n = members_count x in
    let b : length x.before < 256 = omega arith in
    let a : length x.after < 256 = omega arith in
    let l : length x.lt_curr < 256 = omega arith in
    rw (mod-eq_of_lt b, mod-eq_of_lt a, mod-eq_of_lt l)

limits_back : (l : Limits) → LimitsFit l → limits_at (replicate 4 0 ++ limits_words l) ≡ l
limits_back l f = rw (mod-eq_of_lt f.k, mod-eq_of_lt f.capacity, mod-eq_of_lt f.buffering, mod-eq_of_lt f.reorder, mod-eq_of_lt f.latency)

module _ (s : P.Session) (f : Fitting s) where
  front_back : front_in (front_words_of s) ≡ front_of s
  unfolding front_in front_words
  front_back =
      λ i.
      record {
        configured = flag_back s.configured i;
        limits = limits_back s.limits f.limits i;
        current = now_back s.current f.current i;
        refs = sizes_back s.refs f.members i;
        prev = prev_back s.prev f.prev i;
        start = flag_back s.at_start i;
        ended = flag_back s.ended i;
        next = s.next;
      }

  -- THE ROUND TRIP: what is laid out in the memory is read back as the same session
  pub round_trip : session_in (memory_of s) ≡ s
  unfolding memory_of
  round_trip =
      ap (λ (x : Front). session_of x (sets_of s.refs) (store_words_of s.store)) front_back
      ∙ λ i.
      record {
        configured = s.configured;
        limits = s.limits;
        store = stored_back s.store f.room f.pocs i;
        current = s.current;
        refs = sets_back s.refs f.members i;
        prev = s.prev;
        at_start = s.at_start;
        ended = s.ended;
        next = s.next;
      }
