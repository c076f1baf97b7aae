-- The bytes of a reply: the words and events that stand at a place.
use Prim.Native.Nat.{ℕ, zero, suc, ◌+◌, ◌*◌}
use mathlib.Core.Path.{◌≡◌, refl, sym, ap, ◌∙◌}
use mathlib.Core.Bool.{false, ◌&&◌}
use mathlib.Core.List.{List, [], ◌∷◌, ◌++◌, map}
use native.Mathlib.Omega.{arith}
use lib.ListN.{length, drop, length-map}
use lib.Seq.{drop-drop}
use lib.Dec.{eqb}
use borrow.Author.Tests.{ne_eqb}
use Rattle.paper.specs.Numbers.{u8, u32, a_serial}
use Rattle.paper.specs.Kinds.{shown_width}
use Rattle.paper.specs.WholeReply.{thrown_at, released_at}
use Rattle.paper.specs.Ledger.{read_words, read_shown, read_released, read_tail, events, none}
use Rattle.paper.specs.declared.Reading.{Reading}
use Rattle.format.proofs.Tails.{u8_drop, u32_drop, u32_at, words_more, thrown_is}
use Rattle.watch.specs.declared.events.Section.{Section}
use Rattle.watch.specs.declared.events.Section.TheVariants.{Handed, Thrown, Released}
use Rattle.watch.specs.Events.{shown_at, event_at, size_of, events_of, counted}

-- ---- the words and events from a place on

shown_more : (st : Reading) (m k : ℕ) (r : List ℕ) → read_shown st (suc m) (drop k r) ≡ shown_at st r k ∷ read_shown st m (drop (k + 12) r)
unfolding read_shown
shown_more st m k r = rw (u32_at k r, u32_drop k 4 r, u32_drop k 8 r, drop-drop 12 k r)

pub events_more : (st : Reading) (p : Section) (m k : ℕ) (r : List ℕ) → events_of st p (suc m) (drop k r) ≡ event_at st p r k ∷ events_of st p m (drop (k + size_of st p) r)
unfolding events_of event_at size_of
events_more st Handed m k r = rw (shown_more st m k r)
events_more st Thrown m k r = rw (words_more m k r)
events_more st Released m k r = rw (words_more m k r)

pub events_none : (st : Reading) (p : Section) (bs : List ℕ) → events_of st p 0 bs ≡ []
unfolding events_of read_shown read_words
events_none st Handed bs = refl
events_none st Thrown bs = refl
events_none st Released bs = refl

-- two runs of words
pub words_append : (n m k : ℕ) (r : List ℕ) → read_words (n + m) (drop k r) ≡ read_words n (drop k r) ++ read_words m (drop (k + 4 * n) r)
unfolding read_words
words_append zero m k r =
    let e : zero + m ≡ m = omega arith in
    let f : k + 4 * zero ≡ k = omega arith in
    ap (λ (x : ℕ). read_words x (drop k r)) e ∙ ap (λ (x : ℕ). read_words m (drop x r)) (sym f)
words_append (suc n) m k r =
    let e : suc n + m ≡ suc (n + m) = omega arith in
    let f : k + 4 + 4 * n ≡ k + 4 * suc n = omega arith in
    ap (λ (x : ℕ). read_words x (drop k r)) e
    ∙ words_more (n + m) k r
    ∙ ap (λ (x : List ℕ). u32 r k ∷ x) (words_append n m (k + 4) r ∙ ap (λ (x : ℕ). read_words n (drop (k + 4) r) ++ read_words m (drop x r)) f)
    ∙ ap (λ (x : List ℕ). x ++ read_words m (drop (k + 4 * suc n) r)) (sym (words_more n k r))

-- ---- a tail, by its three parts

pub tail_events : (st : Reading) (at : ℕ) (r : List ℕ)
    → events (read_tail st (drop at r)) ≡ counted st Handed (drop at r) ++ (counted st Thrown (drop (thrown_at shown_width r at) r) ++ counted st Released (drop (released_at shown_width r at) r))
unfolding read_tail read_released counted events_of
tail_events st at r =
    let n = u8 r at in
    let m = u8 r (thrown_at shown_width r at) in
    let a : u8 (drop at r) 0 ≡ n = u8_drop at r in
    let g : at + (1 + shown_width * n) ≡ thrown_at shown_width r at = omega arith in
    let b : drop (shown_width * n) (drop 1 (drop at r)) ≡ drop (thrown_at shown_width r at) r = drop-drop (shown_width * n) 1 (drop at r) ∙ drop-drop (1 + shown_width * n) at r ∙ ap (λ (k : ℕ). drop k r) g in
    let d : u8 (drop (thrown_at shown_width r at) r) 0 ≡ m = u8_drop (thrown_at shown_width r at) r in
    let h : thrown_at shown_width r at + (1 + 4 * m) ≡ released_at shown_width r at = omega arith in
    let e : drop (4 * m) (drop 1 (drop (thrown_at shown_width r at) r)) ≡ drop (released_at shown_width r at) r = drop-drop (4 * m) 1 (drop (thrown_at shown_width r at) r) ∙ drop-drop (1 + 4 * m) (thrown_at shown_width r at) r ∙ ap (λ (k : ℕ). drop k r) h in
    rw (a, b, d, e)

-- ---- how many

length_words : (n : ℕ) (bs : List ℕ) → length (read_words n bs) ≡ n
unfolding read_words
length_words zero bs = refl
length_words (suc n) bs = ap suc (length_words n (drop 4 bs))

length_shown : (st : Reading) (n : ℕ) (bs : List ℕ) → length (read_shown st n bs) ≡ n
unfolding read_shown
length_shown st zero bs = refl
length_shown st (suc n) bs = ap suc (length_shown st n (drop 12 bs))

not_none : (n : ℕ) → eqb (suc n) 0 ≡ false
not_none n = let h : suc n ≡ 0 → ⊥ = omega arith in ne_eqb (suc n) 0 h

none_words : {A : Type 0} (f : ℕ → A) (n : ℕ) (bs : List ℕ) → none (map f (read_words n bs)) ≡ eqb n 0
unfolding read_words none
none_words f zero bs = refl
none_words f (suc n) bs = sym (not_none n)

none_shown : (st : Reading) (n : ℕ) (bs : List ℕ) → none (read_shown st n bs) ≡ eqb n 0
unfolding read_shown none
none_shown st zero bs = refl
none_shown st (suc n) bs = sym (not_none n)

none_events : (st : Reading) (p : Section) (n : ℕ) (bs : List ℕ) → none (events_of st p n bs) ≡ eqb n 0
unfolding events_of read_shown read_words none
none_events st Handed zero bs = refl
none_events st Handed (suc n) bs = sym (not_none n)
none_events st Thrown zero bs = refl
none_events st Thrown (suc n) bs = sym (not_none n)
none_events st Released zero bs = refl
none_events st Released (suc n) bs = sym (not_none n)

none_counted : (st : Reading) (p : Section) (k : ℕ) (r : List ℕ) → none (counted st p (drop k r)) ≡ eqb (u8 r k) 0
unfolding counted
none_counted st p k r = none_events st p (u8 (drop k r) 0) (drop 1 (drop k r)) ∙ ap (λ (n : ℕ). eqb n 0) (u8_drop k r)

none_append : {A : Type 0} (xs ys : List A) → none (xs ++ ys) ≡ (none xs && none ys)
unfolding none
none_append [] ys = refl
none_append (x ∷ xs) ys = refl

pub counted_is : (st : Reading) (p : Section) (k : ℕ) (r : List ℕ) → counted st p (drop k r) ≡ events_of st p (u8 r k) (drop (k + 1) r)
unfolding counted
counted_is st p k r = rw (u8_drop k r, drop-drop 1 k r)

module _ (st : Reading) (at : ℕ) (r : List ℕ) where
  pub quiet_tail : none (events (read_tail st (drop at r))) ≡ (eqb (u8 r at) 0 && (eqb (u8 r (thrown_at shown_width r at)) 0 && eqb (u8 r (released_at shown_width r at)) 0))
  quiet_tail =
      let x = counted st Handed (drop at r) in
      let y = counted st Thrown (drop (thrown_at shown_width r at) r) in
      let z = counted st Released (drop (released_at shown_width r at) r) in
      rw (tail_events st at r, none_append x (y ++ z), none_append y z, none_counted st Handed at r, none_counted st Thrown (thrown_at shown_width r at) r, none_counted st Released (released_at shown_width r at) r)

  pub none_thrown : none (read_tail st (drop at r)).thrown ≡ eqb (u8 r (thrown_at shown_width r at)) 0
  none_thrown = rw (thrown_is st at r) (none_words a_serial (u8 r (thrown_at shown_width r at)) (drop (thrown_at shown_width r at + 1) r))

  pub none_handed : none (read_tail st (drop at r)).handed ≡ eqb (u8 r at) 0
  unfolding read_tail
  none_handed = none_shown st (u8 (drop at r) 0) (drop 1 (drop at r)) ∙ ap (λ (n : ℕ). eqb n 0) (u8_drop at r)

  pub thrown_count : length (read_tail st (drop at r)).thrown ≡ u8 r (thrown_at shown_width r at)
  thrown_count = rw (thrown_is st at r) (length-map (read_words (u8 r (thrown_at shown_width r at)) (drop (thrown_at shown_width r at + 1) r)) a_serial ∙ length_words (u8 r (thrown_at shown_width r at)) (drop (thrown_at shown_width r at + 1) r))

  pub handed_count : length (read_tail st (drop at r)).handed ≡ u8 r at
  unfolding read_tail
  handed_count = length_shown st (u8 (drop at r) 0) (drop 1 (drop at r)) ∙ u8_drop at r
