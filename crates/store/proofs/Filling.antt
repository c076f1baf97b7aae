-- Walks that write places of an array: each place written holds what the walk gives it, every other is as it was. What
-- is picked out on a walk is what the paper keeps. Assumes nothing.
use Prim.Native.Nat.{ℕ, zero, suc, ◌+◌, ◌≤◌, ◌<◌}
use mathlib.Core.Path.{◌≡◌, refl, sym, ap, ◌∙◌}
use mathlib.Core.Bool.{Bool, true, false, cond, not, beq}
use mathlib.Core.List.{List, [], ◌∷◌, ◌++◌, map, append-nil, append_assoc}
use native.Mathlib.Omega.{arith}
use native.Mathlib.Numerals.{add-one}
use lib.Dec.{eqb}
use lib.ListN.{length, get_or, set, length-set, take, drop, length-take, take-append-drop, get_or-append}
use lib.Seq.{get_or-set_same, get_or-set_other, set-append_left}
use borrow.Author.Tests.{eqb-true, eqb-false}
use Rattle.paper.proofs.Bools.{split}
use Rattle.paper.specs.Words.{table, keep}
use Rattle.paper.specs.Sets.{is_in, marked}
use Rattle.paper.specs.declared.Mark.{Mark}
use Rattle.paper.specs.declared.Serial.{Serial}
use Rattle.paper.specs.declared.Picture.{Picture}
use Rattle.paper.specs.declared.Wish.{Wish}
use Rattle.derivation.specs.Pad.{Padded}
use Rattle.derivation.specs.Lists.{blank_serial, member_at}
use Rattle.derivation.proofs.Pad.{is_push}
use Rattle.store.specs.Walks.{blank}
use Rattle.store.specs.Places.{place_at, front}
use Rattle.store.specs.Tails.{pushed}
use Rattle.store.specs.Runs.{filled, changed, marking, HoldsRuns, GoodRuns, used_in, rest_in, picked, wish_at, used_at, unused_at}
use Rattle.store.specs.declared.sets.Runs.{Runs}
use Rattle.store.proofs.StoreWords.{table_same, table_map}

-- ---- n places from one on, each with what its number gives

module _ {A : Type 0} (f : ℕ → A) (from : ℕ) (xs : List A) where
  pub filled_none : xs ≡ filled f from 0 xs
  unfolding filled
  filled_none = refl

  pub filled_more : (i : ℕ) (r : List A) (x : A) → r ≡ filled f from i xs → x ≡ f (from + i) → set r (from + i) x ≡ filled f from (i + 1) xs
  unfolding filled
  filled_more i r x e h = rw (add-one i, e, h)

  pub filled_length : (n : ℕ) → length (filled f from n xs) ≡ length xs
  unfolding filled
  filled_length zero = refl
  filled_length (suc n) = length-set (filled f from n xs) (from + n) (f (from + n)) ∙ filled_length n

  pub filled_off : (d : A) (n j : ℕ) → ((i : ℕ) → i < n → j ≡ from + i → ⊥) → get_or (filled f from n xs) j d ≡ get_or xs j d
  unfolding filled
  filled_off d zero j o = refl
  filled_off d (suc n) j o = get_or-set_other (filled f from n xs) (from + n) j (f (from + n)) d (o n (omega arith)) ∙ filled_off d n j (λ i l. o i (omega arith))

  pub filled_at : (d : A) (n i : ℕ) → i < n → from + n ≤ length xs → get_or (filled f from n xs) (from + i) d ≡ f (from + i)
  unfolding filled
  filled_at d zero i lt le = absurd (omega arith)
  filled_at d (suc n) i lt le =
      let ys = filled f from n xs in
      let room : from + n < length ys = omega (arith, filled_length n) in
      split (eqb i n)
      (λ e. let x : i ≡ n = eqb-true i n e in rw x (get_or-set_same ys (from + n) (f (from + n)) d room))
      (λ e. let o = eqb-false i n e in get_or-set_other ys (from + n) (from + i) (f (from + n)) d (λ q. o (omega arith)) ∙ filled_at d n i (omega arith) (omega arith))

-- ---- the first n places, each changed where it stands

module _ {A : Type 0} (d : A) (g : A → A) (xs : List A) where
  pub changed_none : xs ≡ changed d g 0 xs
  unfolding changed
  changed_none = refl

  pub changed_more : (i : ℕ) (r : List A) (x : A) → r ≡ changed d g i xs → x ≡ g (get_or r i d) → set r i x ≡ changed d g (i + 1) xs
  unfolding changed
  changed_more i r x e h = rw (add-one i, h, e)

  pub changed_length : (n : ℕ) → length (changed d g n xs) ≡ length xs
  unfolding changed
  changed_length zero = refl
  changed_length (suc n) = length-set (changed d g n xs) n (g (get_or (changed d g n xs) n d)) ∙ changed_length n

  changed_rest : (n j : ℕ) → n ≤ j → get_or (changed d g n xs) j d ≡ get_or xs j d
  unfolding changed
  changed_rest zero j le = refl
  changed_rest (suc n) j le = get_or-set_other (changed d g n xs) n j (g (get_or (changed d g n xs) n d)) d (λ e. omega arith) ∙ changed_rest n j (omega arith)

  changed_at : (n j : ℕ) → j < n → n ≤ length xs → get_or (changed d g n xs) j d ≡ g (get_or xs j d)
  unfolding changed
  changed_at zero j lt le = absurd (omega arith)
  changed_at (suc n) j lt le =
      let ys = changed d g n xs in
      let room : n < length ys = omega (arith, changed_length n) in
      split (eqb j n)
      (λ e. let x : j ≡ n = eqb-true j n e in rw x (get_or-set_same ys n (g (get_or ys n d)) d room ∙ ap g (changed_rest n n (omega arith))))
      (λ e. let o = eqb-false j n e in get_or-set_other ys n j (g (get_or ys n d)) d o ∙ changed_at n j (omega arith) (omega arith))

-- the change of the first m places is a change of the whole
module _ {A : Type 0} (d : A) (g : A → A) (xs : List A) (m : ℕ) (few : m ≤ length xs) where
  pub changed_front : (n : ℕ) → n ≤ m → changed d g n (take m xs) ++ drop m xs ≡ changed d g n xs
  unfolding changed
  changed_front zero le = take-append-drop m xs
  changed_front (suc n) le =
      let ys = changed d g n (take m xs) in
      let zs = drop m xs in
      let room : n < length ys = omega (arith, changed_length d g (take m xs) n, length-take m xs) in
      sym (set-append_left ys zs n (g (get_or ys n d)) room) ∙ ap (λ (a : A). set (ys ++ zs) n (g a)) (sym (get_or-append ys zs d n room))
      ∙ ap (λ (l : List A). set l n (g (get_or l n d))) (changed_front n (omega arith))

-- the pictures at the places that a walk changed
pub front_changed : (g : Picture → Picture) (ps : List Picture) (n : ℕ) → n ≤ length ps → front (changed blank g n ps) n ≡ map g (front ps n)
front_changed g ps n le =
    table_same (place_at (changed blank g n ps)) (λ (i : ℕ). g (place_at ps i)) n (λ i l. changed_at blank g ps n i l le) ∙ sym (table_map g (place_at ps) n)

-- a mark for those among the members, or for those not among them: the picture gets it, or is left
module _ (m : Mark) (ns : List Serial) (p : Picture) where
  pub marking_on : (inside is : Bool) → is ≡ is_in p.serial ns → beq is inside ≡ true → marked m p ≡ marking inside m ns p
  marking_on true true e h = rw (← e)
  marking_on true false e h = absurd (let z : ◌≡◌ {A = ℕ} 0 1 = cc in omega arith)
  marking_on false true e h = absurd (let z : ◌≡◌ {A = ℕ} 0 1 = cc in omega arith)
  marking_on false false e h = rw (← e)

  pub marking_off : (inside is : Bool) → is ≡ is_in p.serial ns → beq is inside ≡ false → p ≡ marking inside m ns p
  marking_off true true e h = absurd (let z : ◌≡◌ {A = ℕ} 0 1 = cc in omega arith)
  marking_off true false e h = rw (← e)
  marking_off false true e h = rw (← e)
  marking_off false false e h = absurd (let z : ◌≡◌ {A = ℕ} 0 1 = cc in omega arith)

-- ---- of n numbers those of which b holds

module _ {A : Type 0} (b : ℕ → Bool) (f : ℕ → A) where
  pub picked_none : picked b f 0 ≡ []
  unfolding picked
  picked_none = refl

  pub picked_more : (i : ℕ) → picked b f (i + 1) ≡ picked b f i ++ cond (b i) (f i ∷ []) []
  unfolding picked
  picked_more i = rw (add-one i)

-- one element more, if it is kept
keep_snoc : {A B : Type 0} (p : A → Bool) (q : A → B) (l : List A) (x : A) → map q (keep p (l ++ (x ∷ []))) ≡ map q (keep p l) ++ cond (p x) (q x ∷ []) []
unfolding keep
keep_snoc p q [] x = split (p x) (λ e. rw e) (λ e. rw e)
keep_snoc p q (y ∷ l) x = split (p y) (λ e. rw (e, keep_snoc p q l x)) (λ e. rw (e, keep_snoc p q l x))

-- the numbers of wishes: what the kept ones give
pub picked_is : {A B : Type 0} (b : ℕ → Bool) (f : ℕ → B) (p : A → Bool) (q : A → B) (w : ℕ → A) (n : ℕ) → ((i : ℕ) → i < n → b i ≡ p (w i)) → ((i : ℕ) → i < n → f i ≡ q (w i))
    → picked b f n ≡ map q (keep p (table w n))
unfolding picked table keep
picked_is b f p q w zero hb hf = refl
picked_is b f p q w (suc n) hb hf =
    rw (picked_is b f p q w n (λ i l. hb i (omega arith)) (λ i l. hf i (omega arith)), hb n (omega arith), hf n (omega arith)) (sym (keep_snoc p q (table w n) (w n)))

-- ---- what entries found, joined to two runs

-- i of them, from a place on, joined the runs of x
pub record Parted (found : List Serial) (ws : List Wish) (from : ℕ) (x : Runs) (i : ℕ) (r : Runs) : Type 0 where
  pub few : r.used.len + r.rest.len ≡ x.used.len + x.rest.len + i
  pub used : x.used.len ≤ r.used.len
  pub rest : x.rest.len ≤ r.rest.len
  pub holds : HoldsRuns r (used_in x ++ used_at found ws from i) (rest_in x ++ unused_at found ws from i)

pub parted_none : (found : List Serial) (ws : List Wish) (from : ℕ) {x : Runs} → GoodRuns x → Parted found ws from x 0 x
parted_none found ws from {x} g =
    let b : ℕ → Bool = λ i. (wish_at ws (from + i)).used in
    let f : ℕ → Serial = λ i. member_at found (from + i) in
    let n : ℕ → Bool = λ i. not (b i) in
    record {
      few = omega arith;
      used = omega arith;
      rest = omega arith;
      holds = record {
        first = rw (picked_none b f, append-nil (used_in x)) g.first;
        second = rw (picked_none n f, append-nil (rest_in x)) g.second;
      };
    }

module _ {found : List Serial} {ws : List Wish} {from : ℕ} {x : Runs} {i : ℕ} {r : Runs} (h : Parted found ws from x i r) where
  abbrev is_used : ℕ → Bool
  is_used j = (wish_at ws (from + j)).used

  abbrev not_used : ℕ → Bool
  not_used j = not (is_used j)

  abbrev gives : ℕ → Serial
  gives j = member_at found (from + j)

  -- a run that gets one, and one that stays
  run_more : (b : ℕ → Bool) (us : List Serial) (n : ℕ) (bs : List Serial) → Padded 16 blank_serial us n (bs ++ picked b gives i) → n < 16 → b i ≡ true
      → Padded 16 blank_serial (set us n (gives i)) (n + 1) (bs ++ picked b gives (i + 1))
  run_more b us n bs g lt e =
      let p = is_push g (gives i) lt in
      let all : (bs ++ picked b gives i) ++ (gives i ∷ []) ≡ bs ++ picked b gives (i + 1) =
      append_assoc bs (picked b gives i) (gives i ∷ []) ∙ ap (λ (l : List Serial). bs ++ l) (sym (picked_more b gives i ∙ rw e)) in
      rw all at p

  run_same : (b : ℕ → Bool) (us : List Serial) (n : ℕ) (bs : List Serial) → Padded 16 blank_serial us n (bs ++ picked b gives i) → b i ≡ false
      → Padded 16 blank_serial us n (bs ++ picked b gives (i + 1))
  run_same b us n bs g e =
      let all : bs ++ picked b gives i ≡ bs ++ picked b gives (i + 1) =
      ap (λ (l : List Serial). bs ++ l) (sym (picked_more b gives i ∙ rw e (append-nil (picked b gives i)))) in
      rw all at g

  pub parted_used : r.used.len + r.rest.len < 16 → is_used i ≡ true
      → Parted found ws from x (i + 1) (record { used = pushed r.used (gives i); rest = r.rest })
  parted_used lt e =
      let few = h.few in
      let u = h.used in
      let v = h.rest in
      record {
        few = omega arith;
        used = omega arith;
        rest = omega arith;
        holds = record {
          first = run_more is_used r.used.items r.used.len (used_in x) h.holds.first (omega arith) e;
          second = run_same not_used r.rest.items r.rest.len (rest_in x) h.holds.second (ap not e);
        };
      }

  pub parted_rest : r.used.len + r.rest.len < 16 → is_used i ≡ false
      → Parted found ws from x (i + 1) (record { used = r.used; rest = pushed r.rest (gives i) })
  parted_rest lt e =
      let few = h.few in
      let u = h.used in
      let v = h.rest in
      record {
        few = omega arith;
        used = omega arith;
        rest = omega arith;
        holds = record {
          first = run_same is_used r.used.items r.used.len (used_in x) h.holds.first e;
          second = run_more not_used r.rest.items r.rest.len (rest_in x) h.holds.second (omega arith) (ap not e);
        };
      }
