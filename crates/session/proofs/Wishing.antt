-- A wish that is put behind those that are there leaves them as they are, and reads back as itself.
use Prim.Native.Nat.{ℕ, suc, ◌+◌, ◌*◌, ◌<◌}
use mathlib.Core.Path.{◌≡◌, refl, sym, ap, ap₂, ◌∙◌}
use mathlib.Core.Bool.{Bool, true, false, ◌&&◌}
use mathlib.Core.List.{List, [], ◌∷◌, ◌++◌, map, map-append}
use native.Mathlib.Omega.{arith}
use native.Mathlib.Numerals.{add-one}
use lib.IntN.{ℤ}
use lib.ListN.{length, set, take, drop, length-map}
use lib.Seq.{get_or-set_same, get_or-set_other, take_at, drop_at}
use Rattle.paper.specs.declared.ShortEntry.{ShortEntry}
use Rattle.paper.specs.declared.Wish.{Wish}
use Rattle.paper.specs.Words.{all_b, table}
use Rattle.paper.specs.Numbers.{u8, i32}
use Rattle.paper.specs.Records.{fields_of, short_at, long_at}
use Rattle.paper.specs.Sets.{Wishes, short_wish, long_wish, wishes_of, wish_in32, wishes_in32}
use Rattle.paper.proofs.Fits.{table_length}
use Rattle.std.proofs.Common.{Result, Ok, Err}
use Rattle.derivation.specs.declared.Outside.{Outside}
use Rattle.derivation.specs.Answers.{inside, wanted_of}
use Rattle.format.specs.declared.records.BeginFields.{BeginFields}
use Rattle.store.specs.Runs.{no_wish, wish_at, wishes_at, wishes_in}
use Rattle.session.specs.Target.{fields_with, begin_with}
use Rattle.session.specs.Parts.{shorts_at, longs_at, all_inside, WantsAll, HoldsWishes}
use Rattle.session.proofs.Entries.{goes_on, stops, all_both, all_more}
use Rattle.store.proofs.StoreWords.{table_same, table_next, table_join}

-- ---- one wish

-- a wish that was given is the one asked for, and where none was, its POC lies outside
pub wanted_val : {w : Result Wish Outside} (x y : Wish) → w ≡ wanted_of x → w ≡ Ok y → (y ≡ x) × (wish_in32 x ≡ true)
wanted_val x y e h = go (wish_in32 x) (sym e ∙ h)
  where
    go : (b : Bool) → inside b x ≡ Ok y → (y ≡ x) × (b ≡ true)
    go true k = (cc, refl)
    go false k = cc

pub wanted_out : {w : Result Wish Outside} {o : Outside} (x : Wish) → w ≡ wanted_of x → w ≡ Err o → wish_in32 x ≡ false
wanted_out {o = o} x e h = go (wish_in32 x) (sym e ∙ h)
  where
    go : (b : Bool) → inside b x ≡ Err o → b ≡ false
    go true k = cc
    go false k = refl

-- ---- wishes one behind the other

module _ {A : Type 0} (g : A → Wish) (f : ℕ → A) (from : ℕ) where
  abbrev asked : ℕ → List Wish
  asked n = map g (table f n)

  more : (i : ℕ) → asked (suc i) ≡ asked i ++ (g (f i) ∷ [])
  unfolding table
  more i = map-append g (table f i) (f i ∷ [])

  tested : (i : ℕ) → all_b wish_in32 (asked (suc i)) ≡ (all_b wish_in32 (asked i) && wish_in32 (g (f i)))
  tested i = ap (all_b wish_in32) (more i) ∙ all_more wish_in32 (asked i) (g (f i))

  long : (i : ℕ) → length (asked i) ≡ i
  long i = length-map (table f i) g ∙ table_length f i

  pub wants_none : (vs : List Wish) → WantsAll (asked 0) from vs (Ok tt) vs
  unfolding table all_b
  wants_none vs = record { inside = refl; items = λ e. refl; before = λ j l. refl }

  module _ {vs₀ vs : List Wish} (i : ℕ) {w : Result Wish Outside} (is : w ≡ wanted_of (g (f i))) (h : WantsAll (asked i) from vs₀ (Ok tt) vs) where
    -- one wish behind those that are there
    pub wants_more : (y : Wish) (k : ℕ) → k ≡ from + i → w ≡ Ok y → k < length vs → WantsAll (asked (i + 1)) from vs₀ (Ok tt) (set vs k y)
    wants_more y k place given room =
        let v = wanted_val (g (f i)) y is given in
        let vs' = set vs k y in
        let others : (j : ℕ) → (j ≡ k → ⊥) → wish_at vs' j ≡ wish_at vs j = λ j o. get_or-set_other vs k j y no_wish o in
        let at : wish_at vs' (from + i) ≡ g (f i) = ap (wish_at vs') (sym place) ∙ get_or-set_same vs k y no_wish room ∙ v.0 in
        let old : wishes_at vs from i ≡ asked i = rw (long i) at (h.items refl) in
        record {
          inside = sym (goes_on (λ (j : ℕ). all_b wish_in32 (asked j)) (λ (j : ℕ). wish_in32 (g (f j))) tested i (sym h.inside) v.1);
          items = λ e.
              ap (wishes_at vs' from) (long (i + 1))
              ∙ table_next (λ (j : ℕ). wish_at vs' (from + j)) (λ (j : ℕ). wish_at vs (from + j)) i (g (f i)) (λ j l. others (from + j) (λ z. omega arith)) at
              ∙ ap (λ (us : List Wish). us ++ (g (f i) ∷ [])) old ∙ sym (more i) ∙ ap asked (sym (add-one i));
          before = λ j l. others j (λ z. omega arith) ∙ h.before j l;
        }

    -- the POC of one lies outside
    pub wants_out : (o : Outside) (n : ℕ) → w ≡ Err o → i < n → WantsAll (asked n) from vs₀ (Err o) vs
    wants_out o n out lt =
        record {
          inside = sym (stops (λ (j : ℕ). all_b wish_in32 (asked j)) (λ (j : ℕ). wish_in32 (g (f j))) tested i n lt (wanted_out (g (f i)) is out));
          items = λ e. cc;
          before = h.before;
        }

-- ---- the wishes of a begin

-- neg and pos entries lie one behind the other
short_behind : (r : List ℕ) (a i : ℕ) → short_at r 16 (a + i) ≡ short_at r (16 + 5 * a) i
short_behind r a i =
    let e : 16 + 5 * (a + i) ≡ 16 + 5 * a + 5 * i = omega arith in
    ap (λ (k : ℕ). record { delta = i32 r k; used = u8 r (k + 4) }) e

shorts_join : (p : ℤ) (r : List ℕ) (a b : ℕ) → shorts_at p r 16 (a + b) ≡ shorts_at p r 16 a ++ shorts_at p r (16 + 5 * a) b
shorts_join p r a b =
    ap (map (short_wish p)) (table_join (short_at r 16) a b ∙ ap (λ (xs : List ShortEntry). table (short_at r 16) a ++ xs) (table_same (λ (i : ℕ). short_at r 16 (a + i)) (short_at r (16 + 5 * a)) b (λ i l. short_behind r a i)))
    ∙ map-append (short_wish p) (table (short_at r 16) a) (table (short_at r (16 + 5 * a)) b)

shorts_long : (p : ℤ) (r : List ℕ) (at n : ℕ) → length (shorts_at p r at n) ≡ n
shorts_long p r at n = length-map (table (short_at r at) n) (short_wish p) ∙ table_length (short_at r at) n

longs_long : (M : ℕ) (p : ℤ) (r : List ℕ) (at n : ℕ) → length (longs_at M p r at n) ≡ n
longs_long M p r at n = length-map (table (long_at r at) n) (long_wish M p) ∙ table_length (long_at r at) n

-- two parts of which the first are as long
pub apart : {A : Type 0} {xs ys us vs : List A} → xs ++ ys ≡ us ++ vs → length xs ≡ length us → (xs ≡ us) × (ys ≡ vs)
apart {A} {xs} {ys} {us} {vs} e l =
    let n = length us in
    (sym (take_at xs ys n l) ∙ ap (take n) e ∙ take_at us vs n refl, sym (drop_at xs ys n l) ∙ ap (drop n) e ∙ drop_at us vs n refl)

abbrev asked_by : ℕ → ℤ → List ℕ → BeginFields → Wishes
asked_by M p r h = record { neg = shorts_at p r 16 h.neg; pos = shorts_at p r (16 + 5 * h.neg) h.pos; lt = longs_at M p r (16 + 5 * (h.neg + h.pos)) h.lt }

asked_is : (M : ℕ) (p : ℤ) (r : List ℕ) (h : BeginFields) → h ≡ begin_with h.surface r → wishes_of M p (fields_with h.surface r) ≡ asked_by M p r h
unfolding wishes_of fields_with fields_of
asked_is M p r h e = ap (asked_by M p r) (sym e)

module _ {vs₀ vs : List Wish} (M : ℕ) (p : ℤ) (r : List ℕ) (n m l : ℕ) {a : Result (Unit {0}) Outside} (x : WantsAll (shorts_at p r 16 (n + m)) 0 vs₀ a vs) where
  shorts_inside : all_inside a ≡ (all_b wish_in32 (shorts_at p r 16 n) && all_b wish_in32 (shorts_at p r (16 + 5 * n) m))
  shorts_inside = x.inside ∙ ap (all_b wish_in32) (shorts_join p r n m) ∙ all_both wish_in32 (shorts_at p r 16 n) (shorts_at p r (16 + 5 * n) m)

  module _ {us : List Wish} {b : Result (Unit {0}) Outside} (y : WantsAll (longs_at M p r (16 + 5 * (n + m)) l) (n + m) vs b us) where
    -- the short-term wishes, as they stand after the long-term ones
    shorts_stand : all_inside a ≡ true → wishes_at us 0 n ++ wishes_at us n m ≡ shorts_at p r 16 n ++ shorts_at p r (16 + 5 * n) m
    shorts_stand e =
        let old : wishes_at vs 0 (n + m) ≡ shorts_at p r 16 (n + m) = rw (shorts_long p r 16 (n + m)) at (x.items e) in
        let same : wishes_at us 0 (n + m) ≡ wishes_at vs 0 (n + m) = table_same (λ (j : ℕ). wish_at us (0 + j)) (λ (j : ℕ). wish_at vs (0 + j)) (n + m) (λ j k. y.before (0 + j) (omega arith)) in
        let apart : wishes_at us 0 (n + m) ≡ wishes_at us 0 n ++ wishes_at us n m =
        table_join (λ (j : ℕ). wish_at us (0 + j)) n m
        ∙ ap (λ (ws : List Wish). wishes_at us 0 n ++ ws) (table_same (λ (j : ℕ). wish_at us (0 + (n + j))) (λ (j : ℕ). wish_at us (n + j)) m (λ j k. ap (wish_at us) (omega arith))) in
        sym apart ∙ same ∙ old ∙ shorts_join p r n m

    all_stand : all_inside a ≡ true → all_inside b ≡ true
        → ◌≡◌ {A = Wishes} (wishes_in us n m l) (record { neg = shorts_at p r 16 n; pos = shorts_at p r (16 + 5 * n) m; lt = longs_at M p r (16 + 5 * (n + m)) l })
    all_stand e f =
        let s = apart (shorts_stand e) (table_length (λ (j : ℕ). wish_at us (0 + j)) n ∙ sym (shorts_long p r 16 n)) in
        let lt : wishes_at us (n + m) l ≡ longs_at M p r (16 + 5 * (n + m)) l = rw (longs_long M p r (16 + 5 * (n + m)) l) at (y.items f) in
        λ i. record { neg = s.0 i; pos = s.1 i; lt = lt i }

module _ {q : ℤ} {h : BeginFields} (M : ℕ) (p : ℤ) (r : List ℕ) (e : h ≡ begin_with h.surface r) (z : q ≡ p) where
  asked_here : wishes_of M p (fields_with h.surface r) ≡ asked_by M q r h
  asked_here = asked_is M p r h e ∙ ap (λ (t : ℤ). asked_by M t r h) (sym z)

  -- a short-term one lies outside
  pub lacks_wishes : {vs₀ vs : List Wish} {o : Outside} → WantsAll (shorts_at q r 16 (h.neg + h.pos)) 0 vs₀ (Err o) vs → HoldsWishes (wishes_of M p (fields_with h.surface r)) h.neg h.pos h.lt (Err o) vs
  unfolding wishes_in32
  lacks_wishes x =
      rw asked_here
      (record {
        inside = ap (λ (u : Bool). u && all_b wish_in32 (longs_at M q r (16 + 5 * (h.neg + h.pos)) h.lt)) (shorts_inside M q r h.neg h.pos h.lt x);
        items = λ k. cc;
      })

  pub holds_wishes : {vs₀ vs us : List Wish} {b : Result (Unit {0}) Outside} → WantsAll (shorts_at q r 16 (h.neg + h.pos)) 0 vs₀ (Ok tt) vs
      → WantsAll (longs_at M q r (16 + 5 * (h.neg + h.pos)) h.lt) (h.neg + h.pos) vs b us → HoldsWishes (wishes_of M p (fields_with h.surface r)) h.neg h.pos h.lt b us
  unfolding wishes_in32
  holds_wishes x y =
      rw asked_here
      (record {
        inside = ap₂ (λ (u v : Bool). u && v) (shorts_inside M q r h.neg h.pos h.lt x) y.inside;
        items = all_stand M q r h.neg h.pos h.lt x y refl;
      })
