-- What a reader of any exchanges notes, in words: M is that of the last accepted configure, and the previous Tid0
-- picture is the last valid one that was finished since then, or none.
use Prim.Native.Nat.{ℕ}
use mathlib.Core.Path.{◌≡◌, refl, ap, ◌∙◌, subst}
use mathlib.Core.List.{List, [], ◌∷◌, ◌++◌, append_assoc}
use Rattle.std.proofs.Common.{Option, None, Some}
use mathlib.Core.Bool.{Bool, true, false, ◌||◌}
use lib.Dec.{eqb}
use borrow.Author.Tests.{eqb-true}
use Rattle.paper.specs.Words.{any_b}
use Rattle.paper.specs.Numbers.{u8, u16}
use Rattle.paper.specs.Kinds.{configure_kind, begin_kind, k_place, number_place}
use Rattle.paper.specs.Records.{kind_of}
use Rattle.paper.specs.Ledger.{Exchange}
use Rattle.paper.specs.OneLine.{accepts, valid_in, Notes, empty, previous_after, finishes, gives_up, moves, noted, notes, LastConfigure, Finished, LastIs}
use Rattle.paper.proofs.Bools.{left, right, split, not_both, by_case}

-- ---- tests that failed

pub or_none : (a b : Bool) → (a || b) ≡ false → (a ≡ false) × (b ≡ false)
or_none true b e = not_both true refl e
or_none false b e = (refl, e)

none_more : {A : Type 0} (f : A → Bool) (xs : List A) (x : A) → any_b f xs ≡ false → f x ≡ false → any_b f (xs ++ (x ∷ [])) ≡ false
unfolding any_b
none_more f [] x a e = rw e
none_more f (y ∷ ys) x a e = let t = or_none (f y) (any_b f ys) a in rw t.0 (none_more f ys x t.1 e)

pub none_parts : {A : Type 0} (f : A → Bool) (xs ys : List A) → any_b f (xs ++ ys) ≡ false → (any_b f xs ≡ false) × (any_b f ys ≡ false)
unfolding any_b
none_parts f [] ys e = (refl, e)
none_parts f (x ∷ xs) ys e = let t = or_none (f x) (any_b f (xs ++ ys)) e in let u = none_parts f xs ys t.1 in (rw t.0 u.0, u.1)

-- ---- one exchange

-- what is accepted as one kind is not accepted as another
other_kind : (a b : ℕ) (x : Exchange) → eqb a b ≡ false → accepts a x ≡ true → accepts b x ≡ false
other_kind a b x d e =
    let k : kind_of x.said ≡ a = eqb-true (kind_of x.said) a (right (eqb (u16 x.answered number_place) 0) _ e) in
    rw (left (eqb (u16 x.answered number_place) 0) _ e, k, d)

-- what finishes a picture is not accepted as a kind that finishes none
finish_other : (b : ℕ) (x : Exchange) → (eqb (u16 x.answered number_place) 0 ≡ true → kind_of x.said ≡ b → finishes x ≡ false) → finishes x ≡ true → accepts b x ≡ false
finish_other b x h f =
    split (accepts b x)
    (λ t. not_both (finishes x) f (h (left _ _ t) (eqb-true (kind_of x.said) b (right (eqb (u16 x.answered number_place) 0) _ t))))
    (λ t. t)

abbrev configured : Exchange → Notes
configured c = record { k = u8 c.said k_place; current = None; previous = None }

noted_configure : (n : Notes) (c : Exchange) → accepts configure_kind c ≡ true → noted n c ≡ configured c
unfolding noted
noted_configure n c e = rw e

noted_begin : (n : Notes) (x : Exchange) → accepts begin_kind x ≡ true → noted n x ≡ record { k = n.k; current = Some x; previous = n.previous }
unfolding noted
noted_begin n x e = rw (other_kind begin_kind configure_kind x refl e, e)

noted_finish : (n : Notes) (x : Exchange) → finishes x ≡ true → noted n x ≡ record { k = n.k; current = None; previous = previous_after n.current n.previous }
unfolding noted
noted_finish n x e = rw (finish_other configure_kind x (λ n k. rw (n, k)) e, finish_other begin_kind x (λ n k. rw (n, k)) e, e)

noted_other : (n : Notes) (x : Exchange) → accepts configure_kind x ≡ false → moves x ≡ false → noted n x ≡ n
unfolding noted
noted_other n x c e =
    let t = or_none (accepts begin_kind x) _ e in
    let u = or_none (finishes x) _ t.1 in
    rw (c, t.0, u.0, u.1)

-- ---- some exchanges

pub notes_append : (n : Notes) (bs ls : List Exchange) → notes n (bs ++ ls) ≡ notes (notes n bs) ls
unfolding notes
notes_append n [] ls = refl
notes_append n (b ∷ bs) ls = notes_append (noted n b) bs ls

-- with no configure among them they leave k
width_one : (n : Notes) (x : Exchange) → accepts configure_kind x ≡ false → (noted n x).k ≡ n.k
unfolding noted
width_one n x e =
    let same : Notes → Type 0 = λ (m : Notes). m.k ≡ n.k in
    rw e (by_case same (accepts begin_kind x) _ _ (λ _. refl) (λ _. by_case same (finishes x) _ _ (λ _. refl) (λ _. by_case same (gives_up x) _ _ (λ _. refl) (λ _. refl))))

pub same_width : (n : Notes) (ls : List Exchange) → any_b (accepts configure_kind) ls ≡ false → (notes n ls).k ≡ n.k
unfolding any_b notes
same_width n [] e = refl
same_width n (x ∷ ls) e = let t = or_none (accepts configure_kind x) _ e in same_width (noted n x) ls t.1 ∙ width_one n x t.0

-- where nothing is begun, finished or given up, they leave all
quiet_notes : (n : Notes) (ls : List Exchange) → any_b (accepts configure_kind) ls ≡ false → any_b moves ls ≡ false → notes n ls ≡ n
unfolding any_b notes
quiet_notes n [] c e = refl
quiet_notes n (x ∷ ls) c e =
    let t = or_none (accepts configure_kind x) _ c in
    let u = or_none (moves x) _ e in
    ap (λ (m : Notes). notes m ls) (noted_other n x t.0 u.0) ∙ quiet_notes n ls t.1 u.1

-- ---- the previous Tid0 picture stays while no valid picture is finished

-- behind w the current picture is the one that c began
record OpenIn (w : List Exchange) (c : Exchange) : Type 0 where
  before : List Exchange
  during : List Exchange
  parts : w ≡ before ++ (c ∷ during)
  begins : accepts begin_kind c ≡ true
  still : any_b moves during ≡ false

abbrev Opened : List Exchange → Option Exchange → Type 0
Opened w None = Unit {0}
Opened w (Some c) = OpenIn w c

abbrev NoneFinished : List Exchange → Type 0
NoneFinished ls = LastIs ls None

module _ (n : Notes) (w ls : List Exchange) (x : Exchange) (f : NoneFinished (w ++ (x ∷ ls))) where
  finish_leaves : (o : Option Exchange) (p : Option Exchange) → Opened w o → finishes x ≡ true → previous_after o p ≡ p
  unfolding previous_after
  finish_leaves None p a e = refl
  finish_leaves (Some c) p a e =
      split (valid_in c)
      (λ v. absurd (f c ls (record { before = a.before; during = a.during; end = x; parts = ap (λ (l : List Exchange). l ++ (x ∷ ls)) a.parts ∙ append_assoc a.before (c ∷ a.during) (x ∷ ls); begins = a.begins; valid = v; still = a.still; finished = e })))
      (λ v. rw v)

  still_open : (o : Option Exchange) → moves x ≡ false → Opened w o → Opened (w ++ (x ∷ [])) o
  still_open None e a = tt
  still_open (Some c) e a =
      record {
        before = a.before;
        during = a.during ++ (x ∷ []);
        parts = ap (λ (l : List Exchange). l ++ (x ∷ [])) a.parts ∙ append_assoc a.before (c ∷ a.during) (x ∷ []);
        begins = a.begins;
        still = none_more moves a.during x a.still e;
      }

  record Stays (m : Notes) : Type 0 where
    previous : m.previous ≡ n.previous
    opened : Opened (w ++ (x ∷ [])) m.current

  stays_one : accepts configure_kind x ≡ false → Opened w n.current → Stays (noted n x)
  unfolding noted any_b
  stays_one c a =
      rw c
      (by_case Stays (accepts begin_kind x) _ _ (λ t. record { previous = refl; opened = record { before = w; during = []; parts = refl; begins = t; still = refl } })
      (λ t. by_case Stays (finishes x) _ _ (λ u. record { previous = finish_leaves n.current n.previous a u; opened = tt })
      (λ u. by_case Stays (gives_up x) _ _ (λ _. record { previous = refl; opened = tt })
      (λ v. record { previous = refl; opened = still_open n.current (rw (t, u) v) a }))))

previous_stays : (n : Notes) (w ls : List Exchange) → any_b (accepts configure_kind) ls ≡ false → NoneFinished (w ++ ls) → Opened w n.current → (notes n ls).previous ≡ n.previous
unfolding any_b notes
previous_stays n w [] c f a = refl
previous_stays n w (x ∷ ls) c f a =
    let t = or_none (accepts configure_kind x) _ c in
    let s = stays_one n w ls x f t.0 a in
    previous_stays (noted n x) (w ++ (x ∷ [])) ls t.1 (λ y b h. f y b (subst (λ (l : List Exchange). Finished l y b) (append_assoc w (x ∷ []) ls) h)) s.opened ∙ s.previous

-- ---- a valid picture that is finished becomes it

module _ {ls : List Exchange} {y : Exchange} {behind : List Exchange} (g : Finished ls y behind) (c : any_b (accepts configure_kind) ls ≡ false) where
  none_from : any_b (accepts configure_kind) (y ∷ (g.during ++ (g.end ∷ behind))) ≡ false
  none_from = (none_parts (accepts configure_kind) g.before _ (rw g.parts at c)).1

  none_during : (any_b (accepts configure_kind) g.during ≡ false) × (any_b (accepts configure_kind) (g.end ∷ behind) ≡ false)
  unfolding any_b
  none_during = none_parts (accepts configure_kind) g.during (g.end ∷ behind) (or_none (accepts configure_kind y) _ none_from).1

  none_behind : any_b (accepts configure_kind) behind ≡ false
  unfolding any_b
  none_behind = (or_none (accepts configure_kind g.end) _ none_during.1).1

  module _ (n : Notes) where
    abbrev begun : Notes
    begun = record { k = n.k; current = Some y; previous = n.previous }

    abbrev ended : Notes
    ended = record { k = n.k; current = None; previous = Some y }

    ends : noted begun g.end ≡ ended
    unfolding previous_after
    ends = noted_finish begun g.end g.finished ∙ rw g.valid

    from_begin : notes n (y ∷ (g.during ++ (g.end ∷ behind))) ≡ notes ended behind
    unfolding notes
    from_begin =
        ap (λ (m : Notes). notes m (g.during ++ (g.end ∷ behind))) (noted_begin n y g.begins)
        ∙ notes_append begun g.during (g.end ∷ behind)
        ∙ ap (λ (m : Notes). notes (noted m g.end) behind) (quiet_notes begun g.during none_during.0 g.still)
        ∙ ap (λ (m : Notes). notes m behind) ends

  becomes : (n : Notes) → NoneFinished behind → (notes n ls).previous ≡ Some y
  becomes n f =
      let m = notes n g.before in
      ap (λ (q : List Exchange). (notes n q).previous) g.parts
      ∙ ap (λ (o : Notes). o.previous) (notes_append n g.before (y ∷ (g.during ++ (g.end ∷ behind))) ∙ from_begin m)
      ∙ previous_stays (ended m) [] behind none_behind f tt

-- ---- in words

-- M is that of the last accepted configure
module _ (xs ls : List Exchange) (c : Exchange) (l : LastConfigure xs c ls) where
  since : notes empty xs ≡ notes (configured c) ls
  unfolding notes
  since = ap (notes empty) l.parts ∙ notes_append empty l.before (c ∷ ls) ∙ ap (λ (m : Notes). notes m ls) (noted_configure (notes empty l.before) c l.accepted)

  pub width_told : (notes empty xs).k ≡ u8 c.said k_place
  width_told = ap (λ (m : Notes). m.k) since ∙ same_width (configured c) ls l.last

  -- the previous Tid0 picture is the last valid one that was finished since then, or none where none was
  pub previous_told : (p : Option Exchange) → LastIs ls p → (notes empty xs).previous ≡ p
  previous_told None f = ap (λ (m : Notes). m.previous) since ∙ previous_stays (configured c) [] ls l.last f tt
  previous_told (Some y) t = ap (λ (m : Notes). m.previous) since ∙ becomes t.finished l.last (configured c) t.last
