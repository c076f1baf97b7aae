-- Exchanges whose ledger is in order keep demand 3, whoever wrote the replies.
use Prim.Native.Nat.{ℕ, ◌+◌, ◌≤◌}
use mathlib.Core.Path.{◌≡◌, refl, sym, ap, ◌∙◌, subst}
use mathlib.Core.List.{List, [], ◌∷◌, ◌++◌, map, append-nil, append_assoc}
use mathlib.Core.Bool.{Bool, true, false, cond, not, ◌&&◌, ◌||◌}
use native.Mathlib.Omega.{arith}
use lib.Dec.{eqb}
use borrow.Author.Tests.{eq-eqb, eqb-true}
use Rattle.paper.specs.declared.Serial.{Serial}
use Rattle.paper.specs.declared.Surface.{Surface}
use Rattle.paper.specs.declared.Shown.{Shown}
use Rattle.paper.specs.declared.Line.{Line}
use Rattle.paper.specs.Words.{all_b, any_b}
use Rattle.paper.specs.Numbers.{u32, same_serial}
use Rattle.paper.specs.Kinds.{begin_kind, discard_kind, end_kind, abandon_kind, surface_place}
use Rattle.paper.specs.Records.{kind_of}
use Rattle.paper.specs.Output.{Tail}
use Rattle.paper.specs.Replies.{Begun, Reply}
use Rattle.paper.specs.Ledger.{lines_of, Ledger, Hand, Throw, Free, Exchange, blank, lies, none, names, clearing, may_all, upon_all, events, line_of, landed, abandoned, unchanged, tell, heard, hear, told, reply_in}
use Rattle.paper.specs.Accounts.{count, serials, surfaces, wanting, begun_in, tail_in, begun_all, handed_all, thrown_all, released_all}
use Rattle.paper.specs.Statement.{FromBytes, Begins, on_surface, throws_away, Kept}
use Rattle.paper.proofs.Bools as B
use Rattle.paper.proofs.Bools.{both, left, right, split, not_both, or_right}
use Rattle.paper.proofs.Every.{All, all_more, all_true}
use Rattle.paper.proofs.Flow
use Rattle.paper.proofs.Flow.{sep_once}
use Rattle.paper.proofs.Tidy.{Tidy, is_none, no_of, tidy_blank, tidy_hear, ok_hear, ok_told}
use Rattle.paper.proofs.Accounts.{from_all, accounts}
use Rattle.paper.proofs.Begins.{lines_tell, lines_told, current_told, Wants, none_want, few_want, all_want, wants_all}

-- no line lies there
free_count : (x : ℕ) (H : List Line) → any_b (lies x) H ≡ false → count x (surfaces H) ≡ 0
unfolding any_b count
free_count x [] e = refl
free_count x (h ∷ H) e =
    split (lies x h) (λ p. not_both (lies x h || any_b (lies x) H) (B.or_left (lies x h) _ p) e) (λ p. rw p (omega (arith, free_count x H (rw p at e))))

count_free : (x : ℕ) (H : List Line) → count x (surfaces H) ≡ 0 → All (λ (e : Line). lies x e ≡ false) H
unfolding count
count_free x [] e = tt
count_free x (h ∷ H) e =
    split (lies x h)
    (λ p. let z : 1 + count x (surfaces H) ≡ 0 = rw p at e in absurd (omega (arith, z)))
    (λ p. let z : 0 + count x (surfaces H) ≡ 0 = rw p at e in (p, count_free x H (omega (arith, z))))

-- a begin in order that throws away clears
none_nothing : none {A = Serial} [] ≡ true
unfolding none
none_nothing = refl

no_throws : (hs : List Shown) (ns : List Serial) (xs : List Surface) → none (map Hand hs ++ (map Throw ns ++ map Free xs)) ≡ true → none ns ≡ true
unfolding none
no_throws [] [] xs e = refl
no_throws [] (n ∷ ns) xs e = e
no_throws (x ∷ hs) ns xs e = not_both false e refl

-- of the replies that hold a tail alone, only those to discard and abandon throw away
done_threw : (L : Ledger) (r : List ℕ) (kind : ℕ) (t : Tail) → (tell L r (Reply.Done kind t)).ok ≡ true → none t.thrown ≡ false → (eqb kind discard_kind || eqb kind abandon_kind) ≡ true
unfolding tell
done_threw L r kind t o h =
    split (eqb kind end_kind)
    (λ p. not_both (none t.thrown) (no_throws t.handed t.thrown t.released (right L.ok _ (ap (λ (c : Bool). (cond c (unchanged L t) (cond (eqb kind abandon_kind) (abandoned L t) (landed kind L t))).ok) (sym p) ∙ o))) h)
    (λ p.
    split (eqb kind abandon_kind) (λ q. or_right (eqb kind discard_kind) _ q)
    (λ q.
    let k : (landed kind L t).ok ≡ true = rw (p, q) at o in
    let m = left (none t.thrown || eqb kind discard_kind) _ (right (may_all (events t) (lines_of L)) _ (right L.ok _ k)) in
    B.or_left (eqb kind discard_kind) _ (rw h at m)))

clear_of : (L : Ledger) (r : List ℕ) (b : Begun) (t : Tail) → (tell L r (Reply.Started b t)).ok ≡ true → none t.thrown ≡ false
    → (b.no_prior_pics && (none t.handed && none (upon_all (events t) L.held))) ≡ true
unfolding tell
clear_of L r b t o h =
    let o4 = right (not (any_b (lies (u32 r surface_place)) L.held)) _ (right (eqb b.serial.0 L.begun) _ (right (none L.current) _ (right L.ok _ o))) in
    rw h at (left (clearing b t (upon_all (events t) L.held)) _ (right (may_all (events t) L.held) _ o4))

-- a reply in order that throws away is one to a named call
threw : (L : Ledger) (r : List ℕ) (a : Reply) → heard r a ≡ true → (tell L r a).ok ≡ true → none (tail_in a).thrown ≡ false → throws_away r a ≡ true
unfolding tail_in throws_away heard
threw L r (Reply.Refused kind n) d o h = not_both (none {A = Serial} []) none_nothing h
threw L r (Reply.Done kind t) d o h = let e : kind ≡ kind_of r = eqb-true kind (kind_of r) d in rw (← e) (done_threw L r kind t o h)
threw L r (Reply.Started b t) d o h = both (eq-eqb (kind_of r) begin_kind (sym (eqb-true 2 (kind_of r) d))) (left b.no_prior_pics _ (clear_of L r b t o h))
threw L r (Reply.Listed l0 l1) d o h = not_both (none {A = Serial} []) none_nothing h

-- exchanges in two parts
pub told_append : (L : Ledger) (bs ls : List Exchange) → told L (bs ++ ls) ≡ told (told L bs) ls
unfolding told
told_append L [] ls = refl
told_append L (b ∷ bs) ls = told_append (hear L b.said (reply_in b)) bs ls

told_one : (L : Ledger) (bs : List Exchange) (x : Exchange) (ls : List Exchange) → told L (bs ++ (x ∷ ls)) ≡ told (hear (told L bs) x.said (reply_in x)) ls
unfolding told
told_one L bs x ls = told_append L bs (x ∷ ls)

module _ (bs ls : List Exchange) (x : Exchange) (o : (told blank (bs ++ (x ∷ ls))).ok ≡ true) where
  abbrev y : ℕ
  y = u32 x.said surface_place

  abbrev before : Ledger
  before = told blank bs

  abbrev after : Ledger
  after = hear before x.said (reply_in x)

  rest_ok : (told after ls).ok ≡ true
  rest_ok = ap (λ (L : Ledger). L.ok) (sym (told_one blank bs x ls)) ∙ o

  after_ok : after.ok ≡ true
  after_ok = ok_told after ls rest_ok

  before_tidy : Tidy before
  before_tidy = (from_all blank bs tidy_blank (ok_hear before x.said (reply_in x) after_ok)).tidy

  after_tidy : Tidy after
  after_tidy = tidy_hear before x.said (reply_in x) before_tidy after_ok

  tells_ok : (a : Reply) → reply_in x ≡ a → (tell before x.said a).ok ≡ true
  tells_ok a e = ap (λ (z : Reply). (tell before x.said z).ok) (sym e) ∙ right (heard x.said (reply_in x)) _ after_ok

  free_at : (b : Begun) (t : Tail) → reply_in x ≡ Reply.Started b t → count y (surfaces (lines_of before)) ≡ 0
  unfolding tell
  free_at b t p =
      let o1 = right before.ok _ (tells_ok (Reply.Started b t) p) in
      let e : before.current ≡ [] = is_none before.current (left (none before.current) _ o1) in
      let o3 = right (eqb b.serial.0 before.begun) _ (right (none before.current) _ o1) in
      let f : any_b (lies y) before.held ≡ false = no_of (any_b (lies y) before.held) (left (not (any_b (lies y) before.held)) _ o3) in
      ap (λ (H : List Line). count y (surfaces (before.held ++ H))) e ∙ ap (λ (H : List Line). count y (surfaces H)) (append-nil before.held) ∙ free_count y before.held f

  held_after : (b : Begun) (t : Tail) → reply_in x ≡ Reply.Started b t → 1 ≤ count y (surfaces (lines_of after))
  unfolding tell count
  held_after b t p =
      let a = Flow.surfaces_append y (upon_all (events t) before.held) (line_of x.said b ∷ []) in
      let e : eqb y y ≡ true = eq-eqb y y refl in
      let c : ◌≡◌ {A = ℕ} (cond (eqb y y) 1 0) 1 = rw e in
      subst (λ (z : Reply). 1 ≤ count y (surfaces (lines_of (tell before x.said z)))) (sym p) (omega (arith, a, c))

  once_at : (b : Begun) (t : Tail) → reply_in x ≡ Reply.Started b t → count y (surfaces (begun_all ls)) ≡ 0
      → count y (surfaces (lines_of (told blank (bs ++ (x ∷ ls))))) + count y (released_all ls) ≡ 1
  once_at b t p z =
      let a = (from_all after ls after_tidy rest_ok).held y in
      let c = sep_once y (lines_of after) after_tidy.apart in
      let k = ap (λ (L : Ledger). count y (surfaces (lines_of L))) (told_one blank bs x ls) in
      omega (arith, a, c, k, held_after b t p, z)

  lists_at : (l0 l1 : List Serial) → reply_in x ≡ Reply.Listed l0 l1 → names (l0 ++ l1) (lines_of before) ≡ true
  unfolding tell
  lists_at l0 l1 p = right (not (none before.current)) _ (right before.ok _ (tells_ok (Reply.Listed l0 l1) p))

  -- what lies on that surface after the begin was begun by it, and no later begin puts another picture there
  held_from_at : (b : Begun) (t : Tail) → Begins x b t → count y (surfaces (begun_all ls)) ≡ 0
      → all_b (λ (e : Line). not (lies y e) || same_serial e.serial b.serial) (lines_of (told blank (bs ++ (x ∷ ls)))) ≡ true
  unfolding tell begun_in
  held_from_at b t p z =
      let f : All (λ (e : Line). lies y e ≡ false) (lines_of before) = count_free y (lines_of before) (free_at b t p) in
      let a : All Own (lines_of before) = all_more (λ (e : Line). lies y e ≡ false) Own own_other (lines_of before) f in
      let w : All Own (begun_in x.said (reply_in x)) = subst (λ (a : Reply). All Own (begun_in x.said a)) (sym p) (or_right (not (lies y (line_of x.said b))) _ (eq-eqb b.serial.0 b.serial.0 refl), tt) in
      let k : All Own (lines_of after) = lines_tell Own (λ n e h. h) before x.said (reply_in x) a w in
      let g : All Own (begun_all ls) = all_more (λ (e : Line). lies y e ≡ false) Own own_other (begun_all ls) (count_free y (begun_all ls) z) in
      subst (λ (L : Ledger). all_b own (lines_of L) ≡ true) (sym (told_one blank bs x ls)) (all_true own (lines_of (told after ls)) (lines_told Own (λ n e h. h) after ls k g))
    where
      own : Line → Bool
      own e = not (lies y e) || same_serial e.serial b.serial

      Own : Line → Type 0
      Own e = own e ≡ true

      own_other : (e : Line) → lies y e ≡ false → Own e
      own_other e h = rw h

  -- thrown away by a named call
  named_at : none (tail_in (reply_in x)).thrown ≡ false → throws_away x.said (reply_in x) ≡ true
  named_at h = threw before x.said (reply_in x) (left (heard x.said (reply_in x)) _ after_ok) (right (heard x.said (reply_in x)) _ after_ok) h

  clears_at : (b : Begun) (t : Tail) → Begins x b t → none t.thrown ≡ false → (t.handed ≡ []) × (upon_all (events t) before.held ≡ [])
  clears_at b t p h =
      let k = clear_of before x.said b t (tells_ok (Reply.Started b t) p) h in
      let m = right b.no_prior_pics _ k in
      (is_none t.handed (left (none t.handed) _ m), is_none _ (right (none t.handed) _ m))

-- of each picture begun with output flag 1
module _ (bs ls : List Exchange) (x : Exchange) (o : (told blank (bs ++ (x ∷ ls))).ok ≡ true) (b : Begun) (t : Tail) (p : Begins x b t) (w : b.output ≡ true) where
  abbrev all : List Exchange
  all = bs ++ (x ∷ ls)

  abbrev n : ℕ
  n = b.serial.0

  -- it was begun once
  begun_once : (bs : List Exchange) → 1 ≤ count n (serials (wanting (begun_all (bs ++ (x ∷ ls)))))
  unfolding begun_all begun_in
  begun_once [] =
      let a = Flow.wants_append n (begun_in x.said (reply_in x)) (begun_all ls) in
      let c : count n (serials (wanting (begun_in x.said (reply_in x)))) ≡ 1 = ap (λ (z : Reply). count n (serials (wanting (begun_in x.said z)))) p ∙ own_line in
      omega (arith, a, c)
    where
      own_line : count n (serials (wanting (line_of x.said b ∷ []))) ≡ 1
      own_line =
          let a = Flow.wants_cons n (line_of x.said b) [] in
          let h : cond b.output (Flow.hit n n) 0 ≡ 1 = rw (w, eq-eqb n n refl) in
          omega (arith, a, h, none_want n)
  begun_once (y ∷ bs) = omega (arith, begun_once bs, Flow.wants_append n (begun_in y.said (reply_in y)) (begun_all (bs ++ (x ∷ ls))))

  exactly_one_at : count n (serials (told blank all).current) + count n (serials (wanting (told blank all).held)) + count n (handed_all all) + count n (thrown_all all) ≡ 1
  exactly_one_at =
      let a = accounts all o in
      let e : All (Wants n) (begun_all all) = all_want n (begun_all all) (omega (arith, a.once n, begun_once bs)) in
      let c = wants_all n (told blank all).current (current_told (Wants n) blank all tt e) in
      omega (arith, a.pictures n, a.once n, begun_once bs, few_want n (begun_all all), c, Flow.wants_append n (told blank all).held (told blank all).current)

-- from an accepted begin to the next on its surface
module _ (bs ms ls : List Exchange) (x y : Exchange) (o : (told blank (bs ++ (x ∷ ms ++ (y ∷ ls)))).ok ≡ true) where
  joins : (bs ++ (x ∷ ms)) ++ (y ∷ ls) ≡ bs ++ (x ∷ ms ++ (y ∷ ls))
  joins = append_assoc bs (x ∷ ms) (y ∷ ls)

  whole_ok : (told blank ((bs ++ (x ∷ ms)) ++ (y ∷ ls))).ok ≡ true
  whole_ok = ap (λ (zs : List Exchange). (told blank zs).ok) joins ∙ o

  part_ok : (told blank (bs ++ (x ∷ ms))).ok ≡ true
  part_ok = ok_hear (told blank (bs ++ (x ∷ ms))) y.said (reply_in y) (after_ok (bs ++ (x ∷ ms)) ls y whole_ok)

  between_at : (b c : Begun) (t u : Tail) → Begins x b t → Begins y c u → on_surface y ≡ on_surface x → count (on_surface x) (surfaces (begun_all ms)) ≡ 0
      → count (on_surface x) (released_all ms) ≡ 1
  between_at b c t u p q e z =
      let a = once_at bs ms x part_ok b t p z in
      let f = free_at (bs ++ (x ∷ ms)) ls y whole_ok c u q in
      let g = ap (λ (n : ℕ). count n (surfaces (lines_of (told blank (bs ++ (x ∷ ms)))))) e in
      omega (arith, a, f, g)

pub in_order_kept : (xs : List Exchange) → FromBytes xs → (told blank xs).ok ≡ true → Kept xs
in_order_kept xs f o =
    record {
      from_bytes = f;
      in_order = o;
      sums = accounts xs o;
      exactly_one = λ bs ls x b t e p w.
          subst (λ (ys : List Exchange). count b.serial.0 (serials (told blank ys).current) + count b.serial.0 (serials (wanting (told blank ys).held)) + count b.serial.0 (handed_all ys) + count b.serial.0 (thrown_all ys) ≡ 1) (sym e)
          (exactly_one_at bs ls x (rw e at o) b t p w);
      between = λ bs ms ls x y b c t u e p q s z. between_at bs ms ls x y (rw e at o) b c t u p q s z;
      once = λ bs ls x b t e p z.
          subst (λ (ys : List Exchange). count (u32 x.said surface_place) (surfaces (lines_of (told blank ys))) + count (u32 x.said surface_place) (released_all ls) ≡ 1) (sym e)
          (once_at bs ls x (rw e at o) b t p z);
      held_from = λ bs ls x b t e p z.
          subst (λ (ys : List Exchange). all_b (λ (l : Line). not (lies (on_surface x) l) || same_serial l.serial b.serial) (lines_of (told blank ys)) ≡ true) (sym e)
          (held_from_at bs ls x (rw e at o) b t p z);
      free = λ bs ls x b t e p. free_at bs ls x (rw e at o) b t p;
      named_call = λ bs ls x e h. named_at bs ls x (rw e at o) h;
      clears = λ bs ls x b t e p h. clears_at bs ls x (rw e at o) b t p h;
      lists = λ bs ls x l0 l1 e p. lists_at bs ls x (rw e at o) l0 l1 p;
    }
