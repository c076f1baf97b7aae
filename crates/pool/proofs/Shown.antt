-- What an exchange in order hands out was held in front of it: each picture handed out has the serial and the surface
-- of a line of the ledger in front, for an event may happen only to a line that is there, and changes neither of them.
-- And what keeps demand 3 keeps it as far as any exchange: the ledger was in order there too.
use Prim.Native.Nat.{ℕ, ◌+◌}
use native.Mathlib.Omega.{arith}
use mathlib.Core.Path.{◌≡◌, refl, sym, ap, ap₂, ◌∙◌}
use mathlib.Core.List.{List, [], ◌∷◌, ◌++◌, map}
use mathlib.Core.Bool.{Bool, true, false, not}
use lib.Dec.{eqb}
use borrow.Author.Tests.{eqb-true}
use Rattle.paper.specs.declared.Shown.{Shown}
use Rattle.paper.specs.declared.Line.{Line}
use Rattle.paper.specs.declared.Reading.{Reading}
use Rattle.paper.specs.Words.{all_b, any_b}
use Rattle.paper.specs.Numbers.{u32, surface_nos}
use Rattle.paper.specs.Kinds.{end_kind, abandon_kind, surface_place}
use Rattle.paper.specs.Output.{Tail}
use Rattle.paper.specs.Replies.{Reply}
use Rattle.paper.specs.Reading.{opening, further}
use Rattle.paper.specs.Watch.{pairs}
use Rattle.paper.specs.Ledger.{lines_of, Ledger, Event, Hand, Throw, Free, Exchange, blank, lies, waits_as, none, may, off, upon, may_all, events, landed, abandoned, unchanged, tell, heard, hear, told, reply_in}
use Rattle.paper.specs.Accounts.{count, surfaces, tail_in}
use Rattle.paper.specs.Statement.{Kept}
use Rattle.paper.proofs.Bools.{both, left, right, split, not_both, by_case}
use Rattle.paper.proofs.Every.{All, all_first, all_last, all_map}
use Rattle.paper.proofs.Tidy.{ok_told}
use Rattle.paper.proofs.Between.{told_append, in_order_kept}
use Rattle.pool.specs.Calls.{shown_on}

-- ---- exchanges in two parts

-- read from the records and replies of the first part alone, the first part is as it is
front_again : (st : Reading) (xs ys : List Exchange)
    → pairs st (map (λ (x : Exchange). x.said) (xs ++ ys)) (map (λ (x : Exchange). x.answered) (xs ++ ys)) ≡ xs ++ ys
    → pairs st (map (λ (x : Exchange). x.said) xs) (map (λ (x : Exchange). x.answered) xs) ≡ xs
unfolding pairs
front_again st [] ys e = refl
front_again st (x ∷ xs) ys e =
    let on = further st x.answered in
    let one : record { said = x.said; answered = x.answered; reading = st } ≡ x = cc in
    let more : pairs on (map (λ (z : Exchange). z.said) (xs ++ ys)) (map (λ (z : Exchange). z.answered) (xs ++ ys)) ≡ xs ++ ys = cc in
    ap₂ (λ (z : Exchange) (zs : List Exchange). z ∷ zs) one (front_again on xs ys more)

pub kept_front : (xs ys : List Exchange) → Kept (xs ++ ys) → Kept xs
kept_front xs ys k = in_order_kept xs (front_again opening xs ys k.from_bytes) (ok_told (told blank xs) ys (ap (λ (L : Ledger). L.ok) (sym (told_append blank xs ys)) ∙ k.in_order))

-- ---- what is handed out

no_hands : (hs : List Shown) (es : List Event) → none (map Hand hs ++ es) ≡ true → hs ≡ []
unfolding none
no_hands [] es e = refl
no_hands (h ∷ hs) es e = not_both false e refl

-- P, which holds of all lines in front and which events leave, gives f of a picture that is handed out
module _ (P : Line → Type 0) (stays : (n : ℕ) (e : Line) → P e → P (off n e)) (f : Shown → Bool)
    (gives : (y : Shown) (e : Line) → P e → y.serial.0 ≡ e.serial.0 → y.surface.0 ≡ e.surface.0 → f y ≡ true) where
  found : (y : Shown) (H : List Line) → All P H → any_b (waits_as y) H ≡ true → f y ≡ true
  unfolding any_b
  found y [] a e = not_both false e refl
  found y (h ∷ H) a e =
      split (waits_as y h)
      (λ p.
      let q = right h.wants _ p in
      let s = right (eqb y.serial.0 h.serial.0) _ q in
      gives y h a.0 (eqb-true y.serial.0 h.serial.0 (left (eqb y.serial.0 h.serial.0) _ q)) (eqb-true y.surface.0 h.surface.0 (left (eqb y.surface.0 h.surface.0) _ s)))
      (λ p. found y H a.1 (rw p at e))

  hands : (ys : List Shown) (es : List Event) (H : List Line) → All P H → may_all (map Hand ys ++ es) H ≡ true → all_b f ys ≡ true
  unfolding all_b may_all may upon
  hands [] es H a m = refl
  hands (y ∷ ys) es H a m =
      let n = y.serial.0 in
      both (found y H a (left (any_b (waits_as y) H) _ m)) (hands ys es (map (off n) H) (all_map P P (off n) (stays n) H a) (right (any_b (waits_as y) H) _ m))

  of_tail : (t : Tail) (H : List Line) → All P H → may_all (events t) H ≡ true → all_b f t.handed ≡ true
  of_tail t H a m = hands t.handed (map Throw t.thrown ++ map Free t.released) H a m

  in_reply : (L : Ledger) (r : List ℕ) (a : Reply) → (tell L r a).ok ≡ true → All P (lines_of L) → all_b f (tail_in a).handed ≡ true
  unfolding tell tail_in all_b
  in_reply L r (Reply.Refused kind n) o k = refl
  in_reply L r (Reply.Done kind t) o k =
      by_case (λ (M : Ledger). M.ok ≡ true → all_b f t.handed ≡ true) (eqb kind end_kind) (unchanged L t) _
      (λ _ m. ap (all_b f) (no_hands t.handed (map Throw t.thrown ++ map Free t.released) (right L.ok _ m)))
      (λ _.
      by_case (λ (M : Ledger). M.ok ≡ true → all_b f t.handed ≡ true) (eqb kind abandon_kind) (abandoned L t) (landed kind L t)
      (λ _ m. of_tail t L.current (all_last P L.held L.current k) (left (may_all (events t) L.current) _ (right (not (none L.current)) _ (right L.ok _ m))))
      (λ _ m. of_tail t (lines_of L) k (left (may_all (events t) (lines_of L)) _ (right L.ok _ m))))
      o
  in_reply L r (Reply.Started b t) o k =
      let o1 = right (none L.current) _ (right L.ok _ o) in
      let o2 = right (not (any_b (lies (u32 r surface_place)) L.held)) _ (right (eqb b.serial.0 L.begun) _ o1) in
      of_tail t L.held (all_first P L.held L.current k) (left (may_all (events t) L.held) _ o2)
  in_reply L r (Reply.Listed l0 l1) o k = refl

  pub handed_from : (xs ys : List Exchange) (x : Exchange) → (told blank (xs ++ (x ∷ ys))).ok ≡ true → All P (lines_of (told blank xs)) → all_b f (tail_in (reply_in x)).handed ≡ true
  unfolding told
  handed_from xs ys x o k =
      let L = told blank xs in
      let h : (hear L x.said (reply_in x)).ok ≡ true = ok_told (hear L x.said (reply_in x)) ys (ap (λ (M : Ledger). M.ok) (sym (told_append blank xs (x ∷ ys))) ∙ o) in
      in_reply L x.said (reply_in x) (right (heard x.said (reply_in x)) _ h) k

-- ---- a surface that no line lies on

pub none_lies : (x : ℕ) (H : List Line) → count x (surfaces H) ≡ 0 → All (λ (e : Line). lies x e ≡ false) H
unfolding count
none_lies x [] e = tt
none_lies x (h ∷ H) e =
    split (lies x h)
    (λ p. let z : 1 + count x (surfaces H) ≡ 0 = rw p at e in absurd (omega (arith, z)))
    (λ p. let z : 0 + count x (surfaces H) ≡ 0 = rw p at e in (p, none_lies x H (omega (arith, z))))

-- nothing on x, so x is counted never
abbrev pub elsewhere : ℕ → Shown → Bool
elsewhere x y = not (eqb x y.surface.0)

pub never_counted : (x : ℕ) (ys : List Shown) → all_b (elsewhere x) ys ≡ true → count x (surface_nos (shown_on ys)) ≡ 0
unfolding all_b count
never_counted x [] e = refl
never_counted x (y ∷ ys) e =
    let k = never_counted x ys (right (elsewhere x y) _ e) in
    split (eqb x y.surface.0) (λ p. not_both (elsewhere x y) (left (elsewhere x y) _ e) (rw p)) (λ p. rw p (omega (arith, k)))

-- a picture handed out on a surface where none lies is on another
pub hands_elsewhere : (x : ℕ) (xs ys : List Exchange) (e : Exchange) → (told blank (xs ++ (e ∷ ys))).ok ≡ true → count x (surfaces (lines_of (told blank xs))) ≡ 0
    → count x (surface_nos (shown_on (tail_in (reply_in e)).handed)) ≡ 0
hands_elsewhere x xs ys e o z =
    never_counted x (tail_in (reply_in e)).handed
    (handed_from (λ (l : Line). lies x l ≡ false) (λ n l h. h) (elsewhere x) (λ y l h s w. let k : eqb x y.surface.0 ≡ false = rw w h in rw k) xs ys e o (none_lies x (lines_of (told blank xs)) z))
