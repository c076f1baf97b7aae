-- A ledger that is in order is tidy: its lines differ in serial and in surface, and their serials were all given.
use Prim.Native.Nat.{ℕ, ◌+◌, ◌<◌}
use mathlib.Core.Path.{◌≡◌, refl, sym, subst}
use mathlib.Core.List.{List, [], ◌∷◌, ◌++◌, append-nil}
use mathlib.Core.Bool.{Bool, true, false, not}
use native.Mathlib.Omega.{arith}
use lib.Dec.{eqb}
use borrow.Author.Tests.{eqb-true, ne_eqb}
use Rattle.paper.specs.declared.Line.{Line}
use Rattle.paper.specs.Words.{any_b}
use Rattle.paper.specs.Numbers.{u32}
use Rattle.paper.specs.Kinds.{end_kind, abandon_kind, surface_place}
use Rattle.paper.specs.Output.{Tail}
use Rattle.paper.specs.Replies.{Begun, Reply}
use Rattle.paper.specs.Ledger.{lines_of, Ledger, Event, Hand, Throw, Free, Exchange, blank, lies, off, free, upon, upon_all, events, none, landed, abandoned, line_of, tell, heard, hear, told, reply_in}
use Rattle.paper.proofs.Bools.{left, right, not_both, by_case}
use Rattle.paper.proofs.Every.{All, all_keep, all_map, all_more, all_first, all_append, all_both, none_any}
use Rattle.paper.proofs.Apart.{flip}
use Rattle.paper.proofs.Flow.{Off2, Sep, sep_upon, sep_first}

pub is_none : {A : Type 0} (xs : List A) → none xs ≡ true → xs ≡ []
unfolding none
is_none [] e = refl
is_none (x ∷ xs) e = not_both false e refl

abbrev Below : ℕ → Line → Type 0
Below n e = e.serial.0 < n

pub record Tidy (L : Ledger) : Type 0 where
  pub apart : Sep (lines_of L)
  pub below : All (Below L.begun) (lines_of L)

pub tidy_blank : Tidy blank
tidy_blank = record { apart = tt; below = tt }

-- what events leave of the lines
sep_all : (es : List Event) (H : List Line) → Sep H → Sep (upon_all es H)
unfolding upon_all
sep_all [] H d = d
sep_all (e ∷ es) H d = sep_all es (upon e H) (sep_upon e H d)

module _ (P : Line → Type 0) (stays : (n : ℕ) (e : Line) → P e → P (off n e)) where
  all_upon : (x : Event) (H : List Line) → All P H → All P (upon x H)
  unfolding upon free
  all_upon (Hand x) H a = all_map P P (off x.serial.0) (stays x.serial.0) H a
  all_upon (Throw n) H a = all_map P P (off n.0) (stays n.0) H a
  all_upon (Free x) H a = all_keep P (λ (e : Line). not (lies x.0 e)) H a

  pub all_after : (es : List Event) (H : List Line) → All P H → All P (upon_all es H)
  unfolding upon_all
  all_after [] H a = a
  all_after (e ∷ es) H a = all_after es (upon e H) (all_upon e H a)

-- one line more
sep_more : (H : List Line) (e : Line) → Sep H → All (λ (h : Line). Off2 h e) H → Sep (H ++ (e ∷ []))
sep_more [] e d a = (tt, tt)
sep_more (h ∷ H) e d a = (all_append (Off2 h) H (e ∷ []) d.0 (a.0, tt), sep_more H e d.1 a.1)

pub no_of : (b : Bool) → not b ≡ true → b ≡ false
no_of true e = sym e
no_of false e = refl

module _ (L : Ledger) (r : List ℕ) (i : Tidy L) where
  tidy_abandoned : (t : Tail) → Tidy (abandoned L t)
  tidy_abandoned t =
      record {
        apart = subst Sep (sym (append-nil L.held)) (sep_first L.held L.current i.apart);
        below = subst (All (Below L.begun)) (sym (append-nil L.held)) (all_first (Below L.begun) L.held L.current i.below);
      }

  tidy_landed : (kind : ℕ) (t : Tail) → Tidy (landed kind L t)
  tidy_landed kind t =
      record {
        apart = subst Sep (sym (append-nil (upon_all (events t) (lines_of L)))) (sep_all (events t) (lines_of L) i.apart);
        below = subst (All (Below L.begun)) (sym (append-nil (upon_all (events t) (lines_of L)))) (all_after (Below L.begun) (λ n e h. h) (events t) (lines_of L) i.below);
      }

  tidy_started : (b : Begun) (t : Tail) → (tell L r (Reply.Started b t)).ok ≡ true → Tidy (tell L r (Reply.Started b t))
  unfolding tell
  tidy_started b t o =
      let o2 = right (none L.current) _ (right L.ok _ o) in
      let n : b.serial.0 ≡ L.begun = eqb-true b.serial.0 L.begun (left (eqb b.serial.0 L.begun) _ o2) in
      let o3 = right (eqb b.serial.0 L.begun) _ o2 in
      let f : any_b (lies (u32 r surface_place)) L.held ≡ false = no_of (any_b (lies (u32 r surface_place)) L.held) (left (not (any_b (lies (u32 r surface_place)) L.held)) _ o3) in
      let away = all_after (λ (e : Line). lies (u32 r surface_place) e ≡ false) (λ m e h. h) (events t) L.held (none_any (lies (u32 r surface_place)) L.held f) in
      let low = all_after (Below L.begun) (λ m e h. h) (events t) L.held (all_first (Below L.begun) L.held L.current i.below) in
      record {
        apart =
            sep_more (upon_all (events t) L.held) (line_of r b) (sep_all (events t) L.held (sep_first L.held L.current i.apart))
            (all_both (Below L.begun) (λ (e : Line). lies (u32 r surface_place) e ≡ false) (λ (h : Line). Off2 h (line_of r b))
            (λ e s y. record { serial = ne_eqb e.serial.0 b.serial.0 (λ z. absurd (omega (arith, s, z, n))); surface = flip (u32 r surface_place) e.surface.0 y })
            (upon_all (events t) L.held) low away);
        below =
            all_append (Below (L.begun + 1)) (upon_all (events t) L.held) (line_of r b ∷ [])
            (all_more (Below L.begun) (Below (L.begun + 1)) (λ e s. omega (arith, s)) (upon_all (events t) L.held) low) (omega (arith, n), tt);
      }

  tidy_tell : (x : Reply) → (tell L r x).ok ≡ true → Tidy (tell L r x)
  unfolding tell
  tidy_tell (Reply.Refused kind n) o = i
  tidy_tell (Reply.Done kind t) o =
      by_case Tidy (eqb kind end_kind) _ _ (λ _. record { apart = i.apart; below = i.below })
      (λ _. by_case Tidy (eqb kind abandon_kind) _ _ (λ _. tidy_abandoned t) (λ _. tidy_landed kind t))
  tidy_tell (Reply.Started b t) o = tidy_started b t o
  tidy_tell (Reply.Listed l0 l1) o = record { apart = i.apart; below = i.below }

pub tidy_hear : (L : Ledger) (r : List ℕ) (x : Reply) → Tidy L → (hear L r x).ok ≡ true → Tidy (hear L r x)
tidy_hear L r x i o = let k = tidy_tell L r i x (right (heard r x) _ o) in record { apart = k.apart; below = k.below }

-- what is in order was in order before
ok_tell : (L : Ledger) (r : List ℕ) (x : Reply) → (tell L r x).ok ≡ true → L.ok ≡ true
unfolding tell
ok_tell L r (Reply.Refused kind n) o = o
ok_tell L r (Reply.Done kind t) o =
    by_case (λ (M : Ledger). M.ok ≡ true → L.ok ≡ true) (eqb kind end_kind) _ _ (λ _. left L.ok _)
    (λ _. by_case (λ (M : Ledger). M.ok ≡ true → L.ok ≡ true) (eqb kind abandon_kind) _ _ (λ _. left L.ok _) (λ _. left L.ok _)) o
ok_tell L r (Reply.Started b t) o = left L.ok _ o
ok_tell L r (Reply.Listed l0 l1) o = left L.ok _ o

pub ok_hear : (L : Ledger) (r : List ℕ) (x : Reply) → (hear L r x).ok ≡ true → L.ok ≡ true
ok_hear L r x o = ok_tell L r x (right (heard r x) _ o)

pub ok_told : (L : Ledger) (xs : List Exchange) → (told L xs).ok ≡ true → L.ok ≡ true
unfolding told
ok_told L [] o = o
ok_told L (x ∷ xs) o = ok_hear L x.said (reply_in x) (ok_told (hear L x.said (reply_in x)) xs o)
