-- Where the lines of a ledger come from: each was begun, on the surface and with the serial that it has now; the
-- current one also with its output flag.
use Prim.Native.Nat.{ℕ, ◌+◌, ◌≤◌}
use mathlib.Core.Path.{◌≡◌, refl, sym, ◌∙◌, subst}
use mathlib.Core.List.{List, [], ◌∷◌, append-nil}
use mathlib.Core.Bool.{true, cond}
use native.Mathlib.Omega.{arith}
use lib.Dec.{eqb}
use Rattle.paper.specs.declared.Line.{Line}
use Rattle.paper.specs.Words.{keep}
use Rattle.paper.specs.Kinds.{end_kind, abandon_kind}
use Rattle.paper.specs.Replies.{Reply}
use Rattle.paper.specs.Ledger.{lines_of, Ledger, Exchange, off, upon_all, events, landed, abandoned, unchanged, line_of, tell, hear, told, reply_in}
use Rattle.paper.specs.Accounts.{count, serials, wanting, begun_in, begun_all}
use Rattle.paper.proofs.Bools.{split, not_both, by_case}
use Rattle.paper.proofs.Every.{All, all_first, all_last, all_append}
use Rattle.paper.proofs.Flow.{hit, wants_cons}
use Rattle.paper.proofs.Tidy.{all_after}

-- what holds of all lines and of all that is begun holds of all lines after, if turning one off leaves it
module _ (P : Line → Type 0) (stays : (n : ℕ) (e : Line) → P e → P (off n e)) where
  pub lines_tell : (L : Ledger) (r : List ℕ) (x : Reply) → All P (lines_of L) → All P (begun_in r x) → All P (lines_of (tell L r x))
  unfolding tell begun_in
  lines_tell L r (Reply.Refused kind n) a b = a
  lines_tell L r (Reply.Done kind t) a b =
      by_case (λ (M : Ledger). All P (lines_of M)) (eqb kind end_kind) (unchanged L t) _ (λ _. a)
      (λ _.
      by_case (λ (M : Ledger). All P (lines_of M)) (eqb kind abandon_kind) (abandoned L t) (landed kind L t)
      (λ _. subst (All P) (sym (append-nil L.held)) (all_first P L.held L.current a))
      (λ _. subst (All P) (sym (append-nil (upon_all (events t) (lines_of L)))) (all_after P stays (events t) (lines_of L) a)))
  lines_tell L r (Reply.Started b t) a k = all_append P (upon_all (events t) L.held) (line_of r b ∷ []) (all_after P stays (events t) L.held (all_first P L.held L.current a)) k
  lines_tell L r (Reply.Listed l0 l1) a b = a

  pub lines_told : (L : Ledger) (xs : List Exchange) → All P (lines_of L) → All P (begun_all xs) → All P (lines_of (told L xs))
  unfolding told begun_all
  lines_told L [] a b = a
  lines_told L (x ∷ xs) a b =
      let k = begun_in x.said (reply_in x) in
      lines_told (hear L x.said (reply_in x)) xs (lines_tell L x.said (reply_in x) a (all_first P k (begun_all xs) b)) (all_last P k (begun_all xs) b)

-- the current line is as it was begun
module _ (P : Line → Type 0) where
  current_tell : (L : Ledger) (r : List ℕ) (x : Reply) → All P L.current → All P (begun_in r x) → All P (tell L r x).current
  unfolding tell begun_in
  current_tell L r (Reply.Refused kind n) a b = a
  current_tell L r (Reply.Done kind t) a b =
      by_case (λ (M : Ledger). All P M.current) (eqb kind end_kind) (unchanged L t) _ (λ _. a)
      (λ _. by_case (λ (M : Ledger). All P M.current) (eqb kind abandon_kind) (abandoned L t) (landed kind L t) (λ _. tt) (λ _. tt))
  current_tell L r (Reply.Started b t) a k = k
  current_tell L r (Reply.Listed l0 l1) a b = a

  pub current_told : (L : Ledger) (xs : List Exchange) → All P L.current → All P (begun_all xs) → All P (told L xs).current
  unfolding told begun_all
  current_told L [] a b = a
  current_told L (x ∷ xs) a b =
      let k = begun_in x.said (reply_in x) in
      current_told (hear L x.said (reply_in x)) xs (current_tell L x.said (reply_in x) a (all_first P k (begun_all xs) b)) (all_last P k (begun_all xs) b)

-- Lines of a serial that all want to be shown
abbrev pub Wants : ℕ → Line → Type 0
Wants n e = eqb n e.serial.0 ≡ true → e.wants ≡ true

pub none_want : (n : ℕ) → count n (serials (wanting [])) ≡ 0
unfolding count wanting keep
none_want n = refl

pub few_want : (n : ℕ) (H : List Line) → count n (serials (wanting H)) ≤ count n (serials H)
unfolding count
few_want n [] = omega (arith, none_want n)
few_want n (e ∷ H) =
    let k = few_want n H in
    let w = wants_cons n e H in
    split e.wants
    (λ p. let v : count n (serials (wanting (e ∷ H))) ≡ hit n e.serial.0 + count n (serials (wanting H)) = w ∙ rw p in omega (arith, k, v))
    (λ p. let v : count n (serials (wanting (e ∷ H))) ≡ 0 + count n (serials (wanting H)) = w ∙ rw p in omega (arith, k, v))

-- as many want as there are
pub all_want : (n : ℕ) (H : List Line) → count n (serials H) ≤ count n (serials (wanting H)) → All (Wants n) H
unfolding count
all_want n [] h = tt
all_want n (e ∷ H) h =
    let k = few_want n H in
    let w = wants_cons n e H in
    split e.wants
    (λ p. let v : count n (serials (wanting (e ∷ H))) ≡ hit n e.serial.0 + count n (serials (wanting H)) = w ∙ rw p in ((λ _. p), all_want n H (omega (arith, h, v))))
    (λ p.
    let v : count n (serials (wanting (e ∷ H))) ≡ 0 + count n (serials (wanting H)) = w ∙ rw p in
    split (eqb n e.serial.0)
    (λ q. let u : hit n e.serial.0 ≡ 1 = rw q in absurd (omega (arith, h, v, k, u)))
    (λ q. ((λ z. not_both (eqb n e.serial.0) z q), all_want n H (omega (arith, h, v)))))

pub wants_all : (n : ℕ) (H : List Line) → All (Wants n) H → count n (serials (wanting H)) ≡ count n (serials H)
unfolding count
wants_all n [] a = none_want n
wants_all n (e ∷ H) a =
    let k = wants_all n H a.1 in
    let w = wants_cons n e H in
    split (eqb n e.serial.0)
    (λ q. let v : count n (serials (wanting (e ∷ H))) ≡ hit n e.serial.0 + count n (serials (wanting H)) = w ∙ rw (a.0 q) in omega (arith, k, v))
    (λ q.
    let u : hit n e.serial.0 ≡ 0 = rw q in
    let z : cond e.wants (hit n e.serial.0) 0 ≡ 0 = split e.wants (λ p. rw p u) (λ p. rw p) in
    omega (arith, k, w, u, z))
