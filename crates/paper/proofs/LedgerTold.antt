-- Demand 3, proved.
use Prim.Native.Nat.{ℕ}
use mathlib.Core.Path.{◌≡◌, refl, ap, ◌∙◌}
use mathlib.Core.List.{List, [], ◌∷◌}
use mathlib.Core.Bool.{Bool, true, ◌&&◌}
use native.Mathlib.Omega.{arith}
use lib.Dec.{ltb}
use Rattle.paper.specs.Words.{all_b}
use Rattle.paper.specs.declared.Reading.{Reading}
use Rattle.paper.specs.Reading.{opening, further}
use Rattle.paper.specs.State.{Session, fresh}
use Rattle.paper.specs.Replies.{Reply}
use Rattle.paper.specs.Step.{decide_of, step_of, session_after}
use Rattle.paper.specs.Ledger.{Ledger, names, blank, tell, heard, hear, told, read_reply}
use Rattle.paper.specs.Statement.{exchanges, ledger_of, Bytes}
use Rattle.paper.proofs.Bools.{left, right}
use Rattle.paper.proofs.ReadBack.{read_back}
use Rattle.paper.proofs.Heard.{hears}
use Rattle.paper.proofs.Sound.{Sound, good_step}

-- one exchange
pub told_step : (st : Reading) (s : Session) (r : List ℕ) → Sound s → all_b (λ (b : ℕ). ltb b 256) r ≡ true → tell (ledger_of s) r (read_reply st (step_of s r 512).bytes) ≡ ledger_of (step_of s r 512).next
unfolding step_of
told_step st s r i b =
    let g = good_step s r i b in
    ap (tell (ledger_of s) r) (read_back st (decide_of s r).reply g.fit) ∙ g.tells

pub sound_step : (s : Session) (r : List ℕ) → Sound s → all_b (λ (b : ℕ). ltb b 256) r ≡ true → Sound (step_of s r 512).next
unfolding step_of
sound_step s r i b = (good_step s r i b).sound

heard_step : (st : Reading) (s : Session) (r : List ℕ) → Sound s → all_b (λ (b : ℕ). ltb b 256) r ≡ true → heard r (read_reply st (step_of s r 512).bytes) ≡ true
unfolding step_of
heard_step st s r i b = ap (heard r) (read_back st (decide_of s r).reply (good_step s r i b).fit) ∙ hears s r

-- a reply that is one to the record is told
pub hear_tell : (L : Ledger) (r : List ℕ) (x : Reply) → heard r x ≡ true → hear L r x ≡ tell L r x
hear_tell L r x h = ap (λ (b : Bool). record { held = (tell L r x).held; current = (tell L r x).current; begun = (tell L r x).begun; ok = b && (tell L r x).ok }) h

pub told_all : (st : Reading) (s : Session) (rs : List (List ℕ)) → Sound s → Bytes rs → told (ledger_of s) (exchanges st s rs) ≡ ledger_of (session_after s rs)
unfolding told exchanges session_after all_b
told_all st s [] i b = refl
told_all st s (r ∷ rs) i b =
    ap (λ (L : Ledger). told L (exchanges (further st (step_of s r 512).bytes) (step_of s r 512).next rs)) (hear_tell (ledger_of s) r (read_reply st (step_of s r 512).bytes) (heard_step st s r i (left (all_b (λ (x : ℕ). ltb x 256) r) _ b)) ∙ told_step st s r i (left (all_b (λ (x : ℕ). ltb x 256) r) _ b))
    ∙ told_all (further st (step_of s r 512).bytes) (step_of s r 512).next rs (sound_step s r i (left (all_b (λ (x : ℕ). ltb x 256) r) _ b)) (right (all_b (λ (x : ℕ). ltb x 256) r) _ b)

pub sound_after : (s : Session) (rs : List (List ℕ)) → Sound s → Bytes rs → Sound (session_after s rs)
unfolding session_after all_b
sound_after s [] i b = i
sound_after s (r ∷ rs) i b = sound_after (step_of s r 512).next rs (sound_step s r i (left (all_b (λ (x : ℕ). ltb x 256) r) _ b)) (right (all_b (λ (x : ℕ). ltb x 256) r) _ b)

pub sound_fresh : Sound fresh
unfolding names all_b
sound_fresh = record { distinct = tt; below = tt; named = refl; small = omega arith }

-- From a fresh session, after any sequence of records, refused ones too
pub demand3 : (rs : List (List ℕ)) → Bytes rs → told blank (exchanges opening fresh rs) ≡ ledger_of (session_after fresh rs)
demand3 rs b = told_all opening fresh rs sound_fresh b
