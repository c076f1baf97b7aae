-- Exchanges made of records and replies are made of their own records and replies: each reply is read with what those
-- in front of it leave.
use Prim.Native.Nat.{ℕ}
use mathlib.Core.Path.{◌≡◌, refl, ap}
use mathlib.Core.List.{List, [], ◌∷◌, ◌++◌, map}
use Rattle.paper.specs.declared.Reading.{Reading}
use Rattle.paper.specs.Reading.{further, further_all}
use Rattle.paper.specs.State.{Session}
use Rattle.paper.specs.Step.{step_of}
use Rattle.paper.specs.Ledger.{Exchange}
use Rattle.paper.specs.Statement.{exchanges}
use Rattle.paper.specs.Watch.{pairs}

abbrev pub again : Reading → List Exchange → List Exchange
again st xs = pairs st (map (λ (x : Exchange). x.said) xs) (map (λ (x : Exchange). x.answered) xs)

pub pairs_again : (st : Reading) (rs answers : List (List ℕ)) → again st (pairs st rs answers) ≡ pairs st rs answers
unfolding pairs
pairs_again st [] answers = refl
pairs_again st (r ∷ rs) [] = refl
pairs_again st (r ∷ rs) (a ∷ answers) = ap (λ (xs : List Exchange). record { said = r; answered = a; reading = st } ∷ xs) (pairs_again (further st a) rs answers)

pub exchanges_again : (st : Reading) (s : Session) (rs : List (List ℕ)) → again st (exchanges st s rs) ≡ exchanges st s rs
unfolding pairs exchanges
exchanges_again st s [] = refl
exchanges_again st s (r ∷ rs) =
    ap (λ (xs : List Exchange). record { said = r; answered = (step_of s r 512).bytes; reading = st } ∷ xs) (exchanges_again (further st (step_of s r 512).bytes) (step_of s r 512).next rs)

-- ---- some replies, and some behind them

pub further_append : (st : Reading) (answers bs : List (List ℕ)) → further_all st (answers ++ bs) ≡ further_all (further_all st answers) bs
unfolding further_all
further_append st [] bs = refl
further_append st (a ∷ answers) bs = further_append (further st a) answers bs

pub further_more : (st : Reading) (answers : List (List ℕ)) (a : List ℕ) → further_all st (answers ++ (a ∷ [])) ≡ further (further_all st answers) a
unfolding further_all
further_more st answers a = further_append st answers (a ∷ [])
