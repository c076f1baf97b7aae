-- The answer on some short files, by computing.
use Prim.Native.Nat.{ℕ}
use mathlib.Core.Path.{◌≡◌, refl}
use mathlib.Core.List.{List, [], ◌∷◌, ◌++◌}
use Rattle.paper.specs.Words.{first, keep, any_b, all_b}
use Rattle.paper.specs.Numbers.{a_surface}
use Rattle.paper.specs.Reading.{further, further_all}
use Rattle.paper.specs.WholeReply.{whole_reply, reply_end}
use Rattle.paper.specs.Ledger.{heard, tell, upon, upon_all, none, read_reply, read_tail, read_shown, read_released, read_words}
use Rattle.paper.specs.Watch.{event_part, tail_part, reply_part, part_of, watched}
use Rattle.paper.specs.declared.Blamed.TheVariants.{Surface}
use Rattle.paper.specs.Blame.{first_line, event_blame, tail_blame, reply_blame, blamed}
use Rattle.format.specs.Cut.{parts_in}
use Rattle.watch.specs.Book.{refused_in, tallied}
use Rattle.watch.specs.Pairs.{tally_all}
use Rattle.ledger.specs.Verdict.{judged_of, judged}

-- a drain, and its refusal with number 9
abbrev drain : List ℕ
drain = 0 ∷ 0 ∷ 5 ∷ 0 ∷ []

abbrev refusal : List ℕ
refusal = 2 ∷ 0 ∷ 5 ∷ 1 ∷ 9 ∷ 0 ∷ []

-- a drain that releases surface 7, on which nothing lies
abbrev released : List ℕ
released = 9 ∷ 0 ∷ 5 ∷ 1 ∷ 0 ∷ 0 ∷ 0 ∷ 0 ∷ 1 ∷ 7 ∷ 0 ∷ 0 ∷ 0 ∷ []

pub examples : ((judged [] []).part ≡ 0)
    × ((judged drain refusal).part ≡ 0)
    × ((judged (drain ++ (1 ∷ [])) refusal).part ≡ 0)
    × ((judged (drain ++ (1 ∷ [])) refusal).rest ≡ 1)
    × ((judged (drain ++ drain) refusal).part ≡ 17)
    × ((judged drain (refusal ++ refusal)).part ≡ 18)
    × ((judged (drain ++ drain) (refusal ++ (1 ∷ []))).part ≡ 1)
    × ((judged (drain ++ drain) (refusal ++ (1 ∷ []))).rest ≡ 1)
    × ((judged (drain ++ drain) (refusal ++ refusal)).at ≡ 2)
    × ((judged (drain ++ drain) (refusal ++ refusal)).tally.refused ≡ 2)
    × ((judged drain released).part ≡ 10)
    × ((judged drain released).named ≡ Surface (a_surface 7))
unfolding judged_of parts_in watched part_of first whole_reply reply_end heard read_reply reply_part tell tally_all tallied refused_in
    read_tail read_shown read_released read_words event_part tail_part any_b all_b upon upon_all blamed reply_blame tail_blame event_blame first_line keep none further_all further
examples = (refl, refl, refl, refl, refl, refl, refl, refl, refl, refl, refl, refl)
