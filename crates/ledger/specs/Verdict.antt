-- The answer of `ledger` as a function of the bytes of its two files.
use Rattle.std.specs.Prelude.{ℕ, List, [], ◌∷◌, cond, length, take, get_or, ltb, eqb}
use Rattle.paper.specs.Words.{◌gives◌, first}
use Rattle.paper.specs.declared.Reading.{Reading}
use Rattle.paper.specs.Reading.{opening, further_all}
use Rattle.paper.specs.Ledger.{Ledger, blank}
use Rattle.paper.specs.Watch.{Verdict, watched}
use Rattle.paper.specs.declared.Blamed.{Blamed}
use Rattle.paper.specs.declared.Blamed.TheVariants.{Nothing}
use Rattle.paper.specs.Blame.{blamed}
use Rattle.format.specs.Cut.{cut, rest_of}
use Rattle.watch.specs.declared.Tally.{Tally}
use Rattle.watch.specs.Book.{no_tally}
use Rattle.watch.specs.Pairs.{tally_all}

-- how many exchanges break nothing, the part that the next one breaks or 0, with the picture and the surface that it
-- does so with, how many bytes are told of a message that is not whole, and the ledger and the tally up to there, with
-- what their reader carries on
pub record Answer : Type 0 where
  pub at : ℕ
  pub part : ℕ
  pub named : Blamed
  pub rest : ℕ
  pub ledger : Ledger
  pub tally : Tally
  pub reading : Reading

-- each whole record with its whole reply, as far as both go
abbrev pub exchanged : List (List ℕ) → List (List ℕ) → Verdict
exchanged said answers = watched opening 0 blank (take (length answers) said) (take (length said) answers)

-- where none of them breaks a part. 18: a reply without its record; 1: a rest of the replies that is no whole reply;
-- 17: a record without its reply. A rest of the records that is no whole record has no reply
abbrev pub last_part : ℕ → ℕ → ℕ → ℕ
last_part said answers rest = first (ltb said answers gives 18 ∷ ltb 0 rest gives 1 ∷ ltb answers said gives 17 ∷ [])

-- an incomplete end: where nothing is broken, the bytes behind the last whole record; where the replies end within a
-- reply, those of it that are there
abbrev pub last_rest : ℕ → ℕ → ℕ → ℕ
last_rest part left rest = cond (eqb part 0) left (cond (eqb part 1) rest 0)

-- whole records, whole replies, and how many bytes the records and the replies have behind these
unfoldable pub judged_of : List (List ℕ) → List (List ℕ) → ℕ → ℕ → Answer
judged_of said answers left rest =
    record {
      at = (exchanged said answers).at;
      part =
          cond (eqb (exchanged said answers).part 0) (last_part (length said) (length answers) rest)
          (exchanged said answers).part;
      named =
          cond (eqb (exchanged said answers).part 0) Nothing
          (blamed (further_all opening (take (exchanged said answers).at answers)) (exchanged said answers).ledger
          (get_or said (exchanged said answers).at []) (get_or answers (exchanged said answers).at []));
      rest =
          cond (eqb (exchanged said answers).part 0)
          (last_rest (last_part (length said) (length answers) rest) left rest) 0;
      ledger = (exchanged said answers).ledger;
      tally = tally_all opening no_tally (take (exchanged said answers).at answers);
      reading = further_all opening (take (exchanged said answers).at answers);
    }

-- A FILE OF RECORDS AND A FILE OF REPLIES
abbrev pub judged : List ℕ → List ℕ → Answer
judged records replies = judged_of (cut records) (cut replies) (length (rest_of records)) (length (rest_of replies))
