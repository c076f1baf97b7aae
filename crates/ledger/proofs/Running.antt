-- Turn after turn: what was read so far is judged so far, until the run ends with the answer.
use Prim.Native.Nat.{ℕ}
use mathlib.Core.Path.{◌≡◌, refl, sym, ap, ◌∙◌}
use mathlib.Core.List.{List, [], ◌++◌}
use mathlib.Core.Bool.{true, false}
use lib.Dec.{ltb}
use lib.IntN.{ℤ}
use Rattle.paper.specs.Words.{all_b}
use Rattle.paper.specs.Reading.{further_all}
use Rattle.paper.specs.State.{fresh}
use Rattle.paper.specs.Step.{replies}
use Rattle.paper.specs.Watch.{watched}
use Rattle.format.specs.Cut.{joined, cut}
use Rattle.stream.specs.Turns.{through}
use Rattle.stream.proofs.Running.{Reached, to_the_end}
use Rattle.stream.proofs.Sides.{none_waits}
use Rattle.watch.specs.Pairs.{tally_all}
use Rattle.watch.specs.Parts.{part_at}
use Rattle.ledger.specs.Verdict.{judged}
use Rattle.ledger.specs.Turns.{Judging, Settled, Stand, records_in, replies_in, Starts, Turning, Judges}
use Rattle.ledger.proofs.Files.{KeptFiles, kept_files, session_files}

-- ---- so far

nothing_read : {x y : ℤ} {s : Stand} → Starts x y s → Judging s.state s.records s.replies [] []
unfolding joined all_b watched tally_all further_all
nothing_read {s = s} b =
    record {
      said = [];
      answers = [];
      whole_said = refl;
      whole_answers = refl;
      cut_said = sym (none_waits s.records b.records);
      cut_answers = sym (none_waits s.replies b.replies);
      unbroken = refl;
      number = b.number;
      book = b.book;
    }

abbrev SoFar : List ℕ → List ℕ → Stand → Type 0
SoFar R A s = Judging s.state s.records s.replies R A

-- where the run ended it has the answer
abbrev End : List ℕ → List ℕ → Stand → Type 0
End R A s = s.state.records.failed ≡ false → s.state.replies.failed ≡ false → Settled s.state R A

-- THE WHOLE RUN
pub judges : (x y : ℤ) (s : Stand) → Reached (Starts x y) Turning s → Judges x y s
judges x y s r =
    record {
      turns = r.turns;
      R = through records_in r.turns s;
      A = through replies_in r.turns s;
      ran = r.ran;
      read = refl;
      heard = refl;
      answer =
          to_the_end records_in replies_in (λ (z : Stand). z.state.more) SoFar End (λ z b. (b.more, nothing_read b)) (λ b z t. t.0) (λ R A b z j t. t.1.keeps.goes_on R A j)
          (λ R A b z j t. t.1.keeps.ends R A j) r.turns s r.ran;
    }

-- ---- the theorem of the program

module _ {x y : ℤ} {s : Stand} (g : Judges x y s) (m : s.state.more ≡ false) (a : s.state.records.failed ≡ false) (b : s.state.replies.failed ≡ false) (more others : List ℕ)
    (c : s.state.records.ended ≡ true → more ≡ []) (d : s.state.replies.ended ≡ true → others ≡ []) where
  -- IF THE PART IS 0, THE TWO FILES KEEP DEMAND 3, whoever wrote them
  pub says_kept : part_at s.state.broken ≡ 0 → KeptFiles (g.R ++ more) (g.A ++ others)
  says_kept z = kept_files (g.R ++ more) (g.A ++ others) (sym (g.answer m a b more others c d).part ∙ z)

  -- and it is 0 where they are records and a session's replies to them
  pub kept_said : all_b (λ (n : ℕ). ltb n 256) (g.R ++ more) ≡ true → g.A ++ others ≡ joined (replies fresh (cut (g.R ++ more))) → part_at s.state.broken ≡ 0
  kept_said n e = (g.answer m a b more others c d).part ∙ ap (λ (l : List ℕ). (judged (g.R ++ more) l).part) e ∙ session_files (g.R ++ more) n
