-- What `judged` answers where two files begin with whole exchanges: a part that these break is the answer, whatever
-- stands behind them; where they break none, what is left decides.
use Prim.Native.Nat.{ℕ, ◌+◌, min}
use mathlib.Core.Path.{◌≡◌, sym, ap, ap₂, ◌∙◌}
use mathlib.Core.List.{List, [], ◌++◌}
use mathlib.Core.Bool.{true}
use native.Mathlib.Omega.{arith}
use lib.Dec.{ltb}
use lib.ListN.{length, take, get_or, length-append, get_or-append}
use lib.Seq.{take_at, take-append-le}
use borrow.Author.Tests.{eq-eqb, ne_eqb, lt-ltb, le-ltb, ltb-true, ltb-false}
use Rattle.paper.specs.Words.{all_b, first}
use Rattle.paper.specs.Reading.{opening, further_all}
use Rattle.paper.specs.Ledger.{blank}
use Rattle.paper.specs.Watch.{Verdict, watched}
use Rattle.paper.specs.declared.Blamed.{Blamed}
use Rattle.paper.specs.declared.Blamed.TheVariants.{Nothing}
use Rattle.paper.specs.Blame.{blamed}
use Rattle.paper.proofs.Bools.{split}
use Rattle.format.specs.Cut.{Parts, joined, is_whole, cut, rest_of}
use Rattle.format.proofs.Cutting.{front_cut}
use Rattle.watch.specs.Book.{no_tally}
use Rattle.watch.specs.Pairs.{tally_all}
use Rattle.watch.proofs.ExchangeLaws.{watched_even}
use Rattle.watch.proofs.Blocks.{watched_inside}
use Rattle.watch.proofs.Far.{far_broken, far_last}
use Rattle.ledger.specs.Verdict.{Answer, last_part, last_rest, judged_of, judged}

ltb_shift : (n x y : ℕ) → ltb (n + x) (n + y) ≡ ltb x y
ltb_shift n x y =
    split (ltb x y)
    (λ e. let h = ltb-true x y e in lt-ltb (n + x) (n + y) (omega arith) ∙ sym e)
    (λ e. let h = ltb-false x y e in le-ltb (n + x) (n + y) (omega arith) ∙ sym e)

-- ---- behind whole exchanges

abbrev answer_of : Verdict → ℕ → Blamed → ℕ → List (List ℕ) → Answer
answer_of v part x rest answers = record { at = v.at; part = part; named = x; rest = rest; ledger = v.ledger; tally = tally_all opening no_tally answers; reading = further_all opening answers }

module _ (said answers : List (List ℕ)) (e : length said ≡ length answers) (qs bs : List (List ℕ)) where
  abbrev heard : Verdict
  heard = watched opening 0 blank said answers

  -- what the exchange that breaks a part names
  abbrev pub named : Blamed
  named = blamed (further_all opening (take heard.at answers)) heard.ledger (get_or said heard.at []) (get_or answers heard.at [])

  -- a broken part stands, whatever comes behind it
  pub broken_stands : (left rest : ℕ) → (heard.part ≡ 0 → ⊥) → judged_of (said ++ qs) (answers ++ bs) left rest ≡ answer_of heard heard.part named 0 (take heard.at answers)
  unfolding judged_of
  broken_stands left rest w =
      let v = far_broken opening blank said answers e qs bs w in
      let k = watched_inside opening 0 blank said answers e w in
      rw
      (v, ne_eqb heard.part 0 w, take-append-le heard.at answers bs (omega arith), get_or-append said qs [] heard.at (omega arith), get_or-append answers bs [] heard.at (omega arith))

  last_shift : (rest : ℕ) → last_part (length (said ++ qs)) (length (answers ++ bs)) rest ≡ last_part (length qs) (length bs) rest
  unfolding first
  last_shift rest =
      let n : length (said ++ qs) ≡ length answers + length qs = length-append said qs ∙ ap (λ (m : ℕ). m + length qs) e in
      rw (n, length-append answers bs, ltb_shift (length answers) (length qs) (length bs), ltb_shift (length answers) (length bs) (length qs))

  -- where nothing is broken and one file has no more, what is left decides
  pub rest_decides : (left rest : ℕ) → heard.part ≡ 0 → min (length qs) (length bs) ≡ 0
      → judged_of (said ++ qs) (answers ++ bs) left rest ≡ answer_of heard (last_part (length qs) (length bs) rest) Nothing (last_rest (last_part (length qs) (length bs) rest) left rest) answers
  unfolding judged_of
  rest_decides left rest z m =
      let v = far_last opening blank said answers e qs bs m in
      let k = (watched_even opening 0 blank said answers z).1 in
      rw (v, eq-eqb heard.part 0 z, last_shift rest, take_at answers bs heard.at (omega arith))

-- ---- two files that begin with whole exchanges

module _ (said answers : List (List ℕ)) (a : all_b is_whole said ≡ true) (b : all_b is_whole answers ≡ true) (x y : List ℕ) where
  pub judged_front : judged (joined said ++ x) (joined answers ++ y) ≡ judged_of (said ++ cut x) (answers ++ cut y) (length (rest_of x)) (length (rest_of y))
  judged_front = ap₂ (λ (p q : Parts). judged_of p.whole q.whole (length p.rest) (length q.rest)) (front_cut said x a) (front_cut answers y b)
