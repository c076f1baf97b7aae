use Rattle.paper.specs.Words.{table}
use Rattle.derivation.specs.Pad.{Padded}
use Rattle.derivation.specs.Lists.{blank_serial, refs_in, candidates_of, place_of}
use Rattle.derivation.proofs.ref_lists.Candidates.places.Given as goal

abbrev pub invariant-loop-j : goal.invariant-loop-j
invariant-loop-j l =
    Padded 16 blank_serial l.items l.j (table (place_of (candidates_of (refs_in l.self.sets.now l.self.refs) l.self.own l.self.second l.self.current) l.self.current l.modify l.entries l.n) l.j)
