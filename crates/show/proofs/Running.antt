-- Turn after turn: all that was read so far is whole replies, with their lines, and what waits; where the run ends
-- because no more is read, no whole reply waits.
use Prim.Native.Nat.{ℕ}
use mathlib.Core.Path.{◌≡◌, refl, sym, ap, ap₂, ◌∙◌}
use mathlib.Core.List.{List, [], ◌++◌, append-nil, append_assoc}
use mathlib.Core.Bool.{true, false, not}
use lib.ListN.{take}
use Rattle.paper.specs.Words.{all_b}
use Rattle.paper.specs.declared.Reading.{Reading}
use Rattle.paper.specs.Reading.{opening, further_all}
use Rattle.paper.proofs.Again.{further_append}
use Rattle.paper.proofs.Bools.{not_both}
use Rattle.format.specs.Cut.{Parts, size_of, joined, is_whole, cut, parts}
use Rattle.stream.specs.Turns.{through}
use Rattle.format.proofs.Cutting.{one_cut, joined_on, all_append}
use Rattle.stream.proofs.Keeping.{none_then}
use Rattle.stream.proofs.Laying.{put_front}
use Rattle.stream.proofs.Running.{Reached, waits_or_not, to_the_end}
use Rattle.show.specs.Stream.{lines_of, number_after}
use Rattle.show.specs.declared.After.{After}
use Rattle.show.proofs.Lining.{lines_append, number_append}
use Rattle.show.specs.Turns.{more, unwritten, end_line, Turned, Stand, waiting, read_in, written_in, Starts, Turns, Shows}

-- ---- one turn

-- a turn that reads makes no line but the last
turn_reads : {st : Reading} {n held : ℕ} {before written after output : List ℕ} {r : After} → Turned st n held before written r after output → size_of (take held before) ≡ 0 → take r.made output ≡ lines_of st n [] ++ end_line r
unfolding lines_of
turn_reads t z = put_front (t.reads z).1

none_last : (r : After) → more r ≡ true → end_line r ≡ []
unfolding end_line
none_last r m = rw m

-- while the run goes on, the lines of the replies that it read
turn_lines : {st : Reading} {n held : ℕ} {before written after output : List ℕ} {r : After} (t : Turned st n held before written r after output) → more r ≡ true → take r.made output ≡ lines_of st n t.read
turn_lines {st} {n} {held} {before} {r = r} t m =
    waits_or_not (size_of (take held before))
    (λ z. turn_reads t z ∙ ap₂ (λ (rs : List (List ℕ)) (l : List ℕ). lines_of st n rs ++ l) (sym (t.reads z).0) (none_last r m) ∙ append-nil (lines_of st n t.read))
    (λ z. put_front (t.lines z).2)

-- a turn that ends the run, and not because of the output, reads
end_reads : {st : Reading} {n held : ℕ} {before written after output : List ℕ} {r : After} → Turned st n held before written r after output → more r ≡ false → unwritten r ≡ false → size_of (take held before) ≡ 0
end_reads {held = held} {before = before} {r = r} t m u = waits_or_not (size_of (take held before)) (λ z. z) (λ z. not_both (more r) ((t.lines z).3 ∙ ap not u) m)

-- and leaves no whole reply
end_waits : {st : Reading} {n held : ℕ} {before written after output : List ℕ} {r : After} → Turned st n held before written r after output → size_of (take held before) ≡ 0 → more r ≡ false → size_of (take r.held after) ≡ 0
unfolding joined
end_waits {held = held} {before = before} {after = after} {r = r} t z m =
    let k = t.reads z in
    none_then size_of held r.held before after z (sym k.2 ∙ m) (t.kept ∙ ap (λ (l : List (List ℕ)). joined l ++ take r.held after) k.0)

-- ---- so far

record SoFar (R W : List ℕ) (s : Stand) : Type 0 where
  seen : List (List ℕ)
  whole : all_b is_whole seen ≡ true
  kept : R ≡ joined seen ++ waiting s
  lines : W ≡ lines_of opening 1 seen
  number : s.after.number ≡ number_after 1 seen
  reading : s.after.reading ≡ further_all opening seen

nothing_seen : {s : Stand} → Starts s → SoFar [] [] s
unfolding joined lines_of number_after further_all all_b
nothing_seen {s} b = record { seen = []; whole = refl; kept = sym (ap (λ (n : ℕ). take n s.input) b.1); lines = refl; number = b.0; reading = b.3 }

-- what one turn more reads
module _ {R W : List ℕ} {b s : Stand} (g : SoFar R W b) (t : Turned b.after.reading b.after.number b.after.held b.input b.output s.after s.input s.output) where
  all_seen : List (List ℕ)
  all_seen = g.seen ++ t.read

  all_whole : all_b is_whole all_seen ≡ true
  unfolding all_seen
  all_whole = all_append is_whole g.seen t.read g.whole t.whole

  all_kept : R ++ read_in b s ≡ joined all_seen ++ waiting s
  unfolding all_seen
  all_kept = joined_on g.seen t.read (waiting b) (read_in b s) (waiting s) g.kept t.kept

  all_number : s.after.number ≡ number_after 1 all_seen
  unfolding all_seen
  all_number = t.number ∙ ap (λ (n : ℕ). number_after n t.read) g.number ∙ sym (number_append 1 g.seen t.read)

  all_reading : s.after.reading ≡ further_all opening all_seen
  unfolding all_seen
  all_reading = t.reading ∙ ap (λ (x : Reading). further_all x t.read) g.reading ∙ sym (further_append opening g.seen t.read)

  -- the lines so far, and what the turn handed over
  all_lines : (more : List ℕ) → written_in b s ≡ lines_of b.after.reading b.after.number t.read ++ more → W ++ written_in b s ≡ lines_of opening 1 all_seen ++ more
  unfolding all_seen
  all_lines more e =
      let rs = g.seen in
      let qs = t.read in
      ap₂ (λ (x y : List ℕ). x ++ y) g.lines (e ∙ ap₂ (λ (x : Reading) (n : ℕ). lines_of x n qs ++ more) g.reading g.number)
      ∙ sym (append_assoc (lines_of opening 1 rs) (lines_of (further_all opening rs) (number_after 1 rs) qs) more)
      ∙ ap (λ (l : List ℕ). l ++ more) (sym (lines_append opening 1 rs qs))

  seen_on : more s.after ≡ true → SoFar (R ++ read_in b s) (W ++ written_in b s) s
  seen_on m =
      record {
        seen = all_seen;
        whole = all_whole;
        kept = all_kept;
        lines = all_lines [] (turn_lines t m ∙ sym (append-nil _)) ∙ append-nil (lines_of opening 1 all_seen);
        number = all_number;
        reading = all_reading;
      }

-- ---- the end

abbrev Complete : List ℕ → List ℕ → Stand → Type 0
Complete R W s = (W ≡ lines_of opening 1 (cut R) ++ end_line s.after) × (waiting s ≡ (parts R).rest) × (s.after.number ≡ number_after 1 (cut R)) × (s.after.reading ≡ further_all opening (cut R))

ended : {R W : List ℕ} {b s : Stand} → SoFar R W b → Turned b.after.reading b.after.number b.after.held b.input b.output s.after s.input s.output → more s.after ≡ false → unwritten s.after ≡ false
    → Complete (R ++ read_in b s) (W ++ written_in b s) s
ended {R} {W} {b} {s} g t m u =
    let z = end_reads t m u in
    let p = one_cut (all_seen g t) (waiting s) (sym (all_kept g t)) (all_whole g t) (end_waits t z m) in
    let e = turn_reads t z ∙ ap (λ (rs : List (List ℕ)). lines_of b.after.reading b.after.number rs ++ end_line s.after) (sym (t.reads z).0) in (
      all_lines g t (end_line s.after) e ∙ ap (λ (x : Parts). lines_of opening 1 x.whole ++ end_line s.after) (sym p),
      ap (λ (x : Parts). x.rest) (sym p),
      all_number g t ∙ ap (λ (x : Parts). number_after 1 x.whole) (sym p),
      all_reading g t ∙ ap (λ (x : Parts). further_all opening x.whole) (sym p),
    )

-- where it ends because no more is read
abbrev End : List ℕ → List ℕ → Stand → Type 0
End R W s = unwritten s.after ≡ false → Complete R W s

-- THE WHOLE RUN
pub shows : (s : Stand) → Reached Starts Turns s → Shows s
shows s g =
    record {
      turns = g.turns;
      R = through read_in g.turns s;
      W = through written_in g.turns s;
      ran = g.ran;
      read = refl;
      handed = refl;
      all =
          to_the_end read_in written_in (λ (x : Stand). more x.after) SoFar End (λ x b. (b.2, nothing_seen b)) (λ b x t. t.0) (λ R W b x f t. seen_on f t.1) (λ R W b x f t. ended f t.1)
          g.turns s g.ran;
    }
