-- Turn after turn: all that was read so far is whole messages, answered, and what waits; where the run ends because no
-- more is read, no whole message waits.
use Prim.Native.Nat.{ℕ}
use mathlib.Core.Path.{◌≡◌, refl, sym, ap, ap₂, ◌∙◌}
use mathlib.Core.List.{List, [], ◌++◌}
use mathlib.Core.Bool.{true, false, not}
use lib.ListN.{take}
use Rattle.paper.specs.Words.{all_b}
use Rattle.paper.proofs.Bools.{not_both}
use Rattle.format.specs.Cut.{Parts, size_of, joined, is_whole}
use Rattle.stream.specs.Turns.{through}
use Rattle.format.proofs.Cutting.{one_cut, joined_on, joined_append, all_append}
use Rattle.stream.proofs.Keeping.{none_then}
use Rattle.stream.proofs.Laying.{put_front}
use Rattle.stream.proofs.Running.{Reached, waits_or_not, at_end, by_turns}
use Rattle.filter.specs.declared.After.{After}
use Rattle.filter.specs.Machine.{Machine, outs, state_after}
use Rattle.filter.specs.Turns.{more, unwritten, Turned, Stand, waiting, read_in, written_in, Starts, Turns, Serves}
use Rattle.filter.proofs.Answering.{outs_append, after_append}

-- ---- so far

record SoFar {S : Type 0} (M : Machine S) (s₀ : S) (R W : List ℕ) (s : Stand S) : Type 0 where
  said : List (List ℕ)
  whole : all_b is_whole said ≡ true
  kept : R ≡ joined said ++ waiting s
  replied : W ≡ joined (outs M s₀ said)
  state : s.state ≡ state_after M s₀ said

nothing_said : {S : Type 0} (M : Machine S) (s₀ : S) (s : Stand S) → Starts s₀ s → SoFar M s₀ [] [] s
unfolding joined outs state_after all_b
nothing_said M s₀ s b = record { said = []; whole = refl; kept = sym (ap (λ (n : ℕ). take n s.input) b.1); replied = refl; state = b.0 }

said_on : {S : Type 0} (M : Machine S) (s₀ : S) (R W : List ℕ) (b s : Stand S) → SoFar M s₀ R W b → Turns M b s → SoFar M s₀ (R ++ read_in b s) (W ++ written_in b s) s
said_on {S} M s₀ R W b s g n =
    let t = n.1 in
    let rs = g.said in
    let qs = t.said in
    record {
      said = rs ++ qs;
      whole = all_append is_whole rs qs g.whole t.whole;
      kept = joined_on rs qs (waiting b) (read_in b s) (waiting s) g.kept t.kept;
      replied =
          ap₂ (λ (x y : List ℕ). x ++ y) g.replied (put_front t.replied ∙ ap (λ (v : S). joined (outs M v qs)) g.state)
          ∙ sym (joined_append (outs M s₀ rs) (outs M (state_after M s₀ rs) qs))
          ∙ ap joined (sym (outs_append M s₀ rs qs));
      state = t.later ∙ ap (λ (v : S). state_after M v qs) g.state ∙ sym (after_append M s₀ rs qs);
    }

-- ---- the end

-- a turn that ends the run, and not because of the output, leaves no whole message
turn_ends : {S : Type 0} {M : Machine S} {v v' : S} {held : ℕ} {before written after output : List ℕ} {r : After} → Turned M v held before written v' r after output → more r ≡ false → unwritten r ≡ false → size_of (take r.held after) ≡ 0
unfolding joined
turn_ends {held = held} {before = before} {after = after} {r = r} t m u =
    waits_or_not (size_of (take held before))
    (λ z.
    let k = t.reads z in
    none_then size_of held r.held before after z (sym k.1 ∙ m) (t.kept ∙ ap (λ (l : List (List ℕ)). joined l ++ take r.held after) k.0))
    (λ z. not_both (more r) ((t.answers z).2 ∙ ap not u) m)

-- so where the run ends, and not because of the output, none waits
abbrev NoneWaits : {S : Type 0} → Stand S → Type 0
NoneWaits s = more s.after ≡ false → unwritten s.after ≡ false → size_of (waiting s) ≡ 0

-- THE WHOLE RUN
pub serves : {S : Type 0} (M : Machine S) (s₀ : S) (s : Stand S) → Reached (Starts s₀) (Turns M) s → Serves M s₀ s
serves M s₀ s r =
    let turns = r.turns in
    let g = r.ran in
    let f = by_turns read_in written_in (SoFar M s₀) (nothing_said M s₀) (said_on M s₀) turns s g in
    let e = at_end NoneWaits (λ s b m u. not_both (more s.after) b.2 m) (λ b s t. turn_ends t.1) turns s g in
    record {
      turns = turns;
      R = through read_in turns s;
      W = through written_in turns s;
      ran = g;
      read = refl;
      handed = refl;
      said = f.said;
      whole = f.whole;
      kept = f.kept;
      replied = f.replied;
      state = f.state;
      all =
          λ m u.
          let p = one_cut f.said (waiting s) (sym f.kept) f.whole (e m u) in (
            f.replied ∙ ap (λ (x : Parts). joined (outs M s₀ x.whole)) (sym p),
            ap (λ (x : Parts). x.rest) (sym p),
          );
    }
