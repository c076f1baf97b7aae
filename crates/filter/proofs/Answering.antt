-- One answer more behind those that are there: messages are answered one after the other, so their answers come one
-- behind the other.
use Prim.Native.Nat.{ℕ, ◌+◌, ◌-◌, ◌<◌}
use mathlib.Core.Path.{◌≡◌, refl, sym, ap, subst, ◌∙◌}
use mathlib.Core.List.{List, [], ◌∷◌, ◌++◌}
use native.Mathlib.Omega.{arith}
use lib.ListN.{length, take, drop}
use Rattle.paper.specs.Words.{all_b}
use Rattle.format.specs.Cut.{size_of, joined}
use Rattle.format.proofs.Cutting.{joined_more, taken_more, whole_more, none_whole}
use Rattle.stream.specs.Laid.{laid_at}
use Rattle.stream.proofs.Laying.{put_more, put_none, none_put}
use Rattle.filter.specs.Machine.{Machine, outs, state_after}
use Rattle.filter.specs.Answers.{Added, Answers}

module _ {S : Type 0} (M : Machine S) where
  pub outs_append : (v : S) (rs qs : List (List ℕ)) → outs M v (rs ++ qs) ≡ outs M v rs ++ outs M (state_after M v rs) qs
  unfolding outs state_after
  outs_append v [] qs = refl
  outs_append v (r ∷ rs) qs = ap (λ (x : List (List ℕ)). M.out v r ∷ x) (outs_append (M.next v r) rs qs)

  pub after_append : (v : S) (rs qs : List (List ℕ)) → state_after M v (rs ++ qs) ≡ state_after M (state_after M v rs) qs
  unfolding state_after
  after_append v [] qs = refl
  after_append v (r ∷ rs) qs = after_append (M.next v r) rs qs

  outs_more : (v : S) (rs : List (List ℕ)) (r : List ℕ) → joined (outs M v (rs ++ (r ∷ []))) ≡ joined (outs M v rs) ++ M.out (state_after M v rs) r
  unfolding outs
  outs_more v rs r = ap joined (outs_append v rs (r ∷ [])) ∙ joined_more (outs M v rs) (M.out (state_after M v rs) r)

  pub nothing_yet : (s : S) (input output : List ℕ) → Answers M s input s 0 0 output output
  unfolding joined outs state_after all_b
  nothing_yet s input output = record { said = []; whole = refl; cut = refl; replied = put_none output; after = refl }

  -- one message more: the next whole one of the input, and its answer behind the others
  module _ {s next s' : S} {input before output : List ℕ} {len : ℕ} (taken made n : ℕ) (after : List ℕ) (h : 0 < n) (e : n ≡ size_of (drop taken input))
      (g : Answers M s input next taken made before output) (d : Added M next (take (taken + n - taken) (drop taken input)) made output len s' after) where
    pub one_answered : Answers M s input s' (taken + n) (made + len) before after
    unfolding all_b state_after
    one_answered =
        let k : taken + n - taken ≡ n = omega arith in
        let r = take n (drop taken input) in
        let b : Added M next r made output len s' after = subst (λ (j : ℕ). Added M next (take j (drop taken input)) made output len s' after) k d in
        let rs = g.said in
        record {
          said = rs ++ (r ∷ []);
          whole = whole_more rs input taken n h e g.whole;
          cut = taken_more rs input taken n g.cut;
          replied =
              rw (outs_more s rs r)
              (put_more (joined (outs M s rs)) _ g.replied (b.long ∙ ap (λ (v : S). length (M.out v r)) g.after)
              (b.bytes ∙ ap (λ (v : S). laid_at made (M.out v r) output) g.after));
          after = b.next ∙ ap (λ (v : S). M.next v r) g.after ∙ sym (after_append s rs (r ∷ []));
        }

  -- nothing whole: the state and the output are as they were
  module _ {s next : S} {input before output : List ℕ} {taken made : ℕ} (z : taken ≡ 0) (a : Answers M s input next taken made before output) where
    said_none : a.said ≡ []
    said_none = none_whole a.said input a.whole a.cut z

    pub none_changed : next ≡ s
    unfolding state_after
    none_changed = a.after ∙ ap (state_after M s) said_none

    pub none_written : (made ≡ 0) × (output ≡ before)
    unfolding joined outs
    none_written = none_put a.replied (ap (λ (rs : List (List ℕ)). joined (outs M s rs)) said_none)
