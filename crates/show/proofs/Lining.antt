-- One line more behind those that are there.
use Prim.Native.Nat.{ℕ, ◌+◌, ◌-◌, ◌≤◌, ◌<◌, min}
use mathlib.Core.Path.{◌≡◌, refl, sym, ap, ap₂, subst, ◌∙◌}
use mathlib.Core.List.{List, [], ◌∷◌, ◌++◌, append_assoc, append-nil}
use native.Mathlib.Omega.{arith}
use lib.Dec.{ltb}
use lib.ListN.{length, take, drop, length-drop}
use lib.Seq.{length-take-le}
use borrow.Author.Tests.{ltb-true, ltb-false}
use Rattle.wire.specs.Bytes.{over}
use Rattle.paper.specs.Words.{all_b}
use Rattle.paper.specs.declared.Reading.{Reading}
use Rattle.paper.specs.Reading.{further, further_all}
use Rattle.paper.proofs.Bools.{split}
use Rattle.paper.proofs.Again.{further_more}
use Rattle.show.specs.Lines.{line_of, following}
use Rattle.format.specs.Cut.{size_of, joined}
use Rattle.show.specs.Stream.{lines_of, number_after, Added, Lines}
use Rattle.stream.specs.Laid.{laid_at}
use Rattle.format.proofs.Cutting.{taken_more, whole_more, none_whole}
use Rattle.stream.proofs.Laying.{laid_part, put_more, put_none, none_put}

-- ---- one line

pub added : {st : Reading} {number len made : ℕ} {r part before : List ℕ} → made + 28457 ≤ length before
    → (len ≡ length (line_of st number r)) × (len ≤ 28457) × (part ≡ over (line_of st number r) (take (length before - made) (drop made before)))
    → Added st number r made before len (take made before ++ (part ++ drop (length before - made) (drop made before)))
added {st} {number} {len} {made} {r} {part} {before} h p =
    let k = p.1 in
    let q = length-take-le (length before - made) (drop made before) (simp length-drop (omega arith)) in
    record { size = p.0; fits = omega arith; bytes = laid_part made (length before - made) (line_of st number r) before (omega (arith, p.0)) p.2 }

-- ---- some replies, and some behind them

pub lines_append : (st : Reading) (n : ℕ) (rs qs : List (List ℕ)) → lines_of st n (rs ++ qs) ≡ lines_of st n rs ++ lines_of (further_all st rs) (number_after n rs) qs
unfolding lines_of number_after further_all
lines_append st n [] qs = refl
lines_append st n (r ∷ rs) qs = ap (λ (x : List ℕ). line_of st n r ++ x) (lines_append (further st r) (following n) rs qs) ∙ sym (append_assoc (line_of st n r) (lines_of (further st r) (following n) rs) _)

pub number_append : (n : ℕ) (rs qs : List (List ℕ)) → number_after n (rs ++ qs) ≡ number_after (number_after n rs) qs
unfolding number_after
number_append n [] qs = refl
number_append n (r ∷ rs) qs = number_append (following n) rs qs

-- ---- one reply more

lines_more : (st : Reading) (n : ℕ) (rs : List (List ℕ)) (r : List ℕ) → lines_of st n (rs ++ (r ∷ [])) ≡ lines_of st n rs ++ line_of (further_all st rs) (number_after n rs) r
unfolding lines_of
lines_more st n rs r = lines_append st n rs (r ∷ []) ∙ ap (λ (x : List ℕ). lines_of st n rs ++ x) (append-nil _)

number_more : (n : ℕ) (rs : List (List ℕ)) (r : List ℕ) → number_after n (rs ++ (r ∷ [])) ≡ following (number_after n rs)
unfolding number_after
number_more n rs r = number_append n rs (r ∷ [])

pub nothing_yet : (st : Reading) (n : ℕ) (input output : List ℕ) → Lines st n input st n 0 0 output output
unfolding joined lines_of number_after further_all all_b
nothing_yet st n input output = record { read = []; whole = refl; cut = refl; lines = put_none output; number = refl; reading = refl }

-- the number behind n, which stays at the largest
pub follows : {n r : ℕ} → n < 18446744073709551616 → r ≡ min (n + 1) 18446744073709551615 → r ≡ following n
follows {n} h e = split (ltb n 18446744073709551615) (λ t. let k = ltb-true n 18446744073709551615 t in rw t (omega arith)) (λ t. let k = ltb-false n 18446744073709551615 t in rw t (omega arith))

module _ {st on behind : Reading} {number next later len : ℕ} {input before output : List ℕ} (taken made n : ℕ) (after : List ℕ) (h : 0 < n) (e : n ≡ size_of (drop taken input)) (f : later ≡ following next)
    (q : behind ≡ further on (take (taken + n - taken) (drop taken input)))
    (g : Lines st number input on next taken made before output) (d : Added on next (take (taken + n - taken) (drop taken input)) made output len after) where
  pub one_lined : Lines st number input behind later (taken + n) (made + len) before after
  one_lined =
      let k : taken + n - taken ≡ n = omega arith in
      let r = take n (drop taken input) in
      let b : Added on next r made output len after = subst (λ (m : ℕ). Added on next (take m (drop taken input)) made output len after) k d in
      let rs = g.read in
      record {
        read = rs ++ (r ∷ []);
        whole = whole_more rs input taken n h e g.whole;
        cut = taken_more rs input taken n g.cut;
        lines =
            rw (lines_more st number rs r)
            (put_more (lines_of st number rs) _ g.lines (b.size ∙ ap₂ (λ (x : Reading) (y : ℕ). length (line_of x y r)) g.reading g.number) (b.bytes ∙ ap₂ (λ (x : Reading) (y : ℕ). laid_at made (line_of x y r) output) g.reading g.number));
        number = f ∙ ap following g.number ∙ sym (number_more number rs r);
        reading = q ∙ ap (λ (m : ℕ). further on (take m (drop taken input))) k ∙ ap (λ (x : Reading). further x r) g.reading ∙ sym (further_more st rs r);
      }

-- ---- nothing whole

-- no line was made, and the output is as it was
module _ {st on : Reading} {number next : ℕ} {input before output : List ℕ} {taken made : ℕ} (z : taken ≡ 0) (g : Lines st number input on next taken made before output) where
  pub none_written : (made ≡ 0) × (output ≡ before)
  unfolding lines_of
  none_written = none_put g.lines (ap (lines_of st number) (none_whole g.read input g.whole g.cut z))
