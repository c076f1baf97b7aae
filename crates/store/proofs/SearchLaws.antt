-- Searches: the machine's test of two signed numbers, and what a wish asks for. Assumes nothing.
use mathlib.Core.Path.{◌≡◌, refl, sym, ap, ◌∙◌}
use mathlib.Core.Bool.{Bool, true, false, cond, ◌&&◌}
use mathlib.Core.List.{List}
use Prim.Native.Nat.{ℕ}
use lib.Dec.{eqb}
use lib.IntN.{ℤ, pos}
use mir.Syntax.{Width}
use mir.Val.{SFits, to_z, of_z}
use mir.ValLaws.{to_z-of_z}
use borrow.Author.Tests.{eqb-true, eqb-false}
use Rattle.paper.specs.Poc.{mod_z, eq_z}
use Rattle.paper.specs.State.{is_marked}
use Rattle.paper.specs.Sets.{first_of, long_match}
use Rattle.paper.proofs.Bools.{split}
use Rattle.paper.proofs.Whole.{eq_z_same, eq_z_diff}
use Rattle.paper.specs.declared.Picture.{Picture}
use Rattle.paper.specs.declared.Wish.{Wish}
use Rattle.store.specs.Walks.{any_at, low_at}

-- the machine's test of two signed numbers, on their bits, is the test of the numbers
pub eq_z_bits : (w : Width) (a b : ℤ) → SFits w a → SFits w b → eqb (of_z w a) (of_z w b) ≡ eq_z a b
eq_z_bits w a b fa fb =
    split (eqb (of_z w a) (of_z w b))
    (λ e. e ∙ sym (eq_z_same a b (sym (to_z-of_z w a fa) ∙ ap (to_z w) (eqb-true _ _ e) ∙ to_z-of_z w b fb)))
    (λ e. e ∙ sym (eq_z_diff a b (λ p. eqb-false _ _ e (ap (of_z w) p))))

-- a long-term wish is one of two tests
pub long_match_lem : (M : ℕ) (w : Wish) (p : Picture) → long_match M w p ≡ cond w.whole (any_at w.poc) (low_at M w.poc) p
long_match_lem M w p = go w.whole
  where
    go : (b : Bool) → (is_marked p.mark && cond b (eq_z p.poc w.poc) (eq_z (pos (mod_z p.poc M)) w.poc)) ≡ cond b (any_at w.poc) (low_at M w.poc) p
    go true = refl
    go false = refl

pub first_long : (M : ℕ) (w : Wish) (ps : List Picture) → first_of (long_match M w) ps ≡ first_of (cond w.whole (any_at w.poc) (low_at M w.poc)) ps
first_long M w ps = ap (λ (f : Picture → Bool). first_of f ps) (λ i p. long_match_lem M w p i)
