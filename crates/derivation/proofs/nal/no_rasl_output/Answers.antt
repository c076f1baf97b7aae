-- `derivation::nal::no_rasl_output`: the class answers it, by a computed test over all bytes.
use mathlib.Core.Path.{◌≡◌}
use mathlib.Core.Bool.{Bool, true, false, ◌&&◌, ◌||◌}
use Prim.Native.Nat.{ℕ, ◌<◌}
use Rattle.paper.specs.Nal.{idr, bla, cra}
use Rattle.derivation.specs.Classes.{class_of, no_rasl_in}
use Rattle.wire.proofs.Below.{bytes_agree}
use Rattle.derivation.proofs.nal.no_rasl_output.Goals as goal

anew : (b : Bool) (t : ℕ) → t < 256 → no_rasl_in (class_of t) b ≡ (idr t || bla t || (cra t && b))
unfolding class_of
anew true t h = bytes_agree (λ (n : ℕ). no_rasl_in (class_of n) true) (λ (n : ℕ). idr n || bla n || (cra n && true)) tt t h
anew false t h = bytes_agree (λ (n : ℕ). no_rasl_in (class_of n) false) (λ (n : ℕ). idr n || bla n || (cra n && false)) tt t h

pub returns : goal.returns
returns c =
    rw (c.is_no_rasl.ensures, c.nal_class.ensures.class, anew c.args.at_start c.args.t c.ranges.t.fits)
