-- `derivation::nal::valid_prev`: the class and the parity answer it, by a computed test over all bytes.
use mathlib.Core.Path.{◌≡◌, refl}
use mathlib.Core.Bool.{Bool, true, false, not, ◌&&◌}
use Prim.Native.Nat.{ℕ, ◌<◌}
use lib.Dec.{eqb}
use Rattle.paper.specs.Nal.{rasl, radl, sub_layer_non_reference}
use Rattle.derivation.specs.Classes.{class_of, prev_in}
use Rattle.wire.proofs.Below.{bytes_agree}
use Rattle.derivation.proofs.nal.valid_prev.Goals as goal

valid : (b : Bool) (t : ℕ) → t < 256 → (b && prev_in (class_of t) (sub_layer_non_reference t)) ≡ (b && not (rasl t) && not (radl t) && not (sub_layer_non_reference t))
unfolding class_of
valid true t h = bytes_agree (λ (n : ℕ). prev_in (class_of n) (sub_layer_non_reference n)) (λ (n : ℕ). not (rasl n) && not (radl n) && not (sub_layer_non_reference n)) tt t h
valid false t h = refl

pub returns : goal.returns
returns c =
    rw (c.may_be_prev.ensures, c.nal_class.ensures.class, c.non_reference.ensures) (valid (eqb c.args.tid 0) c.args.t c.ranges.t.fits)
