-- `derivation::nal::nal_class`: each arm's range has one class, by a computed test over all bytes.
use native.Mathlib.Omega.{arith}
use Rattle.derivation.specs.Classes.{class_of}
use Rattle.derivation.specs.declared.nal.NalClass.TheVariants.{Idr, Bla, Radl, Rasl, Other, Refused}
use Rattle.derivation.proofs.ByClass.{class_of_lem, class_says}
use Rattle.derivation.proofs.nal.nal_class.Goals as goal

pub returns-in-21 : goal.returns-in-21
unfolding class_of
returns-in-21 c =
    let whole = class_says c.args.t c.ranges.t.fits (rw c.in-21.is) in
    record { class = whole.0; types = whole.1.0; only = whole.1.1 }

pub returns-in-0-to-5 : goal.returns-in-0-to-5
unfolding class_of
returns-in-0-to-5 c =
    let whole = class_says c.args.t c.ranges.t.fits (class_of_lem 0 5 Other tt c.args.t c.ranges.t.fits (omega arith) (omega arith)) in
    record { class = whole.0; types = whole.1.0; only = whole.1.1 }

pub returns-in-6-to-7 : goal.returns-in-6-to-7
unfolding class_of
returns-in-6-to-7 c =
    let whole = class_says c.args.t c.ranges.t.fits (class_of_lem 6 7 Radl tt c.args.t c.ranges.t.fits (omega arith) (omega arith)) in
    record { class = whole.0; types = whole.1.0; only = whole.1.1 }

pub returns-in-8-to-9 : goal.returns-in-8-to-9
unfolding class_of
returns-in-8-to-9 c =
    let whole = class_says c.args.t c.ranges.t.fits (class_of_lem 8 9 Rasl tt c.args.t c.ranges.t.fits (omega arith) (omega arith)) in
    record { class = whole.0; types = whole.1.0; only = whole.1.1 }

pub returns-in-16-to-18 : goal.returns-in-16-to-18
unfolding class_of
returns-in-16-to-18 c =
    let whole = class_says c.args.t c.ranges.t.fits (class_of_lem 16 18 Bla tt c.args.t c.ranges.t.fits (omega arith) (omega arith)) in
    record { class = whole.0; types = whole.1.0; only = whole.1.1 }

pub returns-in-19-to-20 : goal.returns-in-19-to-20
unfolding class_of
returns-in-19-to-20 c =
    let whole = class_says c.args.t c.ranges.t.fits (class_of_lem 19 20 Idr tt c.args.t c.ranges.t.fits (omega arith) (omega arith)) in
    record { class = whole.0; types = whole.1.0; only = whole.1.1 }

pub returns-in_default : goal.returns-in_default
unfolding class_of
returns-in_default c =
    let whole = class_says c.args.t c.ranges.t.fits (class_of_lem 10 15 Refused tt c.args.t c.ranges.t.fits (omega arith) (omega arith)) in
    record { class = whole.0; types = whole.1.0; only = whole.1.1 }

pub returns-in_default-2 : goal.returns-in_default-2
unfolding class_of
returns-in_default-2 c =
    let whole = class_says c.args.t c.ranges.t.fits (class_of_lem 22 255 Refused tt c.args.t c.ranges.t.fits (omega arith) (omega arith)) in
    record { class = whole.0; types = whole.1.0; only = whole.1.1 }
