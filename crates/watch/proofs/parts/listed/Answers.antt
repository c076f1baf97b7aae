-- Each way out, in the order of the parts.
use mathlib.Core.Path.{◌∙◌, sym}
use Rattle.derivation.proofs.Pad.{is_view}
use Rattle.watch.proofs.Walks.{idle}
use Rattle.watch.proofs.Ways.{lists_13, lists_12, lists_0}
use Rattle.watch.proofs.parts.listed.Goals as goal

pub returns-then-is_none : goal.returns-then-is_none
returns-then-is_none c = lists_13 c.args.b _ (idle c.args.b.current c.is_none.ensures ∙ c.if-is_none.true)

pub returns : goal.returns
returns c =
    let q = rw (is_view c.joined.ensures, c.byte.ensures, c.byte-2.ensures) at (sym c.names_known.ensures ∙ c.if-not-names_known.false) in
    lists_0 c.args.b _ (idle c.args.b.current c.is_none.ensures ∙ c.if-is_none.false) c.requires q

pub returns-then-not-names_known : goal.returns-then-not-names_known
returns-then-not-names_known c =
    let q = rw (is_view c.joined.ensures, c.byte.ensures, c.byte-2.ensures) at (sym c.names_known.ensures ∙ c.if-not-names_known.true) in
    lists_12 c.args.b _ (idle c.args.b.current c.is_none.ensures ∙ c.if-is_none.false) q
