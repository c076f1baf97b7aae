-- Each field is read from its word; a POC that an i32 holds is its own.
use mathlib.Core.Path.{◌≡◌}
use mir.Val.{to_z, of_z}
use mir.Syntax.{w32}
use mir.Facts.{to_z-of_z}
use Rattle.store.specs.StoreWords.{picture_at}
use Rattle.store.proofs.words.picture_at.Goals as goal

pub returns : goal.returns
unfolding picture_at
returns c =
    let a : to_z w32 (of_z w32 c.signed.result) ≡ c.signed.result = to_z-of_z {w = w32} (record { sfits = c.signed.type_inv }) in
    rw (a, c.signed.ensures, c.mark_of.ensures, c.flag_of.ensures)
