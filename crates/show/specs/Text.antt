-- A serial as text, which may be that of a missing picture.
use Rattle.std.specs.Prelude.{ℕ, List, cond, eqb}
use Rattle.paper.specs.Numbers.{missing}
use Rattle.stream.specs.Text.{ascii, decimal}

-- "4,294,967,295 stands for a missing picture"
unfoldable pub serial_text : ℕ → List ℕ
serial_text n = cond (eqb n missing.0) (ascii "missing") (decimal n)
