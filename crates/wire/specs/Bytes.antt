-- A run of bytes laid over the start of a buffer.
use Rattle.std.specs.Prelude.{ℕ, List, ◌++◌, length, drop}

-- "every reply leaves the bytes behind it as they were"
unfoldable pub over : List ℕ → List ℕ → List ℕ
over p l = p ++ drop (length p) l
