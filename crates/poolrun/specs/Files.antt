-- Calls and answers of a pool as they stand in files (docs/POOL.md), and the argument of the program.
use Rattle.std.specs.Prelude.{ℕ, ◌+◌, ◌-◌, ◌*◌, List, ◌++◌, Bool, cond, ◌&&◌, leb, eqb, length, drop, Option, Some, None}
use Rattle.paper.specs.Numbers.{u8, u32, bytes16, reply_limit}
use Rattle.paper.specs.Kinds.{body_place}
use Rattle.paper.specs.Records.{kind_of}
use Rattle.pool.specs.History.{Call, Lends, Returns, Answer}
use Rattle.poolrun.specs.declared.Kind.{Kind}
use Rattle.poolrun.specs.declared.Kind.TheVariants.{Record, Return}

-- A call is "u16 body length, u16 kind, body". Kind 1 is the return of a surface, which is its body; every other kind
-- lends its body as a record
abbrev pub return_kind : ℕ
return_kind = 1

abbrev pub is_return : List ℕ → Bool
is_return c = eqb (kind_of c) return_kind

abbrev pub done_by : List ℕ → Kind
done_by c = cond (is_return c) Return Record

unfoldable pub call_in : List ℕ → Call
call_in c = cond (is_return c) (Returns (u32 c body_place)) (Lends (drop body_place c) reply_limit)

-- An answer has the same head with kind 1 for a return and else 0; its body is u16 number, u16 surface, the reply's
-- bytes
abbrev pub code_of : Kind → ℕ
code_of Record = 0
code_of Return = return_kind

abbrev pub answer_kind : List ℕ → ℕ
answer_kind c = cond (is_return c) return_kind 0

abbrev pub head_bytes : ℕ → ℕ → ℕ → ℕ → List ℕ
head_bytes kind len number surface = bytes16 (4 + len) ++ bytes16 kind ++ bytes16 number ++ bytes16 surface

unfoldable pub answer_bytes : ℕ → Answer → List ℕ
answer_bytes kind a = head_bytes kind (length a.bytes) a.number a.surface ++ a.bytes

-- the argument: one or two decimal digits; all else is no number of surfaces
abbrev pub digit_of : ℕ → Option ℕ
digit_of b = cond (leb 48 b && leb b 57) (Some (b - 48)) None

-- two digits, where both are digits
abbrev pub two_digits : Option ℕ → Option ℕ → Option ℕ
two_digits (Some t) (Some u) = Some (10 * t + u)
two_digits _ _ = None

abbrev pub count_in : List ℕ → Option ℕ
count_in w = cond (eqb (length w) 1) (digit_of (u8 w 0)) (cond (eqb (length w) 2) (two_digits (digit_of (u8 w 0)) (digit_of (u8 w 1))) None)
