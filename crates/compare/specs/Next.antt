-- What comes behind a turn, as tests.
use Rattle.std.specs.Prelude.{Bool, true, false}
use Rattle.compare.specs.declared.Next.{Next}
use Rattle.compare.specs.declared.Next.TheVariants.{More, End, Unread, Unwritten, Spent}

abbrev pub is_more : Next → Bool
is_more More = true
is_more End = false
is_more Unread = false
is_more Unwritten = false
is_more Spent = false

abbrev pub is_unwritten : Next → Bool
is_unwritten More = false
is_unwritten End = false
is_unwritten Unread = false
is_unwritten Unwritten = true
is_unwritten Spent = false

abbrev pub is_spent : Next → Bool
is_spent More = false
is_spent End = false
is_spent Unread = false
is_spent Unwritten = false
is_spent Spent = true
