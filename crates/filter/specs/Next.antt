-- What comes behind a turn, as tests.
use Rattle.std.specs.Prelude.{Bool, true, false}
use Rattle.filter.specs.declared.Next.{Next}
use Rattle.filter.specs.declared.Next.TheVariants.{More, End, Unread, Unwritten}

abbrev pub is_more : Next → Bool
is_more More = true
is_more End = false
is_more Unread = false
is_more Unwritten = false

abbrev pub is_unread : Next → Bool
is_unread More = false
is_unread End = false
is_unread Unread = true
is_unread Unwritten = false

abbrev pub is_unwritten : Next → Bool
is_unwritten More = false
is_unwritten End = false
is_unwritten Unread = false
is_unwritten Unwritten = true
