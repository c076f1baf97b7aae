-- Items of a list, as they stand in a reply: numbers, serials, or pictures handed out.
use Rattle.std.specs.Prelude.{ℕ, List, drop}
use Rattle.paper.specs.Words.{flat}
use Rattle.paper.specs.Numbers.{u32}
use Rattle.paper.specs.Kinds.{word_width}
use Rattle.paper.specs.Reading.{shown_width_in}
use Rattle.paper.specs.Ledger.{read_words, read_shown}
use Rattle.stream.specs.Text.{decimal}
use Rattle.show.specs.Text.{serial_text}
use Rattle.show.specs.Lists.{behind_comma, named, shown_text, shown_at}
use Rattle.show.specs.declared.lists.Item.{Item}
use Rattle.show.specs.declared.lists.Item.TheVariants.{Number, Serial, Shown}

-- how many bytes of a reply one has
abbrev pub width_of : Item → ℕ
width_of Number = word_width
width_of Serial = word_width
width_of (Shown st) = shown_width_in st

-- how many bytes its text has at most
abbrev pub most_of : Item → ℕ
most_of Number = 10
most_of Serial = 10
most_of (Shown st) = 33

-- and with a comma in front
abbrev pub step_of : Item → ℕ
step_of Number = 11
step_of Serial = 11
step_of (Shown st) = 34

-- the one at a place of a reply
abbrev pub item_text : Item → List ℕ → ℕ → List ℕ
item_text Number r at = decimal (u32 r at)
item_text Serial r at = serial_text (u32 r at)
item_text (Shown st) r at = shown_text (shown_at st r at)

-- the n from a place of a reply on, each behind a comma
abbrev pub more_text : Item → List ℕ → ℕ → ℕ → List ℕ
more_text Number r from n = flat (behind_comma decimal) (read_words n (drop from r))
more_text Serial r from n = flat (behind_comma serial_text) (read_words n (drop from r))
more_text (Shown st) r from n = flat (behind_comma shown_text) (read_shown st n (drop from r))

-- and as a list behind its name
abbrev pub list_text : Item → List ℕ → List ℕ → ℕ → ℕ → List ℕ
list_text Number name r from n = named name decimal (read_words n (drop from r))
list_text Serial name r from n = named name serial_text (read_words n (drop from r))
list_text (Shown st) name r from n = named name shown_text (read_shown st n (drop from r))
