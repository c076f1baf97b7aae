-- Lists of a reply item by item, whatever they are of.
use Prim.Native.Nat.{ℕ, ◌+◌, ◌-◌, ◌*◌, ◌≤◌, ◌<◌}
use mathlib.Core.Path.{◌≡◌, refl}
use mathlib.Core.List.{List, [], ◌++◌}
use native.Mathlib.Omega.{arith}
use Rattle.paper.specs.Words.{flat}
use Rattle.paper.specs.Ledger.{read_words, read_shown}
use Rattle.stream.specs.Text.{ascii, decimal}
use Rattle.show.specs.Text.{serial_text}
use Rattle.show.specs.Lists.{behind_comma, shown_text}
use Rattle.show.specs.Items.{width_of, most_of, step_of, item_text, more_text, list_text}
use Rattle.show.specs.declared.lists.Item.{Item}
use Rattle.show.specs.declared.lists.Item.TheVariants.{Number, Serial, Shown}
use Rattle.show.proofs.Places.{words_one, shown_one, no_words, no_shown, some_words, some_shown}

pub none_more : (i : Item) (r : List ℕ) (from : ℕ) → more_text i r from 0 ≡ []
unfolding flat read_words read_shown
none_more Number r from = refl
none_more Serial r from = refl
none_more (Shown st) r from = refl

-- one more behind a comma
pub one_more : (i : Item) (r : List ℕ) (from k : ℕ) → more_text i r from (k + 1) ≡ more_text i r from k ++ (ascii "," ++ item_text i r (from + width_of i * k))
one_more Number r from k = words_one (behind_comma decimal) r from k
one_more Serial r from k = words_one (behind_comma serial_text) r from k
one_more (Shown st) r from k = shown_one st (behind_comma shown_text) r from k

pub no_items : (i : Item) {n : ℕ} (name r : List ℕ) (from : ℕ) → n ≡ 0 → list_text i name r from n ≡ []
no_items Number name r from e = no_words name decimal _ e
no_items Serial name r from e = no_words name serial_text _ e
no_items (Shown st) name r from e = no_shown st name shown_text _ e

-- the first, and the rest
pub some_items : (i : Item) (name r : List ℕ) (from n : ℕ) → 0 < n → list_text i name r from n ≡ name ++ item_text i r from ++ more_text i r (from + width_of i) (n - 1)
some_items Number name r from n h = some_words name decimal r from n h
some_items Serial name r from n h = some_words name serial_text r from n h
some_items (Shown st) name r from n h = some_shown st name shown_text r from n h

-- the room of one item, and of one of n
pub step_on : (i : Item) (k : ℕ) → step_of i * (k + 1) ≡ step_of i * k + most_of i + 1
step_on Number k = omega arith
step_on Serial k = omega arith
step_on (Shown st) k = omega arith

pub step_in : (i : Item) (k n : ℕ) → k < n → step_of i * k + most_of i + 1 ≤ step_of i * n
step_in Number k n h = omega arith
step_in Serial k n h = omega arith
step_in (Shown st) k n h = omega arith
