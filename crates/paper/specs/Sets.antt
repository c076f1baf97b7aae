-- Begin, steps 3 and 4: the five sets and the marks (8.3.2).
use Rattle.std.specs.Prelude.{ℕ, ◌*◌, List, [], ◌∷◌, ◌++◌, map, Bool, true, cond, not, ◌&&◌, eqb, ℤ, pos, ◌+ℤ◌, ◌-ℤ◌}
use Rattle.paper.specs.declared.Serial.{Serial}
use Rattle.paper.specs.declared.Mark.{Mark}
use Rattle.paper.specs.declared.Picture.{Picture}
use Rattle.paper.specs.declared.ShortEntry.{ShortEntry}
use Rattle.paper.specs.declared.LongEntry.{LongEntry}
use Rattle.paper.specs.declared.Wish.{Wish}
use Rattle.paper.specs.Words.{keep, all_b, any_b}
use Rattle.paper.specs.Numbers.{bit, missing, same_serial}
use Rattle.paper.specs.Poc.{mod_z, in32, eq_z}
use Rattle.paper.specs.State.{Refs, is_marked, is_short_term}
use Rattle.paper.specs.Records.{Fields}

-- Step 3. "Short-term POCs are POC + delta"
abbrev pub short_wish : ℤ → ShortEntry → Wish
short_wish p e = record { poc = p +ℤ e.delta; used = eqb e.used 1; whole = true }

-- "Long-term: lt lsb, and with msb present, lt lsb + POC − cycle·M − (POC mod M)."
abbrev pub long_poc : ℕ → ℤ → ℕ → ℕ → ℤ
long_poc M p lsb cycle = pos lsb +ℤ p -ℤ pos (cycle * M) -ℤ pos (mod_z p M)

abbrev pub long_wish : ℕ → ℤ → LongEntry → Wish
long_wish M p e =
    record {
      poc = cond (bit 1 e.flags) (long_poc M p e.lsb e.cycle) (pos e.lsb);
      used = bit 0 e.flags;
      whole = bit 1 e.flags;
    }

-- what the entries ask for, in the record's order
pub record Wishes : Type 0 where
  pub neg : List Wish
  pub pos : List Wish
  pub lt : List Wish

unfoldable pub wishes_of : ℕ → ℤ → Fields → Wishes
wishes_of M p f =
    record {
      neg = map (short_wish p) f.neg;
      pos = map (short_wish p) f.pos;
      lt = map (long_wish M p) f.lt;
    }

-- not number 6, for the sets: every POC that is asked for lies in i32
abbrev pub wish_in32 : Wish → Bool
wish_in32 w = in32 w.poc

unfoldable pub wishes_in32 : Wishes → Bool
wishes_in32 w = all_b wish_in32 w.neg && all_b wish_in32 w.pos && all_b wish_in32 w.lt

abbrev pub used_by : Wish → Bool
used_by w = w.used

abbrev pub unused_by : Wish → Bool
unused_by w = not w.used

-- Step 4. "first stored picture with .. equal POC": its serial, or `missing`
unfoldable pub first_of : (Picture → Bool) → List Picture → Serial
first_of t [] = missing
first_of t (p ∷ ps) = cond (t p) p.serial (first_of t ps)

-- "LtCurr, then LtFoll: first stored picture with any mark and equal POC (msb present) or equal POC mod M."
abbrev pub long_match : ℕ → Wish → Picture → Bool
long_match M w p = is_marked p.mark && cond w.whole (eq_z p.poc w.poc) (eq_z (pos (mod_z p.poc M)) w.poc)

-- "Then Before, After, Foll: first short-term picture of equal POC."
abbrev pub short_match : Wish → Picture → Bool
short_match w p = is_short_term p.mark && eq_z p.poc w.poc

unfoldable pub long_set : ℕ → List Picture → List Wish → List Serial
long_set M ps ws = map (λ (w : Wish). first_of (long_match M w) ps) ws

unfoldable pub short_set : List Picture → List Wish → List Serial
short_set ps ws = map (λ (w : Wish). first_of (short_match w) ps) ws

abbrev pub marked : Mark → Picture → Picture
marked m p =
    record {
      serial = p.serial;
      surface = p.surface;
      poc = p.poc;
      mark = m;
      waiting = p.waiting;
      count = p.count;
    }

abbrev pub is_in : Serial → List Serial → Bool
is_in n ns = any_b (same_serial n) ns

-- the pictures of these serials get the mark; the others lose theirs
unfoldable pub mark_all : Mark → List Serial → List Picture → List Picture
mark_all m ns ps = map (λ (p : Picture). cond (is_in p.serial ns) (marked m p) p) ps

unfoldable pub mark_only : List Serial → List Picture → List Picture
mark_only ns ps = map (λ (p : Picture). cond (is_in p.serial ns) p (marked Mark.Unmarked p)) ps

-- "IRAP with NoRaslOutputFlag unmarks all."
abbrev pub unmarked_if : Bool → List Picture → List Picture
unmarked_if b ps = cond b (map (marked Mark.Unmarked) ps) ps

-- the five sets of a picture, as serials
pub record Sets : Type 0 where
  pub before : List Serial
  pub after : List Serial
  pub foll : List Serial
  pub lt_curr : List Serial
  pub lt_foll : List Serial

abbrev pub in_order : Sets → List Serial
in_order x = x.before ++ x.after ++ x.foll ++ x.lt_curr ++ x.lt_foll

abbrev pub refs_of : Sets → Refs
refs_of x = record { before = x.before; after = x.after; lt_curr = x.lt_curr }

-- "Those found become long-term."
abbrev pub long_marked : ℕ → List Picture → Wishes → List Picture
long_marked M ps w =
    mark_all Mark.LongTerm (long_set M ps (keep used_by w.lt) ++ long_set M ps (keep unused_by w.lt)) ps

-- "used neg to Before, used pos to After, unused neg then pos to Foll"; used lt to LtCurr, unused lt to LtFoll
unfoldable pub sets_of : ℕ → List Picture → Wishes → Sets
sets_of M ps w =
    record {
      before = short_set (long_marked M ps w) (keep used_by w.neg);
      after = short_set (long_marked M ps w) (keep used_by w.pos);
      foll = short_set (long_marked M ps w) (keep unused_by w.neg ++ keep unused_by w.pos);
      lt_curr = long_set M ps (keep used_by w.lt);
      lt_foll = long_set M ps (keep unused_by w.lt);
    }

-- "Every picture in none of the sets loses its mark."
unfoldable pub marks_of : ℕ → List Picture → Wishes → List Picture
marks_of M ps w = mark_only (in_order (sets_of M ps w)) (long_marked M ps w)
