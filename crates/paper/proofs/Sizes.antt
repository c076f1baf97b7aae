-- How much a tail can hold, for ANY list of pictures (no invariant): what the code's arrays and the 512 bytes need.
use Rattle.paper.specs.declared.Serial.{Serial}
use Rattle.paper.specs.declared.Surface.{Surface}
use Rattle.paper.specs.declared.Picture.{Picture}
use Rattle.paper.specs.declared.Shown.{Shown}
use Rattle.paper.specs.declared.Limits.{Limits}
use Rattle.paper.specs.Words.{keep, flat}
use Rattle.paper.specs.Numbers.{bytes32, serial_nos, surface_nos}
use Rattle.paper.specs.Kinds.{shown_width}
use Rattle.paper.specs.Records.{Fields}
use Rattle.paper.specs.State.{Session, is_marked}
use Rattle.paper.specs.Output.{Tail, Moved, still, and_then, turns, lowest, is_it, leave, stay, quieted, hand_found, hand_out, cleared, emptied, in_use, removed, hand_while, due, before_decoding}
use Rattle.paper.specs.Begin.{marked_store, starts_over, no_prior_pics, room_made}
use Rattle.paper.specs.Replies.{shown_bytes, words, tail_bytes}
use Prim.Native.Nat.{ℕ, zero, suc, ◌+◌, ◌*◌, ◌≤◌}
use mathlib.Core.Path.{◌≡◌, refl, ◌∙◌}
use mathlib.Core.List.{List, [], ◌∷◌, ◌++◌}
use mathlib.Core.Bool.{Bool, true, false, cond, not, ◌&&◌, ◌||◌}
use native.Mathlib.Omega.{arith}
use lib.ListN.{length, length-append, length-map}
use Rattle.paper.proofs.Bools.{split, by_case}
use Rattle.paper.proofs.Firsts.{drop_length, change_length, lowest_first}
use Rattle.paper.proofs.Quiet.{waitings, fewer, one_fewer, few_wait}
use Rattle.paper.proofs.Lasts.{by_begin}
use Rattle.std.proofs.Common.{Option, None, Some}

pub record Shrinks (ps : List Picture) (m : Moved) : Type 0 where
  pub shows : length m.tail.handed + length m.tail.thrown + length (waitings m.pics) ≤ length (waitings ps)
  pub frees : length m.tail.released + length m.pics ≤ length ps

pub shrinks_still : (ps : List Picture) → Shrinks ps (still ps)
shrinks_still ps = record { shows = omega arith; frees = omega arith }

pub shrinks_then : (ps : List Picture) (m : Moved) (f : List Picture → Moved) → Shrinks ps m → Shrinks m.pics (f m.pics) → Shrinks ps (and_then m f)
shrinks_then ps m f a b =
    let t = (f m.pics).tail in
    record {
      shows = omega (arith, a.shows, b.shows, length-append m.tail.handed t.handed, length-append m.tail.thrown t.thrown);
      frees = omega (arith, a.frees, b.frees, length-append m.tail.released t.released);
    }

pub shrinks_hand : (always : Bool) (ps : List Picture) → Shrinks ps (hand_out always ps)
unfolding hand_out
shrinks_hand always ps = go (lowest None ps) refl
  where
    go : (x : Option Picture) → lowest None ps ≡ x → Shrinks ps (hand_found always ps x)
    go None e = shrinks_still ps
    go (Some p) e =
        let f = lowest_first ps p e in
        by_case (Shrinks ps) (always || not (is_marked p.mark)) (leave ps p) (stay ps p)
        (λ _. record { shows = omega (arith, one_fewer true p ps f); frees = omega (arith, drop_length (is_it p) p ps f) })
        (λ _. record { shows = omega (arith, one_fewer false p ps f); frees = omega (arith, change_length (is_it p) quieted ps) })

pub shrinks_turns : (f : List Picture → Moved) → ((qs : List Picture) → Shrinks qs (f qs)) → (n : ℕ) (ps : List Picture) → Shrinks ps (turns n f ps)
unfolding turns
shrinks_turns f h zero ps = shrinks_still ps
shrinks_turns f h (suc n) ps = shrinks_then ps (f ps) (turns n f) (h ps) (shrinks_turns f h n (f ps).pics)

pub shrinks_while : (g : List Picture → Bool) (ps : List Picture) → Shrinks ps (hand_while g ps)
unfolding hand_while
shrinks_while g ps =
    shrinks_turns (λ (qs : List Picture). cond (g qs) (hand_out false qs) (still qs)) (λ qs. by_case (Shrinks qs) (g qs) _ _ (λ _. shrinks_hand false qs) (λ _. shrinks_still qs)) (length ps) ps

pub shrinks_cleared : (ps : List Picture) → Shrinks ps (cleared ps)
unfolding cleared waitings keep
shrinks_cleared ps =
    record {
      shows = omega (arith, length-map (keep (λ (p : Picture). p.waiting) ps) (λ (p : Picture). p.serial));
      frees = omega (arith, length-map ps (λ (p : Picture). p.surface));
    }

pub shrinks_emptied : (ps : List Picture) → Shrinks ps (emptied ps)
unfolding emptied
shrinks_emptied ps =
    shrinks_then ps (turns (length ps) (hand_out true) ps) cleared (shrinks_turns (hand_out true) (shrinks_hand true) (length ps) ps) (shrinks_cleared (turns (length ps) (hand_out true) ps).pics)

parts : (f : Picture → Bool) (ps : List Picture) → length (keep (λ (p : Picture). not (f p)) ps) + length (keep f ps) ≡ length ps
unfolding keep
parts f [] = refl
parts f (p ∷ ps) = let k = parts f ps in split (f p) (λ e. rw e (omega arith)) (λ e. rw e (omega arith))

pub shrinks_removed : (ps : List Picture) → Shrinks ps (removed ps)
unfolding removed
shrinks_removed ps =
    record {
      shows = omega (arith, fewer in_use ps);
      frees = omega (arith, length-map (keep (λ (p : Picture). not (in_use p)) ps) (λ (p : Picture). p.surface), parts in_use ps);
    }

pub shrinks_before : (starts no_prior_pics : Bool) (l : Limits) (ps : List Picture) → Shrinks ps (before_decoding starts no_prior_pics l ps)
unfolding before_decoding
shrinks_before starts no_prior_pics l ps =
    by_case (Shrinks ps) starts _ _
    (λ _. by_case (Shrinks ps) no_prior_pics _ _ (λ _. shrinks_cleared ps) (λ _. shrinks_emptied ps))
    (λ _. shrinks_then ps (removed ps) (hand_while (due true l)) (shrinks_removed ps) (shrinks_while (due true l) (removed ps).pics))

pub shrinks_room : (s : Session) (f : Fields) → Shrinks (marked_store s f) (room_made s f)
unfolding room_made
shrinks_room s f = shrinks_before (starts_over s f && not s.ended) (no_prior_pics s f) s.limits (marked_store s f)

pub marked_length : (s : Session) (f : Fields) → length (marked_store s f) ≡ length s.store
marked_length s f = by_begin (λ (ps : List Picture). length ps ≡ length s.store) (λ g ps h q. length-map ps g ∙ q) s f refl

-- the bytes of a tail
pub words_length : (ns : List ℕ) → length (words ns) ≡ 4 * length ns
unfolding words flat bytes32
words_length [] = refl
words_length (n ∷ ns) = omega (arith, words_length ns)

pub shown_length : (xs : List Shown) → length (flat shown_bytes xs) ≡ shown_width * length xs
unfolding flat bytes32
shown_length [] = refl
shown_length (x ∷ xs) = omega (arith, shown_length xs)

pub tail_length : (t : Tail) → length (tail_bytes t) ≡ 3 + shown_width * length t.handed + 4 * length t.thrown + 4 * length t.released
unfolding tail_bytes
tail_length t =
    let T = length t.thrown ∷ words (serial_nos t.thrown) in
    let R = length t.released ∷ words (surface_nos t.released) in
    let h = flat shown_bytes t.handed in
    omega (arith, length-append (h ++ T) R, length-append h T, words_length (serial_nos t.thrown), words_length (surface_nos t.released), length-map t.thrown (λ (n : Serial). n.0), length-map t.released (λ (x : Surface). x.0), shown_length t.handed)

-- the tail of a store of at most n pictures
pub tail_fits : (ps : List Picture) (m : Moved) → Shrinks ps m → length (tail_bytes m.tail) ≤ 3 + 16 * length ps
tail_fits ps m a = omega (arith, tail_length m.tail, a.shows, a.frees, few_wait ps)
