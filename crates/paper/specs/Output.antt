-- Begin, step 5, and what it is made of: handing out, emptying, clearing, removing (C.5.2.2 to C.5.2.4).
use Rattle.std.specs.Prelude.{ℕ, zero, suc, List, [], ◌∷◌, ◌++◌, map, Bool, true, false, cond, not, ◌&&◌, ◌||◌, length, ltb, leb, eqb}
use Rattle.std.specs.Int.Signed.{lt_z}
use Rattle.paper.specs.declared.Serial.{Serial}
use Rattle.paper.specs.declared.Surface.{Surface}
use Rattle.paper.specs.declared.Picture.{Picture}
use Rattle.paper.specs.declared.Shown.{Shown}
use Rattle.paper.specs.declared.Limits.{Limits}
use Rattle.paper.specs.Words.{keep, any_b, drop_first, change_first}
use Rattle.paper.specs.State.{is_marked}
use Rattle.paper.specs.Poc.{eq_z}
use Rattle.std.specs.Prelude.{Option, None, Some}

-- "A tail is: .. each picture handed out; .. serials thrown away; .. surfaces released. Each part is in the order it
-- happened"
pub record Tail : Type 0 where
  pub handed : List Shown
  pub thrown : List Serial
  pub released : List Surface

abbrev pub quiet : Tail
quiet = record { handed = []; thrown = []; released = [] }

-- what happened first and what happened then
abbrev pub joined : Tail → Tail → Tail
joined a b =
    record {
      handed = a.handed ++ b.handed;
      thrown = a.thrown ++ b.thrown;
      released = a.released ++ b.released;
    }

-- the pictures that are left, and what happened
pub record Moved : Type 0 where
  pub pics : List Picture
  pub tail : Tail

abbrev pub still : List Picture → Moved
still ps = record { pics = ps; tail = quiet }

abbrev pub and_then : Moved → (List Picture → Moved) → Moved
and_then m f = record { pics = (f m.pics).pics; tail = joined m.tail (f m.pics).tail }

-- n times, one after the other
unfoldable pub turns : ℕ → (List Picture → Moved) → List Picture → Moved
turns zero f ps = still ps
turns (suc n) f ps = and_then (f ps) (turns n f)

-- "Handing out takes the lowest waiting POC, earlier stored first on a tie"
abbrev pub below : Picture → Option Picture → Bool
below p None = true
below p (Some q) = lt_z p.poc q.poc

unfoldable pub lowest : Option Picture → List Picture → Option Picture
lowest b [] = b
lowest b (p ∷ ps) = lowest (cond (p.waiting && below p b) (Some p) b) ps

-- it, the picture p that is found: the first that waits with its POC
abbrev pub is_it : Picture → Picture → Bool
is_it p q = q.waiting && eq_z q.poc p.poc

abbrev pub shown : Picture → Shown
shown p = record { serial = p.serial; surface = p.surface; poc = p.poc }

-- "it no longer waits
abbrev pub quieted : Picture → Picture
quieted p =
    record {
      serial = p.serial;
      surface = p.surface;
      poc = p.poc;
      mark = p.mark;
      waiting = false;
      count = p.count;
    }

abbrev pub stay : List Picture → Picture → Moved
stay ps p =
    record {
      pics = change_first (is_it p) quieted ps;
      tail = record { handed = shown p ∷ []; thrown = []; released = [] };
    }

-- and leaves the store if unmarked". "Leaving the store releases the surface."
abbrev pub leave : List Picture → Picture → Moved
leave ps p =
    record {
      pics = drop_first (is_it p) ps;
      tail = record { handed = shown p ∷ []; thrown = []; released = p.surface ∷ [] };
    }

-- `always`: "each leaving even if marked". Where none waits, nothing happens.
abbrev pub hand_found : Bool → List Picture → Option Picture → Moved
hand_found always ps None = still ps
hand_found always ps (Some p) = cond (always || not (is_marked p.mark)) (leave ps p) (stay ps p)

unfoldable pub hand_out : Bool → List Picture → Moved
hand_out always ps = hand_found always ps (lowest None ps)

-- clearing: "those waiting are thrown away"; "a clearing or removal goes in store order"
unfoldable pub cleared : List Picture → Moved
cleared ps =
    record {
      pics = [];
      tail =
          record {
            handed = [];
            thrown = map (λ (p : Picture). p.serial) (keep (λ (p : Picture). p.waiting) ps);
            released = map (λ (p : Picture). p.surface) ps;
          };
    }

-- "Emptying hands out all that wait this way, each leaving even if marked, then clears."
unfoldable pub emptied : List Picture → Moved
emptied ps = and_then (turns (length ps) (hand_out true) ps) cleared

-- "remove pictures neither waiting nor marked"
abbrev pub in_use : Picture → Bool
in_use p = p.waiting || is_marked p.mark

unfoldable pub removed : List Picture → Moved
removed ps =
    record {
      pics = keep in_use ps;
      tail =
          record {
            handed = [];
            thrown = [];
            released = map (λ (p : Picture). p.surface) (keep (λ (p : Picture). not (in_use p)) ps);
          };
    }

-- "Due: waiting > reorder; or latency ≠ 0 and a waiting picture's count ≥ latency;
unfoldable pub due_late : Limits → List Picture → Bool
due_late l ps =
    ltb l.reorder (length (keep (λ (p : Picture). p.waiting) ps))
    || (not (eqb l.latency 0) && any_b (λ (p : Picture). p.waiting && leb l.latency p.count) ps)

-- or stored ≥ buffering."
unfoldable pub due_full : Limits → List Picture → Bool
due_full l ps = due_late l ps || leb l.buffering (length ps)

-- with the buffering test, or, after a picture is stored, without it
abbrev pub due : Bool → Limits → List Picture → Bool
due true l = due_full l
due false l = due_late l

-- "hand out while one is due and one waits": so many turns are enough, and a turn in which none is due or none waits
-- does nothing
unfoldable pub hand_while : (List Picture → Bool) → List Picture → Moved
hand_while f ps = turns (length ps) (λ (qs : List Picture). cond (f qs) (hand_out false qs) (still qs)) ps

-- Step 5. `starts`: "IRAP with NoRaslOutputFlag and not after end of sequence"
unfoldable pub before_decoding : Bool → Bool → Limits → List Picture → Moved
before_decoding starts no_prior_pics l ps =
    cond starts
    (cond no_prior_pics (cleared ps) (emptied ps))
    (and_then (removed ps) (hand_while (due true l)))
