-- The words that a session is written as beside its sets and its store, and the normal form of a memory: those words,
-- and a store in its normal form.
use Rattle.std.specs.Prelude.{ℕ, ◌+◌, ◌≡◌, false, List, [], ◌∷◌, ◌++◌, map, length, ℤ, pos}
use Rattle.std.specs.Int.{w32}
use Rattle.std.proofs.Common.{of_z}
use Rattle.paper.specs.Words.{table}
use Rattle.paper.specs.Numbers.{a_serial, a_surface}
use Rattle.paper.specs.State.{is_current, on_now}
use Rattle.paper.specs.State as P
use Rattle.paper.specs.declared.Limits.{Limits}
use Rattle.paper.specs.declared.Current.{Current}
use Rattle.derivation.specs.declared.ref_lists.Refs.{Refs}
use Rattle.store.specs.StoreWords.{word, flag_of, flag_word, NormalForm}
use Rattle.session.specs.FrontPlaces.{CONFIGURED}
use Rattle.session.specs.View.{Memory, Front, session_in}
use Rattle.std.specs.Prelude.{Option, None, Some}
use Rattle.paper.specs.declared.Tid0.{Tid0}

abbrev pub limits_words : Limits → List ℕ
limits_words l = l.k ∷ l.capacity ∷ l.buffering ∷ l.reorder ∷ l.latency ∷ []

-- one number where no Tid0 picture was, another of the previous one's lsb and msb
abbrev pub on_prev : Option Tid0 → ℕ → (ℕ → ℤ → ℕ) → ℕ
on_prev None x g = x
on_prev (Some p) x g = g p.lsb p.msb

abbrev pub prev_words : Option Tid0 → List ℕ
prev_words q = on_prev q 0 (λ lsb msb. 1) ∷ on_prev q 0 (λ lsb msb. lsb) ∷ on_prev q 0 (λ lsb msb. of_z w32 msb) ∷ []

abbrev pub now_words : Option Current → List ℕ
now_words n =
    flag_word (is_current n)
    ∷ on_now n 0 (λ c. c.serial.0)
    ∷ on_now n 0 (λ c. c.surface.0)
    ∷ on_now n 0 (λ c. of_z w32 c.poc)
    ∷ on_now n 0 (λ c. c.lsb)
    ∷ on_now n 0 (λ c. of_z w32 c.msb)
    ∷ on_now n 0 (λ c. flag_word c.output)
    ∷ on_now n 0 (λ c. flag_word c.valid)
    ∷ []

abbrev pub size_words : Refs → List ℕ
size_words x = x.before ∷ x.after ∷ x.long ∷ []

-- twenty-three words: four, then those of each part
unfoldable pub front_words : Front → List ℕ
front_words f =
    (flag_word f.configured ∷ flag_word f.start ∷ flag_word f.ended ∷ f.next ∷ [])
    ++ limits_words f.limits ++ prev_words f.prev ++ now_words f.current ++ size_words f.refs

-- what they say of a session
abbrev pub sizes_of : P.Refs → Refs
sizes_of x = record { before = length x.before; after = length x.after; long = length x.lt_curr }

abbrev pub front_of : P.Session → Front
front_of s =
    record {
      configured = s.configured;
      limits = s.limits;
      current = s.current;
      refs = sizes_of s.refs;
      prev = s.prev;
      start = s.at_start;
      ended = s.ended;
      next = s.next;
    }

abbrev pub front_words_of : P.Session → List ℕ
front_words_of s = front_words (front_of s)

-- the normal form: the words beside the store are those that the session is written as, and behind the length of the
-- store all is blank
pub record NormalMemory (m : Memory) : Type 0 where
  pub front : m.front ≡ front_words_of (session_in m)
  pub store : NormalForm m.store

-- ---- part by part

-- the n words from a place on
abbrev pub words_from : List ℕ → ℕ → ℕ → List ℕ
words_from h at n = table (λ (i : ℕ). word h (at + i)) n

-- the flags in front, as flags are written
abbrev pub flag_words : List ℕ → List ℕ
flag_words h = map (λ (x : ℕ). flag_word (flag_of x)) (words_from h CONFIGURED 3)

-- a picture behind the flag that tells whether one is current: `now_words`, where none is those of `no_picture` behind 0
abbrev pub current_words : ℕ → Current → List ℕ
current_words flag c =
    flag ∷ c.serial.0 ∷ c.surface.0 ∷ of_z w32 c.poc ∷ c.lsb ∷ of_z w32 c.msb ∷ flag_word c.output
    ∷ flag_word c.valid ∷ []

abbrev pub no_picture : Current
no_picture =
    record {
      serial = a_serial 0;
      surface = a_surface 0;
      poc = pos 0;
      lsb = 0;
      msb = pos 0;
      output = false;
      valid = false;
    }
