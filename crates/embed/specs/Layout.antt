-- The words that stand for a paper's session, and the sessions that are read back from them.
use Rattle.std.specs.Prelude.{ℕ, ◌-◌, ◌≤◌, ◌<◌, List, [], ◌∷◌, ◌++◌, length, replicate}
use Rattle.std.specs.Int.{w32}
use Rattle.std.proofs.Common.{SFits}
use Rattle.paper.specs.Words.{flat}
use Rattle.paper.specs.Numbers.{serial_nos}
use Rattle.paper.specs.State.{all_refs}
use Rattle.paper.specs.State as P
use Rattle.paper.specs.declared.Picture.{Picture}
use Rattle.paper.specs.declared.Limits.{Limits}
use Rattle.paper.specs.declared.Current.{Current}
use Rattle.store.specs.StoreWords.{picture_words}
use Rattle.session.specs.View.{Memory, memory}
use Rattle.session.specs.Laid.{front_words_of}
use Rattle.std.specs.Prelude.{Option, None, Some}
use Rattle.paper.specs.declared.Tid0.{Tid0}

-- zeros behind a run, up to n words
abbrev pub filled : ℕ → List ℕ → List ℕ
filled n xs = xs ++ replicate (n - length xs) 0

-- ---- the store and the sets

-- sixteen places of six words, and behind them how many are used
abbrev pub store_words_of : List Picture → List ℕ
store_words_of ps = filled 96 (flat picture_words ps) ++ (length ps ∷ [])

-- the members of the three sets, one set behind the other
abbrev pub sets_of : P.Refs → List ℕ
sets_of x = filled 16 (serial_nos (all_refs x))

-- the memory that stands for a session
unfoldable pub memory_of : P.Session → Memory
memory_of s = memory (front_words_of s) (sets_of s.refs) (store_words_of s.store)

-- ---- the sessions that are read back: each number fits in the bits that are read of its word

pub record LimitsFit (l : Limits) : Type 0 where
  pub k : l.k < 256
  pub capacity : l.capacity < 256
  pub buffering : l.buffering < 256
  pub reorder : l.reorder < 256
  pub latency : l.latency < 65536

abbrev pub PrevFits : Option Tid0 → Type 0
PrevFits None = Unit {0}
PrevFits (Some p) = (p.lsb < 65536) × SFits w32 p.msb

pub record CurrentFits (c : Current) : Type 0 where
  pub poc : SFits w32 c.poc
  pub lsb : c.lsb < 65536
  pub msb : SFits w32 c.msb

abbrev pub NowFits : Option Current → Type 0
NowFits None = Unit {0}
NowFits (Some c) = CurrentFits c

abbrev pub PocsFit : List Picture → Type 0
PocsFit [] = Unit {0}
PocsFit (p ∷ ps) = SFits w32 p.poc × PocsFit ps

-- the store has sixteen places, and so has the run of the sets
pub record Fitting (s : P.Session) : Type 0 where
  pub limits : LimitsFit s.limits
  pub prev : PrevFits s.prev
  pub current : NowFits s.current
  pub members : length (all_refs s.refs) ≤ 16
  pub room : length s.store ≤ 16
  pub pocs : PocsFit s.store
