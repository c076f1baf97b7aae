-- Document 02, Item 10, "A surface pool for the device": the pool, what is free in it, and the lowest free surface.
use Rattle.std.specs.Prelude.{ℕ, zero, suc, ◌+◌, Bool, false, cond, not, ◌&&◌, ltb, leb, eqb, Option, None, Some}
use Rattle.paper.specs.declared.Surface.{Surface}
use Rattle.paper.specs.Numbers.{a_surface}
use Rattle.paper.specs.State.{Session, fresh}
use Rattle.paper.specs.declared.Reading.{Reading}
use Rattle.paper.specs.Reading.{opening}

-- "1 to 64 surfaces, numbered from 0"; "20, a pool asked for with 0 or more than 64 surfaces"
abbrev pub surface_limit : ℕ
surface_limit = 64

abbrev pub can_make : ℕ → Bool
can_make n = leb 1 n && leb n surface_limit

-- "the call answers that number beside the reply, or 64 if no begin was accepted"
abbrev pub no_surface : ℕ
no_surface = 64

-- the surface of a number, which is none where the number is that; and the number that a host is told
abbrev pub surface_at : ℕ → Option Surface
surface_at x = cond (eqb x no_surface) None (Some (a_surface x))

abbrev pub number_at : Option Surface → ℕ
number_at None = no_surface
number_at (Some x) = x.0

-- "a second layer above the session". The pool has a session and some surfaces. Of each surface it keeps whether it
-- believes that the session holds it ("The pool's picture of "held""), and how many returns are pending on it; and it
-- keeps what a reader of the session's replies carries
pub record Pool : Type 0 where
  pub session : Session
  pub surfaces : ℕ
  pub held : ℕ → Bool
  pub pending : ℕ → ℕ
  pub reading : Reading

-- a pool that has heard no call: its session is fresh, nothing is held and nothing is pending
abbrev pub made : ℕ → Pool
made n = record { session = fresh; surfaces = n; held = λ x. false; pending = λ x. 0; reading = opening }

-- "A surface is free if the session does not hold it and every picture handed out on it has been given back by the
-- display."
abbrev pub is_free : Pool → ℕ → Bool
is_free p x = ltb x p.surfaces && (not (p.held x) && eqb (p.pending x) 0)

-- "the lowest free surface": of n numbers from x on the first of which f holds, or the number behind them. Of 64
-- numbers from 0 on that is 64, `no_surface`
unfoldable pub lowest_from : (ℕ → Bool) → ℕ → ℕ → ℕ
lowest_from f zero x = x
lowest_from f (suc n) x = cond (f x) x (lowest_from f n (x + 1))

unfoldable pub lowest_free : Pool → ℕ
lowest_free p = lowest_from (is_free p) surface_limit 0
