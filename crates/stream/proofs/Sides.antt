-- One file in a turn: what is read stands behind what waits, and what is taken is cut off in front, so that all that
-- was read is still there.
use Prim.Native.Nat.{ℕ, ◌-◌, ◌≤◌}
use mathlib.Core.Path.{◌≡◌, refl, sym, ap, ◌∙◌}
use mathlib.Core.List.{List, [], ◌++◌}
use native.Mathlib.Omega.{arith}
use lib.IntN.{ℤ}
use lib.ListN.{length, take, drop, length-drop}
use lib.Seq.{length-paste}
use borrow.Author.Tests.{eqb-true}
use Rattle.stream.specs.declared.files.Feed.{Feed}
use Rattle.stream.specs.Turns.{shifted}
use Rattle.stream.specs.Files.{Fed, brought, lessened, Onward, Unread, unread}
use Rattle.stream.proofs.Keeping.{shifted_within, none_brought, read_so_far, still_same}

-- nothing waits of a file of which nothing was read yet
pub none_held : {f : Feed} {fd : ℤ} {n : ℕ} → f ≡ unread fd → f.held ≤ n
none_held e = rw e (omega arith)

pub none_waits : {f : Feed} {fd : ℤ} (l : List ℕ) → f ≡ unread fd → take f.held l ≡ []
none_waits l e = rw e

-- a file in a turn that takes nothing of it: it goes on, and what is read stands behind what waits
pub record Side (f : Feed) (before : List ℕ) (r : Feed) (after : List ℕ) : Type 0 where
  pub onward : Onward f r after
  pub waits : (all front : List ℕ) → all ≡ front ++ take f.held before → all ++ brought f r after ≡ front ++ take r.held after

pub side_fed : {f r : Feed} {before after : List ℕ} → f.held ≤ length before → Fed f before r after → Side f before r after
side_fed {f} {r} {before} {after} h g =
    record {
      onward =
          record {
            fd = g.fd;
            within = g.read.within h;
            ended = λ e. let k = eqb-true r.held f.held (sym g.ended ∙ e) in none_brought f.held r.held after (omega arith);
          };
      waits = λ all front. read_so_far front f.held r.held before after g.read.grows g.read.kept;
    }

pub side_same : (f : Feed) (l : List ℕ) → f.held ≤ length l → Side f l f l
side_same f l h =
    record {
      onward = record { fd = refl; within = h; ended = λ e. none_brought f.held f.held l (omega arith) };
      waits = λ all front e. still_same f.held f.held l (omega arith) ∙ e;
    }

-- what was taken is cut off in front
pub onward_less : (f : Feed) (n : ℕ) (before after : List ℕ) → f.held ≤ length before → n ≤ f.held → after ≡ shifted before n f.held → Onward f (lessened f n) after
onward_less f n before after h k e =
    let m : length after ≡ length before = ap length (e ∙ shifted_within before n f.held h) ∙ length-paste before 0 (drop n before) (f.held - n) (omega arith) (simp length-drop (omega arith)) in
    record { fd = refl; within = omega arith; ended = λ _. none_brought f.held (f.held - n) after (omega arith) }

pub unread_less : (f : Feed) (n : ℕ) (after : List ℕ) → Unread f (lessened f n) after
unread_less f n after = record { none = none_brought f.held (f.held - n) after (omega arith); ended = refl; failed = refl }

-- nothing is read of a file that is left as it is
pub unread_same : (f : Feed) (l : List ℕ) → Unread f f l
unread_same f l = record { none = none_brought f.held f.held l (omega arith); ended = refl; failed = refl }
