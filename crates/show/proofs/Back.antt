-- The line of what a session writes is the text of the reply that the paper decides, and never says that it is damaged.
use Prim.Native.Nat.{ℕ, ◌≤◌}
use mathlib.Core.Path.{◌≡◌, ap}
use mathlib.Core.List.{List, ◌++◌}
use mathlib.Core.Bool.{true}
use lib.Dec.{ltb}
use lib.ListN.{length}
use Rattle.paper.specs.Words.{all_b}
use Rattle.paper.specs.Numbers.{u8}
use Rattle.paper.specs.declared.Reading.{Reading}
use Rattle.paper.specs.Reading.{opening, further_all}
use Rattle.paper.specs.State.{fresh}
use Rattle.paper.specs.Replies.{Reply, bytes_of}
use Rattle.paper.specs.Step.{decide_of, step_of, session_after, replies}
use Rattle.paper.specs.Statement.{Bytes}
use Rattle.paper.proofs.ReadBack.{Fit, read_back}
use Rattle.paper.proofs.WholeBack.{Known, whole_back}
use Rattle.paper.proofs.Sound.{good_step}
use Rattle.paper.proofs.Refusals.{reply_fits_after}
use Rattle.paper.proofs.LedgerTold.{sound_after, sound_fresh}
use Rattle.paper.proofs.Unbroken.{knows}
use Rattle.stream.specs.Text.{ascii, decimal}
use Rattle.show.specs.Lines.{reply_text, said_text, line_of}

pub line_of_lem : (st : Reading) (number : ℕ) (x : Reply) → Fit x → Known x → length (bytes_of x) ≤ 512 → line_of st number (bytes_of x) ≡ decimal number ++ ascii " " ++ reply_text (u8 (bytes_of x) 10) x ++ ascii "\n"
unfolding line_of said_text
line_of_lem st number x f k h =
    let s : said_text st (bytes_of x) ≡ reply_text (u8 (bytes_of x) 10) x = simp (whole_back st x f k h) (ap (reply_text (u8 (bytes_of x) 10)) (read_back st x f)) in
    ap (λ (l : List ℕ). decimal number ++ ascii " " ++ l ++ ascii "\n") s

-- after any records from fresh on
pub session_line : (number : ℕ) (rs : List (List ℕ)) (r : List ℕ) → Bytes rs → all_b (λ (b : ℕ). ltb b 256) r ≡ true
    → line_of (further_all opening (replies fresh rs)) number (step_of (session_after fresh rs) r 512).bytes ≡ decimal number ++ ascii " " ++ reply_text (u8 (step_of (session_after fresh rs) r 512).bytes 10) (decide_of (session_after fresh rs) r).reply ++ ascii "\n"
unfolding step_of
session_line number rs r b h =
    let s = session_after fresh rs in
    line_of_lem (further_all opening (replies fresh rs)) number (decide_of s r).reply (good_step s r (sound_after fresh rs sound_fresh b) h).fit (knows s r) (reply_fits_after rs r 512)
