-- A turn keeps what waits: nothing was whole, or the lines of some replies were made and the replies cut off.
use Prim.Native.Nat.{ℕ, ◌+◌, ◌-◌, ◌≤◌, ◌<◌}
use mathlib.Core.Path.{◌≡◌, refl, sym, ap, subst, ◌∙◌}
use mathlib.Core.List.{List, [], ◌++◌}
use mathlib.Core.Bool.{true, false, not}
use native.Mathlib.Omega.{arith}
use lib.Dec.{ltb}
use lib.ListN.{length, get_or, take, drop}
use borrow.Author.Tests.{eq-eqb, ne_eqb, lt-ltb, le-ltb}
use Rattle.wire.specs.Bytes.{over}
use Rattle.paper.specs.Words.{all_b}
use Rattle.paper.specs.declared.Reading.{Reading}
use Rattle.paper.specs.Reading.{further_all}
use Rattle.format.specs.Cut.{size_of, joined}
use Rattle.stream.specs.Laid.{Puts}
use Rattle.stream.specs.Turns.{Read}
use Rattle.stream.specs.Turns.{Fed, brought, shifted}
use Rattle.format.proofs.Cutting.{some_cut, front_whole}
use Rattle.format.proofs.Fitting.{within, no_size, room_left}
use Rattle.stream.proofs.Keeping.{taken_off, read_behind, none_brought, none_more}
use Rattle.stream.proofs.Laying.{put_none}
use Rattle.show.specs.declared.After.{After}
use Rattle.show.specs.Lines.{rest_of}
use Rattle.show.specs.Stream.{number_after, Lines}
use Rattle.filter.specs.declared.Next.{Next}
use Rattle.filter.specs.declared.Next.TheVariants.{More, End, Unread}
use Rattle.filter.specs.Next.{is_more, is_unread, is_unwritten}
use Rattle.show.specs.Turns.{end_line, Last, FedBy, Turned}
use Rattle.show.proofs.Lining.{none_written}

-- ---- the end of the input

-- what a turn gives that writes no more than the last line
abbrev pub behind : Reading → ℕ → ℕ → ℕ → Next → After
behind st number held made next = record { number = number; held = held; made = made; next = next; reading = st }

pub no_rest : {st : Reading} {number held : ℕ} {output : List ℕ} → held ≡ 0 → Last st number held output (behind st number held 0 End) output
unfolding end_line
no_rest {st} {number} {held} {output} z = record { same = (refl, refl, refl, refl, refl); line = rw (eq-eqb held 0 z) (put_none output) }

pub a_rest : {st : Reading} {number held made : ℕ} {next : Next} {written output : List ℕ} → is_more next ≡ false → is_unread next ≡ false → (held ≡ 0 → ⊥) → made ≡ length (rest_of number held) → output ≡ over (rest_of number held) written
    → Last st number held written (behind st number held made next) output
unfolding end_line
a_rest {held = held} m u n l e = record { same = (refl, refl, m, u, refl); line = rw (m, u, ne_eqb held 0 n) (record { long = l; bytes = e }) }

-- ---- a turn that reads

module _ {st : Reading} {number : ℕ} {written : List ℕ} (held now : ℕ) where
  pub fed_some : held < now → FedBy st number held (record { held = now; failed = false }) written (behind st number now 0 More) written
  unfolding end_line
  fed_some h = record { same = (refl, refl, refl, refl); goes_on = sym (lt-ltb held now h); line = put_none written }

  pub fed_last : {a : After} {output : List ℕ} → now ≤ held → Last st number now written a output → FedBy st number held (record { held = now; failed = false }) written a output
  fed_last n l = record { same = (l.same.0, l.same.1, l.same.3, l.same.4); goes_on = l.same.2 ∙ sym (le-ltb held now n); line = l.line }

pub fed_unread : {st : Reading} {number : ℕ} {written : List ℕ} (held : ℕ) → FedBy st number held (record { held = held; failed = true }) written (behind st number held 0 Unread) written
unfolding end_line
fed_unread {written = written} held = record { same = (refl, refl, refl, refl); goes_on = sym (le-ltb held held (omega arith)); line = put_none written }

-- ---- one turn

module _ {st on : Reading} {n next taken made : ℕ} {written middle : List ℕ} (held : ℕ) (before : List ℕ) (h : held ≤ length before)
    (l : Lines st n (take held before) on next taken made written middle) where
  -- nothing was taken, so nothing is whole: the bytes wait in front of what was read
  pub waited : {r : Read} {a : After} {after output : List ℕ} → taken ≡ 0 → (made + 28457 ≤ length middle → size_of (drop taken (take held before)) ≡ 0)
      → (65539 ≤ length before) × (28457 ≤ length written) → ((k : ℕ) → get_or before k 0 < 256) → Fed held before r after → FedBy st n held r middle a output
      → (a.held ≤ length after) × Turned st n held before written a after output
  unfolding joined number_after further_all all_b
  waited {r} {a} {after} {output} none all long bytes f t =
      let w = none_written none l in
      let m = ap length w.1 in
      let z = no_size (take held before) middle 28457 none w.0 (omega arith) all in
      let e = t.same.1 in
      let turned : Turned st n held before written a after output =
      record {
        read = [];
        whole = refl;
        kept = ap (λ (k : ℕ). take held before ++ brought held k after) e ∙ read_behind held r.held before after f.grows f.kept ∙ ap (λ (k : ℕ). take k after) (sym e);
        number = t.same.0;
        reading = t.same.3;
        lines = λ k. absurd (omega arith);
        reads =
            λ _. (
              refl,
              subst (λ (x : List ℕ). Puts a.made (end_line a) x output) w.1 t.line,
              t.goes_on ∙ ap (ltb held) (sym e),
              λ u. t.goes_on ∙ none_more f (sym t.same.2 ∙ u),
            );
        room = λ _. room_left held before bytes long.0 h z;
      } in
      (rw e (f.within h), turned)

  -- the lines of some replies were made, and the rest moved to the start
  pub lined : {next' : Next} {after : List ℕ} → is_more next' ≡ not (is_unwritten next') → is_unread next' ≡ false → (taken ≡ 0 → ⊥) → taken ≤ length (take held before) → after ≡ shifted before taken held
      → Turned st n held before written (behind on next (held - taken) made next') after middle
  lined {after = after} m u some k e =
      let w = within held before h k in
      let s = some_cut l.read (take held before) l.cut k some in
      let f = front_whole taken l.read (take held before) l.whole l.cut s in
      record {
        read = l.read;
        whole = l.whole;
        kept = taken_off (joined l.read) held before h w l.cut e;
        number = l.number;
        reading = l.reading;
        lines = λ _. (s, none_brought held (held - taken) after (omega arith), l.lines, m, u);
        reads = λ z. absurd (omega arith);
        room = λ z. absurd (omega arith);
      }
