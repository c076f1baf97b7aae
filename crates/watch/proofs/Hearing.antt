-- The contract of `hear`, from what its parts answer; and that it determines the whole result.
use Prim.Native.Nat.{ℕ}
use mathlib.Core.Path.{◌≡◌, refl, sym, ap, ap₂, subst, ◌∙◌}
use mathlib.Core.Bool.{true, false}
use mathlib.Core.List.{List}
use borrow.Author.Tests.{ne_eqb}
use Rattle.derivation.proofs.Pad.{is_view, is_good}
use Rattle.paper.specs.Words.{first}
use Rattle.paper.specs.declared.Reading.{Reading}
use Rattle.paper.specs.Reading.{further}
use Rattle.paper.specs.WholeReply.{whole_reply}
use Rattle.paper.specs.Ledger.{heard, tell, read_reply}
use Rattle.paper.specs.Watch.{reply_part, part_of}
use Rattle.watch.specs.declared.Tally.{Tally}
use Rattle.watch.specs.declared.Book.{Book}
use Rattle.std.specs.Prelude.{Result, Ok, Err}
use Rattle.watch.specs.declared.demand.Part.{Part}
use Rattle.watch.specs.declared.demand.Part.TheVariants.{NotWhole, OtherReply}
use Rattle.watch.specs.Parts.{number_of, part_in}
use Rattle.watch.proofs.Numbers.{positive}
use Rattle.watch.specs.Book.{view, clamped, book_in, HoldsBook, tallied, gone_on}
use Rattle.watch.specs.Judging.{Tidy, page_of, Judged}
use Rattle.watch.specs.Hears.{Hears}

no_hears : {b : Book} {r a : List ℕ} (q : Part) → part_of b.reading (book_in b) r a ≡ number_of q → Hears b r a (Err q)
no_hears q e = record { part = sym e; kept = λ z. absurd (positive q (sym e ∙ z)); broken = λ z. refl }

-- the same book in normal form
module _ (b t : Book) (g : HoldsBook t b.reading (book_in b) b.tally) where
  pub same_page : page_of t ≡ book_in b
  same_page =
      let p : view t.held ≡ view (clamped b.held) = is_view g.held in
      λ i. record { held = p i; current = g.current i; begun = g.begun i; ok = true }

  pub tidied : Tidy t
  tidied = record { good = is_good g.held; few = g.few }

module _ (b : Book) (r a : List ℕ) where
  pub hears_1 : whole_reply b.reading a ≡ false → Hears b r a (Err NotWhole)
  unfolding part_of first
  hears_1 w = no_hears NotWhole (rw w)

  module _ (w : whole_reply b.reading a ≡ true) where
    pub hears_2 : heard r (read_reply b.reading a) ≡ false → Hears b r a (Err OtherReply)
    unfolding part_of first
    hears_2 h = no_hears OtherReply (rw (w, h))

    module _ (h : heard r (read_reply b.reading a) ≡ true) (t : Book) (g : HoldsBook t b.reading (book_in b) b.tally) where
      judged_part : {j : Result Book Part} → Judged t r (read_reply t.reading a) j → reply_part (book_in b) r (read_reply b.reading a) ≡ part_in j
      judged_part f = sym (ap (λ (st : Reading). reply_part (book_in b) r (read_reply st a)) g.reading) ∙ rw (same_page b t g) at (sym f.part)

      pub hears_part : (q : Part) → Judged t r (read_reply t.reading a) (Err q) → Hears b r a (Err q)
      unfolding part_of first
      hears_part q f = no_hears q (rw (w, h, judged_part f, ne_eqb (number_of q) 0 (positive q)))

      pub hears_0 : (j k : Book) → Judged t r (read_reply t.reading a) (Ok j) → k ≡ gone_on j a → Hears b r a (Ok k)
      unfolding part_of first
      hears_0 j k f e =
          let p : reply_part (book_in b) r (read_reply b.reading a) ≡ 0 = judged_part f in
          let m = subst (λ (st : Reading). HoldsBook j st (tell (book_in b) r (read_reply st a)) t.tally) g.reading (rw (same_page b t g) at f.book) in
          let y : j.tally ≡ b.tally = m.tally ∙ g.tally in
          let q : part_of b.reading (book_in b) r a ≡ 0 = rw (w, h, p) in
          record {
            part = sym q;
            kept = λ _.
                rw e
                (record {
                  held = m.held;
                  few = m.few;
                  current = m.current;
                  begun = m.begun;
                  tally = ap₂ (λ (u : Tally) (st : Reading). tallied u (read_reply st a)) y m.reading;
                  reading = ap (λ (st : Reading). further st a) m.reading;
                });
            broken = λ n. absurd (n q);
          }
