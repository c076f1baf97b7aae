-- Any two results that the contract of a whole operation permits are equal: in the stored pictures, in the tail, in the
-- sets.
use Prim.Native.Nat.{ℕ}
use mathlib.Core.Path.{◌≡◌, sym, ap, ◌∙◌}
use mathlib.Core.List.{List}
use lib.ListN.{length}
use Rattle.derivation.proofs.Pad.{one_array}
use Rattle.paper.proofs.Fits.{table_length}
use Rattle.paper.specs.Sets.{Wishes}
use Rattle.paper.specs.declared.Picture.{Picture}
use Rattle.store.specs.Places.{place_at, front}
use Rattle.paper.specs.Output as Output
use Rattle.store.specs.StoreWords.{stored}
use Rattle.store.specs.Tails.{HoldsTail}
use Rattle.store.specs.Bumps.{Leaves}
use Rattle.store.specs.Runs.{Derives}
use Rattle.store.specs.declared.Moved.{Moved}
use Rattle.store.specs.declared.Derived.{Derived}

-- a tail: the same in every place of it
pub record SameTail (x y : Moved) : Type 0 where
  pub handed : x.handed ≡ y.handed
  pub shown : x.shown ≡ y.shown
  pub thrown : x.thrown ≡ y.thrown
  pub dropped : x.dropped ≡ y.dropped
  pub released : x.released ≡ y.released
  pub freed : x.freed ≡ y.freed

-- what abandon drops
pub one_dropped : {x y : Moved} {a : Output.Tail} → HoldsTail x a → HoldsTail y a → SameTail x y
one_dropped p q =
    let h = one_array p.handed q.handed in
    let t = one_array p.thrown q.thrown in
    let r = one_array p.released q.released in
    record { handed = h.0; shown = h.1; thrown = t.0; dropped = t.1; released = r.0; freed = r.1 }

-- step 5, finish, drain, discard
pub one_outcome : {m : Output.Moved} {t₀ t t' : List ℕ} {x y : Moved} → Leaves m t₀ t x → Leaves m t₀ t' y → (stored t ≡ stored t') × SameTail x y
one_outcome a b = (a.pics ∙ sym b.pics, one_dropped a.tail b.tail)

-- step 4: as many pictures, the same ones in the same places, and the same sets
pub record SameDerived (r q : Derived) : Type 0 where
  pub len : r.store.len ≡ q.store.len
  pub pics : front r.store.places r.store.len ≡ front q.store.places q.store.len
  pub first : r.first ≡ q.first
  pub second : r.second ≡ q.second
  pub sizes : r.sizes ≡ q.sizes

pub one_derived : {M : ℕ} {ps : List Picture} {w : Wishes} {r q : Derived} → Derives M ps w r → Derives M ps w q → SameDerived r q
one_derived {M} {ps} {w} {r} {q} a b =
    let x = a.sets in
    let y = b.sets in
    let p = a.pics ∙ sym b.pics in
    record {
      len = sym (table_length (place_at r.store.places) r.store.len) ∙ ap length p ∙ table_length (place_at q.store.places) q.store.len;
      pics = p;
      first = (one_array x.first y.first).0;
      second = (one_array x.second y.second).0;
      sizes = λ i. record {
        before = (x.before ∙ sym y.before) i;
        after = (x.after ∙ sym y.after) i;
        long = (x.long ∙ sym y.long) i;
        foll = (x.foll ∙ sym y.foll) i;
        lt_foll = (x.lt_foll ∙ sym y.lt_foll) i;
      };
    }
