-- The pictures lost their marks as they were read, if a picture starts over, and the counts are those within sixteen
-- places.
use mathlib.Core.Path.{◌≡◌, ap, ◌∙◌, subst}
use mathlib.Core.List.{List, map}
use Prim.Native.Nat.{ℕ, ◌-◌, ◌^◌, min}
use native.Mathlib.Omega.{arith}
use Rattle.paper.specs.Sets.{Wishes, unmarked_if}
use Rattle.paper.specs.declared.Picture.{Picture}
use Rattle.store.specs.Walks.{change_by}
use Rattle.store.specs.declared.pictures.Change.{Change}
use Rattle.store.specs.StoreWords.{stored}
use Rattle.store.specs.Places.{front, stored_in}
use Rattle.store.specs.Runs.{wishes_in, wishes_within, Derives}
use Rattle.store.proofs.Fetched.{unmarked_read}
use Rattle.store.proofs.words.derive_and_mark_rps.Goals as goal

pub returns : goal.returns
returns c =
    let m : min c.load.result.len 16 ≡ c.load.result.len = omega (arith, c.load.ensures.few.1) in
    let e = unmarked_read c.args.over (stored_in c.load.result) (stored c.args.store.now)
    (ap (front c.load.result.places) m ∙ c.load.ensures.holds ∙ ap (λ (x : Change). map (change_by x) (stored c.args.store.now)) c.unmarking.ensures) in
    let n : c.min-n.result ≡ min c.args.neg 16 = c.min-n.ensures in
    let p : c.min-p.result ≡ min c.args.pos (16 - min c.args.neg 16) = c.min-p.ensures ∙ ap (λ (x : ℕ). min c.args.pos (16 - x)) n in
    let q : c.min-q.result ≡ min c.args.lt (16 - min c.args.neg 16 - min c.args.pos (16 - min c.args.neg 16)) = c.min-q.ensures ∙ (λ i. min c.args.lt (16 - n i - p i)) in
    let w : wishes_in c.args.wishes.now c.min-n.result c.min-p.result c.min-q.result ≡ wishes_within c.args.wishes.now c.args.neg c.args.pos c.args.lt =
    λ i. wishes_in c.args.wishes.now (n i) (p i) (q i)
    in
    subst (λ (x : Wishes). Derives (2 ^ (min c.args.k 16)) (unmarked_if c.args.over (stored c.args.store.now)) x c.derive_and_mark_rps.result) w
    (subst (λ (ps : List Picture). Derives (2 ^ (min c.args.k 16)) ps (wishes_in c.args.wishes.now c.min-n.result c.min-p.result c.min-q.result) c.derive_and_mark_rps.result) e c.derive_and_mark_rps.ensures)
