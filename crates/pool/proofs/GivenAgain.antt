-- A surface is given again only after it was released, once, and after each handing out on it was returned, and each
-- was of the picture begun on it: at either begin the surface was free, so no line lay on it and nothing was pending,
-- and what lies on it between the two was begun by the first. It rests on `reached`.
use Prim.Native.Nat.{ℕ, ◌+◌}
use native.Mathlib.Omega.{arith}
use mathlib.Core.Path.{◌≡◌, refl, sym, ap, ap₂, ◌∙◌, subst}
use mathlib.Core.List.{List, [], ◌∷◌, ◌++◌, append_assoc}
use mathlib.Core.Bool.{true, not, ◌||◌}
use lib.Dec.{eqb, ltb}
use borrow.Author.Tests.{eqb-true, eq-eqb}
use Rattle.paper.specs.declared.Serial.{Serial}
use Rattle.paper.specs.declared.Shown.{Shown}
use Rattle.paper.specs.declared.Line.{Line}
use Rattle.paper.specs.declared.Reading.{Reading}
use Rattle.paper.specs.Words.{all_b}
use Rattle.paper.specs.Numbers.{surface_nos, same_serial}
use Rattle.paper.specs.Reading.{opening}
use Rattle.paper.specs.Output.{Tail}
use Rattle.paper.specs.Replies.{Begun}
use Rattle.paper.specs.Ledger.{Exchange, lines_of, lies, blank, told, reply_in}
use Rattle.paper.specs.Accounts.{count, surfaces, tail_in, begun_all, released_all}
use Rattle.paper.specs.Statement.{Kept, Begins, on_surface}
use Rattle.paper.proofs.Bools.{left, right, split, or_left, or_right}
use Rattle.paper.proofs.Every.{all_of}
use Rattle.paper.proofs.Flow.{count_append}
use Rattle.session.proofs.Entries.{all_both}
use Rattle.pool.specs.Pool.{Pool, can_make, made, is_free}
use Rattle.pool.specs.Calls.{shown_on}
use Rattle.pool.specs.History.{Call, Heard, BytesIn, after, heard_from, after_all, exchanges_in, carried_all, shown_all, returns_in, surfaces_in}
use Rattle.pool.specs.Statement.{GivenOn, names, AllNamed, GivenAgain, NeverWhileHeld}
use Rattle.pool.proofs.Reached.{Reached, AlwaysReached}
use Rattle.pool.proofs.Parts.{heard_one, calls_in, after_append, heard_append, carried_append, exchanges_append, returns_append, shown_append, Parted, parted}
use Rattle.pool.proofs.Begun.{Began, begun_append, begun_given, lent, began}
use Rattle.pool.proofs.Shown.{kept_front, handed_from, hands_elsewhere}

-- nothing is pending on a free surface
free_pends : (p : Pool) (x : ℕ) → is_free p x ≡ true → p.pending x ≡ 0
free_pends p x f = eqb-true (p.pending x) 0 (right (not (p.held x)) _ (right (ltb x p.surfaces) _ f))

-- a picture of a line that the begin of serial n put on x, or that lies elsewhere
own_named : (x : ℕ) (n : Serial) (y : Shown) (l : Line) → (not (lies x l) || same_serial l.serial n) ≡ true → y.serial.0 ≡ l.serial.0 → y.surface.0 ≡ l.surface.0 → names x n y ≡ true
own_named x n y l h s w =
    split (eqb x y.surface.0)
    (λ p.
    let q : eqb x l.surface.0 ≡ true = rw w at p in
    let k : eqb l.serial.0 n.0 ≡ true = rw q at h in
    or_right (not (eqb x y.surface.0)) _ (eq-eqb n.0 y.serial.0 (sym (eqb-true l.serial.0 n.0 k) ∙ sym s)))
    (λ p. or_left (not (eqb x y.surface.0)) _ (rw p))

-- records of calls are bytes as far as the call d
to_last : (bs ms ls : List Call) (c d : Call) → all_b BytesIn (bs ++ (c ∷ (ms ++ (d ∷ ls)))) ≡ true → all_b BytesIn (bs ++ (c ∷ (ms ++ (d ∷ [])))) ≡ true
to_last bs ms ls c d h =
    let whole = append_assoc bs (c ∷ (ms ++ (d ∷ []))) ls ∙ ap (λ (ds : List Call). bs ++ (c ∷ ds)) (append_assoc ms (d ∷ []) ls) in
    left (all_b BytesIn (bs ++ (c ∷ (ms ++ (d ∷ []))))) _ (sym (all_both BytesIn (bs ++ (c ∷ (ms ++ (d ∷ [])))) ls) ∙ ap (all_b BytesIn) whole ∙ h)

module _ (reached : AlwaysReached) (n : ℕ) (can : can_make n ≡ true) where
  -- ---- between a call c, behind the calls bs, and a call d, behind the calls ms

  module _ (bs ms : List Call) (c d : Call) (bytes : all_b BytesIn (bs ++ (c ∷ (ms ++ (d ∷ [])))) ≡ true) where
    abbrev p1 : Pool
    p1 = after_all (made n) bs

    abbrev p2 : Pool
    p2 = after p1 c

    abbrev p3 : Pool
    p3 = after_all p2 ms

    abbrev hb : List Heard
    hb = heard_from (made n) bs

    abbrev h : Heard
    h = heard_one p1 c

    abbrev hm : List Heard
    hm = heard_from p2 ms

    abbrev k : Heard
    k = heard_one p3 d

    -- what is carried to h, and to what is behind it
    abbrev st1 : Reading
    st1 = carried_all opening hb

    abbrev st2 : Reading
    st2 = carried_all opening (hb ++ (h ∷ []))

    abbrev front : List Exchange
    front = exchanges_in opening hb

    abbrev mid : List Exchange
    mid = exchanges_in st2 hm

    -- ---- what is reached before h and before k, and what is kept to k

    front_bytes : all_b BytesIn bs ≡ true
    front_bytes = left (all_b BytesIn bs) _ (sym (all_both BytesIn bs (c ∷ (ms ++ (d ∷ [])))) ∙ bytes)

    to_k_bytes : all_b BytesIn (bs ++ (c ∷ ms)) ≡ true
    to_k_bytes = left (all_b BytesIn (bs ++ (c ∷ ms))) _ (sym (all_both BytesIn (bs ++ (c ∷ ms)) (d ∷ [])) ∙ ap (all_b BytesIn) (append_assoc bs (c ∷ ms) (d ∷ [])) ∙ bytes)

    before_h : Reached n p1 hb
    before_h = reached n can bs front_bytes

    before_k : Reached n p3 (hb ++ (h ∷ hm))
    unfolding heard_from after_all
    before_k =
        subst (λ (q : Pool). Reached n q (hb ++ (h ∷ hm))) (after_append (made n) bs (c ∷ ms))
        (subst (λ (hs : List Heard). Reached n (after_all (made n) (bs ++ (c ∷ ms))) hs) (heard_append (made n) bs (c ∷ ms)) (reached n can (bs ++ (c ∷ ms)) to_k_bytes))

    all_heard : heard_from (made n) (bs ++ (c ∷ (ms ++ (d ∷ [])))) ≡ hb ++ (h ∷ (hm ++ (k ∷ [])))
    unfolding heard_from after_all
    all_heard = heard_append (made n) bs (c ∷ (ms ++ (d ∷ []))) ∙ ap (λ (hs : List Heard). hb ++ (h ∷ hs)) (heard_append p2 ms (d ∷ []))

    to_k : Kept (exchanges_in opening (hb ++ (h ∷ (hm ++ (k ∷ [])))))
    to_k = subst (λ (hs : List Heard). Kept (exchanges_in opening hs)) all_heard (reached n can (bs ++ (c ∷ (ms ++ (d ∷ [])))) bytes).kept

    -- h has one exchange, e
    module _ (e : Exchange) (only : exchanges_in st1 (h ∷ []) ≡ (e ∷ [])) where
      through : (hs : List Heard) → exchanges_in opening (hb ++ (h ∷ hs)) ≡ front ++ (e ∷ exchanges_in st2 hs)
      through hs =
          exchanges_append opening hb (h ∷ hs)
          ∙ ap (λ (es : List Exchange). front ++ es) (exchanges_append st1 (h ∷ []) hs ∙ ap₂ (λ (es : List Exchange) (st : Reading). es ++ exchanges_in st hs) only (sym (carried_append opening hb (h ∷ []))))

      -- what is kept before k
      kept_mid : Kept (front ++ (e ∷ mid))
      kept_mid = subst Kept (through hm) before_k.kept

    module _ (x : ℕ) (gh : GivenOn x h) (gk : GivenOn x k) (other : count x (surfaces_in hm) ≡ 0) where
      at_h : Began st1 h x
      at_h = began p1 c x gh st1

      at_k : Began (carried_all st2 hm) k x
      at_k = began p3 d x gk (carried_all st2 hm)

      abbrev e : Exchange
      e = at_h.exchange

      -- no begin between them was accepted on x
      none_begun : count x (surfaces (begun_all mid)) ≡ 0
      none_begun = ap (count x) (begun_given st2 p2 ms) ∙ other

      kept_all : Kept (front ++ (e ∷ (mid ++ (at_k.exchange ∷ []))))
      kept_all =
          subst Kept
          (through e at_h.only (hm ++ (k ∷ [])) ∙ ap (λ (es : List Exchange). front ++ (e ∷ es)) (exchanges_append st2 hm (k ∷ []) ∙ ap (λ (es : List Exchange). mid ++ es) at_k.only))
          to_k

      released_once : count x (released_all mid) ≡ 1
      released_once =
          let on = at_h.on in
          subst (λ (y : ℕ). count y (released_all mid) ≡ 1) on
          (kept_all.between front mid [] e at_k.exchange at_h.begun at_k.begun at_h.tail at_k.tail refl at_h.begins at_k.begins (at_k.on ∙ sym on) (ap (λ (y : ℕ). count y (surfaces (begun_all mid))) on ∙ none_begun))

      -- h itself hands nothing out on x
      hands_none : count x (surface_nos (shown_on (tail_in (reply_in e)).handed)) ≡ 0
      hands_none =
          let kept = kept_mid e at_h.only in
          hands_elsewhere x front mid e kept.in_order
          (ap (λ (y : ℕ). count y (surfaces (lines_of (told blank front)))) (sym at_h.on) ∙ kept.free front mid e at_h.begun at_h.tail refl at_h.begins)

      returns_mid : count x (returns_in (hb ++ (h ∷ hm))) ≡ count x (returns_in hb) + count x (returns_in hm)
      returns_mid =
          let one = returns_append (h ∷ []) hm ∙ ap (λ (ns : List ℕ). ns ++ returns_in hm) (lent p1 c x gh).returns in
          ap (count x) (returns_append hb (h ∷ hm) ∙ ap (λ (ns : List ℕ). returns_in hb ++ ns) one) ∙ count_append x (returns_in hb) (returns_in hm)

      shown_mid : count x (shown_all (exchanges_in opening (hb ++ (h ∷ hm)))) ≡ count x (shown_all front) + count x (shown_all mid)
      unfolding shown_all
      shown_mid =
          let own = surface_nos (shown_on (tail_in (reply_in e)).handed) in
          ap (λ (es : List Exchange). count x (shown_all es)) (through e at_h.only hm) ∙ ap (count x) (shown_append front (e ∷ mid))
          ∙ omega (arith, count_append x (shown_all front) (own ++ shown_all mid), count_append x own (shown_all mid), hands_none)

      all_returned : count x (returns_in hm) ≡ count x (shown_all mid)
      all_returned =
          omega
          (arith, before_h.pends.sum x, before_k.pends.sum x, free_pends p1 x (lent p1 c x gh).free, free_pends p3 x (lent p3 d x gk).free, returns_mid, shown_mid)

      -- each handing out between them on x is of the picture that h began
      all_own : (f : Exchange) (b : Begun) (t : Tail) → exchanges_in st1 (h ∷ []) ≡ (f ∷ []) → Begins f b t → AllNamed x b.serial mid
      all_own f b t only begins ys zs g split_at =
          let same : e ≡ f = cc at_h.only in
          let on : on_surface f ≡ x = ap on_surface (sym same) ∙ at_h.on in
          let joined : front ++ (f ∷ mid) ≡ (front ++ (f ∷ ys)) ++ (g ∷ zs) = ap (λ (es : List Exchange). front ++ (f ∷ es)) split_at ∙ sym (append_assoc front (f ∷ ys) (g ∷ zs)) in
          let kept : Kept ((front ++ (f ∷ ys)) ++ (g ∷ zs)) = subst Kept joined (kept_mid f only) in
          let few = ap (count x) (sym (begun_append ys (g ∷ zs)) ∙ ap (λ (es : List Exchange). surfaces (begun_all es)) (sym split_at)) in
          let none : count x (surfaces (begun_all ys)) ≡ 0 = omega (arith, few, none_begun, count_append x (surfaces (begun_all ys)) (surfaces (begun_all (g ∷ zs)))) in
          let held = (kept_front (front ++ (f ∷ ys)) (g ∷ zs) kept).held_from front ys f b t refl begins (ap (λ (y : ℕ). count y (surfaces (begun_all ys))) on ∙ none) in
          let own : all_b (λ (l : Line). not (lies x l) || same_serial l.serial b.serial) (lines_of (told blank (front ++ (f ∷ ys)))) ≡ true = rw on at held in
          handed_from (λ (l : Line). (not (lies x l) || same_serial l.serial b.serial) ≡ true) (λ m l v. v) (names x b.serial) (own_named x b.serial) (front ++ (f ∷ ys)) zs g kept.in_order
          (all_of (λ (l : Line). not (lies x l) || same_serial l.serial b.serial) (lines_of (told blank (front ++ (f ∷ ys)))) own)

      given_again : GivenAgain hb hm h x
      given_again =
          record {
            exchange = e;
            begun = at_h.begun;
            tail = at_h.tail;
            only = at_h.only;
            begins = at_h.begins;
            on = at_h.on;
            released = released_once;
            its_own = all_own e at_h.begun at_h.tail at_h.only at_h.begins;
            returned = all_returned;
          }

  -- ---- so wherever what is heard is cut

  pub never_while_held : (cs : List Call) → all_b BytesIn cs ≡ true → NeverWhileHeld (heard_from (made n) cs)
  unfolding heard_from
  never_while_held cs bytes bs ms ls h k x e gh gk other =
      let a : Parted (made n) cs bs (h ∷ (ms ++ (k ∷ ls))) = parted (made n) cs bs (h ∷ (ms ++ (k ∷ ls))) e in
      let q1 = after_all (made n) (calls_in bs) in
      let q2 = after q1 h.call in
      let here = a.rest in
      let is-h : h ≡ heard_one q1 h.call = cc in
      let more : heard_from q2 (calls_in (ms ++ (k ∷ ls))) ≡ ms ++ (k ∷ ls) = cc in
      let b : Parted q2 (calls_in (ms ++ (k ∷ ls))) ms (k ∷ ls) = parted q2 (calls_in (ms ++ (k ∷ ls))) ms (k ∷ ls) more in
      let there = b.rest in
      let is-k : k ≡ heard_one (after_all q2 (calls_in ms)) k.call = cc in
      let calls = a.calls ∙ ap (λ (ds : List Call). calls_in bs ++ (h.call ∷ ds)) b.calls in
      let seen = to_last (calls_in bs) (calls_in ms) (calls_in ls) h.call k.call (ap (all_b BytesIn) (sym calls) ∙ bytes) in
      let none = ap (λ (hs : List Heard). count x (surfaces_in hs)) (sym b.front) ∙ other in
      let again = given_again (calls_in bs) (calls_in ms) h.call k.call seen x (subst (GivenOn x) is-h gh) (subst (GivenOn x) is-k gk) none in
      subst (λ (hs : List Heard). GivenAgain hs ms h x) (sym a.front)
      (subst (λ (hs : List Heard). GivenAgain (heard_from (made n) (calls_in bs)) hs h x) (sym b.front)
      (subst (λ (g : Heard). GivenAgain (heard_from (made n) (calls_in bs)) (heard_from q2 (calls_in ms)) g x) (sym is-h) again))
