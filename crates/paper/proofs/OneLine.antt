-- Document 02, Item 12, proved: what a reader notes of a session's exchanges is the session's M and previous Tid0
-- picture, so the POC in the reply to an accepted begin is the only number that Item 12 says.
use Prim.Native.Nat.{ℕ, ◌%◌, ◌^◌, ◌<◌, min}
use mathlib.Core.Path.{◌≡◌, refl, sym, ap, ◌∙◌, subst}
use mathlib.Core.List.{List, [], ◌∷◌, ◌++◌}
use Rattle.std.proofs.Common.{Option, None, Some}
use mathlib.Core.Bool.{Bool, true, false, ◌&&◌}
use native.Mathlib.Omega.{arith}
use lib.Dec.{eqb}
use lib.IntN.{ℤ, pos, ◌+ℤ◌, ◌-ℤ◌}
use mir.Val.{to_z, of_z, SFits}
use mir.Syntax.{w32}
use mir.Facts.{to_z-of_z, Fits-of_z}
use borrow.Author.Tests.{ne_eqb, ltb-true}
use Rattle.paper.specs.declared.Limits.{Limits}
use Rattle.paper.specs.declared.Reading.{Reading}
use Rattle.paper.specs.Numbers.{u8, u16, bytes32, bit}
use Rattle.paper.specs.Kinds.{begin_kind, nal_place, number_place, flags_place, reply_to}
use Rattle.paper.specs.Records.{Fields, kind_of, limits_of, fields_of}
use Rattle.paper.specs.State.{Session, fresh, on_now, modulus}
use Rattle.paper.specs.Ranges.{configure_ranges}
use Rattle.paper.specs.Nal.{irap}
use Rattle.paper.specs.Poc.{in32, msb_of}
use Rattle.paper.specs.Nearest.{TheOnly, Multiple}
use Rattle.paper.specs.Begin.{starts_over, msb, poc, within, begun_current, room_made}
use Rattle.paper.specs.Output.{Tail}
use Rattle.paper.specs.Calls.{prev_after}
use Rattle.paper.specs.Replies.{Begun, Reply, begun_bytes, bytes_of}
use Rattle.paper.specs.Reading.{opening, further}
use Rattle.paper.specs.Step.{Decided, refused, begun_of, decide_of, step_of, session_after, Call, after_calls, answered_of}
use Rattle.paper.specs.Ledger.{Exchange}
use Rattle.paper.specs.Statement.{exchanges}
use Rattle.paper.specs.OneLine.{accepts, lsb_in, poc_in, msb_in, starts_over_in, valid_in, Notes, empty, modulus_in, previous_after, noted, notes, poc_after, prev_in, LastConfigure, InWordsAt, Item12}
use Rattle.paper.proofs.Bools.{left, right, split, not_both}
use Rattle.paper.proofs.Whole.{up_add, up_sub, up_pos, dn_pos, ext}
use Rattle.paper.proofs.ReadBack.{two_back, four_back, flags_back}
use Rattle.paper.proofs.Ways.{Accepted, yes_of, begun, by_ways}
use Rattle.paper.proofs.Nearest.{sum_near, pow_even}
use Rattle.paper.proofs.InStep.{InStep, PrevOk, lsb_below, in_step_lem, in_step_fresh, poc_in_one_line}
use Rattle.paper.proofs.InWords.{notes_append, width_told, previous_told}
use Rattle.paper.proofs.Covered.{since_any}
use Rattle.paper.proofs.Normal.{in_range}
use Rattle.paper.proofs.Rooms.{any_room}
use Rattle.paper.specs.declared.Tid0.{Tid0}
use Rattle.paper.specs.Poc.{tid0}
use Rattle.paper.specs.declared.Current.{Current}

-- ---- whole numbers

plus_minus : (x : ℤ) (n : ℕ) → (x +ℤ pos n) -ℤ pos n ≡ x
plus_minus x n = ext _ x (omega (arith, up_sub (x +ℤ pos n) (pos n), up_add x (pos n), up_pos n, dn_pos n))

minus_plus : (x : ℤ) (n : ℕ) → (x -ℤ pos n) +ℤ pos n ≡ x
minus_plus x n = ext _ x (omega (arith, up_add (x -ℤ pos n) (pos n), up_sub x (pos n), up_pos n, dn_pos n))

-- ---- what the bytes of a reply say

-- the exchange of a record and what is decided of it
abbrev pub heard_of : Reading → List ℕ → Decided → Exchange
heard_of st r d = record { said = r; answered = bytes_of d.reply; reading = st }

-- the begin of the current picture
abbrev NowAs : Option Exchange → Option Current → Type 0
NowAs None None = Unit {0}
NowAs None (Some c) = ⊥
NowAs (Some x) None = ⊥
NowAs (Some x) (Some c) = (lsb_in x ≡ c.lsb) × (msb_in x ≡ c.msb) × (valid_in x ≡ c.valid)

-- of an accepted begin
record Begins (s : Session) (r : List ℕ) (x : Exchange) : Type 0 where
  poc_is : poc_in x ≡ poc s (fields_of r)
  over_is : starts_over_in x ≡ starts_over s (fields_of r)
  lsb_is : lsb_in x ≡ (fields_of r).lsb
  now_is : NowAs (Some x) (Some (begun_current s (fields_of r)))

poc_fits : (s : Session) (f : Fields) → within s f ≡ true → in32 (poc s f) ≡ true
unfolding within
poc_fits s f w = right (in32 (msb s f)) _ (left (in32 (msb s f) && in32 (poc s f)) _ w)

poc_sum : (s : Session) (f : Fields) → poc s f ≡ msb s f +ℤ pos f.lsb
unfolding poc msb
poc_sum s f = refl

poc_back : (b : Begun) (t : Tail) (r : List ℕ) (st : Reading) → in32 b.poc ≡ true → poc_in (record { said = r; answered = bytes_of (Reply.Started b t); reading = st }) ≡ b.poc
unfolding bytes_of begun_bytes bytes32
poc_back b t r st h =
    let g : SFits w32 b.poc = record { sfits = ltb-true _ _ h } in
    ap (to_z w32) (four_back (of_z w32 b.poc) (Fits-of_z g).fits) ∙ to_z-of_z g

record Bits (b : Begun) (a : List ℕ) : Type 0 where
  over : bit 0 (u8 a flags_place) ≡ b.no_rasl_pics
  valid : bit 2 (u8 a flags_place) ≡ b.valid

bits_back : (b : Begun) (t : Tail) → Bits b (bytes_of (Reply.Started b t))
unfolding bytes_of begun_bytes bytes32
bits_back b t = let k = flags_back b.no_rasl_pics b.output b.valid b.no_prior_pics in record { over = k.is0; valid = k.is2 }

begins : (s : Session) (r : List ℕ) (st : Reading) → Accepted s (fields_of r) → Begins s r (heard_of st r (begun s (fields_of r)))
unfolding fields_of begun_current
begins s r st z =
    let f = fields_of r in
    let p = poc_back (begun_of s f) (room_made s f).tail r st (poc_fits s f z.within) in
    let k = bits_back (begun_of s f) (room_made s f).tail in
    record {
      poc_is = p;
      over_is = ap (λ (b : Bool). irap (u8 r nal_place) && b) k.over;
      lsb_is = refl;
      now_is = (refl, ap (λ (v : ℤ). v -ℤ pos f.lsb) (p ∙ poc_sum s f) ∙ plus_minus (msb s f) f.lsb, k.valid);
    }

-- the number of a refusal is not 0
number_back : (kind n : ℕ) → 0 < n → n < 13 → eqb (u16 (bytes_of (Reply.Refused kind n)) number_place) 0 ≡ false
unfolding bytes_of
number_back kind n g h = rw (two_back n (omega arith)) (ne_eqb n 0 (λ e. omega arith))

-- ---- the notes agree with the session

pub record Agree (n : Notes) (s : Session) : Type 0 where
  width : modulus_in n ≡ modulus s.limits
  prev : prev_in n.previous ≡ s.prev
  now : NowAs n.current s.current

-- a refused exchange leaves the notes
left_as : (n : Notes) (x : Exchange) → eqb (u16 x.answered number_place) 0 ≡ false → noted n x ≡ n
unfolding noted
left_as n x e = rw e

-- the width of a configure
width_is : (l : Limits) → configure_ranges l ≡ true → min (min l.k 16) 16 ≡ l.k
width_is l e = omega (arith, in_range l e)

-- finish, and drain with a picture current or none: the previous Tid0 picture after it
previous_is : (p : Option Exchange) (q : Option Tid0) → prev_in p ≡ q → (o : Option Exchange) (w : Option Current) → NowAs o w → prev_in (previous_after o p) ≡ on_now w q (prev_after q)
unfolding previous_after
previous_is p q e None None a = e
previous_is p q e None (Some c) a = absurd a
previous_is p q e (Some x) None a = absurd a
previous_is p q e (Some x) (Some c) a =
    rw a.2
    (split c.valid (λ v. rw v (λ i. tid0 (a.0 i) (a.1 i))) (λ v. rw v e))

record Noted (n : Notes) (st : Reading) (r : List ℕ) (d : Decided) : Type 0 where
  agrees : Agree (noted n (heard_of st r d)) d.next

module _ (n : Notes) (s : Session) (r : List ℕ) (st : Reading) (a : Agree n s) where
  noted_no : (kind m : ℕ) → 0 < m → m < 13 → Noted n st r (refused s kind m)
  noted_no kind m g h = record { agrees = subst (λ (v : Notes). Agree v s) (sym (left_as n (heard_of st r (refused s kind m)) (number_back kind m g h))) a }

  noted_step : Noted n st r (decide_of s r)
  unfolding noted bytes_of
  noted_step =
      by_ways s r (Noted n st r)
      (record {
        malformed = record { agrees = a };
        no = λ kind m k g b l h. noted_no (reply_to kind) m l h;
        configure = λ k c b. record { agrees = rw k (record { width = ap (λ (x : ℕ). 2 ^ x) (sym (width_is (limits_of r) c)); prev = refl; now = tt }) };
        begin = λ k z. record { agrees = rw k (record { width = a.width; prev = a.prev; now = (begins s r st z).now_is }) };
        lists = λ k c e z. record { agrees = rw k a };
        finish = λ k c e z. record { agrees = rw k (record { width = a.width; prev = previous_is n.previous s.prev a.prev n.current (Some c) (rw e at a.now); now = tt }) };
        drain = λ k b. record { agrees = rw k (record { width = a.width; prev = previous_is n.previous s.prev a.prev n.current s.current a.now; now = tt }) };
        discard = λ k. record { agrees = rw k (record { width = a.width; prev = a.prev; now = tt }) };
        end = λ k. record { agrees = rw k (record { width = a.width; prev = a.prev; now = a.now }) };
        abandon = λ k c e. record { agrees = rw k (record { width = a.width; prev = a.prev; now = tt }) };
      })

-- ---- at an accepted begin

record TrueAt (n : Notes) (x : Exchange) : Type 0 where
  near : (y : Exchange) → starts_over_in x ≡ false → n.previous ≡ Some y → TheOnly (modulus_in n) (poc_in y) (lsb_in x) (poc_in x)
  sum : poc_in x ≡ poc_after (modulus_in n) n.previous x
  even : modulus_in n % 2 ≡ 0

-- "MSB 0 for IRAP with NoRaslOutputFlag or no previous Tid0 picture"
poc_over : (s : Session) (f : Fields) → starts_over s f ≡ true → poc s f ≡ pos f.lsb
unfolding poc msb_of
poc_over s f e = rw e (ap pos (omega arith))

poc_first : (s : Session) (f : Fields) → s.prev ≡ None → poc s f ≡ pos f.lsb
unfolding poc msb_of
poc_first s f e = split (starts_over s f) (λ o. rw o (ap pos (omega arith))) (λ o. rw (o, e) (ap pos (omega arith)))

module _ (n : Notes) (s : Session) (r : List ℕ) (st : Reading) (a : Agree n s) (i : InStep s) where
  previous_prev : (y : Exchange) → n.previous ≡ Some y → s.prev ≡ tid0 (lsb_in y) (msb_in y)
  previous_prev y e = sym a.prev ∙ ap prev_in e

  module _ (z : Accepted s (fields_of r)) where
    abbrev f : Fields
    f = fields_of r

    abbrev x : Exchange
    x = heard_of st r (begun s f)

    says : Begins s r x
    says = begins s r st z

    near_begin : (y : Exchange) → starts_over_in x ≡ false → n.previous ≡ Some y → TheOnly (modulus_in n) (poc_in y) (lsb_in x) (poc_in x)
    near_begin y o e =
        let t = poc_in_one_line s f (lsb_in y) (msb_in y) i z (sym says.over_is ∙ o) (previous_prev y e) in
        rw (a.width, says.lsb_is, says.poc_is) (subst (λ (p : ℤ). TheOnly (modulus s.limits) p f.lsb (poc s f)) (minus_plus (poc_in y) (lsb_in y)) t)

    even_begin : modulus_in n % 2 ≡ 0
    even_begin = rw a.width (pow_even (min s.limits.k 16) (omega (arith, i.wide (yes_of s.configured z.configured))))

    sum_begin : (p : Option Exchange) → n.previous ≡ p → poc_in x ≡ poc_after (modulus_in n) p x
    unfolding poc_after
    sum_begin None e = says.poc_is ∙ poc_first s f (sym a.prev ∙ ap prev_in e) ∙ ap pos (sym says.lsb_is)
    sum_begin (Some y) e =
        split (starts_over_in x)
        (λ o. rw o (says.poc_is ∙ poc_over s f (sym says.over_is ∙ o) ∙ ap pos (sym says.lsb_is)))
        (λ o. rw o (sym ((near_begin y o e).alone _ (sum_near (modulus_in n) (lsb_in x) (poc_in y) below even_begin))))
      where
        below : lsb_in x < modulus_in n
        below = rw (a.width, says.lsb_is) (lsb_below (modulus s.limits) f z.ranges)

    true_begin : TrueAt n x
    true_begin = record { near = near_begin; sum = sum_begin n.previous refl; even = even_begin }

  record Truly (d : Decided) : Type 0 where
    true_at : accepts begin_kind (heard_of st r d) ≡ true → TrueAt n (heard_of st r d)

  -- of another kind
  other : (d : Decided) (k : ℕ) → kind_of r ≡ k → eqb k begin_kind ≡ false → Truly d
  other d k e h = record { true_at = λ t. not_both (eqb (kind_of r) begin_kind) (right (eqb (u16 (bytes_of d.reply) number_place) 0) _ t) (ap (λ (m : ℕ). eqb m begin_kind) e ∙ h) }

  truly : Truly (decide_of s r)
  unfolding bytes_of
  truly =
      by_ways s r Truly
      (record {
        malformed = record { true_at = λ t. not_both false t refl };
        no = λ kind m k g b l h. record { true_at = λ t. not_both (eqb (u16 (bytes_of (Reply.Refused (reply_to kind) m)) number_place) 0) (left _ _ t) (number_back (reply_to kind) m l h) };
        configure = λ k c b. other _ 1 k refl;
        begin = λ k z. record { true_at = λ _. true_begin z };
        lists = λ k c e z. other _ 3 k refl;
        finish = λ k c e z. other _ 4 k refl;
        drain = λ k b. other _ 5 k refl;
        discard = λ k. other _ 6 k refl;
        end = λ k. other _ 7 k refl;
        abandon = λ k c e. other _ 8 k refl;
      })

  multiple_of : (y : Exchange) → n.previous ≡ Some y → Multiple (modulus_in n) (msb_in y)
  multiple_of y e =
      let o : PrevOk (modulus s.limits) (tid0 (lsb_in y) (msb_in y)) = rw (previous_prev y e) at i.prev in
      rw a.width o.1

-- ---- along some exchanges: at each place, of the notes and of the exchange behind them

abbrev Next : Notes → List Exchange → Type 0
Next n [] = Unit {0}
Next n (x ∷ xs) = accepts begin_kind x ≡ true → TrueAt n x

record Here (n : Notes) (xs : List Exchange) : Type 0 where
  multiple : (y : Exchange) → n.previous ≡ Some y → Multiple (modulus_in n) (msb_in y)
  next : Next n xs

abbrev Along : Notes → List Exchange → Type 0
Along n [] = Here n []
Along n (x ∷ xs) = Here n (x ∷ xs) × Along (noted n x) xs

at_place : (n : Notes) (bs ls : List Exchange) → Along n (bs ++ ls) → Here (notes n bs) ls
unfolding notes
at_place n [] [] a = a
at_place n [] (x ∷ ls) a = a.0
at_place n (b ∷ bs) ls a = at_place (noted n b) bs ls a.1

along_append : (n : Notes) (xs ys : List Exchange) → Along n xs → Along (notes n xs) ys → Along n (xs ++ ys)
unfolding notes
along_append n [] ys a b = b
along_append n (x ∷ xs) ys a b = (record { multiple = a.0.multiple; next = a.0.next }, along_append (noted n x) xs ys a.1 b)

-- ---- from notes that are a session's

pub record Ready (n : Notes) (s : Session) : Type 0 where
  agree : Agree n s
  in_step_lem : InStep s

pub ready : Ready empty fresh
ready = record { agree = record { width = refl; prev = refl; now = tt }; in_step_lem = in_step_fresh }

-- these exchanges lead to the session t, and all that is told along them is true
pub record Told (n : Notes) (xs : List Exchange) (t : Session) : Type 0 where
  along : Along n xs
  pub ready : Ready (notes n xs) t

pub told_none : (n : Notes) (s : Session) → Ready n s → Told n [] s
unfolding notes
told_none n s a = record { along = record { multiple = multiple_of n s [] opening a.agree a.in_step_lem; next = tt }; ready = a }

pub told_more : (n : Notes) (xs ys : List Exchange) (t u : Session) → Told n xs t → Told (notes n xs) ys u → Told n (xs ++ ys) u
told_more n xs ys t u a b =
    record { along = along_append n xs ys a.along b.along; ready = subst (λ (m : Notes). Ready m u) (sym (notes_append n xs ys)) b.ready }

-- one exchange: of the session's own, and one that is refused
module _ (n : Notes) (s : Session) (a : Ready n s) where
  one_on : (x : Exchange) (t : Session) → (accepts begin_kind x ≡ true → TrueAt n x) → Ready (noted n x) t → Told n (x ∷ []) t
  unfolding notes
  one_on x t f b =
      record {
        along = (record { multiple = multiple_of n s [] opening a.agree a.in_step_lem; next = f }, (told_none (noted n x) t b).along);
        ready = b;
      }

  pub told_one : (st : Reading) (r : List ℕ) → Told n (heard_of st r (decide_of s r) ∷ []) (decide_of s r).next
  told_one st r =
      one_on (heard_of st r (decide_of s r)) (decide_of s r).next (truly n s r st a.agree a.in_step_lem).true_at
      (record { agree = (noted_step n s r st a.agree).agrees; in_step_lem = in_step_lem s r a.in_step_lem })

  pub told_refused : (x : Exchange) → eqb (u16 x.answered number_place) 0 ≡ false → Told n (x ∷ []) s
  told_refused x e =
      one_on x s (λ t. not_both (eqb (u16 x.answered number_place) 0) (left _ _ t) e) (subst (λ (m : Notes). Ready m s) (sym (left_as n x e)) a)

told_all : (st : Reading) (n : Notes) (s : Session) (rs : List (List ℕ)) → Ready n s → Told n (exchanges st s rs) (session_after s rs)
unfolding exchanges notes session_after step_of
told_all st n s [] a = told_none n s a
told_all st n s (r ∷ rs) a =
    let x = heard_of st r (decide_of s r) in
    let one = told_one n s a st r in
    let su = further st x.answered in
    let t = (decide_of s r).next in
    told_more n (x ∷ []) (exchanges su t rs) t (session_after t rs) one (told_all su (noted n x) t rs one.ready)

-- ---- Item 12 of what is told

-- IRAP with NoRaslOutputFlag, whatever is before it
over_lsb : (M : ℕ) (p : Option Exchange) (x : Exchange) → starts_over_in x ≡ true → poc_after M p x ≡ pos (lsb_in x)
unfolding poc_after
over_lsb M None x o = refl
over_lsb M (Some y) x o = rw o

module _ (xs : List Exchange) (t : Session) (told : Told empty xs t) where
  here : (bs ls : List Exchange) → xs ≡ bs ++ ls → Here (notes empty bs) ls
  here bs ls e = at_place empty bs ls (subst (Along empty) e told.along)

  module _ (bs ls : List Exchange) (x : Exchange) (e : xs ≡ bs ++ (x ∷ ls)) (b : accepts begin_kind x ≡ true) where
    true_here : TrueAt (notes empty bs) x
    true_here = (here bs (x ∷ ls) e).next b

    in_words_here : (c : Exchange) (since : List Exchange) → LastConfigure bs c since → InWordsAt c x since
    unfolding poc_after
    in_words_here c since l =
        record {
          near = λ y o f. subst (λ (k : ℕ). TheOnly (2 ^ k) (poc_in y) (lsb_in x) (poc_in x)) (width_told bs since c l) (true_here.near y o (previous_told bs since c l (Some y) f));
          over = λ o. true_here.sum ∙ over_lsb (modulus_in (notes empty bs)) (notes empty bs).previous x o;
          first = λ f. true_here.sum ∙ ap (λ (p : Option Exchange). poc_after (modulus_in (notes empty bs)) p x) (previous_told bs since c l None f);
        }

  pub item_told : Item12 xs t
  item_told =
      record {
        in_words = λ bs ls since x c e b l. in_words_here bs ls x e b c since l;
        covered = λ bs ls x e b. since_any bs (true_here bs ls x e b).even;
        one_line = λ bs ls x y e b o p. (true_here bs ls x e b).near y o p;
        computed = λ bs ls x e b. (true_here bs ls x e b).sum;
        multiple = λ bs ls y e p. (here bs ls e).multiple y p;
        same_modulus = told.ready.agree.width;
        same_previous = told.ready.agree.prev;
        same_in_words = λ c since p l f. (ap (λ (k : ℕ). 2 ^ k) (sym (width_told xs since c l)) ∙ told.ready.agree.width, ap prev_in (sym (previous_told xs since c l p f)) ∙ told.ready.agree.prev);
      }

-- DOCUMENT 02, ITEM 12: from a fresh session, after any calls with any buffers, refused ones too
pub item_12 : (cs : List Call) → Item12 (exchanges opening fresh (answered_of cs)) (after_calls fresh cs)
item_12 cs =
    let rs = answered_of cs in
    subst (Item12 (exchanges opening fresh rs)) (sym (any_room fresh cs)) (item_told (exchanges opening fresh rs) (session_after fresh rs) (told_all opening empty fresh rs ready))
