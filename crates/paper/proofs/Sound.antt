-- One record: what the reply tells is what the session does.
use Prim.Native.Nat.{ℕ, ◌+◌, ◌-◌, ◌%◌, ◌≤◌, ◌<◌}
use mathlib.Core.Path.{◌≡◌, refl, sym, ap, ◌∙◌}
use mathlib.Core.Logic.{◌⊎◌, inl, inr, ⊎_elim}
use mathlib.Core.List.{List, [], ◌∷◌, ◌++◌, map, append-nil, map-append, map-map}
use mathlib.Core.Bool.{Bool, true, false, not, ◌&&◌, ◌||◌}
use native.Mathlib.Omega.{arith}
use lib.Dec.{eqb, ltb}
use lib.ListN.{length, get_or}
use borrow.Author.Tests.{eqb-false, ne_eqb}
use Rattle.paper.specs.declared.Serial.{Serial}
use Rattle.paper.specs.declared.Surface.{Surface}
use Rattle.paper.specs.declared.Picture.{Picture}
use Rattle.paper.specs.declared.Current.{Current}
use Rattle.paper.specs.Words.{keep, all_b, any_b}
use Rattle.paper.specs.Numbers.{missing, same_serial}
use Rattle.paper.specs.Kinds.{configure_kind, finish_kind, drain_kind, discard_kind, end_kind, abandon_kind, reply_to, malformed_reply}
use Rattle.paper.specs.Records.{Fields, ListAsk, Slice, limits_of, fields_of, slice_of}
use Rattle.paper.specs.State.{Session, no_refs, all_refs, is_current, on_now}
use Rattle.paper.specs.Poc.{in32}
use Rattle.paper.specs.Sets.{Sets, in_order, refs_of, wishes_in32}
use Rattle.paper.specs.Output.{quiet, joined, Moved, still, and_then, cleared, emptied, hand_while, due, in_use, removed, before_decoding}
use Rattle.paper.specs.Begin.{sets, marked_store, begun_current, no_prior_pics, starts_over, within, poc, room_made, begun_session}
use Rattle.paper.specs.RefLists.{own_of, candidates0, candidates1, placed, last_is_own, list0, list1}
use Rattle.paper.specs.Calls.{raised, stored, finished, drained, drained_now, dropped, discarded, finished_session, drained_session, configured_session, discarded_session, abandoned_session, ended_session}
use Rattle.paper.specs.Replies.{Reply}
use Rattle.paper.specs.Step.{Decided, refused, accepted, begun_of, held_by, decide_of}
use Rattle.paper.specs.declared.Line.{Line}
use Rattle.paper.specs.Ledger.{Ledger, upon_all, events, none, names, clearing, lies, landed, tell}
use Rattle.paper.specs.Statement.{line, current_line, ledger_of}
use Rattle.paper.specs.Begin as W
use Rattle.paper.proofs.Bools as B
use Rattle.paper.proofs.Bools.{both, split, not_both, or_left, or_right, by_case}
use Rattle.paper.proofs.Events.{Runs, runs_join}
use Rattle.paper.proofs.Every.{All, Mem, all_append, all_first, all_get_d, all_last, all_map, all_more, all_of, all_set, all_table, all_true, all_zip, none_any}
use Rattle.paper.proofs.Apart.{Other, Distinct, distinct_map, distinct_snoc, flip}
use Rattle.paper.proofs.Moves.{Tells, tells_then, tells_while, tells_cleared, tells_removed, tells_emptied, tells_still, clears, drop_one, drop_first_lem, others, same_eqb}
use Rattle.paper.proofs.ReadBack.{Fit}
use Rattle.paper.proofs.Bounds.{FitLine, fit_tail, fit_names, word_small}
use Rattle.paper.proofs.Quiet.{while_throws, emptied_throws, emptied_leaves}
use Rattle.paper.proofs.Members.{begin_names}
use Rattle.paper.proofs.Ways.{Accepted, begun, listed, by_ways}
use Rattle.paper.proofs.Lasts.{all_while, all_before, by_begin}
use Rattle.std.proofs.Common.{Option, None, Some}

-- the current picture finished, if there is one
abbrev finished_now : Session → Moved
finished_now s = on_now s.current (still s.store) (finished s.limits s.store)

-- the stored pictures, and the current one as it would be stored
abbrev pub pictures : Session → List Picture
pictures s = s.store ++ on_now s.current [] (λ (c : Current). stored c ∷ [])

-- a serial below n, and a surface and a POC that their places on the wire hold
abbrev pub Fine : ℕ → Picture → Type 0
Fine n p = (p.serial.0 < n) × (p.surface.0 < 4294967296) × (in32 p.poc ≡ true)

pub record Sound (s : Session) : Type 0 where
  pub distinct : Distinct (pictures s)
  pub below : All (Fine s.next) (pictures s)
  pub named : names (all_refs s.refs) (map line s.store) ≡ true
  pub small : s.next ≤ 4294967295

pub record Good (s : Session) (r : List ℕ) (d : Decided) : Type 0 where
  pub tells : tell (ledger_of s) r d.reply ≡ ledger_of d.next
  pub sound : Sound d.next
  pub fit : Fit d.reply

-- two ledgers that agree
ledgers : {h h' c c' : List Line} {n : ℕ} {b : Bool} → h ≡ h' → c ≡ c' → b ≡ true → ◌≡◌ {A = Ledger} (record { held = h; current = c; begun = n; ok = b }) (record { held = h'; current = c'; begun = n; ok = true })
ledgers {n = n} p q e = λ i. record { held = p i; current = q i; begun = n; ok = e i }

distinct_first : (ps qs : List Picture) → Distinct (ps ++ qs) → Distinct ps
distinct_first [] qs d = tt
distinct_first (p ∷ ps) qs d = (all_first (Other p) ps qs d.0, distinct_first ps qs d.1)

distinct_last : (ps : List Picture) (p : Picture) → Distinct (ps ++ (p ∷ [])) → All (λ (q : Picture). Other q p) ps
distinct_last [] p d = tt
distinct_last (q ∷ ps) p d = ((all_last (Other q) ps (p ∷ []) d.0).0, distinct_last ps p d.1)

last_out : (p : Picture) (ps : List Picture) → All (λ (q : Picture). Other q p) ps → others p (ps ++ (p ∷ [])) ≡ ps
unfolding keep
last_out p [] a = rw (same_eqb p.serial.0)
last_out p (q ∷ ps) a = rw (flip q.serial.0 p.serial.0 a.0.serial, last_out p ps a.1)

-- the three tests of a tail that lands
nothing : {A : Type 0} {xs : List A} → xs ≡ [] → none xs ≡ true
unfolding none
nothing e = rw e

ok_kept : (m x y : Bool) → m ≡ true → x ≡ true → (m && ((x || false) && ((y || true) && true))) ≡ true
ok_kept m x y p q = rw (p, q, mathlib.Core.Bool.or-true y)

ok_gone : (m x y z : Bool) → m ≡ true → y ≡ true → (m && ((x || true) && ((y || false) && (z || true)))) ≡ true
ok_gone m x y z p q = rw (p, q, mathlib.Core.Bool.or-true x, mathlib.Core.Bool.or-true z)

surface_word : (r : List ℕ) → all_b (λ (b : ℕ). ltb b 256) r ≡ true → (fields_of r).surface.0 < 4294967296
unfolding fields_of
surface_word r h = word_small r h 9

second_of : (a b c : Bool) → (a && b && c) ≡ true → b ≡ true
second_of true true c h = refl
second_of true false c h = h
second_of false b c h = not_both false h refl

poc_near : (s : Session) (f : Fields) → Accepted s f → in32 (poc s f) ≡ true
unfolding within
poc_near s f z =
    second_of (in32 (W.msb s f)) (in32 (poc s f)) (wishes_in32 (W.wishes s f)) z.within

wider : (a : Bool) (f : Line → Bool) (H K : List Line) → (a || any_b f H) ≡ true → (a || any_b f (H ++ K)) ≡ true
unfolding any_b
wider true f H K e = refl
wider false f [] K e = not_both false e refl
wider false f (x ∷ H) K e = split (f x) (λ p. or_left (f x) _ p) (λ p. or_right (f x) _ (wider false f H K (rw p at e)))

any_last : (f : Line → Bool) (H : List Line) (x : Line) → f x ≡ true → any_b f (H ++ (x ∷ [])) ≡ true
unfolding any_b
any_last f [] x e = or_left (f x) _ e
any_last f (y ∷ H) x e = or_right (f y) _ (any_last f H x e)

-- what a set or list may name, one by one
abbrev Names : List Line → Serial → Type 0
Names H n = (same_serial n missing || any_b (λ (x : Line). eqb n.0 x.serial.0) H) ≡ true

names_all : (ns : List Serial) (H : List Line) → names ns H ≡ true → All (Names H) ns
unfolding names
names_all ns H e = all_of _ ns e

all_names : (ns : List Serial) (H : List Line) → All (Names H) ns → names ns H ≡ true
unfolding names
all_names ns H a = all_true _ ns a

-- of the five sets, those that the lists draw on
refs_named : (x : Sets) (H : List Line) → names (in_order x) H ≡ true → names (all_refs (refs_of x)) H ≡ true
refs_named x H e =
    let a1 = all_first (Names H) (x.before ++ x.after ++ x.foll ++ x.lt_curr) x.lt_foll (names_all (in_order x) H e) in
    let a2 = all_first (Names H) (x.before ++ x.after ++ x.foll) x.lt_curr a1 in
    let lt = all_last (Names H) (x.before ++ x.after ++ x.foll) x.lt_curr a1 in
    all_names (all_refs (refs_of x)) H (all_append (Names H) (x.before ++ x.after) x.lt_curr (all_first (Names H) (x.before ++ x.after) x.foll a2) lt)

-- a session with no current picture
sound_idle : (s : Session) (ps : List Picture) → s.store ≡ ps → s.current ≡ None → s.refs ≡ no_refs → Distinct ps → All (Fine s.next) ps → s.next ≤ 4294967295 → Sound s
unfolding names all_b
sound_idle s ps e c k d b n =
    record {
      distinct = rw (c, e, append-nil ps) d;
      below = rw (c, e, append-nil ps) b;
      named = rw k;
      small = n;
    }

free_line : (x : Surface) (ps : List Picture) → any_b (held_by x) ps ≡ false → not (any_b (lies x.0) (map line ps)) ≡ true
free_line x ps e = rw (B.any_map (lies x.0) line ps, e)

none_current : (x : Option Current) → is_current x ≡ false → none (on_now x [] (λ (c : Current). current_line c ∷ [])) ≡ true
unfolding none
none_current None e = refl
none_current (Some c) e = sym e

-- of step 5 only the clear throws away, and it leaves nothing
begin_clears : (s : Session) (f : Fields) → clearing (begun_of s f) (room_made s f).tail (map line (room_made s f).pics) ≡ true
unfolding room_made before_decoding cleared removed none
begin_clears s f =
    by_case (λ (m : Moved). clearing (begun_of s f) m.tail (map line m.pics) ≡ true) (starts_over s f && not s.ended) _ _
    (λ _. by_case (λ (m : Moved). clearing (begun_of s f) m.tail (map line m.pics) ≡ true) (no_prior_pics s f) (cleared (marked_store s f)) (emptied (marked_store s f))
    (λ p. clear_clears p) (λ _. or_left _ _ (nothing (emptied_throws (marked_store s f)))))
    (λ _. or_left _ _ (nothing remove_throws))
  where
    clear_clears : no_prior_pics s f ≡ true → clearing (begun_of s f) (cleared (marked_store s f)).tail (map line (cleared (marked_store s f)).pics) ≡ true
    clear_clears p = or_right (none (cleared (marked_store s f)).tail.thrown) _ (rw p)

    remove_throws : (and_then (removed (marked_store s f)) (hand_while (due true s.limits))).tail.thrown ≡ []
    remove_throws = while_throws (due true s.limits) (keep in_use (marked_store s f))

-- begin's line in the ledger
tells_begun : (s : Session) (r : List ℕ) → Sound s → Accepted s (fields_of r) → Runs (events (room_made s (fields_of r)).tail) (map line s.store) (map line (room_made s (fields_of r)).pics)
    → Distinct (marked_store s (fields_of r)) → clearing (begun_of s (fields_of r)) (room_made s (fields_of r)).tail (map line (room_made s (fields_of r)).pics) ≡ true
    → tell (ledger_of s) r (Reply.Started (begun_of s (fields_of r)) (room_made s (fields_of r)).tail) ≡ ledger_of (begun_session s (fields_of r))
unfolding tell none begun_current fields_of
tells_begun s r i z run d k =
    let f = fields_of r in
    ledgers run.leads refl
    (both (none_current s.current z.idle)
    (both (same_eqb s.next)
    (both (free_line f.surface s.store z.free)
    (both run.allowed (both (ap (λ (H : List Line). clearing (begun_of s f) (room_made s f).tail H) run.leads ∙ k)
    (ap (λ (H : List Line). names (in_order (sets s f)) H) run.leads ∙ begin_names s f d))))))

-- told apart are the stored pictures, as they are, as begin marks them, and as finish adds the current one
module _ (s : Session) (i : Sound s) where
  pub store_distinct : Distinct s.store
  store_distinct = distinct_first s.store (on_now s.current [] (λ (c : Current). stored c ∷ [])) i.distinct

  pub marked_distinct : (f : Fields) → Distinct (marked_store s f)
  marked_distinct f =
      by_begin Distinct (λ g ps h q. distinct_map g (λ p. record { serial = ap (λ (x : Picture). x.serial.0) (h p).1; surface = ap (λ (x : Picture). x.surface.0) (h p).1 }) ps q) s f store_distinct

  module _ (c : Current) (e : s.current ≡ Some c) where
    with_current : Distinct (s.store ++ (stored c ∷ []))
    with_current = rw e at i.distinct

    pub raised_distinct : Distinct (map raised s.store ++ (stored c ∷ []))
    raised_distinct =
        distinct_snoc (map raised s.store) (stored c) (distinct_map raised (λ p. record { serial = refl; surface = refl }) s.store store_distinct)
        (all_map (λ (q : Picture). Other q (stored c)) (λ (q : Picture). Other q (stored c)) raised (λ q o. record { serial = o.serial; surface = o.surface }) s.store (distinct_last s.store (stored c) with_current))

module _ (s : Session) (r : List ℕ) (i : Sound s) (bytes : all_b (λ (b : ℕ). ltb b 256) r ≡ true) where
  good_refused : (kind n : ℕ) → kind < 65536 → n < 65536 → (n ≡ 0 → ⊥) → Good s r (refused s kind n)
  unfolding tell
  good_refused kind n a b c = record { tells = refl; sound = i; fit = (a, b, c) }

  lines_fit : (ps : List Picture) → All (Fine s.next) ps → All FitLine (map line ps)
  lines_fit ps a = all_map (Fine s.next) FitLine line (λ p f. record { serial = omega (arith, f.0, i.small); surface = f.1; poc = f.2 }) ps a

  held_fit : All FitLine ((ledger_of s).held ++ (ledger_of s).current)
  held_fit = go s.current i.below
    where
      go : (x : Option Current) → All (Fine s.next) (s.store ++ on_now x [] (λ (c : Current). stored c ∷ [])) → All FitLine (map line s.store ++ on_now x [] (λ (c : Current). current_line c ∷ []))
      go None a = rw (append-nil (map line s.store)) (lines_fit s.store (rw (append-nil s.store) at a))
      go (Some c) a = rw (map-append line s.store (stored c ∷ [])) at (lines_fit (s.store ++ (stored c ∷ [])) a)

  store_below : All (Fine s.next) s.store
  store_below = all_first _ s.store (on_now s.current [] (λ (c : Current). stored c ∷ [])) i.below

  -- with a current picture
  module _ (c : Current) (e : s.current ≡ Some c) where
    current_below : All (Fine s.next) (s.store ++ (stored c ∷ []))
    current_below = rw e at i.below

    raised_below : All (Fine s.next) (map raised s.store ++ (stored c ∷ []))
    raised_below =
        all_append _ (map raised s.store) (stored c ∷ []) (all_map (Fine s.next) _ raised (λ p h. h) s.store store_below)
        (all_last _ s.store (stored c ∷ []) current_below)

    raised_lines : map line (map raised s.store ++ (stored c ∷ [])) ≡ map line s.store ++ (current_line c ∷ [])
    raised_lines = map-append line (map raised s.store) (stored c ∷ []) ∙ ap (λ (H : List Line). H ++ (current_line c ∷ [])) (map-map line raised s.store)

    finish_runs : Runs (events (finished s.limits s.store c).tail) (map line s.store ++ (current_line c ∷ [])) (map line (finished s.limits s.store c).pics)
    unfolding finished
    finish_runs = rw raised_lines at (tells_while (due false s.limits) (map raised s.store ++ (stored c ∷ [])) (raised_distinct s i c e)).runs

    current_fit : All FitLine (map line s.store ++ (current_line c ∷ []))
    current_fit = rw (map-append line s.store (stored c ∷ [])) at (lines_fit (s.store ++ (stored c ∷ [])) current_below)

    finish_throws : (finished s.limits s.store c).tail.thrown ≡ []
    unfolding finished
    finish_throws = while_throws (due false s.limits) (map raised s.store ++ (stored c ∷ []))

    finish_distinct : Distinct (finished s.limits s.store c).pics
    unfolding finished
    finish_distinct = (tells_while (due false s.limits) (map raised s.store ++ (stored c ∷ [])) (raised_distinct s i c e)).distinct

    finish_below : All (Fine s.next) (finished s.limits s.store c).pics
    unfolding finished
    finish_below = all_while (Fine s.next) (λ p h. h) (due false s.limits) (map raised s.store ++ (stored c ∷ [])) raised_below

    good_finish : Good s r (accepted (finished_session s c) finish_kind (finished s.limits s.store c).tail)
    unfolding tell none
    good_finish =
        record {
          tells = rw e (ledgers finish_runs.leads refl (ok_kept _ _ (none (upon_all (events (finished s.limits s.store c).tail) (map line s.store ++ (current_line c ∷ [])))) finish_runs.allowed (nothing finish_throws)));
          sound = sound_idle _ (finished s.limits s.store c).pics refl refl refl finish_distinct finish_below i.small;
          fit = (omega arith, (λ z. omega arith), (λ z. omega arith), fit_tail (finished s.limits s.store c).tail _ _ current_fit finish_runs);
        }

    -- abandon
    drop_runs : Runs (events (dropped c)) (current_line c ∷ []) []
    drop_runs = drop_first_lem (stored c) [] (tt, tt)

    good_abandon : Good s r (accepted (abandoned_session s) abandon_kind (dropped c))
    unfolding tell none
    good_abandon =
        record {
          tells = rw e (ledgers refl refl (both drop_runs.allowed (rw drop_runs.leads)));
          sound = sound_idle _ s.store refl refl refl (store_distinct s i) store_below i.small;
          fit = (omega arith, (λ z. omega arith), (λ z. omega arith), fit_tail (dropped c) _ _ (all_last FitLine (map line s.store) (current_line c ∷ []) current_fit) drop_runs);
        }

    -- discard
    without_current : others (stored c) (s.store ++ (stored c ∷ [])) ≡ s.store
    without_current = last_out (stored c) s.store (distinct_last s.store (stored c) (with_current s i c e))

    discard_runs : Runs (events (joined (dropped c) (cleared s.store).tail)) (map line s.store ++ (current_line c ∷ [])) []
    discard_runs =
        runs_join (dropped c) (cleared s.store).tail
        (rw (without_current, map-append line s.store (stored c ∷ [])) at (drop_one (stored c) (s.store ++ (stored c ∷ [])) (with_current s i c e) (last_mem s.store)))
        (clears s.store (store_distinct s i))
      where
        last_mem : (ps : List Picture) → Mem (stored c) (ps ++ (stored c ∷ []))
        last_mem [] = inl refl
        last_mem (p ∷ ps) = inr (last_mem ps)

  -- the current picture is finished, if there is one
  record Landed (m : Moved) : Type 0 where
    runs : Runs (events m.tail) ((ledger_of s).held ++ (ledger_of s).current) (map line m.pics)
    throws : m.tail.thrown ≡ []
    apart : Distinct m.pics

  landed_now : Landed (finished_now s)
  landed_now = go s.current refl
    where
      go : (x : Option Current) → s.current ≡ x → Landed (on_now x (still s.store) (finished s.limits s.store))
      go None e = record { runs = rw (e, append-nil (map line s.store)) (tells_still s.store (store_distinct s i)).runs; throws = refl; apart = store_distinct s i }
      go (Some c) e = record { runs = rw e (finish_runs c e); throws = finish_throws c e; apart = finish_distinct c e }

  drained_runs : Runs (events (drained_now s).tail) ((ledger_of s).held ++ (ledger_of s).current) []
  unfolding drained
  drained_runs =
      runs_join (finished_now s).tail (emptied (finished_now s).pics).tail landed_now.runs
      (rw (emptied_leaves (finished_now s).pics) at (tells_emptied (finished_now s).pics landed_now.apart).runs)

  drained_throws : (drained_now s).tail.thrown ≡ []
  unfolding drained
  drained_throws = rw landed_now.throws (emptied_throws (finished_now s).pics)

  drained_leaves : (drained_now s).pics ≡ []
  unfolding drained
  drained_leaves = emptied_leaves (finished_now s).pics

  -- drain and configure differ in the session that they leave
  good_drained : (t : Session) (kind : ℕ) → t.store ≡ (drained_now s).pics → t.current ≡ None → t.refs ≡ no_refs → t.next ≡ s.next → (kind ≡ configure_kind) ⊎ (kind ≡ drain_kind)
      → Good s r (accepted t kind (drained_now s).tail)
  unfolding tell none
  good_drained t kind a b c n k =
      let e : t.store ≡ [] = a ∙ drained_leaves in
      record {
        tells = told k;
        sound = sound_idle t [] e b c tt tt (rw n i.small);
        fit = (⊎_elim (λ h. omega arith) (λ h. omega arith) k, (λ z. ⊎_elim (λ h. omega arith) (λ h. omega arith) k), (λ z. ⊎_elim (λ h. omega arith) (λ h. omega arith) k), fit_tail (drained_now s).tail _ _ held_fit drained_runs);
      }
    where
      ended : (kind : ℕ) → eqb kind finish_kind ≡ false → landed kind (ledger_of s) (drained_now s).tail ≡ ledger_of t
      ended kind q =
          rw (a ∙ drained_leaves, b, n)
          (ledgers drained_runs.leads refl (both drained_runs.allowed (both (or_left _ _ (nothing drained_throws)) (both (or_left _ _ (nothing drained_runs.leads)) (rw q (mathlib.Core.Bool.or-true (not (none (ledger_of s).current))))))))

      told : (kind ≡ configure_kind) ⊎ (kind ≡ drain_kind) → tell (ledger_of s) r (Reply.Done kind (drained_now s).tail) ≡ ledger_of t
      told (inl h) = rw h (ended 1 refl)
      told (inr h) = rw h (ended 5 refl)

  good_discard : Good s r (accepted (discarded_session s) discard_kind (discarded s.store s.current).tail)
  unfolding tell none discarded
  good_discard = go s.current refl
    where
      go : (x : Option Current) → s.current ≡ x → Good s r (accepted (discarded_session s) discard_kind (joined (on_now x quiet dropped) (cleared s.store).tail))
      go None e =
          record {
            tells = rw (e, append-nil (map line s.store)) (ledgers (clears s.store (store_distinct s i)).leads refl (ok_gone _ (none (cleared s.store).tail.thrown) _ false (clears s.store (store_distinct s i)).allowed (nothing (clears s.store (store_distinct s i)).leads)));
            sound = sound_idle _ [] refl refl refl tt tt i.small;
            fit = (omega arith, (λ z. omega arith), (λ z. omega arith), fit_tail (cleared s.store).tail _ _ (lines_fit s.store store_below) (clears s.store (store_distinct s i)));
          }
      go (Some c) e =
          record {
            tells = rw e (ledgers (discard_runs c e).leads refl (ok_gone _ (none (joined (dropped c) (cleared s.store).tail).thrown) _ true (discard_runs c e).allowed (nothing (discard_runs c e).leads)));
            sound = sound_idle _ [] refl refl refl tt tt i.small;
            fit = (omega arith, (λ z. omega arith), (λ z. omega arith), fit_tail (joined (dropped c) (cleared s.store).tail) _ _ (current_fit c e) (discard_runs c e));
          }

  good_end : Good s r (accepted (ended_session s) end_kind quiet)
  unfolding tell none
  good_end = record { tells = refl; sound = record { distinct = i.distinct; below = i.below; named = i.named; small = i.small }; fit = (omega arith, (λ z. omega arith), (λ z. omega arith), record { handed = tt; thrown = tt; released = tt }) }

  -- begin
  module _ (f : Fields) where
    marked_lines : map line (marked_store s f) ≡ map line s.store
    marked_lines =
        by_begin (λ (ps : List Picture). map line ps ≡ map line s.store)
        (λ g ps h q. map-map line g ps ∙ B.map_ext (λ (p : Picture). line (g p)) line (λ p. ap line (h p).1) ps ∙ q) s f refl

    -- what step 5 does to the marked store
    tells_before : Tells (marked_store s f) (room_made s f)
    unfolding room_made before_decoding
    tells_before =
        by_case (Tells (marked_store s f)) (starts_over s f && not s.ended) _ _
        (λ _. by_case (Tells (marked_store s f)) (no_prior_pics s f) _ _ (λ _. tells_cleared (marked_store s f) (marked_distinct s i f)) (λ _. tells_emptied (marked_store s f) (marked_distinct s i f)))
        (λ _. tells_then (marked_store s f) (removed (marked_store s f)) (hand_while (due true s.limits)) (tells_removed (marked_store s f) (marked_distinct s i f)) (λ d. tells_while (due true s.limits) (removed (marked_store s f)).pics d))

    before_runs : Runs (events (room_made s f).tail) (map line s.store) (map line (room_made s f).pics)
    before_runs = rw marked_lines at tells_before.runs

    module _ (free : any_b (held_by f.surface) s.store ≡ false) (word : f.surface.0 < 4294967296) (near : in32 (poc s f) ≡ true) (room : eqb s.next missing.0 ≡ false) where
      -- of a stored picture: older, and on another surface
      abbrev Older : Picture → Type 0
      Older p = Fine s.next p × (eqb f.surface.0 p.surface.0 ≡ false)

      store_older : All Older s.store
      store_older = all_zip (Fine s.next) (λ (p : Picture). eqb f.surface.0 p.surface.0 ≡ false) s.store store_below (none_any (held_by f.surface) s.store free)

      left_older : All Older (room_made s f).pics
      unfolding room_made
      left_older =
          all_before Older (λ p h. h) (starts_over s f && not s.ended) (no_prior_pics s f) s.limits (marked_store s f)
          (by_begin (All Older) (λ g ps h a. all_map Older Older g (λ p o. rw (h p).1 o) ps a) s f store_older)

      other_than : (p : Picture) → Older p → Other p (stored (begun_current s f))
      unfolding begun_current
      other_than p o = record { serial = ne_eqb p.serial.0 s.next (λ e. omega (arith, o.0.0)); surface = flip f.surface.0 p.surface.0 o.1 }

      sound_begun : Sound (begun_session s f)
      unfolding begun_current
      sound_begun =
          record {
            distinct = distinct_snoc (room_made s f).pics (stored (begun_current s f)) tells_before.distinct (all_more Older _ other_than (room_made s f).pics left_older);
            below =
                all_append (Fine (s.next + 1)) (room_made s f).pics (stored (begun_current s f) ∷ []) (all_more Older (Fine (s.next + 1)) (λ p o. (omega (arith, o.0.0), o.0.1, o.0.2)) (room_made s f).pics left_older) ((omega arith, word, near), tt);
            named = refs_named (sets s f) (map line (room_made s f).pics) (begin_names s f (marked_distinct s i f));
            small = omega (arith, i.small, eqb-false s.next missing.0 room);
          }

  module _ (z : Accepted s (fields_of r)) where
    left_fit : All FitLine (map line (room_made s (fields_of r)).pics)
    left_fit =
        lines_fit (room_made s (fields_of r)).pics
        (all_more (Older (fields_of r) z.free (surface_word r bytes) (poc_near s (fields_of r) z) z.roomy) (Fine s.next) (λ p o. o.0) (room_made s (fields_of r)).pics
        (left_older (fields_of r) z.free (surface_word r bytes) (poc_near s (fields_of r) z) z.roomy))

    good_begin : Good s r (begun s (fields_of r))
    good_begin =
        let f = fields_of r in
        record {
          tells = tells_begun s r i z (before_runs f) (marked_distinct s i f) (begin_clears s f);
          sound = sound_begun f z.free (surface_word r bytes) (poc_near s f z) z.roomy;
          fit = (record { poc = poc_near s f z; serial = omega (arith, i.small); sets = fit_names (in_order (sets s f)) (map line (room_made s f).pics) left_fit (begin_names s f (marked_distinct s i f)) }, fit_tail (room_made s f).tail _ _ (lines_fit s.store store_below) (before_runs f));
        }

  -- lists
  module _ (c : Current) (e : s.current ≡ Some c) where
    abbrev lines : List Line
    lines = map line s.store ++ (current_line c ∷ [])

    -- missing, or the serial of a line
    abbrev Ok : Serial → Type 0
    Ok = Names lines

    refs_ok : All Ok (all_refs s.refs)
    refs_ok =
        all_more (Names (map line s.store)) Ok
        (λ n h. wider (same_serial n missing) (λ (x : Line). eqb n.0 x.serial.0) (map line s.store) (current_line c ∷ []) h)
        (all_refs s.refs) (names_all (all_refs s.refs) (map line s.store) i.named)

    last_ok : Ok c.serial
    last_ok = or_right (same_serial c.serial missing) _ (any_last (λ (x : Line). eqb c.serial.0 x.serial.0) (map line s.store) (current_line c) (same_eqb c.serial.0))

    own_ok : (own : Bool) → All Ok (own_of own c.serial)
    own_ok own = by_case (All Ok) own (c.serial ∷ []) [] (λ _. (last_ok, tt)) (λ _. tt)

    candidates_ok : (own : Bool) → All Ok (candidates0 s.refs own c.serial) × All Ok (candidates1 s.refs own c.serial)
    candidates_ok own =
        let x = s.refs in
        let ba = all_first Ok (x.before ++ x.after) x.lt_curr refs_ok in
        let lt = all_last Ok (x.before ++ x.after) x.lt_curr refs_ok in
        let b = all_first Ok x.before x.after ba in
        let a = all_last Ok x.before x.after ba in (
          all_append Ok (x.before ++ x.after ++ x.lt_curr) (own_of own c.serial) refs_ok (own_ok own),
          all_append Ok (x.after ++ x.before ++ x.lt_curr) (own_of own c.serial) (all_append Ok (x.after ++ x.before) x.lt_curr (all_append Ok x.after x.before a b) lt) (own_ok own),
        )

    placed_ok : (cs : List Serial) → All Ok cs → (a : ListAsk) → All Ok (placed cs a)
    placed_ok cs h a =
        by_case (All Ok) a.modify _ _ (λ _. all_entries a.entries) (λ _. all_table Ok (λ (j : ℕ). get_or cs (j % length cs) missing) (λ j. all_get_d Ok cs missing h refl (j % length cs)) a.active)
      where
        all_entries : (es : List ℕ) → All Ok (map (λ (n : ℕ). get_or cs n missing) es)
        all_entries [] = tt
        all_entries (n ∷ es) = (all_get_d Ok cs missing h refl n, all_entries es)

    module _ (f : Slice) where
      list0_ok : All Ok (list0 s.refs c.serial f)
      unfolding list0
      list0_ok =
          let cs = candidates0 s.refs f.own c.serial in
          let h = placed_ok cs (candidates_ok f.own).0 f.ask0 in
          by_case (All Ok) f.ask0.uses _ _
          (λ _. by_case (All Ok) (last_is_own f cs) _ _ (λ _. all_set Ok (placed cs f.ask0) (f.ask0.active - 1) c.serial h last_ok) (λ _. h))
          (λ _. tt)

      list1_ok : All Ok (list1 s.refs c.serial f)
      unfolding list1
      list1_ok = by_case (All Ok) f.ask1.uses _ _ (λ _. placed_ok (candidates1 s.refs f.own c.serial) (candidates_ok f.own).1 f.ask1) (λ _. tt)

      good_lists : Good s r (listed s f c)
      unfolding tell none
      good_lists =
          let l0 = list0 s.refs c.serial f in
          let l1 = list1 s.refs c.serial f in
          record {
            tells = rw e (ledgers refl refl (all_names (l0 ++ l1) lines (all_append Ok l0 l1 list0_ok list1_ok)));
            sound = i;
            fit = (fit_names l0 lines (current_fit c e) (all_names l0 lines list0_ok), fit_names l1 lines (current_fit c e) (all_names l1 lines list1_ok));
          }

  pub good_step : Good s r (decide_of s r)
  good_step =
      by_ways s r (Good s r)
      (record {
        malformed = good_refused malformed_reply 13 (omega arith) (omega arith) (λ e. omega arith);
        no = λ kind n k g b l h. good_refused (reply_to kind) n (omega arith) (omega arith) (λ e. omega arith);
        configure = λ k a b. good_drained (configured_session s (limits_of r)) 1 refl refl refl refl (inl refl);
        begin = λ k z. good_begin z;
        lists = λ k c e z. good_lists c e (slice_of r);
        finish = λ k c e z. good_finish c e;
        drain = λ k a. good_drained (drained_session s) 5 refl refl refl refl (inr refl);
        discard = λ k. good_discard;
        end = λ k. good_end;
        abandon = λ k c e. good_abandon c e;
      })
