-- `begin`: each way out is one law of the order of refusals, and what passes all of the tests is what `begin_inside`
-- asks for.
use mathlib.Core.Bool.{false, not}
use mathlib.Core.Path.{◌≡◌, sym, ap, ◌∙◌}
use lib.Dec.{eqb}
use borrow.Author.Tests.{eq-eqb, ne_eqb, not-false}
use Rattle.paper.specs.declared.Serial.{Serial}
use Rattle.paper.specs.Words.{any_b}
use Rattle.paper.specs.Numbers.{missing}
use Rattle.paper.specs.Records.{Fields}
use Rattle.paper.specs.State.{Session, is_current, modulus}
use Rattle.paper.specs.Ranges.{begin_ranges}
use Rattle.paper.specs.Step.{begin_of, held_by}
use Rattle.session.proofs.Ways.{begin_1, begin_3, begin_5, begin_8, begin_7}
use Rattle.session.proofs.Fronts.{is_now}
use Rattle.session.proofs.Saying.{rejects, tries_as}
use Rattle.session.proofs.Targets.{read_as, fields_as}
use Rattle.session.specs.View.{memory, session_in, front_in}
use Rattle.session.specs.Target.{fields_with, fields_at}
use Rattle.session.proofs.begin.begin.Goals as goal

pub returns-then-not-is_configured : goal.returns-then-not-is_configured
unfolding front_in
returns-then-not-is_configured c =
    let session : Session =
    session_in (memory c.args.front.now c.args.sets.now c.args.store.now)
    in
    let fields : Fields =
    fields_at c.args.surface c.args.msg.now
    in
    rejects (begin_1 (session) (fields) (ap not (sym c.is_configured.ensures ∙ c.if-not-is_configured.true)))

pub returns-then-is_busy : goal.returns-then-is_busy
unfolding front_in
returns-then-is_busy c =
    let session : Session =
    session_in (memory c.args.front.now c.args.sets.now c.args.store.now)
    in
    let fields : Fields =
    fields_at c.args.surface c.args.msg.now
    in
    let set_up : not (session).configured ≡ false =
    ap not (sym c.is_configured.ensures ∙ c.if-not-is_configured.false)
    in
    rejects (begin_3 (session) (fields) (set_up) (is_now c.args.front.now ∙ sym c.is_busy.ensures ∙ c.if-is_busy.true))

pub returns-then-not-begin_ranges : goal.returns-then-not-begin_ranges
unfolding front_in
returns-then-not-begin_ranges c =
    let session : Session =
    session_in (memory c.args.front.now c.args.sets.now c.args.store.now)
    in
    let fields : Fields =
    fields_at c.args.surface c.args.msg.now
    in
    let set_up : not (session).configured ≡ false =
    ap not (sym c.is_configured.ensures ∙ c.if-not-is_configured.false)
    in
    let idle : is_current (session).current ≡ false =
    is_now c.args.front.now ∙ sym c.is_busy.ensures ∙ c.if-is_busy.false
    in
    let read : fields_with c.begin_fields-h.result.surface c.args.msg.now ≡ fields =
    fields_as c.args.surface c.args.msg.now c.begin_fields-h.ensures
    in
    let ranges : c.begin_ranges.result ≡ begin_ranges (modulus (session).limits) (fields) =
    c.begin_ranges.ensures ∙ (λ i. begin_ranges (modulus (c.limits_in-l.ensures i)) (read i))
    in
    rejects (begin_5 (session) (fields) (set_up) (idle) (ap not (sym (ranges) ∙ c.if-not-begin_ranges.true)))

pub returns-then-next_serial-eq-MISSING : goal.returns-then-next_serial-eq-MISSING
unfolding front_in
returns-then-next_serial-eq-MISSING c =
    let session : Session =
    session_in (memory c.args.front.now c.args.sets.now c.args.store.now)
    in
    let fields : Fields =
    fields_at c.args.surface c.args.msg.now
    in
    let set_up : not (session).configured ≡ false =
    ap not (sym c.is_configured.ensures ∙ c.if-not-is_configured.false)
    in
    let idle : is_current (session).current ≡ false =
    is_now c.args.front.now ∙ sym c.is_busy.ensures ∙ c.if-is_busy.false
    in
    let read : fields_with c.begin_fields-h.result.surface c.args.msg.now ≡ fields =
    fields_as c.args.surface c.args.msg.now c.begin_fields-h.ensures
    in
    let ranges : c.begin_ranges.result ≡ begin_ranges (modulus (session).limits) (fields) =
    c.begin_ranges.ensures ∙ (λ i. begin_ranges (modulus (c.limits_in-l.ensures i)) (read i))
    in
    let within : not (begin_ranges (modulus (session).limits) (fields)) ≡ false =
    ap not (sym (ranges) ∙ c.if-not-begin_ranges.false)
    in
    let last : eqb (session).next missing.0 ≡ eqb c.next_serial.result.0 missing.0 =
    ap (λ (n : Serial). eqb n.0 missing.0) (sym c.next_serial.ensures)
    in
    rejects (begin_8 (session) (fields) (set_up) (idle) (within) (last ∙ eq-eqb _ _ c.if-next_serial-eq-MISSING.true))

pub returns-then-holds_surface : goal.returns-then-holds_surface
unfolding fields_with front_in
returns-then-holds_surface c =
    let session : Session =
    session_in (memory c.args.front.now c.args.sets.now c.args.store.now)
    in
    let fields : Fields =
    fields_at c.args.surface c.args.msg.now
    in
    let set_up : not (session).configured ≡ false =
    ap not (sym c.is_configured.ensures ∙ c.if-not-is_configured.false)
    in
    let idle : is_current (session).current ≡ false =
    is_now c.args.front.now ∙ sym c.is_busy.ensures ∙ c.if-is_busy.false
    in
    let read : fields_with c.begin_fields-h.result.surface c.args.msg.now ≡ fields =
    fields_as c.args.surface c.args.msg.now c.begin_fields-h.ensures
    in
    let ranges : c.begin_ranges.result ≡ begin_ranges (modulus (session).limits) (fields) =
    c.begin_ranges.ensures ∙ (λ i. begin_ranges (modulus (c.limits_in-l.ensures i)) (read i))
    in
    let within : not (begin_ranges (modulus (session).limits) (fields)) ≡ false =
    ap not (sym (ranges) ∙ c.if-not-begin_ranges.false)
    in
    let last : eqb (session).next missing.0 ≡ eqb c.next_serial.result.0 missing.0 =
    ap (λ (n : Serial). eqb n.0 missing.0) (sym c.next_serial.ensures)
    in
    let unspent : eqb (session).next missing.0 ≡ false =
    last ∙ ne_eqb _ _ c.if-next_serial-eq-MISSING.false
    in
    let held : c.holds_surface.result ≡ any_b (held_by (fields).surface) (session).store =
    c.holds_surface.ensures ∙ ap (λ (f : Fields). any_b (held_by f.surface) (session).store) (read)
    in
    rejects (begin_7 (session) (fields) (set_up) (idle) (within) (unspent) (sym (held) ∙ c.if-holds_surface.true))

pub begin_inside-requires : goal.begin_inside-requires
unfolding front_in
begin_inside-requires c =
    let session : Session =
    session_in (memory c.args.front.now c.args.sets.now c.args.store.now)
    in
    let fields : Fields =
    fields_at c.args.surface c.args.msg.now
    in
    let set_up : not (session).configured ≡ false =
    ap not (sym c.is_configured.ensures ∙ c.if-not-is_configured.false)
    in
    let idle : is_current (session).current ≡ false =
    is_now c.args.front.now ∙ sym c.is_busy.ensures ∙ c.if-is_busy.false
    in
    let read : fields_with c.begin_fields-h.result.surface c.args.msg.now ≡ fields =
    fields_as c.args.surface c.args.msg.now c.begin_fields-h.ensures
    in
    let ranges : c.begin_ranges.result ≡ begin_ranges (modulus (session).limits) (fields) =
    c.begin_ranges.ensures ∙ (λ i. begin_ranges (modulus (c.limits_in-l.ensures i)) (read i))
    in
    let within : not (begin_ranges (modulus (session).limits) (fields)) ≡ false =
    ap not (sym (ranges) ∙ c.if-not-begin_ranges.false)
    in
    let last : eqb (session).next missing.0 ≡ eqb c.next_serial.result.0 missing.0 =
    ap (λ (n : Serial). eqb n.0 missing.0) (sym c.next_serial.ensures)
    in
    let unspent : eqb (session).next missing.0 ≡ false =
    last ∙ ne_eqb _ _ c.if-next_serial-eq-MISSING.false
    in (
      record {
        limits = c.limits_in-l.ensures;
        fields = read_as c.args.surface c.args.msg.now c.begin_fields-h.ensures;
        configured = not-false _ (set_up);
        idle = idle;
        ranges = ap (begin_ranges (modulus (session).limits)) (read) ∙ not-false _ (within);
        roomy = unspent;
        free = sym c.holds_surface.ensures ∙ c.if-holds_surface.false;
      },
      c.requires,
    )

pub returns : goal.returns
returns c =
    let session : Session =
    session_in (memory c.args.front.now c.args.sets.now c.args.store.now)
    in
    let fields : Fields =
    fields_at c.args.surface c.args.msg.now
    in
    let read : fields_with c.begin_fields-h.result.surface c.args.msg.now ≡ fields =
    fields_as c.args.surface c.args.msg.now c.begin_fields-h.ensures
    in
    tries_as (ap (begin_of (session)) (sym (read))) c.begin_inside.ensures
