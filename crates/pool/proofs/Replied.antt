-- What a session's reply to a record says, read back: an accepted begin begins a picture on the surface of its record,
-- no other record begins one, and a refusal says its number and nothing else. It is so since the bytes of what is
-- decided are read as what is decided.
use Prim.Native.Nat.{ℕ}
use mathlib.Core.Path.{◌≡◌, refl, sym, ap, ◌∙◌}
use mathlib.Core.List.{List, [], ◌∷◌}
use mathlib.Core.Bool.{Bool, true, false, cond}
use native.Mathlib.Omega.{arith}
use lib.Dec.{ltb, eqb}
use borrow.Author.Tests.{ne_eqb, eq-eqb, eqb-true}
use Rattle.paper.specs.declared.Reading.{Reading}
use Rattle.paper.specs.Words.{all_b}
use Rattle.paper.specs.Numbers.{u32}
use Rattle.paper.specs.Kinds.{begin_kind, surface_place, reply_to, malformed_reply}
use Rattle.paper.specs.Records.{kind_of, well_formed}
use Rattle.paper.specs.State.{Session}
use Rattle.paper.specs.Replies.{Reply, bytes_of}
use Rattle.paper.specs.Step.{Decided, by_kind, decide_of, refused, step_of}
use Rattle.paper.specs.Ledger.{none, heard, read_reply}
use Rattle.paper.specs.Accounts.{surfaces, begun_in}
use Rattle.paper.proofs.Bools.{both, right, split, not_both}
use Rattle.paper.proofs.ReadBack.{read_back}
use Rattle.paper.proofs.Heard.{hears}
use Rattle.paper.proofs.Sound.{Sound, good_step}
use Rattle.paper.proofs.Refusals.{refusal_kind}
use Rattle.paper.proofs.Ways.{by_ways}
use Rattle.session.specs.Target.{is_begin}

-- ---- what is decided

record Says (r : List ℕ) (d : Decided) : Type 0 where
  begins : d.number ≡ 0 → kind_of r ≡ begin_kind → surfaces (begun_in r d.reply) ≡ u32 r surface_place ∷ []
  begins_not : (kind_of r ≡ begin_kind → ⊥) → begun_in r d.reply ≡ []
  refuses : (d.number ≡ 0 → ⊥) → d.reply ≡ Reply.Refused (refusal_kind d.number r) d.number

-- a record of another kind than a begin, that is accepted
says_other : (r : List ℕ) (d : Decided) (kind : ℕ) → kind_of r ≡ kind → (kind ≡ begin_kind → ⊥) → d.number ≡ 0 → begun_in r d.reply ≡ [] → Says r d
says_other r d kind k h z e = record { begins = λ _ b. absurd (h (sym k ∙ b)); begins_not = λ _. e; refuses = λ n. absurd (n z) }

says : (s : Session) (r : List ℕ) → Says r (decide_of s r)
unfolding begun_in
says s r =
    by_ways s r (Says r)
    (record {
      malformed = record { begins = λ z _. absurd (omega (arith, z)); begins_not = λ _. refl; refuses = λ _. refl };
      no = λ kind n k g b l h.
          record {
            begins = λ z _. absurd (omega (arith, z));
            begins_not = λ _. refl;
            refuses = λ _. rw (ne_eqb n 13 (λ e. omega arith), k);
          };
      configure = λ k a b. says_other r _ 1 k (λ e. omega arith) refl refl;
      begin = λ k z. record { begins = λ _ _. refl; begins_not = λ h. absurd (h k); refuses = λ h. absurd (h refl) };
      lists = λ k c e z. says_other r _ 3 k (λ e. omega arith) refl refl;
      finish = λ k c e z. says_other r _ 4 k (λ e. omega arith) refl refl;
      drain = λ k a. says_other r _ 5 k (λ e. omega arith) refl refl;
      discard = λ k. says_other r _ 6 k (λ e. omega arith) refl refl;
      end = λ k. says_other r _ 7 k (λ e. omega arith) refl refl;
      abandon = λ k c e. says_other r _ 8 k (λ e. omega arith) refl refl;
    })

-- what is accepted is well-formed
pub formed : (s : Session) (r : List ℕ) → (decide_of s r).number ≡ 0 → well_formed r ≡ true
unfolding decide_of
formed s r z =
    split (well_formed r) (λ p. p)
    (λ p. let k : ◌≡◌ {A = ℕ} 13 0 = ap (λ (b : Bool). (cond b (by_kind s r) (refused s malformed_reply 13)).number) (sym p) ∙ z in absurd (omega (arith, k)))

-- ---- whether it is a reply to that record, which depends on the record's kind alone

pub heard_kind : (r q : List ℕ) (a : Reply) → kind_of r ≡ kind_of q → heard q a ≡ true → heard r a ≡ true
unfolding heard
heard_kind r q (Reply.Refused kind n) e h = ap (λ (k : ℕ). cond (eqb n 13) (eqb kind malformed_reply) (eqb kind (reply_to k))) e ∙ h
heard_kind r q (Reply.Done kind t) e h = ap (eqb kind) e ∙ h
heard_kind r q (Reply.Started b t) e h = ap (eqb begin_kind) e ∙ h
heard_kind r q (Reply.Listed l0 l1) e h = ap (eqb 3) e ∙ h

-- ---- what is read

pub written : (a : Reply) → none (bytes_of a) ≡ false
unfolding none bytes_of
written (Reply.Refused kind n) = refl
written (Reply.Done kind t) = refl
written (Reply.Started b t) = refl
written (Reply.Listed l0 l1) = refl

module _ (st : Reading) (s : Session) (r : List ℕ) (i : Sound s) (b : all_b (λ (x : ℕ). ltb x 256) r ≡ true) where
  abbrev reply : Reply
  reply = read_reply st (step_of s r 512).bytes

  reads : reply ≡ (decide_of s r).reply
  unfolding step_of
  reads = read_back st (decide_of s r).reply (good_step s r i b).fit

  pub hears_it : heard r reply ≡ true
  hears_it = ap (heard r) reads ∙ hears s r

  pub is_written : none (step_of s r 512).bytes ≡ false
  unfolding step_of
  is_written = written (decide_of s r).reply

  pub begun_on : is_begin r ≡ true → (step_of s r 512).number ≡ 0 → surfaces (begun_in r reply) ≡ u32 r surface_place ∷ []
  unfolding step_of
  begun_on is z = ap (λ (a : Reply). surfaces (begun_in r a)) reads ∙ (says s r).begins z (eqb-true (kind_of r) begin_kind (right (well_formed r) _ is))

  pub begun_none : is_begin r ≡ false → (step_of s r 512).number ≡ 0 → begun_in r reply ≡ []
  unfolding step_of
  begun_none other z =
      ap (begun_in r) reads
      ∙ (says s r).begins_not (λ k. not_both (is_begin r) (both (formed s r z) (eq-eqb (kind_of r) begin_kind k)) other)

  pub said_no : ((step_of s r 512).number ≡ 0 → ⊥) → reply ≡ Reply.Refused (refusal_kind (step_of s r 512).number r) (step_of s r 512).number
  unfolding step_of
  said_no h = reads ∙ (says s r).refuses h
