-- The words of a session beside its store are twenty-three, so what each of them holds after some are written computes.
-- Assumes nothing.
use Prim.Native.Nat.{ℕ, zero, suc, ◌≤◌}
use mathlib.Core.Path.{◌≡◌, refl, sym, ◌∙◌, ap, subst}
use mathlib.Core.List.{List, [], ◌∷◌}
use mathlib.Core.Bool.{Bool, true, false, cond}
use native.Mathlib.Nat.{mod-eq_of_lt}
use native.Mathlib.Omega.{arith}
use lib.ListN.{length, take, set}
use lib.Seq.{sets, take-suc, take_all}
use lib.IntN.{ℤ}
use mir.Syntax.{w8, w16, w32}
use mir.Val.{Fits, SFits, of_z}
use mir.ValLaws.{to_z-of_z}
use Rattle.paper.specs.Words.{table}
use Rattle.paper.specs.State.{is_current}
use Rattle.paper.specs.declared.Limits.{Limits}
use Rattle.paper.specs.declared.Current.{Current}
use Rattle.derivation.specs.declared.ref_lists.Refs.{Refs}
use Rattle.store.specs.StoreWords.{word, flag_of, flag_word}
use Rattle.session.specs.FrontPlaces.{CONFIGURED, FIRST, ENDED, K, PREV, CURRENT}
use Rattle.session.specs.View.{current_at, now_at, Front, front_in, idle_front, configured_front, begun_front, ended_front}
use Rattle.session.specs.Laid.{front_words}
use Rattle.store.proofs.StoreWords.{flag_back}
use Rattle.std.proofs.Common.{None, Some}
use Rattle.paper.specs.Poc.{tid0}

-- words, one by one
first_words : (h : List ℕ) (n : ℕ) → n ≤ length h → table (word h) n ≡ take n h
unfolding table
first_words h zero le = refl
first_words h (suc n) le = rw (first_words h n (omega arith)) (sym (take-suc h n 0 (omega arith)))

pub whole_words : (h : List ℕ) → length h ≡ 23 → table (word h) 23 ≡ h
whole_words h long = first_words h 23 (omega arith) ∙ take_all 23 h (omega arith)

-- the words with no picture current and no previous Tid0 picture, with this one, with these limits, with this picture
-- current
abbrev pub idle_words : List ℕ → List ℕ
idle_words h = sets h CURRENT (0 ∷ 0 ∷ 0 ∷ 0 ∷ 0 ∷ 0 ∷ 0 ∷ 0 ∷ 0 ∷ 0 ∷ 0 ∷ [])

abbrev pub none_words : List ℕ → List ℕ
none_words h = sets (idle_words h) PREV (0 ∷ 0 ∷ 0 ∷ [])

abbrev pub tid0_words : ℕ → ℤ → List ℕ → List ℕ
tid0_words lsb msb h = sets (idle_words h) PREV (1 ∷ lsb ∷ of_z w32 msb ∷ [])

abbrev pub limit_words : Limits → List ℕ → List ℕ
limit_words l h = sets (set h CONFIGURED 1) K (l.k ∷ l.capacity ∷ l.buffering ∷ l.reorder ∷ l.latency ∷ [])

abbrev pub begun_words : Current → Refs → ℕ → List ℕ → List ℕ
begun_words c x next h =
    sets (sets h FIRST (0 ∷ 0 ∷ next ∷ [])) CURRENT
    (1 ∷ c.serial.0 ∷ c.surface.0 ∷ of_z w32 c.poc ∷ c.lsb ∷ of_z w32 c.msb ∷ flag_word c.output ∷ flag_word c.valid ∷ x.before ∷ x.after ∷ x.long ∷ [])

-- what is read after each kind of write
module _ (h : List ℕ) (long : length h ≡ 23) where
  front_by : (w : List ℕ → List ℕ) (g : Front → Front) → front_in (w (table (word h) 23)) ≡ g (front_in (table (word h) 23)) → front_in (w h) ≡ g (front_in h)
  front_by w g e = subst (λ (l : List ℕ). front_in (w l) ≡ g (front_in l)) (whole_words h long) e

  pub front_none : front_in (none_words h) ≡ idle_front (front_in h) None
  unfolding front_in table
  front_none = front_by none_words (λ (f : Front). idle_front f None) refl

  pub front_tid0 : (lsb : ℕ) (msb : ℤ) → Fits w16 lsb → SFits w32 msb → front_in (tid0_words lsb msb h) ≡ idle_front (front_in h) (tid0 lsb msb)
  unfolding front_in table
  front_tid0 lsb msb a b = front_by (tid0_words lsb msb) (λ (f : Front). idle_front f (tid0 lsb msb)) (rw (mod-eq_of_lt a.fits, to_z-of_z w32 msb b))

  pub front_limits : (l : Limits) → Fits w8 l.k → Fits w8 l.capacity → Fits w8 l.buffering → Fits w8 l.reorder → Fits w16 l.latency
      → front_in (limit_words l h) ≡ configured_front (front_in h) l
  unfolding front_in table
  front_limits l a b c d e =
      front_by (limit_words l) (λ (f : Front). configured_front f l)
      (rw (mod-eq_of_lt a.fits, mod-eq_of_lt b.fits, mod-eq_of_lt c.fits, mod-eq_of_lt d.fits, mod-eq_of_lt e.fits))

  pub front_begun : (c : Current) (x : Refs) (next : ℕ) → SFits w32 c.poc → Fits w16 c.lsb → SFits w32 c.msb → Fits w8 x.before → Fits w8 x.after → Fits w8 x.long
      → front_in (begun_words c x next h) ≡ begun_front (front_in h) c x next
  unfolding front_in table
  front_begun c x next p q m a b d =
      front_by (begun_words c x next) (λ (f : Front). begun_front f c x next)
      (rw (to_z-of_z w32 c.poc p, mod-eq_of_lt q.fits, to_z-of_z w32 c.msb m, flag_back c.output, flag_back c.valid, mod-eq_of_lt a.fits, mod-eq_of_lt b.fits, mod-eq_of_lt d.fits))

  pub front_ended : front_in (set h ENDED 1) ≡ ended_front (front_in h)
  unfolding front_in table
  front_ended = front_by (λ (l : List ℕ). set l ENDED 1) ended_front refl

-- words that are what some session is written as are so after each kind of write
module _ (h : List ℕ) (f : Front) (e : h ≡ front_words f) where
  pub words_none : none_words h ≡ front_words (idle_front f None)
  unfolding front_words
  words_none = ap none_words e

  pub words_tid0 : (lsb : ℕ) (msb : ℤ) → tid0_words lsb msb h ≡ front_words (idle_front f (tid0 lsb msb))
  unfolding front_words
  words_tid0 lsb msb = ap (tid0_words lsb msb) e

  pub words_limits : (l : Limits) → limit_words l h ≡ front_words (configured_front f l)
  unfolding front_words
  words_limits l = ap (limit_words l) e

  pub words_begun : (c : Current) (x : Refs) (next : ℕ) → begun_words c x next h ≡ front_words (begun_front f c x next)
  unfolding front_words
  words_begun c x next = ap (begun_words c x next) e

  pub words_ended : set h ENDED 1 ≡ front_words (ended_front f)
  unfolding front_words
  words_ended = ap (λ (l : List ℕ). set l ENDED 1) e

-- a picture is current when its flag is on
pub is_now : (h : List ℕ) → is_current (now_at h) ≡ flag_of (word h CURRENT)
is_now h = go (flag_of (word h CURRENT))
  where
    go : (b : Bool) → is_current (cond b (Some (current_at h)) None) ≡ b
    go true = refl
    go false = refl
