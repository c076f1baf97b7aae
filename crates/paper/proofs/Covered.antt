-- In some exchanges with an accepted configure there is a last one, and since then a valid picture that was finished
-- last, or none: what Item 12 speaks of in words can always be found.
use Prim.Native.Nat.{ℕ, ◌%◌, ◌^◌}
use mathlib.Core.Path.{◌≡◌, refl, sym, ap, ◌∙◌}
use mathlib.Core.List.{List, [], ◌∷◌, ◌++◌, append_assoc}
use Rattle.std.proofs.Common.{Option, None, Some}
use mathlib.Core.Bool.{Bool, true, false, cond, ◌&&◌}
use native.Mathlib.Omega.{arith}
use Rattle.paper.specs.Words.{any_b}
use Rattle.paper.specs.Kinds.{configure_kind, begin_kind}
use Rattle.paper.specs.Ledger.{Exchange}
use Rattle.paper.specs.Ledger as Ledger
use Rattle.paper.specs.OneLine.{accepts, valid_in, empty, modulus_in, finishes, moves, notes, LastConfigure, Finished, LastFinished, LastIs, Since}
use Rattle.paper.proofs.Bools.{both, left, right, or_left, or_right, split, not_both}
use Rattle.paper.proofs.InWords.{or_none, same_width}

-- ---- the last accepted configure

record Configured (xs : List Exchange) : Type 0 where
  configure : Exchange
  since : List Exchange
  is : LastConfigure xs configure since

configure_in : (xs : List Exchange) → any_b (accepts configure_kind) xs ≡ true → Configured xs
unfolding any_b
configure_in [] e = not_both false e refl
configure_in (x ∷ xs) e =
    split (any_b (accepts configure_kind) xs)
    (λ t. let c = configure_in xs t in record { configure = c.configure; since = c.since; is = record { before = x ∷ c.is.before; parts = ap (λ (l : List Exchange). x ∷ l) c.is.parts; accepted = c.is.accepted; last = c.is.last } })
    (λ f. split (accepts configure_kind x) (λ a. record { configure = x; since = xs; is = record { before = []; parts = refl; accepted = a; last = f } }) (λ a. not_both true refl (sym e ∙ rw (a, f))))

-- ---- the last valid picture that was finished

-- the first of ls that begins or ends a picture finishes one
abbrev ends : List Exchange → Bool
ends [] = false
ends (x ∷ ls) = cond (moves x) (finishes x) (ends ls)

record Ending (ls : List Exchange) : Type 0 where
  during : List Exchange
  end : Exchange
  behind : List Exchange
  parts : ls ≡ during ++ (end ∷ behind)
  still : any_b moves during ≡ false
  finished : finishes end ≡ true

ending : (ls : List Exchange) → ends ls ≡ true → Ending ls
unfolding any_b
ending [] e = not_both false e refl
ending (x ∷ ls) e =
    split (moves x)
    (λ m. record { during = []; end = x; behind = ls; parts = refl; still = refl; finished = rw m at e })
    (λ m. let t = ending ls (rw m at e) in record { during = x ∷ t.during; end = t.end; behind = t.behind; parts = ap (λ (l : List Exchange). x ∷ l) t.parts; still = rw m t.still; finished = t.finished })

finish_moves : (x : Exchange) → finishes x ≡ true → moves x ≡ true
finish_moves x f = or_right (accepts begin_kind x) _ (or_left (finishes x) _ f)

ends_so : (during : List Exchange) (end : Exchange) (behind : List Exchange) → any_b moves during ≡ false → finishes end ≡ true → ends (during ++ (end ∷ behind)) ≡ true
unfolding any_b
ends_so [] end behind q f = rw (finish_moves end f, f)
ends_so (x ∷ ds) end behind q f = let t = or_none (moves x) _ q in rw t.0 (ends_so ds end behind t.1 f)

-- no exchanges are not some
pub no_cons : (bs ls : List Exchange) (z : Exchange) → [] ≡ bs ++ (z ∷ ls) → ⊥
unfolding Ledger.none
no_cons [] ls z e = not_both (Ledger.none (z ∷ ls)) (ap Ledger.none (sym e)) refl
no_cons (b ∷ bs) ls z e = not_both (Ledger.none (b ∷ (bs ++ (z ∷ ls)))) (ap Ledger.none (sym e)) refl

abbrev first : Exchange → List Exchange → Exchange
first x [] = x
first x (y ∷ ys) = y

abbrev rest : List Exchange → List Exchange
rest [] = []
rest (x ∷ xs) = xs

-- x in front of ls: what is finished in a part of ls is finished in ls; what is finished in ls is so behind x
finished_later : (front ls behind more : List Exchange) (z : Exchange) → ls ≡ front ++ behind → Finished behind z more → Finished ls z more
finished_later front ls behind more z e g =
    record {
      before = front ++ g.before;
      during = g.during;
      end = g.end;
      parts = e ∙ ap (λ (l : List Exchange). front ++ l) g.parts ∙ sym (append_assoc front g.before _);
      begins = g.begins;
      valid = g.valid;
      still = g.still;
      finished = g.finished;
    }

-- none is finished in ls: in x ∷ ls it is the picture of x or none
module _ (x : Exchange) (ls : List Exchange) (f : LastIs ls None) where
  abbrev its_own : Bool
  its_own = (accepts begin_kind x && valid_in x) && ends ls

  own : its_own ≡ true → LastFinished (x ∷ ls) x
  own e =
      let t = ending ls (right (accepts begin_kind x && valid_in x) _ e) in
      let b = left (accepts begin_kind x && valid_in x) _ e in
      record {
        behind = t.behind;
        finished = record { before = []; during = t.during; end = t.end; parts = ap (λ (l : List Exchange). x ∷ l) t.parts; begins = left (accepts begin_kind x) _ b; valid = right (accepts begin_kind x) _ b; still = t.still; finished = t.finished };
        last = λ z more g. f z more (finished_later (t.during ++ (t.end ∷ [])) ls t.behind more z (t.parts ∙ sym (append_assoc t.during (t.end ∷ []) t.behind)) g);
      }

  not_own : its_own ≡ false → (y : Exchange) (behind before : List Exchange) (g : Finished (x ∷ ls) y behind) → g.before ≡ before → ⊥
  not_own e y behind [] g b =
      let p : (x ∷ ls) ≡ y ∷ (g.during ++ (g.end ∷ behind)) = rw b at g.parts in
      let h : x ≡ y = ap (first x) p in
      not_both its_own (both (both (ap (accepts begin_kind) h ∙ g.begins) (ap valid_in h ∙ g.valid)) (ap ends (ap rest p) ∙ ends_so g.during g.end behind g.still g.finished)) e
  not_own e y behind (z ∷ before) g b =
      let p : (x ∷ ls) ≡ z ∷ (before ++ (y ∷ (g.during ++ (g.end ∷ behind)))) = rw b at g.parts in
      f y behind (record { before = before; during = g.during; end = g.end; parts = ap rest p; begins = g.begins; valid = g.valid; still = g.still; finished = g.finished })

record LastIn (ls : List Exchange) : Type 0 where
  previous : Option Exchange
  is : LastIs ls previous

longer : (x : Exchange) (ls : List Exchange) (p : Option Exchange) → LastIs ls p → LastIn (x ∷ ls)
longer x ls None f =
    split (its_own x ls f) (λ e. record { previous = Some x; is = own x ls f e })
    (λ e. record { previous = None; is = λ y b g. not_own x ls f e y b g.before g refl })
longer x ls (Some y) g = record { previous = Some y; is = record { behind = g.behind; finished = finished_later (x ∷ []) (x ∷ ls) ls g.behind y refl g.finished; last = g.last } }

last_in : (ls : List Exchange) → LastIn ls
last_in [] = record { previous = None; is = λ y b g. no_cons g.before _ y g.parts }
last_in (x ∷ ls) = let t = last_in ls in longer x ls t.previous t.is

-- where M is even a configure was accepted
pub since_any : (xs : List Exchange) → modulus_in (notes empty xs) % 2 ≡ 0 → Since xs
since_any xs e =
    split (any_b (accepts configure_kind) xs)
    (λ t. let c = configure_in xs t in let l = last_in c.since in record { configure = c.configure; since = c.since; configured = c.is; previous = l.previous; last = l.is })
    (λ f. let odd : ◌≡◌ {A = ℕ} 0 1 = sym e ∙ ap (λ (k : ℕ). (2 ^ k) % 2) (same_width empty xs f) in absurd (omega (arith, odd)))
