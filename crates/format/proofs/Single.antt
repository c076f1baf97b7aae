-- Each of the readers that tell a kind or a size permits one answer.
use Rattle.std.proofs.Common.{ℕ, zero, suc, ◌≡◌, ◌∙◌, sym, ap, List, true, false, refl, Option, None, Some, Result, Ok, Err, arith}
use Rattle.format.specs.declared.kinds.Kind.{Kind}
use Rattle.format.specs.declared.kinds.Kind.TheVariants.{Configure, Begin, Lists, Finish, Drain, Discard, End, Abandon}
use Rattle.format.specs.declared.kinds.UnknownKind.{UnknownKind}
use Rattle.format.specs.Cut.{WholeIn}
use Rattle.format.specs.Kind.{number_of, is_number, is_reply, Numbered, RepliesTo, KindIn}
use Rattle.paper.specs.Kinds.{reply_to}

-- the size, or none
pub one_whole : (l : List ℕ) (a b : Option ℕ) → WholeIn l a → WholeIn l b → a ≡ b
one_whole l None None p q = refl
one_whole l None (Some m) p q = absurd (omega (arith, p, q.0, q.1))
one_whole l (Some n) None p q = absurd (omega (arith, q, p.0, p.1))
one_whole l (Some n) (Some m) p q = ap Some (p.0 ∙ sym q.0)

-- a kind is told by its number
kind_back : ℕ → Kind
kind_back zero = Abandon
kind_back (suc zero) = Configure
kind_back (suc (suc zero)) = Begin
kind_back (suc (suc (suc zero))) = Lists
kind_back (suc (suc (suc (suc zero)))) = Finish
kind_back (suc (suc (suc (suc (suc zero))))) = Drain
kind_back (suc (suc (suc (suc (suc (suc zero)))))) = Discard
kind_back (suc (suc (suc (suc (suc (suc (suc zero))))))) = End
kind_back (suc (suc (suc (suc (suc (suc (suc (suc n)))))))) = Abandon

back : (k : Kind) → kind_back (number_of k) ≡ k
unfolding kind_back
back Configure = refl
back Begin = refl
back Lists = refl
back Finish = refl
back Drain = refl
back Discard = refl
back End = refl
back Abandon = refl

pub same_kind : (j k : Kind) → number_of j ≡ number_of k → j ≡ k
same_kind j k e = sym (back j) ∙ ap kind_back e ∙ back k

pub one_kind : (r : List ℕ) (a b : Option Kind) → KindIn r a → KindIn r b → a ≡ b
one_kind r None None p q = refl
one_kind r None (Some k) p q = absurd (let z : true ≡ false = sym q.0 ∙ p in cc)
one_kind r (Some j) None p q = absurd (let z : true ≡ false = sym p.0 ∙ q in cc)
one_kind r (Some j) (Some k) p q = ap Some (same_kind j k (p.1 ∙ sym q.1))

-- the number of each kind is one of theirs
is_of : (k : Kind) → is_number (number_of k) ≡ true
is_of Configure = refl
is_of Begin = refl
is_of Lists = refl
is_of Finish = refl
is_of Drain = refl
is_of Discard = refl
is_of End = refl
is_of Abandon = refl

is_reply_of : (k : Kind) → is_reply (reply_to (number_of k)) ≡ true
is_reply_of Configure = refl
is_reply_of Begin = refl
is_reply_of Lists = refl
is_reply_of Finish = refl
is_reply_of Drain = refl
is_reply_of Discard = refl
is_reply_of End = refl
is_reply_of Abandon = refl

-- a kind's number, or one of no kind
pub one_numbered : (n : ℕ) (a b : Result Kind UnknownKind) → Numbered n a → Numbered n b → a ≡ b
one_numbered n (Ok j) (Ok k) p q = ap Ok (same_kind j k (p ∙ sym q))
one_numbered n (Ok j) (Err d) p q = absurd (let z : true ≡ false = sym (is_of j) ∙ ap is_number p ∙ q.1 in cc)
one_numbered n (Err d) (Ok k) p q = absurd (let z : true ≡ false = sym (is_of k) ∙ ap is_number q ∙ p.1 in cc)
one_numbered n (Err d) (Err e) p q = ap (λ (x : ℕ). Err (record { 0 = x })) (p.0 ∙ sym q.0)

pub one_reply : (n : ℕ) (a b : Option Kind) → RepliesTo n a → RepliesTo n b → a ≡ b
one_reply n None None p q = refl
one_reply n None (Some k) p q = absurd (let z : true ≡ false = sym (is_reply_of k) ∙ ap is_reply q ∙ p in cc)
one_reply n (Some j) None p q = absurd (let z : true ≡ false = sym (is_reply_of j) ∙ ap is_reply p ∙ q in cc)
one_reply n (Some j) (Some k) p q = ap Some (same_kind j k (let z = p ∙ sym q in omega (arith, z)))
