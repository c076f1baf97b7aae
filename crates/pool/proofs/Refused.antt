-- What `make` and `give_back` answer is told by its number.
use Rattle.std.proofs.Common.{ℕ, ◌≡◌, refl, ap, arith, Result, Ok, Err}
use Rattle.pool.specs.declared.Refusal.{Refusal}
use Rattle.pool.specs.declared.Refusal.TheVariants.{NoneFree, NonePending, BadCount}
use Rattle.pool.specs.Numbered.{number_of, number_in}

same_refusal : (r s : Refusal) → number_of r ≡ number_of s → r ≡ s
same_refusal NoneFree NoneFree e = refl
same_refusal NoneFree NonePending e = absurd (omega (arith, e))
same_refusal NoneFree BadCount e = absurd (omega (arith, e))
same_refusal NonePending NoneFree e = absurd (omega (arith, e))
same_refusal NonePending NonePending e = refl
same_refusal NonePending BadCount e = absurd (omega (arith, e))
same_refusal BadCount NoneFree e = absurd (omega (arith, e))
same_refusal BadCount NonePending e = absurd (omega (arith, e))
same_refusal BadCount BadCount e = refl

not_none : (r : Refusal) → 0 ≡ number_of r → ⊥
not_none NoneFree e = omega (arith, e)
not_none NonePending e = omega (arith, e)
not_none BadCount e = omega (arith, e)

pub same_answer : (a b : Result (Unit {0}) Refusal) → number_in a ≡ number_in b → a ≡ b
same_answer (Ok _) (Ok _) e = refl
same_answer (Ok _) (Err s) e = absurd (not_none s e)
same_answer (Err r) (Ok _) e = absurd (not_none r (omega (arith, e)))
same_answer (Err r) (Err s) e = ap Err (same_refusal r s e)
