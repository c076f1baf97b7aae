-- Words on lists that document 01 uses without saying so.
use Rattle.std.specs.Prelude.{ℕ, zero, suc, List, [], ◌∷◌, ◌++◌, Bool, true, false, cond, ◌&&◌, ◌||◌}

-- those of which f holds, in order
unfoldable pub keep : {A : Type 0} → (A → Bool) → List A → List A
keep f [] = []
keep f (x ∷ xs) = cond (f x) (x ∷ keep f xs) (keep f xs)

unfoldable pub all_b : {A : Type 0} → (A → Bool) → List A → Bool
all_b f [] = true
all_b f (x ∷ xs) = f x && all_b f xs

unfoldable pub any_b : {A : Type 0} → (A → Bool) → List A → Bool
any_b f [] = false
any_b f (x ∷ xs) = f x || any_b f xs

-- all but the first of which t holds; and all, that one changed
unfoldable pub drop_first : {A : Type 0} → (A → Bool) → List A → List A
drop_first t [] = []
drop_first t (x ∷ xs) = cond (t x) xs (x ∷ drop_first t xs)

unfoldable pub change_first : {A : Type 0} → (A → Bool) → (A → A) → List A → List A
change_first t f [] = []
change_first t f (x ∷ xs) = cond (t x) (f x ∷ xs) (x ∷ change_first t f xs)

-- f 0, f 1, .. f (n - 1)
unfoldable pub table : {A : Type 0} → (ℕ → A) → ℕ → List A
table f zero = []
table f (suc n) = table f n ++ (f n ∷ [])

-- the bytes of each, one after the other
unfoldable pub flat : {A : Type 0} → (A → List ℕ) → List A → List ℕ
flat f [] = []
flat f (x ∷ xs) = f x ++ flat f xs

-- an order of refusals: the number of the first test that holds, else 0
pub record Test : Type 0 where
  pub holds : Bool
  pub number : ℕ

unfoldable pub first : List Test → ℕ
first [] = 0
first (t ∷ ts) = cond t.holds t.number (first ts)

infix 70 ◌gives◌
abbrev pub ◌gives◌ : Bool → ℕ → Test
b gives n = record { holds = b; number = n }
