-- Lists (8.3.4).
use Rattle.std.specs.Prelude.{ℕ, ◌-◌, ◌%◌, max, List, [], ◌∷◌, ◌++◌, map, Bool, cond, not, ◌&&◌, length, get_or, set, ltb, leb, eqb}
use Rattle.paper.specs.declared.Serial.{Serial}
use Rattle.paper.specs.Words.{table, any_b}
use Rattle.paper.specs.Numbers.{missing, capacity_limit}
use Rattle.paper.specs.State.{Refs}
use Rattle.paper.specs.Records.{ListAsk, Slice}

-- "candidates are Before, After, LtCurr for list 0 and After, Before, LtCurr for list 1, then the current picture if
-- flagged"
abbrev pub own_of : Bool → Serial → List Serial
own_of own c = cond own (c ∷ []) []

abbrev pub candidates0 : Refs → Bool → Serial → List Serial
candidates0 x own c = x.before ++ x.after ++ x.lt_curr ++ own_of own c

abbrev pub candidates1 : Refs → Bool → Serial → List Serial
candidates1 x own c = x.after ++ x.before ++ x.lt_curr ++ own_of own c

-- "With n candidates, place j is candidate j mod n; with the modify bit it is the candidate at the entry byte."
abbrev pub placed : List Serial → ListAsk → List Serial
placed cs a =
    cond a.modify (map (λ (e : ℕ). get_or cs e missing) a.entries)
    (table (λ (j : ℕ). get_or cs (j % length cs) missing) a.active)

-- "List 0 with bit 2, no modify bit and n > a0 has the current picture in its last active place (8.3.4)."
abbrev pub last_is_own : Slice → List Serial → Bool
last_is_own f cs = f.own && not f.ask0.modify && ltb f.ask0.active (length cs)

-- "I gives two empty lists."
unfoldable pub list0 : Refs → Serial → Slice → List Serial
list0 x c f =
    cond f.ask0.uses
    (cond (last_is_own f (candidates0 x f.own c))
    (set (placed (candidates0 x f.own c) f.ask0) (f.ask0.active - 1) c)
    (placed (candidates0 x f.own c) f.ask0))
    []

unfoldable pub list1 : Refs → Serial → Slice → List Serial
list1 x c f = cond f.ask1.uses (placed (candidates1 x f.own c) f.ask1) []

-- number 10: "P or B slice with no candidate"
unfoldable pub no_candidate : Refs → Serial → Slice → Bool
no_candidate x c f = f.ask0.uses && eqb (length (candidates0 x f.own c)) 0

-- number 11: "max(active, candidates) exceeds 16 for a list that the slice type uses"
unfoldable pub too_many : ListAsk → List Serial → Bool
too_many a cs = a.uses && ltb capacity_limit (max a.active (length cs))

-- number 12: "an entry byte is not below the number of candidates"
unfoldable pub bad_entry : ListAsk → List Serial → Bool
bad_entry a cs = any_b (λ (e : ℕ). leb (length cs) e) a.entries
