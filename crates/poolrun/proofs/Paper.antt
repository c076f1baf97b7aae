-- Item 10 of the program's own bytes: on a pool that calls reached from a made one at most one return is pending on
-- each surface, so the memory holds the whole of it, and the program's machine answers and goes on just as the
-- definitions' machine does.
use Prim.Native.Nat.{ℕ, ◌≤◌}
use mathlib.Core.Path.{◌≡◌, refl, sym, ap, subst, ◌∙◌}
use mathlib.Core.List.{List, [], ◌∷◌, ◌++◌, map}
use mathlib.Core.Bool.{Bool, true}
use lib.Dec.{ltb}
use lib.ListN.{take, drop, take-append-drop}
use Rattle.paper.specs.Numbers.{u32}
use Rattle.paper.specs.Words.{all_b}
use Rattle.paper.proofs.Bools.{by_case, both, left, right}
use Rattle.format.specs.Cut.{joined, cut, rest_of}
use Rattle.format.proofs.Cutting.{is_cut, all_append, all_parts, all_joined}
use Rattle.pool.specs.Pool.{Pool, can_make, made}
use Rattle.pool.specs.History.{Call, Lends, Returns, BytesIn, answer_to, after, heard_from, after_all}
use Rattle.pool.specs.Memory.{at_most_one}
use Rattle.pool.specs.Statement.{Promises}
use Rattle.pool.proofs.Item10.{item_10}
use Rattle.pool.proofs.Following.{few_pending}
use Rattle.filter.specs.Machine.{outs, state_after}
use Rattle.filter.specs.Turns.{Stand, waiting, Serves}
use Rattle.filter.proofs.Answering.{after_append}
use Rattle.poolrun.specs.Files.{is_return, call_in, answer_kind, answer_bytes}
use Rattle.poolrun.specs.Machine.{exactly, pools}
use Rattle.poolrun.specs.Ran.{Pooled}

-- ---- calls are bytes

abbrev is_byte : ℕ → Bool
is_byte b = ltb b 256

abbrev Bytes : List (List ℕ) → Type 0
Bytes cs = all_b (all_b is_byte) cs ≡ true

-- those that some bytes are cut into
cut_bytes : {all : List ℕ} (cs : List (List ℕ)) (rest : List ℕ) → joined cs ++ rest ≡ all → all_b is_byte all ≡ true → Bytes cs
cut_bytes cs rest e b = all_joined is_byte cs (all_parts is_byte (joined cs) rest (ap (all_b is_byte) e ∙ b)).0

call_bytes : (c : List ℕ) → all_b is_byte c ≡ true → BytesIn (call_in c) ≡ true
unfolding call_in
call_bytes c b =
    by_case (λ (x : Call). BytesIn x ≡ true) (is_return c) (Returns (u32 c 4)) (Lends (drop 4 c) 512) (λ _. refl)
    (λ _. (all_parts is_byte (take 4 c) (drop 4 c) (ap (all_b is_byte) (take-append-drop 4 c) ∙ b)).1)

calls_bytes : (cs : List (List ℕ)) → Bytes cs → all_b BytesIn (map call_in cs) ≡ true
unfolding all_b
calls_bytes [] b = refl
calls_bytes (c ∷ cs) b = both (call_bytes c (left (all_b is_byte c) (all_b (all_b is_byte) cs) b)) (calls_bytes cs (right (all_b is_byte c) (all_b (all_b is_byte) cs) b))

-- ---- the definitions' machine goes through the pools of the definitions

after_is : (p : Pool) (cs : List (List ℕ)) → state_after exactly p cs ≡ after_all p (map call_in cs)
unfolding state_after after_all
after_is p [] = refl
after_is p (c ∷ cs) = after_is (after p (call_in c)) cs

module _ (n : ℕ) (can : can_make n ≡ true) where
  -- the pool after some calls is one that a memory can hold
  all_held : (cs : List (List ℕ)) → Bytes cs → at_most_one (state_after exactly (made n) cs) ≡ state_after exactly (made n) cs
  all_held cs b =
      let e : after_all (made n) (map call_in cs) ≡ state_after exactly (made n) cs = sym (after_is (made n) cs) in
      few_pending (state_after exactly (made n) cs) (subst (λ (p : Pool). (x : ℕ) → p.pending x ≤ 1) e (item_10 n can (map call_in cs) (calls_bytes cs b)).pends.one)

  -- and so both machines go on alike, behind the calls bs
  alike : (bs cs : List (List ℕ)) → Bytes bs → Bytes cs → (outs pools (state_after exactly (made n) bs) cs ≡ outs exactly (state_after exactly (made n) bs) cs) × (state_after pools (state_after exactly (made n) bs) cs ≡ state_after exactly (state_after exactly (made n) bs) cs)
  unfolding outs state_after all_b
  alike bs [] old new = (refl, refl)
  alike bs (c ∷ cs) old new =
      let p = state_after exactly (made n) bs in
      let q = after p (call_in c) in
      let seen : Bytes (bs ++ (c ∷ [])) = all_append (all_b is_byte) bs (c ∷ []) old (both (left (all_b is_byte c) (all_b (all_b is_byte) cs) new) refl) in
      let ends : state_after exactly (made n) (bs ++ (c ∷ [])) ≡ q = after_append exactly (made n) bs (c ∷ []) in
      let few : at_most_one q ≡ q = subst (λ (v : Pool). at_most_one v ≡ v) ends (all_held (bs ++ (c ∷ [])) seen) in
      let rest = subst (λ (v : Pool). (outs pools v cs ≡ outs exactly v cs) × (state_after pools v cs ≡ state_after exactly v cs)) ends (alike (bs ++ (c ∷ [])) cs seen (right (all_b is_byte c) (all_b (all_b is_byte) cs) new)) in
      let said = answer_bytes (answer_kind c) (answer_to p (call_in c)) in
      (ap (λ (l : List (List ℕ)). said ∷ l) (ap (λ (v : Pool). outs pools v cs) few ∙ rest.0), ap (λ (v : Pool). state_after pools v cs) few ∙ rest.1)

  -- ITEM 10 OF WHAT WAS READ AND WHAT WAS MADE. What is read are bytes: `brought_bytes` of filter has it of the lent
  -- buffers
  pub pool_run : (s : Stand Pool) (t : Serves pools (made n) s) → all_b (λ (b : ℕ). ltb b 256) t.R ≡ true → Pooled n t.R t.W s
  unfolding state_after all_b
  pool_run s t bytes =
      let cs = t.said in
      let b = cut_bytes cs (waiting s) (sym t.kept) bytes in
      let e = alike [] cs refl b in
      let at : s.state ≡ after_all (made n) (map call_in cs) = t.state ∙ e.1 ∙ after_is (made n) cs in
      record {
        said = cs;
        whole = t.whole;
        kept = t.kept;
        answered = t.replied ∙ ap joined e.0;
        pool = at;
        promises = subst (λ (p : Pool). Promises n p (heard_from (made n) (map call_in cs))) (sym at) (item_10 n can (map call_in cs) (calls_bytes cs b));
        all =
            λ m u.
            let k = t.all m u in
            (k.0 ∙ ap joined (alike [] (cut t.R) refl (cut_bytes (cut t.R) (rest_of t.R) (is_cut t.R).joins bytes)).0, k.1);
      }
