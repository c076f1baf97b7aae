-- The marks of the pool's surfaces: what the code makes of a word's bits is what the definitions say of each surface,
-- and pools that agree surface by surface are one pool. So a contract speaks of the definitions' pools, and the code of
-- words. Assumes nothing.
use Prim.Native.Nat.{ℕ, ◌+◌, ◌-◌, ◌/◌, ◌^◌, ◌≤◌, ◌<◌, min}
use mathlib.Core.Path.{◌≡◌, refl, sym, ap, ◌∙◌}
use mathlib.Core.List.{List, [], ◌∷◌}
use mathlib.Core.Bool.{Bool, true, false, cond, not, ◌&&◌, ◌||◌}
use native.Mathlib.Omega.{arith}
use native.Mathlib.Nat.{zero-add, div-one}
use lib.Dec.{leb, ltb, eqb}
use lib.ListN.{length, set, replicate}
use Rattle.std.proofs.lemmas.List.{get_or-set_same, get_or-set_other}
use lib.Bits.{bit_and, bit_or}
use Rattle.std.specs.Int.{w64, bit_not}
use lib.Count.{count_trailing_zeros}
use Rattle.std.specs.Prelude.{None, Some}
use Rattle.std.proofs.Math.Pow.{pow_mono}
use Rattle.std.proofs.lemmas.Nat.{pow_pos, or_lt}
use borrow.Author.Tests.{leb-true, eqb-true, ne_eqb}
use Rattle.paper.specs.declared.Surface.{Surface}
use Rattle.paper.specs.Numbers.{bit, surface_nos, a_surface}
use Rattle.paper.specs.State.{Session, fresh}
use Rattle.paper.specs.Output.{Tail}
use Rattle.paper.specs.Reading.{further}
use Rattle.paper.specs.Accounts.{count}
use Rattle.paper.proofs.Bools.{right, split}
use Rattle.store.specs.StoreWords.{word}
use Rattle.session.specs.Laid.{NormalMemory}
use Rattle.session.specs.View.{Memory, session_in}
use Rattle.pool.specs.Pool.{lowest_free, is_free, can_make, made, surface_at}
use Rattle.pool.specs.Calls.{named, shown_on, told, is_pending, one_less, pool_return}
use Rattle.pool.specs.Memory.{PoolMemory, pool_memory, pool_in, at_most_one, SURFACES, HELD, PENDING}
use Rattle.pool.specs.Said.{Makes, GivesBack}
use Rattle.pool.specs.Marks.{surfaces_of, is_of, hit, Told}
use Rattle.pool.proofs.Bits.{bit_and_lem, bit_or_lem, bit_clear, bit_one, bit_ones, bit_zero, bits_same, lowest_same, lowest_bit}

-- ---- one surface

-- the bit of a surface of the pool, and that of any other
pub bit_of_one : (n x i : ℕ) → x < n → bit i (2 ^ x) ≡ is_of n x i
bit_of_one n x i h =
    let e : eqb i x ≡ is_of n x i = grind arith in
    bit_one i x ∙ e

pub not_of : (n x i : ℕ) → n ≤ x → is_of n x i ≡ false
not_of n x i h = grind arith

pub or_false : (b : Bool) → (b || false) ≡ b
or_false b = grind arith

-- ---- the lowest free surface

free_of : (a h p : Bool) → (a && not (h || p)) ≡ (a && (not h && eqb (cond p 1 0) 0))
free_of a h p = grind arith

ones_fit : (n : ℕ) → n ≤ 64 → 2 ^ n - 1 < 2 ^ 64
ones_fit n h = let k = pow_mono h in let z = pow_pos n in omega (arith, k, z)

-- what the code counts the zeros of
abbrev pub free_bits : ℕ → ℕ → ℕ → ℕ
free_bits all h p = bit_and all (bit_not w64 (bit_or h p))

free_bits_lem : (n h p i : ℕ) → n ≤ 64 → bit_or h p < 2 ^ 64 → bit i (free_bits (2 ^ n - 1) h p) ≡ (ltb i n && (not (bit i h) && eqb (cond (bit i p) 1 0) 0))
free_bits_lem n h p i le lt =
    bit_clear i (2 ^ n - 1) (bit_or h p) (ones_fit n le) lt
    ∙ rw (bit_ones i n, bit_or_lem i h p) (free_of (ltb i n) (bit i h) (bit i p))

pub lowest_is : (ws : List ℕ) (m : Memory) → ((i : ℕ) → word ws i < 2 ^ 64) → count_trailing_zeros 64 (free_bits (2 ^ surfaces_of ws - 1) (word ws HELD) (word ws PENDING)) ≡ lowest_free (pool_in (pool_memory ws m))
unfolding lowest_free
lowest_is ws m wide =
    let w = free_bits (2 ^ surfaces_of ws - 1) (word ws HELD) (word ws PENDING) in
    sym (lowest_same (is_free (pool_in (pool_memory ws m))) (λ i. bit i w) (λ i. sym (free_bits_lem (surfaces_of ws) (word ws HELD) (word ws PENDING) i (omega arith) (or_lt 64 (word ws HELD) (word ws PENDING) (wide HELD) (wide PENDING)))) 64 0
    ∙ lowest_bit w 64 0 ∙ zero-add (count_trailing_zeros 64 (w / 1)) ∙ ap (count_trailing_zeros 64) (div-one w))

pub at_none : (x : ℕ) → x ≡ 64 → None ≡ surface_at x
at_none x e = rw e

pub at_some : (x : ℕ) → (x ≡ 64 → ⊥) → Some (a_surface x) ≡ surface_at x
at_some x n = rw (ne_eqb x 64 n)

-- ---- some surfaces

pub hit_none : (n i : ℕ) → hit n [] i ≡ false
unfolding hit count
hit_none n i = split (ltb i n) (λ e. rw e) (λ e. rw e)

pub hit_more : (n i : ℕ) (x : Surface) (xs : List Surface) → hit n (x ∷ xs) i ≡ (is_of n x.0 i || hit n xs i)
unfolding hit count
hit_more n i x xs = go (ltb i n) (eqb i x.0) (count i (surface_nos xs))
  where
    go : (a b : Bool) (k : ℕ) → not (eqb (cond a (cond b 1 0 + k) 0) 0) ≡ ((a && b) || not (eqb (cond a k 0) 0))
    go a b k = grind arith

not_hit : (n i : ℕ) (xs : List Surface) → not (hit n xs i) ≡ eqb (named n xs i) 0
unfolding hit
not_hit n i xs = go (eqb (named n xs i) 0)
  where
    go : (b : Bool) → not (not b) ≡ b
    go b = grind arith

-- ---- whole pools

pub one_more : (b : Bool) (k : ℕ) → cond (b || not (eqb k 0)) 1 0 ≡ min (cond b 1 0 + k) 1
one_more b k = grind arith

one_hit : (b : Bool) (n : ℕ) (xs : List Surface) (i : ℕ) → cond (b || hit n xs i) 1 0 ≡ min (cond b 1 0 + named n xs i) 1
unfolding hit
one_hit b n xs i = one_more b (named n xs i)

pub pool_told : (ws ws' : List ℕ) (m m' : Memory) (s : Session) (x : ℕ) (t : Tail) (bytes : List ℕ) → Told ws x t ws' → session_in m' ≡ s
    → pool_in (pool_memory ws' m') ≡ at_most_one (told (pool_in (pool_memory ws m)) s x t bytes)
unfolding told further
pool_told ws ws' m m' s x t bytes h e = λ i. record {
  session = e i;
  surfaces = ap (λ (n : ℕ). min n 64) h.surfaces i;
  held = λ y. (h.held y ∙ ap (λ (b : Bool). (bit y (word ws HELD) && b) || is_of (surfaces_of ws) x y) (not_hit (surfaces_of ws) y t.released)) i;
  pending = λ y. (ap (λ (b : Bool). cond b 1 0) (h.pending y) ∙ one_hit (bit y (word ws PENDING)) (surfaces_of ws) (shown_on t.handed) y) i;
  reading = (pool_in (pool_memory ws m)).reading;
}

-- a memory that is left as it was is the pool that is left as it was
pub pool_left : (m : PoolMemory) → pool_in m ≡ at_most_one (pool_in m)
pool_left m = λ i. record {
  session = (pool_in m).session;
  surfaces = (pool_in m).surfaces;
  held = (pool_in m).held;
  pending = λ y. one (bit y (word m.words PENDING)) i;
  reading = (pool_in m).reading;
}
  where
    one : (b : Bool) → cond b 1 0 ≡ min (cond b 1 0) 1
    one b = grind arith

pub pool_made : (ws : List ℕ) (n : ℕ) (m : Memory) → ws ≡ n ∷ 0 ∷ 0 ∷ [] → n ≤ 64 → session_in m ≡ fresh → pool_in (pool_memory ws m) ≡ made n
pool_made ws n m e h s = λ i. record {
  session = s i;
  surfaces = (ap (λ (l : List ℕ). min (word l SURFACES) 64) e ∙ few) i;
  held = λ y. (ap (λ (l : List ℕ). bit y (word l HELD)) e ∙ bit_zero y) i;
  pending = λ y. (ap (λ (l : List ℕ). cond (bit y (word l PENDING)) 1 0) e ∙ ap (λ (b : Bool). cond b 1 0) (bit_zero y)) i;
  reading = (pool_in (pool_memory ws m)).reading;
}
  where
    few : min n 64 ≡ n
    few = omega arith

-- ---- a return

-- of these words, whether a return is pending on surface x
abbrev is_taken : List ℕ → ℕ → Bool
is_taken ws x = ltb x (surfaces_of ws) && bit x (word ws PENDING)

pending_at : (ws : List ℕ) (m : Memory) (x : ℕ) → is_pending (pool_in (pool_memory ws m)) x ≡ is_taken ws x
pending_at ws m x = grind arith

-- by the pending ones among the bits of surface x
module _ (ws : List ℕ) (x b : ℕ) (h : (i : ℕ) → bit i b ≡ is_of (surfaces_of ws) x i) where
  taken_bit : (i : ℕ) → bit i (bit_and (word ws PENDING) b) ≡ (bit i (word ws PENDING) && is_of (surfaces_of ws) x i)
  taken_bit i = rw (bit_and_lem i (word ws PENDING) b, h i)

  not_taken : bit_and (word ws PENDING) b ≡ 0 → is_taken ws x ≡ false
  not_taken e = let z = sym (taken_bit x) ∙ ap (bit x) e ∙ bit_zero x in grind arith

  taken : (bit_and (word ws PENDING) b ≡ 0 → ⊥) → is_taken ws x ≡ true
  taken n = split (is_taken ws x) (λ q. q) (λ q. absurd (n (bits_same _ 0 (λ i. taken_bit i ∙ (no_bit i q ∙ sym (bit_zero i))))))
    where
      no_bit : (i : ℕ) → is_taken ws x ≡ false → (bit i (word ws PENDING) && is_of (surfaces_of ws) x i) ≡ false
      no_bit i q = split (eqb i x) (λ k. let y : i ≡ x = eqb-true i x k in rw y (grind arith)) (λ k. grind arith)

  -- nothing is taken away
  pub gives_none : bit_and (word ws PENDING) b ≡ 0 → GivesBack ws x 19 ws
  unfolding pool_return
  gives_none e =
      let q = not_taken e in
      record {
        number = λ m. rw (pending_at ws m x, q);
        next = λ m. rw (pending_at ws m x, q);
        left = λ _. refl;
        surfaces = refl;
      }

  -- one return is, and the word of the pending ones alone is another
  module _ (three : length ws ≡ 3) (w : ℕ) (c : (i : ℕ) → bit i w ≡ (bit i (word ws PENDING) && not (bit i b))) where
    word_as : (i : ℕ) → (i ≡ PENDING → ⊥) → word (set ws PENDING w) i ≡ word ws i
    word_as i n = get_or-set_other ws PENDING i w 0 n

    less : is_taken ws x ≡ true → (y : ℕ) → cond (bit y w) 1 0 ≡ cond (eqb y x) (cond (bit y (word ws PENDING)) 1 0 - 1) (cond (bit y (word ws PENDING)) 1 0)
    less q y = rw (c y, h y) (grind arith)

    gives_next : is_taken ws x ≡ true → (m : Memory) → pool_in (pool_memory (set ws PENDING w) m) ≡ one_less (pool_in (pool_memory ws m)) x
    gives_next q m = λ i. record {
      session = session_in m;
      surfaces = ap (λ (n : ℕ). min n 64) (word_as SURFACES (omega arith)) i;
      held = λ y. ap (bit y) (word_as HELD (omega arith)) i;
      pending = λ y. (ap (λ (v : ℕ). cond (bit y v) 1 0) (get_or-set_same ws PENDING w 0 (omega arith)) ∙ less q y) i;
      reading = (pool_in (pool_memory ws m)).reading;
    }

    pub gives_back : (bit_and (word ws PENDING) b ≡ 0 → ⊥) → GivesBack ws x 0 (set ws PENDING w)
    unfolding pool_return
    gives_back n =
        let q = taken n in
        record {
          number = λ m. rw (pending_at ws m x, q);
          next = λ m. rw (pending_at ws m x, q) (gives_next q m);
          left = λ k. absurd (k refl);
          surfaces = word_as SURFACES (omega arith);
        }

-- ---- making

pub makes : (m : PoolMemory) (n : ℕ) (ws : List ℕ) (m' : Memory) → can_make n ≡ true → ws ≡ n ∷ 0 ∷ 0 ∷ [] → session_in m' ≡ fresh → NormalMemory m' → m'.sets ≡ replicate 16 0
    → Makes m n 0 (pool_memory ws m')
makes m n ws m' c e s f b =
    let few : n ≤ 64 = leb-true n 64 (right (leb 1 n) (leb n 64) c) in
    record {
      number = rw c;
      made = λ _. pool_made ws n m' e few s;
      normal = λ _. f;
      blank = λ _. b;
      surfaces = λ _. ap (λ (l : List ℕ). word l SURFACES) e;
      left = λ q. absurd (q refl);
    }
