-- A reader of a reply's bytes gets the reply.
use Rattle.paper.specs.declared.Serial.{Serial}
use Rattle.paper.specs.declared.Surface.{Surface}
use Rattle.paper.specs.declared.Shown.{Shown}
use Rattle.paper.specs.declared.Reading.{Reading}
use Rattle.paper.specs.Words.{flat}
use Rattle.paper.specs.Numbers.{u8, u32, i32, bytes32, bit, flag_at, serial_nos, surface_nos, a_serial, a_surface}
use Rattle.paper.specs.Kinds.{begin_kind, lists_kind, reply_offset, reply_to, shown_width}
use Rattle.paper.specs.Poc.{in32}
use Rattle.paper.specs.Sets.{Sets, in_order}
use Rattle.paper.specs.Output.{Tail}
use Rattle.paper.specs.Replies.{Begun, Reply, shown_bytes, words, tail_bytes, begun_bytes, bytes_of}
use Rattle.paper.specs.Ledger.{read_words, read_serials, read_shown, read_released, read_tail, read_sets, read_begun, set_words, read_reply}
use Prim.Native.Nat.{ℕ, suc, ◌+◌, ◌-◌, ◌*◌, ◌/◌, ◌%◌, ◌<◌}
use mathlib.Core.Path.{◌≡◌, refl, sym, ap, ◌∙◌}
use mathlib.Core.List.{List, [], ◌∷◌, ◌++◌, map, append-nil, append_assoc, map-append}
use mathlib.Core.Bool.{Bool, true, false}
use native.Mathlib.Omega.{arith}
use native.Mathlib.Nat.{div-div-eq-div-mul}
use lib.Dec.{eqb}
use lib.ListN.{length, length-map, drop, length-append}
use lib.IntN.{ℤ}
use mir.Val.{to_z, of_z, SFits}
use mir.Syntax.{w32}
use mir.Facts.{to_z-of_z, Fits-of_z}
use borrow.Author.Tests.{ne_eqb, ltb-true}
use Rattle.paper.proofs.Every.{All, all_first, all_last}

abbrev pub Word : ℕ → Type 0
Word n = n < 4294967296

abbrev pub SerialWord : Serial → Type 0
SerialWord n = n.0 < 4294967296

pub record FitShown (x : Shown) : Type 0 where
  pub serial : x.serial.0 < 4294967296
  pub surface : x.surface.0 < 4294967296
  pub poc : in32 x.poc ≡ true

pub record FitTail (t : Tail) : Type 0 where
  pub handed : All FitShown t.handed
  pub thrown : All Word (serial_nos t.thrown)
  pub released : All Word (surface_nos t.released)

pub record FitBegun (b : Begun) : Type 0 where
  pub poc : in32 b.poc ≡ true
  pub serial : b.serial.0 < 4294967296
  pub sets : All SerialWord (in_order b.sets)

pub two_back : (n : ℕ) → n < 65536 → n % 256 + 256 * (n / 256 % 256) ≡ n
two_back n h = omega arith

pub four_back : (n : ℕ) → n < 4294967296 → n % 256 + 256 * (n / 256 % 256) + 65536 * (n / 65536 % 256 + 256 * (n / 16777216 % 256)) ≡ n
four_back n h =
    let a : n / 256 / 256 ≡ n / 65536 = div-div-eq-div-mul n 256 256 in
    let b : n / 65536 / 256 ≡ n / 16777216 = div-div-eq-div-mul n 65536 256 in
    let c : n / 65536 < 65536 = omega arith in
    let d : n % 256 + 256 * (n / 256 % 256) + 65536 * (n / 65536) ≡ n = omega arith in
    let e : n / 65536 % 256 + 256 * (n / 16777216 % 256) ≡ n / 65536 = rw (← b) (two_back (n / 65536) c) in
    omega arith

-- four bytes more
more_words : (n : ℕ) → 4 * suc n ≡ suc (suc (suc (suc (4 * n))))
more_words n = omega arith

more_shown : (n : ℕ) → shown_width * suc n ≡ suc (suc (suc (suc (suc (suc (suc (suc (suc (suc (suc (suc (shown_width * n))))))))))))
more_shown n = omega arith

words_back : (ns rest : List ℕ) → All Word ns → read_words (length ns) (words ns ++ rest) ≡ ns
unfolding words flat read_words bytes32
words_back [] rest a = refl
words_back (n ∷ ns) rest a = rw (four_back n a.0, words_back ns rest a.1)

words_past : (ns rest : List ℕ) → drop (4 * length ns) (words ns ++ rest) ≡ rest
unfolding words flat bytes32
words_past [] rest = refl
words_past (n ∷ ns) rest = rw (more_words (length ns)) (words_past ns rest)

-- the three numbers of a picture handed out
shown_back : (x : Shown) (rest : List ℕ) → FitShown x → record { serial = a_serial (u32 (shown_bytes x ++ rest) 0); surface = a_surface (u32 (shown_bytes x ++ rest) 4); poc = i32 (shown_bytes x ++ rest) 8 } ≡ x
unfolding bytes32
shown_back x rest f =
    let g : SFits w32 x.poc = record { sfits = ltb-true _ _ f.poc } in
    rw (four_back x.serial.0 f.serial, four_back x.surface.0 f.surface, four_back (of_z w32 x.poc) (Fits-of_z g).fits, to_z-of_z g)

all_shown_back : (st : Reading) (xs : List Shown) (rest : List ℕ) → All FitShown xs → read_shown st (length xs) (flat shown_bytes xs ++ rest) ≡ xs
unfolding flat read_shown bytes32
all_shown_back st [] rest a = refl
all_shown_back st (x ∷ xs) rest a = λ i. shown_back x (flat shown_bytes xs ++ rest) a.0 i ∷ all_shown_back st xs rest a.1 i

shown_past : (xs : List Shown) (rest : List ℕ) → drop (shown_width * length xs) (flat shown_bytes xs ++ rest) ≡ rest
unfolding flat bytes32
shown_past [] rest = refl
shown_past (x ∷ xs) rest = rw (more_shown (length xs)) (shown_past xs rest)

-- a count and as many words
counted_back : (ns rest : List ℕ) → All Word ns → read_released ((length ns ∷ words ns) ++ rest) ≡ ns
unfolding read_released
counted_back ns rest a = words_back ns rest a

-- as serials, and as surfaces
serials_again : (ns : List Serial) → map a_serial (serial_nos ns) ≡ ns
serials_again [] = refl
serials_again (n ∷ ns) = rw (serials_again ns)

surfaces_again : (xs : List Surface) → map a_surface (surface_nos xs) ≡ xs
surfaces_again [] = refl
surfaces_again (x ∷ xs) = rw (surfaces_again xs)

serials_past : (ns : List Serial) (rest : List ℕ) → drop (4 * length ns) (words (serial_nos ns) ++ rest) ≡ rest
serials_past ns rest = rw (length-map ns (λ (n : Serial). n.0)) at (words_past (serial_nos ns) rest)

serials_back : (ns : List Serial) (rest : List ℕ) → All Word (serial_nos ns) → map a_serial (read_released ((length ns ∷ words (serial_nos ns)) ++ rest)) ≡ ns
serials_back ns rest a = rw (length-map ns (λ (n : Serial). n.0)) at (ap (map a_serial) (counted_back (serial_nos ns) rest a) ∙ serials_again ns)

surfaces_back : (xs : List Surface) (rest : List ℕ) → All Word (surface_nos xs) → map a_surface (read_released ((length xs ∷ words (surface_nos xs)) ++ rest)) ≡ xs
surfaces_back xs rest a = rw (length-map xs (λ (x : Surface). x.0)) at (ap (map a_surface) (counted_back (surface_nos xs) rest a) ∙ surfaces_again xs)

tails : {h h' : List Shown} {t t' : List Serial} {r r' : List Surface} → h ≡ h' → t ≡ t' → r ≡ r' → ◌≡◌ {A = Tail} (record { handed = h; thrown = t; released = r }) (record { handed = h'; thrown = t'; released = r' })
tails p q o = λ i. record { handed = p i; thrown = q i; released = o i }

-- what stands behind the pictures handed out, and behind those thrown away
module _ (t : Tail) where
  abbrev T : List ℕ
  T = length t.thrown ∷ words (serial_nos t.thrown)

  abbrev R : List ℕ
  R = length t.released ∷ words (surface_nos t.released)

  past : drop (shown_width * length t.handed) (flat shown_bytes t.handed ++ T ++ R) ≡ T ++ R
  past = rw (append_assoc (flat shown_bytes t.handed) T R) (shown_past t.handed (T ++ R))

  past_twice : drop (4 * u8 (drop (shown_width * length t.handed) (flat shown_bytes t.handed ++ T ++ R)) 0) (drop 1 (drop (shown_width * length t.handed) (flat shown_bytes t.handed ++ T ++ R))) ≡ R
  past_twice = rw past (serials_past t.thrown R)

  pub tail_back : (st : Reading) → FitTail t → read_tail st (tail_bytes t) ≡ t
  unfolding read_tail tail_bytes
  tail_back st f =
      tails (rw (append_assoc (flat shown_bytes t.handed) T R) (all_shown_back st t.handed (T ++ R) f.handed))
      (ap (λ (bs : List ℕ). map a_serial (read_released bs)) past ∙ serials_back t.thrown R f.thrown)
      (ap (λ (bs : List ℕ). map a_surface (read_released bs)) (past_twice ∙ sym (append-nil R)) ∙ surfaces_back t.released [] f.released)

-- the words of lists one after the other
flat_append : (ns ms : List ℕ) → words (ns ++ ms) ≡ words ns ++ words ms
unfolding words flat
flat_append [] ms = refl
flat_append (n ∷ ns) ms = rw (flat_append ns ms) (sym (append_assoc (bytes32 n) (flat bytes32 ns) (flat bytes32 ms)))

abbrev named : List Serial → List ℕ
named ns = words (serial_nos ns)

named_append : (ns ms : List Serial) → named (ns ++ ms) ≡ named ns ++ named ms
named_append ns ms = ap words (map-append (λ (n : Serial). n.0) ns ms) ∙ flat_append (serial_nos ns) (serial_nos ms)

named_back : (ns : List Serial) (rest : List ℕ) → All SerialWord ns → read_serials (length ns) (named ns ++ rest) ≡ ns
unfolding words flat read_words bytes32
named_back [] rest a = refl
named_back (n ∷ ns) rest a = rw (four_back n.0 a.0, named_back ns rest a.1)

module _ (x : Sets) (rest : List ℕ) where
  abbrev W5 : List ℕ
  W5 = named x.before ++ (named x.after ++ (named x.foll ++ (named x.lt_curr ++ (named x.lt_foll ++ rest))))

  in_words : named (in_order x) ++ rest ≡ W5
  in_words =
      rw (named_append (x.before ++ x.after ++ x.foll ++ x.lt_curr) x.lt_foll, named_append (x.before ++ x.after ++ x.foll) x.lt_curr, named_append (x.before ++ x.after) x.foll, named_append x.before x.after)
      (simp append_assoc)

  -- behind the first, the first two, .. sets
  past1 : drop (4 * length x.before) W5 ≡ named x.after ++ (named x.foll ++ (named x.lt_curr ++ (named x.lt_foll ++ rest)))
  past1 = serials_past x.before _

  past2 : drop (4 * length x.after) (drop (4 * length x.before) W5) ≡ named x.foll ++ (named x.lt_curr ++ (named x.lt_foll ++ rest))
  past2 = rw past1 (serials_past x.after _)

  past3 : drop (4 * length x.foll) (drop (4 * length x.after) (drop (4 * length x.before) W5)) ≡ named x.lt_curr ++ (named x.lt_foll ++ rest)
  past3 = rw past2 (serials_past x.foll _)

  past4 : drop (4 * length x.lt_curr) (drop (4 * length x.foll) (drop (4 * length x.after) (drop (4 * length x.before) W5))) ≡ named x.lt_foll ++ rest
  past4 = rw past3 (serials_past x.lt_curr _)

  sets_back : All SerialWord (in_order x) → read_sets (length x.before) (length x.after) (length x.foll) (length x.lt_curr) (length x.lt_foll) (named (in_order x) ++ rest) ≡ x
  unfolding read_sets
  sets_back a =
      let a1 = all_first SerialWord (x.before ++ x.after ++ x.foll ++ x.lt_curr) x.lt_foll a in
      let a2 = all_first SerialWord (x.before ++ x.after ++ x.foll) x.lt_curr a1 in
      let a3 = all_first SerialWord (x.before ++ x.after) x.foll a2 in
      rw in_words
      (five_sets (named_back x.before _ (all_first SerialWord x.before x.after a3))
      (ap (read_serials (length x.after)) past1 ∙ named_back x.after _ (all_last SerialWord x.before x.after a3))
      (ap (read_serials (length x.foll)) past2 ∙ named_back x.foll _ (all_last SerialWord (x.before ++ x.after) x.foll a2))
      (ap (read_serials (length x.lt_curr)) past3 ∙ named_back x.lt_curr _ (all_last SerialWord (x.before ++ x.after ++ x.foll) x.lt_curr a1))
      (ap (read_serials (length x.lt_foll)) past4 ∙ named_back x.lt_foll rest (all_last SerialWord (x.before ++ x.after ++ x.foll ++ x.lt_curr) x.lt_foll a)))
    where
      five_sets : {a a' b b' c c' d d' e e' : List Serial} → a ≡ a' → b ≡ b' → c ≡ c' → d ≡ d' → e ≡ e'
          → ◌≡◌ {A = Sets} (record { before = a; after = b; foll = c; lt_curr = d; lt_foll = e }) (record { before = a'; after = b'; foll = c'; lt_curr = d'; lt_foll = e' })
      five_sets p q o r t = λ i. record { before = p i; after = q i; foll = o i; lt_curr = r i; lt_foll = t i }

-- four flags in a byte
pub record Flags (n : ℕ) (a b c d : Bool) : Type 0 where
  pub is0 : bit 0 n ≡ a
  pub is1 : bit 1 n ≡ b
  pub is2 : bit 2 n ≡ c
  pub is3 : bit 3 n ≡ d

pub flags_back : (a b c d : Bool) → Flags (flag_at 0 a + flag_at 1 b + flag_at 2 c + flag_at 3 d) a b c d
unfolding bit
flags_back true true true true = record { is0 = refl; is1 = refl; is2 = refl; is3 = refl }
flags_back true true true false = record { is0 = refl; is1 = refl; is2 = refl; is3 = refl }
flags_back true true false true = record { is0 = refl; is1 = refl; is2 = refl; is3 = refl }
flags_back true true false false = record { is0 = refl; is1 = refl; is2 = refl; is3 = refl }
flags_back true false true true = record { is0 = refl; is1 = refl; is2 = refl; is3 = refl }
flags_back true false true false = record { is0 = refl; is1 = refl; is2 = refl; is3 = refl }
flags_back true false false true = record { is0 = refl; is1 = refl; is2 = refl; is3 = refl }
flags_back true false false false = record { is0 = refl; is1 = refl; is2 = refl; is3 = refl }
flags_back false true true true = record { is0 = refl; is1 = refl; is2 = refl; is3 = refl }
flags_back false true true false = record { is0 = refl; is1 = refl; is2 = refl; is3 = refl }
flags_back false true false true = record { is0 = refl; is1 = refl; is2 = refl; is3 = refl }
flags_back false true false false = record { is0 = refl; is1 = refl; is2 = refl; is3 = refl }
flags_back false false true true = record { is0 = refl; is1 = refl; is2 = refl; is3 = refl }
flags_back false false true false = record { is0 = refl; is1 = refl; is2 = refl; is3 = refl }
flags_back false false false true = record { is0 = refl; is1 = refl; is2 = refl; is3 = refl }
flags_back false false false false = record { is0 = refl; is1 = refl; is2 = refl; is3 = refl }

pub length_order : (x : Sets) → length (in_order x) ≡ length x.before + length x.after + length x.foll + length x.lt_curr + length x.lt_foll
length_order x = simp length-append

begunly : {p p' : ℤ} {a a' b b' c c' d d' : Bool} {n n' : Serial} {x x' : Sets} → p ≡ p' → a ≡ a' → b ≡ b' → c ≡ c' → d ≡ d' → n ≡ n' → x ≡ x'
    → ◌≡◌ {A = Begun} (record { poc = p; no_rasl_pics = a; output = b; valid = c; no_prior_pics = d; serial = n; sets = x }) (record { poc = p'; no_rasl_pics = a'; output = b'; valid = c'; no_prior_pics = d'; serial = n'; sets = x' })
begunly p a b c d n x = λ i. record { poc = p i; no_rasl_pics = a i; output = b i; valid = c i; no_prior_pics = d i; serial = n i; sets = x i }

begun_back : (b : Begun) (rest : List ℕ) → FitBegun b → read_begun (begun_bytes b ++ rest) ≡ b
unfolding read_begun begun_bytes bytes32
begun_back b rest f =
    let g : SFits w32 b.poc = record { sfits = ltb-true _ _ f.poc } in
    let k = flags_back b.no_rasl_pics b.output b.valid b.no_prior_pics in
    begunly (ap (to_z w32) (four_back (of_z w32 b.poc) (Fits-of_z g).fits) ∙ to_z-of_z g) k.is0 k.is1 k.is2 k.is3 (ap a_serial (four_back b.serial.0 f.serial))
    (sets_back b.sets rest f.sets)

begun_past : (b : Begun) (rest : List ℕ) → drop (4 * set_words (begun_bytes b ++ rest)) (drop 14 (begun_bytes b ++ rest)) ≡ rest
unfolding begun_bytes bytes32
begun_past b rest = ap (λ (n : ℕ). drop (4 * n) (named (in_order b.sets) ++ rest)) (sym (length_order b.sets)) ∙ serials_past (in_order b.sets) rest

abbrev pub Fit : Reply → Type 0
Fit (Reply.Refused kind n) = (kind < 65536) × (n < 65536) × (n ≡ 0 → ⊥)
Fit (Reply.Done kind t) = (kind < 256) × (kind ≡ begin_kind → ⊥) × (kind ≡ lists_kind → ⊥) × FitTail t
Fit (Reply.Started b t) = FitBegun b × FitTail t
Fit (Reply.Listed l0 l1) = All SerialWord l0 × All SerialWord l1

pub read_back : (st : Reading) (x : Reply) → Fit x → read_reply st (bytes_of x) ≡ x
unfolding read_reply bytes_of
read_back st (Reply.Refused kind n) f = rw (two_back kind f.0, two_back n f.1, ne_eqb n 0 f.2)
read_back st (Reply.Done kind t) f =
    let e : reply_to kind < 65536 = omega (arith, f.0) in
    let a : eqb (reply_to kind) (reply_to begin_kind) ≡ false = ne_eqb (reply_to kind) (reply_to begin_kind) (λ z. f.1 (omega arith)) in
    let b : eqb (reply_to kind) (reply_to lists_kind) ≡ false = ne_eqb (reply_to kind) (reply_to lists_kind) (λ z. f.2 (omega arith)) in
    let c : reply_to kind - reply_offset ≡ kind = omega arith in
    rw (two_back (reply_to kind) e, a, b, c, tail_back t st f.3)
read_back st (Reply.Started b t) f = λ i. Reply.Started (begun_back b (tail_bytes t) f.0 i) ((ap (read_tail st) (begun_past b (tail_bytes t)) ∙ tail_back t st f.1) i)
read_back st (Reply.Listed l0 l1) f =
    let e : named (l0 ++ l1) ≡ named l0 ++ named l1 = named_append l0 l1 in
    let a : read_serials (length l0) (named (l0 ++ l1)) ≡ l0 = rw e (named_back l0 (named l1) f.0) in
    let d : drop (4 * length l0) (named (l0 ++ l1)) ≡ named l1 = rw e (serials_past l0 (named l1)) in
    let b : read_serials (length l1) (drop (4 * length l0) (named (l0 ++ l1))) ≡ l1 = rw (d, ← append-nil (named l1)) (named_back l1 [] f.1) in
    λ i. Reply.Listed (a i) (b i)
