-- Text laid into a lent part of a buffer is laid into the buffer, and text behind text is laid as one.
use Prim.Native.Nat.{ℕ, ◌+◌, ◌≤◌}
use mathlib.Core.Path.{◌≡◌, refl, sym, ap, ap₂, subst, ◌∙◌}
use mathlib.Core.List.{List, [], ◌++◌, append_assoc}
use native.Mathlib.Omega.{arith}
use lib.ListN.{length, take, drop, length-append, take-append-drop}
use lib.Seq.{sets, sets-eq, length-take-le, take-take, take_at, drop_at, drop-drop, take-append-le, drop-append-le}
use Rattle.wire.specs.Bytes.{over}
use Rattle.stream.specs.Laid.{laid_at, Puts}
use Rattle.stream.specs.Text.{Wrote}

-- the part from `made` on, of which the k first bytes are lent
pub laid_part : {part : List ℕ} (made k : ℕ) (text before : List ℕ) → length text ≤ length (take k (drop made before)) → part ≡ over text (take k (drop made before))
    → take made before ++ (part ++ drop k (drop made before)) ≡ laid_at made text before
unfolding over
laid_part {part} made k text before h e =
    let mid = take k (drop made before) in
    let post = drop k (drop made before) in
    let rest : drop (length text) mid ++ post ≡ drop (length text) (drop made before) = sym (drop-append-le (length text) mid post h) ∙ ap (drop (length text)) (take-append-drop k (drop made before)) in
    ap (λ (l : List ℕ). take made before ++ l) (ap (λ (l : List ℕ). l ++ post) e ∙ append_assoc text (drop (length text) mid) post ∙ ap (λ (l : List ℕ). text ++ l) rest)

-- bytes stored one behind the other are laid there
pub sets_laid : (made : ℕ) (text l : List ℕ) → made + length text ≤ length l → sets l made text ≡ laid_at made text l
unfolding over
sets_laid made text l h =
    sets-eq text l made h
    ∙ append_assoc (take made l) text (drop (made + length text) l)
    ∙ ap (λ (x : List ℕ). take made l ++ (text ++ x)) (sym (drop-drop (length text) made l))

-- a head that is stored in front of text is laid with it
pub head_laid : (made : ℕ) (head text l : List ℕ) → made + length head ≤ length l → sets (laid_at (made + length head) text l) made head ≡ laid_at made (head ++ text) l
unfolding over
head_laid made head text l h =
    let n = made + length head in
    let front = take n l in
    let rest = over text (drop n l) in
    let long : length front ≡ n = length-take-le n l h in
    let both : length (front ++ rest) ≡ length front + length rest = length-append front rest in
    let all : length (head ++ text) ≡ length head + length text = length-append head text in
    let end = drop (length (head ++ text)) (drop made l) in
    let behind : n + length text ≡ made + length (head ++ text) = omega arith in
    let same : drop (length text) (drop n l) ≡ end = drop-drop (length text) n l ∙ ap (λ (k : ℕ). drop k l) behind ∙ sym (drop-drop (length (head ++ text)) made l) in
    sets-eq head (front ++ rest) made (omega arith)
    ∙ ap₂ (λ (x y : List ℕ). x ++ head ++ y) (take-append-le made front rest (omega arith) ∙ take-take made n l (omega arith)) (drop_at front rest n long)
    ∙ append_assoc (take made l) head rest
    ∙ ap (λ (x : List ℕ). take made l ++ (head ++ (text ++ x))) same
    ∙ ap (λ (x : List ℕ). take made l ++ x) (sym (append_assoc head text end))

-- and more behind what was put
pub put_more : {made len : ℕ} {before middle after : List ℕ} (front text : List ℕ) → Puts made front before middle → len ≡ length text → after ≡ laid_at made text middle → Puts (made + len) (front ++ text) before after
unfolding over
put_more {made} {len} {before} front text p n e =
    let l = drop (length front) before in
    record {
      long = ap₂ (λ (x y : ℕ). x + y) p.long n ∙ sym (length-append front text);
      bytes =
          e
          ∙ ap (laid_at made text) p.bytes
          ∙ ap₂ (λ (x y : List ℕ). x ++ (text ++ drop (length text) y)) (take_at front l made (sym p.long)) (drop_at front l made (sym p.long))
          ∙ ap (λ (x : List ℕ). front ++ (text ++ x)) (drop-drop (length text) (length front) before ∙ ap (λ (k : ℕ). drop k before) (sym (length-append front text)))
          ∙ sym (append_assoc front text (drop (length (front ++ text)) before));
    }

-- so is what a writer wrote there, within its room
pub put_wrote : {made most r : ℕ} {before middle after : List ℕ} (front text : List ℕ) → Puts made front before middle → made + most ≤ length middle → Wrote middle made text most r after → Puts r (front ++ text) before after
unfolding over
put_wrote {made} {before = before} {middle = middle} {after = after} front text p h w =
    let n = w.place in
    let k = w.fits in
    subst (λ (m : ℕ). Puts m (front ++ text) before after) (sym n) (put_more front text p refl (w.bytes ∙ sets_laid made text middle (omega arith)))

-- what was put is found again
pub put_front : {made : ℕ} {text before after : List ℕ} → Puts made text before after → take made after ≡ text
unfolding over
put_front {made} {text} {before} p = ap (take made) p.bytes ∙ take_at text (drop (length text) before) made (sym p.long)

pub put_none : (l : List ℕ) → Puts 0 [] l l
unfolding over
put_none l = record { long = refl; bytes = refl }

-- where the text is empty, nothing was put
pub none_put : {made : ℕ} {text before after : List ℕ} → Puts made text before after → text ≡ [] → (made ≡ 0) × (after ≡ before)
unfolding over
none_put {before = before} p e = (p.long ∙ ap length e, p.bytes ∙ ap (λ (l : List ℕ). over l before) e)
