-- Bytes stored behind the first 32.
-- Assumes nothing.
use Rattle.std.proofs.Common.{◌≡◌, ℕ, ◌+◌, ◌/◌, ◌%◌, Bool, true, false, List, [], ◌∷◌, ◌++◌, length, get_or, take, drop, set, sym, refl, ap, ◌∙◌, suc-add, zero-add, arith, take-append-drop, drop_of_length-le, length-take-le, drop-cons}
use Rattle.basis.specs.Pick.{pick}
use Rattle.run.specs.Settling.{word_put, six}

-- a store behind a part
behind : (p q : List ℕ) (i v : ℕ) → set (p ++ q) (length p + i) v ≡ p ++ set q i v
behind [] q i v = ap (λ (k : ℕ). set q k v) (zero-add i)
behind (x ∷ xs) q i v = ap (λ (k : ℕ). set (x ∷ (xs ++ q)) k v) (suc-add (length xs) i) ∙ ap (λ (r : List ℕ). x ∷ r) (behind xs q i v)

pub stored : (p q : List ℕ) (n i v : ℕ) → length p + i ≡ n → set (p ++ q) n v ≡ p ++ set q i v
stored p q n i v e = ap (λ (k : ℕ). set (p ++ q) k v) (sym e) ∙ behind p q i v

word_stored : (p q : List ℕ) (n i w : ℕ) → length p + i ≡ n → word_put (p ++ q) n w ≡ p ++ word_put q i w
word_stored p q n i w e =
    let f : length p + (i + 1) ≡ n + 1 = omega (arith, e) in
    ap (λ (l : List ℕ). set l (n + 1) (w % 256)) (stored p q n i (w / 256) e) ∙ stored p (set q i (w / 256)) (n + 1) (i + 1) (w % 256) f

-- the six bytes of a snapshot behind its registers
tail : (s : List ℕ) → length s ≡ 38 → s ≡ take 32 s ++ get_or s 32 0 ∷ get_or s 33 0 ∷ get_or s 34 0 ∷ get_or s 35 0 ∷ get_or s 36 0 ∷ get_or s 37 0 ∷ []
tail s e =
    let none : drop 38 s ≡ [] = drop_of_length-le s {i = 38} (omega (arith, e)) in
    sym (take-append-drop 32 s)
    ∙ ap (λ (l : List ℕ). take 32 s ++ l)
    (drop-cons s 32 0 (omega (arith, e))
    ∙ ap (λ (l : List ℕ). get_or s 32 0 ∷ l)
    (drop-cons s 33 0 (omega (arith, e))
    ∙ ap (λ (l : List ℕ). get_or s 33 0 ∷ l)
    (drop-cons s 34 0 (omega (arith, e))
    ∙ ap (λ (l : List ℕ). get_or s 34 0 ∷ l)
    (drop-cons s 35 0 (omega (arith, e))
    ∙ ap (λ (l : List ℕ). get_or s 35 0 ∷ l)
    (drop-cons s 36 0 (omega (arith, e))
    ∙ ap (λ (l : List ℕ). get_or s 36 0 ∷ l) (drop-cons s 37 0 (omega (arith, e)) ∙ ap (λ (l : List ℕ). get_or s 37 0 ∷ l) none))))))

-- what is stored, on any registers p and any six bytes
stores : (p q : List ℕ) (x pc z : ℕ) → length p ≡ 32 → set (set (word_put (p ++ q) 33 pc) 32 x) 37 z ≡ p ++ set (set (word_put q 1 pc) 0 x) 5 z
stores p q x pc z e =
    ap (λ (l : List ℕ). set (set l 32 x) 37 z) (word_stored p q 33 1 pc (omega (arith, e)))
    ∙ ap (λ (l : List ℕ). set l 37 z) (stored p (word_put q 1 pc) 32 0 x (omega (arith, e)))
    ∙ stored p (set (word_put q 1 pc) 0 x) 37 5 z (omega (arith, e))

stores_more : (p q : List ℕ) (x pc sp z : ℕ) → length p ≡ 32
    → set (set (word_put (word_put (p ++ q) 33 pc) 35 sp) 32 x) 37 z ≡ p ++ set (set (word_put (word_put q 1 pc) 3 sp) 0 x) 5 z
stores_more p q x pc sp z e =
    ap (λ (l : List ℕ). set (set (word_put l 35 sp) 32 x) 37 z) (word_stored p q 33 1 pc (omega (arith, e)))
    ∙ ap (λ (l : List ℕ). set (set l 32 x) 37 z) (word_stored p (word_put q 1 pc) 35 3 sp (omega (arith, e)))
    ∙ ap (λ (l : List ℕ). set l 37 z) (stored p (word_put (word_put q 1 pc) 3 sp) 32 0 x (omega (arith, e)))
    ∙ stored p (set (word_put (word_put q 1 pc) 3 sp) 0 x) 37 5 z (omega (arith, e))

-- SREG, PC and the last byte, and SP where it is not what it was
pub settled : (s : List ℕ) (x pc sp z : ℕ) (on : Bool) → length s ≡ 38 → (on ≡ false → (get_or s 35 0 ≡ sp / 256) × (get_or s 36 0 ≡ sp % 256))
    → set (set (pick on (word_put (word_put s 33 pc) 35 sp) (word_put s 33 pc)) 32 x) 37 z ≡ take 32 s ++ six x pc sp z
settled s x pc sp z true e was =
    let p : length (take 32 s) ≡ 32 = length-take-le 32 s (omega (arith, e)) in
    ap (λ (l : List ℕ). set (set (word_put (word_put l 33 pc) 35 sp) 32 x) 37 z) (tail s e) ∙ stores_more (take 32 s) _ x pc sp z p
settled s x pc sp z false e was =
    let p : length (take 32 s) ≡ 32 = length-take-le 32 s (omega (arith, e)) in
    ap (λ (l : List ℕ). set (set (word_put l 33 pc) 32 x) 37 z) (tail s e) ∙ stores (take 32 s) _ x pc z p
    ∙ (λ i. take 32 s ++ x ∷ pc / 256 ∷ pc % 256 ∷ (was refl).0 i ∷ (was refl).1 i ∷ z ∷ [])
