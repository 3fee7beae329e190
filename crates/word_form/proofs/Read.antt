-- Which words have a second one. w is a word, i an instruction.
-- Assumes nothing.
use mathlib.Core.Bool.{Bool, false, ◌&&◌, ◌||◌, beq}
use mathlib.Core.List.{[], ◌∷◌, ◌++◌}
use mathlib.Core.Path.{◌≡◌, refl, ap, ◌∙◌}
use Prim.Native.Nat.{ℕ, ◌+◌, ◌*◌, ◌/◌, ◌%◌, ◌-◌, ◌<◌, ◌≤◌}
use native.Mathlib.Omega.{arith}
use lib.Dec.{T, eqb, ltb, leb}
use borrow.Author.Tests.{ltb-true, ltb-false, ne_eqb, lt-ltb, le-ltb}
use Rattle.basis.proofs.Choice.{same, test}
use Rattle.basis.proofs.Every.{every, at}
use Rattle.instruction.specs.Code.{two_words}
use Rattle.instruction.specs.Decode.{Cases, look, under, decode_of, nop_to_add_of, nop_to_add, mulsu_to_fmulsu_of, mulsu_to_fmulsu, cpse_to_adc_of, cpse_to_adc, and_to_mov_of, and_to_mov, immediate_of, immediate, displaced_of, displaced, load_of, store_of, one_register_of, control_of, indirect_of, word_immediate_of, word_immediate, port_bit_of, port_bit, mul_of, port_of, port, relative_of, relative, branch_or_bit_of, branch_or_bit, register_bit_of, register_bit}
use Rattle.instruction.specs.declared.Instruction.{Instruction}
use Rattle.instruction.proofs.Cases.{Past, All, all_looked, all_ranged}

-- LDS and STS; JMP and CALL
abbrev pub second_of : ℕ → Bool
second_of w = (eqb (w / 1024) 36 && eqb (w % 16) 0) || (eqb (w / 512) 74 && leb 12 (w % 16))

not_second : (w : ℕ) → (w / 1024 ≡ 36 → ⊥) → (w / 512 ≡ 74 → ⊥) → second_of w ≡ false
not_second w a b = rw (ne_eqb (w / 1024) 36 a, ne_eqb (w / 512) 74 b)

-- ---- instructions of one word
abbrev One : Instruction → Type 0
One i = false ≡ two_words i

looked : (k : ℕ) (l : Cases) → All One l → One (look k l)
looked = all_looked One refl

ranged : (k : ℕ) (l : Cases) → All One l → One (under k l)
ranged = all_ranged One refl

-- ---- a table of ranges up to the one that k is in, and behind the last that k is past
upto : (k : ℕ) (l r : Cases) (p : ℕ × Instruction) → k < p.0 → under k (l ++ p ∷ []) ≡ under k (l ++ p ∷ r)
upto k [] r p h = rw (lt-ltb k p.0 h)
upto k (q ∷ l) r p h = rw (upto k l r p h)

behind : (k : ℕ) (l r : Cases) → Past k l → under k r ≡ under k (l ++ r)
behind k [] r h = refl
behind k (q ∷ l) r h = rw (le-ltb k q.0 h.0) (behind k l r h.1)

module _ (w : ℕ) where
  products : One (mulsu_to_fmulsu_of w)
  unfolding mulsu_to_fmulsu_of
  products = looked (w / 128 % 2 * 2 + w / 8 % 2) (mulsu_to_fmulsu w) (refl, (refl, (refl, (refl, tt))))

  lowest : One (nop_to_add_of w)
  unfolding nop_to_add_of
  lowest = ranged w (nop_to_add w) (refl, (refl, (refl, (refl, (products, (refl, (refl, (refl, tt))))))))

  compared : One (cpse_to_adc_of w)
  unfolding cpse_to_adc_of
  compared = looked (w / 1024 % 4) (cpse_to_adc w) (refl, (refl, (refl, (refl, tt))))

  moved : One (and_to_mov_of w)
  unfolding and_to_mov_of
  moved = looked (w / 1024 % 4) (and_to_mov w) (refl, (refl, (refl, (refl, tt))))

  constants : One (immediate_of w)
  unfolding immediate_of
  constants = looked (w / 4096) (immediate w) (refl, (refl, (refl, (refl, (refl, (refl, tt))))))

  displacements : One (displaced_of w)
  unfolding displaced_of
  displacements = looked (w / 512 % 2 * 2 + w / 8 % 2) (displaced w) (refl, (refl, (refl, (refl, tt))))

  words : One (word_immediate_of w)
  unfolding word_immediate_of
  words = looked (w / 256 % 2) (word_immediate w) (refl, (refl, tt))

  port_bits : One (port_bit_of w)
  unfolding port_bit_of
  port_bits = looked (w / 256 % 4) (port_bit w) (refl, (refl, (refl, (refl, tt))))

  ports : One (port_of w)
  unfolding port_of
  ports = looked (w / 2048 % 2) (port w) (refl, (refl, tt))

  offsets : One (relative_of w)
  unfolding relative_of
  offsets = looked (w / 4096 % 2) (relative w) (refl, (refl, tt))

  branches : One (branch_or_bit_of w)
  unfolding branch_or_bit_of register_bit_of
  branches =
      let bits = looked (w / 512 % 4 * 2 + w / 8 % 2) (register_bit w) (refl, (refl, (refl, (refl, tt)))) in
      ranged (w / 1024 % 4) (branch_or_bit w) (refl, (refl, (bits, tt)))

  -- the ranges below 0x9000, but the last; and those from 0x9600 on
  abbrev low : Cases
  low = (0x1000, nop_to_add_of w) ∷ (0x2000, cpse_to_adc_of w) ∷ (0x3000, and_to_mov_of w) ∷ (0x8000, immediate_of w) ∷ []

  abbrev middle : Cases
  middle = (0x9200, load_of w 0) ∷ (0x9400, store_of w 0) ∷ (0x9600, one_register_of w 0) ∷ []

  abbrev high : Cases
  high =
      (0x9800, word_immediate_of w) ∷
      (0x9C00, port_bit_of w) ∷
      (0xA000, mul_of w) ∷
      (0xB000, displaced_of w) ∷
      (0xC000, port_of w) ∷
      (0xE000, relative_of w) ∷
      (0xF000, immediate_of w) ∷
      (0x10000, branch_or_bit_of w) ∷
      []

  below : w < 0x9000 → One (decode_of w 0)
  unfolding decode_of
  below h =
      ranged w (low ++ (0x9000, displaced_of w) ∷ []) (lowest, (compared, (moved, (constants, (displacements, tt)))))
      ∙ ap two_words (upto w low (middle ++ high) (0x9000, displaced_of w) h)

  above : 0x9600 ≤ w → One (decode_of w 0)
  unfolding decode_of
  above h =
      ranged w high (words, (port_bits, (refl, (displacements, (ports, (offsets, (constants, (branches, tt))))))))
      ∙ ap two_words (behind w (low ++ (0x9000, displaced_of w) ∷ middle) high (omega (arith, h)))

-- ---- the words between, by a test that antt computes over the 1,536 of them
right : ℕ → Bool
unfolding decode_of load_of store_of one_register_of control_of indirect_of
right w = beq (second_of w) (two_words (decode_of w 0))

all_right : T (every 0x600 (λ x. right (0x9000 + x)))
unfolding right
all_right = tt

between : (w : ℕ) → 0x9000 ≤ w → w < 0x9600 → second_of w ≡ two_words (decode_of w 0)
unfolding right
between w l h =
    let again : 0x9000 + (w - 0x9000) ≡ w = omega (arith, l) in
    let t = at (λ x. right (0x9000 + x)) 0x600 all_right (w - 0x9000) (omega (arith, l, h)) in
    same (second_of w) (two_words (decode_of w 0)) (rw again at t)

pub second_is : (w : ℕ) → second_of w ≡ two_words (decode_of w 0)
second_is w =
    test (ltb w 0x9000)
    (λ e. let h = ltb-true w 0x9000 e in not_second w (λ e. omega (arith, h, e)) (λ e. omega (arith, h, e)) ∙ below w h)
    (λ e. test (ltb w 0x9600) (λ f. between w (ltb-false w 0x9000 e) (ltb-true w 0x9600 f))
    (λ f. let h = ltb-false w 0x9600 f in not_second w (λ e. omega (arith, h, e)) (λ e. omega (arith, h, e)) ∙ above w h))
