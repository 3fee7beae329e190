-- The layouts of one word: no operand above its bound is inside its field, so one test below the bounds judges every instruction of a layout.
-- C is an instruction by its fields, o its pattern with 0 for the letters.
-- Assumes nothing.
use Prim.Native.Nat.{ℕ, ◌+◌, ◌*◌, ◌-◌, ◌/◌, ◌%◌, ◌<◌, ◌≤◌}
use native.Mathlib.Omega.{arith}
use mathlib.Core.Bool.{Bool, true, false, not, ◌&&◌, ◌||◌}
use mathlib.Core.Logic.{◌⊎◌, inl, inr, ⊎_elim}
use mathlib.Core.Path.{◌≡◌, sym}
use lib.Dec.{T, ltb, leb, eqb}
use borrow.Author.Tests.{ltb-true, leb-true}
use Rattle.basis.proofs.Both.{both_true}
use Rattle.basis.proofs.Choice.{clash, test}
use Rattle.basis.proofs.Every.{every, at}
use Rattle.instruction.specs.declared.Instruction.{Instruction}
use Rattle.encode.specs.Encode.{is_register, is_high, is_low, is_pair, is_last_pair, is_bit, is_offset7, is_offset12}
use Rattle.round_trip.proofs.Judged.{Judged, Family, right, judged_at}

or_right : (a b : Bool) → a ≡ true → T (not a || b) → T b
or_right true b h t = t
or_right false b h t = clash (sym h)

-- ---- no field
pub bare : (o : ℕ) (i : Instruction) → Family (λ x y. i) (λ x y. true) (λ x y. o) → T (right i o) → Judged i
bare o i F t = judged_at (λ x y. i) (λ x y. true) (λ x y. o) F 0 0 (λ h. t)

-- ---- one field
pub record One : Type 0 where
  pub inside : ℕ → Bool
  pub word : ℕ → ℕ → ℕ
  pub most : ℕ
  pub below : (x : ℕ) → inside x ≡ true → x < most

abbrev pub FamilyOne : One → ℕ → (ℕ → Instruction) → Type 0
FamilyOne l o C = Family (λ x y. C x) (λ x y. l.inside x) (λ x y. l.word o x)

abbrev pub rights_one : One → ℕ → (ℕ → Instruction) → Bool
rights_one l o C = every l.most (λ x. not (l.inside x) || right (C x) (l.word o x))

pub one : (l : One) (o : ℕ) (C : ℕ → Instruction) → FamilyOne l o C → T (rights_one l o C) → (x : ℕ) → Judged (C x)
one l o C F t x =
    judged_at (λ x y. C x) (λ x y. l.inside x) (λ x y. l.word o x) F x 0
    (λ h. or_right (l.inside x) _ h (at (λ x. not (l.inside x) || right (C x) (l.word o x)) l.most t x (l.below x h)))

-- ---- two fields
pub record Two : Type 0 where
  pub inside : ℕ → Bool
  pub inside₂ : ℕ → Bool
  pub word : ℕ → ℕ → ℕ → ℕ
  pub most : ℕ
  pub most₂ : ℕ
  pub below : (x : ℕ) → inside x ≡ true → x < most
  pub below₂ : (y : ℕ) → inside₂ y ≡ true → y < most₂

abbrev pub FamilyTwo : Two → ℕ → (ℕ → ℕ → Instruction) → Type 0
FamilyTwo l o C = Family C (λ x y. l.inside x && l.inside₂ y) (l.word o)

abbrev pub rights_two : Two → ℕ → (ℕ → ℕ → Instruction) → Bool
rights_two l o C = every l.most (λ x. every l.most₂ (λ y. not (l.inside x && l.inside₂ y) || right (C x y) (l.word o x y)))

pub two : (l : Two) (o : ℕ) (C : ℕ → ℕ → Instruction) → FamilyTwo l o C → T (rights_two l o C) → (x y : ℕ) → Judged (C x y)
two l o C F t x y =
    judged_at C (λ x y. l.inside x && l.inside₂ y) (l.word o) F x y
    (λ h.
    let (a, b) = both_true (l.inside x) (l.inside₂ y) h in
    let row = at (λ x. every l.most₂ (λ y. not (l.inside x && l.inside₂ y) || right (C x y) (l.word o x y))) l.most t x (l.below x a) in
    or_right (l.inside x && l.inside₂ y) _ h (at (λ y. not (l.inside x && l.inside₂ y) || right (C x y) (l.word o x y)) l.most₂ row y (l.below₂ y b)))

-- ---- the bounds
pub under : (n x : ℕ) → ltb x n ≡ true → x < n
under n x h = ltb-true x n h

-- of a test whose second part is the bound, and of one whose first part is it
pub ends_under : (t : ℕ → Bool) (n x : ℕ) → (t x && ltb x n) ≡ true → x < n
ends_under t n x h = ltb-true x n (both_true (t x) (ltb x n) h).1

pub begins_under : (t : ℕ → Bool) (n x : ℕ) → (ltb x n && t x) ≡ true → x < n
begins_under t n x h = ltb-true x n (both_true (ltb x n) (t x) h).0

pub last_under : (x : ℕ) → is_last_pair x ≡ true → x < 32
last_under x h = begins_under (λ x. eqb (x % 2) 0) 32 x (both_true (leb 24 x) (is_pair x) h).1

-- an offset is below n, or above m and below the end of its type
pub offset : (n m end k : ℕ) → (ltb k n || (leb m k && ltb k end)) ≡ true → (k < n) ⊎ ((m ≤ k) × (k < end))
offset n m end k h =
    test (ltb k n) (λ e. inl (ltb-true k n e))
    (λ e. let (a, b) = both_true (leb m k) (ltb k end) (rw e at h) in inr (leb-true m k a, ltb-true k end b))

pub offset_under : (k : ℕ) → is_offset7 k ≡ true → k < 256
offset_under k h = ⊎_elim (λ a. omega arith) (λ b. b.1) (offset 64 192 256 k h)

-- ---- the layouts, in the words of crates/encode/specs/Encode.antt
abbrev pub register : One
register = record { inside = is_register; word = λ o d. o + d * 16; most = 32; below = under 32 }

abbrev pub registers : Two
registers = record { inside = is_register; inside₂ = is_register; word = λ o d r. o + r / 16 * 512 + d * 16 + r % 16; most = 32; most₂ = 32; below = under 32; below₂ = under 32 }

abbrev pub high_registers : Two
high_registers = record { inside = is_high; inside₂ = is_high; word = λ o d r. o + d % 16 * 16 + r % 16; most = 32; most₂ = 32; below = ends_under (leb 16) 32; below₂ = ends_under (leb 16) 32 }

abbrev pub low_registers : Two
low_registers = record { inside = is_low; inside₂ = is_low; word = λ o d r. o + d % 8 * 16 + r % 8; most = 24; most₂ = 24; below = ends_under (leb 16) 24; below₂ = ends_under (leb 16) 24 }

abbrev pub pairs : Two
pairs = record { inside = is_pair; inside₂ = is_pair; word = λ o d r. o + d / 2 * 16 + r / 2; most = 32; most₂ = 32; below = begins_under (λ x. eqb (x % 2) 0) 32; below₂ = begins_under (λ x. eqb (x % 2) 0) 32 }

abbrev pub constant : Two
constant = record { inside = is_high; inside₂ = λ K. ltb K 256; word = λ o d K. o + K / 16 * 256 + d % 16 * 16 + K % 16; most = 32; most₂ = 256; below = ends_under (leb 16) 32; below₂ = under 256 }

abbrev pub pair_constant : Two
pair_constant = record { inside = is_last_pair; inside₂ = λ K. ltb K 64; word = λ o d K. o + K / 16 * 64 + d / 2 % 4 * 16 + K % 16; most = 32; most₂ = 64; below = last_under; below₂ = under 64 }

abbrev pub register_bit : Two
register_bit = record { inside = is_register; inside₂ = is_bit; word = λ o d b. o + d * 16 + b; most = 32; most₂ = 8; below = under 32; below₂ = under 8 }

abbrev pub port_bit : Two
port_bit = record { inside = λ A. ltb A 32; inside₂ = is_bit; word = λ o A b. o + A * 8 + b; most = 32; most₂ = 8; below = under 32; below₂ = under 8 }

abbrev pub port : Two
port = record { inside = is_register; inside₂ = λ A. ltb A 64; word = λ o d A. o + A / 16 * 512 + d * 16 + A % 16; most = 32; most₂ = 64; below = under 32; below₂ = under 64 }

abbrev pub displaced : Two
displaced = record { inside = is_register; inside₂ = λ q. ltb q 64; word = λ o d q. o + q / 32 * 8192 + q / 8 % 4 * 1024 + d * 16 + q % 8; most = 32; most₂ = 64; below = under 32; below₂ = under 64 }

abbrev pub flag : One
flag = record { inside = is_bit; word = λ o s. o + s * 16; most = 8; below = under 8 }

abbrev pub branch : Two
branch = record { inside = is_bit; inside₂ = is_offset7; word = λ o s k. o + k % 128 * 8 + s; most = 8; most₂ = 256; below = under 8; below₂ = offset_under }

-- ---- the offset of 12 bits, tested in its two halves
abbrev pub rights_low : ℕ → (ℕ → Instruction) → Bool
rights_low o C = every 2048 (λ k. right (C k) (o + k % 4096))

abbrev pub rights_high : ℕ → (ℕ → Instruction) → Bool
rights_high o C = every 2048 (λ j. right (C (63488 + j)) (o + (63488 + j) % 4096))

pub relative : (o : ℕ) (C : ℕ → Instruction) → Family (λ k y. C k) (λ k y. is_offset12 k) (λ k y. o + k % 4096) → T (rights_low o C) → T (rights_high o C) → (k : ℕ) → Judged (C k)
relative o C F low high k =
    judged_at (λ k y. C k) (λ k y. is_offset12 k) (λ k y. o + k % 4096) F k 0
    (λ h.
    ⊎_elim (at (λ k. right (C k) (o + k % 4096)) 2048 low k)
    (λ b.
    let e : 63488 + (k - 63488) ≡ k = omega arith in
    rw e at (at (λ j. right (C (63488 + j)) (o + (63488 + j) % 4096)) 2048 high (k - 63488) (omega arith)))
    (offset 2048 63488 65536 k h))
