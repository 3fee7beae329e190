-- A row of the manual's table is the port's group of flags, and a result's zero test is its size's. Each row is one computed test over SREG and its flags.
-- Assumes nothing.
use mathlib.Core.Path.{◌≡◌, refl, sym}
use mathlib.Core.Bool.{Bool, true, false, not, ◌&&◌, beq}
use Prim.Native.Nat.{ℕ, ◌/◌, ◌%◌, ◌<◌}
use native.Mathlib.Omega.{arith}
use lib.Dec.{eqb, eqb→eq}
use borrow.Author.Tests.{eq-eqb, ne_eqb}
use Rattle.basis.specs.Bit.{put}
use Rattle.basis.proofs.Every.{agreed}
use Rattle.bits.proofs.Booleans.{tauto, tests_agree, five_agree}
use Rattle.cores.specs.State.{cz, znvs, cznvs, cznvsh}
use Rattle.manual.specs.Notation.{◌⊕◌, zero8, zero16, kept, is, row, bit_to}

pub row_cznvsh : (h v n z c : Bool) (s : ℕ) → s < 256 → row s kept kept (is h) (is (n ⊕ v)) (is v) (is n) (is z) (is c) ≡ cznvsh s c z n v h
unfolding row cznvsh cznvs znvs put
row_cznvsh = five_agree 256 (λ h v n z c s. row s kept kept (is h) (is (n ⊕ v)) (is v) (is n) (is z) (is c)) (λ h v n z c s. cznvsh s c z n v h) tt

pub row_cznvs : (v n z c : Bool) (s : ℕ) → s < 256 → row s kept kept kept (is (n ⊕ v)) (is v) (is n) (is z) (is c) ≡ cznvs s c z n v
unfolding row cznvs znvs put
row_cznvs = five_agree 256 (λ _ v n z c s. row s kept kept kept (is (n ⊕ v)) (is v) (is n) (is z) (is c)) (λ _ v n z c s. cznvs s c z n v) tt true

pub row_znvs : (v n z : Bool) (s : ℕ) → s < 256 → row s kept kept kept (is (n ⊕ v)) (is v) (is n) (is z) kept ≡ znvs s z n v
unfolding row znvs put
row_znvs = five_agree 256 (λ _ _ v n z s. row s kept kept kept (is (n ⊕ v)) (is v) (is n) (is z) kept) (λ _ _ v n z s. znvs s z n v) tt true true

pub row_cz : (z c : Bool) (s : ℕ) → s < 256 → row s kept kept kept kept kept kept (is z) (is c) ≡ cz s c z
unfolding row cz put
row_cz = five_agree 256 (λ _ _ _ z c s. row s kept kept kept kept kept kept (is z) (is c)) (λ _ _ _ z c s. cz s c z) tt true true true

pub row_t : (t : Bool) (s : ℕ) → s < 256 → row s kept (is t) kept kept kept kept kept kept ≡ put s 6 t
unfolding row put
row_t = five_agree 256 (λ _ _ _ _ t s. row s kept (is t) kept kept kept kept kept kept) (λ _ _ _ _ t s. put s 6 t) tt true true true true

pub bit_to_lem : (t : Bool) (s b : ℕ) → s < 256 → b < 8 → bit_to s b t ≡ put s b t
unfolding bit_to row put
bit_to_lem true = agreed 256 8 (λ s b. bit_to s b true) (λ s b. put s b true) tt
bit_to_lem false = agreed 256 8 (λ s b. bit_to s b false) (λ s b. put s b false) tt

pub xor_is : (n v : Bool) → n ⊕ v ≡ not (beq n v)
xor_is n v = tauto (λ n v _. n ⊕ v) (λ n v _. not (beq n v)) tt n v true

-- ---- Z
pub zero8_is : (x : ℕ) → x < 256 → zero8 x ≡ eqb x 0
unfolding zero8
zero8_is = tests_agree 256 (λ x. zero8 x) (λ x. eqb x 0) tt

halves : (x : ℕ) (a b : Bool) → eqb (x / 256) 0 ≡ a → eqb (x % 256) 0 ≡ b → a && b ≡ eqb x 0
halves x true true p q = sym (eq-eqb x 0 (omega (arith, eqb→eq (x / 256) 0 (rw p tt), eqb→eq (x % 256) 0 (rw q tt))))
halves x true false p q = sym (ne_eqb x 0 (λ z. let f : eqb (x % 256) 0 ≡ true = rw z in let n : ◌≡◌ {A = ℕ} 0 1 = cc in omega arith))
halves x false b p q = sym (ne_eqb x 0 (λ z. let f : eqb (x / 256) 0 ≡ true = rw z in let n : ◌≡◌ {A = ℕ} 0 1 = cc in omega arith))

pub zero16_is : (x : ℕ) → x < 65536 → zero16 x ≡ eqb x 0
zero16_is x h = rw (zero8_is (x / 256) (omega arith), zero8_is (x % 256) (omega arith)) (halves x (eqb (x / 256) 0) (eqb (x % 256) 0) refl refl)
