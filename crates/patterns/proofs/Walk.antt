-- A test of arms against `decode_of` over all words: it goes down the 16 bits and keeps the arms whose pattern still fits.
-- Assumes nothing.
use Prim.Native.Nat.{ℕ, zero, suc, ◌+◌, ◌*◌}
use mathlib.Core.Bool.{Bool, true, false, ◌&&◌}
use mathlib.Core.List.{List, [], ◌∷◌}
use lib.Dec.{T, eqb}
use Rattle.basis.proofs.Both.{both_join}
use Rattle.instruction.proofs.Tests.{same}
use Rattle.instruction.specs.Decode.{decode_of, nop_to_add_of, mulsu_to_fmulsu_of, cpse_to_adc_of, and_to_mov_of, immediate_of, displaced_of, load_of, store_of, one_register_of, control_of, indirect_of, word_immediate_of, port_bit_of, port_of, relative_of, branch_or_bit_of, register_bit_of}
use Rattle.instruction.specs.declared.Instruction.{Instruction}
use Rattle.instruction.specs.declared.Instruction.TheVariants.{UNDEF}
use Rattle.patterns.specs.Pattern.{fixed, letter, Letters, Body, plain, wide, Arm, arm, take}

-- the arms that still fit after one more bit
abbrev pub advance : ℕ → List Arm → List Arm
advance b [] = []
advance b (arm [] x m ∷ l) = advance b l
advance b (arm (fixed v ∷ ps) x m ∷ l) = elim (eqb v b) [ true ↦ arm ps x m ∷ advance b l | false ↦ advance b l ]
advance b (arm (letter c ∷ ps) x m ∷ l) = arm ps (take c b x) m ∷ advance b l

-- past the last bit: the first arm left gives i; an arm with a second word gives, with 0 for that, i₀
abbrev pub gives : Body → Letters → Instruction → Instruction → Bool
gives (plain f) x i i₀ = same (f x) i
gives (wide g) x i i₀ = same (g x 0) i₀

abbrev pub leaf : List Arm → Instruction → Instruction → Bool
leaf [] i i₀ = same UNDEF i
leaf (arm [] x m ∷ l) i i₀ = gives m x i i₀
leaf (arm (p ∷ ps) x m ∷ l) i i₀ = leaf l i i₀

-- with n bits to go, after bits that make v
unfoldable pub walk : ℕ → ℕ → List Arm → ℕ → Bool
unfolding decode_of nop_to_add_of mulsu_to_fmulsu_of cpse_to_adc_of and_to_mov_of immediate_of displaced_of load_of store_of one_register_of control_of indirect_of word_immediate_of port_bit_of port_of relative_of branch_or_bit_of register_bit_of
walk s zero l v = leaf l (decode_of v s) (decode_of v 0)
walk s (suc n) l v = walk s n (advance 0 l) (v * 2) && walk s n (advance 1 l) (v * 2 + 1)

join : (s n : ℕ) (l : List Arm) (v : ℕ) → T (walk s n (advance 0 l) (v * 2)) → T (walk s n (advance 1 l) (v * 2 + 1)) → T (walk s (suc n) l v)
unfolding walk
join s n l v t u = both_join (walk s n (advance 0 l) (v * 2)) (walk s n (advance 1 l) (v * 2 + 1)) t u

-- the whole test from its four quarters: a quarter is as much as one declaration may compute
pub quarters : (s : ℕ) (l : List Arm)
    → T (walk s 14 (advance 0 (advance 0 l)) 0) → T (walk s 14 (advance 1 (advance 0 l)) 1)
    → T (walk s 14 (advance 0 (advance 1 l)) 2) → T (walk s 14 (advance 1 (advance 1 l)) 3)
    → T (walk s 16 l 0)
quarters s l a b c d = join s 15 l 0 (join s 14 (advance 0 l) 0 a b) (join s 14 (advance 1 l) 1 c d)
