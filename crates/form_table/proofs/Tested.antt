-- A list whose every entry passes a test is the table: the rule, proved by one test that antt computes over all entries.
-- Assumes nothing.
use mathlib.Core.Bool.{Bool, true, false, ◌&&◌}
use mathlib.Core.List.{List, [], ◌∷◌}
use mathlib.Core.Path.{◌≡◌, refl}
use Prim.Native.Nat.{ℕ, zero, suc}
use lib.Dec.{T, eqb, eqb→eq}
use Rattle.basis.proofs.Both.{both_left, both_right}
use Rattle.instruction.specs.Decode.{decode_of, nop_to_add_of, mulsu_to_fmulsu_of, cpse_to_adc_of, and_to_mov_of, immediate_of, displaced_of, load_of, store_of, one_register_of, control_of, indirect_of, word_immediate_of, port_bit_of, port_of, relative_of, branch_or_bit_of, register_bit_of}
use Rattle.form_table.specs.Rule.{entry_of, entries_from}

-- e is the entry at index i
unfoldable pub right : ℕ → ℕ → Bool
unfolding decode_of nop_to_add_of mulsu_to_fmulsu_of cpse_to_adc_of and_to_mov_of immediate_of displaced_of load_of store_of one_register_of control_of indirect_of word_immediate_of port_bit_of port_of relative_of branch_or_bit_of register_bit_of
right i e = eqb e (entry_of i)

-- the list has n entries, and each is right, counted from index i
abbrev pub all_right : ℕ → ℕ → List ℕ → Bool
all_right i zero [] = true
all_right i zero (e ∷ t) = false
all_right i (suc n) [] = false
all_right i (suc n) (e ∷ t) = right i e && all_right (suc i) n t

pub entries : (i n : ℕ) (t : List ℕ) → T (all_right i n t) → t ≡ entries_from i n
unfolding right
entries i zero [] h = refl
entries i zero (e ∷ t) h = absurd h
entries i (suc n) [] h = absurd h
entries i (suc n) (e ∷ t) h =
    let first = eqb→eq e (entry_of i) (both_left (right i e) (all_right (suc i) n t) h) in
    let rest = entries (suc i) n t (both_right (right i e) (all_right (suc i) n t) h) in
    rw (← first, ← rest)
