-- The laws of specs/Fields.antt.
-- Assumes nothing.
use mathlib.Core.Bool.{Bool, true, false}
use mathlib.Core.List.{[], ◌∷◌}
use mathlib.Core.Path.{◌≡◌, refl, sym, ◌∙◌}
use Prim.Native.Nat.{ℕ, ◌+◌, ◌*◌, ◌/◌, ◌%◌, ◌<◌}
use native.Mathlib.Nat.{add-zero}
use native.Mathlib.Omega.{arith}
use lib.Dec.{eqb, ltb}
use Rattle.basis.specs.Pick.{pick}
use Rattle.instruction.specs.Decode.{Cases, look, under, decode_of, ranges, nop_to_add_of, nop_to_add, mulsu_to_fmulsu_of, mulsu_to_fmulsu, cpse_to_adc_of, cpse_to_adc, and_to_mov_of, and_to_mov, immediate_of, immediate, displaced_of, displaced, load_of, load, store_of, store, one_register_of, one_register, control_of, control, control_rest, indirect_of, indirect, word_immediate_of, word_immediate, port_bit_of, port_bit, port_of, port, relative_of, relative, branch_or_bit_of, branch_or_bit, register_bit_of, register_bit}
use Rattle.instruction.specs.Fields.{InFields, FieldsInRange, with_second, SecondWordAlone}
use Rattle.instruction.specs.declared.Instruction.{Instruction}
use Rattle.instruction.proofs.Cases.{All, all_looked, all_ranged}

-- ---- FieldsInRange, table by table
looked : (k : ℕ) (l : Cases) → All InFields l → InFields (look k l)
looked = all_looked InFields tt

ranged : (k : ℕ) (l : Cases) → All InFields l → InFields (under k l)
ranged = all_ranged InFields tt

nop_to_add_in : (w : ℕ) → InFields (nop_to_add_of w)
unfolding nop_to_add_of mulsu_to_fmulsu_of
nop_to_add_in w =
    let products = looked (w / 128 % 2 * 2 + w / 8 % 2) (mulsu_to_fmulsu w) (omega arith) in
    ranged w (nop_to_add w) (tt, (tt, (omega arith, (omega arith, (products, omega arith)))))

control_in : (w : ℕ) → InFields (control_of w)
unfolding control_of
control_in w =
    let rest = looked (w / 16 % 32) control_rest (omega arith) in
    ranged (w / 16 % 32) (control w) (omega arith, (omega arith, (rest, tt)))

one_register_in : (w s : ℕ) → s < 65536 → InFields (one_register_of w s)
unfolding one_register_of indirect_of
one_register_in w s h =
    let r : w / 16 % 32 < 32 = omega arith in
    let jumps = looked (w / 16 % 32) indirect (omega arith) in
    looked (w % 16) (one_register w s) (r, (r, (r, (r, (r, (r, (r, (control_in w, (jumps, omega arith)))))))))

branch_or_bit_in : (w : ℕ) → InFields (branch_or_bit_of w)
unfolding branch_or_bit_of register_bit_of
branch_or_bit_in w =
    let bits = looked (w / 512 % 4 * 2 + w / 8 % 2) (register_bit w) (omega arith) in
    ranged (w / 1024 % 4) (branch_or_bit w) (omega arith, (omega arith, (bits, tt)))

immediate_in : (w : ℕ) → InFields (immediate_of w)
unfolding immediate_of
immediate_in w = looked (w / 4096) (immediate w) (omega arith)

displaced_in : (w : ℕ) → InFields (displaced_of w)
unfolding displaced_of
displaced_in w = looked (w / 512 % 2 * 2 + w / 8 % 2) (displaced w) (omega arith)

pub fields_in_range : FieldsInRange
unfolding decode_of cpse_to_adc_of and_to_mov_of load_of store_of word_immediate_of port_bit_of port_of relative_of
fields_in_range w s h =
    let one = looked (w / 1024 % 4) (cpse_to_adc w) (omega arith) in
    let two = looked (w / 1024 % 4) (and_to_mov w) (omega arith) in
    let loads = looked (w % 16) (load w s) (omega arith) in
    let stores = looked (w % 16) (store w s) (omega arith) in
    let words = looked (w / 256 % 2) (word_immediate w) (omega arith) in
    let port_bits = looked (w / 256 % 4) (port_bit w) (omega arith) in
    let ports = looked (w / 2048 % 2) (port w) (omega arith) in
    let jumps = looked (w / 4096 % 2) (relative w) (omega arith) in
    ranged w (ranges w s)
    (nop_to_add_in w, (one, (two, (immediate_in w, (displaced_in w, (loads, (stores, (one_register_in w s h, (words, (port_bits, (omega arith, (displaced_in w, (ports, (jumps, (immediate_in w, (branch_or_bit_in w, tt))))))))))))))))

-- ---- the second word put into every case of a table is put into what is found in it
abbrev each : ℕ → Cases → Cases
each s [] = []
each s (p ∷ l) = (p.0, with_second s p.1) ∷ each s l

over_pick : (s : ℕ) (t : Bool) (i j j' : Instruction) → with_second s j ≡ j' → with_second s (pick t i j) ≡ pick t (with_second s i) j'
over_pick s true i j j' e = refl
over_pick s false i j j' e = e

over_look : (s k : ℕ) (l : Cases) → with_second s (look k l) ≡ look k (each s l)
over_look s k [] = refl
over_look s k (p ∷ l) = over_pick s (eqb k p.0) p.1 (look k l) _ (over_look s k l)

over_under : (s k : ℕ) (l : Cases) → with_second s (under k l) ≡ under k (each s l)
over_under s k [] = refl
over_under s k (p ∷ l) = over_pick s (ltb k p.0) p.1 (under k l) _ (over_under s k l)

-- ---- SecondWordAlone, table by table
module _ (s w : ℕ) where
  nop_to_add_alone : with_second s (nop_to_add_of w) ≡ nop_to_add_of w
  unfolding nop_to_add_of mulsu_to_fmulsu_of
  nop_to_add_alone = over_under s w (nop_to_add w) ∙ rw (over_look s (w / 128 % 2 * 2 + w / 8 % 2) (mulsu_to_fmulsu w))

  cpse_to_adc_alone : with_second s (cpse_to_adc_of w) ≡ cpse_to_adc_of w
  unfolding cpse_to_adc_of
  cpse_to_adc_alone = over_look s (w / 1024 % 4) (cpse_to_adc w)

  and_to_mov_alone : with_second s (and_to_mov_of w) ≡ and_to_mov_of w
  unfolding and_to_mov_of
  and_to_mov_alone = over_look s (w / 1024 % 4) (and_to_mov w)

  immediate_alone : with_second s (immediate_of w) ≡ immediate_of w
  unfolding immediate_of
  immediate_alone = over_look s (w / 4096) (immediate w)

  displaced_alone : with_second s (displaced_of w) ≡ displaced_of w
  unfolding displaced_of
  displaced_alone = over_look s (w / 512 % 2 * 2 + w / 8 % 2) (displaced w)

  word_immediate_alone : with_second s (word_immediate_of w) ≡ word_immediate_of w
  unfolding word_immediate_of
  word_immediate_alone = over_look s (w / 256 % 2) (word_immediate w)

  port_bit_alone : with_second s (port_bit_of w) ≡ port_bit_of w
  unfolding port_bit_of
  port_bit_alone = over_look s (w / 256 % 4) (port_bit w)

  port_alone : with_second s (port_of w) ≡ port_of w
  unfolding port_of
  port_alone = over_look s (w / 2048 % 2) (port w)

  relative_alone : with_second s (relative_of w) ≡ relative_of w
  unfolding relative_of
  relative_alone = over_look s (w / 4096 % 2) (relative w)

  branch_or_bit_alone : with_second s (branch_or_bit_of w) ≡ branch_or_bit_of w
  unfolding branch_or_bit_of register_bit_of
  branch_or_bit_alone = over_under s (w / 1024 % 4) (branch_or_bit w) ∙ rw (over_look s (w / 512 % 4 * 2 + w / 8 % 2) (register_bit w))

  control_alone : with_second s (control_of w) ≡ control_of w
  unfolding control_of
  control_alone = over_under s (w / 16 % 32) (control w) ∙ rw (over_look s (w / 16 % 32) control_rest)

  indirect_alone : with_second s (indirect_of w) ≡ indirect_of w
  unfolding indirect_of
  indirect_alone = over_look s (w / 16 % 32) indirect

  load_second : with_second s (load_of w 0) ≡ load_of w s
  unfolding load_of
  load_second = over_look s (w % 16) (load w 0)

  store_second : with_second s (store_of w 0) ≡ store_of w s
  unfolding store_of
  store_second = over_look s (w % 16) (store w 0)

  one_register_second : with_second s (one_register_of w 0) ≡ one_register_of w s
  unfolding one_register_of
  one_register_second = over_look s (w % 16) (one_register w 0) ∙ rw (add-zero, control_alone, indirect_alone)

pub second_word_alone : SecondWordAlone
unfolding decode_of
second_word_alone w s =
    sym
    (over_under s w (ranges w 0)
    ∙ rw (nop_to_add_alone s w, cpse_to_adc_alone s w, and_to_mov_alone s w, immediate_alone s w, displaced_alone s w, load_second s w, store_second s w, one_register_second s w, word_immediate_alone s w, port_bit_alone s w, port_alone s w, relative_alone s w, branch_or_bit_alone s w))
