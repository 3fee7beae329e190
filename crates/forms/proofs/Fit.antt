-- What a word decodes to has the fields that its form says: case by case of each table of `decode_of`.
-- Assumes nothing.
use mathlib.Core.Path.{◌≡◌, refl}
use Prim.Native.Nat.{ℕ, ◌+◌, ◌*◌, ◌/◌, ◌%◌}
use Rattle.instruction.specs.Decode.{Cases, look, under, decode_of, ranges, nop_to_add_of, nop_to_add, mulsu_to_fmulsu_of, mulsu_to_fmulsu, cpse_to_adc_of, cpse_to_adc, and_to_mov_of, and_to_mov, immediate_of, immediate, displaced_of, displaced, load_of, load, store_of, store, one_register_of, one_register, control_of, control, control_rest, indirect_of, indirect, word_immediate_of, word_immediate, port_bit_of, port_bit, port_of, port, relative_of, relative, branch_or_bit_of, branch_or_bit, register_bit_of, register_bit}
use Rattle.instruction.specs.declared.Instruction.{Instruction}
use Rattle.instruction.proofs.Cases.{All, all_looked, all_ranged}
use Rattle.forms.specs.Forms.{form}
use Rattle.forms.specs.Instructions.{instruction_of}

module _ (w s : ℕ) where
  -- i has the fields that the two words have for its form
  abbrev Fits : Instruction → Type 0
  Fits i = instruction_of (form i) w s ≡ i

  looked : (k : ℕ) (l : Cases) → All Fits l → Fits (look k l)
  unfolding instruction_of
  looked = all_looked Fits refl

  ranged : (k : ℕ) (l : Cases) → All Fits l → Fits (under k l)
  unfolding instruction_of
  ranged = all_ranged Fits refl

  products : Fits (mulsu_to_fmulsu_of w)
  unfolding mulsu_to_fmulsu_of instruction_of
  products = looked (w / 128 % 2 * 2 + w / 8 % 2) (mulsu_to_fmulsu w) (refl, (refl, (refl, (refl, tt))))

  lowest : Fits (nop_to_add_of w)
  unfolding nop_to_add_of instruction_of
  lowest = ranged w (nop_to_add w) (refl, (refl, (refl, (refl, (products, (refl, (refl, (refl, tt))))))))

  compared : Fits (cpse_to_adc_of w)
  unfolding cpse_to_adc_of instruction_of
  compared = looked (w / 1024 % 4) (cpse_to_adc w) (refl, (refl, (refl, (refl, tt))))

  moved : Fits (and_to_mov_of w)
  unfolding and_to_mov_of instruction_of
  moved = looked (w / 1024 % 4) (and_to_mov w) (refl, (refl, (refl, (refl, tt))))

  constants : Fits (immediate_of w)
  unfolding immediate_of instruction_of
  constants = looked (w / 4096) (immediate w) (refl, (refl, (refl, (refl, (refl, (refl, tt))))))

  displacements : Fits (displaced_of w)
  unfolding displaced_of instruction_of
  displacements = looked (w / 512 % 2 * 2 + w / 8 % 2) (displaced w) (refl, (refl, (refl, (refl, tt))))

  loads : Fits (load_of w s)
  unfolding load_of instruction_of
  loads = looked (w % 16) (load w s) (refl, (refl, (refl, (refl, (refl, (refl, (refl, (refl, (refl, (refl, (refl, tt)))))))))))

  stores : Fits (store_of w s)
  unfolding store_of instruction_of
  stores = looked (w % 16) (store w s) (refl, (refl, (refl, (refl, (refl, (refl, (refl, (refl, (refl, tt)))))))))

  controls : Fits (control_of w)
  unfolding control_of instruction_of
  controls =
      let rest = looked (w / 16 % 32) control_rest (refl, (refl, (refl, (refl, (refl, (refl, tt)))))) in
      ranged (w / 16 % 32) (control w) (refl, (refl, (rest, tt)))

  jumps : Fits (indirect_of w)
  unfolding indirect_of instruction_of
  jumps = looked (w / 16 % 32) indirect (refl, (refl, tt))

  registers : Fits (one_register_of w s)
  unfolding one_register_of instruction_of
  registers =
      looked (w % 16) (one_register w s)
      (refl, (refl, (refl, (refl, (refl, (refl, (refl, (controls, (jumps, (refl, (refl, (refl, (refl, (refl, tt))))))))))))))

  words : Fits (word_immediate_of w)
  unfolding word_immediate_of instruction_of
  words = looked (w / 256 % 2) (word_immediate w) (refl, (refl, tt))

  port_bits : Fits (port_bit_of w)
  unfolding port_bit_of instruction_of
  port_bits = looked (w / 256 % 4) (port_bit w) (refl, (refl, (refl, (refl, tt))))

  ports : Fits (port_of w)
  unfolding port_of instruction_of
  ports = looked (w / 2048 % 2) (port w) (refl, (refl, tt))

  offsets : Fits (relative_of w)
  unfolding relative_of instruction_of
  offsets = looked (w / 4096 % 2) (relative w) (refl, (refl, tt))

  branches : Fits (branch_or_bit_of w)
  unfolding branch_or_bit_of register_bit_of instruction_of
  branches =
      let bits = looked (w / 512 % 4 * 2 + w / 8 % 2) (register_bit w) (refl, (refl, (refl, (refl, tt)))) in
      ranged (w / 1024 % 4) (branch_or_bit w) (refl, (refl, (bits, tt)))

  pub fields_fit : Fits (decode_of w s)
  unfolding decode_of instruction_of
  fields_fit =
      ranged w (ranges w s)
      (lowest, (compared, (moved, (constants, (displacements, (loads, (stores, (registers, (words, (port_bits, (refl, (displacements, (ports, (offsets, (constants, (branches, tt))))))))))))))))
