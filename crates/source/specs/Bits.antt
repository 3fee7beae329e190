-- cores.rs 960 to 1097, BIT MANIPULATION INSTRUCTIONS, statement by statement; the number behind a name is its line.
use Rattle.std.specs.Prelude.{true, false, not, ℕ, eqb}
use Rattle.std.specs.Int.Bits.{bit_and, bit_or}
use Rattle.source.specs.Monad.{Rust, ◌>>=◌, ◌>>◌, if'◌then◌else◌, self_sreg, self_sp, sreg=, sp=}
use Rattle.source.specs.Integers.{◌+u8◌, ◌<<u8◌, ◌<<u16◌, ◌>>u8◌, u8::not, u16::not, u8::rotate_left, view_bits, ◌xor◌, u8_as_i8, signed_as_u8, ◌>>i8◌}
use Rattle.source.specs.Registers.{ds_set_bit, get_register, set_register, BitSREG::C, BitSREG::Z, BitSREG::N, BitSREG::V, BitSREG::S, BitSREG::H, BitSREG::T, BitSREG::from, get_sreg_bit, set_sreg_bit}

unfoldable pub asr : ℕ → Rust Unit  -- 962
asr d = do
  Rd ← get_register d
  let R = signed_as_u8 (← u8_as_i8 Rd >>i8 1)
  set_register d R
  let C = view_bits Rd 0
  let Z = eqb R 0
  let N = view_bits R 7
  let «V» = N xor C
  let S = N xor «V»
  set_sreg_bit BitSREG::C C
  set_sreg_bit BitSREG::Z Z
  set_sreg_bit BitSREG::N N
  set_sreg_bit BitSREG::V «V»
  set_sreg_bit BitSREG::S S

unfoldable pub bclr : ℕ → Rust Unit  -- 981
bclr b = do
  set_sreg_bit (← BitSREG::from b) false

unfoldable pub bld : ℕ → ℕ → Rust Unit  -- 986
bld d b = do
  T ← get_sreg_bit BitSREG::T
  if' T
      then (do set_register d (bit_or (← get_register d) (← 1 <<u8 b)))
      else (do set_register d (bit_and (← get_register d) (u8::not (← 1 <<u8 b))))

unfoldable pub bset : ℕ → Rust Unit  -- 994
bset b = do
  set_sreg_bit (← BitSREG::from b) true

unfoldable pub bst : ℕ → ℕ → Rust Unit  -- 999
bst d bit = do
  set_sreg_bit BitSREG::T (not (eqb (bit_and (← get_register d) (← 1 <<u8 bit)) 0))

unfoldable pub cbi : ℕ → ℕ → Rust Unit  -- 1004
cbi A b =
    if' eqb A 0x3F then (do sreg= (bit_and (← self_sreg) (u8::not (← 1 <<u8 b))))
    else (if' eqb A 0x3D then (do sp= (bit_and (← self_sp) (u16::not (← 1 <<u16 b))))
    else (if' eqb A 0x3E then (do sp= (bit_and (← self_sp) (u16::not (← 1 <<u16 (← b +u8 8)))))
    else ds_set_bit A b false))

-- `decode` never gives LSL: its pattern lies under ADD's
unfoldable pub lsl : ℕ → Rust Unit  -- 1016
lsl d = do
  Rd ← get_register d
  R ← Rd <<u8 1
  set_register d R
  let C = view_bits Rd 7
  let Z = eqb R 0
  let N = view_bits R 7
  let «V» = N xor C
  let S = N xor «V»
  let H = view_bits Rd 3
  set_sreg_bit BitSREG::C C
  set_sreg_bit BitSREG::Z Z
  set_sreg_bit BitSREG::N N
  set_sreg_bit BitSREG::V «V»
  set_sreg_bit BitSREG::S S
  set_sreg_bit BitSREG::H H

unfoldable pub lsr : ℕ → Rust Unit  -- 1038
lsr d = do
  Rd ← get_register d
  R ← Rd >>u8 1
  set_register d R
  let C = view_bits Rd 0
  let Z = eqb R 0
  let N = false
  let «V» = N xor C
  let S = N xor «V»
  set_sreg_bit BitSREG::C C
  set_sreg_bit BitSREG::Z Z
  set_sreg_bit BitSREG::N N
  set_sreg_bit BitSREG::V «V»
  set_sreg_bit BitSREG::S S

unfoldable pub ror : ℕ → Rust Unit  -- 1058
ror d = do
  Rd ← get_register d
  C ← get_sreg_bit BitSREG::C
  R ← Rd >>u8 1
  let R = if' C then bit_or R 0x80 else R
  set_register d R
  let C = view_bits Rd 0
  let Z = eqb R 0
  let N = view_bits R 7
  let «V» = N xor C
  let S = N xor «V»
  set_sreg_bit BitSREG::C C
  set_sreg_bit BitSREG::Z Z
  set_sreg_bit BitSREG::N N
  set_sreg_bit BitSREG::V «V»
  set_sreg_bit BitSREG::S S

unfoldable pub sbi : ℕ → ℕ → Rust Unit  -- 1083
sbi A b =
    if' eqb A 0x3F then (do sreg= (bit_or (← self_sreg) (← 1 <<u8 b)))
    else (if' eqb A 0x3D then (do sp= (bit_or (← self_sp) (← 1 <<u16 b)))
    else (if' eqb A 0x3E then (do sp= (bit_or (← self_sp) (← 1 <<u16 (← b +u8 8))))
    else ds_set_bit A b true))

unfoldable pub swap : ℕ → Rust Unit  -- 1095
swap d = do
  set_register d (u8::rotate_left (← get_register d) 4)
