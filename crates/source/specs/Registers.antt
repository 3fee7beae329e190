-- cores.rs 70 to 165: registers, I/O registers, data space, program space and SREG; memory.rs 9 to 22. A number behind a name is its line.
-- A snake_case name of the Rust is written with hyphens. Left out, since no number changes by them: `usize::from` and `usize::try_from` of an address, the borrows,
-- and the latency that a memory hands back beside a byte and every caller drops. Not checked, since they cannot overflow: sums of a `usize` (a register's number
-- and 1, a byte's address and 1).
use Rattle.std.specs.Prelude.{Bool, not, ℕ, ◌+◌, ◌*◌, ◌^◌, eqb, ltb, get_or, set, length}
use Rattle.std.specs.Int.Bits.{bit_and, bit_or}
use Rattle.basis.specs.Pick.{pick}
use Rattle.cores.specs.State.{with_reg}
use Rattle.source.specs.Monad.{ok, panic, Rust, ◌>>=◌, ◌>>◌, return, if'◌then◌else◌, checked, self_sreg, self_pc, self_sp, with_core, with_ds, sreg=, sp=}
use Rattle.source.specs.Integers.{◌<<u8◌, ◌<<u16◌, ◌>>u16◌, u8::not, u16::from_le_bytes, u16::to_le_bytes, as_u8}

-- ---- the two memories: 01's flat slices, outside which a read or a write panics
unfoldable pub ds_read : ℕ → Rust ℕ
ds_read address = λ s. pick (ltb address (length s.ds)) (ok (get_or s.ds address 0) s) panic

unfoldable pub ds_write : ℕ → ℕ → Rust Unit
ds_write address value = λ s. pick (ltb address (length s.ds)) (ok tt (with_ds s (set s.ds address value))) panic

unfoldable pub progmem_read : ℕ → Rust ℕ
progmem_read address = λ s. pick (ltb address (length s.progmem)) (ok (get_or s.progmem address 0) s) panic

-- "reads 0 there"
unfoldable pub progmem_read_or_0 : ℕ → Rust ℕ
progmem_read_or_0 address = λ s. ok (get_or s.progmem address 0) s

-- memory.rs 9, of a memory that is read by `read`
abbrev pub read_word : (ℕ → Rust ℕ) → ℕ → Rust ℕ
read_word read address = do
  bl ← read address
  bh ← read (address + 1)
  return (bit_or (← bh <<u16 8) bl)

-- memory.rs 14, of `ds`
unfoldable pub ds_set_bit : ℕ → ℕ → Bool → Rust Unit
ds_set_bit address bit state = do
  val ← ds_read address
  if' state
      then (do ds_write address (bit_or val (← 1 <<u8 bit)))
      else (do ds_write address (bit_and val (u8::not (← 1 <<u8 bit))))

-- ---- registers
unfoldable pub get_register : ℕ → Rust ℕ  -- 70
get_register register = λ s. pick (ltb register (length s.core.regs)) (ok (get_or s.core.regs register 0) s) panic

unfoldable pub set_register : ℕ → ℕ → Rust Unit  -- 74
set_register register value = λ s. pick (ltb register (length s.core.regs)) (ok tt (with_core s (with_reg s.core register value))) panic

unfoldable pub get_register_word : ℕ → Rust ℕ  -- 78
get_register_word register-low = do
  l ← get_register register-low
  h ← get_register (register-low + 1)
  return (u16::from_le_bytes l h)

unfoldable pub set_register_word : ℕ → ℕ → Rust Unit  -- 87
set_register_word register-low value = do
  let bytes = u16::to_le_bytes value
  set_register register-low bytes.0
  set_register (register-low + 1) bytes.1

-- ---- I/O registers and data space
unfoldable pub get_io_register : ℕ → Rust ℕ  -- 94
get_io_register register =
    if' eqb register 0x3F then self_sreg
    else (if' eqb register 0x3E then (do return (as_u8 (← (← self_sp) >>u16 8)))
    else (if' eqb register 0x3D then (do return (as_u8 (bit_and (← self_sp) 0xFF)))
    else ds_read register))

unfoldable pub set_io_register : ℕ → ℕ → Rust Unit  -- 103
set_io_register register value =
    if' eqb register 0x3F then sreg= value
    else (if' eqb register 0x3E then (do sp= (bit_or (bit_and (← self_sp) 0x00FF) (← value <<u16 8)))
    else (if' eqb register 0x3D then (do sp= (bit_or (bit_and (← self_sp) 0xFF00) value))
    else ds_write register value))

unfoldable pub get_data_space : ℕ → Rust ℕ  -- 114
get_data_space address =
    if' eqb address 0x0000003F then self_sreg
    else (if' eqb address 0x0000003E then (do return (as_u8 (← (← self_sp) >>u16 8)))
    else (if' eqb address 0x0000003D then (do return (as_u8 (bit_and (← self_sp) 0xFF)))
    else ds_read address))

unfoldable pub set_data_space : ℕ → ℕ → Rust Unit  -- 128
set_data_space address value =
    if' eqb address 0x0000003F then sreg= value
    else (if' eqb address 0x0000003E then (do sp= (bit_or (bit_and (← self_sp) 0x00FF) (← value <<u16 8)))
    else (if' eqb address 0x0000003D then (do sp= (bit_or (bit_and (← self_sp) 0xFF00) value))
    else ds_write address value))

-- ---- program space
unfoldable pub get_ps : ℕ → Rust ℕ  -- 141
get_ps address = progmem_read address

-- 148, with 01's exception: "any word fetched at PC 65,535" reads 0 outside the program. `pc << 1` is of a u32, and pc is at most 65,536: no bit leaves it
unfoldable pub get_progmem : ℕ → Rust ℕ
get_progmem pc = do
  let address = pc * 2 ^ 1
  if' eqb (← self_pc) 65535 then read_word progmem_read_or_0 address else read_word progmem_read address

-- 148 of "a prefetched word that the instruction doesn't use", which reads 0 outside the program
unfoldable pub get_progmem_unused : ℕ → Rust ℕ
get_progmem_unused pc = do
  let address = pc * 2 ^ 1
  read_word progmem_read_or_0 address

-- ---- SREG
-- `enum BitSREG`, 1478
abbrev pub BitSREG::C : ℕ
BitSREG::C = 0

abbrev pub BitSREG::Z : ℕ
BitSREG::Z = 1

abbrev pub BitSREG::N : ℕ
BitSREG::N = 2

abbrev pub BitSREG::V : ℕ
BitSREG::V = 3

abbrev pub BitSREG::S : ℕ
BitSREG::S = 4

abbrev pub BitSREG::H : ℕ
BitSREG::H = 5

abbrev pub BitSREG::T : ℕ
BitSREG::T = 6

abbrev pub BitSREG::I : ℕ
BitSREG::I = 7

-- 1490: above 7 it panics
abbrev pub BitSREG::from : ℕ → Rust ℕ
BitSREG::from bit = checked (ltb bit 8) bit

unfoldable pub get_sreg_bit : ℕ → Rust Bool  -- 155
get_sreg_bit bit = do
  return (not (eqb (bit_and (← self_sreg) (← 1 <<u8 bit)) 0))

unfoldable pub set_sreg_bit : ℕ → Bool → Rust Unit  -- 159
set_sreg_bit bit set =
    if' set
    then (do sreg= (bit_or (← self_sreg) (← 1 <<u8 bit)))
    else (do sreg= (bit_and (← self_sreg) (u8::not (← 1 <<u8 bit))))
