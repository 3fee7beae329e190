-- cores.rs 710 to 958, FLOW CONTROL INSTRUCTIONS, statement by statement; the number behind a name is its line.
use Rattle.std.specs.Prelude.{Bool, true, false, not, ◌&&◌, ◌||◌, ℕ, eqb, pos, ◌+ℤ◌}
use Rattle.std.specs.Int.Bits.{bit_and, bit_or}
use Rattle.source_decode.specs.RustDecode.{rust_decode}
use Rattle.source.specs.Monad.{Rust, ◌>>=◌, ◌>>◌, if'◌then◌else◌, when, self_pc, self_sp, pc=, busy=, interupt_inhibit=, lvl0ex=}
use Rattle.source.specs.Integers.{◌+u16◌, ◌<<u8◌, ◌<<u16◌, ◌>>u16◌, u8::overflowing_sub, u16::overflowing_add, as_u8, as_u16, view_bits, ◌xor◌, pc+=, sp+=, sp-=, u8_as_i8, signed_as_u16}
use Rattle.source.specs.CallJmpLdsSts.{CALL|JMP|LDS|STS}
use Rattle.source.specs.Registers.{ds_read, ds_write, get_register, get_register_word, get_io_register, get_progmem, get_progmem_unused, BitSREG::C, BitSREG::Z, BitSREG::N, BitSREG::V, BitSREG::S, BitSREG::H, BitSREG::from, get_sreg_bit, set_sreg_bit}

-- k is the byte of the Rust's i8. The sum is of an i32, which a PC and a byte cannot overflow: it is not checked
unfoldable pub brbx : ℕ → ℕ → Bool → Rust Unit  -- 711
brbx s k set = do
  bit ← get_sreg_bit (← BitSREG::from s)
  when (not set xor bit) (do
    let pc = pos (← self_pc)
    let pc = pc +ℤ u8_as_i8 k
    pc= (signed_as_u16 pc)
    busy= 1)

unfoldable pub call : ℕ → Rust Unit  -- 720
call k = do
  busy= 2
  ds_write (← self_sp) (as_u8 (← (← self_pc) +u16 1))
  sp-= 1
  ds_write (← self_sp) (as_u8 (← (← (← self_pc) +u16 1) >>u16 8))
  sp-= 1  -- 728
  pc= (as_u16 k)

unfoldable pub cp : ℕ → ℕ → Rust Unit  -- 733
cp d r = do
  Rd ← get_register d
  Rr ← get_register r
  let (R, C) = u8::overflowing_sub Rd Rr
  let bRd = view_bits Rd
  let bRr = view_bits Rr
  let bR = view_bits R
  let Z = eqb R 0
  let N = bR 7
  let «V» = bRd 7 && not (bRr 7) && not (bR 7) || not (bRd 7) && bRr 7 && bR 7  -- 746
  let S = N xor «V»
  let H = not (bRd 3) && bRr 3 || bRr 3 && bR 3 || bR 3 && not (bRd 3)
  set_sreg_bit BitSREG::C C
  set_sreg_bit BitSREG::Z Z
  set_sreg_bit BitSREG::N N
  set_sreg_bit BitSREG::V «V»
  set_sreg_bit BitSREG::S S
  set_sreg_bit BitSREG::H H

unfoldable pub cpc : ℕ → ℕ → Rust Unit  -- 759
cpc d r = do
  Rd ← get_register d
  Rr ← get_register r
  C ← get_sreg_bit BitSREG::C
  Z ← get_sreg_bit BitSREG::Z
  let (R, C1) = u8::overflowing_sub Rd Rr
  let (R, C2) = if' C then u8::overflowing_sub R 1 else (R, false)
  let C = C1 || C2
  let bRd = view_bits Rd
  let bRr = view_bits Rr
  let bR = view_bits R
  let Z = Z && eqb R 0
  let N = bR 7
  let «V» = bRd 7 && not (bRr 7) && not (bR 7) || not (bRd 7) && bRr 7 && bR 7  -- 783
  let S = N xor «V»
  let H = not (bRd 3) && bRr 3 || bRr 3 && bR 3 || bR 3 && not (bRd 3)
  set_sreg_bit BitSREG::C C
  set_sreg_bit BitSREG::Z Z
  set_sreg_bit BitSREG::N N
  set_sreg_bit BitSREG::V «V»
  set_sreg_bit BitSREG::S S
  set_sreg_bit BitSREG::H H

unfoldable pub cpi : ℕ → ℕ → Rust Unit  -- 796
cpi d K = do
  Rd ← get_register d
  let (R, C) = u8::overflowing_sub Rd K
  let bRd = view_bits Rd
  let bK = view_bits K
  let bR = view_bits R
  let Z = eqb R 0
  let N = bR 7
  let «V» = bRd 7 && not (bK 7) && not (bR 7) || not (bRd 7) && bK 7 && bR 7  -- 808
  let S = N xor «V»
  let H = not (bRd 3) && bK 3 || bK 3 && bR 3 || bR 3 && not (bRd 3)
  set_sreg_bit BitSREG::C C
  set_sreg_bit BitSREG::Z Z
  set_sreg_bit BitSREG::N N
  set_sreg_bit BitSREG::V «V»
  set_sreg_bit BitSREG::S S
  set_sreg_bit BitSREG::H H

unfoldable pub cpse : ℕ → ℕ → Rust Unit  -- 821
cpse d r = do
  Rd ← get_register d
  Rr ← get_register r
  when (eqb Rd Rr) (do
    opcode ← get_progmem (← self_pc)
    prefetch ← get_progmem_unused (← (← self_pc) +u16 1)
    let op = rust_decode opcode prefetch
    if' CALL|JMP|LDS|STS op
        then (do
          pc+= 2  -- 833
          busy= 2)
        else (do
          pc+= 1  -- 837
          busy= 1))

unfoldable pub icall : Rust Unit  -- 844
icall = do
  busy= 1
  ds_write (← self_sp) (as_u8 (← self_pc))
  sp-= 1
  ds_write (← self_sp) (as_u8 (← (← self_pc) >>u16 8))
  sp-= 1
  pc= (← get_register_word 30)

unfoldable pub ijmp : Rust Unit  -- 856
ijmp = do
  busy= 1
  pc= (← get_register_word 30)

unfoldable pub jmp : ℕ → Rust Unit  -- 862
jmp k = do
  busy= 2
  pc= (as_u16 k)

-- k is the word of the Rust's i16, and `k as u16` changes no bit of it
unfoldable pub rcall : ℕ → Rust Unit  -- 868
rcall k = do
  busy= 1
  ds_write (← self_sp) (as_u8 (← self_pc))
  sp-= 1
  ds_write (← self_sp) (as_u8 (← (← self_pc) >>u16 8))
  sp-= 1
  pc= (u16::overflowing_add (← self_pc) k).0

unfoldable pub ret : Rust Unit  -- 880
ret = do
  busy= 3
  sp+= 1
  bh ← ds_read (← self_sp)
  sp+= 1
  bl ← ds_read (← self_sp)
  pc= (bit_or (← bh <<u16 8) bl)

-- cpuint.rs 80
unfoldable pub interrupt_handler_reti : Rust Unit
interrupt_handler_reti = lvl0ex= false

unfoldable pub reti : Rust Unit  -- 891
reti = do
  busy= 3
  sp+= 1
  bh ← ds_read (← self_sp)
  sp+= 1
  bl ← ds_read (← self_sp)
  pc= (bit_or (← bh <<u16 8) bl)
  interrupt_handler_reti
  interupt_inhibit= true

-- k is the word of the Rust's i16, and `k as u16` changes no bit of it
unfoldable pub rjmp : ℕ → Rust Unit  -- 908
rjmp k = do
  busy= 1
  pc= (u16::overflowing_add (← self_pc) k).0

unfoldable pub sbix : ℕ → ℕ → Bool → Rust Unit  -- 915
sbix A b set = do
  let bitval_n = eqb (bit_and (← get_io_register A) (← 1 <<u8 b)) 0
  when (set xor bitval_n) (do
    opcode ← get_progmem (← self_pc)
    prefetch ← get_progmem_unused (← (← self_pc) +u16 1)
    let op = rust_decode opcode prefetch
    if' CALL|JMP|LDS|STS op
        then (do
          pc+= 2  -- 926
          busy= 2)
        else (do
          pc+= 1  -- 930
          busy= 1))

unfoldable pub sbrx : ℕ → ℕ → Bool → Rust Unit  -- 938
sbrx r b set = do
  let bitval_n = eqb (bit_and (← get_register r) (← 1 <<u8 b)) 0
  when (set xor bitval_n) (do
    opcode ← get_progmem (← self_pc)
    prefetch ← get_progmem_unused (← (← self_pc) +u16 1)
    let op = rust_decode opcode prefetch
    if' CALL|JMP|LDS|STS op
        then (do
          pc+= 2  -- 949
          busy= 2)
        else (do
          pc+= 1  -- 953
          busy= 1))
