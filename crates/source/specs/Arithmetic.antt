-- cores.rs 171 to 708, ARITHMETIC INSTRUCTIONS, statement by statement; the number behind a name is its line. A `let mut` that is assigned again is bound again.
-- `&`, `|` and `!` of two bools are `&&`, `||` and `not`: both sides are values here.
use Rattle.std.specs.Prelude.{true, false, not, ◌&&◌, ◌||◌, ℕ, eqb, pos}
use Rattle.std.specs.Int.Bits.{bit_and, bit_or, bit_xor}
use Rattle.source.specs.Monad.{Rust, ◌>>=◌, ◌>>◌, if'◌then◌else◌, busy=}
use Rattle.source.specs.Integers.{◌*u16◌, ◌<<u16◌, u8::not, u8::overflowing_add, u8::overflowing_sub, u16::overflowing_add, u16::overflowing_sub, view_bits, ◌xor◌, u8_as_i8, signed_as_u16, ◌*i16◌, ◌<<i16◌, is_zero}
use Rattle.source.specs.Registers.{get_register, set_register, get_register_word, set_register_word, BitSREG::C, BitSREG::Z, BitSREG::N, BitSREG::V, BitSREG::S, BitSREG::H, get_sreg_bit, set_sreg_bit}

unfoldable pub adc : ℕ → ℕ → Rust Unit  -- 173
adc d r = do
  Rd ← get_register d
  Rr ← get_register r
  C ← get_sreg_bit BitSREG::C
  let (R, C1) = u8::overflowing_add Rd Rr
  let (R, C2) = if' C then u8::overflowing_add R 1 else (R, false)
  let C = C1 || C2
  set_register d R
  let bRd = view_bits Rd
  let bRr = view_bits Rr
  let bR = view_bits R
  let Z = eqb R 0
  let N = bR 7
  let «V» = bRd 7 && bRr 7 && not (bR 7) || not (bRd 7) && not (bRr 7) && bR 7  -- 197
  let S = N xor «V»
  let H = bRd 3 && bRr 3 || bRr 3 && not (bR 3) || not (bR 3) && bRd 3
  set_sreg_bit BitSREG::C C
  set_sreg_bit BitSREG::Z Z
  set_sreg_bit BitSREG::N N
  set_sreg_bit BitSREG::V «V»
  set_sreg_bit BitSREG::S S
  set_sreg_bit BitSREG::H H

unfoldable pub add : ℕ → ℕ → Rust Unit  -- 210
add d r = do
  Rd ← get_register d
  Rr ← get_register r
  let (R, C) = u8::overflowing_add Rd Rr
  set_register d R
  let bRd = view_bits Rd
  let bRr = view_bits Rr
  let bR = view_bits R
  let Z = eqb R 0
  let N = bR 7
  let «V» = bRd 7 && bRr 7 && not (bR 7) || not (bRd 7) && not (bRr 7) && bR 7  -- 225
  let S = N xor «V»
  let H = bRd 3 && bRr 3 || bRr 3 && not (bR 3) || not (bR 3) && bRd 3
  set_sreg_bit BitSREG::C C
  set_sreg_bit BitSREG::Z Z
  set_sreg_bit BitSREG::N N
  set_sreg_bit BitSREG::V «V»
  set_sreg_bit BitSREG::S S
  set_sreg_bit BitSREG::H H

unfoldable pub adiw : ℕ → ℕ → Rust Unit  -- 238
adiw d K = do
  busy= 1
  Rd_hl ← get_register_word d
  let (R_hl, C) = u16::overflowing_add Rd_hl K
  set_register_word d R_hl
  let bRd_hl = view_bits Rd_hl
  let bR_hl = view_bits R_hl
  let Z = eqb R_hl 0
  let N = bR_hl 15
  let «V» = not (bRd_hl 7) && bR_hl 15  -- 252
  let S = N xor «V»
  set_sreg_bit BitSREG::C C
  set_sreg_bit BitSREG::Z Z
  set_sreg_bit BitSREG::N N
  set_sreg_bit BitSREG::V «V»
  set_sreg_bit BitSREG::S S

unfoldable pub and : ℕ → ℕ → Rust Unit  -- 263
and d r = do
  Rd ← get_register d
  Rr ← get_register r
  let R = bit_and Rd Rr
  set_register d R
  let Z = eqb R 0
  let N = view_bits R 7
  let «V» = false
  let S = N xor «V»
  set_sreg_bit BitSREG::Z Z
  set_sreg_bit BitSREG::N N
  set_sreg_bit BitSREG::V «V»
  set_sreg_bit BitSREG::S S

unfoldable pub andi : ℕ → ℕ → Rust Unit  -- 283
andi d K = do
  Rd ← get_register d
  let R = bit_and Rd K
  set_register d R
  let Z = eqb R 0
  let N = view_bits R 7
  let «V» = false
  let S = N xor «V»
  set_sreg_bit BitSREG::Z Z
  set_sreg_bit BitSREG::N N
  set_sreg_bit BitSREG::V «V»
  set_sreg_bit BitSREG::S S

unfoldable pub «com» : ℕ → Rust Unit  -- 302
«com» d = do
  Rd ← get_register d
  let R = u8::not Rd
  set_register d R
  let C = true
  let Z = eqb R 0
  let N = view_bits R 7
  let «V» = false
  let S = N xor «V»
  set_sreg_bit BitSREG::C C
  set_sreg_bit BitSREG::Z Z
  set_sreg_bit BitSREG::N N
  set_sreg_bit BitSREG::V «V»
  set_sreg_bit BitSREG::S S

unfoldable pub dec : ℕ → Rust Unit  -- 323
dec d = do
  Rd ← get_register d
  let R = (u8::overflowing_sub Rd 1).0
  set_register d R
  let Z = eqb R 0
  let N = view_bits R 7
  let «V» = eqb Rd 0x80
  let S = N xor «V»
  set_sreg_bit BitSREG::Z Z
  set_sreg_bit BitSREG::N N
  set_sreg_bit BitSREG::V «V»
  set_sreg_bit BitSREG::S S

unfoldable pub eor : ℕ → ℕ → Rust Unit  -- 342
eor d r = do
  Rd ← get_register d
  Rr ← get_register r
  let R = bit_xor Rd Rr
  set_register d R
  let Z = eqb R 0
  let N = view_bits R 7
  let «V» = false
  let S = N xor «V»
  set_sreg_bit BitSREG::Z Z
  set_sreg_bit BitSREG::N N
  set_sreg_bit BitSREG::V «V»
  set_sreg_bit BitSREG::S S

unfoldable pub fmul : ℕ → ℕ → Rust Unit  -- 363
fmul d r = do
  busy= 1
  Rd ← get_register d
  Rr ← get_register r
  word ← Rd *u16 Rr
  let C = view_bits word 15
  word ← word <<u16 1
  set_register_word 0 word
  set_sreg_bit BitSREG::C C
  set_sreg_bit BitSREG::Z (eqb word 0)

unfoldable pub fmuls : ℕ → ℕ → Rust Unit  -- 381
fmuls d r = do
  busy= 1
  Rd ← get_register d
  Rr ← get_register r
  word ← u8_as_i8 Rd *i16 u8_as_i8 Rr
  let C = view_bits (signed_as_u16 word) 15
  word ← word <<i16 1
  set_register_word 0 (signed_as_u16 word)
  set_sreg_bit BitSREG::C C
  set_sreg_bit BitSREG::Z (is_zero word)

unfoldable pub fmulsu : ℕ → ℕ → Rust Unit  -- 399
fmulsu d r = do
  busy= 1
  Rd ← get_register d
  Rr ← get_register r
  word ← u8_as_i8 Rd *i16 pos Rr
  let C = view_bits (signed_as_u16 word) 15
  word ← word <<i16 1
  set_register_word 0 (signed_as_u16 word)
  set_sreg_bit BitSREG::C C
  set_sreg_bit BitSREG::Z (is_zero word)

unfoldable pub inc : ℕ → Rust Unit  -- 417
inc d = do
  Rd ← get_register d
  let R = (u8::overflowing_add Rd 1).0
  set_register d R
  let Z = eqb R 0
  let N = view_bits R 7
  let «V» = eqb Rd 0x7F
  let S = N xor «V»
  set_sreg_bit BitSREG::Z Z
  set_sreg_bit BitSREG::N N
  set_sreg_bit BitSREG::V «V»
  set_sreg_bit BitSREG::S S

unfoldable pub mul : ℕ → ℕ → Rust Unit  -- 436
mul d r = do
  busy= 1
  Rd ← get_register d
  Rr ← get_register r
  word ← Rd *u16 Rr
  let C = view_bits word 15
  set_register_word 0 word
  set_sreg_bit BitSREG::C C
  set_sreg_bit BitSREG::Z (eqb word 0)

unfoldable pub muls : ℕ → ℕ → Rust Unit  -- 453
muls d r = do
  busy= 1
  Rd ← get_register d
  Rr ← get_register r
  word ← u8_as_i8 Rd *i16 u8_as_i8 Rr
  let C = view_bits (signed_as_u16 word) 15
  set_register_word 0 (signed_as_u16 word)
  set_sreg_bit BitSREG::C C
  set_sreg_bit BitSREG::Z (is_zero word)

unfoldable pub mulsu : ℕ → ℕ → Rust Unit  -- 470
mulsu d r = do
  busy= 1
  Rd ← get_register d
  Rr ← get_register r
  word ← u8_as_i8 Rd *i16 pos Rr
  let C = view_bits (signed_as_u16 word) 15
  set_register_word 0 (signed_as_u16 word)
  set_sreg_bit BitSREG::C C
  set_sreg_bit BitSREG::Z (is_zero word)

unfoldable pub neg : ℕ → Rust Unit  -- 487
neg d = do
  Rd ← get_register d
  let R = (u8::overflowing_add (u8::not Rd) 1).0
  set_register d R
  let bRd = view_bits Rd
  let bR = view_bits R
  let C = not (eqb R 0)
  let Z = eqb R 0
  let N = bR 7
  let «V» = eqb R 0x80
  let S = N xor «V»
  let H = bR 3 || bRd 3
  set_sreg_bit BitSREG::C C
  set_sreg_bit BitSREG::Z Z
  set_sreg_bit BitSREG::N N
  set_sreg_bit BitSREG::V «V»
  set_sreg_bit BitSREG::S S
  set_sreg_bit BitSREG::H H

unfoldable pub or : ℕ → ℕ → Rust Unit  -- 513
or d r = do
  Rd ← get_register d
  Rr ← get_register r
  let R = bit_or Rd Rr
  set_register d R
  let bR = view_bits R
  let Z = eqb R 0
  let N = bR 7
  let «V» = false
  let S = N xor «V»
  set_sreg_bit BitSREG::Z Z
  set_sreg_bit BitSREG::N N
  set_sreg_bit BitSREG::V «V»
  set_sreg_bit BitSREG::S S

unfoldable pub ori : ℕ → ℕ → Rust Unit  -- 535
ori d val = do
  Rd ← get_register d
  let R = bit_or Rd val
  set_register d R
  let bR = view_bits R
  let Z = eqb R 0
  let N = bR 7
  let «V» = false
  let S = N xor «V»
  set_sreg_bit BitSREG::Z Z
  set_sreg_bit BitSREG::N N
  set_sreg_bit BitSREG::V «V»
  set_sreg_bit BitSREG::S S

unfoldable pub sbc : ℕ → ℕ → Rust Unit  -- 556
sbc d r = do
  Rd ← get_register d
  Rr ← get_register r
  C ← get_sreg_bit BitSREG::C
  let (R, C1) = u8::overflowing_sub Rd Rr
  let (R, C2) = if' C then u8::overflowing_sub R 1 else (R, false)
  let C = C1 || C2
  set_register d R
  let bRd = view_bits Rd
  let bRr = view_bits Rr
  let bR = view_bits R
  let Z = (← get_sreg_bit BitSREG::Z) && eqb R 0
  let N = bR 7
  let «V» = bRd 7 && not (bRr 7) && not (bR 7) || not (bRd 7) && bRr 7 && bR 7  -- 581
  let S = N xor «V»
  let H = not (bRd 3) && bRr 3 || bRr 3 && bR 3 || bR 3 && not (bRd 3)
  set_sreg_bit BitSREG::C C
  set_sreg_bit BitSREG::Z Z
  set_sreg_bit BitSREG::N N
  set_sreg_bit BitSREG::V «V»
  set_sreg_bit BitSREG::S S
  set_sreg_bit BitSREG::H H

unfoldable pub sbci : ℕ → ℕ → Rust Unit  -- 594
sbci d val = do
  Rd ← get_register d
  C ← get_sreg_bit BitSREG::C
  let (R, C1) = u8::overflowing_sub Rd val
  let (R, C2) = if' C then u8::overflowing_sub R 1 else (R, false)
  let C = C1 || C2
  set_register d R
  let bRd = view_bits Rd
  let bK = view_bits val
  let bR = view_bits R
  let Z = (← get_sreg_bit BitSREG::Z) && eqb R 0
  let N = bR 7
  let «V» = bRd 7 && not (bK 7) && not (bR 7) || not (bRd 7) && bK 7 && bR 7  -- 617
  let S = N xor «V»
  let H = not (bRd 3) && bK 3 || bK 3 && bR 3 || bR 3 && not (bRd 3)
  set_sreg_bit BitSREG::C C
  set_sreg_bit BitSREG::Z Z
  set_sreg_bit BitSREG::N N
  set_sreg_bit BitSREG::V «V»
  set_sreg_bit BitSREG::S S
  set_sreg_bit BitSREG::H H

unfoldable pub sbiw : ℕ → ℕ → Rust Unit  -- 630
sbiw d K = do
  busy= 1
  Rd_hl ← get_register_word d
  let (R_hl, C) = u16::overflowing_sub Rd_hl K
  set_register_word d R_hl
  let bRd_hl = view_bits Rd_hl
  let bR_hl = view_bits R_hl
  let Z = eqb R_hl 0
  let N = bR_hl 15
  let «V» = not (bR_hl 15) && bRd_hl 15  -- 645
  let S = N xor «V»
  set_sreg_bit BitSREG::C C
  set_sreg_bit BitSREG::Z Z
  set_sreg_bit BitSREG::N N
  set_sreg_bit BitSREG::V «V»
  set_sreg_bit BitSREG::S S

unfoldable pub sub : ℕ → ℕ → Rust Unit  -- 656
sub d r = do
  Rd ← get_register d
  Rr ← get_register r
  let (R, C) = u8::overflowing_sub Rd Rr
  set_register d R
  let bRd = view_bits Rd
  let bRr = view_bits Rr
  let bR = view_bits R
  let Z = eqb R 0
  let N = bR 7
  let «V» = bRd 7 && not (bRr 7) && not (bR 7) || not (bRd 7) && bRr 7 && bR 7  -- 671
  let S = N xor «V»
  let H = not (bRd 3) && bRr 3 || bRr 3 && bR 3 || bR 3 && not (bRd 3)
  set_sreg_bit BitSREG::C C
  set_sreg_bit BitSREG::Z Z
  set_sreg_bit BitSREG::N N
  set_sreg_bit BitSREG::V «V»
  set_sreg_bit BitSREG::S S
  set_sreg_bit BitSREG::H H

unfoldable pub subi : ℕ → ℕ → Rust Unit  -- 684
subi d K = do
  Rd ← get_register d
  let (R, C) = u8::overflowing_sub Rd K
  let bRd = view_bits Rd
  let bK = view_bits K
  let bR = view_bits R
  set_register d R
  let Z = eqb R 0
  let N = bR 7
  let «V» = bRd 7 && not (bK 7) && not (bR 7) || not (bRd 7) && bK 7 && bR 7  -- 698
  let S = N xor «V»
  let H = not (bRd 3) && bK 3 || bK 3 && bR 3 || bR 3 && not (bRd 3)
  set_sreg_bit BitSREG::C C
  set_sreg_bit BitSREG::Z Z
  set_sreg_bit BitSREG::N N
  set_sreg_bit BitSREG::V «V»
  set_sreg_bit BitSREG::S S
  set_sreg_bit BitSREG::H H
