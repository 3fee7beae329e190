-- Instructions with their words, and those that have none. i is an instruction, w and s are words.
use Rattle.std.specs.Prelude.{true, ◌≡◌, ℕ}
use Rattle.instruction.specs.declared.Instruction.{Instruction}
use Rattle.instruction.specs.declared.Instruction.TheVariants.{ADIW, BLD, BRBS, CALL, CBI, FMUL, IN, JMP, LDDY, LDI, LPM, LPMZ, LSL, MOV, MOVW, RJMP, STS, UNDEF}
use Rattle.encode.specs.Encode.{in_one, in_two, refused, encode_of}

abbrev One : Instruction → ℕ → Type 0
One i w = encode_of i ≡ in_one true w

abbrev Two : Instruction → ℕ → ℕ → Type 0
Two i w s = encode_of i ≡ in_two true w s

-- "33 an operand outside its field"
abbrev Outside : Instruction → Type 0
Outside i = encode_of i ≡ refused 33

-- "34 undefined or LSL has no encoding"
abbrev None : Instruction → Type 0
None i = encode_of i ≡ refused 34

pub record Examples : Type 0 where
  pub ldi : One (LDI 16 0x05) 0xE005
  pub mov : One (MOV 31 31) 0x2FFF
  pub lpm : One LPM 0x95C8
  pub lpm_r0 : One (LPMZ 0) 0x9004
  pub back_to_itself : One (RJMP 65535) 0xCFFF
  pub call : Two (CALL 0x000123) 0x940E 0x0123
  pub far_jmp : Two (JMP 0x3FFFFF) 0x95FD 0xFFFF
  pub sts : Two (STS 0x3800 24) 0x9380 0x3800
  -- "a register that the instruction cannot name (LDI R5, ADIW R27, FMUL R24, MOVW of an odd pair)"
  pub ldi_r5 : Outside (LDI 5 0)
  pub ldi_r15 : Outside (LDI 15 0)
  pub adiw_r27 : Outside (ADIW 27 0)
  pub fmul_r24 : Outside (FMUL 24 16)
  pub movw_odd : Outside (MOVW 1 2)
  pub mov_r32 : Outside (MOV 0 32)
  -- "a constant, bit, I/O address or displacement too large"
  pub adiw_64 : Outside (ADIW 24 64)
  pub bld_8 : Outside (BLD 0 8)
  pub in_64 : Outside (IN 0 64)
  pub cbi_32 : Outside (CBI 32 0)
  pub ldd_64 : Outside (LDDY 0 64)
  -- "a relative target that is not in the two's complement range of its 7 or 12 bits, a target above 22 bits"
  pub brbs_64 : Outside (BRBS 1 64)
  pub brbs_191 : Outside (BRBS 1 191)
  pub rjmp_2048 : Outside (RJMP 2048)
  pub jmp_23_bits : Outside (JMP 0x400000)
  -- "UNDEF and LSL, whatever their operands"
  pub undefined : None UNDEF
  pub lsl : None (LSL 255)
