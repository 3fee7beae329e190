-- 01's bench sheet over 01's tick: thirteen lines, each with all that its ticks leave; and the second again by 02, W2.
use Rattle.std.specs.Prelude.{◌≡◌, true, List, [], ◌∷◌, ℕ, replicate, set}
use Rattle.instruction.specs.declared.Instruction.TheVariants.{ADD, NOP, UNDEF}
use Rattle.instruction.specs.Decode.{decode_of}
use Rattle.cores.specs.declared.Core.{Core}
use Rattle.cores.specs.State.{fresh_of, with_reg, with_word, with_sreg, with_pc, with_sp, with_busy, with_service, with_chip}
use Rattle.std.specs.Prelude.{Some, None}
use Rattle.tick.specs.declared.Answer.{Answer}
use Rattle.tick.specs.declared.Answer.TheVariants.{Refused, Waited, Entered, Ran, End}
use Rattle.tick.specs.Tick.{gives, tick_of}

-- one tick of core k, program p and data m, with nothing offered: it answers a, and leaves core j and data n
abbrev Ticks : Core → List ℕ → List ℕ → Answer → Core → List ℕ → Type 0
Ticks k p m a j n = tick_of k p m None ≡ gives a j n

-- it runs without data, and leaves core j
abbrev Runs : Core → List ℕ → Core → Type 0
Runs k p j = Ticks k p [] Ran j []

-- it is refused with n
abbrev IsRefused : Core → List ℕ → List ℕ → ℕ → Type 0
IsRefused k p m n = Ticks k p m (Refused n) k m

abbrev call5 : List ℕ
call5 = 0x0E ∷ 0x94 ∷ 0x05 ∷ 0x00 ∷ []

abbrev zeros : ℕ → List ℕ
zeros n = replicate n 0

abbrev bytes77 : List ℕ
bytes77 = set (zeros 0x0101) 0x0100 0x77

pub record BenchSheet : Type 0 where
  -- 1: 0x0C00 is ADD R0,R0; 0x0000 NOP; 0x0001 undefined
  pub line_1 : (decode_of 0x0C00 0 ≡ ADD 0 0) × (decode_of 0 0 ≡ NOP) × (decode_of 1 0 ≡ UNDEF)
  -- 2: ADIW on 0x8001 by 1: 0x8002, N 1 V 1 S 0 C 0
  pub line_2 : let k = with_word (fresh_of 0) 24 0x8001 in Runs k (0x01 ∷ 0x96 ∷ []) (with_pc (with_busy (with_sreg (with_word k 24 0x8002) 0x0C) 1) 1)
  -- 02, W2, under chip: "bench line 2 reads V 0, S 1"
  pub line_2_chip :
      let k = with_chip (with_word (fresh_of 0) 24 0x8001) true in Runs k (0x01 ∷ 0x96 ∷ []) (with_pc (with_busy (with_sreg (with_word k 24 0x8002) 0x14) 1) 1)
  -- 3: from SREG 0, CP 0xFF,0x00 then CPC 0x00,0x01: SREG 0x35
  pub line_3 :
      let p : List ℕ = 0x01 ∷ 0x14 ∷ 0x23 ∷ 0x04 ∷ [] in
      let k = with_reg (with_reg (fresh_of 0) 0 0xFF) 3 0x01 in
      let j = with_pc (with_sreg k 0x14) 1 in Runs k p j × Runs j p (with_pc (with_sreg k 0x35) 2)
  -- 4: from SREG 0, CP 0x80,0x01: SREG 0x38
  pub line_4 : let k = with_reg (with_reg (fresh_of 0) 0 0x80) 1 0x01 in Runs k (0x01 ∷ 0x14 ∷ []) (with_pc (with_sreg k 0x38) 1)
  -- 5: from SREG 0, NEG 0x80: 0x80, SREG 0x0D. NEG 0: SREG 0x02
  pub line_5 :
      let k = with_reg (fresh_of 0) 0 0x80 in
      let z = fresh_of 0 in
      Runs k (0x01 ∷ 0x94 ∷ []) (with_pc (with_sreg k 0x0D) 1) × Runs z (0x01 ∷ 0x94 ∷ []) (with_pc (with_sreg z 0x02) 1)
  -- 6: MULSU 0x80,0xFF: 0x8080, C 1. FMULS 0x80,0x80: 0x8000, C 0
  pub line_6 :
      let k = with_reg (with_reg (fresh_of 0) 16 0x80) 17 0xFF in
      let j = with_reg (with_reg (fresh_of 0) 16 0x80) 17 0x80 in
      Runs k (0x01 ∷ 0x03 ∷ []) (with_pc (with_busy (with_sreg (with_word k 0 0x8080) 0x01) 1) 1)
      × Runs j (0x81 ∷ 0x03 ∷ []) (with_pc (with_busy (with_sreg (with_word j 0 0x8000) 0x00) 1) 1)
  -- 7: 0xCFFE at PC 0: PC 65,535; the tick after its wait is end
  pub line_7 :
      let p : List ℕ = 0xFE ∷ 0xCF ∷ [] in
      let e = with_pc (fresh_of 0) 65535 in Runs (fresh_of 0) p (with_busy e 1) × Ticks (with_busy e 1) p [] Waited e [] × Ticks e p [] End e []
  -- 8: PUSH at SP 0: byte at 0, SP 65,535
  pub line_8 : let k = with_reg (fresh_of 0) 0 7 in Ticks k (0x0F ∷ 0x92 ∷ []) (0 ∷ []) Ran (with_pc (with_sp k 65535) 1) (7 ∷ [])
  -- 9: CALL with SP 2 ends with SP 0; with SP 1, refusal 3
  pub line_9 :
      let k = fresh_of 2 in Ticks k call5 (zeros 3) Ran (with_busy (with_pc (with_sp k 0) 5) 2) (0 ∷ 0 ∷ 2 ∷ []) × IsRefused (fresh_of 1) call5 (zeros 3) 3
  -- 10: LDD Y+63 at Y 65,535, data 65,536 bytes: refusal 4 (address 65,598)
  pub line_10 : IsRefused (with_word (fresh_of 0) 28 65535) (0x0F ∷ 0xAC ∷ []) (zeros 65536) 4
  -- 11: LD R26,X+ at X 0x0100 leaves X 0x0101. LD R26,-X at X 0x0101 with byte 0x77 at 0x0100 leaves 0x0177
  pub line_11 :
      let k = with_word (fresh_of 0) 26 0x0100 in
      let j = with_word (fresh_of 0) 26 0x0101 in
      Ticks k (0xAD ∷ 0x91 ∷ []) bytes77 Ran (with_pc (with_busy (with_word k 26 0x0101) 2) 1) bytes77
      × Ticks j (0xAE ∷ 0x91 ∷ []) bytes77 Ran (with_pc (with_busy (with_word j 26 0x0177) 2) 1) bytes77
  -- 12: entry at PC 0x1234, SP 0x0200: 0x34 at 0x0200, 0x12 at 0x01FF
  pub line_12 :
      let k = with_sreg (with_pc (fresh_of 0x0200) 0x1234) 0x80 in
      let m = zeros 0x0201 in
      tick_of k [] m (Some 6) ≡ gives Entered (with_service (with_busy (with_pc (with_sp k 0x01FE) 6) 4) true) (set (set m 0x0200 0x34) 0x01FF 0x12)
  -- 13: SBRS R0,0 (bit set) at PC 0 before a JMP: PC 3, busy 2
  pub line_13 : let k = with_reg (fresh_of 0) 0 1 in Runs k (0x00 ∷ 0xFE ∷ 0x0C ∷ 0x94 ∷ []) (with_busy (with_pc k 3) 2)
