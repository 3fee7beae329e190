-- 01's bench sheet on the Rust's definition, each row with all that its tick leaves; row 1 is `decode`'s. And: the theorem speaks of every fresh core.
use Rattle.std.specs.Prelude.{◌≡◌, Bool, true, false, List, [], ◌∷◌, ℕ, ◌<◌, replicate, set, Some, None}
use Rattle.cores.specs.declared.Core.{Core}
use Rattle.cores.specs.State.{Sound, fresh_of, with_reg, with_word, with_sreg, with_pc, with_sp, with_busy, with_inhibit, with_service}
use Rattle.source.specs.Monad.{ok, panic}
use Rattle.source.specs.Tick.{tick}
use Rattle.source.specs.Statement.{self_of}

-- one tick of core k, program p and data m, with nothing offered: it leaves core j and data n, and returns b
abbrev Ticks : Core → List ℕ → List ℕ → Bool → Core → List ℕ → Type 0
Ticks k p m b j n = tick (self_of k p m None) ≡ ok b (self_of j p n None)

abbrev Panics : Core → List ℕ → List ℕ → Type 0
Panics k p m = tick (self_of k p m None) ≡ panic

-- without data
abbrev Changes : Core → List ℕ → Core → Type 0
Changes k p j = Ticks k p [] true j []

-- the words of some instructions, low byte first
abbrev call5 : List ℕ
call5 = 0x0E ∷ 0x94 ∷ 0x05 ∷ 0x00 ∷ []

abbrev zeros : ℕ → List ℕ
zeros n = replicate n 0

abbrev bytes77 : List ℕ
bytes77 = set (zeros 0x0101) 0x0100 0x77

abbrev pub BenchOnTheRust : Type 0
BenchOnTheRust =
    -- 2: ADIW R25:R24,1 on 0x8001
    (let k = with_word (fresh_of 0) 24 0x8001 in Changes k (0x01 ∷ 0x96 ∷ []) (with_pc (with_busy (with_sreg (with_word k 24 0x8002) 0x0C) 1) 1))
    -- 3: CP R0,R1 on 0xFF and 0x00, then CPC R2,R3 on 0x00 and 0x01
    × (let k = with_reg (with_reg (fresh_of 0) 0 0xFF) 3 0x01 in Changes k (0x01 ∷ 0x14 ∷ []) (with_pc (with_sreg k 0x14) 1))
    × (let k = with_sreg (with_reg (with_reg (fresh_of 0) 0 0xFF) 3 0x01) 0x14 in Changes k (0x23 ∷ 0x04 ∷ []) (with_pc (with_sreg k 0x35) 1))
    -- 4: CP R0,R1 on 0x80 and 0x01; SBC the same
    × (let k = with_reg (with_reg (fresh_of 0) 0 0x80) 1 0x01 in Changes k (0x01 ∷ 0x14 ∷ []) (with_pc (with_sreg k 0x38) 1))
    × (let k = with_reg (with_reg (fresh_of 0) 0 0x80) 1 0x01 in Changes k (0x01 ∷ 0x08 ∷ []) (with_pc (with_sreg (with_reg k 0 0x7F) 0x38) 1))
    -- 5: NEG R0 on 0x80 and on 0
    × (let k = with_reg (fresh_of 0) 0 0x80 in Changes k (0x01 ∷ 0x94 ∷ []) (with_pc (with_sreg k 0x0D) 1))
    × (let k = fresh_of 0 in Changes k (0x01 ∷ 0x94 ∷ []) (with_pc (with_sreg k 0x02) 1))
    -- 6: MULSU R16,R17 on 0x80 and 0xFF; FMULS R16,R17 on 0x80 and 0x80
    × (let k = with_reg (with_reg (fresh_of 0) 16 0x80) 17 0xFF in Changes k (0x01 ∷ 0x03 ∷ []) (with_pc (with_busy (with_sreg (with_word k 0 0x8080) 0x01) 1) 1))
    × (let k = with_reg (with_reg (fresh_of 0) 16 0x80) 17 0x80 in Changes k (0x81 ∷ 0x03 ∷ []) (with_pc (with_busy (with_sreg (with_word k 0 0x8000) 0x00) 1) 1))
    -- 7: 0xCFFE at PC 0; the tick at PC 65,535 returns false
    × (let k = fresh_of 0 in Changes k (0xFE ∷ 0xCF ∷ []) (with_busy (with_pc k 65535) 1))
    × (let k = with_pc (fresh_of 0) 65535 in Ticks k [] [] false k [])
    -- 8: PUSH R0 at SP 0
    × (let k = with_reg (fresh_of 0) 0 7 in Ticks k (0x0F ∷ 0x92 ∷ []) (0 ∷ []) true (with_pc (with_sp k 65535) 1) (7 ∷ []))
    -- 9: CALL 5 with SP 2, and with SP 1
    × (let k = fresh_of 2 in Ticks k call5 (zeros 3) true (with_busy (with_pc (with_sp k 0) 5) 2) (0 ∷ 0 ∷ 2 ∷ []))
    × Panics (fresh_of 1) call5 (zeros 3)
    -- 10: LDD R0,Y+63 at Y 65,535, with 65,536 bytes of data
    × Panics (with_word (fresh_of 0) 28 65535) (0x0F ∷ 0xAC ∷ []) (zeros 65536)
    -- 11: LD R26,X+ at X 0x0100, and LD R26,-X at X 0x0101, with byte 0x77 at 0x0100
    × (let k = with_word (fresh_of 0) 26 0x0100 in Ticks k (0xAD ∷ 0x91 ∷ []) bytes77 true (with_pc (with_busy (with_word k 26 0x0101) 2) 1) bytes77)
    × (let k = with_word (fresh_of 0) 26 0x0101 in Ticks k (0xAE ∷ 0x91 ∷ []) bytes77 true (with_pc (with_busy (with_word k 26 0x0177) 2) 1) bytes77)
    -- 12: entry at PC 0x1234, SP 0x0200
    × (let k = with_sreg (with_pc (fresh_of 0x0200) 0x1234) 0x80 in
    let m = zeros 0x0201 in
    tick (self_of k [] m (Some 6)) ≡ ok true (self_of (with_service (with_busy (with_pc (with_sp k 0x01FE) 6) 4) true) [] (set (set m 0x0200 0x34) 0x01FF 0x12) (Some 6)))
    -- 13: SBRS R0,0 (bit set) at PC 0 before a JMP
    × (let k = with_reg (fresh_of 0) 0 1 in Changes k (0x00 ∷ 0xFE ∷ 0x0C ∷ 0x94 ∷ []) (with_busy (with_pc k 3) 2))
    -- step 3: inhibit is cleared, and the offer waits
    × (let k = with_sreg (fresh_of 2) 0x80 in
    tick (self_of (with_inhibit k true) (0 ∷ 0 ∷ []) (zeros 3) (Some 6)) ≡ ok true (self_of (with_pc k 1) (0 ∷ 0 ∷ []) (zeros 3) (Some 6)))

abbrev pub FreshCoresAreSound : Type 0
FreshCoresAreSound = (sp : ℕ) → sp < 65536 → Sound (fresh_of sp)
