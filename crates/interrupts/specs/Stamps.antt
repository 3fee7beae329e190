-- Demand 3 at work: two stamps an hour apart, in minutes of the day, 13:00 (780, 0x030C) in R17:R16 and 14:00 (840, 0x0348) in R19:R18.
-- Their high bytes are the same, so that all hangs on the borrow that CP leaves to CPC. An interrupt comes between the two.
use Rattle.std.specs.Prelude.{◌≡◌, List, [], ◌∷◌, ℕ, ◌+◌, ◌/◌, ◌%◌, ◌-◌, ◌<◌, ◌≤◌, eqb, replicate, Some, None}
use Rattle.basis.specs.Pick.{pick}
use Rattle.cores.specs.State.{reg, fresh_of, with_reg, with_sreg}
use Rattle.interrupts.specs.Handlers.{First, FirstReti}
use Rattle.interrupts.specs.Interrupts.{State, Offers, no_offers, after, sp, byte_at, number_at, returns, Ended, Begins, Assumed, AssumedTo, NoTrace}

-- "low byte of each word first"
abbrev pub bytes_of : List ℕ → List ℕ
bytes_of [] = []
bytes_of (w ∷ l) = w % 256 ∷ w / 256 ∷ bytes_of l

abbrev pub program : List ℕ
program =
    bytes_of
    -- the stretch, from PC 0: R20 becomes 0xFF where the first stamp is the earlier one, else 0
    (0x1702 ∷  -- CP R16,R18
    0x0713 ∷  -- CPC R17,R19
    0x0B44 ∷  -- SBC R20,R20
    0x0000 ∷
    -- a handler at PC 4 that counts a byte of data down, and puts back what it touched
    0x938F ∷  -- PUSH R24
    0xB78F ∷  -- IN R24,SREG
    0x938F ∷  -- PUSH R24
    0x9180 ∷ 0x0000 ∷  -- LDS R24,0
    0x5081 ∷  -- SUBI R24,1
    0x9380 ∷ 0x0000 ∷  -- STS 0,R24
    0x918F ∷  -- POP R24
    0xBF8F ∷  -- OUT SREG,R24
    0x918F ∷  -- POP R24
    0x9518 ∷  -- RETI
    -- the same at PC 16, without SREG
    0x938F ∷  -- PUSH R24
    0x9180 ∷ 0x0000 ∷  -- LDS R24,0
    0x5081 ∷  -- SUBI R24,1
    0x9380 ∷ 0x0000 ∷  -- STS 0,R24
    0x918F ∷  -- POP R24
    0x9518 ∷ [])  -- RETI

-- I is set, SP is 15, and there are 16 bytes of data, the first of them 5
abbrev pub start : State
start = record { core = with_sreg (with_reg (with_reg (with_reg (with_reg (fresh_of 15) 16 0x0C) 17 0x03) 18 0x48) 19 0x03) 0x80; bytes = 5 ∷ replicate 15 0 }

-- a vector at tick 1, between CP and CPC
abbrev pub between : ℕ → Offers
between v t = pick (eqb t 1) (Some v) None

-- the state after j ticks: with no interrupt, with the first handler, with the second
abbrev pub plain : ℕ → State
plain j = after program start no_offers j

abbrev pub careful : ℕ → State
careful j = after program start (between 4) j

abbrev pub careless : ℕ → State
careless j = after program start (between 16) j

-- ---- the handler that puts everything back
-- what is assumed is met in both forms, so there is no trace after 26 ticks, 23 of them the handler's. It did its work: the byte was counted down
pub record StampsInOrder : Type 0 where
  pub assumed : Assumed program start 3 (between 4)
  pub assumed_to : AssumedTo program start 3 (between 4) 26
  pub no_trace : NoTrace program start 3 (between 4) 26 3
  pub earlier : reg (careful 26).core 20 ≡ 0xFF
  pub plain_earlier : reg (plain 3).core 20 ≡ 0xFF
  pub counted_down : byte_at (careful 26) 0 ≡ 4

-- ---- the handler that loses a flag
-- all that is assumed is met but for SREG, which at the RETI, tick 15, is not what it was before the entry, tick 1; and the two ends differ
pub record FlagLost : Type 0 where
  pub begins : Begins program start 3
  pub first : First (Ended program start 3 (between 16)) 21
  pub plain_first : First (Ended program start 3 no_offers) 3
  pub allowed : (t : ℕ) → t < 21 → 16 ≤ number_at program start (between 16) t
  pub reti : FirstReti (returns program start (between 16)) 1 15
  pub regs : (careless 15).core.regs ≡ (careless 1).core.regs
  pub lower : sp (careless 15) + 2 ≡ sp (careless 1)
  pub low : byte_at (careless 15) (sp (careless 1)) ≡ byte_at (careless 2) (sp (careless 1))
  pub high : byte_at (careless 15) (sp (careless 1) - 1) ≡ byte_at (careless 2) (sp (careless 1) - 1)
  -- C, N and S are lost
  pub sreg : (careless 1).core.sreg ≡ 0x95
  pub sreg_lost : (careless 15).core.sreg ≡ 0x80
  -- so 13:00 does not pass for the earlier of the two
  pub not_earlier : reg (careless 21).core 20 ≡ 0
  pub plain_earlier : reg (plain 3).core 20 ≡ 0xFF
