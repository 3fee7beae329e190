-- 02, W6: "Also: an instruction that runs, with its waits and without any entry, takes at most four ticks, and a register-only one at most two."
-- op is an instruction, x and y are its fields, r a row, k a core, p a program, m the bytes of data, v what is offered by the tick's number, from 1, j a number of ticks done, n a number of ticks.
use Rattle.std.specs.Prelude.{◌≡◌, Bool, true, false, ◌&&◌, List, [], ◌∷◌, ℕ, zero, suc, ◌+◌, ◌≤◌, ◌<◌, eqb, replicate}
use Rattle.std.specs.Bool.{beq}
use Rattle.basis.specs.Pick.{pick}
use Rattle.basis.specs.Bit.{one, bit}
use Rattle.instruction.specs.Code.{code, one_of, is_register_only}
use Rattle.instruction.specs.Decode.{decode_of}
use Rattle.instruction.specs.declared.Instruction.{Instruction}
use Rattle.instruction.specs.declared.Instruction.TheVariants.{ADC, ADD, ADIW, AND, ANDI, ASR, BCLR, BLD, BRBC, BRBS, BREAK, BSET, BST, CALL, CBI, COM, CP, CPC, CPI, CPSE, DEC, EOR, FMUL, FMULS, FMULSU, ICALL, IJMP, IN, INC, JMP, LDX, LDXinc, LDXdec, LDYinc, LDYdec, LDZinc, LDZdec, LDDY, LDDZ, LDI, LDS, LPM, LPMZ, LPMZinc, LSL, LSR, MOV, MOVW, MUL, MULS, MULSU, NEG, NOP, OR, ORI, OUT, POP, PUSH, RCALL, RET, RETI, RJMP, ROR, SBC, SBCI, SBI, SBIC, SBIS, SBIW, SBRC, SBRS, SLEEP, STX, STXdec, STXinc, STYdec, STYinc, STZdec, STZinc, STDY, STDZ, STS, SUB, SUBI, SWAP, WDR, UNDEF}
use Rattle.cores.specs.declared.Core.{Core}
use Rattle.cores.specs.State.{reg, flag, fresh_of, with_reg, with_sreg}
use Rattle.cores.specs.Flow.{op_at, two_at, data_bit_is}
use Rattle.execute.specs.Execute.{behind, executed}
use Rattle.tick.specs.Tick.{number_of}
use Rattle.tick.specs.Offer.{Offer}
use Rattle.tick.specs.declared.Answer.TheVariants.{Waited}
use Rattle.schedule.specs.Laws.{after_by, tick_by}
use Rattle.manual.specs.Switches.{the_manual, Says, undefined, sleeps, says}
use Rattle.manual.specs.Instructions.{instruction}

-- ---- the table: an instruction; its ticks under source and under chip; its cycles by the manual (AVRxt), 0 where the manual has no such instruction
pub record Row : Type 0 where
  pub op : Instruction
  pub source : ℕ
  pub chip : ℕ
  pub manual : ℕ

abbrev pub row : Instruction → ℕ → ℕ → ℕ → Row
row op source chip manual = record { op = op; source = source; chip = chip; manual = manual }

-- 01: "Busy set: 1 for ADIW SBIW, all multiplies, taken BRBC/BRBS, ICALL IJMP RCALL RJMP, pointer stores, STS, POP, taken skip of one word; 2 for CALL JMP, pointer loads, LDS, LPM forms, taken skip
-- of two words; 3 for RET RETI; 0 otherwise"; 02, W4: "Pointer loads and stores set busy to one less than the manual's AVRxt cycles for SRAM". A tick more than busy.
-- In the order of the enum, whatever the fields; those that stand here make none of the branches and skips taken. LSL is never decoded
abbrev pub rows : List Row
rows =
    row (ADC 0 0) 1 1 1 ∷
    row (ADD 0 0) 1 1 1 ∷
    row (ADIW 0 0) 2 2 2 ∷
    row (AND 0 0) 1 1 1 ∷
    row (ANDI 0 0) 1 1 1 ∷
    row (ASR 0) 1 1 1 ∷
    row (BCLR 0) 1 1 1 ∷
    row (BLD 0 0) 1 1 1 ∷
    row (BRBC 0 0) 1 1 1 ∷
    row (BRBS 1 0) 1 1 1 ∷
    row BREAK 1 1 1 ∷
    row (BSET 0) 1 1 1 ∷
    row (BST 0 0) 1 1 1 ∷
    row (CALL 0) 3 3 3 ∷
    row (CBI 0 0) 1 1 1 ∷
    row (COM 0) 1 1 1 ∷
    row (CP 0 0) 1 1 1 ∷
    row (CPC 0 0) 1 1 1 ∷
    row (CPI 0 0) 1 1 1 ∷
    row (CPSE 0 1) 1 1 1 ∷
    row (DEC 0) 1 1 1 ∷
    row (EOR 0 0) 1 1 1 ∷
    row (FMUL 0 0) 2 2 2 ∷
    row (FMULS 0 0) 2 2 2 ∷
    row (FMULSU 0 0) 2 2 2 ∷
    row ICALL 2 2 2 ∷
    row IJMP 2 2 2 ∷
    row (IN 0 0) 1 1 1 ∷
    row (INC 0) 1 1 1 ∷
    row (JMP 0) 3 3 3 ∷
    row (LDX 0) 3 2 2 ∷
    row (LDXinc 0) 3 2 2 ∷
    row (LDXdec 0) 3 2 2 ∷
    row (LDYinc 0) 3 2 2 ∷
    row (LDYdec 0) 3 2 2 ∷
    row (LDZinc 0) 3 2 2 ∷
    row (LDZdec 0) 3 2 2 ∷
    row (LDDY 0 0) 3 2 2 ∷
    row (LDDZ 0 0) 3 2 2 ∷
    row (LDI 0 0) 1 1 1 ∷
    row (LDS 0 0) 3 3 3 ∷
    row LPM 3 3 3 ∷
    row (LPMZ 0) 3 3 3 ∷
    row (LPMZinc 0) 3 3 3 ∷
    row (LSL 0) 1 1 1 ∷
    row (LSR 0) 1 1 1 ∷
    row (MOV 0 0) 1 1 1 ∷
    row (MOVW 0 0) 1 1 1 ∷
    row (MUL 0 0) 2 2 2 ∷
    row (MULS 0 0) 2 2 2 ∷
    row (MULSU 0 0) 2 2 2 ∷
    row (NEG 0) 1 1 1 ∷
    row NOP 1 1 1 ∷
    row (OR 0 0) 1 1 1 ∷
    row (ORI 0 0) 1 1 1 ∷
    row (OUT 0 0) 1 1 1 ∷
    row (POP 0) 2 2 2 ∷
    row (PUSH 0) 1 1 1 ∷
    row (RCALL 0) 2 2 2 ∷
    row RET 4 4 4 ∷
    row RETI 4 4 4 ∷
    row (RJMP 0) 2 2 2 ∷
    row (ROR 0) 1 1 1 ∷
    row (SBC 0 0) 1 1 1 ∷
    row (SBCI 0 0) 1 1 1 ∷
    row (SBI 0 0) 1 1 1 ∷
    row (SBIC 0 0) 1 1 1 ∷
    row (SBIS 1 0) 1 1 1 ∷
    row (SBIW 0 0) 2 2 2 ∷
    row (SBRC 0 0) 1 1 1 ∷
    row (SBRS 1 0) 1 1 1 ∷
    row SLEEP 1 1 1 ∷
    row (STX 0) 2 1 1 ∷
    row (STXdec 0) 2 1 1 ∷
    row (STXinc 0) 2 1 1 ∷
    row (STYdec 0) 2 1 1 ∷
    row (STYinc 0) 2 1 1 ∷
    row (STZdec 0) 2 1 1 ∷
    row (STZinc 0) 2 1 1 ∷
    row (STDY 0 0) 2 1 1 ∷
    row (STDZ 0 0) 2 1 1 ∷
    row (STS 0 0) 2 2 2 ∷
    row (SUB 0 0) 1 1 1 ∷
    row (SUBI 0 0) 1 1 1 ∷
    row (SWAP 0) 1 1 1 ∷
    row WDR 1 1 1 ∷
    row UNDEF 1 1 0 ∷ []

-- ---- what an instruction takes
-- the row at a place
abbrev pub row_at : ℕ → List Row → Row
row_at place [] = row UNDEF 0 0 0
row_at zero (r ∷ rs) = r
row_at (suc place) (r ∷ rs) = row_at place rs

abbrev pub ticks_of : Bool → Instruction → ℕ
ticks_of chip op = let r = row_at (code op).0 rows in pick chip r.chip r.source

module _ (decode : ℕ → ℕ → Instruction) where
  -- a skip that is taken passes one word or two; PC is behind it
  abbrev pub passed : Core → Bool → List ℕ → ℕ
  passed k taken p = pick taken (1 + one (two_at decode k p)) 0

  -- what is further to the row: a tick where a branch is taken, and a tick for each word that a skip passes
  abbrev pub further : Core → Instruction → List ℕ → List ℕ → ℕ
  further k op p m =
      let x = (code op).1 in
      let y = (code op).2 in
      pick (one_of (BRBC 0 0 ∷ []) op) (one (beq (flag k x) false))
      (pick (one_of (BRBS 0 0 ∷ []) op) (one (beq (flag k x) true))
      (pick (one_of (CPSE 0 0 ∷ []) op) (passed k (eqb (reg k x) (reg k y)) p)
      (pick (one_of (SBIC 0 0 ∷ []) op) (passed k (data_bit_is m x y false) p)
      (pick (one_of (SBIS 0 0 ∷ []) op) (passed k (data_bit_is m x y true) p)
      (pick (one_of (SBRC 0 0 ∷ []) op) (passed k (beq (bit (reg k x) y) false) p)
      (pick (one_of (SBRS 0 0 ∷ []) op) (passed k (beq (bit (reg k x) y) true) p) 0))))))

  abbrev pub takes : Core → Instruction → List ℕ → List ℕ → ℕ
  takes k op p m = ticks_of k.chip op + further k op p m

-- ---- the theorems, proved in proofs/Cycles.antt
-- a busy that an instruction leaves, its ticks, which are one more, and whether it is register-only: four ticks are the most, and two of those
pub record Lasts (busy ticks : ℕ) (register_only : Bool) : Type 0 where
  pub exactly : 1 + busy ≡ ticks
  pub four : ticks ≤ 4
  pub two : register_only ≡ true → ticks ≤ 2

-- of every instruction, executed on a core that does not wait
abbrev pub TicksByTheTable : Type 0
TicksByTheTable =
    (decode : ℕ → ℕ → Instruction) (op : Instruction) (k : Core) (p m : List ℕ) → k.busy ≡ 0
    → Lasts (executed decode k op p m).core.busy (takes decode k op p m) (is_register_only op)

-- "an instruction that runs, with its waits and without any entry": the first tick executes it (18 to 22), the others wait, whatever is offered, and behind them the core waits no more
module _ (v : ℕ → Offer) (k : Core) (p m : List ℕ) where
  pub record Executes : Type 0 where
    pub least : 18 ≤ number_of (tick_by v k p m 0).answer
    pub most : number_of (tick_by v k p m 0).answer ≤ 22

  pub record Takes (n : ℕ) : Type 0 where
    pub waits : (j : ℕ) → 0 < j → j < n → (tick_by v k p m j).answer ≡ Waited
    pub over : (after_by v k p m n).0.busy ≡ 0

  pub record RunsFor (op : Instruction) (n : ℕ) : Type 0 where
    pub by_the_table : n ≡ takes decode_of (behind k) op p m
    pub takes_them : Takes n
    pub four : n ≤ 4
    pub two : is_register_only op ≡ true → n ≤ 2

abbrev pub InstructionsRunForTheirTicks : Type 0
InstructionsRunForTheirTicks =
    (v : ℕ → Offer) (k : Core) (p m : List ℕ) → Executes v k p m → (n : ℕ) × RunsFor v k p m (op_at decode_of p k.pc) n

-- ---- the manual's column, by its pages with every switch off
abbrev pub cycles : Says → ℕ
cycles undefined = 0
cycles (sleeps k m) = 1
cycles (says a k m) = 1 + k.busy

-- a core with R0 1 and C set, SP 7, an empty program, and data whose first byte is 1. two: the next instruction is of two words
abbrev pub manual_of : Bool → Instruction → ℕ
manual_of two op = cycles (instruction the_manual two (with_sreg (with_reg (fresh_of 7) 0 1) 1) op [] (1 ∷ replicate 63 0))

-- a row has its place, and the manual's cycles
abbrev pub agree : ℕ → List Row → Bool
agree place [] = true
agree place (r ∷ rs) = eqb (code r.op).0 place && eqb (manual_of false r.op) r.manual && agree (suc place) rs

-- the branches and skips, taken
abbrev pub all_taken : List Instruction
all_taken = BRBC 1 0 ∷ BRBS 0 0 ∷ CPSE 0 0 ∷ SBIC 1 0 ∷ SBIS 0 0 ∷ SBRC 1 0 ∷ SBRS 0 0 ∷ []

abbrev pub manual_taken : Bool → List Instruction → List ℕ
manual_taken two [] = []
manual_taken two (op ∷ ops) = manual_of two op ∷ manual_taken two ops

pub record ManualBeside : Type 0 where
  pub column : agree 0 rows ≡ true
  pub over_one : manual_taken false all_taken ≡ 2 ∷ 2 ∷ 2 ∷ 2 ∷ 2 ∷ 2 ∷ 2 ∷ []
  pub over_two : manual_taken true all_taken ≡ 2 ∷ 2 ∷ 3 ∷ 3 ∷ 3 ∷ 3 ∷ 3 ∷ []
