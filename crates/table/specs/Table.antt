-- 01's table: the numbers that a tick can answer, each with its condition on core k, program p, data m and offer o.
use Rattle.std.specs.Prelude.{◌≡◌, ◌↔◌, Bool, true, not, ◌&&◌, ◌||◌, List, [], ◌∷◌, ℕ, ◌+◌, ◌<◌, eqb, ltb}
use Rattle.basis.specs.Bit.{one}
use Rattle.instruction.specs.Code.{one_of, two_words}
use Rattle.instruction.specs.Decode.{decode_of}
use Rattle.instruction.specs.declared.Instruction.{Instruction}
use Rattle.instruction.specs.declared.Instruction.TheVariants.{BREAK, CALL, ICALL, LDS, RCALL, RET, RETI, SLEEP, STS, UNDEF, WDR}
use Rattle.memory.specs.Memory.{has_of, has_word_of}
use Rattle.cores.specs.declared.Core.{Core}
use Rattle.cores.specs.State.{word}
use Rattle.cores.specs.Flow.{op_at}
use Rattle.tick.specs.Offer.{Offer}
use Rattle.tick.specs.Tick.{number_of, tick_of}
use Rattle.table.specs.Steps.{too_busy, waits, enters, ends, steps, reads_program, skips, pushed, data_needed, has_all}

-- ---- what an instruction lacks, for each of refusals 1 to 4
-- "1: opcode, a second word the instruction uses (CALL JMP LDS STS), the word to be skipped, or an LPM byte isn't wholly in program"
abbrev pub outside_program : Core → List ℕ → List ℕ → Instruction → Bool
outside_program k p m op =
    not (has_word_of p k.pc) || (two_words op || skips k m op) && not (has_word_of p (k.pc + 1)) || reads_program op && not (has_of p (word k 30))

-- "2: CALL, LDS, STS at PC 65,534; taken skip at PC 65,534, or at 65,533 over a two-word instruction"
abbrev pub past_the_top : Core → List ℕ → List ℕ → Instruction → Bool
past_the_top k p m op =
    one_of (CALL 0 ∷ LDS 0 0 ∷ STS 0 0 ∷ []) op && eqb k.pc 65534
    || skips k m op && (eqb k.pc 65534 || eqb k.pc 65533 && two_words (op_at decode_of p (k.pc + 1)))

-- "3: .. CALL, RCALL, ICALL with SP below 2; RET, RETI with SP above 65,533"
abbrev pub off_the_stack : Core → Instruction → Bool
off_the_stack k op = one_of (CALL 0 ∷ RCALL 0 ∷ ICALL ∷ []) op && ltb k.sp 2 || one_of (RET ∷ RETI ∷ []) op && ltb 65533 k.sp

-- "4: a data byte needed isn't in data"
abbrev pub outside_data : Core → List ℕ → Instruction → Bool
outside_data k m op = not (has_all m (data_needed k op))

module _ (k : Core) (p m : List ℕ) (o : Offer) where
  abbrev op : Instruction
  op = op_at decode_of p k.pc

  -- ---- "Refusals 1 to 4 look only at what the step reached needs: a wait, an entry or the end needs no opcode."
  abbrev lacks1 : Bool
  lacks1 = steps k o && outside_program k p m op

  abbrev lacks2 : Bool
  lacks2 = steps k o && past_the_top k p m op

  abbrev lacks3 : Bool
  lacks3 = enters k o && ltb k.sp 2 || steps k o && off_the_stack k op

  abbrev lacks4 : Bool
  lacks4 = enters k o && not (has_all m (pushed k)) || steps k o && outside_data k m op

  -- "Where two refusals apply, the lower of 1 to 4 is given."
  abbrev whole : Bool
  whole = not (lacks1 || lacks2 || lacks3 || lacks4)

  -- an instruction executed
  abbrev done : Bool
  done = steps k o && whole

  -- ---- number and condition
  abbrev pub rows : List (ℕ × Bool)
  rows =
      (1, lacks1)
      ∷ (2, not lacks1 && lacks2)
      ∷ (3, not (lacks1 || lacks2) && lacks3)
      ∷ (4, not (lacks1 || lacks2 || lacks3) && lacks4)
      ∷ (5, too_busy k)
      ∷ (16, waits k)
      ∷ (17, enters k o && whole)
      ∷ (18, done && not (one_of (SLEEP ∷ WDR ∷ UNDEF ∷ BREAK ∷ []) op))
      ∷ (19, done && one_of (SLEEP ∷ []) op)
      ∷ (20, done && one_of (WDR ∷ []) op)
      ∷ (21, done && one_of (UNDEF ∷ []) op)
      ∷ (22, done && one_of (BREAK ∷ []) op)
      ∷ (23, ends k o)
      ∷ []

-- ---- what is stated
-- answer a is a row's number exactly when the row's condition holds
abbrev pub ExactlyWhen : ℕ → List (ℕ × Bool) → Type 0
ExactlyWhen a [] = Unit {0}
ExactlyWhen a ((n, c) ∷ l) = (a ≡ n ↔ c ≡ true) × ExactlyWhen a l

-- how many of the conditions hold
abbrev pub holding : List (ℕ × Bool) → ℕ
holding [] = 0
holding ((n, c) ∷ l) = one c + holding l

-- number a is given by these rows: exactly when, and by one of them and no more
abbrev pub Given : ℕ → List (ℕ × Bool) → Type 0
Given a l = ExactlyWhen a l × (holding l ≡ 1)

-- of every core (PC of 16 bits, as its type says), program, data and offer
abbrev pub AnswersByTheTable : Type 0
AnswersByTheTable = (k : Core) (p m : List ℕ) (o : Offer) → k.pc < 65536 → Given (number_of (tick_of k p m o).answer) (rows k p m o)
