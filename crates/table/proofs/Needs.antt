-- What a step needs, by `Needs`, is what the table's rows 1 to 4 say that it lacks, for each instruction.
-- Assumes nothing.
use mathlib.Core.Path.{◌≡◌, refl}
use mathlib.Core.Bool.{Bool, true, false, not, ◌&&◌, ◌||◌, beq}
use mathlib.Core.List.{List, [], ◌∷◌}
use Prim.Native.Nat.{ℕ, ◌+◌, ◌-◌, ◌<◌}
use native.Mathlib.Omega.{arith}
use borrow.Author.Tests.{ltb-true, ltb-false, eqb-true, eqb-false, lt-ltb, le-ltb, le-leb, lt-leb}
use lib.Dec.{eqb, ltb, leb}
use lib.ListN.{length}
use Rattle.basis.specs.Pick.{pick}
use Rattle.basis.specs.Bit.{one, bit, up, down}
use Rattle.basis.proofs.Choice.{test}
use Rattle.instruction.specs.Code.{two_words}
use Rattle.instruction.specs.Decode.{decode_of}
use Rattle.instruction.specs.declared.Instruction.{Instruction}
use Rattle.instruction.specs.declared.Instruction.TheVariants.{ADC, ADD, ADIW, AND, ANDI, ASR, BCLR, BLD, BRBC, BRBS, BREAK, BSET, BST, CALL, CBI, COM, CP, CPC, CPI, CPSE, DEC, EOR, FMUL, FMULS, FMULSU, ICALL, IJMP, IN, INC, JMP, LDX, LDXinc, LDXdec, LDYinc, LDYdec, LDZinc, LDZdec, LDDY, LDDZ, LDI, LDS, LPM, LPMZ, LPMZinc, LSL, LSR, MOV, MOVW, MUL, MULS, MULSU, NEG, NOP, OR, ORI, OUT, POP, PUSH, RCALL, RET, RETI, RJMP, ROR, SBC, SBCI, SBI, SBIC, SBIS, SBIW, SBRC, SBRS, SLEEP, STX, STXdec, STXinc, STYdec, STYinc, STZdec, STZinc, STDY, STDZ, STS, SUB, SUBI, SWAP, WDR, UNDEF}
use Rattle.memory.specs.Memory.{has_of, has_word_of}
use Rattle.cores.specs.declared.Core.{Core}
use Rattle.cores.specs.State.{reg, word, with_pc, with_inhibit}
use Rattle.cores.specs.Flow.{data_bit_is, op_at}
use Rattle.cores.specs.Transfer.{reach_of, pointed_of}
use Rattle.execute.specs.Needs.{Needs, needs, fetched, with_fetch}
use Rattle.tick.proofs.Steps.{onward}
use Rattle.table.specs.Steps.{has_all, unless_mapped}
use Rattle.table.specs.Table.{outside_program, past_the_top, off_the_stack, outside_data}

-- ---- tests
twice : (a : Bool) → a ≡ not (not a)
twice true = refl
twice false = refl

-- ---- 1: words and bytes of program; h and i say whether the word at PC, and the one behind it, are there
one_word : (h : Bool) → (h && true && true) ≡ not (not h || false || false)
one_word true = refl
one_word false = refl

two_words_lem : (h i : Bool) → (h && i && true) ≡ not (not h || not i || false)
two_words_lem true true = refl
two_words_lem true false = refl
two_words_lem false i = refl

skipped_word : (h i t : Bool) → (h && true && pick t i true) ≡ not (not h || t && not i || false)
skipped_word true true true = refl
skipped_word true false true = refl
skipped_word true i false = refl
skipped_word false i t = refl

program_byte_lem : (h b : Bool) → (h && true && b) ≡ not (not h || false || not b)
program_byte_lem true b = twice b
program_byte_lem false b = refl

-- ---- 2: room for PC
second_room : {pc : ℕ} → pc < 65535 → ltb (pc + 1) 65535 ≡ not (eqb pc 65534 || false)
second_room {pc} h =
    test (eqb pc 65534)
    (λ e. rw e (le-ltb (pc + 1) 65535 (omega (arith, eqb-true pc 65534 e))))
    λ e. let z = eqb-false pc 65534 e in rw e (lt-ltb (pc + 1) 65535 (omega arith))

over : {pc : ℕ} → pc < 65535 → (two : Bool) → ltb (pc + 1 + one two) 65535 ≡ not (eqb pc 65534 || eqb pc 65533 && two)
over {pc} h true =
    test (eqb pc 65534)
    (λ e. rw e (le-ltb (pc + 1 + 1) 65535 (omega (arith, eqb-true pc 65534 e))))
    λ e. test (eqb pc 65533)
    (λ f. rw (e, f) (le-ltb (pc + 1 + 1) 65535 (omega (arith, eqb-true pc 65533 f))))
    λ f. let z = eqb-false pc 65534 e in let y = eqb-false pc 65533 f in rw (e, f) (lt-ltb (pc + 1 + 1) 65535 (omega arith))
over {pc} h false =
    test (eqb pc 65534)
    (λ e. rw e (le-ltb (pc + 1 + 0) 65535 (omega (arith, eqb-true pc 65534 e))))
    λ e. let z = eqb-false pc 65534 e in
    test (eqb pc 65533) (λ f. rw (e, f) (lt-ltb (pc + 1 + 0) 65535 (omega arith))) λ f. rw (e, f) (lt-ltb (pc + 1 + 0) 65535 (omega arith))

-- ---- 3: SP
pub push_stack : (sp : ℕ) → leb 2 sp ≡ not (ltb sp 2 || false)
push_stack sp = test (ltb sp 2) (λ e. rw e (lt-leb 2 sp (ltb-true sp 2 e))) λ e. rw e (le-leb 2 sp (ltb-false sp 2 e))

pop_stack : (sp : ℕ) → leb sp 65533 ≡ not (ltb 65533 sp)
pop_stack sp = test (ltb 65533 sp) (λ e. rw e (lt-leb sp 65533 (ltb-true 65533 sp e))) λ e. rw e (le-leb sp 65533 (ltb-false 65533 sp e))

-- ---- 4: bytes of data
module _ (m : List ℕ) where
  byte_in : (at : ℕ) → has_of m at ≡ not (not (has_of m at && true))
  byte_in at = test (has_of m at) (λ e. rw e) λ e. rw e

  pub pushed_in : (sp : ℕ) → has_of m sp ≡ not (not (has_of m sp && (has_of m (sp - 1) && true)))
  pushed_in sp =
      test (has_of m sp) (λ e. let g = ltb-true sp (length m) e in rw (e, lt-ltb (sp - 1) (length m) (omega arith))) λ e. rw e

  popped_in : (sp : ℕ) → has_of m (sp + 2) ≡ not (not (has_of m (sp + 1) && (has_of m (sp + 2) && true)))
  popped_in sp =
      test (has_of m (sp + 2)) (λ e. let g = ltb-true (sp + 2) (length m) e in rw (e, lt-ltb (sp + 1) (length m) (omega arith)))
      λ e. test (has_of m (sp + 1)) (λ f. rw (e, f)) λ f. rw (e, f)

  -- an address that may be SREG or SP
  named_in : (at : ℕ) → reach_of at (length m) ≡ not (not (has_all m (unless_mapped at)))
  unfolding reach_of
  named_in at =
      mapped (eqb at 0x3F) (eqb at 0x3E) (eqb at 0x3D)
    where
      mapped : (a b c : Bool) → pick a true (pick b true (pick c true (has_of m at))) ≡ not (not (has_all m (pick a [] (pick b [] (pick c [] (at ∷ []))))))
      mapped true b c = refl
      mapped false true c = refl
      mapped false false true = refl
      mapped false false false = byte_in at

  at_pointer : (at : ℕ) → reach_of (at + 0) (length m) ≡ not (not (has_all m (unless_mapped at)))
  at_pointer at = let z : at + 0 ≡ at = omega arith in rw z (named_in at)

-- ---- each instruction
told : {a b c d a' b' c' d' : Bool} → a ≡ a' → b ≡ b' → c ≡ c' → d ≡ d'
    → Path Needs (record { program = a; room = b; stack = c; bytes = d }) (record { program = a'; room = b'; stack = c'; bytes = d' })
told e f g h = rw (e, f, g, h)

abbrev pub lacking : Core → List ℕ → List ℕ → Instruction → Needs
lacking k p m op =
    record { program = not (outside_program k p m op); room = not (past_the_top k p m op); stack = not (off_the_stack k op); bytes = not (outside_data k m op) }

module _ (k : Core) (p m : List ℕ) (low : k.pc < 65535) where
  skip_room : (t : Bool) → pick t (ltb (k.pc + 1 + one (two_words (op_at decode_of p (k.pc + 1)))) 65535) true
      ≡ not (t && (eqb k.pc 65534 || eqb k.pc 65533 && two_words (op_at decode_of p (k.pc + 1))))
  skip_room true = over low (two_words (op_at decode_of p (k.pc + 1)))
  skip_room false = refl

  abbrev here : Bool
  here = has_word_of p k.pc

  abbrev behind : Bool
  behind = has_word_of p (k.pc + 1)

  pub needs_told : (op : Instruction) → with_fetch (fetched p k.pc op) (needs decode_of (onward k) op p m) ≡ lacking k p m op
  unfolding with_pc with_inhibit pointed_of
  needs_told (ADC d r) = told (one_word here) refl refl refl
  needs_told (ADD d r) = told (one_word here) refl refl refl
  needs_told (ADIW d K) = told (one_word here) refl refl refl
  needs_told (AND d r) = told (one_word here) refl refl refl
  needs_told (ANDI d K) = told (one_word here) refl refl refl
  needs_told (ASR d) = told (one_word here) refl refl refl
  needs_told (BCLR s) = told (one_word here) refl refl refl
  needs_told (BLD d b) = told (one_word here) refl refl refl
  needs_told (BRBC s t) = told (one_word here) refl refl refl
  needs_told (BRBS s t) = told (one_word here) refl refl refl
  needs_told BREAK = told (one_word here) refl refl refl
  needs_told (BSET s) = told (one_word here) refl refl refl
  needs_told (BST d b) = told (one_word here) refl refl refl
  needs_told (CALL t) = told (two_words_lem here behind) (second_room low) (push_stack k.sp) (pushed_in m k.sp)
  needs_told (CBI A b) = told (one_word here) refl refl (byte_in m A)
  needs_told (COM d) = told (one_word here) refl refl refl
  needs_told (CP d r) = told (one_word here) refl refl refl
  needs_told (CPC d r) = told (one_word here) refl refl refl
  needs_told (CPI d K) = told (one_word here) refl refl refl
  needs_told (CPSE d r) = told (skipped_word here behind (eqb (reg k d) (reg k r))) (skip_room (eqb (reg k d) (reg k r))) refl refl
  needs_told (DEC d) = told (one_word here) refl refl refl
  needs_told (EOR d r) = told (one_word here) refl refl refl
  needs_told (FMUL d r) = told (one_word here) refl refl refl
  needs_told (FMULS d r) = told (one_word here) refl refl refl
  needs_told (FMULSU d r) = told (one_word here) refl refl refl
  needs_told ICALL = told (one_word here) refl (push_stack k.sp) (pushed_in m k.sp)
  needs_told IJMP = told (one_word here) refl refl refl
  needs_told (IN d A) = told (one_word here) refl refl (named_in m A)
  needs_told (INC d) = told (one_word here) refl refl refl
  needs_told (JMP t) = told (two_words_lem here behind) refl refl refl
  needs_told (LDX d) = told (one_word here) refl refl (at_pointer m (word k 26))
  needs_told (LDXinc d) = told (one_word here) refl refl (at_pointer m (word k 26))
  needs_told (LDXdec d) = told (one_word here) refl refl (at_pointer m (down (word k 26) 1))
  needs_told (LDYinc d) = told (one_word here) refl refl (at_pointer m (word k 28))
  needs_told (LDYdec d) = told (one_word here) refl refl (at_pointer m (down (word k 28) 1))
  needs_told (LDZinc d) = told (one_word here) refl refl (at_pointer m (word k 30))
  needs_told (LDZdec d) = told (one_word here) refl refl (at_pointer m (down (word k 30) 1))
  needs_told (LDDY d q) = told (one_word here) refl refl (named_in m (word k 28 + q))
  needs_told (LDDZ d q) = told (one_word here) refl refl (named_in m (word k 30 + q))
  needs_told (LDI d K) = told (one_word here) refl refl refl
  needs_told (LDS d at) = told (two_words_lem here behind) (second_room low) refl (named_in m at)
  needs_told LPM = told (program_byte_lem here (has_of p (word k 30))) refl refl refl
  needs_told (LPMZ d) = told (program_byte_lem here (has_of p (word k 30))) refl refl refl
  needs_told (LPMZinc d) = told (program_byte_lem here (has_of p (word k 30))) refl refl refl
  needs_told (LSL d) = told (one_word here) refl refl refl
  needs_told (LSR d) = told (one_word here) refl refl refl
  needs_told (MOV d r) = told (one_word here) refl refl refl
  needs_told (MOVW d r) = told (one_word here) refl refl refl
  needs_told (MUL d r) = told (one_word here) refl refl refl
  needs_told (MULS d r) = told (one_word here) refl refl refl
  needs_told (MULSU d r) = told (one_word here) refl refl refl
  needs_told (NEG d) = told (one_word here) refl refl refl
  needs_told NOP = told (one_word here) refl refl refl
  needs_told (OR d r) = told (one_word here) refl refl refl
  needs_told (ORI d K) = told (one_word here) refl refl refl
  needs_told (OUT A r) = told (one_word here) refl refl (named_in m A)
  needs_told (POP d) = told (one_word here) refl refl (named_in m (up k.sp 1))
  needs_told (PUSH d) = told (one_word here) refl refl (named_in m k.sp)
  needs_told (RCALL t) = told (one_word here) refl (push_stack k.sp) (pushed_in m k.sp)
  needs_told RET = told (one_word here) refl (pop_stack k.sp) (popped_in m k.sp)
  needs_told RETI = told (one_word here) refl (pop_stack k.sp) (popped_in m k.sp)
  needs_told (RJMP t) = told (one_word here) refl refl refl
  needs_told (ROR d) = told (one_word here) refl refl refl
  needs_told (SBC d r) = told (one_word here) refl refl refl
  needs_told (SBCI d K) = told (one_word here) refl refl refl
  needs_told (SBI A b) = told (one_word here) refl refl (byte_in m A)
  needs_told (SBIC A b) = told (skipped_word here behind (data_bit_is m A b false)) (skip_room (data_bit_is m A b false)) refl (byte_in m A)
  needs_told (SBIS A b) = told (skipped_word here behind (data_bit_is m A b true)) (skip_room (data_bit_is m A b true)) refl (byte_in m A)
  needs_told (SBIW d K) = told (one_word here) refl refl refl
  needs_told (SBRC r b) = told (skipped_word here behind (beq (bit (reg k r) b) false)) (skip_room (beq (bit (reg k r) b) false)) refl refl
  needs_told (SBRS r b) = told (skipped_word here behind (beq (bit (reg k r) b) true)) (skip_room (beq (bit (reg k r) b) true)) refl refl
  needs_told SLEEP = told (one_word here) refl refl refl
  needs_told (STX r) = told (one_word here) refl refl (at_pointer m (word k 26))
  needs_told (STXdec r) = told (one_word here) refl refl (at_pointer m (down (word k 26) 1))
  needs_told (STXinc r) = told (one_word here) refl refl (at_pointer m (word k 26))
  needs_told (STYdec r) = told (one_word here) refl refl (at_pointer m (down (word k 28) 1))
  needs_told (STYinc r) = told (one_word here) refl refl (at_pointer m (word k 28))
  needs_told (STZdec r) = told (one_word here) refl refl (at_pointer m (down (word k 30) 1))
  needs_told (STZinc r) = told (one_word here) refl refl (at_pointer m (word k 30))
  needs_told (STDY q r) = told (one_word here) refl refl (named_in m (word k 28 + q))
  needs_told (STDZ q r) = told (one_word here) refl refl (named_in m (word k 30 + q))
  needs_told (STS at r) = told (two_words_lem here behind) (second_room low) refl (named_in m at)
  needs_told (SUB d r) = told (one_word here) refl refl refl
  needs_told (SUBI d K) = told (one_word here) refl refl refl
  needs_told (SWAP d) = told (one_word here) refl refl refl
  needs_told WDR = told (one_word here) refl refl refl
  needs_told UNDEF = told (one_word here) refl refl refl
