-- What an instruction takes, by the table; and that a tick which executes it and as many waits are these ticks.
-- Assumes nothing.
use mathlib.Core.Path.{◌≡◌, refl, sym, ap, ◌∙◌}
use mathlib.Core.Bool.{Bool, true, false, beq}
use mathlib.Core.List.{List}
use Prim.Native.Nat.{ℕ, zero, suc, ◌+◌, ◌-◌, ◌≤◌, ◌<◌}
use native.Mathlib.Nat.{not-suc-le-zero}
use native.Mathlib.Omega.{arith}
use borrow.Author.Tests.{ne_eqb}
use Rattle.basis.specs.Pick.{pick}
use Rattle.basis.specs.Bit.{one, up}
use Rattle.basis.proofs.Bits.{one_le}
use Rattle.basis.proofs.Choice.{clash}
use Rattle.alu.specs.Alu.{signed_of}
use Rattle.instruction.specs.Decode.{decode_of}
use Rattle.instruction.specs.declared.Instruction.TheVariants.{ADC, ADD, ADIW, AND, ANDI, ASR, BCLR, BLD, BRBC, BRBS, BREAK, BSET, BST, CALL, CBI, COM, CP, CPC, CPI, CPSE, DEC, EOR, FMUL, FMULS, FMULSU, ICALL, IJMP, IN, INC, JMP, LDX, LDXinc, LDXdec, LDYinc, LDYdec, LDZinc, LDZdec, LDDY, LDDZ, LDI, LDS, LPM, LPMZ, LPMZinc, LSL, LSR, MOV, MOVW, MUL, MULS, MULSU, NEG, NOP, OR, ORI, OUT, POP, PUSH, RCALL, RET, RETI, RJMP, ROR, SBC, SBCI, SBI, SBIC, SBIS, SBIW, SBRC, SBRS, SLEEP, STX, STXdec, STXinc, STYdec, STYinc, STZdec, STZinc, STDY, STDZ, STS, SUB, SUBI, SWAP, WDR, UNDEF}
use Rattle.rule.specs.Rule.{load_waits, store_waits}
use Rattle.cores.specs.declared.Core.{Core}
use Rattle.cores.specs.State.{flag, with_reg, with_pc, with_sp, with_busy, with_inhibit, with_service}
use Rattle.cores.specs.Flow.{op_at, brbx_of, skipped}
use Rattle.cores.specs.Transfer.{set_data_of, word_if}
use Rattle.cores.proofs.Space.{store_keeps}
use Rattle.execute.specs.Execute.{behind}
use Rattle.tick.specs.Tick.{Tick, number_of, gives, tick_of}
use Rattle.tick.specs.Offer.{Offer}
use Rattle.tick.specs.declared.Answer.TheVariants.{Waited}
use Rattle.tick.proofs.Steps.{every_tick, busy_tick, onward, performed}
use Rattle.schedule.specs.Laws.{after_by, tick_by}
use Rattle.latency.specs.Cycles.{Lasts, TicksByTheTable, takes, InstructionsRunForTheirTicks}

-- ---- rows: one tick; two; more, of those that are not register-only
row_is : (chip : Bool) (busy n : ℕ) (only : Bool) → 1 + busy ≡ n → n ≤ 4 → (only ≡ true → n ≤ 2) → Lasts busy (pick chip n n + 0) only
row_is true busy n only e l two = record { exactly = omega (arith, e); four = omega (arith, l); two = λ is. omega (arith, two is) }
row_is false busy n only e l two = record { exactly = omega (arith, e); four = omega (arith, l); two = λ is. omega (arith, two is) }

one_tick : (chip : Bool) (busy : ℕ) (only : Bool) → busy ≡ 0 → Lasts busy (pick chip 1 1 + 0) only
one_tick chip busy only h = row_is chip busy 1 only (omega (arith, h)) (omega arith) (λ _. omega arith)

two_ticks : (chip : Bool) (busy : ℕ) (only : Bool) → busy ≡ 1 → Lasts busy (pick chip 2 2 + 0) only
two_ticks chip busy only h = row_is chip busy 2 only (omega (arith, h)) (omega arith) (λ _. omega arith)

other : (busy n : ℕ) → 1 + busy ≡ n → n ≤ 4 → Lasts busy n false
other busy n e l = record { exactly = e; four = l; two = λ is. clash (sym is) }

more : (chip : Bool) (busy n : ℕ) → 1 + busy ≡ n → n ≤ 4 → Lasts busy (pick chip n n + 0) false
more chip busy n e l = row_is chip busy n false e l (λ is. clash (sym is))

-- ---- a branch, a skip, pointer access
branch : (k : Core) (s o : ℕ) (on : Bool) → k.busy ≡ 0 → Lasts (brbx_of k s o on).busy (pick k.chip 1 1 + one (beq (flag k s) on)) false
unfolding brbx_of with_busy
branch k s o on h = by k.chip (beq (flag k s) on)
  where
    by : (chip taken : Bool) → Lasts (pick taken (with_busy (with_pc k (up k.pc (signed_of o))) 1) k).busy (pick chip 1 1 + one taken) false
    by true true = other 1 2 refl (omega arith)
    by false true = other 1 2 refl (omega arith)
    by true false = other k.busy 1 (omega (arith, h)) (omega arith)
    by false false = other k.busy 1 (omega (arith, h)) (omega arith)

skip : (k : Core) (taken two : Bool) → k.busy ≡ 0 → Lasts (skipped k taken two).busy (pick k.chip 1 1 + pick taken (1 + one two) 0) false
unfolding skipped with_busy
skip k taken two h = by k.chip taken
  where
    by : (chip taken : Bool) → Lasts (pick taken (with_busy (with_pc k (up k.pc (1 + one two))) (1 + one two)) k).busy (pick chip 1 1 + pick taken (1 + one two) 0) false
    by true true = other (1 + one two) (1 + (1 + one two)) refl (omega (arith, one_le two))
    by false true = other (1 + one two) (1 + (1 + one two)) refl (omega (arith, one_le two))
    by true false = other k.busy 1 (omega (arith, h)) (omega arith)
    by false false = other k.busy 1 (omega (arith, h)) (omega arith)

load : (chip : Bool) → Lasts (load_waits chip) (pick chip 2 3 + 0) false
unfolding load_waits
load true = other 1 2 refl (omega arith)
load false = other 2 3 refl (omega arith)

store : (chip : Bool) (busy : ℕ) → busy ≡ store_waits chip → Lasts busy (pick chip 1 2 + 0) false
unfolding store_waits
store true busy e = other busy 1 (omega (arith, e)) (omega arith)
store false busy e = other busy 2 (omega (arith, e)) (omega arith)

store_busy : (k : Core) (at v : ℕ) (m : List ℕ) → (set_data_of k at v m).core.busy ≡ k.busy
unfolding with_sp
store_busy k at v m = store_keeps (λ j. j.busy) (λ j w. refl) (λ j w. refl) k at v m

-- ---- the table
pub ticks_by_the_table : TicksByTheTable
unfolding with_reg with_pc with_sp with_busy with_inhibit with_service word_if
ticks_by_the_table decode (ADC d r) k p m h = one_tick k.chip k.busy true h
ticks_by_the_table decode (ADD d r) k p m h = one_tick k.chip k.busy true h
ticks_by_the_table decode (ADIW d K) k p m h = two_ticks k.chip 1 true refl
ticks_by_the_table decode (AND d r) k p m h = one_tick k.chip k.busy true h
ticks_by_the_table decode (ANDI d K) k p m h = one_tick k.chip k.busy true h
ticks_by_the_table decode (ASR d) k p m h = one_tick k.chip k.busy true h
ticks_by_the_table decode (BCLR s) k p m h = one_tick k.chip k.busy true h
ticks_by_the_table decode (BLD d b) k p m h = one_tick k.chip k.busy true h
ticks_by_the_table decode (BRBC s t) k p m h = branch k s t false h
ticks_by_the_table decode (BRBS s t) k p m h = branch k s t true h
ticks_by_the_table decode BREAK k p m h = one_tick k.chip k.busy false h
ticks_by_the_table decode (BSET s) k p m h = one_tick k.chip k.busy true h
ticks_by_the_table decode (BST d b) k p m h = one_tick k.chip k.busy true h
ticks_by_the_table decode (CALL t) k p m h = more k.chip 2 3 refl (omega arith)
ticks_by_the_table decode (CBI A b) k p m h = one_tick k.chip k.busy false h
ticks_by_the_table decode (COM d) k p m h = one_tick k.chip k.busy true h
ticks_by_the_table decode (CP d r) k p m h = one_tick k.chip k.busy true h
ticks_by_the_table decode (CPC d r) k p m h = one_tick k.chip k.busy true h
ticks_by_the_table decode (CPI d K) k p m h = one_tick k.chip k.busy true h
ticks_by_the_table decode (CPSE d r) k p m h = skip k _ _ h
ticks_by_the_table decode (DEC d) k p m h = one_tick k.chip k.busy true h
ticks_by_the_table decode (EOR d r) k p m h = one_tick k.chip k.busy true h
ticks_by_the_table decode (FMUL d r) k p m h = two_ticks k.chip 1 true refl
ticks_by_the_table decode (FMULS d r) k p m h = two_ticks k.chip 1 true refl
ticks_by_the_table decode (FMULSU d r) k p m h = two_ticks k.chip 1 true refl
ticks_by_the_table decode ICALL k p m h = two_ticks k.chip 1 false refl
ticks_by_the_table decode IJMP k p m h = two_ticks k.chip 1 false refl
ticks_by_the_table decode (IN d A) k p m h = one_tick k.chip k.busy false h
ticks_by_the_table decode (INC d) k p m h = one_tick k.chip k.busy true h
ticks_by_the_table decode (JMP t) k p m h = more k.chip 2 3 refl (omega arith)
ticks_by_the_table decode (LDX d) k p m h = load k.chip
ticks_by_the_table decode (LDXinc d) k p m h = load k.chip
ticks_by_the_table decode (LDXdec d) k p m h = load k.chip
ticks_by_the_table decode (LDYinc d) k p m h = load k.chip
ticks_by_the_table decode (LDYdec d) k p m h = load k.chip
ticks_by_the_table decode (LDZinc d) k p m h = load k.chip
ticks_by_the_table decode (LDZdec d) k p m h = load k.chip
ticks_by_the_table decode (LDDY d q) k p m h = load k.chip
ticks_by_the_table decode (LDDZ d q) k p m h = load k.chip
ticks_by_the_table decode (LDI d K) k p m h = one_tick k.chip k.busy true h
ticks_by_the_table decode (LDS d at) k p m h = more k.chip 2 3 refl (omega arith)
ticks_by_the_table decode LPM k p m h = more k.chip 2 3 refl (omega arith)
ticks_by_the_table decode (LPMZ d) k p m h = more k.chip 2 3 refl (omega arith)
ticks_by_the_table decode (LPMZinc d) k p m h = more k.chip 2 3 refl (omega arith)
ticks_by_the_table decode (LSL d) k p m h = one_tick k.chip k.busy false h
ticks_by_the_table decode (LSR d) k p m h = one_tick k.chip k.busy true h
ticks_by_the_table decode (MOV d r) k p m h = one_tick k.chip k.busy true h
ticks_by_the_table decode (MOVW d r) k p m h = one_tick k.chip k.busy true h
ticks_by_the_table decode (MUL d r) k p m h = two_ticks k.chip 1 true refl
ticks_by_the_table decode (MULS d r) k p m h = two_ticks k.chip 1 true refl
ticks_by_the_table decode (MULSU d r) k p m h = two_ticks k.chip 1 true refl
ticks_by_the_table decode (NEG d) k p m h = one_tick k.chip k.busy true h
ticks_by_the_table decode NOP k p m h = one_tick k.chip k.busy true h
ticks_by_the_table decode (OR d r) k p m h = one_tick k.chip k.busy true h
ticks_by_the_table decode (ORI d K) k p m h = one_tick k.chip k.busy true h
ticks_by_the_table decode (OUT A r) k p m h = one_tick k.chip _ false (store_busy _ _ _ m ∙ h)
ticks_by_the_table decode (POP d) k p m h = two_ticks k.chip 1 false refl
ticks_by_the_table decode (PUSH d) k p m h = one_tick k.chip _ false (store_busy _ _ _ m ∙ h)
ticks_by_the_table decode (RCALL t) k p m h = two_ticks k.chip 1 false refl
ticks_by_the_table decode RET k p m h = more k.chip 3 4 refl (omega arith)
ticks_by_the_table decode RETI k p m h = more k.chip 3 4 refl (omega arith)
ticks_by_the_table decode (RJMP t) k p m h = two_ticks k.chip 1 false refl
ticks_by_the_table decode (ROR d) k p m h = one_tick k.chip k.busy true h
ticks_by_the_table decode (SBC d r) k p m h = one_tick k.chip k.busy true h
ticks_by_the_table decode (SBCI d K) k p m h = one_tick k.chip k.busy true h
ticks_by_the_table decode (SBI A b) k p m h = one_tick k.chip k.busy false h
ticks_by_the_table decode (SBIC A b) k p m h = skip k _ _ h
ticks_by_the_table decode (SBIS A b) k p m h = skip k _ _ h
ticks_by_the_table decode (SBIW d K) k p m h = two_ticks k.chip 1 true refl
ticks_by_the_table decode (SBRC r b) k p m h = skip k _ _ h
ticks_by_the_table decode (SBRS r b) k p m h = skip k _ _ h
ticks_by_the_table decode SLEEP k p m h = one_tick k.chip k.busy false h
ticks_by_the_table decode (STX r) k p m h = store k.chip _ (store_busy _ _ _ m)
ticks_by_the_table decode (STXdec r) k p m h = store k.chip _ (store_busy _ _ _ m)
ticks_by_the_table decode (STXinc r) k p m h = store k.chip _ (store_busy _ _ _ m)
ticks_by_the_table decode (STYdec r) k p m h = store k.chip _ (store_busy _ _ _ m)
ticks_by_the_table decode (STYinc r) k p m h = store k.chip _ (store_busy _ _ _ m)
ticks_by_the_table decode (STZdec r) k p m h = store k.chip _ (store_busy _ _ _ m)
ticks_by_the_table decode (STZinc r) k p m h = store k.chip _ (store_busy _ _ _ m)
ticks_by_the_table decode (STDY q r) k p m h = store k.chip _ (store_busy _ _ _ m)
ticks_by_the_table decode (STDZ q r) k p m h = store k.chip _ (store_busy _ _ _ m)
ticks_by_the_table decode (STS at r) k p m h = two_ticks k.chip _ false (store_busy _ _ _ m)
ticks_by_the_table decode (SUB d r) k p m h = one_tick k.chip k.busy true h
ticks_by_the_table decode (SUBI d K) k p m h = one_tick k.chip k.busy true h
ticks_by_the_table decode (SWAP d) k p m h = one_tick k.chip k.busy true h
ticks_by_the_table decode WDR k p m h = one_tick k.chip k.busy false h
ticks_by_the_table decode UNDEF k p m h = one_tick k.chip k.busy false h

-- ---- the ticks: one that executes, and its waits
module _ (v : ℕ → Offer) (k : Core) (p m : List ℕ) where
  -- a tick that executes, from a core that does not wait
  pub record Executed (t : Tick) : Type 0 where
    pub free : k.busy ≡ 0
    pub below : k.pc ≡ 65535 → ⊥
    pub core : t.core ≡ (performed decode_of k p m).core

  executes : (o : Offer) → 18 ≤ number_of (tick_of k p m o).answer → number_of (tick_of k p m o).answer ≤ 22 → Executed (tick_of k p m o)
  executes o =
      every_tick decode_of (λ t. 18 ≤ number_of t.answer → number_of t.answer ≤ 22 → Executed t) k p m o
      (λ n g l a b. absurd (omega (arith, a)))
      (λ g l a b. absurd (omega (arith, a)))
      (λ z w d l a b. absurd (omega (arith, a)))
      (λ z d l a b. absurd (omega (arith, b)))
      λ z d l r a b. record { free = z; below = l; core = refl }

  -- b waits behind it
  module _ (b : ℕ) (first : (after_by v k p m 1).0.busy ≡ b) (low : b ≤ 3) where
    one_wait : (j : ℕ) → j < b → (after_by v k p m (suc j)).0.busy ≡ b - j → tick_by v k p m (suc j) ≡ gives Waited (with_busy (after_by v k p m (suc j)).0 (b - suc j)) (after_by v k p m (suc j)).1
    one_wait j l e = let s = after_by v k p m (suc j) in busy_tick s.0 p s.1 (v (suc (suc j))) (b - suc j) (omega (arith, e, l)) (omega (arith, low))

    falls : (j : ℕ) → j ≤ b → (after_by v k p m (suc j)).0.busy ≡ b - j
    unfolding after_by with_busy
    falls zero l = omega (arith, first)
    falls (suc j) l = ap (λ (t : Tick). t.core.busy) (one_wait j l (falls j (omega (arith, l))))

    waits : (j : ℕ) → 0 < j → j < suc b → (tick_by v k p m j).answer ≡ Waited
    waits zero g l = absurd (not-suc-le-zero g)
    waits (suc j) g l = ap (λ (t : Tick). t.answer) (one_wait j (omega (arith, l)) (falls j (omega (arith, l))))

  onward_is : (k.pc ≡ 65535 → ⊥) → behind k ≡ onward k
  unfolding behind
  onward_is below = rw (ne_eqb k.pc 65535 below)

pub instructions_run_for_their_ticks : InstructionsRunForTheirTicks
unfolding after_by with_pc with_inhibit
instructions_run_for_their_ticks v k p m x =
    let does = executes v k p m (v 1) x.least x.most in
    let op = op_at decode_of p k.pc in
    let b = (performed decode_of k p m).core.busy in
    let lasts = ticks_by_the_table decode_of op (onward k) p m does.free in
    let first : (after_by v k p m 1).0.busy ≡ b = ap (λ (j : Core). j.busy) does.core in
    let low : b ≤ 3 = omega (arith, lasts.exactly, lasts.four) in (
      suc b,
      record {
        by_the_table = omega (arith, lasts.exactly) ∙ ap (λ (j : Core). takes decode_of j op p m) (sym (onward_is v k p m does.below));
        takes_them = record { waits = waits v k p m b first low; over = omega (arith, falls v k p m b first low b (omega arith)) };
        four = omega (arith, low);
        two = λ is. omega (arith, lasts.exactly, lasts.two is);
      },
    )
