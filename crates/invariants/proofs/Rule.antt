-- The laws of specs/Rule.antt: every instruction that does not ask for the rule does the same under both, and so does a tick.
-- Assumes nothing.
use mathlib.Core.Path.{◌≡◌, refl, sym, ap, subst}
use mathlib.Core.Bool.{Bool, true, false, beq}
use mathlib.Core.List.{List}
use Prim.Native.Nat.{ℕ, ◌+◌}
use lib.Dec.{eqb, ltb}
use Rattle.basis.specs.Pick.{pick}
use Rattle.basis.specs.Bit.{one, up, down}
use Rattle.alu.specs.Alu.{signed_of}
use Rattle.instruction.specs.Decode.{decode_of}
use Rattle.instruction.specs.declared.Instruction.{Instruction}
use Rattle.instruction.specs.declared.Instruction.TheVariants.{ADC, ADD, ADIW, AND, ANDI, ASR, BCLR, BLD, BRBC, BRBS, BREAK, BSET, BST, CALL, CBI, COM, CP, CPC, CPI, CPSE, DEC, EOR, FMUL, FMULS, FMULSU, ICALL, IJMP, IN, INC, JMP, LDX, LDXinc, LDXdec, LDYinc, LDYdec, LDZinc, LDZdec, LDDY, LDDZ, LDI, LDS, LPM, LPMZ, LPMZinc, LSL, LSR, MOV, MOVW, MUL, MULS, MULSU, NEG, NOP, OR, ORI, OUT, POP, PUSH, RCALL, RET, RETI, RJMP, ROR, SBC, SBCI, SBI, SBIC, SBIS, SBIW, SBRC, SBRS, SLEEP, STX, STXdec, STXinc, STYdec, STYinc, STZdec, STZinc, STDY, STDZ, STS, SUB, SUBI, SWAP, WDR, UNDEF}
use Rattle.cores.specs.declared.Core.{Core}
use Rattle.cores.specs.State.{Out, out, flag, with_reg, with_pc, with_sp, with_busy, with_inhibit, with_service, with_chip}
use Rattle.cores.specs.Flow.{brbx_of, skipped, over_second, op_at}
use Rattle.cores.specs.Transfer.{data_of, set_data_of, word_if}
use Rattle.execute.specs.Needs.{refusal, push_needs, needs, fetched, with_fetch}
use Rattle.execute.specs.Execute.{Executed, ran, ran_out, executed}
use Rattle.tick.specs.Offer.{Offer}
use Rattle.std.specs.Prelude.{Some, None}
use Rattle.tick.proofs.Steps.{onward, every_tick}
use Rattle.tick.specs.Tick.{Tick, due, stepped, enters_or_steps, ticked}
use Rattle.invariants.proofs.Controls.{instructions_keep_the_rule}
use Rattle.invariants.specs.Rule.{TicksKeepTheRule, asks_the_rule, under, RulesDifferWhereAsked}

-- ---- an instruction's outcome, with this rule
abbrev out_under : Bool → Out → Out
out_under on o = out (with_chip o.core on) o.bytes

abbrev done_under : Bool → Executed → Executed
done_under on e = record { done = e.done; core = with_chip e.core on; bytes = e.bytes }

core_pick : (b on : Bool) (j k : Core) → with_chip (pick b j k) on ≡ pick b (with_chip j on) (with_chip k on)
core_pick true on j k = refl
core_pick false on j k = refl

out_pick : (b on : Bool) (x y z : Out) → z ≡ out_under on y → pick b (out_under on x) z ≡ out_under on (pick b x y)
out_pick true on x y z e = refl
out_pick false on x y z e = e

branch_alike : (k : Core) (on : Bool) (s o : ℕ) (set : Bool) → brbx_of (with_chip k on) s o set ≡ with_chip (brbx_of k s o set) on
unfolding brbx_of with_busy with_pc with_chip
branch_alike k on s o set = sym (core_pick (beq (flag k s) set) on (with_busy (with_pc k (up k.pc (signed_of o))) 1) k)

skip_alike : (k : Core) (on taken two : Bool) → skipped (with_chip k on) taken two ≡ with_chip (skipped k taken two) on
unfolding skipped with_busy with_pc with_chip
skip_alike k on taken two = sym (core_pick taken on (with_busy (with_pc k (up k.pc (1 + one two))) (1 + one two)) k)

data_alike : (k : Core) (on : Bool) (at v : ℕ) (m : List ℕ) → set_data_of (with_chip k on) at v m ≡ out_under on (set_data_of k at v m)
unfolding set_data_of with_sp with_chip
data_alike k on at v m = out_pick (eqb at 0x3F) on _ _ _ (out_pick (eqb at 0x3E) on _ _ _ (out_pick (eqb at 0x3D) on _ _ _ refl))

word_alike : (k : Core) (on set : Bool) (pointer to : ℕ) → word_if (with_chip k on) set pointer to ≡ with_chip (word_if k set pointer to) on
unfolding word_if with_reg with_chip
word_alike k on true pointer to = refl
word_alike k on false pointer to = refl

-- ---- every instruction that does not ask for the rule does and needs the same under both
module _ (decode : ℕ → ℕ → Instruction) (k : Core) (on : Bool) (p m : List ℕ) where
  abbrev Alike : Bool → Instruction → Type 0
  Alike true op = Unit {0}
  Alike false op = (executed decode (with_chip k on) op p m ≡ done_under on (executed decode k op p m)) × (needs decode (with_chip k on) op p m ≡ needs decode k op p m)

  -- SEI asks, the others of BSET do not
  bset_alike : (s : ℕ) (sei : Bool) → eqb s 7 ≡ sei → Alike sei (BSET s)
  unfolding with_inhibit with_chip
  bset_alike s true e = tt
  bset_alike s false e = (rw e, refl)

  alike : (op : Instruction) → Alike (asks_the_rule op) op
  unfolding with_reg with_pc with_sp with_busy with_inhibit with_service with_chip data_of word_if
  alike (ADC d r) = (refl, refl)
  alike (ADD d r) = (refl, refl)
  alike (ADIW d K) = tt
  alike (AND d r) = (refl, refl)
  alike (ANDI d K) = (refl, refl)
  alike (ASR d) = (refl, refl)
  alike (BCLR s) = (refl, refl)
  alike (BLD d b) = (refl, refl)
  alike (BRBC s t) = (ap (λ (j : Core). ran j m) (branch_alike k on s t false), refl)
  alike (BRBS s t) = (ap (λ (j : Core). ran j m) (branch_alike k on s t true), refl)
  alike BREAK = (refl, refl)
  alike (BSET s) = bset_alike s (eqb s 7) refl
  alike (BST d b) = (refl, refl)
  alike (CALL t) = (refl, refl)
  alike (CBI A b) = (refl, refl)
  alike (COM d) = (refl, refl)
  alike (CP d r) = (refl, refl)
  alike (CPC d r) = (refl, refl)
  alike (CPI d K) = (refl, refl)
  alike (CPSE d r) = (ap (λ (j : Core). ran j m) (skip_alike k on _ _), refl)
  alike (DEC d) = (refl, refl)
  alike (EOR d r) = (refl, refl)
  alike (FMUL d r) = (refl, refl)
  alike (FMULS d r) = (refl, refl)
  alike (FMULSU d r) = (refl, refl)
  alike ICALL = (refl, refl)
  alike IJMP = (refl, refl)
  alike (IN d A) = (refl, refl)
  alike (INC d) = (refl, refl)
  alike (JMP t) = (refl, refl)
  alike (LDX d) = tt
  alike (LDXinc d) = tt
  alike (LDXdec d) = tt
  alike (LDYinc d) = tt
  alike (LDYdec d) = tt
  alike (LDZinc d) = tt
  alike (LDZdec d) = tt
  alike (LDDY d q) = tt
  alike (LDDZ d q) = tt
  alike (LDI d K) = (refl, refl)
  alike (LDS d at) = (refl, refl)
  alike LPM = (refl, refl)
  alike (LPMZ d) = (refl, refl)
  alike (LPMZinc d) = (refl, refl)
  alike (LSL d) = (refl, refl)
  alike (LSR d) = (refl, refl)
  alike (MOV d r) = (refl, refl)
  alike (MOVW d r) = (refl, refl)
  alike (MUL d r) = (refl, refl)
  alike (MULS d r) = (refl, refl)
  alike (MULSU d r) = (refl, refl)
  alike (NEG d) = (refl, refl)
  alike NOP = (refl, refl)
  alike (OR d r) = (refl, refl)
  alike (ORI d K) = (refl, refl)
  alike (OUT A r) = (ap ran_out (data_alike k on _ _ m), refl)
  alike (POP d) = (refl, refl)
  alike (PUSH d) = (ap (λ (o : Out). ran (with_sp o.core (down o.core.sp 1)) o.bytes) (data_alike k on _ _ m), refl)
  alike (RCALL t) = (refl, refl)
  alike RET = (refl, refl)
  alike RETI = (refl, refl)
  alike (RJMP t) = (refl, refl)
  alike (ROR d) = (refl, refl)
  alike (SBC d r) = (refl, refl)
  alike (SBCI d K) = (refl, refl)
  alike (SBI A b) = (refl, refl)
  alike (SBIC A b) = (ap (λ (j : Core). ran j m) (skip_alike k on _ _), refl)
  alike (SBIS A b) = (ap (λ (j : Core). ran j m) (skip_alike k on _ _), refl)
  alike (SBIW d K) = (refl, refl)
  alike (SBRC r b) = (ap (λ (j : Core). ran j m) (skip_alike k on _ _), refl)
  alike (SBRS r b) = (ap (λ (j : Core). ran j m) (skip_alike k on _ _), refl)
  alike SLEEP = (refl, refl)
  alike (STX r) = tt
  alike (STXdec r) = tt
  alike (STXinc r) = tt
  alike (STYdec r) = tt
  alike (STYinc r) = tt
  alike (STZdec r) = tt
  alike (STZinc r) = tt
  alike (STDY q r) = tt
  alike (STDZ q r) = tt
  alike (STS at r) = (ap (λ (o : Out). ran (over_second o.core) o.bytes) (data_alike (with_busy k 1) on _ _ m), refl)
  alike (SUB d r) = (refl, refl)
  alike (SUBI d K) = (refl, refl)
  alike (SWAP d) = (refl, refl)
  alike WDR = (refl, refl)
  alike UNDEF = (refl, refl)

pub ticks_keep_the_rule : TicksKeepTheRule
unfolding with_pc with_sp with_busy with_inhibit with_service
ticks_keep_the_rule k p m o =
    every_tick decode_of (λ t. t.core.chip ≡ k.chip) k p m o
    (λ n g l. refl)
    (λ g l. refl)
    (λ z v d l. refl)
    (λ z d l. refl)
    λ z d l r. instructions_keep_the_rule decode_of (op_at decode_of p k.pc) (onward k) p m

-- ---- a tick
tick_pick : (b on : Bool) (t u w : Tick) → w ≡ under on u → pick b (under on t) w ≡ under on (pick b t u)
tick_pick true on t u w e = refl
tick_pick false on t u w e = e

module _ (k : Core) (p m : List ℕ) (on : Bool) where
  abbrev j : Core
  j = with_chip k on

  step_alike : asks_the_rule (op_at decode_of p k.pc) ≡ false → stepped decode_of j (with_inhibit j false) p m ≡ under on (stepped decode_of k (with_inhibit k false) p m)
  unfolding stepped with_inhibit with_pc with_chip
  step_alike n =
      let op = op_at decode_of p k.pc in
      let i = onward k in
      let (e, f) = subst (λ asks. Alike decode_of i on p m asks op) n (alike decode_of i on p m op) in
      let needed = with_fetch (fetched p k.pc op) (needs decode_of i op p m) in
      rw (e, f) (tick_pick (eqb (refusal needed) 0) on _ _ _ refl)

  enters_alike : asks_the_rule (op_at decode_of p k.pc) ≡ false → (o : Offer) → enters_or_steps decode_of j p m o ≡ under on (enters_or_steps decode_of k p m o)
  unfolding enters_or_steps with_service with_busy with_pc with_sp with_inhibit with_chip
  enters_alike n (Some v) = tick_pick (eqb (refusal (push_needs k m)) 0) on _ _ _ refl
  enters_alike n None = tick_pick (eqb k.pc 65535) on _ _ _ (step_alike n)

pub rules_differ_where_asked : RulesDifferWhereAsked
unfolding ticked with_busy with_chip
rules_differ_where_asked k p m o on n = tick_pick (ltb 4 k.busy) on _ _ _ (tick_pick (ltb 0 k.busy) on _ _ _ (enters_alike k p m on n (due k o)))
