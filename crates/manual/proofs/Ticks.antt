-- The manual's tick with the end on is 01's, changed where an instruction was executed: the steps of a tick, one by one.
-- Assumes nothing.
use mathlib.Core.Path.{◌≡◌, refl, sym, ap, ◌∙◌}
use mathlib.Core.Bool.{Bool, true, false, ◌&&◌}
use mathlib.Core.List.{List}
use Prim.Native.Nat.{ℕ, ◌+◌, ◌<◌}
use native.Mathlib.Omega.{arith}
use lib.Dec.{eqb, ltb}
use borrow.Author.Tests.{eqb-true, eqb-false, ltb-false, le-ltb}
use Rattle.basis.specs.Pick.{pick}
use Rattle.basis.proofs.Choice.{clash, either}
use Rattle.basis.specs.Bytes.{Bytes}
use Rattle.instruction.specs.Decode.{decode_of}
use Rattle.instruction.proofs.Laws.{fields_in_range}
use Rattle.instruction.specs.Code.{two_words}
use Rattle.instruction.specs.declared.Instruction.{Instruction}
use Rattle.memory.specs.Memory.{program_word_of}
use Rattle.cores.specs.declared.Core.{Core}
use Rattle.cores.specs.State.{Sound, with_pc, with_inhibit}
use Rattle.cores.specs.Flow.{two_at, op_at}
use Rattle.cores.proofs.Bounds.{program_word_lt}
use Rattle.execute.specs.Needs.{Needs, refusal, needs, fetched, with_fetch, push_needs}
use Rattle.execute.specs.Execute.{executed}
use Rattle.execute.specs.declared.Done.{Done}
use Rattle.execute.specs.declared.Done.TheVariants as done
use Rattle.tick.specs.Offer.{Offer}
use Rattle.std.specs.Prelude.{Some, None}
use Rattle.tick.specs.declared.Answer.TheVariants.{Refused, End}
use Rattle.tick.specs.Tick as paper
use Rattle.tick.specs.Tick.{Tick, gives, answer_of, due, executed_tick, stepped, ticked, tick_of}
use Rattle.manual_opcodes.proofs.Decodes.{decodes_as_the_manual}
use Rattle.manual.specs.Switches.{end, Switches, Says, says}
use Rattle.manual.specs.Tick.{told, unless, opcode_at, step, enters_or_steps, tick_by}
use Rattle.manual.specs.Instructions.{instruction}
use Rattle.manual.specs.Differences.{changed}
use Rattle.manual.specs.Statement.{executes}
use Rattle.manual.proofs.Ready.{Ready, on}
use Rattle.manual.proofs.Executes.{granted, instruction_with}
use Rattle.manual.proofs.Changes.{instruction_changed}

-- what s makes of 01's tick t, where i is the instruction and j the core that it is executed from
abbrev pub after : Switches → Core → List ℕ → Tick → Says
after s j p t = pick (executes t) (changed j.chip s j (opcode_at p j.pc) (told t)) (told t)

-- ---- which ticks execute
executed_answers : (d : Done) (k : Core) (m : List ℕ) → executes (gives (answer_of d) k m) ≡ true
executed_answers done.Ran k m = refl
executed_answers done.Sleep k m = refl
executed_answers done.Watchdog k m = refl
executed_answers done.Undefined k m = refl
executed_answers done.Break k m = refl

-- what holds of 0 to 4 holds of every refusal of a step
pub of_refusals : (P : ℕ → Type 0) → P 0 → P 1 → P 2 → P 3 → P 4 → (n : Needs) → P (refusal n)
of_refusals P p0 p1 p2 p3 p4 n =
    either P n.program _ 1 (either P n.room _ 2 (either P n.stack _ 3 (either P n.bytes 0 4 p0 p4) p3) p2) p1

refused_executes_nothing : (n : Needs) (k : Core) (m : List ℕ) → executes (gives (Refused (refusal n)) k m) ≡ false
refused_executes_nothing n k m = of_refusals (λ r. executes (gives (Refused r) k m) ≡ false) refl refl refl refl refl n

pub opcode_is : (p : List ℕ) (i : ℕ) → Bytes p → opcode_at p i ≡ op_at decode_of p i
opcode_is p i h = decodes_as_the_manual (program_word_of p i) (program_word_of p (i + 1)) (program_word_lt p i h) (program_word_lt p (i + 1) h)

module _ (s : Switches) (p m : List ℕ) (pp : Bytes p) (mm : Bytes m) where
  -- ---- an instruction
  abbrev step_needs : Core → Instruction → Needs
  step_needs j i = with_fetch (fetched p j.pc i) (needs decode_of (on j) i p m)

  -- the step, and what s makes of 01's tick, by the instruction and by what is skipped
  abbrev step_with : Core → Core → Instruction → Instruction → Says
  step_with k j i next = unless (step_needs j i) k m (instruction s (two_words next) j i p m)

  abbrev after_with : Core → Tick → Instruction → Says
  after_with j t i = pick (executes t) (changed j.chip s j i (told t)) (told t)

  said : (j : Core) → Ready j → refusal (step_needs j (op_at decode_of p j.pc)) ≡ 0
      → instruction s (two_at decode_of (on j) p) j (op_at decode_of p j.pc) p m ≡ changed j.chip s j (op_at decode_of p j.pc) (told (executed_tick (executed decode_of (on j) (op_at decode_of p j.pc) p m)))
  said j w e =
      let i = op_at decode_of p j.pc in
      let g = granted (step_needs j i) e in
      let f = fields_in_range (program_word_of p j.pc) (program_word_of p (j.pc + 1)) (program_word_lt p (j.pc + 1) pp) in
      instruction_changed j.chip s (two_at decode_of (on j) p) j p m w.sound.sreg_lt w.uninhibited i
      ∙ ap (λ (y : Says). changed j.chip s j i y) (instruction_with j w p m mm i f (record { bytes_there = g.bytes_there }))

  -- refused by 01, or as said
  unless_by : (k j : Core) (i : Instruction) (n : Needs) (x : Says) (t : Tick) (g : Bool) → eqb (refusal n) 0 ≡ g → executes t ≡ true → (refusal n ≡ 0 → x ≡ changed j.chip s j i (told t))
      → pick g x (says (Refused (refusal n)) k m) ≡ after_with j (pick g t (gives (Refused (refusal n)) k m)) i
  unless_by k j i n x t true e f h = rw f (h (eqb-true (refusal n) 0 e))
  unless_by k j i n x t false e f h = rw (refused_executes_nothing n k m)

  step_is : (k j : Core) → Ready j → step s k j p m ≡ after s j p (stepped decode_of k j p m)
  unfolding step stepped with_pc
  step_is k j w =
      let i = op_at decode_of p j.pc in
      let x = executed decode_of (on j) i p m in
      let n = step_needs j i in
      ap (λ (i : Instruction). step_with k j i (opcode_at p (j.pc + 1))) (opcode_is p j.pc pp)
      ∙ ap (λ (n : Instruction). step_with k j i n) (opcode_is p (j.pc + 1) pp)
      ∙ unless_by k j i n (instruction s (two_at decode_of (on j) p) j i p m) (executed_tick x) (eqb (refusal n) 0) refl (executed_answers x.done x.core x.bytes) (said j w)
      ∙ ap (λ (i : Instruction). after_with j (stepped decode_of k j p m) i) (sym (opcode_is p j.pc pp))

  -- ---- entry, the end, or an instruction
  calm : (k : Core) → Sound k → k.busy ≡ 0 → k.pc < 65535 → Ready (with_inhibit k false)
  unfolding with_inhibit
  calm k w b h = record {
    sound = record { count = w.count; reg_lt = w.reg_lt; sreg_lt = w.sreg_lt; pc_lt = w.pc_lt; sp_lt = w.sp_lt; busy_le = w.busy_le };
    idle = b;
    room = h;
    uninhibited = refl;
  }

  not_at_end : (k : Core) → Sound k → k.busy ≡ 0 → eqb k.pc 65535 ≡ false → step s k (with_inhibit k false) p m ≡ after s (with_inhibit k false) p (stepped decode_of k (with_inhibit k false) p m)
  not_at_end k w b e =
      let l = w.pc_lt in
      let g = eqb-false k.pc 65535 e in
      step_is k (with_inhibit k false) (calm k w b (omega arith))

  -- at the end, or not
  end_by : (j : Core) (n a : Bool) (x : Says) (t : Tick) → n ≡ true → (a ≡ false → x ≡ after s j p t) → pick (n && a) (says End j m) x ≡ after s j p (pick a (gives End j m) t)
  end_by j true true x t e h = refl
  end_by j true false x t e h = h refl
  end_by j false a x t e h = clash (sym e)

  entered_by : (k : Core) (v : ℕ) (g : Bool) → eqb (refusal (push_needs k m)) 0 ≡ g → told (paper.entered k v m) ≡ after s (with_inhibit k false) p (paper.entered k v m)
  entered_by k v true e = rw e
  entered_by k v false e = rw (e, refused_executes_nothing (push_needs k m) k m)

  enters_is : (k : Core) (o : Offer) → s end ≡ true → Sound k → k.busy ≡ 0 → enters_or_steps s k p m o ≡ after s (with_inhibit k false) p (paper.enters_or_steps decode_of k p m o)
  unfolding enters_or_steps paper.enters_or_steps
  enters_is k (Some v) n w b = entered_by k v (eqb (refusal (push_needs k m)) 0) refl
  enters_is k None n w b =
      let j = with_inhibit k false in
      end_by j (s end) (eqb k.pc 65535) (step s k j p m) (stepped decode_of k j p m) n (λ e. not_at_end k w b e)

  tick_by_lem : (k : Core) (o : Offer) (u : Bool) → ltb 0 k.busy ≡ u → s end ≡ true → Sound k → tick_by s k p m o ≡ after s (with_inhibit k false) p (tick_of k p m o)
  unfolding tick_by ticked
  tick_by_lem k o true f n w = let l = w.busy_le in rw (le-ltb 4 k.busy l, f)
  tick_by_lem k o false f n w =
      let l = w.busy_le in
      let g = ltb-false 0 k.busy f in
      rw (le-ltb 4 k.busy l, f) (enters_is k (due k o) n w (omega arith))

  pub tick_is : (k : Core) (o : Offer) → s end ≡ true → Sound k → tick_by s k p m o ≡ after s (with_inhibit k false) p (tick_of k p m o)
  tick_is k o n w = tick_by_lem k o (ltb 0 k.busy) refl n w
