-- The laws of specs/Ticks.antt, each by the branches of a tick.
-- Assumes nothing.
use mathlib.Core.Path.{◌≡◌, refl, ap, subst}
use mathlib.Core.Logic.{inl, inr}
use mathlib.Core.Bool.{true, false}
use mathlib.Core.List.{List}
use Prim.Native.Nat.{ℕ, ◌+◌, ◌-◌, ◌≤◌, ◌<◌}
use native.Mathlib.Omega.{arith}
use lib.Dec.{eqb}
use borrow.Author.Tests.{ne_eqb}
use Rattle.basis.specs.Bytes.{Bytes}
use Rattle.instruction.specs.Decode.{decode_of}
use Rattle.instruction.specs.Fields.{InFields}
use Rattle.instruction.specs.declared.Instruction.{Instruction}
use Rattle.instruction.proofs.Laws.{fields_in_range}
use Rattle.memory.specs.Memory.{program_word_of}
use Rattle.cores.specs.declared.Core.{Core}
use Rattle.cores.specs.State.{with_pc, with_busy, with_inhibit, with_service, Sound}
use Rattle.cores.specs.Flow.{word_pushed, op_at}
use Rattle.cores.proofs.Bounds.{program_word_lt}
use Rattle.execute.specs.declared.Done.{Done}
use Rattle.execute.specs.declared.Done.TheVariants as done
use Rattle.tick.specs.Tick.{number_of, refuses, answer_of, due, entry}
use Rattle.tick.specs.Offer.{Offer}
use Rattle.tick.proofs.Steps.{every_due, onward, performed, every_tick, refused_keeps}
use Rattle.invariants.specs.Instructions.{ByteOperand, InRange}
use Rattle.invariants.specs.Ticks.{Offered, TickNumber, TicksStayInRange, RefusedTicksChangeNothing, TicksAnswerTickNumbers, Brief, TicksLeaveBusyAtMost4}
use Rattle.invariants.proofs.Fits.{fits_of, sound_of, fits_pc, fits_busy, fits_inhibit, fits_service}
use Rattle.invariants.proofs.Handlers.{word_pushed_leaves}
use Rattle.invariants.proofs.Waits.{instructions_wait_at_most_3}
use Rattle.invariants.proofs.Ranges.{instructions_stay_in_range}

-- ---- ranges
-- what is due was offered
due_offered : (k : Core) (o : Offer) → Offered o → Offered (due k o)
due_offered k o h = every_due Offered k o tt (λ i s. h)

-- decoded operands are in their fields, so the byte of LDI and of ORI is one
byte_operand : (op : Instruction) → InFields op → ByteOperand op
byte_operand op h = record { ldi_lt = λ d K e. omega (arith, subst InFields e h); ori_lt = λ d K e. omega (arith, subst InFields e h) }

module _ (k : Core) (s : Sound k) where
  waits_in_range : (n : ℕ) → n ≤ 4 → Sound (with_busy k n)
  unfolding with_busy
  waits_in_range n h = sound_of (with_busy k n) (fits_busy k (fits_of k s) n) h

  ends_in_range : Sound (with_inhibit k false)
  unfolding with_inhibit
  ends_in_range = sound_of (with_inhibit k false) (fits_inhibit k (fits_of k s) false) s.busy_le

  onward_in_range : (k.pc ≡ 65535 → ⊥) → Sound (onward k)
  unfolding with_inhibit with_pc
  onward_in_range z =
      let h = s.pc_lt in
      sound_of (onward k) (fits_pc (with_inhibit k false) (fits_inhibit k (fits_of k s) false) (k.pc + 1) (omega arith)) s.busy_le

  enters_in_range : (m : List ℕ) → Bytes m → (v : ℕ) → v < 65536 → InRange (entry k v m).core (entry k v m).bytes m
  unfolding with_service with_busy
  enters_in_range m b v h =
      let o = word_pushed k k.pc m in
      let l = word_pushed_leaves k (fits_of k s) m b k.pc s.pc_lt in
      let j = with_pc o.core v in
      let f = fits_busy j (fits_pc o.core l.core v h) 4 in
      record {
        core = sound_of (entry k v m).core (fits_service (with_busy j 4) f true) (omega arith);
        bytes = l.bytes;
        same_length = l.same_length;
      }

-- no byte stored
untouched : {k : Core} {m : List ℕ} → Bytes m → Sound k → InRange k m m
untouched b s = record { core = s; bytes = b; same_length = refl }

pub ticks_stay_in_range : TicksStayInRange
ticks_stay_in_range k p m o s bp bm h =
    let pc = k.pc in
    let op = op_at decode_of p pc in
    let fields = fields_in_range (program_word_of p pc) (program_word_of p (pc + 1)) (program_word_lt p (pc + 1) bp) in
    every_tick decode_of (λ t. InRange t.core t.bytes m) k p m o
    (λ n g l. untouched bm s)
    (λ g l. untouched bm (waits_in_range k s (k.busy - 1) (omega arith)))
    (λ z v e n. enters_in_range k s m bm v (omega (arith, subst Offered e (due_offered k o h))))
    (λ z e l. untouched bm (ends_in_range k s))
    λ z e l n. instructions_stay_in_range decode_of op (onward k) p m (byte_operand op fields) (onward_in_range k s l) bp bm

-- ---- refusals
pub refused_ticks_change_nothing : RefusedTicksChangeNothing
refused_ticks_change_nothing k p m o n e = refused_keeps k p m o (ap refuses e)

-- ---- numbers
pub done_number : (d : Done) → (18 ≤ number_of (answer_of d)) × (number_of (answer_of d) ≤ 22)
done_number done.Ran = omega arith
done_number done.Sleep = omega arith
done_number done.Watchdog = omega arith
done_number done.Undefined = omega arith
done_number done.Break = omega arith

-- an executed instruction does not answer entered
pub done_enters_not : (d : Done) → eqb (number_of (answer_of d)) 17 ≡ false
done_enters_not d = ne_eqb (number_of (answer_of d)) 17 (omega (arith, done_number d))

pub ticks_answer_tick_numbers : TicksAnswerTickNumbers
ticks_answer_tick_numbers k p m o =
    every_tick decode_of (λ t. TickNumber (number_of t.answer)) k p m o
    (λ n g l. inl (omega arith))
    (λ g l. inr (omega arith))
    (λ z v d l. inr (omega arith))
    (λ z d l. inr (omega arith))
    λ z d l r. inr (omega (arith, done_number (performed decode_of k p m).done))

-- ---- busy
pub ticks_leave_busy_at_most_4 : TicksLeaveBusyAtMost4
unfolding with_pc with_busy with_inhibit with_service
ticks_leave_busy_at_most_4 k p m o =
    every_tick decode_of (Brief k) k p m o
    (λ n g l x. elim x [ inl h ↦ absurd (omega arith) | inr h ↦ omega arith ])
    (λ g l x. omega arith)
    (λ z v d l x. omega arith)
    (λ z d l x. omega arith)
    λ z d l r x. instructions_wait_at_most_3 decode_of (op_at decode_of p k.pc) (onward k) p m 4 (omega arith) (omega arith)
