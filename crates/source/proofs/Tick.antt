-- The Rust's tick is 01's, as one equation: what the Rust would show of 01's tick, a refusal being its panic.
-- Assumes nothing.
use mathlib.Core.Path.{◌≡◌, refl, sym}
use mathlib.Core.Bool.{Bool, true, false, not, ◌&&◌, ◌||◌, and-true, and_assoc}
use mathlib.Core.List.{List}
use Prim.Native.Nat.{ℕ, ◌+◌, ◌/◌, ◌%◌}
use native.Mathlib.Omega.{arith}
use lib.Dec.{eqb, ltb}
use lib.ListN.{set, length, length-set}
use borrow.Author.Tests.{lt-ltb, le-ltb, eqb-true, eqb-false}
use Rattle.basis.specs.Pick.{pick}
use Rattle.basis.specs.Bytes.{Bytes}
use Rattle.instruction.specs.Decode.{decode_of}
use Rattle.instruction.specs.Code.{two_words}
use Rattle.memory.specs.Memory.{has_word_of}
use Rattle.cores.specs.Flow.{op_at}
use Rattle.cores.specs.declared.Core.{Core}
use Rattle.cores.specs.State.{Sound, out, with_pc, with_sp, with_busy, with_inhibit, with_service, flag}
use Rattle.tick.specs.Offer.{Offer}
use Rattle.std.specs.Prelude.{Some, None}
use Rattle.tick.specs.declared.Answer.TheVariants.{Entered, End}
use Rattle.execute.specs.Needs.{Needs, refusal, push_needs, needs, fetched, with_fetch}
use Rattle.execute.specs.Execute.{executed}
use Rattle.tick.specs.Tick.{Tick, refuses, stops, gives, decided, due, entry, executed_tick, stepped, enters_or_steps, ticked, tick_of}
use Rattle.tick.proofs.Steps.{done_refuses_not}
use Rattle.source.specs.Monad.{Self, Outcome, ok, panic, after, with_core, return}
use Rattle.source.specs.Registers.{ds_write}
use Rattle.source.specs.Tick.{service_pending, entered_by, handle_interrupts, fetch, execute, tick}
use Rattle.source.proofs.Steps.{with_out, after_pick, and_pick}
use Rattle.source.proofs.Registers.{flag_ok}
use Rattle.source.proofs.Stack.{push_tests, less_two, high_byte}
use Rattle.source.proofs.Needs.{met, met_is}
use Rattle.source.proofs.Program.{word_ok, unused_word_ok, op_same, op_in, pattern_is}
use Rattle.source.proofs.Dispatch.{dispatch_is}

-- what the Rust shows of a tick that is not refused, and of any
abbrev pub shown : Self → Tick → Outcome Bool
shown s t = ok (not (stops t.answer)) (with_out s (out t.core t.bytes))

abbrev pub seen : Self → Tick → Outcome Bool
seen s t = pick (refuses t.answer) panic (shown s t)

-- decided first and then done, or done until it panics: the same
decided_by : (s : Self) (n : Needs) (t : Tick) (b : Bool) → eqb (refusal n) 0 ≡ b → refuses t.answer ≡ false → seen s (decided n s.core s.ds t) ≡ pick b (shown s t) panic
decided_by s n t true e c = rw (e, c)
decided_by s n t false e c = rw e

seen_decided : (s : Self) (n : Needs) (t : Tick) → refuses t.answer ≡ false → seen s (decided n s.core s.ds t) ≡ pick (met n) (shown s t) panic
seen_decided s n t c = decided_by s n t (met n) (met_is n) c

-- ---- interrupts
abbrev entered_tick : Core → ℕ → List ℕ → Tick
entered_tick k v m = let o = entry k v m in gives Entered o.core o.bytes

abbrev after_due : Self → Offer → Outcome Bool
after_due s (Some v) = pick (met (push_needs s.core s.ds)) (shown s (entered_tick s.core v s.ds)) panic
after_due s None = ok false (with_core s (with_inhibit s.core false))

-- the two flags and the offer as variables, so that a clause can match on them
abbrev self_with : Self → Bool → Bool → Offer → Self
self_with s a c o = record { core = with_service (with_inhibit s.core a) c; ds = s.ds; progmem = s.progmem; pending = o }

interrupts_by : (s : Self) (a b c : Bool) (o : Offer) → flag s.core 7 ≡ b → Sound s.core
    → handle_interrupts (self_with s a c o) ≡ after_due (self_with s a c o) (due (self_with s a c o).core o)
unfolding handle_interrupts service_pending entered_by ds_write with_inhibit with_service with_busy with_pc with_sp
interrupts_by s true b c o y w = refl
interrupts_by s false false c o y w = rw (flag_ok (self_with s false c o) 7 w.sreg_lt (omega arith), y)
interrupts_by s false true true o y w = rw (flag_ok (self_with s false true o) 7 w.sreg_lt (omega arith), y)
interrupts_by s false true false None y w = rw (flag_ok (self_with s false false None) 7 w.sreg_lt (omega arith), y)
interrupts_by s false true false (Some v) y w =
    let u = self_with s false false (Some v) in
    let pc = s.core.pc in
    rw (flag_ok u 7 w.sreg_lt (omega arith), y)
    (simp (after_pick, length-set, less_two, high_byte pc w.pc_lt)
    (push_tests s.core.sp (length s.ds) w.sp_lt
    (λ at sp. ok true (with_out u (out (with_service (with_busy (with_pc (with_sp u.core sp) v) 4) true) (set (set s.ds s.core.sp (pc % 256)) at (pc / 256)))))))

interrupts_is : (s : Self) → Sound s.core → handle_interrupts s ≡ after_due s (due s.core s.pending)
unfolding with_inhibit with_service
interrupts_is s w = interrupts_by s s.core.inhibit (flag s.core 7) s.core.in_service s.pending refl w

-- ---- the fetch
module _ (s : Self) (q : Bytes s.progmem) where
  -- by whether the instruction has two words, and by whether PC is 65,535
  fetch_by : (two end : Bool) → two_words (op_at decode_of s.progmem s.core.pc) ≡ two → eqb s.core.pc 65535 ≡ end
      → fetch s ≡ pick (end || has_word_of s.progmem s.core.pc && pick two (has_word_of s.progmem (s.core.pc + 1)) true) (ok (op_at decode_of s.progmem s.core.pc) s) panic
  unfolding fetch
  fetch_by true true e f = simp (word_ok s q, f, unused_word_ok s q, op_same s.progmem s.core.pc q, pattern_is, e)
  fetch_by false true e f = simp (word_ok s q, f, unused_word_ok s q, op_same s.progmem s.core.pc q, pattern_is, e)
  fetch_by true false e f = simp (word_ok s q, f, unused_word_ok s q, after_pick, op_same s.progmem s.core.pc q, pattern_is, e, and_pick)
  fetch_by false false e f = simp (word_ok s q, f, unused_word_ok s q, after_pick, op_same s.progmem s.core.pc q, pattern_is, e, and-true)

  fetch_is : (end : Bool) → eqb s.core.pc 65535 ≡ end
      → fetch s ≡ pick (end || fetched s.progmem s.core.pc (op_at decode_of s.progmem s.core.pc)) (ok (op_at decode_of s.progmem s.core.pc) s) panic
  fetch_is end f = fetch_by (two_words (op_at decode_of s.progmem s.core.pc)) end refl f

-- the core whose PC is behind the opcode
abbrev behind : Self → Self
behind s = with_core s (with_pc (with_inhibit s.core false) (s.core.pc + 1))

behind_sound : (k : Core) → Sound k → (k.pc ≡ 65535 → ⊥) → Sound (with_pc (with_inhibit k false) (k.pc + 1))
unfolding with_pc with_inhibit
behind_sound k w h =
    let l = w.pc_lt in
    record { count = w.count; reg_lt = w.reg_lt; sreg_lt = w.sreg_lt; pc_lt = omega arith; sp_lt = w.sp_lt; busy_le = w.busy_le }

module _ (s : Self) (c : s.core.chip ≡ false) (w : Sound s.core) (m : Bytes s.ds) (q : Bytes s.progmem) where
  execute_step : eqb s.core.pc 65535 ≡ false
      → execute (with_core s (with_inhibit s.core false)) ≡ seen s (stepped decode_of s.core (with_inhibit s.core false) s.progmem s.ds)
  unfolding execute stepped with_inhibit with_pc
  execute_step e =
      let pc = s.core.pc in
      let op = op_at decode_of s.progmem pc in
      let l = w.pc_lt in
      let g = eqb-false pc 65535 e in
      let n = needs decode_of (behind s).core op s.progmem s.ds in
      let f = fetched s.progmem pc op in
      let x = executed decode_of (behind s).core op s.progmem s.ds in
      rw (
        fetch_is (with_core s (with_inhibit s.core false)) q false e,
        after_pick,
        lt-ltb (pc + 1) 65536 (omega arith),
        dispatch_is (behind s) c (behind_sound s.core w g) m q op (op_in s.progmem pc q),
        and_pick f (met n),
        ← and_assoc f n.program,
      )
      (sym (seen_decided s (with_fetch f n) (executed_tick x) (done_refuses_not x.done)))

  execute_is : (end : Bool) → eqb s.core.pc 65535 ≡ end
      → execute (with_core s (with_inhibit s.core false))
      ≡ seen s (pick end (gives End (with_inhibit s.core false) s.ds) (stepped decode_of s.core (with_inhibit s.core false) s.progmem s.ds))
  unfolding execute with_inhibit
  execute_is true e =
      let h = eqb-true s.core.pc 65535 e in
      rw (fetch_is (with_core s (with_inhibit s.core false)) q true e, le-ltb (s.core.pc + 1) 65536 (omega arith))
  execute_is false e = execute_step e

  enters_or_steps_lem : (o : Offer) → after (after_due s o) (λ returned. pick returned (return true) execute) ≡ seen s (enters_or_steps decode_of s.core s.progmem s.ds o)
  unfolding enters_or_steps
  enters_or_steps_lem (Some v) = rw after_pick (sym (seen_decided s (push_needs s.core s.ds) (entered_tick s.core v s.ds) refl))
  enters_or_steps_lem None = execute_is (eqb s.core.pc 65535) refl

  tick_by : (b : Bool) → ltb 0 s.core.busy ≡ b → tick s ≡ seen s (tick_of s.core s.progmem s.ds s.pending)
  unfolding tick ticked
  tick_by true e =
      let h = w.busy_le in
      rw (le-ltb 4 s.core.busy h, e)
  tick_by false e = let h = w.busy_le in rw (le-ltb 4 s.core.busy h, e, interrupts_is s w) (enters_or_steps_lem (due s.core s.pending))

  pub tick_is : tick s ≡ seen s (tick_of s.core s.progmem s.ds s.pending)
  tick_is = tick_by (ltb 0 s.core.busy) refl
