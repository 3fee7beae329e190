-- Demand 3, of 01's tick: the proof for any machine, at the laws of `tick_of`.
-- Assumes nothing.
use mathlib.Core.Path.{◌≡◌, refl, ◌∙◌}
use mathlib.Core.List.{List}
use Prim.Native.Nat.{ℕ, zero, suc, ◌+◌, ◌<◌}
use native.Mathlib.Omega.{arith}
use Rattle.cores.specs.State.{with_busy}
use Rattle.invariants.proofs.Rule.{ticks_keep_the_rule}
use Rattle.tick.proofs.Steps.{busy_tick}
use Rattle.interrupts.specs.Handlers.{iterated, First}
use Rattle.interrupts.specs.Interrupts.{State, Offers, no_offers, AtEnd, pc, after, number_at, Ended, Restored, Handled, NoTrace, InterruptsLeaveNoTrace, NoTraceAtTheEnd, RunsKeepTheRule, ThreeWaitsAfterReti}
use Rattle.interrupts.specs.Machine as any
use Rattle.interrupts.proofs.Arrival.{transparent, transparent_at}
use Rattle.interrupts.proofs.TickLaws.{avr, reti_law, tick_laws}

-- ---- the statement's words and the machine's are the same
module _ (p : List ℕ) where
  from_end : {e : ℕ} {s : State} → AtEnd e s → any.AtEnd (avr p) e s
  from_end a = record { there = a.there; ready = a.ready; free = a.free }

  to_end : {e : ℕ} {s : State} → any.AtEnd (avr p) e s → AtEnd e s
  to_end a = record { there = a.there; ready = a.ready; free = a.free }

  module _ (s : State) (n : ℕ) (v : Offers) where
    from_first : {j : ℕ} → First (Ended p s n v) j → First (any.Ended (avr p) v s n) j
    from_first f = record { reached = from_end f.reached; not_before = λ u h a. f.not_before u h (to_end a) }

    to_first : {j : ℕ} → First (any.Ended (avr p) v s n) j → First (Ended p s n v) j
    to_first f = record { reached = to_end f.reached; not_before = λ u h a. f.not_before u h (from_end a) }

    from_restored : {t r : ℕ} → Restored p s v t r → any.Restored (avr p) v s t r
    from_restored x = record { same = x.same; lower = x.lower; low = x.low; high = x.high }

    from_handled : {t : ℕ} → Handled p s v t → any.Handled (avr p) v s t
    from_handled x = record { at = x.at; reti = x.reti; restored = from_restored x.restored }

  to_no_trace : (s : State) (n : ℕ) (v : Offers) {J I : ℕ} → any.Transparent (avr p) v s n J I → NoTrace p s n v J I
  to_no_trace s n v x =
      record {
        first = to_first s n v x.first;
        plain_first = to_first s n no_offers x.plain_first;
        same_kept = x.same_kept;
        same_sp = x.same_sp;
        same_pc = x.same_pc;
        ticks = x.ticks;
        counts = x.counts;
        wrote = x.wrote;
        plain_wrote = x.plain_wrote;
        plain_goes = x.plain_goes;
        plain_bound = x.plain_bound;
      }

-- ---- the two forms
pub interrupts_leave_no_trace : InterruptsLeaveNoTrace
interrupts_leave_no_trace p s n v a =
    let given : any.Given (avr p) = record {
      v = v;
      s = s;
      n = n;
      laws = tick_laws p (pc s) (pc s + n) a.begins.stretch;
      allowed = λ t y. a.allowed t (λ u h e. y u h (from_end p e));
      handled = λ t y e. from_handled p s n v (a.handled t (λ u h e. y u h (from_end p e)) e);
    } in
    let (J, I, x) = transparent given a.begins.ready a.begins.free in
    (J, I, to_no_trace p s n v x)

pub no_trace_at_the_end : NoTraceAtTheEnd
no_trace_at_the_end p s n v J a =
    let laws = tick_laws p (pc s) (pc s + n) a.begins.stretch in
    let (I, x) = transparent_at (avr p) v s n J laws (from_first p s n v a.first) a.allowed
    (λ t r h e f. from_restored p s n v (a.restored t r h e f)) a.begins.ready a.begins.free in
    (I, to_no_trace p s n v x)

-- ---- the rule
pub runs_keep_the_rule : RunsKeepTheRule
unfolding iterated
runs_keep_the_rule p s v zero = refl
runs_keep_the_rule p s v (suc j) =
    let x = after p s v j in
    ticks_keep_the_rule x.core p x.bytes (v j) ∙ runs_keep_the_rule p s v j

-- ---- the third wait
waited : (p : List ℕ) (s : State) (v : Offers) (t b : ℕ) → (after p s v t).core.busy ≡ suc b → b < 4
    → (number_at p s v t ≡ 16) × ((after p s v (suc t)).core.busy ≡ b)
unfolding iterated with_busy
waited p s v t b h small = let e = busy_tick (after p s v t).core p (after p s v t).bytes (v t) b h small in (rw e, rw e)

pub three_waits_after_reti : ThreeWaitsAfterReti
unfolding iterated
three_waits_after_reti p s v t h =
    let three : (after p s v (suc t)).core.busy ≡ 3 = (reti_law p (v t) (after p s v t) h).busy' in
    let (first, two) = waited p s v (suc t) 2 three (omega arith) in
    let (second, one) = waited p s v (suc (suc t)) 1 two (omega arith) in
    let (third, none) = waited p s v (suc (suc (suc t))) 0 one (omega arith) in
    let at_1 : t + 1 ≡ suc t = omega arith in
    let at_2 : t + 2 ≡ suc (suc t) = omega arith in
    let at_3 : t + 3 ≡ suc (suc (suc t)) = omega arith in
    (rw at_1 first, rw at_2 second, rw at_3 third)
