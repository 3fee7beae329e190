-- The theorem of specs/Statement.antt: both directions from the one equation of Tick.antt, and the numbers of the refusals.
-- Assumes nothing.
use mathlib.Core.Path.{◌≡◌, refl, sym, ◌∙◌}
use mathlib.Core.Bool.{Bool, true, false}
use mathlib.Core.List.{List}
use Prim.Native.Nat.{ℕ, ◌+◌, ◌-◌, ◌≤◌}
use native.Mathlib.Omega.{arith}
use lib.Dec.{eqb, ltb}
use borrow.Author.Tests.{eqb-false, le-ltb}
use Rattle.basis.specs.Pick.{pick}
use Rattle.instruction.specs.Decode.{decode_of}
use Rattle.cores.specs.Flow.{op_at}
use Rattle.cores.specs.declared.Core.{Core}
use Rattle.cores.specs.State.{with_pc, with_busy, with_inhibit}
use Rattle.tick.specs.Offer.{Offer}
use Rattle.std.specs.Prelude.{Some, None}
use Rattle.tick.specs.declared.Answer.TheVariants.{Waited, Entered, End}
use Rattle.execute.specs.Needs.{Needs, refusal, push_needs, needs, fetched, with_fetch}
use Rattle.execute.specs.Execute.{executed}
use Rattle.tick.specs.Tick.{Tick, number_of, refuses, gives, decided, due, entry, executed_tick, stepped, enters_or_steps, ticked, tick_of, in_place}
use Rattle.tick.proofs.Steps.{refusal_le, done_refuses_not}
use Rattle.source.specs.Monad.{Self, panic}
use Rattle.source.specs.Statement.{Matches, panics, self_of, EqualsTheRust, RefusedExactlyWhereItPanics, CodeEqualsTheRust, InPlaceEqualsTheRust}
use Rattle.source.proofs.Tick.{shown, tick_is}

-- ---- a refusal of a tick is one of 1 to 4, from a core that is not too busy
abbrev Low : Tick → Type 0
Low t = refuses t.answer ≡ true → (1 ≤ number_of t.answer) × (number_of t.answer ≤ 4)

never : (t : Tick) → refuses t.answer ≡ false → Low t
never t c e = let z : ◌≡◌ {A = Bool} false true = sym c ∙ e in let n : ◌≡◌ {A = ℕ} 0 1 = cc in absurd (omega arith)

decided_by : (n : Needs) (k : Core) (m : List ℕ) (t : Tick) (b : Bool) → eqb (refusal n) 0 ≡ b → refuses t.answer ≡ false → Low (decided n k m t)
decided_by n k m t true e c = rw e (never t c)
decided_by n k m t false e c = rw e λ r. let g = eqb-false (refusal n) 0 e in (omega arith, refusal_le n)

decided_low : (n : Needs) (k : Core) (m : List ℕ) (t : Tick) → refuses t.answer ≡ false → Low (decided n k m t)
decided_low n k m t c = decided_by n k m t (eqb (refusal n) 0) refl c

stepped_low : (k j : Core) (p m : List ℕ) → Low (stepped decode_of k j p m)
unfolding stepped
stepped_low k j p m =
    let op = op_at decode_of p j.pc in
    let i = with_pc j (j.pc + 1) in
    let x = executed decode_of i op p m in
    decided_low (with_fetch (fetched p j.pc op) (needs decode_of i op p m)) k m (executed_tick x) (done_refuses_not x.done)

enters_low : (k : Core) (p m : List ℕ) (o : Offer) (end : Bool) → eqb k.pc 65535 ≡ end → Low (enters_or_steps decode_of k p m o)
unfolding enters_or_steps
enters_low k p m (Some v) end e = let o = entry k v m in decided_low (push_needs k m) k m (gives Entered o.core o.bytes) refl
enters_low k p m None true e = rw e (never (gives End (with_inhibit k false) m) refl)
enters_low k p m None false e = rw e (stepped_low k (with_inhibit k false) p m)

ticked_low : (k : Core) (p m : List ℕ) (o : Offer) (b : Bool) → ltb 0 k.busy ≡ b → k.busy ≤ 4 → Low (tick_of k p m o)
unfolding ticked
ticked_low k p m o true e h = rw (le-ltb 4 k.busy h, e) (never (gives Waited (with_busy k (k.busy - 1)) m) refl)
ticked_low k p m o false e h = rw (le-ltb 4 k.busy h, e) (enters_low k p m (due k o) (eqb k.pc 65535) refl)

-- ---- from what the Rust shows of a tick to the two directions
matches_by : (s : Self) (t : Tick) (r : Bool) → refuses t.answer ≡ r → Low t → Matches t (pick r panic (shown s t))
matches_by s t true e low = record { refused = e; from_1 = (low e).0; to_4 = (low e).1 }
matches_by s t false e low = record { not_refused = e; bool = refl; core = refl; bytes = refl }

pub equals_the_rust : EqualsTheRust
equals_the_rust k p m o c w bp bm =
    let s = self_of k p m o in
    let t = tick_of k p m o in
    rw (tick_is s c w bm bp) (matches_by s t (refuses t.answer) refl (ticked_low k p m o (ltb 0 k.busy) refl w.busy_le))

panics_by : (s : Self) (t : Tick) (r : Bool) → r ≡ panics (pick r panic (shown s t))
panics_by s t true = refl
panics_by s t false = refl

pub refused_exactly_where_it_panics : RefusedExactlyWhereItPanics
refused_exactly_where_it_panics k p m o c w bp bm =
    let s = self_of k p m o in
    let t = tick_of k p m o in
    rw (tick_is s c w bm bp) (panics_by s t (refuses t.answer))

-- ---- of the code: what meets the contract is that tick
pub code_equals_the_rust : CodeEqualsTheRust
code_equals_the_rust k p m o r n c w bp bm met = rw (met.answer, met.core, met.bytes) (equals_the_rust k p m o c w bp bm)

pub in_place_equals_the_rust : InPlaceEqualsTheRust
in_place_equals_the_rust k p m o a j n c w bp bm met = code_equals_the_rust k p m o (in_place a j) n c w bp bm met
