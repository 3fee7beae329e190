-- 01's table at the functions around the tick: 6 of a register, 5 and 7 to 9 of a snapshot, 10 of the C interface, 24 of a run. 0 is no refusal.
-- k is a core, r a register number, v a value, s a snapshot or a buffer for one, p a program, m the bytes of data, o an offer; offer, budget and ticks are the numbers that a call takes.
use Rattle.std.specs.Prelude.{◌≡◌, ◌↔◌, Bool, true, false, not, ◌&&◌, List, [], ◌∷◌, ◌++◌, ℕ, ◌/◌, ◌%◌, ◌≤◌, ◌<◌, eqb, ltb, get_or, length}
use Rattle.basis.specs.Bytes.{Bytes}
use Rattle.cores.specs.declared.Core.{Core}
use Rattle.cores.specs.State.{read_register_of, set_register_of}
use Rattle.tick.specs.Offer.{Offer}
use Rattle.tick.specs.Tick.{number_of, tick_of}
use Rattle.run.specs.Run.{run_of, goes_on}
use Rattle.snapshot.specs.Snapshot.{bytes_of, core_of, write_of, read_of}
use Rattle.host.specs.Host.{told, told_ticks, offer_of, avr_tick_of, avr_run_of}
use Rattle.table.specs.Table.{rows, ExactlyWhen, Given}

-- ---- "6 refused: register number above 31 in read or set"; "a refused register read returns 0 with its number"
abbrev pub register_rows : ℕ → List (ℕ × Bool)
register_rows r = (0, ltb r 32) ∷ (6, not (ltb r 32)) ∷ []

abbrev pub RegistersByTheTable : Type 0
RegistersByTheTable =
    (k : Core) (r v : ℕ)
    → Given (read_register_of k r).refusal (register_rows r) × ((read_register_of k r).refusal ≡ 6 → (read_register_of k r).value ≡ 0)
    × Given (set_register_of k r v).refusal (register_rows r) × ((set_register_of k r v).refusal ≡ 6 → (set_register_of k r v).core ≡ k)

-- ---- "Writing checks the output's length (7), then busy above 4 (5)."
-- of 38 bytes
abbrev pub of38 : List ℕ → Bool
of38 s = eqb (length s) 38

abbrev pub write_rows : Core → List ℕ → List (ℕ × Bool)
write_rows k s = (7, not (of38 s)) ∷ (5, of38 s && ltb 4 k.busy) ∷ (0, of38 s && not (ltb 4 k.busy)) ∷ []

abbrev pub WritesByTheTable : Type 0
WritesByTheTable = (k : Core) (s : List ℕ) → Given (write_of k s).refusal (write_rows k s) × (((write_of k s).refusal ≡ 0 → ⊥) → (write_of k s).bytes ≡ s)

-- ---- "7, 8, 9 refused: snapshot not 38 bytes; busy field above 4; spare bits not zero", in that order; 02, W2: "9 now covers the two remaining spare bits"
abbrev pub low_busy : List ℕ → Bool
low_busy s = of38 s && not (ltb 4 (get_or s 37 0 / 32))

abbrev pub readable : List ℕ → Bool
readable s = low_busy s && eqb (get_or s 37 0 % 4) 0

abbrev pub snapshot_rows : List ℕ → List (ℕ × Bool)
snapshot_rows s = (7, not (of38 s)) ∷ (8, of38 s && ltb 4 (get_or s 37 0 / 32)) ∷ (9, low_busy s && not (eqb (get_or s 37 0 % 4) 0)) ∷ []

abbrev pub read_rows : List ℕ → List (ℕ × Bool)
read_rows s = (0, readable s) ∷ snapshot_rows s

abbrev pub ReadsByTheTable : Type 0
ReadsByTheTable = (s : List ℕ) → Given (read_of s).refusal (read_rows s)

-- ---- "24 budget: a run did all its ticks, none of them break, end or refused"
abbrev pub RunsByTheTable : Type 0
RunsByTheTable =
    (budget : ℕ) (k : Core) (p m : List ℕ) (o : Offer)
    → ((run_of budget k p m o).answer ≡ 24 ↔ goes_on budget k p m o ≡ true) × ((run_of budget k p m o).answer ≡ 24 → (run_of budget k p m o).count ≡ budget)

-- ---- "10 refused: C interface: offer above 65,536"; "checks in the order 10, 7, 8, 9, then the tick"
-- rows that count only where g holds
abbrev pub only_if : Bool → List (ℕ × Bool) → List (ℕ × Bool)
only_if g [] = []
only_if g ((n, c) ∷ l) = (n, g && c) ∷ only_if g l

abbrev pub check_rows : List ℕ → ℕ → List (ℕ × Bool) → List (ℕ × Bool)
check_rows s offer l = let low = not (ltb 65536 offer) in (10, ltb 65536 offer) ∷ (only_if low (snapshot_rows s) ++ only_if (low && readable s) l)

abbrev pub TickCallsByTheTable : Type 0
TickCallsByTheTable =
    (s p m : List ℕ) (offer : ℕ) → Bytes s → Given (avr_tick_of s p m offer).number (check_rows s offer (rows (core_of s) p m (offer_of offer)))

-- "A refused call changes no core, no byte of data or output": 1 to 5 by the tick too
abbrev pub RefusedTickCallsChangeNothing : Type 0
RefusedTickCallsChangeNothing =
    (s p m : List ℕ) (offer : ℕ) → Bytes s → (avr_tick_of s p m offer).number < 16 → avr_tick_of s p m offer ≡ told (avr_tick_of s p m offer).number s m

-- the run's call: the same checks, and 24 as a run gives it; refused by a check it changes nothing, `ticks` included
abbrev pub RunCallsByTheTable : Type 0
RunCallsByTheTable =
    (s p m : List ℕ) (offer budget ticks : ℕ)
    → ExactlyWhen (avr_run_of s p m offer budget ticks).number (check_rows s offer ((24, goes_on budget (core_of s) p m (offer_of offer)) ∷ []))
    × ((not (ltb 65536 offer) && readable s) ≡ false → avr_run_of s p m offer budget ticks ≡ told_ticks (avr_run_of s p m offer budget ticks).number s m ticks)

-- ---- "The next core is written into the same snapshot": where the call is not refused, the snapshot afterwards is the next core's 38 bytes
abbrev pub TickCallsWriteTheNextCore : Type 0
TickCallsWriteTheNextCore =
    (s p m : List ℕ) (offer : ℕ) → 16 ≤ (avr_tick_of s p m offer).number
    → let t = tick_of (core_of s) p m (offer_of offer) in avr_tick_of s p m offer ≡ told (number_of t.answer) (bytes_of t.core) t.bytes

-- of the run: where every check passes, whatever the run answers
abbrev pub RunCallsWriteTheLastCore : Type 0
RunCallsWriteTheLastCore =
    (s p m : List ℕ) (offer budget ticks : ℕ) → (not (ltb 65536 offer) && readable s) ≡ true
    → let ran = run_of budget (core_of s) p m (offer_of offer) in
    avr_run_of s p m offer budget ticks ≡ told_ticks ran.answer (bytes_of ran.core) ran.bytes ran.count
