-- What a scheduled run keeps and gives: a core by its types, data by their bytes and length, a number a record; and the count of one that spent its budget.
-- k is a core, p a program, m the bytes of data, ds are records.
-- Assumes nothing.
use mathlib.Core.Path.{◌≡◌, refl, sym, ap, ◌∙◌}
use mathlib.Core.Bool.{Bool, true, false}
use mathlib.Core.List.{List, [], ◌∷◌}
use Prim.Native.Nat.{ℕ, zero, suc, ◌+◌, ◌*◌, ◌≤◌, ◌<◌}
use native.Mathlib.Omega.{arith}
use lib.Dec.{eqb, leb}
use lib.ListN.{drop, length, length-replicate}
use borrow.Author.Tests.{eqb-false}
use Rattle.basis.specs.Bytes.{Bytes}
use Rattle.basis.proofs.Choice.{clash, either}
use Rattle.cores.specs.declared.Core.{Core}
use Rattle.cores.specs.State.{Sound}
use Rattle.tick.specs.Tick.{Tick, number_of, refuses, stops, tick_of}
use Rattle.std.specs.Prelude.{Some, None}
use Rattle.invariants.specs.Instructions.{InRange}
use Rattle.invariants.specs.Ticks.{Offered}
use Rattle.invariants.proofs.Ticks.{ticks_stay_in_range}
use Rattle.schedule.specs.Schedule.{records_from, offered, Scheduled, scheduled}
use Rattle.schedule.specs.declared.list.Record.{Record}
use Rattle.schedule.proofs.Steps.{by_number, step_by}

-- ---- vectors of 16 bits
abbrev pub Vectors : List Record → Type 0
Vectors [] = Unit {0}
Vectors (d ∷ ds) = (d.vector < 65536) × Vectors ds

others : (ds : List Record) → Vectors ds → Vectors (drop 1 ds)
others [] v = tt
others (d ∷ ds) v = v.1

offers : (tick : ℕ) (ds : List Record) → Vectors ds → Offered (offered tick ds)
offers tick [] v = tt
offers tick (d ∷ ds) v = either Offered (leb d.tick tick) (Some d.vector) (offered tick ds) v.0 (offers tick ds v.1)

pub vectors_in : (l : List ℕ) → Bytes l → (i many : ℕ) → Vectors (records_from l i many)
vectors_in l b i zero = tt
vectors_in l b i (suc many) = (omega (arith, b.byte_lt (5 * i + 3), b.byte_lt (5 * i + 4)), vectors_in l b (suc i) many)

-- ---- core and data
longer : {k : Core} {m n o : List ℕ} → length n ≡ length o → InRange k m n → InRange k m o
longer e h = record { core = h.core; bytes = h.bytes; same_length = h.same_length ∙ e }

kept_by : (r s e : Bool) (j : ℕ) (t : Tick) (m : List ℕ) (ds : List Record) (x y : Scheduled) → InRange t.core t.bytes m → InRange x.run.core x.run.bytes t.bytes
    → InRange y.run.core y.run.bytes t.bytes → InRange (step_by r s e j t ds x y).run.core (step_by r s e j t ds x y).run.bytes m
kept_by true s e j t m ds x y h f g = h
kept_by false true e j t m ds x y h f g = h
kept_by false false true j t m ds x y h f g = longer h.same_length f
kept_by false false false j t m ds x y h f g = longer h.same_length g

pub kept : (left j : ℕ) (k : Core) (p m : List ℕ) (ds : List Record) → Sound k → Bytes p → Bytes m → Vectors ds
    → let r = (scheduled left j k p m ds).run in InRange r.core r.bytes m
unfolding scheduled
kept zero j k p m ds h bp bm v = record { core = h; bytes = bm; same_length = refl }
kept (suc left) j k p m ds h bp bm v =
    let t = tick_of k p m (offered (suc j) ds) in
    let next = ticks_stay_in_range k p m (offered (suc j) ds) h bp bm (offers (suc j) ds v) in
    let rest : List Record → Scheduled = scheduled left (suc j) t.core p t.bytes in
    kept_by (refuses t.answer) (stops t.answer) (eqb (number_of t.answer) 17) j t m ds (rest (drop 1 ds)) (rest ds) next
    (kept left (suc j) t.core p t.bytes (drop 1 ds) next.core bp next.bytes (others ds v)) (kept left (suc j) t.core p t.bytes ds next.core bp next.bytes v)

-- ---- the count
count_by : (r s e : Bool) (j many : ℕ) (t : Tick) (ds : List Record) (x y : Scheduled) → (number_of t.answer ≡ 24 → ⊥) → (x.run.answer ≡ 24 → x.run.count ≡ many)
    → (y.run.answer ≡ 24 → y.run.count ≡ many) → (step_by r s e j t ds x y).run.answer ≡ 24 → (step_by r s e j t ds x y).run.count ≡ many
count_by true s e j many t ds x y n f g h = absurd (n h)
count_by false true e j many t ds x y n f g h = absurd (n h)
count_by false false true j many t ds x y n f g h = f h
count_by false false false j many t ds x y n f g h = g h

counted : (left j many : ℕ) → j + left ≡ many → (k : Core) (p m : List ℕ) (ds : List Record) → (scheduled left j k p m ds).run.answer ≡ 24 → (scheduled left j k p m ds).run.count ≡ many
unfolding scheduled
counted zero j many is k p m ds h = omega (arith, is)
counted (suc left) j many is k p m ds h =
    let t = tick_of k p m (offered (suc j) ds) in
    let rest : List Record → Scheduled = scheduled left (suc j) t.core p t.bytes in
    let n = eqb-false (number_of t.answer) 24 (by_number k p m (offered (suc j) ds)).unspent in
    let more : suc j + left ≡ many = omega (arith, is) in
    count_by (refuses t.answer) (stops t.answer) (eqb (number_of t.answer) 17) j many t ds (rest (drop 1 ds)) (rest ds) n
    (counted left (suc j) many more t.core p t.bytes (drop 1 ds)) (counted left (suc j) many more t.core p t.bytes ds) h

pub spent_count : (left j : ℕ) (k : Core) (p m : List ℕ) (ds : List Record) → (scheduled left j k p m ds).run.answer ≡ 24 → (scheduled left j k p m ds).run.count ≡ j + left
spent_count left j k p m ds h = counted left j (j + left) refl k p m ds h

-- and of any
most_by : (r s e : Bool) (j left : ℕ) (t : Tick) (ds : List Record) (x y : Scheduled) → x.run.count ≤ suc j + left → y.run.count ≤ suc j + left → (step_by r s e j t ds x y).run.count ≤ j + suc left
most_by true s e j left t ds x y f g = omega arith
most_by false true e j left t ds x y f g = omega arith
most_by false false true j left t ds x y f g = omega (arith, f)
most_by false false false j left t ds x y f g = omega (arith, g)

pub most_count : (left j : ℕ) (k : Core) (p m : List ℕ) (ds : List Record) → (scheduled left j k p m ds).run.count ≤ j + left
unfolding scheduled
most_count zero j k p m ds = omega arith
most_count (suc left) j k p m ds =
    let t = tick_of k p m (offered (suc j) ds) in
    most_by (refuses t.answer) (stops t.answer) (eqb (number_of t.answer) 17) j left t ds (scheduled left (suc j) t.core p t.bytes (drop 1 ds)) (scheduled left (suc j) t.core p t.bytes ds)
    (most_count left (suc j) t.core p t.bytes (drop 1 ds)) (most_count left (suc j) t.core p t.bytes ds)

-- ---- the numbers
entries_by : (r s e : Bool) (j : ℕ) (t : Tick) (ds : List Record) (x y : Scheduled) → (e ≡ true → suc (length x.entries) ≡ length ds)
    → length y.entries ≡ length ds → length (step_by r s e j t ds x y).entries ≡ length ds
entries_by true s e j t ds x y f g = length-replicate (length ds) 0
entries_by false true e j t ds x y f g = length-replicate (length ds) 0
entries_by false false true j t ds x y f g = f refl
entries_by false false false j t ds x y f g = g

-- with no record nothing is offered, and nothing entered
one_less : (ds : List Record) (k : Core) (p m : List ℕ) (j n : ℕ) → n ≡ length (drop 1 ds) → eqb (number_of (tick_of k p m (offered (suc j) ds)).answer) 17 ≡ true → suc n ≡ length ds
one_less [] k p m j n h e = clash (sym e ∙ (by_number k p m None).unoffered refl)
one_less (d ∷ ds) k p m j n h e = ap suc h

pub many_entries : (left j : ℕ) (k : Core) (p m : List ℕ) (ds : List Record) → length (scheduled left j k p m ds).entries ≡ length ds
unfolding scheduled
many_entries zero j k p m ds = length-replicate (length ds) 0
many_entries (suc left) j k p m ds =
    let t = tick_of k p m (offered (suc j) ds) in
    let rest : List Record → Scheduled = scheduled left (suc j) t.core p t.bytes in
    entries_by (refuses t.answer) (stops t.answer) (eqb (number_of t.answer) 17) j t ds (rest (drop 1 ds)) (rest ds)
    (one_less ds k p m j (length (rest (drop 1 ds)).entries) (many_entries left (suc j) t.core p t.bytes (drop 1 ds))) (many_entries left (suc j) t.core p t.bytes ds)
