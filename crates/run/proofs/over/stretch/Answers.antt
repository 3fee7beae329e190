-- The core of the snapshot's bytes to `go`, and what it left into them.
use Rattle.std.proofs.Common.{◌≡◌, ℕ, ◌/◌, ◌%◌, ◌≤◌, eqb, List, length, get_or, take, drop, sym, ◌∙◌, ◌++◌, Fits, w8, arith, length-take-le, rules}
use Rattle.basis.specs.Bytes.{Bytes}
use Rattle.basis.proofs.Bits.{one_le}
use Rattle.run.proofs.Stretched.{long, brief, long_kept, went_in, sp_kept, front_bytes, stretched}
use Rattle.run.proofs.over.stretch.Goals as goal

taken : (s : List ℕ) → length s ≡ 38 → length (take 32 s) ≡ 32
taken s e = length-take-le 32 s (omega arith)

-- as many registers came back
came : (rs s : List ℕ) → length s ≡ 38 → length rs ≡ length (take 32 s) → length rs ≡ 32
came rs s e h = h ∙ taken s e

pub slice_bounds-go-end-2 : goal.slice_bounds-go-end-2
slice_bounds-go-end-2 c = sym (taken c.args.snapshot.now (long c.args.snapshot.now c.requires.0))

pub leave-requires : goal.leave-requires
leave-requires c =
    let s = c.args.snapshot.now in
    let e = long s c.requires.0 in
    let g = c.go-gone.result in
    let rs = c.go-gone.new.regs in
    let n = came rs s e c.go-gone.auto.regs in
    let small : c.flags-rest.result ≤ 28 = omega (arith, c.flags-rest.ensures, one_le g.inhibit, one_le g.in_service, one_le (eqb (get_or s 37 0 / 4 % 2) 1)) in
    let near = c.go-gone.ensures.bounded (omega (arith, brief s c.requires.0, c.requires.1)) in
    record { snapshot_len = (long_kept rs s n e, c.word_at-sp.ensures ∙ sp_kept rs s n e); rest_bound = (small, near) }

pub returns : goal.returns
returns c =
    let a = c.args in
    let s = a.snapshot.now in
    let h = c.requires.0 in
    let g = c.go-gone.result in
    let rs = c.go-gone.new.regs in
    let m' = c.go-gone.new.«data» in
    let n = came rs s (long s h) c.go-gone.auto.regs in
    let kept : (i : ℕ) → Fits w8 (get_or (rs ++ drop 32 s) i 0) = λ i. search rules in
    let f : Bytes rs = record { byte_lt = front_bytes rs (drop 32 s) (λ i. (kept i).fits) } in
    let pc = c.word_at-pc.ensures in
    let sp = c.word_at-sp.ensures in
    let w : went_in s a.program.now a.«data».now a.on a.at a.budget g rs m' = rw (← pc, ← sp) c.go-gone.ensures in
    stretched s a.program.now a.«data».now a.on a.at a.budget g rs m' h c.requires.1 w n f (search rules) (search rules) (search rules)
    c.leave.ensures.value (rw (← c.flags-rest.ensures) c.leave.ensures.snapshot_after)
