-- What the calls tell, by what the tick and the run over a snapshot hand back.
-- Assumes nothing.
use Rattle.std.proofs.Common.{◌≡◌, ◌∙◌, refl, sym, ap, ℕ, zero, suc, ◌≤◌, List, false, Result, Ok, Err, is_ok, arith, eqb, eq-eqb, ne_eqb, le-ltb}
use Rattle.snapshot.specs.Snapshot.{unreadable_number, said_read, read_of}
use Rattle.snapshot.specs.declared.Unreadable.{Unreadable}
use Rattle.snapshot.specs.declared.Unreadable.TheVariants.{Length, Busy, Spare}
use Rattle.basis.proofs.Choice.{clash, test}
use Rattle.cores.specs.declared.Core.{Core}
use Rattle.tick.specs.Tick.{number_of, tick_of}
use Rattle.tick.specs.Offer.{Offer}
use Rattle.run.specs.Run.{ended_number}
use Rattle.run.specs.Over.{passed, over_of, run_over, said_run, said_count, tick_in, TicksIn, run_in, RunsIn}
use Rattle.run.specs.declared.over.Over.{Over}
use Rattle.run.proofs.Calls.{run_in_refused, run_in_passed}
use Rattle.host.specs.Host.{offer_of, Tells, TellsTicks, avr_tick_of, avr_run_of}

is_passed : {A : Type 0} (n : ℕ) (x : A) {y : A} → Ok y ≡ passed n x → n ≡ 0
is_passed zero x h = refl
is_passed (suc n) x h = let e = ne_eqb (suc n) 0 (λ z. omega (arith, z)) in clash (rw e at (ap is_ok h))

is_refused : {A : Type 0} (n : ℕ) (x : A) {e : Unreadable} → Err e ≡ passed n x → n ≡ 0 → ⊥
is_refused zero x h = clash (sym (ap is_ok h))
is_refused (suc n) x h = λ z. omega (arith, z)

-- where check 10 is passed
module _ (s p m : List ℕ) (offer : ℕ) (low : offer ≤ 65536) {o : Offer} (offered : o ≡ offer_of offer) {n : ℕ} where
  pub tells_tick : {a : ℕ} {s' m' : List ℕ} → TicksIn (tick_in s p m o) a s' m' → n ≡ a → Tells (avr_tick_of s p m offer) n s' m'
  unfolding avr_tick_of
  tells_tick w number =
      rw (le-ltb 65536 offer low, ← offered)
      (test (eqb (read_of s).refusal 0)
      (λ e. let v = rw e at w in rw e (record { number = number ∙ v.number; snapshot = v.snapshot; bytes = v.bytes }))
      (λ e. let v = rw e at w in rw e (record { number = number ∙ v.number; snapshot = v.snapshot; bytes = v.bytes })))

  module _ (budget ticks : ℕ) {r : Result Over Unreadable} {s' m' : List ℕ} (back : r ≡ passed (read_of s).refusal (over_of (run_over budget s p m o))) (w : RunsIn (run_in s p m o budget) (said_run r) (said_count r) s' m') where
    pub tells_run : {x : Over} → r ≡ Ok x → n ≡ ended_number x.ended → TellsTicks (avr_run_of s p m offer budget ticks) n s' m' x.ticks
    unfolding avr_run_of
    tells_run {x} is number =
        let e = eq-eqb (read_of s).refusal 0 (is_passed (read_of s).refusal (over_of (run_over budget s p m o)) (sym is ∙ back)) in
        let z = run_in_passed s p m o budget e in
        rw (le-ltb 65536 offer low, e, ← offered) (record {
          number = number ∙ sym (ap said_run is) ∙ w.answer ∙ ap (λ r. r.answer) z;
          snapshot = w.snapshot ∙ ap (λ r. r.snapshot) z;
          bytes = w.bytes ∙ ap (λ r. r.bytes) z;
          ticks = sym (ap said_count is) ∙ w.count ∙ ap (λ r. r.count) z;
        })

    pub tells_no_run : {x : Unreadable} → r ≡ Err x → n ≡ unreadable_number x → TellsTicks (avr_run_of s p m offer budget ticks) n s' m' ticks
    unfolding avr_run_of
    tells_no_run is number =
        let e = ne_eqb (read_of s).refusal 0 (is_refused (read_of s).refusal (over_of (run_over budget s p m o)) (sym is ∙ back)) in
        let z = run_in_refused s p m o budget e in
        rw (le-ltb 65536 offer low, e)
        (record { number = number ∙ sym (ap said_run is) ∙ w.answer ∙ ap (λ r. r.answer) z; snapshot = w.snapshot ∙ ap (λ r. r.snapshot) z; bytes = w.bytes ∙ ap (λ r. r.bytes) z; ticks = refl })

  -- a foretold tick, by what the reading of the snapshot hands back
  module _ {r : Result Core Unreadable} (said : said_read r ≡ read_of s) where
    pub foretells : {k : Core} → r ≡ Ok k → n ≡ number_of (tick_of k p m o).answer → n ≡ (avr_tick_of s p m offer).number
    unfolding avr_tick_of
    foretells is number = let read = sym said ∙ ap said_read is in rw (le-ltb 65536 offer low, read, ← offered) number

    pub foretells_no_tick : {x : Unreadable} → r ≡ Err x → n ≡ unreadable_number x → n ≡ (avr_tick_of s p m offer).number
    unfolding avr_tick_of
    foretells_no_tick {x} is number =
        let read = sym said ∙ ap said_read is in
        let e : eqb (unreadable_number x) 0 ≡ false = some x in
        rw (le-ltb 65536 offer low, read, e) number
      where
        some : (x : Unreadable) → eqb (unreadable_number x) 0 ≡ false
        some Length = refl
        some Busy = refl
        some Spare = refl
