-- An end by its number, and the number of a run by its last tick's.
-- Assumes nothing.
use Rattle.std.proofs.Common.{◌≡◌, ℕ, eqb, List, refl, sym, arith, eqb-true, lt-ltb}
use Rattle.basis.specs.Pick.{pick}
use Rattle.basis.proofs.Choice.{cases}
use Rattle.cores.specs.declared.Core.{Core}
use Rattle.instruction.specs.Decode.{decode_of}
use Rattle.execute.specs.declared.Done.{Done}
use Rattle.execute.specs.declared.Done.TheVariants as done
use Rattle.tick.specs.Offer.{Offer}
use Rattle.tick.specs.declared.Answer.{Answer}
use Rattle.tick.specs.Tick.{number_of, refuses, stops, answer_of, tick_of}
use Rattle.tick.proofs.Steps.{every_tick, performed}
use Rattle.run.specs.declared.Ended.{Ended}
use Rattle.run.specs.declared.Ended.TheVariants.{Budget, Break, End, Refused}
use Rattle.run.specs.Run.{ended_number, EndsHaveTheirNumbers}
use Rattle.run.specs.Over.{last_number, answered}

pub ends_have_their_numbers : EndsHaveTheirNumbers
ends_have_their_numbers n =
    let P = λ (e : Ended). ended_number e ≡ n in
    cases P (eqb n 24) Budget _ (λ t. sym (eqb-true n 24 t))
    λ _. cases P (eqb n 22) Break _ (λ t. sym (eqb-true n 22 t))
    λ _. cases P (eqb n 23) End (Refused n) (λ t. sym (eqb-true n 23 t)) λ _. refl

-- the number of what ended a run: a refusal's, break's or the end's
abbrev pub kept : Answer → ℕ
kept a = pick (refuses a) (number_of a) (pick (stops a) (number_of a) 24)

last_done : (d : Done) → last_number (number_of (answer_of d)) ≡ kept (answer_of d)
last_done done.Ran = refl
last_done done.Sleep = refl
last_done done.Watchdog = refl
last_done done.Undefined = refl
last_done done.Break = refl

pub last_kept : (k : Core) (p m : List ℕ) (o : Offer) → last_number (number_of (tick_of k p m o).answer) ≡ kept (tick_of k p m o).answer
last_kept k p m o =
    every_tick decode_of (λ t. last_number (number_of t.answer) ≡ kept t.answer) k p m o
    (λ n g l. rw (lt-ltb n 16 (omega arith)))
    (λ g l. refl)
    (λ z v d l. refl)
    (λ z d l. refl)
    λ z d l r. last_done (performed decode_of k p m).done

-- the number of a tick's answer gives the answer back
answered_done : (d : Done) → answered (number_of (answer_of d)) ≡ answer_of d
answered_done done.Ran = refl
answered_done done.Sleep = refl
answered_done done.Watchdog = refl
answered_done done.Undefined = refl
answered_done done.Break = refl

pub answered_back : (k : Core) (p m : List ℕ) (o : Offer) → answered (number_of (tick_of k p m o).answer) ≡ (tick_of k p m o).answer
answered_back k p m o =
    every_tick decode_of (λ t. answered (number_of t.answer) ≡ t.answer) k p m o
    (λ n g l. rw (lt-ltb n 16 (omega arith)))
    (λ g l. refl)
    (λ z v d l. refl)
    (λ z d l. refl)
    λ z d l r. answered_done (performed decode_of k p m).done
