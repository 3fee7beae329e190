-- One line more of a text: by what `judge` tells of it, as the code's loop goes, and what holds of a line whose record has no fault.
-- Assumes nothing.
use mathlib.Core.Path.{◌≡◌, refl, ap, ◌∙◌}
use mathlib.Core.Bool.{Bool, true, false, ◌||◌}
use mathlib.Core.List.{List, [], ◌∷◌}
use Prim.Native.Nat.{ℕ, ◌+◌, ◌-◌, ◌<◌}
use native.Mathlib.Omega.{arith}
use lib.Dec.{eqb, leb, ltb}
use borrow.Author.Tests.{eqb-true, eqb-false, leb-false, ltb-false}
use Rattle.basis.specs.Pick.{pick}
use Rattle.basis.proofs.Choice.{test}
use Rattle.std.specs.Prelude.{Option, None, Some, Result, Ok, Err}
use Rattle.schedule_text.specs.Reading.{Nothing, Wrong, Firing}
use Rattle.hex_line.proofs.Judged.{never}
use Rattle.schedule_text.specs.declared.Fault.{Fault}
use Rattle.schedule_text.specs.declared.Fault.TheVariants.{Form, Tick, Order, Vector, Room}
use Rattle.schedule_text.specs.declared.line.Firing.{Firing as Fired}
use Rattle.schedule_text.specs.Reading.{Said, line_of, fault_of, fault_number, Told, told, behind, read_from}
use Rattle.schedule_text.specs.Judged.{judged_of}

-- no fault has the number 0
pub fault_never : (f : Fault) → fault_number f ≡ 0 → ⊥
fault_never Form h = never 0 h
fault_never Tick h = never 1 h
fault_never Order h = never 2 h
fault_never Vector h = never 3 h
fault_never Room h = never 4 h

-- ---- a record that has no fault
pub record Right (tick vector last room : ℕ) : Type 0 where
  pub tick_fits : tick < 16777216
  pub above : last < tick
  pub vector_fits : vector < 65536
  pub has_room : 0 < room

right_by : (tick vector last room : ℕ) (a b c d e : Bool) → eqb tick 0 ≡ a → ltb 16777215 tick ≡ b → leb tick last ≡ c → ltb 65535 vector ≡ d → eqb room 0 ≡ e
    → ◌≡◌ {A = ℕ} (pick (a || b) 2 (pick c 3 (pick d 4 (pick e 5 0)))) 0 → Right tick vector last room
right_by tick vector last room true b c d e p q r s t h = absurd (omega arith)
right_by tick vector last room false true c d e p q r s t h = absurd (omega arith)
right_by tick vector last room false false true d e p q r s t h = absurd (omega arith)
right_by tick vector last room false false false true e p q r s t h = absurd (omega arith)
right_by tick vector last room false false false false true p q r s t h = absurd (omega arith)
right_by tick vector last room false false false false false p q r s t h =
    let some : (room ≡ 0 → ⊥) = eqb-false room 0 t in
    record {
      tick_fits = omega (arith, ltb-false 16777215 tick q);
      above = leb-false tick last r;
      vector_fits = omega (arith, ltb-false 65535 vector s);
      has_room = omega arith;
    }

pub right : (tick vector last room : ℕ) → fault_of tick vector last room ≡ 0 → Right tick vector last room
right tick vector last room h = right_by tick vector last room (eqb tick 0) (ltb 16777215 tick) (leb tick last) (ltb 65535 vector) (eqb room 0) refl refl refl refl refl h

-- what `judge` gives of a line has none
abbrev given_of : Fired → Result (Option Fired) ℕ → Fired
given_of d (Ok (Some f)) = f
given_of d (Ok None) = d
given_of d (Err k) = d

given_is : (d : Fired) (tick vector : ℕ) → ◌≡◌ {A = Result (Option Fired) ℕ} (Ok (Some d)) (Ok (Some (record { tick = tick; vector = vector }))) → d ≡ record { tick = tick; vector = vector }
given_is d tick vector h = ap (given_of d) h

given_right : (s : Said) (last room : ℕ) (d : Fired) → ◌≡◌ {A = Result (Option Fired) ℕ} (Ok (Some d)) (judged_of s last room) → Right d.tick d.vector last room
given_right Nothing last room d h = absurd (cc h)
given_right Wrong last room d h = absurd (cc h)
given_right (Firing tick vector) last room d h =
    test (eqb (fault_of tick vector last room) 0)
    (λ e. rw (given_is d tick vector (rw e at h)) (right tick vector last room (eqb-true (fault_of tick vector last room) 0 e)))
    (λ e. absurd (cc (rw e at h)))

-- ---- one line more
module _ (room n last : ℕ) (l : List ℕ) (ls : List (List ℕ)) where
  -- what is told from a line on, by what `judge` tells of it
  abbrev pub from_judged : Result (Option Fired) ℕ → Told
  from_judged (Ok None) = read_from room (n + 1) last ls
  from_judged (Ok (Some d)) = behind (record { tick = d.tick; vector = d.vector }) (read_from (room - 1) (n + 1) d.tick ls)
  from_judged (Err k) = told k n

  turn_by : (s : Said) → line_of l ≡ s → read_from room n last (l ∷ ls) ≡ from_judged (judged_of s last room)
  unfolding read_from
  turn_by Nothing e = rw (e, read_from)
  turn_by Wrong e = rw (e, read_from)
  turn_by (Firing tick vector) e = test (eqb (fault_of tick vector last room) 0) (λ f. rw (e, read_from, f)) (λ f. rw (e, read_from, f))

  module _ (j : Result (Option Fired) ℕ) (is : j ≡ judged_of (line_of l) last room) where
    pub turn : read_from room n last (l ∷ ls) ≡ from_judged j
    turn = turn_by (line_of l) refl ∙ rw is

pub fires_right : (last room : ℕ) (l : List ℕ) (d : Fired) → ◌≡◌ {A = Result (Option Fired) ℕ} (Ok (Some d)) (judged_of (line_of l) last room) → Right d.tick d.vector last room
fires_right last room l d h = given_right (line_of l) last room d h

pub no_line : (room n last : ℕ) → read_from room n last [] ≡ told 0 0
unfolding read_from
no_line room n last = refl
