-- A line as the code judges it, for the contracts of private functions: nobody has to believe it.
use Rattle.std.specs.Prelude.{ℕ, Option, None, Some, Result, Ok, Err, eqb}
use Rattle.basis.specs.Pick.{pick}
use Rattle.schedule_text.specs.declared.Fault.{Fault}
use Rattle.schedule_text.specs.declared.Fault.TheVariants.{Form}
use Rattle.schedule_text.specs.declared.line.Firing.{Firing as Fired}
use Rattle.schedule_text.specs.Reading.{Said, Nothing, Wrong, Firing, fault_of, fault_number}

-- what stands behind a line's blanks, where that is something
abbrev pub firing_said : Option Fired → Said
firing_said None = Wrong
firing_said (Some f) = Firing f.tick f.vector

abbrev pub line_said : Said → Result (Option Fired) Fault
line_said Nothing = Ok None
line_said Wrong = Err Form
line_said (Firing tick vector) = Ok (Some (record { tick = tick; vector = vector }))

-- a line judged, and what the code answers, by a fault's number
abbrev pub judged_of : Said → ℕ → ℕ → Result (Option Fired) ℕ
judged_of Nothing last room = Ok None
judged_of Wrong last room = Err 1
judged_of (Firing tick vector) last room =
    let fault = fault_of tick vector last room in
    pick (eqb fault 0) (Ok (Some (record { tick = tick; vector = vector }))) (Err fault)

abbrev pub numbered : Result (Option Fired) Fault → Result (Option Fired) ℕ
numbered (Ok given) = Ok given
numbered (Err fault) = Err (fault_number fault)
