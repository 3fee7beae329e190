-- Demand 3. `RegisterOnly` tells the kinds of instruction apart, `Handlers` says which ticks are a handler's, `Interrupts` states the demand, `Stamps` has a run that meets it
-- and one that does not.
-- NOBODY HAS TO BELIEVE `Machine`: it has the laws that the demand is proved from, for any machine, and `Interrupts` says all that is promised of this one.
pub mod RegisterOnly
pub mod Handlers
pub mod Interrupts
pub mod Stamps
pub mod Machine
