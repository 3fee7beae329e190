-- What is promised. `Demands` names the three demands, `Requests` what the later requests promise, `Claims` what else README claims. Of demand 1: `OneOutcome`, and `BenchSheet`, 01's thirteen lines.
-- Of demand 3: `Schedules`, the demand by an interrupt schedule.
pub mod Schedules
pub mod BenchSheet
pub mod OneOutcome
pub mod Demands
pub mod Requests
pub mod Claims
