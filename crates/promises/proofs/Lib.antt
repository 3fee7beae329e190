-- Demand 1: `BenchSheet`, 01's thirteen lines; `OneOutcome`. Demand 3: `Schedules`, `ScheduledStamps`, by a schedule. `Demands`: all three. `Requests`: what the later requests promise. `Claims`: what else is claimed.
pub mod Schedules
pub mod ScheduledStamps
pub mod BenchSheet
pub mod OneOutcome
pub mod Demands
pub mod Requests
pub mod Claims
