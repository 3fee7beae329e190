-- Demand 1: 01's table of answers. `Steps`: the step that a tick reaches, and what it lacks there. `Table`: the rows of a tick, and what is stated of them.
-- `Calls`: the same of the functions around the tick. `Schedules`: 02's numbers of a scheduled run.
pub mod Steps
pub mod Table
pub mod Calls
pub mod Schedules
