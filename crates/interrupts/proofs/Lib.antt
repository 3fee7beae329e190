-- Demand 3. `Lockstep`, `Handled`, `Arrival`: for any machine. `Steps`: ticks at which no vector is due. `Instructions`, `Stack`, `TickLaws`: the laws of `tick_of`. `Interrupts`: the demand.
-- `OneHandler`, `Stamps`: the worked runs.
pub mod Logic
pub mod Lockstep
pub mod Handled
pub mod Arrival
pub mod Steps
pub mod Instructions
pub mod Stack
pub mod TickLaws
pub mod Interrupts
pub mod OneHandler
pub mod Stamps
