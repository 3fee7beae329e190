-- The laws of specs/. `Bounds`, `Fits`, `Handlers`: of numbers, a core's setters and the shapes of handlers. `Registers`, `Waits`, `Ranges`, `Controls`: of
-- every instruction. `Ticks`: of every tick. `Rule`: of the rule, source or chip.
pub mod Bounds
pub mod Fits
pub mod Handlers
pub mod Registers
pub mod Waits
pub mod Ranges
pub mod Controls
pub mod Ticks
pub mod Rule
