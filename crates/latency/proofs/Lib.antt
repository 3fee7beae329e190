-- `Ticks`: one tick. `Entry`: within eight ticks; `Runs`: in a run; `Schedule`: by a schedule. `Cycles`: the table; `Manual`: its column of the manual's. `Computed`: the examples.
pub mod Ticks
pub mod Entry
pub mod Runs
pub mod Schedule
pub mod Cycles
pub mod Computed
pub mod Manual
