-- What stays so. `Instructions`: of every instruction. `Ticks`: of every tick. `Rule`: the rule, source or chip.
pub mod Instructions
pub mod Ticks
pub mod Rule
