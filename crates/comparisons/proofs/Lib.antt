-- `Flags`: SREG after a difference, bit by bit. `Widening`: one byte more. `Ticks`: the instructions tick by tick. `Comparisons`, `Branches`: the statements. `Stamps`: the instance.
pub mod Flags
pub mod Widening
pub mod Ticks
pub mod Comparisons
pub mod Branches
pub mod Stamps
