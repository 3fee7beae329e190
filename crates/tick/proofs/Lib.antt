-- `Steps`: the tick by its branches. `Decided`: the words of an instruction. `Foretold`: the tick is its two operations in turn.
pub mod Steps
pub mod Decided
pub mod Foretold
