-- 01's core and its handlers. `State`: the core and its setters. Then the Rust's own sections. `Lent`: the core that lent registers are.
pub mod State
pub mod Arithmetic
pub mod Flow
pub mod Bits
pub mod Transfer
pub mod Lent
