-- The original as a definition. `Monad`: the Rust's `&mut self`, with panic. `Integers`: its numbers. `Registers` to `Tick`: cores.rs in its own order, and
-- `CallJmpLdsSts`, a pattern that it matches in four places. `Statement`: the theorem. `Bench`: 01's bench sheet on this definition.
pub mod Monad
pub mod Integers
pub mod Registers
pub mod CallJmpLdsSts
pub mod Arithmetic
pub mod Flow
pub mod Bits
pub mod Transfer
pub mod Tick
pub mod Statement
pub mod Bench
