-- From the bottom up. `Steps`, `Registers`, `Space`, `Stack`, `Program`: what the Rust's primitives come to. `Sums`, `Signed`: its numbers.
-- `Arithmetic` to `Transfer`: each handler, those that subtract in `Subtraction`. `Needs`, `Dispatch`, `Tick`: the tick. `Source`: the theorem. `Bench`: computed.
pub mod Steps
pub mod Registers
pub mod Space
pub mod Stack
pub mod Program
pub mod Sums
pub mod Signed
pub mod Arithmetic
pub mod Subtraction
pub mod Products
pub mod Flow
pub mod Skips
pub mod Bits
pub mod Transfer
pub mod Needs
pub mod Dispatch
pub mod Tick
pub mod Source
pub mod Bench
