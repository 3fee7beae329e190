-- Definitions that every crate's definitions are written in.
pub mod Pick
pub mod Bit
pub mod Bytes
pub mod Text
