-- `Trace`: what 01 says of the program `trace`.
pub mod Trace
