-- `Sampling`: the theorem, and the routine computed.
pub mod Sampling
