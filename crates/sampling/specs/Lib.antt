-- `Sampling`: under chip the instruction behind SEI runs before any entry, and a sampling routine that relies on it.
pub mod Sampling
