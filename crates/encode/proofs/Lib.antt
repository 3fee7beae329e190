-- `Computed`: the examples, computed.
pub mod Computed
