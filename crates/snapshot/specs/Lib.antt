-- `Snapshot`: a core as 38 bytes, and the round trips.
pub mod Snapshot
