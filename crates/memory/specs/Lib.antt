-- `Memory`: 01's flat memories.
pub mod Memory
