-- `Unroll`: one tick of a trace. `Short`: no line of a tick is longer than 36 bytes.
-- `Whole`: nor a trace than 65,535 of them. `Cut`: nor does more input than the longest program count. `Example`: 01's example.
pub mod Unroll
pub mod Short
pub mod Whole
pub mod Example
pub mod Cut
