-- `Host`: 01's C interface. `Schedules`: a run by 02's W5 through it.
pub mod Host
pub mod Schedules
