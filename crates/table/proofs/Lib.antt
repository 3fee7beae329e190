-- `Needs`: refusals 1 to 4 of an instruction. `Table`: the rows of a tick. `Calls`: registers, snapshots and runs. `HostCalls`: the C interface. `Schedules`: scheduled runs.
pub mod Needs
pub mod Table
pub mod Calls
pub mod HostCalls
pub mod Schedules
