-- `Run`: 01's run, as ticks one after another. `Ready`: which instructions a tick carries out over lent registers. `Lent`: a stretch of them.
-- `Settling`: a snapshot's bytes behind its registers. `Over`: ticks and runs over a snapshot.
pub mod Run
pub mod Lent
pub mod Ready
pub mod Settling
pub mod Over
