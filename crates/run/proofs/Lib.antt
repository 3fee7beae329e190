-- `Unroll`: one tick of a run. `Larger`: a larger budget changes nothing where the budget was not what stopped it. `Ticks`: a run is ticks one after another. `Ends`: an end by its number.
-- Over lent registers: `Unrefused`, what `ready` found to be there; `Rest`, what its match has no arm for; `Told`, a tick that carries an instruction out; `Waits`, a core that
-- waits; `Onward`, a tick that ran and its waits. Over a snapshot: `Six`, the six bytes behind its registers; `Stretched`, a stretch;
-- `Turns`, a stretch and a whole tick; `Calls`, the checks and what follows them; `Through`, a core through its snapshot.
pub mod Unroll
pub mod Larger
pub mod Ticks
pub mod Ends
pub mod Unrefused
pub mod Rest
pub mod Told
pub mod Waits
pub mod Onward
pub mod Six
pub mod Stretched
pub mod Turns
pub mod Calls
pub mod Through
