-- `Steps`: one tick of a scheduled run, and many with no offer. Over a snapshot: `Waiting`, a tick while a record waits; `Serving`, no offer until one is due; `Following`, record by record.
-- `Records`: those of a list by its parts. `Checks`: those of a list. `Refusals`: their numbers. `Whole`: the calls. `Known`: a scheduled run is single ticks, from any of its ticks on. `Laws`: what is stated of it. `InSteps`: taken up where its budget had ended.
pub mod Steps
pub mod Waiting
pub mod Serving
pub mod Records
pub mod Checks
pub mod Refusals
pub mod Following
pub mod Whole
pub mod Known
pub mod Laws
pub mod InSteps
