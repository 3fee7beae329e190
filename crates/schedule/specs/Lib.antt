-- `Schedule`: 02's W5, tick by tick. `Follow`: a record at a time, as the code goes. `Laws`: that a scheduled run is single ticks with its offers, and what is known of its numbers.
pub mod Schedule
pub mod Follow
pub mod Laws
