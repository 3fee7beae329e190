-- `Walk`: a test over all words that keeps the arms that still fit. `Matched`: what the test shows.
pub mod Walk
pub mod Matched
