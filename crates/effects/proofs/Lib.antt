-- `Stores`: a store into the data space, in parts. `Skips`: branches and skips, in parts. `Rest`: what no arm of the match names.
pub mod Stores
pub mod Skips
pub mod Rest
