-- `Contracts`: each is met.
pub mod EachContract
