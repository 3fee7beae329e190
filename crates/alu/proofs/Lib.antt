-- `Wraps`: two sums or two differences that wrap are one.
pub mod Wraps
