-- `Ticks`: what is left of so many ticks.
pub mod Ticks
