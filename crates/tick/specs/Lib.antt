-- `Offer`: what a tick is offered. `Tick`: 01's five steps, and the numbers of the answers. `Plan`: the tick as two operations.
pub mod Offer
pub mod Tick
pub mod Plan
