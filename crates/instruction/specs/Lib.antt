-- `Decode`: what a word means. `Fields`: what the laws about it say. `Code`: which instruction it is, and 01's lists.
pub mod Decode
pub mod Fields
pub mod Code
