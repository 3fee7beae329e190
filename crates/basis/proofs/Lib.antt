-- Laws that more than one crate's proofs cite.
pub mod Choice
pub mod Both
pub mod Every
pub mod Bits
pub mod Products
