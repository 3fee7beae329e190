-- `Bounds`: a word of two bytes. `Space`: an address that is neither SREG nor a byte of SP, and what a store keeps. `Swapped`: SWAP as a rotation.
pub mod Bounds
pub mod Space
pub mod Swapped
