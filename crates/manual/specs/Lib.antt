-- The AVR Instruction Set Manual's AVRxt column as a definition, page by page in its order, with 01's listed differences as switches.
pub mod Notation
pub mod Switches
pub mod Pointers
pub mod AdcToCpse
pub mod DecToLsr
pub mod MovToRor
pub mod SbcToWdr
pub mod Instructions
pub mod Tick
pub mod Differences
pub mod Statement
pub mod Witnesses
