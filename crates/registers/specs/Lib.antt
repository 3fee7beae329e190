-- `Registers`: 01's register-only list, on lent registers.
pub mod Registers
