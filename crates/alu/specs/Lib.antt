-- `Alu`: 01's 'Arithmetic and flags', as far as it speaks of operands and results alone.
pub mod Alu
