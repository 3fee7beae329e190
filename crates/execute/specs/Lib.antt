-- One instruction. `Needs`: refusals 1 to 4. `Execute`: what each instruction does.
pub mod Needs
pub mod Execute
