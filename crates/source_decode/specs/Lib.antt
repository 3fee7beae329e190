-- `RustDecode`: `Instruction::decode` of cores.rs, arm by arm, and what is promised of it.
pub mod RustDecode
