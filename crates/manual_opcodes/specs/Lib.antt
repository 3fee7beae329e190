-- `Opcodes`: the manual's opcodes in its order, and what is promised of them.
pub mod Opcodes
