-- `Encode`: the words of an instruction. `Examples`: some of them.
pub mod Encode
pub mod Examples
