-- `Judged`: what is shown of an instruction's encoding. `Layouts`, `TwoWords`: by the layouts of one word and of two. `Instructions`: of each instruction.
-- `Words`: a test over all words, and `Second`: with any second word. `Round`: the theorems.
pub mod Judged
pub mod Layouts
pub mod TwoWords
pub mod Instructions
pub mod Words
pub mod Second
pub mod Round
