-- `Answers`: what an instruction answers.
pub mod Answers
