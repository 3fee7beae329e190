-- Laws of lines that the proofs of the code and the crates above cite.
pub mod Table
pub mod Characters
pub mod RecordBytes
pub mod Found
pub mod Judged
