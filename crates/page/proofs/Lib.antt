-- `Laid`: texts one behind the other. `Gained`: the same of a page of the code. `Short`: how long a text is at most. The proofs of the crates above cite them.
pub mod Laid
pub mod Gained
pub mod Short
