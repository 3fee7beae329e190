-- Laws that the proofs of the code cite, and the promises of specs/.
pub mod Checked
pub mod Filled
pub mod Spelled
pub mod LineBack
pub mod Pieces
pub mod Whole
pub mod GivenBack
pub mod Unchanged
pub mod Once
pub mod Exactly
pub mod Computed
pub mod EachByte
