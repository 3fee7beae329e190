-- `Cases`: what a match on a number has shown, for the proofs of the functions. `Laws` and `Tests`: for the crates above.
pub mod Cases
pub mod Laws
pub mod Tests
