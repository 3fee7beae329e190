-- Laws that the proofs of the code cite, and the promises of specs/.
pub mod Digits
pub mod Forms
pub mod Turns
pub mod Laws
pub mod Examples
pub mod Through
