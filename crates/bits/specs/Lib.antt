-- `Bits`: a bit of a number of any size, what a carry and a borrow are by the top bits, and a byte as a signed number.
-- NOBODY HAS TO BELIEVE IT: proofs alone cite it, and no statement.
pub mod Bits
