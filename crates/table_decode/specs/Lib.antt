-- `Decoding`: a word decoded by a table. `Alike`: that by the table of 02 nothing is decoded otherwise.
pub mod Decoding
pub mod Alike
