-- `Reading`, `Writing`: what document 02 says of HEX files, over the lines of crates/hex_line. `Answers`: when each number is given. `Promises`: what else is proved of both. `Examples`: small files.
pub mod Reading
pub mod Writing
pub mod Answers
pub mod Promises
pub mod Examples
