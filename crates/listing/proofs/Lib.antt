-- `Unroll`: one turn of a listing. `Joined`: the lines' words are the program. `Decoded`: each line's instruction is what decodes there.
-- `Short`: no line is longer than 49 bytes. `Whole`: nor a listing than 65,536 of them. `Cut`: nor does what stands behind the first byte with no address count. `Example`: the example.
pub mod Unroll
pub mod Joined
pub mod Decoded
pub mod Short
pub mod Whole
pub mod Cut
pub mod Example
