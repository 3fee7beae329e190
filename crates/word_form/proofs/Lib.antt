-- `Read`: which words have a second one.
pub mod Read
