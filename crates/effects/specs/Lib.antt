-- `Parts`: a core of lent registers and numbers.
pub mod Parts
