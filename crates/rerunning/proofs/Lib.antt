-- For the code: `Entries`, the numbers before the first 0, and numbers as bytes; `Run`, what the run gives, laid out; `Texts`, what is told of the texts; `Parts`, the parts of an input; `Within`, that they lie in it.
-- For the laws: `Image`, bytes of a part and of the program; `Kept`, what a scheduled run keeps; `Listed`, the records of the text; `Given`, what the run gives where no check refuses. `InSteps`, steps of what is told. `Cut`, `Whole`, `Joined`, `Steps`: the laws.
pub mod Entries
pub mod Run
pub mod Texts
pub mod Parts
pub mod Within
pub mod Image
pub mod Kept
pub mod Listed
pub mod Given
pub mod InSteps
pub mod Cut
pub mod Whole
pub mod Joined
pub mod Steps
