-- `Forms`: the form of a word by a table. `Instructions`: the instruction of a form.
pub mod Forms
pub mod Instructions
