-- `Page`: a text in a lent buffer. `Gains`: the same of a page of the code. `Numbers`: numbers as text.
pub mod Page
pub mod Gains
pub mod Numbers
