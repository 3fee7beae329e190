-- `Found`: the instruction of a form, looked up in a match.
pub mod Found
