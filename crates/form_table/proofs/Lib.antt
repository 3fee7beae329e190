-- `Tested`: a list that passes the test at each entry is the table.
pub mod Tested
