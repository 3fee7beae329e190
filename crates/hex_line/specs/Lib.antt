-- `Line`: document 02's lines, records and faults. `Way`: how the code goes through a text.
pub mod Line
pub mod Way
pub mod Left
