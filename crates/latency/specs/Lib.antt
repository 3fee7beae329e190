-- 02's W6. `Entry`: how long an offered interrupt can wait. `Examples`: that eight is the figure, and each premise needed. `Cycles`: how many ticks an instruction takes, as a table.
pub mod Entry
pub mod Examples
pub mod Cycles
