-- `Witnesses`: the table of differences, computed. `Manual`, `End`: the theorems. What they are made of: `Rows`, `Ready`; the pages, as the port's handlers, in
-- `Sums`, `Logic`, `Words` and `Flow`; every instruction with the switches of a rule in `Executes`, a page with its switch turned in `Turned`, and every instruction by switches in `Changes`; the steps of a tick in `Ticks`.
pub mod Witnesses
pub mod Rows
pub mod Ready
pub mod Sums
pub mod Logic
pub mod Words
pub mod Flow
pub mod Executes
pub mod Turned
pub mod Changes
pub mod Ticks
pub mod Manual
pub mod End
