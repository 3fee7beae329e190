-- `Reading`: a schedule's text, and what is read from it. `Judged`: a line as the code judges it. `Laws`: that the list is one that a scheduled run takes. `Examples`: small texts.
pub mod Reading
pub mod Judged
pub mod Laws
pub mod Examples
