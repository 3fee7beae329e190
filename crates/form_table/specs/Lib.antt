-- `Rule`: what the table is, entry by entry.
pub mod Rule
