-- `Rule`: what the rule decides, source or chip.
pub mod Rule
