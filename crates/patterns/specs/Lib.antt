-- `Pattern`: what a bit pattern's text means.
pub mod Pattern
