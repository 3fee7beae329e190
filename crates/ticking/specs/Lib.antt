-- `After`: so many ticks, one after another.
pub mod After
