-- `Rerun`: what the program writes for its input. `Lent`: the code's state as one of `Rerun`. `Laws`: what is known of it.
pub mod Rerun
pub mod Lent
pub mod Laws
