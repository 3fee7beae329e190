-- `Agrees`: the form by the table is that of the decoded word. `Alike`: so the two decoders are the same, and so are ticks and runs by them.
pub mod Agrees
pub mod Alike
