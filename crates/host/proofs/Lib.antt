-- `Calls`: what the calls tell, by what the tick and the run over a snapshot hand back.
pub mod Calls
