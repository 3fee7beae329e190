-- `RoundTrip`: what is proved of the encoder and `decode`.
pub mod RoundTrip
