-- What every lent slice of bytes is.
use Rattle.std.specs.Prelude.{List, ℕ, ◌<◌, get_or}

pub record Bytes (m : List ℕ) : Type 0 where
  pub byte_lt : (i : ℕ) → get_or m i 0 < 256
