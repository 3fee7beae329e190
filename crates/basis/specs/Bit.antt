-- The bits of a byte, and sums of 16 bits.
use Rattle.std.specs.Prelude.{Bool, ℕ, ◌+◌, ◌*◌, ◌/◌, ◌%◌, ◌^◌, ◌-◌, eqb}
use mir.Val.{bool_byte}

-- 1 for true, 0 for false
abbrev pub one : Bool → ℕ
one t = bool_byte t

-- bit b of x; a bit number counts modulo 8
unfoldable pub bit : ℕ → ℕ → Bool
bit x b = eqb (x / 2 ^ (b % 8) % 2) 1

-- x with bit b made so
unfoldable pub put : ℕ → ℕ → Bool → ℕ
put x b on = x / (2 * 2 ^ (b % 8)) * (2 * 2 ^ (b % 8)) + one on * 2 ^ (b % 8) + x % 2 ^ (b % 8)

-- 16-bit numbers: up and down by n, "wrap at 65,536"
abbrev pub up : ℕ → ℕ → ℕ
up a n = (a + n) % 65536

abbrev pub down : ℕ → ℕ → ℕ
down a n = (a + 65536 - n) % 65536
