-- The Rust's integers, in a debug build: u8, u16 and u32 as numbers, i8, i16 and i32 as whole numbers. What overflows panics, and a shift panics by its
-- type's width and drops the bits that leave it. `u16::from`, `i16::from` and a cast to a wider type change no number and are left out.
use Rattle.std.specs.Prelude.{Bool, true, false, not, ℕ, ◌+◌, ◌*◌, ◌/◌, ◌%◌, ◌^◌, ◌-◌, eqb, ltb, leb, ℤ, pos, negsuc, ◌*ℤ◌}
use Rattle.source.specs.Monad.{Rust, ◌>>=◌, if'◌then◌else◌, checked, self_pc, self_sp, pc=, sp=}

-- ---- unsigned
infixl 60 ◌+u16◌
abbrev pub ◌+u16◌ : ℕ → ℕ → Rust ℕ
◌+u16◌ a b = checked (ltb (a + b) 65536) (a + b)

infixl 60 ◌-u16◌
abbrev pub ◌-u16◌ : ℕ → ℕ → Rust ℕ
◌-u16◌ a b = checked (leb b a) (a - b)

infixl 60 ◌-u8◌
abbrev pub ◌-u8◌ : ℕ → ℕ → Rust ℕ
◌-u8◌ a b = checked (leb b a) (a - b)

infixl 60 ◌+u8◌
abbrev pub ◌+u8◌ : ℕ → ℕ → Rust ℕ
◌+u8◌ a b = checked (ltb (a + b) 256) (a + b)

infixl 70 ◌*u16◌
abbrev pub ◌*u16◌ : ℕ → ℕ → Rust ℕ
◌*u16◌ a b = checked (ltb (a * b) 65536) (a * b)

infixl 50 ◌<<u8◌
abbrev pub ◌<<u8◌ : ℕ → ℕ → Rust ℕ
◌<<u8◌ x n = checked (ltb n 8) (x * 2 ^ n % 256)

infixl 50 ◌<<u16◌
abbrev pub ◌<<u16◌ : ℕ → ℕ → Rust ℕ
◌<<u16◌ x n = checked (ltb n 16) (x * 2 ^ n % 65536)

infixl 50 ◌>>u8◌
abbrev pub ◌>>u8◌ : ℕ → ℕ → Rust ℕ
◌>>u8◌ x n = checked (ltb n 8) (x / 2 ^ n)

infixl 50 ◌>>u16◌
abbrev pub ◌>>u16◌ : ℕ → ℕ → Rust ℕ
◌>>u16◌ x n = checked (ltb n 16) (x / 2 ^ n)

-- `!x`
abbrev pub u8::not : ℕ → ℕ
u8::not x = 255 - x

abbrev pub u16::not : ℕ → ℕ
u16::not x = 65535 - x

-- the wrapped value, and whether it wrapped
abbrev pub u8::overflowing_add : ℕ → ℕ → ℕ × Bool
u8::overflowing_add a b = ((a + b) % 256, leb 256 (a + b))

abbrev pub u8::overflowing_sub : ℕ → ℕ → ℕ × Bool
u8::overflowing_sub a b = ((a + 256 - b) % 256, ltb a b)

abbrev pub u16::overflowing_add : ℕ → ℕ → ℕ × Bool
u16::overflowing_add a b = ((a + b) % 65536, leb 65536 (a + b))

abbrev pub u16::overflowing_sub : ℕ → ℕ → ℕ × Bool
u16::overflowing_sub a b = ((a + 65536 - b) % 65536, ltb a b)

abbrev pub u16::wrapping_add : ℕ → ℕ → ℕ
u16::wrapping_add a b = (a + b) % 65536

abbrev pub u16::wrapping_sub : ℕ → ℕ → ℕ
u16::wrapping_sub a b = (a + 65536 - b) % 65536

abbrev pub u8::rotate_left : ℕ → ℕ → ℕ
u8::rotate_left x n = x * 2 ^ n % 256 + x / 2 ^ (8 - n)

abbrev pub as_u8 : ℕ → ℕ
as_u8 x = x % 256

abbrev pub as_u16 : ℕ → ℕ
as_u16 x = x % 65536

abbrev pub u16::from_le_bytes : ℕ → ℕ → ℕ
u16::from_le_bytes l h = h * 256 + l

abbrev pub u16::to_le_bytes : ℕ → ℕ × ℕ
u16::to_le_bytes v = (v % 256, v / 256)

-- `view_bits::<Lsb0>()`: by a bit's number, the bit
abbrev pub view_bits : ℕ → ℕ → Bool
view_bits x i = eqb (x / 2 ^ i % 2) 1

-- `^` of two bools
infixl 32 ◌xor◌
abbrev pub ◌xor◌ : Bool → Bool → Bool
◌xor◌ true b = not b
◌xor◌ false b = b

-- ---- `self.pc += n`, `self.sp += n`, `self.sp -= n`
abbrev pub pc+= : ℕ → Rust Unit
pc+= n = do
  pc= (← (← self_pc) +u16 n)

abbrev pub sp+= : ℕ → Rust Unit
sp+= n = do
  sp= (← (← self_sp) +u16 n)

abbrev pub sp-= : ℕ → Rust Unit
sp-= n = do
  sp= (← (← self_sp) -u16 n)

-- ---- signed: the bits of an unsigned number read as a signed one, and back
abbrev pub u8_as_i8 : ℕ → ℤ
u8_as_i8 x = if' ltb x 128 then pos x else negsuc (255 - x)

abbrev pub u16_as_i16 : ℕ → ℤ
u16_as_i16 x = if' ltb x 32768 then pos x else negsuc (65535 - x)

-- i8, i16 and i32 alike
abbrev pub signed_as_u8 : ℤ → ℕ
signed_as_u8 (pos n) = n % 256
signed_as_u8 (negsuc n) = 255 - n % 256

abbrev pub signed_as_u16 : ℤ → ℕ
signed_as_u16 (pos n) = n % 65536
signed_as_u16 (negsuc n) = 65535 - n % 65536

abbrev pub in_i16 : ℤ → Bool
in_i16 (pos n) = ltb n 32768
in_i16 (negsuc n) = ltb n 32768

infixl 70 ◌*i16◌
abbrev pub ◌*i16◌ : ℤ → ℤ → Rust ℤ
◌*i16◌ a b = checked (in_i16 (a *ℤ b)) (a *ℤ b)

infixl 50 ◌<<i16◌
abbrev pub ◌<<i16◌ : ℤ → ℕ → Rust ℤ
◌<<i16◌ a n = checked (ltb n 16) (u16_as_i16 (signed_as_u16 (a *ℤ pos (2 ^ n))))

-- `>>` of a signed number rounds down
abbrev pub halved : ℤ → ℕ → ℤ
halved (pos m) n = pos (m / 2 ^ n)
halved (negsuc m) n = negsuc (m / 2 ^ n)

infixl 50 ◌>>i8◌
abbrev pub ◌>>i8◌ : ℤ → ℕ → Rust ℤ
◌>>i8◌ a n = checked (ltb n 8) (halved a n)

-- `word == 0`
abbrev pub is_zero : ℤ → Bool
is_zero (pos n) = eqb n 0
is_zero (negsuc n) = false
