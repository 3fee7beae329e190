-- cores.rs 1099 to 1213, the transfers, statement by statement; the number behind a name is its line. Addresses are u32, which holds every sum made here.
-- `if dec { address = ..; .. }` gives the new address to what follows.
use Rattle.std.specs.Prelude.{Bool, ℕ, ◌+◌, ltb}
use Rattle.source.specs.Monad.{Rust, ◌>>=◌, ◌>>◌, return, if'◌then◌else◌, when, self_sp, sp=, busy=}
use Rattle.source.specs.Integers.{u16::overflowing_add, u16::overflowing_sub, u16::wrapping_add, u16::wrapping_sub, as_u8}
use Rattle.source.specs.Registers.{get_register, set_register, get_register_word, set_register_word, get_io_register, set_io_register, get_data_space, set_data_space, get_ps}

-- `enum PointerRegister`, 1506
abbrev pub PointerRegister::X : ℕ
PointerRegister::X = 26

abbrev pub PointerRegister::Y : ℕ
PointerRegister::Y = 28

abbrev pub PointerRegister::Z : ℕ
PointerRegister::Z = 30

unfoldable pub in_ : ℕ → ℕ → Rust Unit  -- 1100
in_ d A = do
  set_register d (← get_io_register A)

unfoldable pub ld : ℕ → ℕ → ℕ → Bool → Bool → Rust Unit  -- 1105
ld d pointer q dec inc = do
  busy= 2
  address ← get_register_word pointer
  address ← (if' dec
      then (do
        let address = u16::wrapping_sub address 1
        set_register_word pointer address
        return address)
      else return address)
  if' ltb (address + q) 64
      then (do set_register d (← get_io_register (as_u8 (address + q))))
      else (do set_register d (← get_data_space (address + q)))
  when inc (do
    let address = u16::wrapping_add address 1
    set_register_word pointer address)

unfoldable pub st : ℕ → ℕ → ℕ → Bool → Bool → Rust Unit  -- 1131
st r pointer q dec inc = do
  busy= 1
  address ← get_register_word pointer
  address ← (if' dec
      then (do
        let address = u16::wrapping_sub address 1
        set_register_word pointer address
        return address)
      else return address)
  if' ltb (address + q) 64
      then (do set_io_register (as_u8 (address + q)) (← get_register r))
      else (do set_data_space (address + q) (← get_register r))
  when inc (do
    let address = u16::wrapping_add address 1
    set_register_word pointer address)

unfoldable pub ldi : ℕ → ℕ → Rust Unit  -- 1154
ldi d K = do
  set_register d K

unfoldable pub lds : ℕ → ℕ → Rust Unit  -- 1159
lds d k = do
  busy= 2
  set_register d (← get_data_space k)

unfoldable pub lpm : ℕ → Bool → Rust Unit  -- 1166
lpm d inc = do
  busy= 2
  address ← get_register_word PointerRegister::Z
  set_register d (← get_ps address)
  when inc (do
    let address = u16::wrapping_add address 1
    set_register_word PointerRegister::Z address)

unfoldable pub mov : ℕ → ℕ → Rust Unit  -- 1180
mov d r = do
  set_register d (← get_register r)

unfoldable pub movw : ℕ → ℕ → Rust Unit  -- 1185
movw d r = do
  set_register_word d (← get_register_word r)

unfoldable pub out : ℕ → ℕ → Rust Unit  -- 1190
out A r = do
  set_io_register A (← get_register r)

unfoldable pub pop : ℕ → Rust Unit  -- 1195
pop d = do
  busy= 1
  sp= (u16::overflowing_add (← self_sp) 1).0
  set_register d (← get_data_space (← self_sp))

unfoldable pub push : ℕ → Rust Unit  -- 1203
push r = do
  set_data_space (← self_sp) (← get_register r)
  sp= (u16::overflowing_sub (← self_sp) 1).0

unfoldable pub sts : ℕ → ℕ → Rust Unit  -- 1209
sts r k = do
  busy= 1
  set_data_space k (← get_register r)
