-- 01, 'Arithmetic and flags': "Results are modulo 256 (65,536 for ADIW, SBIW)."
use Rattle.std.specs.Prelude.{ℕ, ◌+◌, ◌-◌, ◌*◌, ◌/◌, ◌%◌, Bool, not, ◌&&◌, nat_le, nat_lt}
use Rattle.std.specs.Bool.{beq}
use Rattle.basis.specs.Bit.{one}
use Rattle.alu.specs.declared.Sum.{Sum}
use Rattle.alu.specs.declared.WordSum.{WordSum}

-- bit 7 of a byte, bit 15 of a word: "N its top bit"
abbrev pub negative : ℕ → Bool
negative x = nat_le 128 x

abbrev pub negative_word : ℕ → Bool
negative_word x = nat_le 32768 x

-- "ADD ADC: C carry, H carry out of bit 3, V signed overflow; ADC adds C": the operands have one sign and the result the other
unfoldable pub plus_of : ℕ → ℕ → Bool → Sum
plus_of a b c =
    let x = (a + b + one c) % 256 in
    record {
      value = x;
      carry = nat_le 256 (a + b + one c);
      half = nat_le 16 (a % 16 + b % 16 + one c);
      overflow = beq (negative a) (negative b) && not (beq (negative a) (negative x));
    }

-- "SUB SUBI CP CPI: the same with borrow. SBC SBCI CPC subtract C too"
unfoldable pub minus_of : ℕ → ℕ → Bool → Sum
minus_of a b c =
    let x = (a + 512 - (b + one c)) % 256 in
    record {
      value = x;
      carry = nat_lt a (b + one c);
      half = nat_lt (a % 16) (b % 16 + one c);
      overflow = not (beq (negative a) (negative b)) && not (beq (negative a) (negative x));
    }

-- "ASR LSR ROR": one to the right, with a new top bit
abbrev pub halved_of : ℕ → Bool → ℕ
halved_of a top = a / 2 + one top * 128

-- "ADIW: C carry"
abbrev pub plus_word_of : ℕ → ℕ → WordSum
plus_word_of a n = record { value = (a + n) % 65536; carry = nat_le 65536 (a + n) }

-- "SBIW: C borrow"
abbrev pub minus_word_of : ℕ → ℕ → WordSum
minus_word_of a n = record { value = (a + 65536 - n) % 65536; carry = nat_lt a n }

-- a signed byte as 16 bits: bit 7 repeated in the high byte
abbrev pub signed_of : ℕ → ℕ
signed_of a = a + a / 128 * 65280

-- "exact product in R1:R0": modulo 65,536 that of the signed numbers is that of their bits
abbrev pub product_of : ℕ → ℕ → ℕ
product_of a b = a * b % 65536

-- "then doubled modulo 65,536"
abbrev pub doubled_of : ℕ → ℕ
doubled_of a = a * 2 % 65536
