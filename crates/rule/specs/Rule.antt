-- What the rule decides. 02, W2: "Each core gets a rule choice, source or chip": chip is true under chip and false under source. Source is 01's way.
use Rattle.std.specs.Prelude.{Bool, ◌&&◌, ℕ, ◌%◌, eqb, ltb}
use Rattle.basis.specs.Pick.{pick}

-- ADIW's V looks at a bit of the old word: this bit of word a is clear. 01: "V old bit 7 clear and new bit 15 set".
-- 02, W2: "Under chip, ADIW's V is old bit 15 clear and new bit 15 set"
abbrev pub old_bit_clear : Bool → ℕ → Bool
old_bit_clear chip a = pick chip (ltb a 32768) (ltb (a % 256) 128)

-- "Busy set: 1 for .. pointer stores ..; 2 for .. pointer loads".
-- 02, W4: "Pointer loads and stores set busy to one less than the manual's AVRxt cycles for SRAM": LD and LDD take 2 cycles, ST and STD 1
unfoldable pub load_waits : Bool → ℕ
load_waits chip = pick chip 1 2

unfoldable pub store_waits : Bool → ℕ
store_waits chip = pick chip 0 1

-- 02, W4: "Under the chip rule BSET 7 sets inhibit as RETI does": BSET s does so
abbrev pub bset_inhibits : Bool → ℕ → Bool
bset_inhibits chip s = eqb s 7 && chip
