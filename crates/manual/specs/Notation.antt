-- The manual's notation: bits of a register or a result, its Boolean operators, its table of flags, signed numbers, the stack, and what every page ends in.
-- The manual is the AVR Instruction Set Manual, DS40002198, by its AVRxt column. No copy was at hand: the pages are from knowledge of the document, and
-- docs/DIFFERENCES.md says what they were checked against. Its signs, of which editions print some in two ways, and how they stand here:
--   R3, Rd3, Rr3, K3     R ! 3, Rd ! 3, Rr ! 3, K ! 3: bit 3 of the result, of a register, of a constant
--   • or ∧ between bits  a • b, and
--   + or ∨ between bits  a ⊹ b, or; + itself adds numbers
--   ⊕                    a ⊕ b, exclusive or; in the operation of EOR `bit_xor`, as `bit_and` and `bit_or` in those of AND and OR
--   a bar over a bit     bar a, not
--   a row of flags       row, its eight entries in the order I T H S V N Z C: kept for –, is x for a flag that becomes x. V is written «V», as it had
--                        to be before the port
--   Rd ← x               with_reg k d x; Rd+1:Rd ← x is with_word k d x
--   (X), I/O(A)          data_of, and left of an arrow set_data_of: a byte of data space, where 0x3D to 0x3F are SP and SREG by 01
--   STACK ← PC + 1       STACK← k (up k.pc 1) m, and SP ← SP - 2 with it; in PC ← STACK, STACK k m
--   PC ← PC + 1, cycles  next k 1 c; PC ← x is goes k x c
use Rattle.std.specs.Prelude.{Bool, not, ◌&&◌, ◌||◌, List, ℕ, ◌+◌, ◌*◌, ◌/◌, ◌%◌, ◌^◌, ◌-◌, eqb, ℤ, pos, negsuc, get_or, set}
use Rattle.basis.specs.Pick.{pick}
use Rattle.basis.specs.Bit.{one, up, down}
use Rattle.cores.specs.declared.Core.{Core}
use Rattle.cores.specs.State.{Out, out, with_busy, with_pc, with_sp}

-- bit i of x
infixl 60 ◌!◌
abbrev pub ◌!◌ : ℕ → ℕ → Bool
◌!◌ x i = eqb (x / 2 ^ i % 2) 1

infixl 35 ◌•◌
abbrev pub ◌•◌ : Bool → Bool → Bool
◌•◌ a b = a && b

infixl 30 ◌⊹◌
abbrev pub ◌⊹◌ : Bool → Bool → Bool
◌⊹◌ a b = a || b

infixl 32 ◌⊕◌
abbrev pub ◌⊕◌ : Bool → Bool → Bool
◌⊕◌ a b = pick a (not b) b

abbrev pub bar : Bool → Bool
bar a = not a

-- every bit of a byte is 0: R̄7•R̄6•R̄5•R̄4•R̄3•R̄2•R̄1•R̄0; every bit of a word: R̄15•R̄14• .. •R̄0
unfoldable pub zero8 : ℕ → Bool
zero8 R = bar (R ! 7) • bar (R ! 6) • bar (R ! 5) • bar (R ! 4) • bar (R ! 3) • bar (R ! 2) • bar (R ! 1) • bar (R ! 0)

abbrev pub zero16 : ℕ → Bool
zero16 R = zero8 (R / 256) • zero8 (R % 256)

-- ---- the table of flags
-- an entry
pub data Mark : Type 0 where
  kept : Mark
  is : Bool → Mark

abbrev pub marked : Mark → Bool → ℕ
marked kept old = one old
marked (is b) old = one b

-- SREG s by the table's row, in its order
unfoldable pub row : ℕ → Mark → Mark → Mark → Mark → Mark → Mark → Mark → Mark → ℕ
row s I T H S «V» N Z C =
    marked I (s ! 7) * 128 + marked T (s ! 6) * 64 + marked H (s ! 5) * 32 + marked S (s ! 4) * 16 + marked «V» (s ! 3) * 8 + marked N (s ! 2) * 4 + marked Z (s ! 1) * 2 + marked C (s ! 0)

-- bit b of a byte becomes t, its other bits stay
unfoldable pub bit_to : ℕ → ℕ → Bool → ℕ
bit_to x b t =
    let at : ℕ → Mark = λ i. pick (eqb i b) (is t) kept in
    row x (at 7) (at 6) (at 5) (at 4) (at 3) (at 2) (at 1) (at 0)

-- C, to be added or subtracted
abbrev pub carry : Core → ℕ
carry k = one (k.sreg ! 0)

-- ---- signed numbers
abbrev pub unsigned : ℕ → ℤ
unsigned x = pos x

-- a byte in two's complement
abbrev pub signed : ℕ → ℤ
signed x = pick (x ! 7) (negsuc (255 - x)) (pos x)

-- 16 bits in two's complement
abbrev pub bits16 : ℤ → ℕ
bits16 (pos n) = n % 65536
bits16 (negsuc n) = 65535 - n % 65536

-- ---- the stack, for a PC of 16 bits. 01: "calls, RET and RETI use the data bytes themselves"
-- STACK ← v, SP ← SP - 2: the low byte at SP, then the high byte at SP - 1
abbrev pub STACK← : Core → ℕ → List ℕ → Out
STACK← k v m = out (with_sp k (down k.sp 2)) (set (set m k.sp (v % 256)) (down k.sp 1) (v / 256))

-- STACK, as what SP ← SP + 2 takes off it: the high byte at SP + 1, then the low byte at SP + 2
abbrev pub STACK : Core → List ℕ → ℕ
STACK k m = get_or m (up k.sp 1) 0 * 256 + get_or m (up k.sp 2) 0

-- ---- where a page ends
-- PC ← PC + n for an instruction of n words, in c cycles: the tick that executes it and c - 1 that wait
unfoldable pub next : Core → ℕ → ℕ → Core
next k n c = with_busy (with_pc k (up k.pc n)) (c - 1)

-- PC ← t, in c cycles
unfoldable pub goes : Core → ℕ → ℕ → Core
goes k t c = with_busy (with_pc k t) (c - 1)
