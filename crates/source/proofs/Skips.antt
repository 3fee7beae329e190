-- cpse, sbix and sbrx of the Rust are the port's: a taken skip panics exactly where 01 refuses it.
-- Assumes nothing.
use mathlib.Core.Path.{◌≡◌, refl, ◌∙◌}
use mathlib.Core.Bool.{Bool, true, false, not, ◌&&◌, beq, and-true, and-false}
use Prim.Native.Nat.{ℕ, ◌+◌, ◌*◌, ◌%◌, ◌^◌, ◌<◌}
use native.Mathlib.Omega.{arith}
use native.Mathlib.Nat.{add-zero}
use lib.Dec.{eqb, ltb}
use lib.Bits.{bit_and}
use lib.ListN.{get_or, length}
use borrow.Author.Tests.{lt-ltb, le-ltb, ltb-true, ltb-false, eqb-true}
use Rattle.basis.specs.Pick.{pick}
use Rattle.basis.specs.Bit.{one, bit, up}
use Rattle.basis.specs.Bytes.{Bytes}
use Rattle.instruction.specs.Decode.{decode_of}
use Rattle.memory.specs.Memory.{has_word_of}
use Rattle.cores.specs.State.{Sound, reg, with_pc, with_busy}
use Rattle.cores.specs.Flow.{two_at, skipped, data_bit_is}
use Rattle.execute.specs.Needs.{skip_needs}
use Rattle.source_decode.specs.RustDecode.{rust_decode}
use Rattle.source.specs.Monad.{Self, Outcome, panic, Rust, ◌>>=◌, ◌>>◌, if'◌then◌else◌, when, self_pc, busy=}
use Rattle.source.specs.Integers.{◌+u16◌, ◌xor◌, pc+=}
use Rattle.source.specs.Registers.{get_progmem, get_progmem_unused}
use Rattle.source.specs.CallJmpLdsSts.{CALL|JMP|LDS|STS}
use Rattle.source.specs.Flow.{cpse, sbix, sbrx}
use Rattle.source.proofs.Steps.{leaves, after_pick, pick_panic, twice, and_under}
use Rattle.source.proofs.Registers.{get_ok, and_flag}
use Rattle.source.proofs.Space.{io_port}
use Rattle.source.proofs.Transfer.{room}
use Rattle.source.proofs.Needs.{met}
use Rattle.source.proofs.Program.{word_ok, unused_word_ok, op_same, pattern_is}

-- the block that the three handlers have in common: 828 to 840, 921 to 933, 944 to 956
abbrev skip : Rust Unit
skip = do
  opcode ← get_progmem (← self_pc)
  prefetch ← get_progmem_unused (← (← self_pc) +u16 1)
  let op = rust_decode opcode prefetch
  if' CALL|JMP|LDS|STS op
      then (do
        pc+= 2
        busy= 2)
      else (do
        pc+= 1
        busy= 1)

-- ---- the tests of a skip over two words: PC + 1 and PC + 2 fit
two_fit_by : {A : Type 0} (pc : ℕ) (t : Bool) (o : Outcome A) → ltb (pc + 1) 65535 ≡ t → pick (ltb (pc + 1) 65536) (pick (ltb (pc + 2) 65536) o panic) panic ≡ pick t o panic
two_fit_by pc true o e = let h = ltb-true (pc + 1) 65535 e in rw (lt-ltb (pc + 1) 65536 (omega arith), lt-ltb (pc + 2) 65536 (omega arith))
two_fit_by pc false o e = let h = ltb-false (pc + 1) 65535 e in rw (le-ltb (pc + 2) 65536 (omega arith), pick_panic)

two_fit : {A : Type 0} (pc : ℕ) (o : Outcome A) → pick (ltb (pc + 1) 65536) (pick (ltb (pc + 2) 65536) o panic) panic ≡ pick (ltb (pc + 1) 65535) o panic
two_fit pc o = two_fit_by pc (ltb (pc + 1) 65535) o refl

-- ---- the test of a bit
xor_not : (set x : Bool) → set xor x ≡ beq (not x) set
xor_not true true = refl
xor_not true false = refl
xor_not false true = refl
xor_not false false = refl

test_is : (v b : ℕ) (set : Bool) → v < 256 → b < 8 → set xor eqb (bit_and v (1 * 2 ^ b % 256)) 0 ≡ beq (bit v b) set
test_is v b set h hb = rw (← and_flag v b h hb) (xor_not set (eqb (bit_and v (1 * 2 ^ b % 256)) 0))

module _ (s : Self) (q : Bytes s.progmem) where
  -- 01's needs and effect of a skip
  abbrev pub Skips : Bool → Bool → Outcome Unit
  Skips t b = pick (met (skip_needs decode_of s.core t s.progmem b)) (leaves s (skipped s.core t (two_at decode_of s.core s.progmem))) panic

  -- by the instruction skipped, two words or one, and by whether PC is 65,535
  skip_by : (two end : Bool) → two_at decode_of s.core s.progmem ≡ two → eqb s.core.pc 65535 ≡ end
      → skip s ≡ pick (has_word_of s.progmem s.core.pc && ltb (s.core.pc + one two) 65535) (leaves s (skipped s.core true two)) panic
  unfolding skipped with_pc with_busy
  skip_by two true e f =
      let h = eqb-true s.core.pc 65535 f in
      rw (word_ok s q s.core.pc, f, le-ltb (s.core.pc + 1) 65536 (omega arith), le-ltb (s.core.pc + one two) 65535 (omega arith), and-false (has_word_of s.progmem s.core.pc))
  skip_by true false e f =
      let pc = s.core.pc in
      simp (word_ok s q pc, f, unused_word_ok s q, after_pick, op_same s.progmem pc q, pattern_is, e, two_fit)
      (and_under (has_word_of s.progmem pc) (ltb (pc + 1) 65535) (λ x. leaves s (with_busy (with_pc s.core x) 2)) (pc + 2) (up pc 2)
      λ g. let h = ltb-true (pc + 1) 65535 g in omega arith)
  skip_by false false e f =
      let pc = s.core.pc in
      simp (word_ok s q pc, f, unused_word_ok s q, after_pick, op_same s.progmem pc q, pattern_is, e, twice, room, add-zero)
      (and_under (has_word_of s.progmem pc) (ltb pc 65535) (λ x. leaves s (with_busy (with_pc s.core x) 1)) (pc + 1) (up pc 1)
      λ g. let h = ltb-true pc 65535 g in omega arith)

  -- a skip that is taken or not
  when_is : (t : Bool) → when t skip s ≡ Skips t true
  unfolding skipped
  when_is true =
      let two = two_at decode_of s.core s.progmem in
      skip_by two (eqb s.core.pc 65535) refl refl ∙ rw (and-true (ltb (s.core.pc + one two) 65535))
  when_is false = refl

  pub cpse_is : (d r : ℕ) → Sound s.core → d < 32 → r < 32 → cpse d r s ≡ Skips (eqb (reg s.core d) (reg s.core r)) true
  unfolding cpse
  cpse_is d r w hd hr = let e = w.count in rw (get_ok s d, get_ok s r) (when_is (eqb (reg s.core d) (reg s.core r)))

  -- a port below 32, in data or not, and its bit
  sbix_by : (A b : ℕ) (set t : Bool) → ltb A (length s.ds) ≡ t → Bytes s.ds → A < 32 → b < 8 → sbix A b set s ≡ Skips (t && beq (bit (get_or s.ds A 0) b) set) t
  unfolding sbix
  sbix_by A b set true p m hA hb =
      let v = get_or s.ds A 0 in
      simp (io_port s A hA, p, lt-ltb b 8 hb, test_is v b set (m.byte_lt A) hb) (when_is (beq (bit v b) set))
  sbix_by A b set false p m hA hb = simp (io_port s A hA, p)

  pub sbix_is : (A b : ℕ) (set : Bool) → Bytes s.ds → A < 32 → b < 8 → sbix A b set s ≡ Skips (data_bit_is s.ds A b set) (ltb A (length s.ds))
  sbix_is A b set m hA hb = sbix_by A b set (ltb A (length s.ds)) refl m hA hb

  pub sbrx_is : (r b : ℕ) (set : Bool) → Sound s.core → r < 32 → b < 8 → sbrx r b set s ≡ Skips (beq (bit (reg s.core r) b) set) true
  unfolding sbrx
  sbrx_is r b set w hr hb =
      let e = w.count in
      let v = reg s.core r in
      rw (get_ok s r, lt-ltb b 8 hb, test_is v b set (w.reg_lt r) hb) (when_is (beq (bit v b) set))
