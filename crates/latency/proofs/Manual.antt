-- The manual's column, computed from its pages.
-- Assumes nothing.
use mathlib.Core.Path.{refl}
use Rattle.basis.specs.Bit.{bit}
use Rattle.cores.specs.State.{fresh_of, with_reg, with_pc, with_sp, with_busy, with_inhibit, with_service}
use Rattle.cores.specs.Transfer.{set_data_of}
use Rattle.manual.specs.Notation.{zero8, row, bit_to, next, goes}
use Rattle.manual.specs.AdcToCpse.{adc, add, adiw, and, andi, asr, bclr, bld, brbc, brbs, break, bset, bst, call, cbi, «com», cp, cpc, cpi, skips}
use Rattle.manual.specs.DecToLsr.{dec, eor, fmul, fmuls, fmulsu, icall, ijmp, in_, inc, jmp, ldi, lds, lpm, lsr}
use Rattle.manual.specs.MovToRor.{mov, movw, mul, muls, mulsu, neg, nop, or, ori, out_, pop, push, rcall, ret, reti, rjmp, ror}
use Rattle.manual.specs.Pointers.{load, load_inc, load_dec, store, store_inc, store_dec}
use Rattle.manual.specs.SbcToWdr.{sbc, sbci, sbi, sbiw, sleep, sts, sub, subi, swap, wdr}
use Rattle.latency.specs.Cycles.{ManualBeside}

pub manual_beside : ManualBeside
unfolding bit fresh_of with_reg with_pc with_sp with_busy with_inhibit with_service set_data_of zero8 row bit_to next goes adc add adiw and andi asr bclr bld brbc brbs break bset bst call cbi «com» cp cpc cpi skips dec eor fmul fmuls fmulsu icall ijmp in_ inc jmp ldi lds lpm lsr mov movw mul muls mulsu neg nop or ori out_ pop push rcall ret reti rjmp ror load load_inc load_dec store store_inc store_dec sbc sbci sbi sbiw sleep sts sub subi swap wdr
manual_beside = record { column = refl; over_one = refl; over_two = refl }
