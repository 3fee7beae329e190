-- The rows of specs/Bench.antt, computed.
-- Assumes nothing.
use mathlib.Core.Path.{refl}
use Prim.Native.Nat.{ℕ, zero, suc, ◌<◌}
use native.Mathlib.Omega.{arith}
use lib.ListN.{get_or, replicate}
use Rattle.cores.specs.State.{fresh_of, with_reg, with_pc, with_sp, with_busy, with_inhibit, with_service}
use Rattle.patterns.specs.Pattern.{matched}
use Rattle.source_decode.specs.RustDecode.{arms, rust_decode}
use Rattle.source.specs.Registers.{ds_read, ds_write, progmem_read, progmem_read_or_0, get_register, set_register, get_register_word, set_register_word, get_io_register, get_data_space, set_data_space, get_progmem, get_progmem_unused, get_sreg_bit, set_sreg_bit}
use Rattle.source.specs.Arithmetic.{adiw, fmuls, mulsu, neg, sbc}
use Rattle.source.specs.Flow.{call, cp, cpc, rjmp, sbrx}
use Rattle.source.specs.Transfer.{ld, push}
use Rattle.source.specs.Tick.{service_pending, entered_by, handle_interrupts, dispatch, fetch, execute, tick}
use Rattle.source.specs.Bench.{BenchOnTheRust, FreshCoresAreSound}

pub bench_on_the_rust : BenchOnTheRust
unfolding tick execute fetch dispatch handle_interrupts entered_by service_pending rust_decode arms matched ds_read ds_write progmem_read progmem_read_or_0 get_register set_register get_register_word set_register_word get_io_register get_data_space set_data_space get_progmem get_progmem_unused get_sreg_bit set_sreg_bit adiw fmuls mulsu neg sbc call cp cpc rjmp sbrx ld push fresh_of with_reg with_pc with_sp with_busy with_inhibit with_service
bench_on_the_rust = (refl, refl, refl, refl, refl, refl, refl, refl, refl, refl, refl, refl, refl, refl, refl, refl, refl, refl, refl, refl)

zeros_lt : (n i : ℕ) → get_or (replicate n 0) i 0 < 256
zeros_lt zero i = omega arith
zeros_lt (suc n) zero = omega arith
zeros_lt (suc n) (suc i) = zeros_lt n i

pub fresh_cores_are_sound : FreshCoresAreSound
unfolding fresh_of
fresh_cores_are_sound sp h = record { count = refl; reg_lt = zeros_lt 32; sreg_lt = omega arith; pc_lt = omega arith; sp_lt = h; busy_le = omega arith }
