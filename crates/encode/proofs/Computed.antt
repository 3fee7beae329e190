-- The examples, computed.
-- Assumes nothing.
use mathlib.Core.Path.{refl}
use Rattle.encode.specs.Encode.{encode_of}
use Rattle.encode.specs.Examples.{Examples}

pub examples : Examples
unfolding encode_of
examples =
    record {
      ldi = refl;
      mov = refl;
      lpm = refl;
      lpm_r0 = refl;
      back_to_itself = refl;
      call = refl;
      far_jmp = refl;
      sts = refl;
      ldi_r5 = refl;
      ldi_r15 = refl;
      adiw_r27 = refl;
      fmul_r24 = refl;
      movw_odd = refl;
      mov_r32 = refl;
      adiw_64 = refl;
      bld_8 = refl;
      in_64 = refl;
      cbi_32 = refl;
      ldd_64 = refl;
      brbs_64 = refl;
      brbs_191 = refl;
      rjmp_2048 = refl;
      jmp_23_bits = refl;
      undefined = refl;
      lsl = refl;
    }
