-- The examples, computed.
-- Assumes nothing.
use mathlib.Core.Path.{refl}
use Rattle.hex_line.specs.Line.{lines_of, is_digit, value_of, all_digits, said, sum_of, wrong_character, fault_of}
use Rattle.intel_hex.specs.Reading.{checked, filled}
use Rattle.intel_hex.specs.Writing.{digits_of, text_from}
use Rattle.intel_hex.specs.Examples.{Examples}

pub examples : Examples
unfolding lines_of is_digit value_of all_digits said sum_of wrong_character fault_of checked filled digits_of text_from
examples =
    record {
      bytes = refl;
      read = refl;
      no_text = refl;
      character = refl;
      cr_without_lf = refl;
      two_crs = refl;
      no_line = refl;
      odd = refl;
      end_with_data = refl;
      sum = refl;
      type_04 = refl;
      outside_and_falling = refl;
      falling = refl;
      no_bytes_far_out = refl;
      no_end = refl;
      behind_end = refl;
      large = refl;
      seventeen = refl;
      nothing = refl;
      short = refl;
    }
