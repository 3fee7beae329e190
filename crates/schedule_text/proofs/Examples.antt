-- The examples, computed.
-- Assumes nothing.
use mathlib.Core.Path.{refl}
use Rattle.hex_line.specs.Line.{lines_of}
use Rattle.schedule_text.specs.Reading.{worth, digits_from, blanks, line_of, read_from}
use Rattle.schedule_text.specs.Examples.{Examples}

pub examples : Examples
unfolding lines_of worth digits_from blanks line_of read_from
examples =
    record {
      numbers = refl;
      no_vector = refl;
      three_numbers = refl;
      nine_digits = refl;
      no_digit = refl;
      tick_zero = refl;
      tick_too_high = refl;
      not_rising = refl;
      vector_too_high = refl;
      no_room = refl;
    }
