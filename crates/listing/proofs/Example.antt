-- The example, computed.
-- Assumes nothing.
use Rattle.std.proofs.Common.{refl}
use Rattle.instruction.specs.Decode.{decode_of, nop_to_add_of, immediate_of, one_register_of, branch_or_bit_of}
use Rattle.memory.specs.Memory.{program_word_of, has_word_of}
use Rattle.listing.specs.Names.{name_text}
use Rattle.listing.specs.Listing.{operands_of, lines_from}
use Rattle.listing.specs.Laws.{Example}

pub example : Example
unfolding decode_of nop_to_add_of immediate_of one_register_of branch_or_bit_of program_word_of has_word_of name_text operands_of lines_from
example = refl
