-- `has_second`: its test is `second_of`, which is so of the words that have a second one.
use Rattle.word_form.proofs.Read.{second_is}
use Rattle.word_form.proofs.has_second.Goals as goal

pub returns : goal.returns
returns c = second_is c.args.opcode
