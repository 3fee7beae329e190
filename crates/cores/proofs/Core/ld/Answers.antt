use Rattle.cores.specs.State.{with_busy}
use Rattle.cores.specs.Transfer.{pointed_of}
use Rattle.cores.proofs.Core.ld.Goals as goal

-- what its calls ensure, the last first
pub returns : goal.returns
unfolding with_busy pointed_of
returns c =
    rw (c.set_word_if.ensures, c.put_register.ensures, c.get_data_space-value.ensures, c.set_word_if-k.ensures, c.pointed-address.ensures, c.load_waits.ensures)
