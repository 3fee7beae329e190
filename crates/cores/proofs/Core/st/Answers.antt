use Rattle.std.proofs.Common.{◌∙◌}
use Rattle.cores.specs.State.{with_busy}
use Rattle.cores.specs.Transfer.{pointed_of}
use Rattle.cores.proofs.Core.st.Goals as goal

-- what its calls ensure, the last first
pub returns : goal.returns
unfolding with_busy pointed_of
returns c =
    let stored = c.set_data_space-k.ensures in
    record {
      core = rw (c.set_word_if.ensures, stored.core, c.get_register.ensures, c.set_word_if-k.ensures, c.pointed-address.ensures, c.store_waits.ensures);
      bytes = stored.bytes ∙ rw (c.get_register.ensures, c.set_word_if-k.ensures, c.pointed-address.ensures, c.store_waits.ensures);
    }
