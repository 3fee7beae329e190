-- A refused read or write leaves its buffer as it was.
-- Assumes nothing.
use lib.ListN.{length}
use borrow.Author.Tests.{ne_eqb}
use Rattle.intel_hex.specs.Reading.{read_of}
use Rattle.intel_hex.specs.Writing.{write_of}
use Rattle.intel_hex.specs.Promises.{RefusedReadChangesNothing, RefusedWriteChangesNothing}

pub refused_read_lem : RefusedReadChangesNothing
refused_read_lem t b h = rw (ne_eqb (read_of t (length b)).refusal 0 h)

pub refused_write : RefusedWriteChangesNothing
refused_write p o h = rw (ne_eqb (write_of p (length o)).refusal 0 h)
