-- What is known of the records of a text, wherever it is cut: a scheduled run takes them, and reads from their bytes the records that the text says.
-- t is a text, `room` a number of records, k how many of the first are left out.
use Rattle.std.specs.Prelude.{◌≡◌, List, ℕ, ◌≤◌, drop, length}
use Rattle.schedule.specs.Schedule.{records_of, refusal_of}
use Rattle.schedule.specs.declared.list.Record.{Record}
use Rattle.schedule_text.specs.Reading.{read_of, bytes_of}

-- of the records from number k on
pub record Listed (ds : List Record) (room k : ℕ) : Type 0 where
  pub few : length ds ≤ room
  pub same : records_of (bytes_of (drop k ds)) ≡ drop k ds
  pub taken : refusal_of (bytes_of (drop k ds)) room ≡ 0

-- the theorem, proved in proofs/Laws.antt
abbrev pub TextListed : Type 0
TextListed = (t : List ℕ) (room k : ℕ) → Listed (read_of t room).records room k
