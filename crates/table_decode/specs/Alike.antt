-- 02, W10: "For every word and second word the answer equals the present decoder's. No run can tell which was used."
-- w is a word, s the second word, k a core, p a program, m the bytes of data, o an offer.
use Rattle.std.specs.Prelude.{List, ◌≡◌, ℕ}
use Rattle.instruction.specs.Decode.{decode_of}
use Rattle.cores.specs.declared.Core.{Core}
use Rattle.tick.specs.Tick.{ticked, tick_of}
use Rattle.tick.specs.Offer.{Offer}
use Rattle.run.specs.Run.{ran, run_of}
use Rattle.form_table.specs.Rule.{table_of}
use Rattle.table_decode.specs.Decoding.{decoded_by}

abbrev pub DecodesAlike : Type 0
DecodesAlike = (w s : ℕ) → decoded_by table_of w s ≡ decode_of w s

abbrev pub TicksAlike : Type 0
TicksAlike = (k : Core) (p m : List ℕ) (o : Offer) → ticked (decoded_by table_of) k p m o ≡ tick_of k p m o

abbrev pub RunsAlike : Type 0
RunsAlike = (budget : ℕ) (k : Core) (p m : List ℕ) (o : Offer) → ran (decoded_by table_of) budget k p m o ≡ run_of budget k p m o
