-- By the table every word is decoded as by `decode_of`; so ticks and runs by either decoder are the same.
-- Assumes nothing.
use mathlib.Core.Path.{◌≡◌, ap, fun_ext}
use Prim.Native.Nat.{ℕ}
use Rattle.instruction.specs.Decode.{decode_of}
use Rattle.instruction.specs.declared.Instruction.{Instruction}
use Rattle.tick.specs.Tick.{ticked}
use Rattle.run.specs.Run.{ran}
use Rattle.form_table.specs.Rule.{table_of}
use Rattle.table_decode.specs.Decoding.{decoded_by}
use Rattle.table_decode.specs.Alike.{DecodesAlike, TicksAlike, RunsAlike}
use Rattle.forms.proofs.Fit.{fields_fit}
use Rattle.table_decode.proofs.Agrees.{agrees}

pub decodes_alike : DecodesAlike
decodes_alike w s = rw (agrees w s) (fields_fit w s)

one_decoder : decoded_by table_of ≡ decode_of
one_decoder = fun_ext (λ w. fun_ext (decodes_alike w))

pub ticks_alike : TicksAlike
ticks_alike k p m o = ap (λ (decode : ℕ → ℕ → Instruction). ticked decode k p m o) one_decoder

pub runs_alike : RunsAlike
runs_alike budget k p m o = ap (λ (decode : ℕ → ℕ → Instruction). ran decode budget k p m o) one_decoder
