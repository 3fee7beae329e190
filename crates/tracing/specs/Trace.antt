-- 01, "Program `trace`".
use Rattle.std.specs.Prelude.{◌≡◌, ◌||◌, List, [], ◌∷◌, ◌++◌, ℕ, zero, suc, Option, Some, None, ◌+◌, ◌*◌, ◌%◌, ◌≤◌, ltb, get_or, take, drop, length, replicate}
use Rattle.basis.specs.Pick.{pick}
use Rattle.basis.specs.Bytes.{Bytes}
use Rattle.basis.specs.Text.{text, line}
use Rattle.page.specs.Page.{Prints}
use Rattle.page.specs.Numbers.{hex2, hex4, decimal}
use Rattle.cores.specs.declared.Core.{Core}
use Rattle.cores.specs.State.{fresh_of}
use Rattle.tick.specs.Tick.{refuses, stops, tick_of}
use Rattle.std.specs.Prelude.{None}
use Rattle.tick.specs.declared.Answer.{Answer}
use Rattle.tick.specs.declared.Answer.TheVariants.{Refused, Waited, Entered, Ran, Sleep, Watchdog, Undefined, Break, End}
use Rattle.tracing.specs.declared.job.Job.{Job}

-- ---- input: "three 16-bit numbers, high byte first (program bytes P, SP, budget), then P bytes; the rest is ignored.
-- P above 49,152 or input too short prints `bad input`."
abbrev pub word_in : List ℕ → ℕ → ℕ
word_in s at = get_or s at 0 * 256 + get_or s (at + 1) 0

abbrev pub job_of : List ℕ → Option Job
job_of s =
    let size = word_in s 0 in
    pick (ltb 49152 size) None (pick (ltb (length s) (size + 6)) None (Some (record { size = size; sp = word_in s 2; budget = word_in s 4 })))

-- ---- "PC and SP four hex digits, SREG two" (`hex4`, `hex2`), "decimal number" (`decimal`)
-- "Words: waited ran sleep watchdog undefined break end, or `refused-N`"; no vector is offered, so no line says entered
abbrev pub word_of : Answer → List ℕ
word_of (Refused n) = text "refused-" ++ ((48 + n % 10) ∷ [])
word_of Waited = text "waited"
word_of Entered = text "entered"
word_of Ran = text "ran"
word_of Sleep = text "sleep"
word_of Watchdog = text "watchdog"
word_of Undefined = text "undefined"
word_of Break = text "break"
word_of End = text "end"

abbrev pub space : List ℕ
space = 32 ∷ []

-- "fields one space apart": "PC after, busy, SREG, SP"
abbrev pub core_of : Core → List ℕ
core_of k = hex4 k.pc ++ space ++ ((48 + k.busy % 10) ∷ []) ++ space ++ hex2 k.sreg ++ space ++ hex4 k.sp

-- "decimal number from 1, PC before, word" and the core after; "Every line ends in LF."
abbrev pub line_of : ℕ → ℕ → Answer → Core → List ℕ
line_of number before answer k =
    decimal number ++ space ++ hex4 before ++ space ++ word_of answer ++ space ++ core_of k ++ (10 ∷ [])

-- ---- the program's text
-- "It stops as a run does. One line a tick": the lines of at most so many ticks, the first of this number, from core k, with program p and data m
unfoldable pub lines_of : ℕ → ℕ → Core → List ℕ → List ℕ → List ℕ
lines_of zero number k p m = []
lines_of (suc left) number k p m =
    let t = tick_of k p m None in
    line_of number k.pc t.answer t.core
    ++ pick (refuses t.answer || stops t.answer) [] (lines_of left (number + 1) t.core p t.bytes)

-- "Data is 16,384 zeros; no offer."
unfoldable pub zeros : List ℕ
zeros = replicate 16384 0

-- the trace of a program from the fresh core
abbrev pub ticks_of : ℕ → ℕ → List ℕ → List ℕ
ticks_of sp budget p = lines_of budget 1 (fresh_of sp) p zeros

-- "then P bytes; the rest is ignored."
abbrev pub text_of : Option Job → List ℕ → List ℕ
text_of None s = line "bad input"
text_of (Some j) s = ticks_of j.sp j.budget (take j.size (drop 6 s))

-- all that the program prints for an input
abbrev pub trace_of : List ℕ → List ℕ
trace_of s = text_of (job_of s) s

-- 01's example, proved in proofs/Example.antt
abbrev pub Example : Type 0
Example =
    trace_of (0x00 ∷ 0x06 ∷ 0x3F ∷ 0xFF ∷ 0x00 ∷ 0x0A ∷ 0x05 ∷ 0xE0 ∷ 0x01 ∷ 0x96 ∷ 0x98 ∷ 0x95 ∷ [])
    ≡ line "1 0000 ran 0001 0 00 3FFF" ++ line "2 0001 ran 0002 1 00 3FFF" ++ line "3 0002 waited 0002 0 00 3FFF" ++ line "4 0002 break 0003 0 00 3FFF"

-- the theorem, proved in proofs/Whole.antt: a buffer for 65,535 lines of 36 bytes takes the whole of every trace
abbrev pub WholeTrace : Type 0
WholeTrace = (s d o : List ℕ) (n : ℕ) → Bytes s → 65535 * 36 ≤ length d → Prints (trace_of s) d n o → take n o ≡ trace_of s

-- the theorem, proved in proofs/Cut.antt: the program reads at most 6 and 49,152 bytes, and prints the trace of the whole input
abbrev pub CutTrace : Type 0
CutTrace = (s : List ℕ) → trace_of (take 49158 s) ≡ trace_of s
