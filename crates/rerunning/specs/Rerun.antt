-- docs/RERUN.md, "The program": what `rerun` writes for its input. The quotes are that page's.
-- s is the input, n a number, t the text of a HEX file, l the text of a schedule, z the state of a run, b its budget, p a program, r the bytes of a list of records, x what the run gives.
use Rattle.std.specs.Prelude.{◌||◌, Option, Some, None, List, [], ◌∷◌, ◌++◌, ℕ, ◌+◌, ◌*◌, ◌-◌, ◌/◌, ◌%◌, eqb, ltb, get_or, take, drop, length, replicate}
use Rattle.basis.specs.Pick.{pick}
use Rattle.intel_hex.specs.Reading as hex
use Rattle.schedule.specs.Schedule.{ScheduleIn, schedule_from}
use Rattle.schedule.specs.Laws.{entered_of}
use Rattle.schedule_text.specs.Reading.{read_of, bytes_of}
use Rattle.rerunning.specs.declared.job.Job.{Job}

-- ---- "A number is four bytes, high byte first"
abbrev pub number_in : List ℕ → ℕ → ℕ
number_in s at = get_or s at 0 * 16777216 + get_or s (at + 1) 0 * 65536 + get_or s (at + 2) 0 * 256 + get_or s (at + 3) 0

abbrev pub four : ℕ → List ℕ
four n = n / 16777216 % 256 ∷ n / 65536 % 256 ∷ n / 256 % 256 ∷ n % 256 ∷ []

unfoldable pub fours : List ℕ → List ℕ
fours [] = []
fours (n ∷ ns) = four n ++ fours ns

-- ---- the input: at 0 "the bytes of the HEX text, at most 1,048,576", at 4 "the bytes of the schedule's text, at most 1,048,576", at 8 "the bytes of data, at most 65,536", at 12 "the budget", at 16
-- "how many ticks are done", at 20 "how many records are entered, at most 65,536"; bad where "a number is above its limit, or the input is shorter than its numbers say"
abbrev pub job_of : List ℕ → Option Job
job_of s =
    let hex = number_in s 0 in
    let schedule = number_in s 4 in
    let size = number_in s 8 in
    let entered = number_in s 20 in
    pick (ltb 1048576 hex || ltb 1048576 schedule || ltb 65536 size || ltb 65536 entered) None
    (pick (ltb (length s) (62 + 4 * entered + size + hex + schedule)) None
    (Some (record { hex = hex; schedule = schedule; size = size; budget = number_in s 12; done = number_in s 16; entered = entered })))

-- so many bytes of the input from a place on
abbrev pub part : List ℕ → ℕ → ℕ → List ℕ
part s at size = take size (drop at s)

-- ---- the state of a run, from byte 16 of the input on: the ticks done, "the core, a snapshot of 38 bytes", "for each record entered the tick of its entry, a number each", and data
pub record State : Type 0 where
  pub done : ℕ
  pub core : List ℕ
  pub entered : List ℕ
  pub bytes : List ℕ

-- how many records are entered
abbrev pub many_of : State → ℕ
many_of z = length z.entered / 4

abbrev pub state_of : State → List ℕ
state_of z = four z.done ++ four (many_of z) ++ z.core ++ z.entered ++ z.bytes

-- ---- the run: W5's, from that state on, up to the budget; r are all records, and those that are not entered are left of them
abbrev pub after_of : ℕ → State → List ℕ → List ℕ → ScheduleIn
after_of b z p r = schedule_from z.core p z.bytes (drop (many_of z * 5) r) z.done (b - z.done) (replicate 65536 0)

-- the state that it leads to; its entries stand behind those that were there
abbrev pub next_of : State → ScheduleIn → State
next_of z x = record { done = x.run.count; core = x.run.snapshot; entered = z.entered ++ fours (entered_of x.numbers); bytes = x.run.bytes }

-- ---- the output: "0, A, state, list": 0, 01's number, "the state as it stands in the input from byte 16 on, up to the data; and the list"
abbrev pub ran_of : State → List ℕ → ScheduleIn → List ℕ
ran_of z r x = 0 ∷ x.run.answer ∷ (state_of (next_of z x) ++ r)

abbrev pub gone_on : ℕ → State → List ℕ → List ℕ → List ℕ
gone_on b z p r = ran_of z r (after_of b z p r)

-- "The program's image is 49,152 bytes, 0xFF where no line speaks"
abbrev pub image_of : List ℕ → List ℕ
image_of t = hex.program_of t (replicate 49152 0)

-- "2, N, line": "the HEX text is refused with N"; "3, N, line": "the schedule is refused at that line"; lines are numbers
abbrev pub told_of : ℕ → State → List ℕ → List ℕ → List ℕ
told_of b z t l =
    let image = hex.read_of t 49152 in
    let list = read_of l 65536 in
    pick (eqb image.refusal 0)
    (pick (eqb list.fault 0) (gone_on b z (image_of t) (bytes_of list.records)) (3 ∷ list.fault ∷ four list.line))
    (2 ∷ image.refusal ∷ four image.line)

-- "1": bad input; behind the entries stand "data, the HEX text, the schedule's text"
abbrev pub written_of : Option Job → List ℕ → List ℕ
written_of None s = 1 ∷ []
written_of (Some j) s =
    let at = 62 + 4 * j.entered in
    told_of j.budget (record { done = j.done; core = part s 24 38; entered = part s 62 (4 * j.entered); bytes = part s at j.size }) (part s (at + j.size) j.hex) (part s (at + j.size + j.hex) j.schedule)

-- all that the program writes for an input
abbrev pub rerun_of : List ℕ → List ℕ
rerun_of s = written_of (job_of s) s
