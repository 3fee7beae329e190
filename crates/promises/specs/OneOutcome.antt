-- 01: "Prove that two outcomes meeting one contract are the same." Every public function's contract is made of these; docs/CONTRACTS.md says which is whose.
use Rattle.std.specs.Prelude.{◌≡◌, Bool, List, ℕ, Option, Result, ⊤, option_map}
use Rattle.std.specs.Borrow.{Bor}
use Rattle.cores.specs.declared.Core.{Core}
use Rattle.cores.specs.declared.NoRegister.{NoRegister}
use Rattle.cores.specs.State.{Out, Leaves, RegisterRead, RegisterSet, said_register, said_set}
use Rattle.execute.specs.declared.lack.Lack.{Lack}
use Rattle.execute.specs.Needs.{said_lack}
use Rattle.registers.specs.declared.Changed.{Changed}
use Rattle.registers.specs.Registers.{Changes}
use Rattle.effects.specs.declared.Step.{Step}
use Rattle.effects.specs.Parts.{cored}
use Rattle.tick.specs.declared.Answer.{Answer}
use Rattle.tick.specs.declared.Ticked.{Ticked}
use Rattle.tick.specs.Tick.{Tick, Ticks, in_place}
use Rattle.run.specs.declared.Ran.{Ran}
use Rattle.run.specs.Run.{Run, Runs}
use Rattle.run.specs.Over.{TickIn, TicksIn, RunIn, RunsIn}
use Rattle.snapshot.specs.declared.Unreadable.{Unreadable}
use Rattle.snapshot.specs.declared.Unwritable.{Unwritable}
use Rattle.snapshot.specs.Snapshot.{SnapshotRead, Written, Writes, said_read, said_write}
use Rattle.host.specs.Host.{Told, Tells, ToldTicks, TellsTicks}
use Rattle.encode.specs.declared.Words.{Words}
use Rattle.encode.specs.declared.Refusal.{Refusal}
use Rattle.encode.specs.Encode.{Encoded, said}
use Rattle.hex_line.specs.declared.faults.LineFault.{LineFault}
use Rattle.hex_line.specs.declared.lines.Lines.{Lines}
use Rattle.hex_line.specs.Line.{number_said}
use Rattle.hex_line.specs.Left.{text_left, lines_left, GivesLine}
use Rattle.intel_hex.specs.declared.errors.ReadError.{ReadError}
use Rattle.intel_hex.specs.declared.errors.WriteError.{WriteError}
use Rattle.intel_hex.specs.Reading.{Read, read_said}
use Rattle.intel_hex.specs.Writing as writing
use Rattle.schedule_text.specs.declared.Refused.{Refused}
use Rattle.schedule_text.specs.Reading.{Outcome, outcome_said}
use Rattle.page.specs.declared.Page as code
use Rattle.page.specs.Page.{Page, page, Prints, Puts}
use Rattle.page.specs.Gains.{Gains}

-- whatever meets a contract is one outcome
abbrev pub One : {A : Type 0} → (A → Type 0) → Type 0
One {A} Meets = (x y : A) → Meets x → Meets y → x ≡ y

pub record OneOutcome : Type 1 where
  -- a result, or the bytes of a lent buffer afterwards, that equal a definition d
  pub equation : {A : Type 0} (d : A) → One (λ (x : A). x ≡ d)
  -- a result by what it says as a refusal's number, 0 for none, and a value or a line: of a register, of an instruction's needs, of a snapshot, of an instruction's words, of a HEX line, of a
  -- HEX file read and written, of a schedule's text
  pub reads_register : (d : RegisterRead) → One (λ (x : Result ℕ NoRegister). said_register x ≡ d)
  pub sets_register : (k : Core) (d : RegisterSet) → One (λ (x : Result Core NoRegister). said_set k x ≡ d)
  pub lacks : (d : ℕ) → One (λ (x : Result ⊤ Lack). said_lack x ≡ d)
  pub reads : (d : SnapshotRead) → One (λ (x : Result Core Unreadable). said_read x ≡ d)
  pub encodes : (d : Encoded) → One (λ (x : Result Words Refusal). said x ≡ d)
  pub judges_line : (d : ℕ) → One (λ (x : Result ⊤ LineFault). number_said x ≡ d)
  pub reads_hex : (d : Read) → One (λ (x : Result ⊤ ReadError). read_said x ≡ d)
  pub writes_hex : (d : writing.Written) → One (λ (x : Result ℕ WriteError). writing.write_said x ≡ d)
  pub reads_schedule : (d : Outcome) → One (λ (x : Result ℕ Refused). outcome_said x ≡ d)
  -- an iterator over the lines of a text, by those that are left
  pub yields : (d : List (List ℕ)) (x y : Lines) → lines_left x ≡ d → lines_left y ≡ d → lines_left x ≡ lines_left y
  -- the same iterator, by the text that is left
  pub holds_text : (d : List ℕ) (x y : Lines) → text_left x ≡ d → text_left y ≡ d → text_left x ≡ text_left y
  -- a call of its `next`, by what is handed out, as it reads, and the text that is left
  pub gives_line : (s : Lines) (r r' : Option (Bor (List ℕ))) (t t' : Lines) → GivesLine s r t → GivesLine s r' t' → (option_map (λ b. b.now) r ≡ option_map (λ b. b.now) r') × (text_left t ≡ text_left t')
  -- a core, and the bytes of data
  pub leaves : (o : Out) → One (λ (x : Core × List ℕ). Leaves o x.0 x.1)
  -- lent registers, the rest of a core, and the bytes of data
  pub leaves_lent : (o : Out) (chip : Bool) → One (λ (x : List ℕ × Step × List ℕ). Leaves o (cored x.0 x.1 chip) x.2)
  -- what the register-only list changes of a core, and lent registers
  pub changes : (f w : ℕ) (rs : List ℕ) (s : ℕ) (inhibit chip : Bool) → One (λ (x : Changed × List ℕ). Changes f w rs s inhibit chip x.0 x.1)
  -- answer, core and data, handed back or left in place
  pub ticks : (t : Tick) → One (λ (x : Ticked × List ℕ). Ticks t x.0 x.1)
  pub ticks_in_place : (t : Tick) → One (λ (x : Answer × Core × List ℕ). Ticks t (in_place x.0 x.1) x.2)
  pub runs : (r : Run) → One (λ (x : Ran × List ℕ). Runs r x.0 x.1)
  -- a number, or a run's answer and count, and the bytes of each lent buffer; and these bytes alone, beside a result that an equation tells
  pub ticks_in : (t : TickIn) → One (λ (x : ℕ × List ℕ × List ℕ). TicksIn t x.0 x.1 x.2)
  pub runs_in : (r : RunIn) → One (λ (x : ℕ × ℕ × List ℕ × List ℕ). RunsIn r x.0 x.1 x.2 x.3)
  pub ticks_left : (t : TickIn) (n : ℕ) → One (λ (x : List ℕ × List ℕ). TicksIn t n x.0 x.1)
  pub runs_left : (r : RunIn) (a n : ℕ) → One (λ (x : List ℕ × List ℕ). RunsIn r a n x.0 x.1)
  -- a refusal's number, or the refusal, and the bytes of a lent buffer
  pub writes : (w : Written) → One (λ (x : ℕ × List ℕ). Writes w x.0 x.1)
  pub writes_said : (w : Written) → One (λ (x : Result ⊤ Unwritable × List ℕ). Writes w (said_write x.0) x.1)
  pub tells : (t : Told) → One (λ (x : ℕ × List ℕ × List ℕ). Tells t x.0 x.1 x.2)
  pub tells_ticks : (t : ToldTicks) → One (λ (x : ℕ × List ℕ × List ℕ × ℕ). TellsTicks t x.0 x.1 x.2 x.3)
  pub prints : (text before : List ℕ) → One (λ (x : ℕ × List ℕ). Prints text before x.0 x.1)
  -- where a text ends, and the buffer; of a page, also that its buffer is the one that was lent
  pub puts : (g : Page) (text : List ℕ) → One (λ (x : ℕ × List ℕ). Puts g text (page x.1 x.0))
  pub gains : (g : code.Page) (text : List ℕ) (x y : code.Page) → Gains g text x → Gains g text y → (x.out.ghost_name ≡ y.out.ghost_name) × (page x.out.now x.at ≡ page y.out.now y.at)
  -- a function that hands nothing back and is lent nothing to change, whose contract is a fact of its arguments
  pub nothing : One (λ (x : Unit {0}). Unit {0})
