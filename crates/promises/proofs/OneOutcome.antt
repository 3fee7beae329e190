-- One law, `equation`, at each field of a contract.
-- Assumes nothing.
use mathlib.Core.Path.{◌≡◌, refl, sym, ap, ◌∙◌}
use mathlib.Core.Bool.{Bool, false}
use mathlib.Core.List.{List, [], ◌∷◌}
use Prim.Native.Nat.{ℕ}
use Rattle.cores.specs.declared.Core.{Core}
use Rattle.cores.specs.State.{Out, Leaves, with_regs, with_pc, with_sp, with_busy, with_inhibit, with_service, with_chip}
use Rattle.registers.specs.declared.Changed.{Changed}
use Rattle.registers.specs.Registers.{Changes}
use Rattle.effects.specs.declared.Step.{Step}
use Rattle.effects.specs.Parts.{cored}
use Rattle.tick.specs.declared.Answer.{Answer}
use Rattle.tick.specs.declared.Ticked.{Ticked}
use Rattle.run.specs.declared.Ran.{Ran}
use Rattle.run.specs.declared.Ended.{Ended}
use Rattle.page.specs.Page.{Page}
use Rattle.std.specs.Prelude.{Option, Some, None, option_map, Result, Ok, Err, ⊤, ◌==◌}
use Rattle.std.specs.Borrow.{Bor}
use Rattle.std.specs.Iterator.{YieldsFirstRef}
use Rattle.basis.specs.Pick.{pick}
use Rattle.cores.specs.declared.NoRegister.{NoRegister}
use Rattle.cores.specs.State.{RegisterRead, RegisterSet, said_register, said_set}
use Rattle.execute.specs.declared.lack.Lack.{Lack}
use Rattle.execute.specs.declared.lack.Lack.TheVariants as lack
use Rattle.execute.specs.Needs.{said_lack}
use Rattle.snapshot.proofs.Said.{said_read_once, said_write_once}
use Rattle.encode.specs.declared.Words.{Words}
use Rattle.encode.specs.declared.Words.TheVariants as words
use Rattle.encode.specs.declared.Refusal.{Refusal}
use Rattle.encode.specs.declared.Refusal.TheVariants as refusal
use Rattle.encode.specs.Encode.{Encoded, said}
use Rattle.hex_line.specs.declared.faults.LineFault.{LineFault}
use Rattle.hex_line.specs.declared.faults.LineFault.TheVariants as fault
use Rattle.hex_line.specs.declared.lines.Lines.{Lines}
use Rattle.hex_line.specs.Line.{number_said}
use Rattle.hex_line.specs.Left.{text_left, lines_left, GivesLine}
use Rattle.intel_hex.specs.declared.errors.ReadError.{ReadError}
use Rattle.intel_hex.specs.declared.errors.ReadError.TheVariants as unread
use Rattle.intel_hex.specs.declared.errors.WriteError.{WriteError}
use Rattle.intel_hex.specs.declared.errors.WriteError.TheVariants as unwritten
use Rattle.intel_hex.specs.Reading.{Read, read_said}
use Rattle.intel_hex.specs.Writing as writing
use Rattle.schedule_text.specs.declared.Fault.{Fault}
use Rattle.schedule_text.specs.declared.Fault.TheVariants as wrong
use Rattle.schedule_text.specs.declared.Refused.{Refused}
use Rattle.schedule_text.specs.Reading.{Outcome, outcome_said}
use Rattle.promises.specs.OneOutcome.{OneOutcome, One}

equation : {A : Type 0} {d x y : A} → x ≡ d → y ≡ d → x ≡ y
equation e f = e ∙ sym f

-- outcomes whose parts are the same
two : {A B : Type 0} {a a' : A} {b b' : B} → a ≡ a' → b ≡ b' → Path (A × B) (a, b) (a', b')
two e f = cc (e, f)

three : {A B C : Type 0} {a a' : A} {b b' : B} {c c' : C} → a ≡ a' → b ≡ b' → c ≡ c' → Path (A × B × C) (a, b, c) (a', b', c')
three e f g = cc (e, f, g)

four : {A B C D : Type 0} {a a' : A} {b b' : B} {c c' : C} {d d' : D} → a ≡ a' → b ≡ b' → c ≡ c' → d ≡ d' → Path (A × B × C × D) (a, b, c, d) (a', b', c', d')
four e f g h = cc (e, f, g, h)

ticked : {a a' : Answer} {k k' : Core} → a ≡ a' → k ≡ k' → Path Ticked (record { answer = a; core = k }) (record { answer = a'; core = k' })
ticked e f = cc (e, f)

ran : {a a' : Ended} {n n' : ℕ} {k k' : Core} → a ≡ a' → n ≡ n' → k ≡ k' → Path Ran (record { ended = a; ticks = n; core = k }) (record { ended = a'; ticks = n'; core = k' })
ran e f g = cc (e, f, g)

-- what says each result by something that tells it back is said by one result
once : {A B : Type 0} (says : A → B) (told : B → A) → ((x : A) → told (says x) ≡ x) → (d : B) → One (λ (x : A). says x ≡ d)
once says told back d x y e f = sym (back x) ∙ (ap told (equation e f) ∙ back y)

reads_register : (d : RegisterRead) → One (λ (x : Result ℕ NoRegister). said_register x ≡ d)
reads_register = once said_register told back
  where
    told : RegisterRead → Result ℕ NoRegister
    told d = pick (d.refusal == 0) (Ok d.value) (Err (record {}))

    back : (x : Result ℕ NoRegister) → told (said_register x) ≡ x
    back (Ok v) = refl
    back (Err e) = refl

sets_register : (k : Core) (d : RegisterSet) → One (λ (x : Result Core NoRegister). said_set k x ≡ d)
sets_register k = once (said_set k) told back
  where
    told : RegisterSet → Result Core NoRegister
    told d = pick (d.refusal == 0) (Ok d.core) (Err (record {}))

    back : (x : Result Core NoRegister) → told (said_set k x) ≡ x
    back (Ok k') = refl
    back (Err e) = refl

lacks : (d : ℕ) → One (λ (x : Result ⊤ Lack). said_lack x ≡ d)
lacks = once said_lack told back
  where
    told : ℕ → Result ⊤ Lack
    told n = pick (n == 0) (Ok tt) (pick (n == 1) (Err lack.Program) (pick (n == 2) (Err lack.Room) (pick (n == 3) (Err lack.Stack) (Err lack.Data))))

    back : (x : Result ⊤ Lack) → told (said_lack x) ≡ x
    back (Ok t) = refl
    back (Err lack.Program) = refl
    back (Err lack.Room) = refl
    back (Err lack.Stack) = refl
    back (Err lack.Data) = refl

encodes : (d : Encoded) → One (λ (x : Result Words Refusal). said x ≡ d)
encodes = once said told back
  where
    told : Encoded → Result Words Refusal
    told d =
        pick (d.refusal == 0) (Ok (pick (d.words == 1) (words.One d.first) (words.Two d.first d.second)))
        (Err (pick (d.refusal == 33) refusal.Outside refusal.NoEncoding))

    back : (x : Result Words Refusal) → told (said x) ≡ x
    back (Ok (words.One w)) = refl
    back (Ok (words.Two w s)) = refl
    back (Err refusal.Outside) = refl
    back (Err refusal.NoEncoding) = refl

-- a HEX line's fault by its number, 55 being the last
abbrev fault_of : ℕ → LineFault
fault_of n =
    pick (n == 50) fault.Character (pick (n == 51) fault.Length (pick (n == 52) fault.Sum (pick (n == 53) fault.Kind (pick (n == 54) fault.Outside fault.Falls))))

judges_line : (d : ℕ) → One (λ (x : Result ⊤ LineFault). number_said x ≡ d)
judges_line = once number_said told back
  where
    told : ℕ → Result ⊤ LineFault
    told n = pick (n == 0) (Ok tt) (Err (fault_of n))

    back : (x : Result ⊤ LineFault) → told (number_said x) ≡ x
    back (Ok t) = refl
    back (Err fault.Character) = refl
    back (Err fault.Length) = refl
    back (Err fault.Sum) = refl
    back (Err fault.Kind) = refl
    back (Err fault.Outside) = refl
    back (Err fault.Falls) = refl

reads_hex : (d : Read) → One (λ (x : Result ⊤ ReadError). read_said x ≡ d)
reads_hex = once read_said told back
  where
    told : Read → Result ⊤ ReadError
    told d =
        pick (d.refusal == 0) (Ok tt) (Err (pick (d.refusal == 56) (unread.End d.line) (pick (d.refusal == 57) unread.TooLarge (unread.Fault d.line (fault_of d.refusal)))))

    back : (x : Result ⊤ ReadError) → told (read_said x) ≡ x
    back (Ok t) = refl
    back (Err (unread.Fault n fault.Character)) = refl
    back (Err (unread.Fault n fault.Length)) = refl
    back (Err (unread.Fault n fault.Sum)) = refl
    back (Err (unread.Fault n fault.Kind)) = refl
    back (Err (unread.Fault n fault.Outside)) = refl
    back (Err (unread.Fault n fault.Falls)) = refl
    back (Err (unread.End n)) = refl
    back (Err unread.TooLarge) = refl

writes_hex : (d : writing.Written) → One (λ (x : Result ℕ WriteError). writing.write_said x ≡ d)
writes_hex = once writing.write_said told back
  where
    told : writing.Written → Result ℕ WriteError
    told d = pick (d.refusal == 0) (Ok d.length) (Err (pick (d.refusal == 57) unwritten.TooLarge unwritten.NoRoom))

    back : (x : Result ℕ WriteError) → told (writing.write_said x) ≡ x
    back (Ok n) = refl
    back (Err unwritten.TooLarge) = refl
    back (Err unwritten.NoRoom) = refl

reads_schedule : (d : Outcome) → One (λ (x : Result ℕ Refused). outcome_said x ≡ d)
reads_schedule = once outcome_said told back
  where
    wrong_of : ℕ → Fault
    wrong_of n = pick (n == 1) wrong.Form (pick (n == 2) wrong.Tick (pick (n == 3) wrong.Order (pick (n == 4) wrong.Vector wrong.Room)))

    told : Outcome → Result ℕ Refused
    told d = pick (d.fault == 0) (Ok d.records) (Err (record { fault = wrong_of d.fault; line = d.line; records = d.records }))

    named : (f : Fault) (n r : ℕ) → told (outcome_said (Err (record { fault = f; line = n; records = r }))) ≡ Err (record { fault = f; line = n; records = r })
    named wrong.Form n r = refl
    named wrong.Tick n r = refl
    named wrong.Order n r = refl
    named wrong.Vector n r = refl
    named wrong.Room n r = refl

    back : (x : Result ℕ Refused) → told (outcome_said x) ≡ x
    back (Ok n) = refl
    back (Err e) = named e.fault e.line e.records

-- what an iterator hands out is the first of the lines that were left
abbrev first_of : List (List ℕ) → Option (List ℕ)
first_of [] = None
first_of (l ∷ ls) = Some l

handed : (s : Lines) (r : Option (Bor (List ℕ))) (t : Lines) → YieldsFirstRef lines_left s r t → option_map (λ b. b.now) r ≡ first_of (lines_left s)
handed s None t e = sym (ap first_of e.0)
handed s (Some b) t e = sym (ap first_of e)

gives_line : (s : Lines) (r r' : Option (Bor (List ℕ))) (t t' : Lines) → GivesLine s r t → GivesLine s r' t' → (option_map (λ b. b.now) r ≡ option_map (λ b. b.now) r') × (text_left t ≡ text_left t')
gives_line s r r' t t' e f = (equation (handed s r t e.lines) (handed s r' t' f.lines), equation e.text f.text)

-- a core has its parts
step : {pc pc' sp sp' s s' b b' : ℕ} {i i' v v' : Bool} → pc ≡ pc' → sp ≡ sp' → s ≡ s' → b ≡ b' → i ≡ i' → v ≡ v'
    → Path Step (record { pc = pc; sp = sp; sreg = s; busy = b; inhibit = i; in_service = v }) (record { pc = pc'; sp = sp'; sreg = s'; busy = b'; inhibit = i'; in_service = v' })
step e f g h i j = cc (e, f, g, h, i, j)

changed : {s s' b b' : ℕ} {i i' : Bool} → s ≡ s' → b ≡ b' → i ≡ i' → Path Changed (record { sreg = s; busy = b; inhibit = i }) (record { sreg = s'; busy = b'; inhibit = i' })
changed e f g = cc (e, f, g)

leaves_lent : (o : Out) (chip : Bool) → One (λ (x : List ℕ × Step × List ℕ). Leaves o (cored x.0 x.1 chip) x.2)
unfolding with_regs with_pc with_sp with_busy with_inhibit with_service with_chip
leaves_lent o chip x y e f =
    let k = equation e.core f.core in
    three (ap (λ (c : Core). c.regs) k)
    (step (ap (λ (c : Core). c.pc) k) (ap (λ (c : Core). c.sp) k) (ap (λ (c : Core). c.sreg) k) (ap (λ (c : Core). c.busy) k) (ap (λ (c : Core). c.inhibit) k)
    (ap (λ (c : Core). c.in_service) k))
    (equation e.bytes f.bytes)

changes : (f w : ℕ) (rs : List ℕ) (s : ℕ) (inhibit chip : Bool) → One (λ (x : Changed × List ℕ). Changes f w rs s inhibit chip x.0 x.1)
unfolding with_regs with_pc with_sp with_busy with_inhibit with_service with_chip
changes f w rs s inhibit chip x y e g =
    let k = equation (e 0 0 false 0 [] []) (g 0 0 false 0 [] []) in
    two (changed (ap (λ (c : Core). c.sreg) k) (ap (λ (c : Core). c.busy) k) (ap (λ (c : Core). c.inhibit) k)) (ap (λ (c : Core). c.regs) k)

pub one_outcome : OneOutcome
one_outcome =
    record {
      equation = λ d x y e f. equation e f;
      leaves = λ o x y e f. two (equation e.core f.core) (equation e.bytes f.bytes);
      leaves_lent = leaves_lent;
      changes = changes;
      ticks = λ o x y e f. two (ticked (equation e.answer f.answer) (equation e.core f.core)) (equation e.bytes f.bytes);
      ticks_in_place = λ o x y e f. three (equation e.answer f.answer) (equation e.core f.core) (equation e.bytes f.bytes);
      runs =
          λ o x y e f.
          two (ran (equation e.answer f.answer) (equation e.count f.count) (equation e.core f.core)) (equation e.bytes f.bytes);
      reads_register = reads_register;
      sets_register = sets_register;
      lacks = lacks;
      reads = λ d x y e f. said_read_once x y (equation e f);
      encodes = encodes;
      judges_line = judges_line;
      reads_hex = reads_hex;
      writes_hex = writes_hex;
      reads_schedule = reads_schedule;
      yields = λ d x y e f. equation e f;
      holds_text = λ d x y e f. equation e f;
      gives_line = gives_line;
      ticks_in = λ o x y e f. three (equation e.number f.number) (equation e.snapshot f.snapshot) (equation e.bytes f.bytes);
      runs_in = λ o x y e f. four (equation e.answer f.answer) (equation e.count f.count) (equation e.snapshot f.snapshot) (equation e.bytes f.bytes);
      ticks_left = λ o n x y e f. two (equation e.snapshot f.snapshot) (equation e.bytes f.bytes);
      runs_left = λ o a n x y e f. two (equation e.snapshot f.snapshot) (equation e.bytes f.bytes);
      writes = λ w x y e f. two (equation e.refusal f.refusal) (equation e.bytes f.bytes);
      writes_said = λ w x y e f. two (said_write_once x.0 y.0 (equation e.refusal f.refusal)) (equation e.bytes f.bytes);
      tells = λ o x y e f. three (equation e.number f.number) (equation e.snapshot f.snapshot) (equation e.bytes f.bytes);
      tells_ticks =
          λ o x y e f. four (equation e.number f.number) (equation e.snapshot f.snapshot) (equation e.bytes f.bytes) (equation e.ticks f.ticks);
      prints = λ t o x y e f. two (equation e.count f.count) (equation e.bytes f.bytes);
      puts = λ g t x y e f. let same = equation e.is f.is in two (ap (λ (h : Page). h.at) same) (ap (λ (h : Page). h.bytes) same);
      gains = λ g t x y e f. (equation e.same f.same, equation e.puts.is f.puts.is);
      nothing = λ x y e f. refl;
    }
