-- The HEX text refused, the schedule refused, or the run.
use Rattle.std.proofs.Common.{◌≡◌, ◌*◌, ◌/◌, ◌≤◌, ℕ, List, ◌∷◌, length, take, replicate, arith, refl, sym, ap, subst}
use Rattle.std.proofs.lemmas.List.{length-replicate}
use lib.Seq.{length-take-le}
use Rattle.page.specs.Gains.{Gains}
use Rattle.intel_hex.specs.Reading as hex
use Rattle.intel_hex.proofs.Checked.{error_never}
use Rattle.schedule_text.specs.Reading.{Outcome, read_of, bytes_of, fault_number}
use Rattle.schedule_text.proofs.Turns.{fault_never}
use Rattle.rerunning.specs.Rerun.{four, told_of}
use Rattle.rerunning.specs.Lent.{lent}
use Rattle.rerunning.proofs.Texts.{hex_refused, list_refused, passed, few, list_taken}
use Rattle.rerunning.proofs.told.put_told.Goals as goal
use Rattle.rerunning.proofs.told.put_told.Goals.{In-Ok}

-- the buffers as they are lent
abbrev image : List ℕ
image = replicate 49152 0

abbrev blank : List ℕ
blank = replicate 327680 0

room : length image ≡ 49152
room = length-replicate {A = ℕ} 49152 0

many : length blank / 5 ≡ 65536
many = ap (λ (n : ℕ). n / 5) (length-replicate {A = ℕ} 327680 0)

pub returns-in-Err : goal.returns-in-Err
returns-in-Err c =
    let a = c.args in
    let z = lent a.state in
    let f = hex.answer (hex.number_of c.in-Err.error) (hex.line_of c.in-Err.error) in
    let told = hex_refused a.budget z a.text.now a.schedule.now f (length image) room c.in-Err.ensures.value (error_never c.in-Err.error) in
    let same : 2 ∷ c.into.result ∷ four c.line.result ≡ told_of a.budget z a.text.now a.schedule.now = rw (c.into.ensures, c.line.ensures) told in
    subst (λ (t : List ℕ). Gains a.page.now t c.put_refusal.new.page) same c.put_refusal.ensures

pub returns-in-Err-read : goal.returns-in-Err-read
returns-in-Err-read c =
    let a = c.args in
    let z = lent a.state in
    let x = c.in-Err-read.refused in
    let q : Outcome = record { fault = fault_number x.fault; line = x.line; records = x.records } in
    let told = list_refused a.budget z a.text.now a.schedule.now (hex.answer 0 0) (length image) room c.in_default.ensures.value refl q (length blank / 5) many c.in-Err-read.ensures.value (fault_never x.fault) in
    let same : 3 ∷ c.into-in-Err-read.result ∷ four x.line ≡ told_of a.budget z a.text.now a.schedule.now = rw c.into-in-Err-read.ensures told in
    subst (λ (t : List ℕ). Gains a.page.now t c.put_refusal-in-Err-read.new.page) same c.put_refusal-in-Err-read.ensures

-- the records that are read
some : (c : In-Ok) → c.in-Ok.records ≤ 65536
some c = few c.args.schedule.now (length blank / 5) c.in-Ok.records many (ap (λ r. r.records) c.in-Ok.ensures.value)

within : (c : In-Ok) → 5 * c.in-Ok.records ≤ length c.read-2.new.list
within c = omega (arith, some c, c.read-2.auto.list, length-replicate {A = ℕ} 327680 0)

pub overflow_mul-end : goal.overflow_mul-end
overflow_mul-end c = let h = some c in record { fits = omega (arith, h) }

pub slice_bounds-list-end : goal.slice_bounds-list-end
slice_bounds-list-end c = within (goal.at.slice_bounds-list-end c).In-Ok

pub slice_bounds-put_run-end-2 : goal.slice_bounds-put_run-end-2
slice_bounds-put_run-end-2 c = sym (length-take-le (5 * c.in-Ok.records) c.read-2.new.list (within (goal.at.slice_bounds-put_run-end-2 c).In-Ok))

pub returns : goal.returns
returns c =
    let a = c.args in
    let z = lent a.state in
    let n = c.in-Ok.records in
    let list = c.read-2.new.list in
    let q : Outcome = record { fault = 0; line = 0; records = n } in
    let counted = ap (λ r. r.records) c.in-Ok.ensures.value in
    let listed : take (5 * n) list ≡ bytes_of (read_of a.schedule.now 65536).records = list_taken a.schedule.now (length blank / 5) n many counted list blank c.in-Ok.ensures.list_after in
    let told = passed a.budget z a.text.now a.schedule.now (hex.answer 0 0) (length image) room c.in_default.ensures.value refl q (length blank / 5) many c.in-Ok.ensures.value c.read.new.program (take (5 * n) list) c.in_default.ensures.program_after listed refl in
    subst (λ (t : List ℕ). Gains a.page.now t c.put_run.new.page) told c.put_run.ensures
