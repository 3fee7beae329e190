-- docs/RERUN.md, "A schedule" and, of the faults, "The program": a text, the records that it says, and the first line that is wrong. The quotes are that page's.
-- t is a text, l a line or what is left of one, c a character, n the number of a line, d a record, ds are records, x is what reading tells, e the bytes of a list that is lent; `last` is the tick of
-- the record before, 0 in front of the first, and `room` how many records more there is room for.
use Rattle.std.specs.Prelude.{Bool, true, false, ◌&&◌, ◌||◌, List, [], ◌∷◌, ◌++◌, ℕ, zero, suc, ◌+◌, ◌*◌, ◌-◌, ◌/◌, ◌%◌, eqb, ltb, leb, drop, length}
use Rattle.basis.specs.Pick.{pick}
use Rattle.hex_line.specs.Line.{lines_of}
use Rattle.schedule.specs.declared.list.Record.{Record}
use Rattle.std.specs.Prelude.{Result, Ok, Err}
use Rattle.schedule_text.specs.declared.Fault.{Fault}
use Rattle.schedule_text.specs.declared.Fault.TheVariants.{Form, Tick, Order, Vector, Room}
use Rattle.schedule_text.specs.declared.Refused.{Refused}

-- what a line says
pub data Said : Type 0 where
  Nothing : Said
  Wrong : Said
  Firing : ℕ → ℕ → Said

-- a number: what it says, and how many characters it takes; 0 where there is none
pub record Number : Type 0 where
  pub value : ℕ
  pub length : ℕ

-- what reading answers: a fault and the number of its line, both 0 where there is none, and how many records were read before it
pub record Outcome : Type 0 where
  pub fault : ℕ
  pub line : ℕ
  pub records : ℕ

-- ---- "two numbers, decimal or as 0x10, of one to eight digits"
-- what a digit is worth, in either case; 99 of what is none
abbrev among : ℕ → ℕ → ℕ → Bool
among first last c = leb first c && leb c last

unfoldable pub worth : ℕ → ℕ
worth c = pick (among 48 57 c) (c - 48) (pick (among 65 70 c) (c - 55) (pick (among 97 102 c) (c - 87) 99))

-- the digits that stand in front, at most so many: what they say behind a value, and how many they are with those before
unfoldable pub digits_from : ℕ → ℕ → ℕ → ℕ → List ℕ → Number
digits_from zero base value many l = record { value = value; length = many }
digits_from (suc left) base value many [] = record { value = value; length = many }
digits_from (suc left) base value many (c ∷ l) = pick (ltb (worth c) base) (digits_from left base (value * base + worth c) (many + 1) l) (record { value = value; length = many })

-- "0x" or "0X" stands in front
abbrev pub starts_hex : List ℕ → Bool
starts_hex [] = false
starts_hex (c ∷ []) = false
starts_hex (c ∷ sign ∷ l) = eqb c 48 && (eqb sign 120 || eqb sign 88)

-- the number in front of l, and how many characters it takes; 0 where there is none
abbrev pub number_of : List ℕ → Number
number_of l =
    let hex = digits_from 8 16 0 0 (drop 2 l) in
    pick (starts_hex l) (record { value = hex.value; length = pick (ltb 0 hex.length) (hex.length + 2) 0 }) (digits_from 8 10 0 0 l)

-- ---- "A record is a line of two numbers, .. with blanks or tabs between", and in front and behind where there are any
-- how many blanks and tabs stand in front
unfoldable pub blanks : List ℕ → ℕ
blanks [] = 0
blanks (c ∷ l) = pick (eqb c 32 || eqb c 9) (suc (blanks l)) 0

-- "What stands behind `#` is not read": the line ends here, or in a remark
abbrev pub is_over : List ℕ → Bool
is_over [] = true
is_over (c ∷ l) = eqb c 35

-- a tick and a vector, and nothing else
abbrev pub firing_of : List ℕ → Said
firing_of l =
    let tick = number_of l in
    let past = drop tick.length l in
    let second = drop (blanks past) past in
    let vector = number_of second in
    let rest = drop vector.length second in
    pick (ltb 0 tick.length && ltb 0 (blanks past) && ltb 0 vector.length && is_over (drop (blanks rest) rest)) (Firing tick.value vector.value) Wrong

-- "lines may be empty"
unfoldable pub line_of : List ℕ → Said
line_of l = let bare = drop (blanks l) l in pick (is_over bare) Nothing (firing_of bare)

-- ---- the faults of a record: "2 a tick that is 0 or above 16,777,215, 3 a tick not above the one before, 4 a vector above 65,535, 5 more than 65,536 records", which is the room there; 0 is none
abbrev pub fault_of : ℕ → ℕ → ℕ → ℕ → ℕ
fault_of tick vector last room = pick (eqb tick 0 || ltb 16777215 tick) 2 (pick (leb tick last) 3 (pick (ltb 65535 vector) 4 (pick (eqb room 0) 5 0)))

-- ---- the whole text
-- what reading tells: a fault and its line, 0 and 0 where there is none, and the records in front of it
pub record Told : Type 0 where
  pub fault : ℕ
  pub line : ℕ
  pub records : List Record

abbrev pub told : ℕ → ℕ → Told
told fault line = record { fault = fault; line = line; records = [] }

abbrev pub behind : Record → Told → Told
behind d x = record { fault = x.fault; line = x.line; records = d ∷ x.records }

-- "the schedule is refused at that line": the first that is wrong; "1 no `TICK VECTOR`"
unfoldable pub read_from : ℕ → ℕ → ℕ → List (List ℕ) → Told
read_from room n last [] = told 0 0
read_from room n last (l ∷ ls) =
    elim (line_of l) [
      | Nothing ↦ read_from room (n + 1) last ls
      | Wrong ↦ told 1 n
      | Firing tick vector ↦ pick (eqb (fault_of tick vector last room) 0) (behind (record { tick = tick; vector = vector }) (read_from (room - 1) (n + 1) tick ls)) (told (fault_of tick vector last room) n)
    ]

-- lines "end in LF or CR LF", as W1's do, and are counted from 1
abbrev pub read_of : List ℕ → ℕ → Told
read_of t room = read_from room 1 0 (lines_of t)

-- ---- W5's list: "tick number 24 bits, vector 16 bits", high byte first
abbrev pub five_of : Record → List ℕ
five_of d = d.tick / 65536 ∷ d.tick / 256 % 256 ∷ d.tick % 256 ∷ d.vector / 256 ∷ d.vector % 256 ∷ []

unfoldable pub bytes_of : List Record → List ℕ
bytes_of [] = []
bytes_of (d ∷ ds) = five_of d ++ bytes_of ds

-- ---- the call: what it answers, and what it leaves in a list: the records in front of the wrong line; bytes behind them keep what they held
abbrev pub outcome_of : List ℕ → ℕ → Outcome
outcome_of t size = let x = read_of t (size / 5) in record { fault = x.fault; line = x.line; records = length x.records }

abbrev pub list_of : List ℕ → List ℕ → List ℕ
list_of t e = let ds = (read_of t (length e / 5)).records in bytes_of ds ++ drop (5 * length ds) e

-- ---- the code's faults: "1 no `TICK VECTOR`, 2 a tick that is 0 or above 16,777,215, 3 a tick not above the one before, 4 a vector above 65,535, 5 more than 65,536 records"; and what the code answers
abbrev pub fault_number : Fault → ℕ
fault_number Form = 1
fault_number Tick = 2
fault_number Order = 3
fault_number Vector = 4
fault_number Room = 5

abbrev pub fault_said : Result (Unit {0}) Fault → ℕ
fault_said (Ok done) = 0
fault_said (Err fault) = fault_number fault

abbrev pub outcome_said : Result ℕ Refused → Outcome
outcome_said (Ok records) = record { fault = 0; line = 0; records = records }
outcome_said (Err x) = record { fault = fault_number x.fault; line = x.line; records = x.records }
