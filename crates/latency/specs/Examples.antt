-- Eight is the figure: an example that needs all eight ticks; for each premise one where it alone does not hold and eight ticks bring no entry; and instructions of four ticks and of two. Computed.
-- v is what is offered by the tick's number, from 1, k a core, p a program.
use Rattle.std.specs.Prelude.{◌≡◌, Bool, true, false, List, [], ◌∷◌, ◌++◌, ℕ, zero, suc, ◌-◌, eqb, replicate, Some, None}
use Rattle.basis.specs.Pick.{pick}
use Rattle.cores.specs.declared.Core.{Core}
use Rattle.cores.specs.State.{fresh_of, with_sreg, with_sp, with_busy, with_inhibit, with_service, with_chip}
use Rattle.tick.specs.Offer.{Offer}
use Rattle.run.specs.Run.{run_of}
use Rattle.schedule.specs.Laws.{number_at}
use Rattle.latency.specs.Entry.{answer_at, busy_at_most3, not_in_service, vector_offered, i_set, none_ends, has_no_reti, has_no_sei, Waiting}

-- ---- programs, low byte of each word first
abbrev pub nop : List ℕ
nop = 0x00 ∷ 0x00 ∷ []

abbrev pub ret : List ℕ
ret = 0x08 ∷ 0x95 ∷ []

abbrev pub reti : List ℕ
reti = 0x18 ∷ 0x95 ∷ []

abbrev pub sei : List ℕ
sei = 0x78 ∷ 0x94 ∷ []

abbrev pub cli : List ℕ
cli = 0xF8 ∷ 0x94 ∷ []

abbrev pub break : List ℕ
break = 0x98 ∷ 0x95 ∷ []

-- ADIW R24,0
abbrev pub adiw : List ℕ
adiw = 0x00 ∷ 0x96 ∷ []

-- ---- a core with I set, at PC 0, with SP 7, and as many ticks to wait; and 16 bytes of data, zero, so that a return leads to PC 0
abbrev pub start : ℕ → Bool → Core
start busy inhibit = with_inhibit (with_busy (with_sreg (fresh_of 7) 0x80) busy) inhibit

abbrev pub bytes : List ℕ
bytes = replicate 16 0

-- one record: vector 0, due at tick 1
abbrev pub list : List ℕ
list = 0 ∷ 0 ∷ 1 ∷ 0 ∷ 0 ∷ []

-- vector 0 at every tick; and at every tick but the eighth
abbrev pub always : ℕ → Offer
always tick = Some 0

abbrev pub not_at_eight : ℕ → Offer
not_at_eight tick = pick (eqb tick 8) None (Some 0)

-- ---- an example: whether each premise holds, in 02's order, and the answers of the first nine ticks; 17 is entered
abbrev pub premises : (ℕ → Offer) → Core → List ℕ → List Bool
premises v k p =
    busy_at_most3 v k p bytes ∷ not_in_service v k p bytes ∷ vector_offered v k p bytes ∷ i_set v k p bytes ∷ none_ends v k p bytes ∷ has_no_reti v k p bytes ∷ has_no_sei v k p bytes ∷ []

abbrev pub answers : (ℕ → Offer) → Core → List ℕ → ℕ → ℕ → List ℕ
answers v k p j zero = []
answers v k p j (suc many) = answer_at v k p bytes j ∷ answers v k p (suc j) many

pub record Shows (v : ℕ → Offer) (k : Core) (p : List ℕ) (hold : List Bool) (nine : List ℕ) : Type 0 where
  pub premises_so : premises v k p ≡ hold
  pub answers_so : answers v k p 0 9 ≡ nine

-- of seven, all hold; all but one
abbrev pub all : List Bool
all = replicate 7 true

abbrev pub all_but : ℕ → List Bool
all_but i = replicate i true ++ (false ∷ replicate (6 - i) true)

pub record EightIsTheFigure : Type 0 where
  -- three waits, RET behind inhibit, its three waits: entered at the eighth tick, and not before
  pub needs_eight : Shows always (start 3 true) ret all (16 ∷ 16 ∷ 16 ∷ 18 ∷ 16 ∷ 16 ∷ 16 ∷ 17 ∷ 16 ∷ [])
  -- busy 4; in service; no vector at the eighth tick; I cleared, by CLI; the entry refused, SP being 1; RETI; BSET 7 under chip, and under source, where it costs nothing
  pub busy_4 : Shows always (start 4 true) ret (all_but 0) (16 ∷ 16 ∷ 16 ∷ 16 ∷ 18 ∷ 16 ∷ 16 ∷ 16 ∷ 17 ∷ [])
  pub in_service : Shows always (with_service (start 3 true) true) ret (all_but 1) (16 ∷ 16 ∷ 16 ∷ 18 ∷ 16 ∷ 16 ∷ 16 ∷ 18 ∷ 16 ∷ [])
  pub not_offered : Shows not_at_eight (start 3 true) ret (all_but 2) (16 ∷ 16 ∷ 16 ∷ 18 ∷ 16 ∷ 16 ∷ 16 ∷ 18 ∷ 16 ∷ [])
  pub i_cleared : Shows always (start 3 true) (cli ++ ret) (all_but 3) (16 ∷ 16 ∷ 16 ∷ 18 ∷ 18 ∷ 16 ∷ 16 ∷ 16 ∷ 18 ∷ [])
  pub refused : Shows always (with_sp (start 3 true) 1) (nop ++ nop) (all_but 4) (16 ∷ 16 ∷ 16 ∷ 18 ∷ 3 ∷ 3 ∷ 3 ∷ 3 ∷ 3 ∷ [])
  pub reti_runs : Shows always (start 3 true) reti (all_but 5) (16 ∷ 16 ∷ 16 ∷ 18 ∷ 16 ∷ 16 ∷ 16 ∷ 18 ∷ 16 ∷ [])
  pub sei_under_chip : Shows always (with_chip (start 3 true) true) (sei ++ ret) (all_but 6) (16 ∷ 16 ∷ 16 ∷ 18 ∷ 18 ∷ 16 ∷ 16 ∷ 16 ∷ 17 ∷ [])
  pub sei_under_source : Shows always (start 3 true) (sei ++ ret) all (16 ∷ 16 ∷ 16 ∷ 18 ∷ 17 ∷ 16 ∷ 16 ∷ 16 ∷ 16 ∷ [])
  -- the first as a run of eight ticks, and by the list: its record waits, and is entered seven ticks later than due; and a run that stops before its entry
  pub run_answers : (run_of 8 (start 3 true) ret bytes (Some 0)).answer ≡ 24
  pub run_counts : (run_of 8 (start 3 true) ret bytes (Some 0)).count ≡ 8
  pub run_in_service : (run_of 8 (start 3 true) ret bytes (Some 0)).core.in_service ≡ true
  pub waiting : Waiting 20 (start 3 true) ret bytes list 0 0
  pub seven_late : number_at 20 (start 3 true) ret bytes list 0 ≡ 8
  pub stops_first : (run_of 8 (start 0 true) break bytes (Some 0)).count ≡ 1
  -- four ticks, and two of a register-only instruction: each up to the tick that waits no more
  pub four_ticks : answers (λ tick. None) (start 0 false) ret 0 5 ≡ 18 ∷ 16 ∷ 16 ∷ 16 ∷ 18 ∷ []
  pub two_ticks : answers (λ tick. None) (start 0 false) (adiw ++ nop) 0 3 ≡ 18 ∷ 16 ∷ 18 ∷ []
