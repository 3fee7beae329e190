-- Small texts and what is read from them, computed in proofs/Examples.antt.
use Rattle.std.specs.Prelude.{◌≡◌, ◌++◌, ℕ}
use Rattle.basis.specs.Text.{text, line}
use Rattle.schedule.specs.declared.list.Record.{Record}
use Rattle.schedule_text.specs.Reading.{read_of, told, behind}

abbrev firing : ℕ → ℕ → Record
firing tick vector = record { tick = tick; vector = vector }

pub record Examples : Type 0 where
  pub numbers : read_of (line "# the sample timer" ++ line "100 0x10" ++ line "" ++ text "  0x0200\t16# late") 2 ≡ behind (firing 100 16) (behind (firing 512 16) (told 0 0))
  pub no_vector : read_of (line "100 16" ++ line "200") 2 ≡ behind (firing 100 16) (told 1 2)
  pub three_numbers : read_of (line "100 16 1") 2 ≡ told 1 1
  pub nine_digits : read_of (line "000000100 16") 2 ≡ told 1 1
  pub no_digit : read_of (line "0x 16") 2 ≡ told 1 1
  pub tick_zero : read_of (line "0 16") 2 ≡ told 2 1
  pub tick_too_high : read_of (line "16777216 16") 2 ≡ told 2 1
  pub not_rising : read_of (line "100 16" ++ line "100 16") 2 ≡ behind (firing 100 16) (told 3 2)
  pub vector_too_high : read_of (line "100 65536") 2 ≡ told 4 1
  pub no_room : read_of (line "100 16" ++ line "200 16") 1 ≡ behind (firing 100 16) (told 5 2)
