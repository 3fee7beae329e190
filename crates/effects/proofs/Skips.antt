-- Branches and skips, in parts: PC and busy of a core that does not wait.
-- Assumes nothing.
use Rattle.std.proofs.Common.{◌≡◌, ℕ, ◌+◌, ◌%◌, ◌<◌, Bool, true, false, ◌||◌, eqb, List, refl, ap, arith}
use mathlib.Core.Bool.{beq}
use Rattle.basis.specs.Pick.{pick}
use Rattle.basis.specs.Bit.{one, bit, up}
use Rattle.alu.specs.Alu.{signed_of}
use Rattle.instruction.specs.Code.{two_words}
use Rattle.instruction.specs.Decode.{decode_of}
use Rattle.forms.proofs.Alone.{form_alone}
use Rattle.memory.specs.Memory.{program_word_of}
use Rattle.cores.specs.State.{with_pc, with_sp, with_busy, with_inhibit, with_service, with_chip}
use Rattle.cores.specs.Flow.{brbx_of, skipped, two_at}
use Rattle.effects.specs.Parts.{stood, cored}

-- the second word changes nothing of how many words an instruction has
two_alone : (w s : ℕ) → two_words (decode_of w s) ≡ two_words (decode_of w 0)
two_alone w s = ap (λ f. eqb f 13 || (eqb f 29 || (eqb f 40 || (eqb f 81 || false)))) (form_alone w s)

module _ (rs : List ℕ) (pc sp s : ℕ) (i v chip : Bool) where
  moved : (t : Bool) (to : ℕ) → cored rs (stood (pick t to pc) sp s (one t) i v) chip
      ≡ pick t (with_busy (with_pc (cored rs (stood pc sp s 0 i v) chip) to) 1) (cored rs (stood pc sp s 0 i v) chip)
  unfolding with_pc with_sp with_busy with_inhibit with_service with_chip
  moved true to = refl
  moved false to = refl

  pub branches : (b offset : ℕ) (on : Bool)
      → let t = beq (bit s b) on in
      cored rs (stood (pick t (up pc (signed_of offset)) pc) sp s (one t) i v) chip ≡ brbx_of (cored rs (stood pc sp s 0 i v) chip) b offset on
  unfolding brbx_of with_pc with_sp with_busy with_inhibit with_service with_chip
  branches b offset on = moved (beq (bit s b) on) (up pc (signed_of offset))

  over : pc < 65536 → (t two : Bool)
      → let n = pick t (1 + one two) 0 in
      cored rs (stood (up pc n) sp s n i v) chip ≡ skipped (cored rs (stood pc sp s 0 i v) chip) t two
  unfolding skipped with_pc with_sp with_busy with_inhibit with_service with_chip
  over h true two = refl
  over h false two = let e : (pc + 0) % 65536 ≡ pc = omega (arith, h) in rw e

  -- by the word at PC
  pub skips : pc < 65536 → (p : List ℕ) (t : Bool)
      → let n = pick t (1 + one (two_words (decode_of (program_word_of p pc) 0))) 0 in
      cored rs (stood (up pc n) sp s n i v) chip ≡ skipped (cored rs (stood pc sp s 0 i v) chip) t (two_at decode_of (cored rs (stood pc sp s 0 i v) chip) p)
  unfolding with_pc with_sp with_busy with_inhibit with_service with_chip
  skips h p t = rw (two_alone (program_word_of p pc) (program_word_of p (pc + 1))) (over h t (two_words (decode_of (program_word_of p pc) 0)))
