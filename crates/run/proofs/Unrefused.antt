-- What each group of instructions needs, where `ready` found it to be there.
-- Assumes nothing.
use Rattle.std.proofs.Common.{◌≡◌, ℕ, ◌+◌, ◌<◌, Bool, true, false, ◌&&◌, eqb, ltb, leb, List, length, sym, refl, ap, ◌∙◌, arith, lt-ltb}
use Rattle.basis.specs.Pick.{pick}
use Rattle.basis.specs.Bit.{one}
use Rattle.basis.proofs.Bits.{one_le}
use Rattle.basis.proofs.Choice.{clash}
use Rattle.instruction.specs.Decode.{decode_of}
use Rattle.instruction.specs.declared.Instruction.{Instruction}
use Rattle.memory.specs.Memory.{has_of, has_word_of}
use Rattle.cores.specs.Transfer.{reach_of}
use Rattle.execute.specs.Needs.{Needs, refusal, needs, byte, program_byte}
use Rattle.execute.specs.Execute.{done_of}
use Rattle.execute.specs.declared.Done.TheVariants as done
use Rattle.effects.specs.Parts.{stood, cored}
use Rattle.run.specs.Ready.{plain_of, Unrefused}

both : (a b : Bool) → (a && b) ≡ true → (a ≡ true) × (b ≡ true)
both true b h = (refl, h)
both false b h = clash (sym h)

-- a byte that is there is within reach, SREG and SP apart
reached : (at n : ℕ) → plain_of at n ≡ true → reach_of at n ≡ true
unfolding reach_of
reached at n h = let t = (both (leb 0x40 at) (ltb at n) h).1 in anywhere (eqb at 0x3F) (eqb at 0x3E) (eqb at 0x3D) (ltb at n) t
  where
    anywhere : (a b c d : Bool) → d ≡ true → pick a true (pick b true (pick c true d)) ≡ true
    anywhere true b c d e = refl
    anywhere false true c d e = refl
    anywhere false false true d e = refl
    anywhere false false false d e = e

-- i is an instruction that runs; PC is behind its first word
module _ (rs : List ℕ) (pc sp : ℕ) (p m : List ℕ) (i : Instruction) (runs : done_of i ≡ done.Ran) where
  -- what it needs, whatever SREG, the two flags and the rule are
  abbrev pub NeedsOf : Needs → Type 0
  NeedsOf n = (s : ℕ) (inhibit service chip : Bool) → needs decode_of (cored rs (stood pc sp s 0 inhibit service) chip) i p m ≡ n

  unrefused : (n : Needs) → NeedsOf n → refusal n ≡ 0 → Unrefused rs pc sp p m i
  unrefused n h z = (runs, λ s inhibit service chip. ap refusal (h s inhibit service chip) ∙ z)

  pub by_byte : (b : Bool) → NeedsOf (byte b) → b ≡ true → Unrefused rs pc sp p m i
  by_byte b h t = unrefused (byte b) h (rw t)

  pub by_plain : (at : ℕ) → NeedsOf (byte (reach_of at (length m))) → plain_of at (length m) ≡ true → Unrefused rs pc sp p m i
  by_plain at h t = by_byte (reach_of at (length m)) h (reached at (length m) t)

  pub by_program : (b : Bool) → NeedsOf (program_byte b) → b ≡ true → Unrefused rs pc sp p m i
  by_program b h t = unrefused (program_byte b) h (rw t)

  pub by_push : NeedsOf (record { program = true; room = true; stack = leb 2 sp; bytes = has_of m sp }) → (leb 2 sp && has_of m sp) ≡ true → Unrefused rs pc sp p m i
  by_push h t = let (low, there) = both (leb 2 sp) (has_of m sp) t in unrefused _ h (rw (low, there))

  pub by_pop : NeedsOf (record { program = true; room = true; stack = leb sp 65533; bytes = has_of m (sp + 2) }) → (leb sp 65533 && has_of m (sp + 2)) ≡ true → Unrefused rs pc sp p m i
  by_pop h t = let (low, there) = both (leb sp 65533) (has_of m (sp + 2)) t in unrefused _ h (rw (low, there))

  module _ (low : pc < 65534) where
    room : ltb pc 65535 ≡ true
    room = lt-ltb pc 65535 (omega (arith, low))

    pub by_call : NeedsOf (record { program = true; room = ltb pc 65535; stack = leb 2 sp; bytes = has_of m sp }) → (leb 2 sp && has_of m sp) ≡ true → Unrefused rs pc sp p m i
    by_call h t = let (low, there) = both (leb 2 sp) (has_of m sp) t in unrefused _ h (rw (room, low, there))

    pub by_second : (at : ℕ) → NeedsOf (record { program = true; room = ltb pc 65535; stack = true; bytes = reach_of at (length m) }) → plain_of at (length m) ≡ true
        → Unrefused rs pc sp p m i
    by_second at h t = unrefused _ h (rw (room, reached at (length m) t))

    -- a skip, taken or not, over one word or two; b: its own data byte
    pub by_skip : has_word_of p pc ≡ true → (taken two b : Bool)
        → NeedsOf (record { program = pick taken (has_word_of p pc) true; room = pick taken (ltb (pc + one two) 65535) true; stack = true; bytes = b })
        → b ≡ true → Unrefused rs pc sp p m i
    by_skip word true two b h t = let room = lt-ltb (pc + one two) 65535 (omega (arith, low, one_le two)) in unrefused _ h (rw (word, room, t))
    by_skip word false two b h t = unrefused _ h (rw t)
