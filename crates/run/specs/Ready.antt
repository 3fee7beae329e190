-- The short form of `decide`, over lent registers: what it says where it lets an instruction be carried out. rs are the bytes of lent registers, w is the instruction's word,
-- f its form, i an instruction, p a program, m the bytes of data, s an SREG, o an offer, b an answer of `ready`.
use Rattle.std.specs.Prelude.{◌≡◌, ℕ, ◌+◌, ◌<◌, Bool, true, false, not, ◌&&◌, List, ◌≢◌, nat_le, nat_lt}
use Rattle.basis.specs.Pick.{pick}
use Rattle.basis.specs.Bit.{bit}
use Rattle.instruction.specs.Decode.{decode_of}
use Rattle.instruction.specs.declared.Instruction.{Instruction}
use Rattle.forms.specs.Forms.{form_of}
use Rattle.forms.specs.Instructions.{instruction_of}
use Rattle.memory.specs.Memory.{has_word_of, program_word_of}
use Rattle.execute.specs.Needs.{refusal, needs}
use Rattle.execute.specs.Execute.{executed, done_of}
use Rattle.execute.specs.declared.Done.TheVariants as done
use Rattle.tick.specs.Tick.{gives, tick_of}
use Rattle.tick.specs.Offer.{Offer}
use Rattle.tick.specs.declared.Answer.TheVariants.{Ran}
use Rattle.effects.specs.Parts.{stood, cored}
use Rattle.run.specs.Lent.{offers}

-- the instruction runs, and no rule refuses it, whatever SREG, the two flags and the rule are; PC is behind its first word
abbrev pub Unrefused : List ℕ → ℕ → ℕ → List ℕ → List ℕ → Instruction → Type 0
Unrefused rs pc sp p m i =
    (done_of i ≡ done.Ran) × ((s : ℕ) (inhibit service chip : Bool) → refusal (needs decode_of (cored rs (stood pc sp s 0 inhibit service) chip) i p m) ≡ 0)

-- ---- the theorem, proved in proofs/Told.antt: what is carried out is the tick's step
-- of a core that does not wait, where no entry is due and the words at PC and behind it are there: the tick executes the instruction at PC, with inhibit clear, and answers `ran`
abbrev pub CarriedOutIsTheTick : Type 0
CarriedOutIsTheTick =
    (rs : List ℕ) (pc sp s : ℕ) (inhibit service chip : Bool) (p m : List ℕ) (o : Offer)
    → let i = decode_of (program_word_of p pc) (program_word_of p (pc + 1)) in
    let e = executed decode_of (cored rs (stood (pc + 1) sp s 0 false service) chip) i p m in
    pick (offers o) (bit s 7 && not service && not inhibit) false ≡ false → pc < 65535 → has_word_of p (pc + 1) ≡ true → Unrefused rs (pc + 1) sp p m i
    → tick_of (cored rs (stood pc sp s 0 inhibit service) chip) p m o ≡ gives Ran e.core e.bytes

-- ---- the code
-- an address from 64 on that is in data of so many bytes
abbrev pub plain_of : ℕ → ℕ → Bool
plain_of at bytes = nat_le 0x40 at && nat_lt at bytes

-- of a word's form, with PC behind the word, low enough for any skip, and the word there in the program: where `ready` says yes
abbrev pub Readies : ℕ → ℕ → List ℕ → ℕ → ℕ → List ℕ → List ℕ → Bool → Type 0
Readies f w rs pc sp p m b = f ≡ form_of w → pc < 65534 → has_word_of p pc ≡ true → b ≡ true → Unrefused rs pc sp p m (instruction_of f w (program_word_of p pc))

-- a form that is told, and is not UNDEF's 86: the next tick carries its instruction out, with inhibit clear
abbrev pub TellsForm : List ℕ → ℕ → ℕ → ℕ → Bool → Bool → List ℕ → List ℕ → Bool → ℕ → Type 0
TellsForm rs pc sp s inhibit service p m offered f =
    (f ≢ 86) → (pc < 65533)
    × ((chip : Bool) (o : Offer) → offers o ≡ offered
    → let e = executed decode_of (cored rs (stood (pc + 1) sp s 0 false service) chip) (instruction_of f (program_word_of p pc) (program_word_of p (pc + 1))) p m in
    tick_of (cored rs (stood pc sp s 0 inhibit service) chip) p m o ≡ gives Ran e.core e.bytes)
