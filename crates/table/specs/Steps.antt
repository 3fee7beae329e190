-- 01, 'One tick, in this order': the step that a tick of core k with program p, data m and offer o reaches, and what it lacks there.
use Rattle.std.specs.Prelude.{Bool, true, false, not, ◌&&◌, List, [], ◌∷◌, ℕ, ◌+◌, ◌-◌, eqb, ltb}
use Rattle.std.specs.Bool.{beq}
use Rattle.basis.specs.Pick.{pick}
use Rattle.basis.specs.Bit.{bit, up, down}
use Rattle.instruction.specs.Code.{code, one_of}
use Rattle.instruction.specs.declared.Instruction.{Instruction}
use Rattle.instruction.specs.declared.Instruction.TheVariants.{CALL, CBI, CPSE, ICALL, IN, LDX, LDXinc, LDXdec, LDYinc, LDYdec, LDZinc, LDZdec, LDDY, LDDZ, LDS, LPM, LPMZ, LPMZinc, OUT, POP, PUSH, RCALL, RET, RETI, SBI, SBIC, SBIS, SBRC, SBRS, STX, STXdec, STXinc, STYdec, STYinc, STZdec, STZinc, STDY, STDZ, STS}
use Rattle.memory.specs.Memory.{has_of}
use Rattle.cores.specs.declared.Core.{Core}
use Rattle.cores.specs.State.{reg, word, flag}
use Rattle.cores.specs.Flow.{data_bit_is}
use Rattle.tick.specs.Offer.{Offer}
use Rattle.std.specs.Prelude.{Some, None}

-- ---- the step
-- 1: "Busy above 4"
abbrev pub too_busy : Core → Bool
too_busy k = ltb 4 k.busy

-- 2: "Busy above 0"
abbrev pub waits : Core → Bool
waits k = not (too_busy k) && ltb 0 k.busy

-- 3 to 5 are for a core that is not busy
abbrev pub idle : Core → Bool
idle k = eqb k.busy 0

abbrev pub offered : Offer → Bool
offered (Some v) = true
offered None = false

-- 3: "Inhibit set: .. no interrupt this tick. Otherwise, if I is set, in-service is clear and a vector is offered: entry."
abbrev pub enters : Core → Offer → Bool
enters k o = idle k && not k.inhibit && flag k 7 && not k.in_service && offered o

-- 4: "PC 65,535"
abbrev pub ends : Core → Offer → Bool
ends k o = idle k && not (enters k o) && eqb k.pc 65535

-- 5: "Fetch, decode, add 1 to PC, execute."
abbrev pub steps : Core → Offer → Bool
steps k o = idle k && not (enters k o) && not (eqb k.pc 65535)

-- ---- what the instruction needs there
abbrev is : Instruction → Instruction → Bool
is form op = one_of (form ∷ []) op

-- its fields, in the order of the Rust's cases
abbrev first : Instruction → ℕ
first op = (code op).1

abbrev second : Instruction → ℕ
second op = (code op).2

-- "an LPM byte": the byte at Z
abbrev pub reads_program : Instruction → Bool
reads_program op = one_of (LPM ∷ LPMZ 0 ∷ LPMZinc 0 ∷ []) op

-- it is a skip, and taken; "A skip whose data byte isn't in data counts as not taken"
abbrev pub skips : Core → List ℕ → Instruction → Bool
skips k m op =
    pick (is (CPSE 0 0) op) (eqb (reg k (first op)) (reg k (second op)))
    (pick (is (SBIC 0 0) op) (data_bit_is m (first op) (second op) false)
    (pick (is (SBIS 0 0) op) (data_bit_is m (first op) (second op) true)
    (pick (is (SBRC 0 0) op) (beq (bit (reg k (first op)) (second op)) false)
    (pick (is (SBRS 0 0) op) (beq (bit (reg k (first op)) (second op)) true) false))))

-- "IN, OUT, LDS, STS, PUSH, POP and the pointer loads and stores take 0x3F as SREG, 0x3E and 0x3D as the high and low byte of SP, data or no data"
abbrev pub unless_mapped : ℕ → List ℕ
unless_mapped at = pick (eqb at 0x3F) [] (pick (eqb at 0x3E) [] (pick (eqb at 0x3D) [] (at ∷ [])))

-- the address that one of those names; "A displaced address is pointer plus q, not wrapped"
abbrev named : Core → Instruction → List ℕ
named k op =
    pick (one_of (IN 0 0 ∷ LDS 0 0 ∷ []) op) (unless_mapped (second op))
    (pick (one_of (OUT 0 0 ∷ STS 0 0 ∷ []) op) (unless_mapped (first op))
    (pick (is (PUSH 0) op) (unless_mapped k.sp)
    (pick (is (POP 0) op) (unless_mapped (up k.sp 1))
    (pick (one_of (LDX 0 ∷ LDXinc 0 ∷ STX 0 ∷ STXinc 0 ∷ []) op) (unless_mapped (word k 26))
    (pick (one_of (LDYinc 0 ∷ STYinc 0 ∷ []) op) (unless_mapped (word k 28))
    (pick (one_of (LDZinc 0 ∷ STZinc 0 ∷ []) op) (unless_mapped (word k 30))
    (pick (one_of (LDXdec 0 ∷ STXdec 0 ∷ []) op) (unless_mapped (down (word k 26) 1))
    (pick (one_of (LDYdec 0 ∷ STYdec 0 ∷ []) op) (unless_mapped (down (word k 28) 1))
    (pick (one_of (LDZdec 0 ∷ STZdec 0 ∷ []) op) (unless_mapped (down (word k 30) 1))
    (pick (is (LDDY 0 0) op) (unless_mapped (word k 28 + second op))
    (pick (is (STDY 0 0) op) (unless_mapped (word k 28 + first op))
    (pick (is (LDDZ 0 0) op) (unless_mapped (word k 30 + second op))
    (pick (is (STDZ 0 0) op) (unless_mapped (word k 30 + first op)) [])))))))))))))

-- the data bytes that an instruction needs. "CBI, SBI, SBIC and SBIS name data bytes 0 to 31. Entry, calls, RET and RETI use the data bytes themselves":
-- the word pushed lies at SP and SP-1 (with SP below 2 refusal 3 comes first), the word popped at SP+1 and SP+2
abbrev pub pushed : Core → List ℕ
pushed k = k.sp ∷ (k.sp - 1) ∷ []

abbrev pub data_needed : Core → Instruction → List ℕ
data_needed k op =
    pick (one_of (CALL 0 ∷ RCALL 0 ∷ ICALL ∷ []) op) (pushed k)
    (pick (one_of (RET ∷ RETI ∷ []) op) ((k.sp + 1) ∷ (k.sp + 2) ∷ [])
    (pick (one_of (CBI 0 0 ∷ SBI 0 0 ∷ SBIC 0 0 ∷ SBIS 0 0 ∷ []) op) (first op ∷ []) (named k op)))

-- data m has every byte of a list of addresses
abbrev pub has_all : List ℕ → List ℕ → Bool
has_all m [] = true
has_all m (at ∷ l) = has_of m at && has_all m l
