-- 02, W9: "Our stamps grew to four bytes. Prove, once over the width n from 1 to 16: CP on the lowest bytes and then CPC on the n-1 following pairs, in program order, PC plus n at most 65,535,
-- starting not busy, no interrupt entered, leaves C as unsigned less, Z as equal and S as signed less of the two n-byte numbers, PC up by n, and T, I, registers, SP and data unchanged. Under
-- demand 3's premises all but the data holds with handlers between."
-- The two numbers lie in registers, wherever one likes: byte i of the first is in register d i, byte i of the second in register r i. The same register may be named twice, by one number or by both.
-- p is a program, k a core before and j one behind, s core and data before, v what is offered by the tick's number, from 0, t such a number, n how many bytes, i a byte's number, from 0, x either
-- of d and r, q a question.
use Rattle.std.specs.Prelude.{◌≡◌, ◌↔◌, Bool, true, false, List, ℕ, zero, suc, ◌+◌, ◌*◌, ◌^◌, ◌-◌, ◌≤◌, ◌<◌, eqb, ltb, ℤ, pos, None}
use Rattle.std.proofs.Math.IntN.{sub_ℕ}
use Rattle.std.specs.Int.Signed.{lt_z}
use Rattle.basis.specs.Pick.{pick}
use Rattle.basis.specs.Bit.{bit, up}
use Rattle.instruction.specs.Decode.{decode_of}
use Rattle.instruction.specs.declared.Instruction.TheVariants.{BRBS, CP, CPC}
use Rattle.alu.specs.Alu.{signed_of}
use Rattle.memory.specs.Memory.{has_word_of}
use Rattle.cores.specs.declared.Core.{Core}
use Rattle.cores.specs.State.{reg, flag, Sound}
use Rattle.cores.specs.Flow.{op_at}
use Rattle.interrupts.specs.Handlers.{First, handler_ticks}
use Rattle.interrupts.specs.Interrupts.{State, Offers, Stretch, kept, pc, sp, after, number_at, enters, returns, Ended, Handled, Assumed, AssumedTo}

-- ---- numbers of n bytes
-- byte i counts 256 ^ i: the lowest byte first
unfoldable pub held : Core → (ℕ → ℕ) → ℕ → ℕ
held k x zero = 0
held k x (suc i) = held k x i + reg k (x i) * 256 ^ i

-- the same as a signed number: 256 ^ n less where the top bit is set, bit 7 of the highest byte
abbrev pub signed : Core → (ℕ → ℕ) → ℕ → ℤ
signed k x n = pick (bit (reg k (x (n - 1))) 7) (sub_ℕ (held k x n) (256 ^ n)) (pos (held k x n))

-- ---- what is asked of two numbers: "C as unsigned less, Z as equal and S as signed less"
pub data Question : Type 0 where
  less : Question
  equal : Question
  signed_less : Question

abbrev pub flag_of : Question → ℕ
flag_of less = 0  -- C
flag_of equal = 1  -- Z
flag_of signed_less = 4  -- S

module _ (n : ℕ) (d r : ℕ → ℕ) where
  abbrev pub answer : Core → Question → Bool
  answer k less = ltb (held k d n) (held k r n)
  answer k equal = eqb (held k d n) (held k r n)
  answer k signed_less = lt_z (signed k d n) (signed k r n)

  -- ---- "CP on the lowest bytes and then CPC on the n-1 following pairs, in program order, PC plus n at most 65,535": from PC `start` on. Nothing below needs that n is at most 16
  pub record Comparison (p : List ℕ) (start : ℕ) : Type 0 where
    pub some : 1 ≤ n
    pub ends : start + n ≤ 65535
    pub there : (i : ℕ) → i < n → has_word_of p (start + i) ≡ true
    pub lowest : op_at decode_of p start ≡ CP (d 0) (r 0)
    pub following : (i : ℕ) → 1 ≤ i → i < n → op_at decode_of p (start + i) ≡ CPC (d i) (r i)

  -- ---- what they make of core k: core j
  pub record Compared (k j : Core) : Type 0 where
    -- "leaves C as unsigned less, Z as equal and S as signed less of the two n-byte numbers"
    pub flags : (q : Question) → flag j (flag_of q) ≡ answer k q
    -- "PC up by n, and T, I, registers, SP .. unchanged"
    pub up_by_n : j.pc ≡ k.pc + n
    pub t_kept : flag j 6 ≡ flag k 6
    pub i_kept : flag j 7 ≡ flag k 7
    pub regs_kept : j.regs ≡ k.regs
    pub sp_kept : j.sp ≡ k.sp

-- ---- "no interrupt entered": none of n ticks enters, nor is refused, as an entry is that has no room for its return address
abbrev pub NoneEnters : List ℕ → State → ℕ → Offers → Type 0
NoneEnters p s n v = (t : ℕ) → t < n → (16 ≤ number_at p s v t) × (enters p s v t ≡ false)

module _ (p : List ℕ) (s : State) (n : ℕ) (d r : ℕ → ℕ) (v : Offers) where
  -- after n ticks
  pub record Ticked : Type 0 where
    pub compared : Compared n d r s.core (after p s v n).core
    -- "data unchanged"
    pub same_bytes : (after p s v n).bytes ≡ s.bytes
    -- each tick answered ran, so the next is at once the next instruction's
    pub ran : (t : ℕ) → t < n → number_at p s v t ≡ 18
    pub ready : (after p s v n).core.busy ≡ 0

  -- with handlers between, on first reaching the end, after `long` ticks: all but the data; and `long` is n and the handlers' ticks
  pub record WithHandlers (long : ℕ) : Type 0 where
    pub first : First (Ended p s n v) long
    pub compared : Compared n d r s.core (after p s v long).core
    pub ticks : long ≡ n + handler_ticks (enters p s v) (returns p s v) long

-- ---- W9, for every program, core and data, width, registers and offers, under either rule
-- "starting not busy, no interrupt entered"
abbrev pub ComparesAnyWidth : Type 0
ComparesAnyWidth =
    (p : List ℕ) (s : State) (n : ℕ) (d r : ℕ → ℕ) (v : Offers)
    → Sound s.core → s.core.busy ≡ 0 → Comparison n d r p (pc s) → NoneEnters p s n v
    → Ticked p s n d r v

-- "Under demand 3's premises all but the data holds with handlers between", in demand 3's two forms
abbrev pub ComparesWithHandlers : Type 0
ComparesWithHandlers =
    (p : List ℕ) (s : State) (n : ℕ) (d r : ℕ → ℕ) (v : Offers)
    → Sound s.core → Comparison n d r p (pc s) → Assumed p s n v
    → (long : ℕ) × WithHandlers p s n d r v long

abbrev pub ComparesWithHandlersAtTheEnd : Type 0
ComparesWithHandlersAtTheEnd =
    (p : List ℕ) (s : State) (n : ℕ) (d r : ℕ → ℕ) (v : Offers) (long : ℕ)
    → Sound s.core → Comparison n d r p (pc s) → AssumedTo p s n v long
    → WithHandlers p s n d r v long

-- demand 3's stretch is there of itself
abbrev pub ComparisonsAreStretches : Type 0
ComparisonsAreStretches = (p : List ℕ) (start n : ℕ) (d r : ℕ → ℕ) → Comparison n d r p start → Stretch p start (start + n)

-- ---- that none enters is seen at the start: exactly where no offer is taken, since nothing is offered, I is clear, a handler is under way, or it is the first tick and inhibit is set
pub data NotTaken (s : State) (v : Offers) (t : ℕ) : Type 0 where
  nothing : v t ≡ None → NotTaken s v t
  disabled : flag s.core 7 ≡ false → NotTaken s v t
  serving : s.core.in_service ≡ true → NotTaken s v t
  inhibited : t ≡ 0 → s.core.inhibit ≡ true → NotTaken s v t

abbrev pub NoneEntersExactly : Type 0
NoneEntersExactly =
    (p : List ℕ) (s : State) (n : ℕ) (d r : ℕ → ℕ) (v : Offers)
    → Sound s.core → s.core.busy ≡ 0 → Comparison n d r p (pc s)
    → NoneEnters p s n v ↔ ((t : ℕ) → t < n → NotTaken s v t)

-- ---- the branch behind: BRBS 0, BRBS 1 or BRBS 4, by what is asked
pub record Branch (p : List ℕ) (at : ℕ) (q : Question) (offset : ℕ) : Type 0 where
  pub below : at < 65535
  pub there : has_word_of p at ≡ true
  pub branch : op_at decode_of p at ≡ BRBS (flag_of q) offset

-- where it goes from there: "relative jumps wrap at 65,536", and the offset is a byte in two's complement
abbrev pub target : ℕ → ℕ → ℕ
target at offset = up (at + 1) (signed_of offset)

-- it is executed at tick t, and taken exactly when the answer is yes; nothing else changes
pub record Branched (p : List ℕ) (s : State) (n : ℕ) (d r : ℕ → ℕ) (v : Offers) (t : ℕ) (q : Question) (offset : ℕ) : Type 0 where
  pub ran : number_at p s v t ≡ 18
  pub goes : pc (after p s v (suc t)) ≡ pick (answer n d r s.core q) (target (pc s + n) offset) (pc s + n + 1)
  pub same_kept : kept (after p s v (suc t)) ≡ kept (after p s v t)
  pub same_sp : sp (after p s v (suc t)) ≡ sp (after p s v t)
  pub same_bytes : (after p s v (suc t)).bytes ≡ (after p s v t).bytes

-- behind a comparison, at a tick that neither enters nor is refused
abbrev pub BranchesAsAsked : Type 0
BranchesAsAsked =
    (p : List ℕ) (s : State) (n : ℕ) (d r : ℕ → ℕ) (v : Offers) (t : ℕ) (q : Question) (offset : ℕ)
    → Compared n d r s.core (after p s v t).core → (after p s v t).core.busy ≡ 0 → Branch p (pc s + n) q offset
    → 16 ≤ number_at p s v t → enters p s v t ≡ false
    → Branched p s n d r v t q offset

-- and at one that enters, where the handler does as demand 3 assumes: four ticks behind its RETI the core comes out of the comparison as before, and the branch is executed at once
abbrev pub BranchesBehindAHandler : Type 0
BranchesBehindAHandler =
    (p : List ℕ) (s : State) (n : ℕ) (d r : ℕ → ℕ) (v : Offers) (t : ℕ) (q : Question) (offset : ℕ)
    → Compared n d r s.core (after p s v t).core → Branch p (pc s + n) q offset
    → enters p s v t ≡ true → (handled : Handled p s v t)
    → let back = handled.at + 4 in Compared n d r s.core (after p s v back).core × Branched p s n d r v back q offset
