-- The runs of `Stamps`, computed.
-- Assumes nothing.
use mathlib.Core.Path.{◌≡◌, refl}
use mathlib.Core.Bool.{Bool, true, false, ◌&&◌}
use mathlib.Core.List.{List, [], ◌∷◌}
use Prim.Native.Nat.{ℕ, zero, suc, ◌+◌, ◌≤◌, ◌<◌}
use native.Mathlib.Omega.{arith}
use lib.Dec.{T, eqb, eqb→eq, ltb, ltb→lt}
use lib.ListN.{get_or}
use Rattle.basis.specs.Pick.{pick}
use Rattle.basis.specs.Bit.{bit, put}
use Rattle.basis.proofs.Both.{both_left, both_right}
use Rattle.basis.proofs.Every.{every, at}
use Rattle.instruction.specs.Decode.{decode_of, nop_to_add_of, cpse_to_adc_of, immediate_of, load_of, store_of, one_register_of, control_of, port_of, branch_or_bit_of}
use Rattle.instruction.specs.declared.Instruction.TheVariants.{CPC}
use Rattle.alu.specs.Alu.{minus_of}
use Rattle.memory.specs.Memory.{program_word_of, has_word_of}
use Rattle.cores.specs.State.{fresh_of, with_reg, with_pc, with_sp, with_busy, with_inhibit, with_service, with_chip, cznvsh, cznvs, znvs, Sound}
use Rattle.cores.specs.Flow.{op_at, brbx_of}
use Rattle.cores.specs.Transfer.{reach_of, data_of, set_data_of}
use Rattle.tick.specs.Tick.{stepped, enters_or_steps, ticked}
use Rattle.interrupts.specs.Handlers.{iterated}
use Rattle.interrupts.specs.Interrupts.{State, Offers, no_offers, pc, after, Begins, AssumedTo}
use Rattle.interrupts.proofs.Logic.{grow}
use Rattle.interrupts.proofs.OneHandler.{Walked, PutBack, restored_of, walked_assumed_to}
use Rattle.comparisons.specs.Comparisons.{Question, less, equal, signed_less, Comparison, Branch}
use Rattle.comparisons.specs.Stamps.{program, first, second, start, interrupt_at, one_pm, two_pm, FourBytes, says, Told, StampsTold}
use Rattle.comparisons.proofs.Comparisons.{compares_with_handlers_at_the_end, comparisons_are_stretches}

-- ---- the comparison, and the branch
below_4 : (P : ℕ → Type 0) → P 0 → P 1 → P 2 → P 3 → (x : ℕ) → x < 4 → P x
below_4 P a b c d = grow P 3 (grow P 2 (grow P 1 (grow P 0 (λ u h. absurd (omega arith)) a) b) c) d

comparison : (q : Question) → Comparison 4 first second (program q) 0
unfolding program_word_of has_word_of decode_of nop_to_add_of cpse_to_adc_of
comparison q =
    record {
      some = omega arith;
      ends = omega arith;
      there = below_4 (λ i. has_word_of (program q) (0 + i) ≡ true) refl refl refl refl;
      lowest = refl;
      following = λ i g h. below_4 (λ i. 1 ≤ i → op_at decode_of (program q) (0 + i) ≡ CPC (16 + i) (20 + i)) (λ g. absurd (omega arith)) (λ g. refl) (λ g. refl) (λ g. refl) i h g;
    }

branch : (q : Question) → Branch (program q) 4 q 1
unfolding program_word_of has_word_of decode_of branch_or_bit_of
branch less = record { below = omega arith; there = refl; branch = refl }
branch equal = record { below = omega arith; there = refl; branch = refl }
branch signed_less = record { below = omega arith; there = refl; branch = refl }

-- ---- the core at the start
abbrev all_bytes : List ℕ → Bool
all_bytes [] = true
all_bytes (x ∷ l) = ltb x 256 && all_bytes l

bytes_lt : (l : List ℕ) → T (all_bytes l) → (i : ℕ) → get_or l i 0 < 256
bytes_lt [] t i = omega arith
bytes_lt (x ∷ l) t zero = ltb→lt x 256 (both_left (ltb x 256) (all_bytes l) t)
bytes_lt (x ∷ l) t (suc i) = bytes_lt l (both_right (ltb x 256) (all_bytes l) t) i

start_sound : (chip : Bool) → Sound (start chip one_pm two_pm).core
unfolding fresh_of with_reg with_chip
start_sound chip =
    record { count = refl; reg_lt = bytes_lt (start chip one_pm two_pm).core.regs tt; sreg_lt = omega arith; pc_lt = omega arith; sp_lt = omega arith; busy_le = omega arith }

-- ---- an interrupt at each of the four places: computed with the rule left open, since no instruction here asks for it
abbrev p : List ℕ
p = program less

abbrev s : Bool → State
s chip = start chip one_pm two_pm

-- RETI is the fourteenth tick behind the entry
record Computed (chip : Bool) (place : ℕ) : Type 0 where
  walk : Walked p (s chip) 4 (interrupt_at place) 22 place (place + 14)
  back : PutBack p (s chip) (interrupt_at place) place (place + 14)
  sreg : T (eqb (after p (s chip) (interrupt_at place) (place + 14)).core.sreg (after p (s chip) (interrupt_at place) place).core.sreg)

computed : (chip : Bool) (place : ℕ) → place < 4 → Computed chip place
unfolding iterated ticked enters_or_steps stepped program_word_of has_word_of decode_of nop_to_add_of cpse_to_adc_of immediate_of load_of store_of one_register_of control_of port_of branch_or_bit_of fresh_of with_reg with_pc with_sp with_busy with_inhibit with_service with_chip cznvsh cznvs znvs bit put minus_of reach_of data_of set_data_of
computed chip =
    below_4 (Computed chip)
    (record { walk = record { ended = tt; not_yet = tt; allowed = tt; entry = tt; reti = tt; e_r = omega arith; r_J = omega arith }; back = record { regs = tt; lower = tt; low = tt; high = tt }; sreg = tt })
    (record { walk = record { ended = tt; not_yet = tt; allowed = tt; entry = tt; reti = tt; e_r = omega arith; r_J = omega arith }; back = record { regs = tt; lower = tt; low = tt; high = tt }; sreg = tt })
    (record { walk = record { ended = tt; not_yet = tt; allowed = tt; entry = tt; reti = tt; e_r = omega arith; r_J = omega arith }; back = record { regs = tt; lower = tt; low = tt; high = tt }; sreg = tt })
    (record { walk = record { ended = tt; not_yet = tt; allowed = tt; entry = tt; reti = tt; e_r = omega arith; r_J = omega arith }; back = record { regs = tt; lower = tt; low = tt; high = tt }; sreg = tt })

assumed : (chip : Bool) (place : ℕ) → place < 4 → AssumedTo p (s chip) 4 (interrupt_at place) 22
unfolding fresh_of with_reg with_chip
assumed chip place h =
    let x = computed chip place h in
    let begins : Begins p (s chip) 4 = record { stretch = comparisons_are_stretches p 0 4 first second (comparison less); ready = refl; free = refl } in
    walked_assumed_to p (s chip) 4 x.walk begins (restored_of p (s chip) (interrupt_at place) place (place + 14) x.back x.sreg)

pub four_bytes : FourBytes
unfolding fresh_of with_reg with_chip
four_bytes =
    record {
      comparison = comparison;
      branch = branch;
      assumed = assumed;
      with_handlers = λ chip place h. compares_with_handlers_at_the_end p (s chip) 4 first second (interrupt_at place) 22 (start_sound chip) (comparison less) (assumed chip place h);
    }

-- ---- where the branch goes
abbrev asks : (Question → Bool) → Bool
asks P = P less && (P equal && P signed_less)

asked : (P : Question → Bool) → T (asks P) → (q : Question) → T (P q)
asked P t less = both_left (P less) (P equal && P signed_less) t
asked P t equal = both_left (P equal) (P signed_less) (both_right (P less) (P equal && P signed_less) t)
asked P t signed_less = both_right (P equal) (P signed_less) (both_right (P less) (P equal && P signed_less) t)

module _ (a b : ℕ) (tells : Question → Bool) where
  -- PC after so many ticks, under these offers
  abbrev at_pc : Bool → Question → Offers → ℕ → ℕ
  at_pc chip q v j = pc (after (program q) (start chip a b) v j)

  abbrev goes : Bool → Question → Bool
  goes chip q = eqb (at_pc chip q no_offers 5) (pick (tells q) 6 5)

  abbrev goes_from : Bool → Question → ℕ → Bool
  goes_from chip q place = eqb (at_pc chip q (interrupt_at place) 23) (pick (tells q) 6 5)

  told : ((chip : Bool) → T (asks (goes chip))) → ((chip : Bool) → T (asks (λ q. every 5 (goes_from chip q)))) → Told a b tells
  told plain across =
      record {
        plain = λ chip q. eqb→eq _ _ (asked (goes chip) (plain chip) q);
        across = λ chip q place h. eqb→eq _ _ (at (goes_from chip q) 5 (asked (λ q. every 5 (goes_from chip q)) (across chip) q) place h);
      }

pub stamps_told : StampsTold
unfolding iterated ticked enters_or_steps stepped program_word_of has_word_of decode_of nop_to_add_of cpse_to_adc_of immediate_of load_of store_of one_register_of control_of port_of branch_or_bit_of fresh_of with_reg with_pc with_sp with_busy with_inhibit with_service with_chip cznvsh cznvs znvs bit put minus_of reach_of data_of set_data_of brbx_of
stamps_told =
    record {
      earlier = told one_pm two_pm (says true false true) (λ chip. tt) (λ chip. tt);
      same = told two_pm two_pm (says false true false) (λ chip. tt) (λ chip. tt);
      later = told two_pm one_pm (says false false false) (λ chip. tt) (λ chip. tt);
      top = told 0xFFFFFFFF 0 (says false false true) (λ chip. tt) (λ chip. tt);
      below_top = told 0 0xFFFFFFFF (says true false false) (λ chip. tt) (λ chip. tt);
      overflow = told 0x80000000 1 (says false false true) (λ chip. tt) (λ chip. tt);
    }
