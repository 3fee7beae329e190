-- The port's decode reads what the manual's opcodes say, for every word and every second word: the walk's test passes, computed in four quarters.
-- Assumes nothing.
use Prim.Native.Nat.{ℕ, ◌+◌, ◌*◌}
use mathlib.Core.Path.{◌≡◌, refl, sym, ap}
use native.Mathlib.Nat.{add-zero}
use lib.Dec.{T}
use Rattle.instruction.specs.declared.Instruction.TheVariants.{CALL, JMP}
use Rattle.patterns.proofs.Matched.{TakesSecond, matched_is_decode}
use Rattle.patterns.proofs.Walk.{advance, walk, quarters}
use Rattle.manual_opcodes.specs.Opcodes.{arms, manual_decode, DecodesAsTheManual}

quarter_00 : (s : ℕ) → T (walk s 14 (advance 0 (advance 0 arms)) 0)
unfolding walk arms
quarter_00 s = tt

quarter_01 : (s : ℕ) → T (walk s 14 (advance 1 (advance 0 arms)) 1)
unfolding walk arms
quarter_01 s = tt

quarter_10 : (s : ℕ) → T (walk s 14 (advance 0 (advance 1 arms)) 2)
unfolding walk arms
quarter_10 s = tt

quarter_11 : (s : ℕ) → T (walk s 14 (advance 1 (advance 1 arms)) 3)
unfolding walk arms
quarter_11 s = tt

-- the second word of CALL and JMP is added to their first bits
added : (a s : ℕ) → a + s ≡ a + 0 + s
added a s = ap (λ (x : ℕ). x + s) (sym (add-zero a))

takes_second : (s : ℕ) → TakesSecond s arms
unfolding arms
takes_second s = ((λ y. ap CALL (added (y "k" * 65536) s)), ((λ y. ap JMP (added (y "k" * 65536) s)), ((λ y. refl), ((λ y. refl), tt))))

pub decodes_as_the_manual : DecodesAsTheManual
unfolding manual_decode
decodes_as_the_manual w s hw hs =
    matched_is_decode arms w s hw (takes_second s) (quarters s arms (quarter_00 s) (quarter_01 s) (quarter_10 s) (quarter_11 s))
