-- The port's decode is the Rust's, for every word and every second word: the walk's test passes, computed in four quarters.
-- Assumes nothing.
use Prim.Native.Nat.{ℕ, ◌+◌, ◌*◌, ◌^◌, ◌<◌}
use mathlib.Core.Path.{◌≡◌, refl, sym, ◌∙◌, ap}
use native.Mathlib.Nat.{add-zero}
use lib.Bits.{bit_or, or_shifted}
use lib.Dec.{T, lit<}
use Rattle.instruction.specs.declared.Instruction.TheVariants.{CALL, JMP}
use Rattle.patterns.proofs.Matched.{TakesSecond, matched_is_decode}
use Rattle.patterns.proofs.Walk.{advance, walk, quarters}
use Rattle.source_decode.specs.RustDecode.{arms, rust_decode, DecodesAsTheRust}

quarter_00 : (s : ℕ) → T (walk s 14 (advance 0 (advance 0 arms)) 0)
unfolding walk arms
quarter_00 s = tt

quarter_01 : (s : ℕ) → T (walk s 14 (advance 1 (advance 0 arms)) 1)
unfolding walk arms
quarter_01 s = tt

quarter_10 : (s : ℕ) → T (walk s 14 (advance 0 (advance 1 arms)) 2)
unfolding walk arms
quarter_10 s = tt

quarter_11 : (s : ℕ) → T (walk s 14 (advance 1 (advance 1 arms)) 3)
unfolding walk arms
quarter_11 s = tt

-- `(k << 16) | prefetch` takes the second word as a sum does
shifted : (a s : ℕ) → s < 65536 → bit_or (a * 2 ^ 16) s ≡ bit_or (a * 2 ^ 16) 0 + s
shifted a s h = or_shifted a 16 s h ∙ ap (λ (k : ℕ). k + s) (sym (or_shifted a 16 0 (lit< tt) ∙ add-zero (a * 2 ^ 16)))

takes_second : (s : ℕ) → s < 65536 → TakesSecond s arms
unfolding arms
takes_second s h = ((λ y. ap CALL (shifted (y "k") s h)), ((λ y. ap JMP (shifted (y "k") s h)), ((λ y. refl), ((λ y. refl), tt))))

pub decodes_as_the_rust : DecodesAsTheRust
unfolding rust_decode
decodes_as_the_rust w s hw hs =
    matched_is_decode arms w s hw (takes_second s hs) (quarters s arms (quarter_00 s) (quarter_01 s) (quarter_10 s) (quarter_11 s))
