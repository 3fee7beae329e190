-- Every word with 0 behind it: what it decodes to, where that is defined, encodes to the word. One test over all words, computed in four quarters.
-- Assumes nothing.
use Prim.Native.Nat.{ℕ, suc, ◌+◌, ◌*◌, ◌/◌, ◌%◌, ◌<◌}
use native.Mathlib.Omega.{arith}
use mathlib.Core.Bool.{Bool, true, false, ◌&&◌, ◌||◌}
use mathlib.Core.List.{[], ◌∷◌}
use mathlib.Core.Logic.{◌⊎◌, inl, inr, ⊎_elim}
use mathlib.Core.Path.{◌≡◌}
use lib.Dec.{T, eqb, eqb→eq}
use Rattle.basis.specs.Pick.{pick}
use Rattle.basis.proofs.Both.{both_left, both_right, both_join}
use Rattle.basis.proofs.Every.{every, at}
use Rattle.instruction.specs.Code.{code, one_of}
use Rattle.instruction.specs.Decode.{decode_of, nop_to_add_of, mulsu_to_fmulsu_of, cpse_to_adc_of, and_to_mov_of, immediate_of, displaced_of, load_of, store_of, one_register_of, control_of, indirect_of, word_immediate_of, port_bit_of, port_of, relative_of, branch_or_bit_of, register_bit_of}
use Rattle.instruction.specs.declared.Instruction.{Instruction}
use Rattle.instruction.specs.declared.Instruction.TheVariants.{CALL, JMP, UNDEF}
use Rattle.instruction.proofs.Tests.{same, same→eq}
use Rattle.encode.specs.Encode.{Encoded, encode_of}
use Rattle.round_trip.specs.RoundTrip.{words_of}

-- ---- two encodings are the same
abbrev alike : Encoded → Encoded → Bool
alike e f = (eqb e.refusal f.refusal && eqb e.words f.words) && (eqb e.first f.first && eqb e.second f.second)

abbrev of : ℕ → ℕ → ℕ → ℕ → Encoded
of n m w s = record { refusal = n; words = m; first = w; second = s }

alike→eq : (e f : Encoded) → T (alike e f) → e ≡ f
alike→eq e f t =
    let a = both_left (eqb e.refusal f.refusal && eqb e.words f.words) _ t in
    let b = both_right (eqb e.refusal f.refusal && eqb e.words f.words) _ t in
    let refusals = eqb→eq e.refusal f.refusal (both_left (eqb e.refusal f.refusal) _ a) in
    let counts = eqb→eq e.words f.words (both_right (eqb e.refusal f.refusal) _ a) in
    let firsts = eqb→eq e.first f.first (both_left (eqb e.first f.first) _ b) in
    let seconds = eqb→eq e.second f.second (both_right (eqb e.first f.first) _ b) in
    let same : of e.refusal e.words e.first e.second ≡ of f.refusal f.words f.first f.second = cc (refusals, counts, firsts, seconds) in
    same

-- ---- the test at a word
-- what the second word is added to in CALL and JMP, below bit 16
abbrev pub low_of : Instruction → ℕ
low_of i = pick (one_of (CALL 0 ∷ JMP 0 ∷ []) i) ((code i).1 % 65536) 0

abbrev goes_back : ℕ → Instruction → Bool
goes_back w i = alike (encode_of i) (words_of i w 0) && eqb (low_of i) 0

unfoldable right : ℕ → Bool
unfolding decode_of nop_to_add_of mulsu_to_fmulsu_of cpse_to_adc_of and_to_mov_of immediate_of displaced_of load_of store_of one_register_of control_of indirect_of word_immediate_of port_bit_of port_of relative_of branch_or_bit_of register_bit_of encode_of
right w = same (decode_of w 0) UNDEF || goes_back w (decode_of w 0)

-- ---- over all words, a quarter a declaration: one may compute so much and no more
unfoldable quarter : ℕ → Bool
quarter q = every 64 (λ h. every 256 (λ l. right (q * 16384 + h * 256 + l)))

quarter_0 : T (quarter 0)
unfolding quarter right
quarter_0 = tt

quarter_1 : T (quarter 1)
unfolding quarter right
quarter_1 = tt

quarter_2 : T (quarter 2)
unfolding quarter right
quarter_2 = tt

quarter_3 : T (quarter 3)
unfolding quarter right
quarter_3 = tt

join : (q : ℕ) → T (quarter q) → T (every q quarter) → T (every (suc q) quarter)
join q = both_join (quarter q) (every q quarter)

quarters : T (every 4 quarter)
quarters = join 3 quarter_3 (join 2 quarter_2 (join 1 quarter_1 (join 0 quarter_0 tt)))

all_right : (w : ℕ) → w < 65536 → T (right w)
unfolding quarter
all_right w h =
    let q = w / 16384 in
    let row = at (λ h. every 256 (λ l. right (q * 16384 + h * 256 + l))) 64 (at quarter 4 quarters q (omega arith)) (w / 256 % 64) (omega arith) in
    let e : q * 16384 + w / 256 % 64 * 256 + w % 256 ≡ w = omega arith in
    rw e at (at (λ l. right (q * 16384 + w / 256 % 64 * 256 + l)) 256 row (w % 256) (omega arith))

or : (a b : Bool) → T (a || b) → T a ⊎ T b
or true b t = inl t
or false b t = inr t

-- a word is undefined, or what it decodes to encodes to it
pub goes_back_lem : (w : ℕ) → w < 65536 → (decode_of w 0 ≡ UNDEF) ⊎ ((encode_of (decode_of w 0) ≡ words_of (decode_of w 0) w 0) × (low_of (decode_of w 0) ≡ 0))
unfolding right
goes_back_lem w h =
    let i = decode_of w 0 in
    ⊎_elim (λ t. inl (same→eq i UNDEF t))
    (λ t. inr (alike→eq (encode_of i) (words_of i w 0) (both_left (alike (encode_of i) (words_of i w 0)) _ t), eqb→eq (low_of i) 0 (both_right (alike (encode_of i) (words_of i w 0)) _ t)))
    (or (same i UNDEF) (goes_back w i) (all_right w h))
